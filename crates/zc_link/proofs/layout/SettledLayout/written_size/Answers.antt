-- What is written lies between the address of its number and the next one, which is that of the place behind it.
use Rattle.std.proofs.Common.{◌≡◌, ◌∙◌, ◌+◌, ◌-◌, List, None, Option, Some, slice_index, sym, ap}
use Rattle.std.specs.Option.{option_map_or}
use Rattle.zc_base.specs.declared.place.Place.{Place}
use Rattle.psabi_sym.specs.Faults.{gather_fault}
use Rattle.psabi_sym.specs.Inputs.{Inputs, parsed}
use Rattle.block_cut.specs.Items.{after_items}
use Rattle.shrink_layout.specs.Pieces.{piece_number_at, unit_at}
use Rattle.shrink_layout.specs.Settled.{settled_address, settled_addresses, settled_size}
use Rattle.shrink_layout.specs.Units.{CodeUnit, unit_items}
use Rattle.shrink_layout.proofs.GroupAddresses.{behind_address, unit_address}
use Rattle.shrink_layout.proofs.PlaceAddressLaws.{size_there}
use Rattle.zc_link.specs.Pace.{bytes_between}
use Rattle.zc_link.specs.TextLayout.{behind, size_in, zc_layout}
use Rattle.zc_link.proofs.Standing.{gathered}
use Rattle.zc_link.proofs.layout.SettledLayout.written_size.Goals as goal

size_is :
    (inputs : Inputs) → gather_fault inputs ≡ None → (slots : List (Option Place)) (q : Place) (u : CodeUnit) → unit_at (parsed inputs) slots q ≡ Some u
    → settled_size (parsed inputs) slots q ≡ Some (size_in (zc_layout inputs slots) q)
size_is inputs none slots q u is =
    let p = parsed inputs in
    let A = settled_address p slots in
    let n = piece_number_at p.objects q in
    let at = slice_index (settled_addresses p slots) in
    let next : A (behind (zc_layout inputs slots) q) ≡ Some (at (n + 1)) =
    ap (λ o. A (after_items p.objects (option_map_or unit_items o 1) q)) is ∙ behind_address inputs none slots q u is in
    let size : size_in (zc_layout inputs slots) q ≡ at (n + 1) - at n = λ j. bytes_between (unit_address inputs none slots q u is j) (next j) in
    size_there p slots q u is ∙ ap Some (sym size)

pub returns : goal.returns
returns c = λ q unit is has.
    let inputs = c.args.self.now.inputs in
    let slots = c.args.self.now.slots in
    c.size_at.ensures q (size_in (zc_layout inputs slots) q) (size_is inputs (gathered inputs c.recall_laid_out.ensures.ready.faultless) slots q unit is) has
