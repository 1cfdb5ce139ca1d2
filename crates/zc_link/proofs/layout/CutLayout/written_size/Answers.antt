-- Each item of a cut is written by itself, up to the next place: so what is written there lies between the two addresses.
use Rattle.std.proofs.Common.{◌≡◌, ℕ, ◌+◌, None, Option, Some, ap, arith}
use Rattle.std.proofs.lemmas.Bool.{or_left}
use Rattle.std.specs.Option.{option_map}
use Rattle.zc_base.specs.declared.place.Place.{Place}
use Rattle.psabi_sym.specs.Faults.{gather_fault}
use Rattle.psabi_sym.specs.Inputs.{Inputs, ParsedInputs, parsed}
use Rattle.block_cut.specs.Items.{is_end_at, is_start_at, item_at}
use Rattle.block_cut.specs.Places.{IsPlaceNumber}
use Rattle.block_cut.specs.declared.item.Item.{Item}
use Rattle.block_cut.specs.declared.place_number.PlaceNumber.{PlaceNumber}
use Rattle.shrink_layout.specs.Units.{CodeUnit, OneItem}
use Rattle.shrink_layout.proofs.UnitLaws.{start_item}
use Rattle.zc_link.specs.LaidOut.{IsLaidOut}
use Rattle.zc_link.specs.Standing.{IsReady, StartsHere}
use Rattle.zc_link.specs.TextLayout.{TextLayout, plain_layout, size_in}
use Rattle.zc_link.proofs.ItemStarts.{alone_few, alone_has, alone_next}
use Rattle.zc_link.proofs.LaidLaws.{unit_address}
use Rattle.zc_link.proofs.PlaceNumbers.{starts_by}
use Rattle.zc_link.proofs.Standing.{gathered}
use Rattle.zc_link.proofs.Walk.{GivesAddress}
use Rattle.zc_link.proofs.layout.CutLayout.written_size.Goals as goal

module _ (inputs : Inputs) (ready : IsReady inputs) (laid : IsLaidOut (plain_layout inputs)) (number : PlaceNumber) (q : Place) (item : Item)
    (is : item_at (parsed inputs) q ≡ Some item) (has : IsPlaceNumber (parsed inputs).objects q number) where
  abbrev L : TextLayout
  L = plain_layout inputs

  abbrev none : gather_fault inputs ≡ None
  none = gathered inputs ready.faultless

  abbrev starts : StartsHere L number has.section.bytes q item
  starts = starts_by L none q number item is has

  at : (a : ℕ) × (L.address q ≡ Some a)
  at = unit_address L laid q (OneItem item) (ap (option_map OneItem) is)

  -- the address of the next place is after what is written
  next_is : (next own : ℕ) → GivesAddress L number.section (number.index + 1) next → GivesAddress L number.section number.index own → next ≡ own + size_in L q
  next_is next own found here =
      omega (
        arith,
        here q at.0 at.1 has,
        alone_next L none ready laid number has.section.bytes q item starts (ap (option_map OneItem) is) at.0 at.1 next found,
      )

-- what is written is the item there
item_of : (p : ParsedInputs) (q : Place) (unit : CodeUnit) → option_map OneItem (item_at p q) ≡ Some unit → (i : Item) × (item_at p q ≡ Some i)
item_of p q unit is = by (item_at p q) is
  where
    by : (o : Option Item) → option_map OneItem o ≡ Some unit → (i : Item) × (o ≡ Some i)
    by None h = absurd cc
    by (Some i) h = (i, λ j. Some i)

pub overflow_add-next : goal.overflow_add-next
overflow_add-next c =
    let inputs = c.args.self.now in
    let ready = c.recall_laid_out.ensures.ready in
    let q = c.requires.0 in
    let item = start_item (parsed inputs) q c.requires.1 in
    omega (
      arith,
      alone_few (plain_layout inputs) (gathered inputs ready.faultless) ready c.recall_laid_out.ensures.laid c.args.number c.requires.2.section.bytes q item.0
          (starts inputs ready c.recall_laid_out.ensures.laid c.args.number q item.0 item.1 c.requires.2),
    )

pub address_at-requires : goal.address_at-requires
address_at-requires c =
    let inputs = c.args.self.now in
    let ready = c.recall_laid_out.ensures.ready in
    let q = c.requires.0 in
    let item = start_item (parsed inputs) q c.requires.1 in
    alone_has (plain_layout inputs) (gathered inputs ready.faultless) ready c.recall_laid_out.ensures.laid c.args.number c.requires.2.section.bytes q item.0
    (starts inputs ready c.recall_laid_out.ensures.laid c.args.number q item.0 item.1 c.requires.2)

pub address_at-requires-2 : goal.address_at-requires-2
address_at-requires-2 c =
    let objects = (parsed c.args.self.now).objects in
    let q = c.requires.0 in
    (q, or_left (is_start_at objects q) (is_end_at objects q) c.requires.1, c.requires.2)

pub overflow_sub-result : goal.overflow_sub-result
overflow_sub-result c =
    let inputs = c.args.self.now in
    let q = c.requires.0 in
    let item = start_item (parsed inputs) q c.requires.1 in
    omega (
      arith,
      next_is inputs c.recall_laid_out.ensures.ready c.recall_laid_out.ensures.laid c.args.number q item.0 item.1 c.requires.2 c.address_at.result c.address_at-2.result
          c.address_at.ensures c.address_at-2.ensures,
    )

pub returns : goal.returns
returns c = λ q unit is has.
    let inputs = c.args.self.now in
    let item = item_of (parsed inputs) q unit is in
    omega (
      arith,
      next_is inputs c.recall_laid_out.ensures.ready c.recall_laid_out.ensures.laid c.args.number q item.0 item.1 has c.address_at.result c.address_at-2.result
          c.address_at.ensures c.address_at-2.ensures,
    )
