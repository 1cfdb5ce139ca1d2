-- Whether a jump or call has a slot is told by its piece and its bytes without the table (`slot_by_width`).
use Rattle.std.proofs.Common.{◌≡◌, ◌∙◌, ◌⊎◌, inl, inr, ℕ, List, [], Option, Some, None, false, cond, length, slice_index, eqb, sym, ap, arith, refl}
use Rattle.std.specs.Option.{option_and_then}
use Rattle.std.proofs.lemmas.Bool.{eq-eqb, ne_eqb}
use Rattle.zc_base.specs.declared.place.Place.{Place}
use Rattle.psabi_sym.specs.Faults.{gather_fault}
use Rattle.psabi_sym.specs.Fixed.{is_fixed_at}
use Rattle.psabi_sym.specs.Inputs.{Inputs, parsed}
use Rattle.block_cut.specs.Items.{item_at}
use Rattle.block_cut.specs.declared.item.Item.{Item}
use Rattle.block_cut.specs.declared.item.Item.TheVariants as item
use Rattle.shrink_layout.specs.Invariants.Slots.{first_piece, source_slots}
use Rattle.shrink_layout.specs.Pieces.{piece_number_at, slot_at}
use Rattle.shrink_layout.specs.Settled.{settled_widths}
use Rattle.shrink_layout.specs.Units.{jump_of, slot_for}
use Rattle.shrink_layout.specs.declared.piece.Piece.TheVariants.{Jump}
use Rattle.shrink_layout.proofs.KeptLaws.{widths_long}
use Rattle.shrink_layout.proofs.NumberLaws.{number_below, number_most}
use Rattle.shrink_layout.proofs.SlotLaws.{no_jump_slot, short_there, slot_by_width, slot_elsewhere}
use Rattle.shrink_layout.proofs.sites.slot_of.Goals as goal

-- what takes other than four bytes has no slot
unsized : (inputs : Inputs) (none : gather_fault inputs ≡ None) (slots : List (Option Place)) (q : Place) → is_fixed_at (parsed inputs) q.object q.section ≡ false → (i : Item) → item_at (parsed inputs) q ≡ Some i
    → (n : ℕ) → first_piece (parsed inputs) q ≡ Jump n → (size : ℕ) → size ≡ slice_index (settled_widths (parsed inputs) []) (piece_number_at (parsed inputs).objects q)
    → eqb size 4 ≡ false → slot_at (parsed inputs) slots q ≡ None
unsized inputs none slots q free i is n piece size read other = by (jump_of i) refl
  where
    by : (o : Option (ℕ × Place)) → jump_of i ≡ o → slot_at (parsed inputs) slots q ≡ None
    by None other = no_jump_slot (parsed inputs) slots q (ap (option_and_then jump_of) is ∙ other)
    by (Some jump) leads = slot_by_width inputs none q free i is jump leads n piece slots size read ∙ ap (λ b. option_and_then (slot_for slots) (cond b (Some jump) None)) other

pub returns-in_default : goal.returns-in_default
returns-in_default c =
    sym (slot_elsewhere c.args.of.now.planned.now c.requires.source.faultless c.args.place.now.at c.requires.free (source_slots c.args.of.now)
    (λ n same. c.in_default.not-Jump n (c.requires.piece ∙ same)))

pub size-requires : goal.size-requires
size-requires c =
    let inputs = c.args.of.now.planned.now in
    let there = sym c.requires.place.is ∙ c.in-Some.is in
    omega (
      arith,
      c.requires.number,
      number_below inputs c.requires.source.faultless [] c.args.place.now.at c.in-Some.item there,
      ap length c.requires.source.slots.first,
      widths_long (parsed inputs) [],
    )

pub returns-then-size-ne4 : goal.returns-then-size-ne4
returns-then-size-ne4 c =
    let inputs = c.args.of.now.planned.now in
    let there = sym c.requires.place.is ∙ c.in-Some.is in
    sym (unsized inputs c.requires.source.faultless (source_slots c.args.of.now) c.args.place.now.at c.requires.free c.in-Some.item there c.in-Jump.to (sym c.requires.piece ∙ c.in-Jump.is) c.size.result
    (c.size.ensures ∙ (λ j. slice_index (c.requires.source.slots.first j) (c.requires.number j))) (ne_eqb c.size.result 4 c.if-size-ne4.true))

-- a jump or a call leads to a place
leads_to : (i : Item) (rd : ℕ) → ((to : Place) × (i ≡ item.Jump rd to)) ⊎ ((temp : ℕ) × (to : Place) × (i ≡ item.Call rd temp to)) → (to : Place) × (jump_of i ≡ Some (rd, to))
leads_to i rd (inl is) = (is.0, ap jump_of is.1)
leads_to i rd (inr is) = (is.1, ap jump_of is.2)

pub slot_to-requires-clause-target : goal.slot_to-requires-clause-target
slot_to-requires-clause-target c =
    let inputs = c.args.of.now.planned.now in
    let there = sym c.requires.place.is ∙ c.in-Some.is in
    let jump = leads_to c.in-Some.item c.in-Jump-item.rd c.in-Jump-item.is in
    let short = short_there inputs c.requires.source.faultless c.args.place.now.at c.requires.free c.in-Some.item there (c.in-Jump-item.rd, jump.0) jump.1 c.in-Jump.to (sym c.requires.piece ∙ c.in-Jump.is) in
    omega (arith, short.target, number_most (parsed inputs) [] jump.0)

pub returns-in-Jump-item : goal.returns-in-Jump-item
returns-in-Jump-item c =
    let inputs = c.args.of.now.planned.now in
    let none = c.requires.source.faultless in
    let q = c.args.place.now.at in
    let slots = source_slots c.args.of.now in
    let i = c.in-Some.item in
    let there = sym c.requires.place.is ∙ c.in-Some.is in
    let jump = leads_to i c.in-Jump-item.rd c.in-Jump-item.is in
    let piece = sym c.requires.piece ∙ c.in-Jump.is in
    let short = short_there inputs none q c.requires.free i there (c.in-Jump-item.rd, jump.0) jump.1 c.in-Jump.to piece in
    c.slot_to.ensures jump.0 short.target
    ∙ sym (slot_by_width inputs none q c.requires.free i there (c.in-Jump-item.rd, jump.0) jump.1 c.in-Jump.to piece slots c.size.result
    (c.size.ensures ∙ (λ j. slice_index (c.requires.source.slots.first j) (c.requires.number j)))
    ∙ ap (λ b. option_and_then (slot_for slots) (cond b (Some (c.in-Jump-item.rd, jump.0)) None)) (eq-eqb c.size.result 4 c.if-size-ne4.false))
