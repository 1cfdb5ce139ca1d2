-- The halfword of an item is that of its piece, whose number is below the number of pieces.
use Rattle.std.proofs.Common.{slice_index, sym, ap, subst, ◌∙◌, arith}
use Rattle.std.proofs.lemmas.List.{get_or_default}
use Rattle.psabi_sym.specs.Inputs.{parsed}
use Rattle.shrink_layout.specs.Halves.{IsHalfOf}
use Rattle.shrink_layout.specs.Invariants.Numbers.{IsHalfAt}
use Rattle.shrink_layout.specs.Pieces.{piece_number_at, slot_at, unit_at}
use Rattle.shrink_layout.specs.Settled.{SettledLayout}
use Rattle.shrink_layout.proofs.HalfLaws.{all_halves}
use Rattle.shrink_layout.proofs.NumberLaws.{item_target, number_below}
use Rattle.shrink_layout.proofs.UnitLaws.{unit_item}
use Rattle.shrink_layout.proofs.settled.Settled.half_at.Goals as goal

pub returns-then-k-len : goal.returns-then-k-len
returns-then-k-len c = λ q item is has.
    let own = c.self.inside in
    let given = parsed own.planned in
    let slots = own.slots.items in
    let are = all_halves own.planned c.self.invariant.faultless slots own.made.halves.items c.self.invariant.made_are.halves_are in
    let same = ap (λ (x : SettledLayout). x.inputs) c.self.view_is in
    let is_here = ap (λ (x : SettledLayout). unit_at (parsed x.inputs) x.slots q) c.self.view_is ∙ is in
    let i = (unit_item given (slot_at given slots) q item is_here).1 in
    let k = c.piece_at-k.result in
    let there = item_target (parsed c.args.self.now.inputs) q item (unit_item (parsed c.args.self.now.inputs) (slot_at (parsed c.args.self.now.inputs) c.args.self.now.slots) q item is).1 in
    let number = c.piece_at-k.ensures.known q there has ∙ ap (λ x. piece_number_at (parsed x).objects q) (sym same) in
    let half = c.index.ensures
    ∙ get_or_default own.made.halves.items k c.index.result.now 0 (omega (arith, number, number_below own.planned c.self.invariant.faultless slots q item i, are.0))
    ∙ ap (slice_index own.made.halves.items) number in
    subst (IsHalfOf item) (sym half) (subst (λ o. IsHalfAt o (slice_index own.made.halves.items (piece_number_at given.objects q))) is_here (are.1 q item i)).0

pub returns-else-k-len : goal.returns-else-k-len
returns-else-k-len c = λ q item is has.
    let own = c.self.inside in
    let given = parsed own.planned in
    let slots = own.slots.items in
    let same = ap (λ (x : SettledLayout). x.inputs) c.self.view_is in
    let is_here = ap (λ (x : SettledLayout). unit_at (parsed x.inputs) x.slots q) c.self.view_is ∙ is in
    let i = (unit_item given (slot_at given slots) q item is_here).1 in
    let there = item_target (parsed c.args.self.now.inputs) q item (unit_item (parsed c.args.self.now.inputs) (slot_at (parsed c.args.self.now.inputs) c.args.self.now.slots) q item is).1 in
    let number = c.piece_at-k.ensures.known q there has ∙ ap (λ x. piece_number_at (parsed x).objects q) (sym same) in
    absurd (omega (
      arith,
      number,
      number_below own.planned c.self.invariant.faultless slots q item i,
      (all_halves own.planned c.self.invariant.faultless slots own.made.halves.items c.self.invariant.made_are.halves_are).0,
      c.len.ensures,
      own.made.halves.ok,
      c.if-k-len.false,
    ))
