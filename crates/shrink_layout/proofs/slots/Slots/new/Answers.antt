-- The parts of the slots are the first 32 and those from there on.
use Rattle.std.proofs.Common.{◌≡◌, ◌∙◌, ◌+◌, [], drop, length, min, take, ap, subst, arith}
use Rattle.std.proofs.lemmas.List.{drop_min, take_min, take_rest}
use Rattle.psabi_sym.specs.Inputs.{parsed}
use Rattle.shrink_layout.specs.Invariants.Slots.{AreFirstSlots}
use Rattle.shrink_layout.specs.Pieces.{pieces_of}
use Rattle.shrink_layout.proofs.KeptLaws.{widths_long}
use Rattle.shrink_layout.proofs.PremiseLaws.{pieces_few}
use Rattle.shrink_layout.proofs.slots.Slots.new.Goals as goal
use Rattle.shrink_layout.proofs.slots.Slots.new.Goals.{After-min-middle}

pub overflow_add-count : goal.overflow_add-count
overflow_add-count c =
    let inputs = c.args.of.now.planned.now in
    omega (
      arith,
      c.count-count.ensures,
      ap length c.requires.first,
      widths_long (parsed inputs) [],
      pieces_few inputs c.requires.numbered.faultless [],
    )

-- there is an entry for each piece, and one for the end
all : (c : After-min-middle) → c.count-count.result + 1 ≡ length (pieces_of (parsed c.args.of.now.planned.now) []) + 1
all c = omega (arith, c.count-count.ensures, ap length c.requires.first, widths_long (parsed c.args.of.now.planned.now) [])

pub first_slots-requires-clause-count : goal.first_slots-requires-clause-count
first_slots-requires-clause-count c = all (goal.at.first_slots-requires-clause-count c).After-min-middle

pub first_slots-requires-2-clause-count : goal.first_slots-requires-2-clause-count
first_slots-requires-2-clause-count c = all (goal.at.first_slots-requires-2-clause-count c).After-min-middle

pub returns-clause-kept : goal.returns-clause-kept
returns-clause-kept c =
    let inputs = parsed c.args.of.now.planned.now in
    let slots = c.args.slots.now in
    let entries = all (goal.at.returns-clause-kept c).After-min-middle in
    let middle : c.min-middle.result ≡ min 32 (length slots) = omega (arith, c.min-middle.ensures) in
    record {
      targets = c.requires.targets;
      first = c.requires.first;
      all_jumps = c.in_ok-first_slots.ensures.long ∙ entries;
      all_calls = c.in_ok-first_slots-2.ensures.long ∙ entries;
      jumps = subst (λ ps. AreFirstSlots inputs.objects 0 ps c.in_ok-first_slots.field-0.items) (ap (λ n. take n slots) middle ∙ take_min 32 slots) c.in_ok-first_slots.ensures.firsts;
      calls = subst (λ ps. AreFirstSlots inputs.objects 32 ps c.in_ok-first_slots-2.field-0.items)
          (take_rest slots c.min-middle.result ∙ ap (λ n. drop n slots) middle ∙ drop_min 32 slots) c.in_ok-first_slots-2.ensures.firsts;
    }
