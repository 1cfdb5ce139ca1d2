-- A slot that leads to a place becomes the first of that place (`firsts_more`).
use Rattle.std.proofs.Common.{◌≡◌, ◌∙◌, ◌+◌, ◌-◌, ◌<◌, [], None, Some, drop, length, length-set, set, sym, ap, subst, arith}
use Rattle.psabi_sym.specs.Inputs.{parsed}
use Rattle.shrink_layout.specs.Invariants.Slots.{AreFirstSlots}
use Rattle.shrink_layout.specs.Pieces.{piece_number_at}
use Rattle.shrink_layout.specs.Units.{IsTargetSlot}
use Rattle.shrink_layout.proofs.NumberLaws.{number_most}
use Rattle.shrink_layout.proofs.RolePlaces.{listed_target}
use Rattle.shrink_layout.proofs.SlotLaws.{firsts_more}
use Rattle.shrink_layout.proofs.slots.first_slots.Goals as goal

pub index_mut-requires : goal.index_mut-requires
index_mut-requires c =
    let to = c.in-Some.to in
    let number = c.piece_number_at-number.ensures ∙ ap (λ x. piece_number_at (parsed x).objects to) c.cut.ensures.same in
    omega (arith, number, number_most (parsed c.args.of.now.planned.now) [] to, c.loop-k.firsts.ok, c.loop-k.invariant.long, c.requires.count)

pub loop-k-preserved-in-Some : goal.loop-k-preserved-in-Some
loop-k-preserved-in-Some c =
    let inputs = c.args.of.now.planned.now in
    let objects = (parsed inputs).objects in
    let to = c.in-Some.to in
    let part = c.args.part.slots.now in
    let first = c.args.part.first in
    let firsts = c.loop-k.firsts.items in
    let k = c.loop-k.k - 1 in
    let number = c.piece_number_at-number.ensures ∙ ap (λ x. piece_number_at (parsed x).objects to) c.cut.ensures.same in
    let within : k < length part = omega (arith, c.loop-k-test.true, c.loop-k.auto.k) in
    let next : c.loop-k.k ≡ k + 1 = omega (arith, c.loop-k-test.true) in
    let are = subst (λ m. AreFirstSlots objects (first + m) (drop m part) firsts) next c.loop-k.invariant.firsts in
    let target = listed_target (parsed inputs) to (subst (IsTargetSlot (parsed inputs)) c.in-Some.is (c.requires.targets k None within)) in
    let there : piece_number_at objects to < length firsts = omega (arith, number_most (parsed inputs) [] to, c.loop-k.invariant.long, c.requires.count) in
    record {
      long = length-set firsts c.piece_number_at-number.result (Some (first + k)) ∙ c.loop-k.invariant.long;
      firsts = subst (λ m. AreFirstSlots objects (first + k) (drop k part) (set firsts m (Some (first + k)))) (sym number)
          (firsts_more inputs c.requires.numbered.faultless firsts first part k within are to c.in-Some.is target there);
    }
