use Rattle.std.proofs.Common.{◌∙◌, ◌≡◌, ◌-ℤ◌, ap, arith, of_z, pos, rules, to_z, w32}
use Rattle.std.proofs.lemmas.Int.{ints}
use Rattle.psabi_sym.specs.Inputs.{parsed}
use Rattle.tail_merge.specs.Merged.{removed_at}
use Rattle.tail_merge.specs.Tails.{moved_down}
use Rattle.tail_merge.proofs.MovedTailLaws.{down-most}
use Rattle.tail_merge.proofs.relocs.addend_to_place.Goals as goal

pub value_from-requires-clause-low : goal.value_from-requires-clause-low
value_from-requires-clause-low c = omega (arith, ints, c.requires.symbol.1.0)

pub value_from-requires-clause-high : goal.value_from-requires-clause-high
value_from-requires-clause-high c = omega (arith, ints, c.requires.symbol.1.0, c.requires.symbol.1.1)

pub distance-requires-clause-from : goal.distance-requires-clause-from
distance-requires-clause-from c =
    let q = c.args.to in
    let inputs = parsed c.args.cut.now in
    let same : c.value_from.result ≡ c.requires.symbol.0 = omega (arith, ints, c.value_from.ensures, c.requires.symbol.1.0) in
    omega (arith, c.moved_down-value.ensures inputs q.object q.section c.requires.tails, down-most (removed_at inputs q.object q.section) c.value_from.result, same, c.requires.symbol.1.1)

pub returns : goal.returns
returns c = λ value leads.
    let q = c.args.to in
    let inputs = parsed c.args.cut.now in
    let removed = removed_at inputs q.object q.section in
    let same : c.value_from.result ≡ value = omega (arith, ints, c.value_from.ensures, leads) in
    let down = c.moved_down-value.ensures inputs q.object q.section c.requires.tails ∙ ap (moved_down removed) same in
    let back : to_z w32 (of_z w32 c.distance.result) ≡ c.distance.result = search rules in
    back ∙ c.distance.ensures ∙ (λ i. pos (c.merged_offset.ensures.offset i) -ℤ pos (down i))
