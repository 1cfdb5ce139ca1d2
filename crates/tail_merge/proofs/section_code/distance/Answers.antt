use Rattle.std.proofs.Common.{◌≡◌, ◌∙◌, ◌-ℤ◌, pos, arith, of_z, rules, to_z, w32}
use Rattle.tail_merge.specs.Merged.{removed_at}
use Rattle.tail_merge.proofs.MovedTailLaws.{down-most}
use Rattle.tail_merge.proofs.SectionCodeLaws.{signed-way}
use Rattle.tail_merge.proofs.section_code.distance.Goals as goal

pub returns : goal.returns
returns c = λ inputs o i at low high.
    let start = c.moved_down-start.ensures inputs o i at in
    let end = c.moved_down-end.ensures inputs o i at in
    let most = down-most (removed_at inputs o i) c.args.from in
    let most' = down-most (removed_at inputs o i) c.args.to in
    let back : to_z w32 (of_z w32 c.cast_signed.result) ≡ c.cast_signed.result = search rules in
    back ∙ c.cast_signed.ensures
    ∙ signed-way c.moved_down-start.result c.moved_down-end.result (omega (arith, start, most, low)) (omega (arith, end, most', high))
    ∙ (λ j. pos (end j) -ℤ pos (start j))
