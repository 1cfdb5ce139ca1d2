use Rattle.std.proofs.Common.{◌∙◌, ap, arith}
use Rattle.std.specs.Option.{option_map_or}
use Rattle.psabi_sym.specs.Inputs.{parsed}
use Rattle.tail_merge.specs.Merged.{removed_at}
use Rattle.tail_merge.specs.Tails.{moved_down}
use Rattle.tail_merge.proofs.MovedTailLaws.{down-most}
use Rattle.tail_merge.proofs.moved_tail.merged_offset.Goals as goal

pub returns-in-None-clause-offset : goal.returns-in-None-clause-offset
returns-in-None-clause-offset c =
    let q = c.args.place in
    let inputs = parsed c.args.cut.now in
    let removed = removed_at inputs q.object q.section in
    c.moved_down.ensures inputs q.object q.section c.requires ∙ ap (λ h. option_map_or (moved_down removed) h (moved_down removed q.offset)) c.in-None.ensures.offset

pub returns-in-Some-clause-offset : goal.returns-in-Some-clause-offset
returns-in-Some-clause-offset c =
    let q = c.args.place in
    let inputs = parsed c.args.cut.now in
    let removed = removed_at inputs q.object q.section in
    c.moved_down-in-Some.ensures inputs q.object q.section c.requires ∙ ap (λ h. option_map_or (moved_down removed) h (moved_down removed q.offset)) c.in-Some.ensures.offset

pub returns-in-None-clause-small : goal.returns-in-None-clause-small
returns-in-None-clause-small c = λ low.
    let q = c.args.place in
    let inputs = parsed c.args.cut.now in
    omega (arith, low, c.moved_down.ensures inputs q.object q.section c.requires, down-most (removed_at inputs q.object q.section) q.offset)

pub returns-in-Some-clause-small : goal.returns-in-Some-clause-small
returns-in-Some-clause-small c = λ low.
    let q = c.args.place in
    let inputs = parsed c.args.cut.now in
    omega (arith, c.in-Some.ensures.small, c.moved_down-in-Some.ensures inputs q.object q.section c.requires, down-most (removed_at inputs q.object q.section) c.in-Some.offset)
