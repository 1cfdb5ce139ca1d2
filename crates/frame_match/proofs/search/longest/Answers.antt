use Rattle.std.proofs.Common.{◌∙◌, sym}
use Rattle.frame_match.specs.Matches.{moves_in}
use Rattle.frame_match.specs.Invariants.Kinds.{longer_or}
use Rattle.frame_match.proofs.FoundLaws.{longest_split, pop_longest, push_longest}
use Rattle.frame_match.proofs.search.longest.Goals as goal

pub returns : goal.returns
returns c =
    let run = c.args.run.now in
    let a = push_longest run c.push.result c.push.ensures.known c.push.ensures.each in
    let b = pop_longest run c.pop.result c.pop.ensures.known c.pop.ensures.each in
    c.longer-2.ensures ∙ (λ i. longer_or (c.longer.ensures i) (c.moves.ensures i))
    ∙ (λ i. longer_or (longer_or (sym a i) (sym b i)) (moves_in run)) ∙ sym (longest_split run)
