use Rattle.std.proofs.Common.{◌∙◌, ap}
use Rattle.std.specs.Option.{option_map_or}
use Rattle.tail_merge.specs.MovedTails.{down_from_tail}
use Rattle.tail_merge.proofs.MovedTailLaws.{table-at}
use Rattle.tail_merge.proofs.moved_tail.moved_down.Goals as goal

pub returns-in-None : goal.returns-in-None
returns-in-None c = λ inputs o i at.
    let table = table-at inputs o i c.args.tails.now at in
    ap (λ t. option_map_or (λ t. down_from_tail t c.args.n) t c.args.n) (c.in-None.ensures table.rises) ∙ table.down c.args.n

pub returns-in-Some : goal.returns-in-Some
returns-in-Some c = λ inputs o i at.
    let table = table-at inputs o i c.args.tails.now at in
    c.moved.ensures ∙ ap (λ t. option_map_or (λ t. down_from_tail t c.args.n) t c.args.n) (c.in-Some.ensures table.rises) ∙ table.down c.args.n
