use Rattle.std.proofs.Common.{ap, ◌∙◌}
use Rattle.load_maker.specs.Statements.{with_number}
use Rattle.load_maker.proofs.NamedLaws.{range_more}
use Rattle.load_maker.proofs.objects.numbers_from.Goals as goal

pub loop-i-preserved : goal.loop-i-preserved
loop-i-preserved c = c.in_ok-insert.ensures.keys ∙ ap (λ l. with_number l c.loop-i.i) c.loop-i.invariant ∙ range_more c.args.first c.loop-i.i c.loop-i.auto.i
