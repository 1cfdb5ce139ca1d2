use Rattle.section_gc.proofs.PartLaws.{number-missing, number-there}
use Rattle.section_gc.proofs.remains.number_among_all.Goals as goal

pub unreachable-requires : goal.unreachable-requires
unreachable-requires c = number-missing c.args.objects.now.files c.args.object c.args.index c.requires.object c.requires.index c.in-None.ensures

pub returns : goal.returns
returns c = number-there c.args.objects.now.files c.args.object c.args.index c.in-Some.k c.requires.object c.requires.index c.in-Some.ensures
