use Rattle.std.proofs.Common.{◌||◌}
use Rattle.psabi_sym.specs.Inputs.{parsed}
use Rattle.block_cut.specs.Invariants.Led.{is_listed}
use Rattle.block_cut.proofs.LedLaws.{none_marked}
use Rattle.block_cut.proofs.leaders.Leaders.new.Goals as goal

pub returns : goal.returns
returns c = λ q.
    let marked = none_marked (parsed c.args.objects.now).objects c.loop-k.sections.items c.loop-k.invariant q in
    λ j. marked j || is_listed (c.new-2.ensures.empty j) q
