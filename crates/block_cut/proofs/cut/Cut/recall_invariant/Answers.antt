use Rattle.std.proofs.Common.{sym, ap, ◌∙◌}
use Rattle.psabi_sym.specs.Faults.{gather_fault}
use Rattle.block_cut.proofs.FaultLaws.{faultless}
use Rattle.block_cut.proofs.cut.Cut.recall_invariant.Goals as goal

pub returns-clause-gathered : goal.returns-clause-gathered
returns-clause-gathered c = ap gather_fault (sym c.self.view_is) ∙ (faultless c.self.inside.objects c.self.invariant.faultless).gathered
