use Rattle.elf32_read.proofs.Faultless.{linked}
use Rattle.elf32_read.proofs.object.Object.relas.Goals as goal

pub fill_relas-requires-clause-once : goal.fill_relas-requires-clause-once
fill_relas-requires-clause-once c = (linked c.self.inside.sections c.self.invariant.faultless).one_rela
