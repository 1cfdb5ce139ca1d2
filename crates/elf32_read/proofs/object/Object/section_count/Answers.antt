use Rattle.std.proofs.Common.{arith}
use Rattle.std.proofs.lemmas.Bool.{ltb-false}
use Rattle.elf32_read.specs.Header.{section_count}
use Rattle.elf32_read.proofs.Faultless.{no_fault}
use Rattle.elf32_read.proofs.object.Object.section_count.Goals as goal

pub returns-clause-most : goal.returns-clause-most
returns-clause-most c =
    let bytes = c.self.inside.sections in
    let few = ltb-false 4096 (section_count bytes) (no_fault bytes c.self.invariant.faultless).few in
    omega (arith, few, c.count.ensures.count)
