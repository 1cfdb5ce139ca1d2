use Rattle.std.proofs.Common.{◌<◌, arith, ap}
use Rattle.elf32_read.specs.Header.{section_count}
use Rattle.elf32_read.specs.Object.{is_changed_twice}
use Rattle.elf32_read.proofs.Faultless.{linked}
use Rattle.elf32_read.proofs.Listed.{none_in_range}
use Rattle.elf32_read.proofs.object.Object.rela_of.Goals as goal

pub rela_for-requires-clause-once : goal.rela_for-requires-clause-once
rela_for-requires-clause-once c =
    let bytes = c.self.inside.sections in
    let inside : c.args.section < section_count bytes = omega (arith, c.requires, ap section_count c.self.view_is) in
    none_in_range (is_changed_twice bytes) (section_count bytes) c.args.section (linked bytes c.self.invariant.faultless).one_rela inside
