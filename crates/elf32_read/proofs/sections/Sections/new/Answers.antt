use Rattle.std.proofs.Common.{ap, ◌∙◌}
use Rattle.elf32_read.specs.Names.{strings_of}
use Rattle.elf32_read.proofs.Faultless.{whole}
use Rattle.elf32_read.proofs.sections.Sections.new.Goals as goal

pub strings-names-requires : goal.strings-names-requires
strings-names-requires c = whole c.args.bytes.now c.requires.start c.requires.whole

pub invariant_of-result : goal.invariant_of-result
invariant_of-result c = (
  whole c.args.bytes.now c.requires.start c.requires.whole,
  c.strings-names.ensures ∙ ap (strings_of c.args.bytes.now) (c.from.ensures ∙ c.name_section.ensures),
)
