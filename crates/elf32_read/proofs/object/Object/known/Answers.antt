use Rattle.std.proofs.Common.{ap, ◌∙◌}
use Rattle.elf32_read.specs.Object.{has_second_symbol_table}
use Rattle.elf32_read.proofs.Faultless.{faultless_whole, no_fault, linked}
use Rattle.elf32_read.proofs.object.Object.known.Goals as goal

pub new-requires-clause-start : goal.new-requires-clause-start
new-requires-clause-start c = (faultless_whole c.args.bytes.now c.requires).long

pub new-requires-clause-whole : goal.new-requires-clause-whole
new-requires-clause-whole c = (no_fault c.args.bytes.now c.requires).whole

pub symbol_section-section-requires : goal.symbol_section-section-requires
symbol_section-section-requires c = ap has_second_symbol_table c.new.ensures ∙ (linked c.args.bytes.now c.requires).one_table
