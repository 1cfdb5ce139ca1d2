use Rattle.elf32_read.proofs.Faultless.{faultless_whole, no_fault}
use Rattle.elf32_read.proofs.object.Object.known_with.Goals as goal

pub new-sections-requires-clause-start : goal.new-sections-requires-clause-start
new-sections-requires-clause-start c = (faultless_whole c.args.bytes.now c.requires.faultless).long

pub new-sections-requires-clause-whole : goal.new-sections-requires-clause-whole
new-sections-requires-clause-whole c = (no_fault c.args.bytes.now c.requires.faultless).whole
