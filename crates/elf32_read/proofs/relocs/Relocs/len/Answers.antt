use Rattle.std.proofs.Common.{length, ap, ◌∙◌}
use Rattle.elf32_read.proofs.Held.{held_count}
use Rattle.elf32_read.proofs.relocs.Relocs.len.Goals as goal

pub returns : goal.returns
returns c = held_count c.self.inside.content.now ∙ ap length c.self.view_is
