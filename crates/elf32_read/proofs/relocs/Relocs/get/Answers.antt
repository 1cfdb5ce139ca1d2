use Rattle.std.proofs.Common.{◌<◌, length, Some, slice_get, sym, ap, ◌∙◌, arith}
use Rattle.elf32_read.specs.Relocs.{relocs_in}
use Rattle.elf32_read.proofs.Held.{held_at, held_within}
use Rattle.elf32_read.proofs.relocs.Relocs.get.Goals as goal

pub reloc-requires : goal.reloc-requires
reloc-requires c = held_within c.self.inside.content.now c.args.k (omega (arith, c.requires, ap length c.self.view_is))

pub returns : goal.returns
returns c =
    let content = c.self.inside.content.now in
    let lt : c.args.k < length (relocs_in content) = omega (arith, c.requires, ap length c.self.view_is) in
    ap (λ l. slice_get l c.args.k) (sym c.self.view_is) ∙ held_at content c.args.k lt ∙ ap Some (sym c.reloc.ensures)
