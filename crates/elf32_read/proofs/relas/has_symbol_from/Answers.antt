use Rattle.std.proofs.Common.{◌/◌, Bool, length, arith}
use Rattle.std.specs.Prelude.{nat_le}
use Rattle.std.proofs.lemmas.Bool.{le-leb}
use Rattle.elf32_read.specs.Relocs.{reloc_at}
use Rattle.elf32_read.specs.declared.reloc.Reloc.{Reloc}
use Rattle.elf32_read.proofs.Listed.{some_listed}
use Rattle.elf32_read.proofs.relas.has_symbol_from.Goals as goal

-- the current relocation names no symbol
pub returns-then-count-reloc : goal.returns-then-count-reloc
returns-then-count-reloc c =
    let content = c.args.content.now in
    let passes : Reloc → Bool = λ r. nat_le c.args.count r.symbol in
    some_listed passes (reloc_at content) (length content / 12) c.loop-k.k c.reloc.result c.reloc.ensures (omega arith) (le-leb c.args.count c.reloc.result.symbol c.if-count-reloc.true)
