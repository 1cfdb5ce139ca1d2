use Rattle.std.proofs.Common.{length, arith}
use Rattle.std.proofs.lemmas.Bool.{ltb-false}
use Rattle.elf32_read.proofs.Faultless.{no_fault}
use Rattle.psabi_sym.proofs.loaded.Loaded.len.Goals as goal

pub returns-clause-most : goal.returns-clause-most
returns-clause-most c =
    let file = c.self.inside.bytes.items in
    let short = ltb-false 0x40_0000 (length file) (no_fault file c.self.invariant.faultless).short in
    omega (arith, short, c.self.inside.bytes.ok.0)
