use Rattle.std.proofs.Common.{length, arith, ap}
use Rattle.elf32_read.proofs.Faultless.{few_symbols}
use Rattle.elf32_read.proofs.object.Object.symbol_count.Goals as goal

pub overflow_cast-result : goal.overflow_cast-result
overflow_cast-result c =
    omega (arith, ap length c.self.invariant.entries_read, few_symbols c.self.inside.sections c.self.invariant.faultless)
