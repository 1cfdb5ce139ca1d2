use Rattle.std.proofs.Common.{◌<◌, arith}
use Rattle.elf32_read.specs.Symbols.{symbol_count}
use Rattle.zcld.proofs.Names.{name_found, name_past}
use Rattle.zcld.proofs.err_line.symbol_name_of.Goals as goal

pub returns-then-symbol-symbol_count : goal.returns-then-symbol-symbol_count
returns-then-symbol-symbol_count c =
    let within : c.args.symbol < symbol_count c.args.object.now = omega (arith, c.if-symbol-symbol_count.true, c.symbol_count.ensures) in
    name_found c.args.object.now c.args.symbol c.requires within c.symbol.result.name.now c.symbol.ensures.name

pub returns-else-symbol-symbol_count : goal.returns-else-symbol-symbol_count
returns-else-symbol-symbol_count c =
    name_past c.args.object.now c.args.symbol c.requires (omega (arith, c.if-symbol-symbol_count.false, c.symbol_count.ensures))
