use Rattle.std.proofs.Common.{◌/◌, Bool, length, arith}
use Rattle.std.specs.Prelude.{not}
use Rattle.elf32_read.specs.Names.{has_end}
use Rattle.elf32_read.specs.Symbols.{symbol_entry_at}
use Rattle.elf32_read.specs.declared.symbol_entry.SymbolEntry.{SymbolEntry}
use Rattle.elf32_read.proofs.Listed.{some_listed}
use Rattle.elf32_read.proofs.Named.{ends_past}
use Rattle.elf32_read.proofs.unnamed.has_unnamed_symbol.Goals as goal

-- the name of the current symbol isn't terminated
pub returns-then-end-symbol_entry : goal.returns-then-end-symbol_entry
returns-then-end-symbol_entry c =
    let names = c.args.symbols.now.names.now in
    let entries = c.args.symbols.now.entries.now in
    let unnamed : SymbolEntry → Bool = λ e. not (has_end names e.name) in
    some_listed unnamed (symbol_entry_at entries) (length entries / 16) c.loop-i.i c.symbol_entry.result c.symbol_entry.ensures (omega arith) (ends_past names c.names_end-end.result c.symbol_entry.result.name c.names_end-end.ensures c.if-end-symbol_entry.true)
