use Rattle.std.proofs.Common.{◌/◌, length, sym, ap, ◌∙◌, arith}
use Rattle.elf32_read.specs.Object.{is_bad_symbol}
use Rattle.elf32_read.specs.Symbols.{symbol_entry_at}
use Rattle.elf32_read.proofs.Dropped.{none_dropped, none_dropped_more, some_dropped}
use Rattle.elf32_read.proofs.symbols.has_bad_entry.Goals as goal

-- the current symbol is bad
pub returns-then-is_bad_symbol : goal.returns-then-is_bad_symbol
returns-then-is_bad_symbol c =
    let entries = c.args.entries.now in
    some_dropped (is_bad_symbol c.args.sections.now) (symbol_entry_at entries) (length entries / 16) c.loop-i.i c.symbol_entry.result c.symbol_entry.ensures (omega arith) (omega arith) (sym c.is_bad_symbol.ensures ∙ c.if-is_bad_symbol.true)

pub loop-i-preserved : goal.loop-i-preserved
loop-i-preserved c =
    none_dropped_more (is_bad_symbol c.args.sections.now) (symbol_entry_at c.args.entries.now) c.loop-i.i (omega arith) c.loop-i.invariant (sym (ap (is_bad_symbol c.args.sections.now) c.symbol_entry.ensures) ∙ sym c.is_bad_symbol.ensures ∙ c.if-is_bad_symbol.false)

pub returns : goal.returns
returns c =
    let entries = c.args.entries.now in
    sym (none_dropped (is_bad_symbol c.args.sections.now) (symbol_entry_at entries) (length entries / 16) c.loop-i.i (omega arith) (omega arith) c.loop-i.invariant)
