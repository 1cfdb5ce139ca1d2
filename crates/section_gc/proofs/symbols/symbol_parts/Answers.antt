use Rattle.std.proofs.Common.{◌∷◌, ◌++◌, [], ◌∙◌, ◌<◌, ap, arith}
use Rattle.elf32_read.specs.Parts.{object_parts, symbol_parts}
use Rattle.elf32_read.specs.Symbols.{symbol_count, symbol_entry_of}
use Rattle.elf32_read.proofs.PartsLaws.{length-symbols, symbol_at}
use Rattle.section_gc.specs.Cleaned.{cleaned_symbol}
use Rattle.section_gc.proofs.PartLaws.{one-symbol, symbol-turn, symbols-all}
use Rattle.section_gc.proofs.symbols.symbol_parts.Goals as goal

pub loop-i-preserved : goal.loop-i-preserved
loop-i-preserved c = λ needed made.
    let file = c.args.object.now in
    let object = object_parts file in
    let i = c.loop-i.i in
    let s = symbol_parts file (symbol_entry_of file i) in
    let old = c.loop-i.symbols.items in
    let within : i < symbol_count file = omega (arith, c.loop-i-test.true, c.symbol_count-i-end.ensures) in
    let cleaned = c.cleaned_symbol-symbol.ensures needed object s made c.symbol.ensures in
    let part = one-symbol c.cleaned_symbol-symbol.result c.in_ok-symbol_part.field-0 (cleaned_symbol needed object s) c.in_ok-symbol_part.ensures cleaned in
    c.in_ok-push.ensures.items ∙ ap (λ t. old ++ t ∷ []) part ∙ symbol-turn needed object i s old c.loop-i.auto.i (symbol_at file i within) (c.loop-i.invariant needed made)

pub returns : goal.returns
returns c = λ needed made.
    let file = c.args.object.now in
    symbols-all needed (object_parts file) c.loop-i.i c.loop-i.symbols.items (omega (arith, c.loop-i-test.false, c.symbol_count-i-end.ensures, length-symbols file)) (c.loop-i.invariant needed made)
