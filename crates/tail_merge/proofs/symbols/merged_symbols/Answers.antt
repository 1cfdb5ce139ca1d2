use Rattle.std.proofs.Common.{◌∙◌, ◌∷◌, ◌++◌, ◌<◌, [], ap, arith, get_or, subst, sym}
use Rattle.std.specs.Option.{option_map}
use Rattle.std.proofs.lemmas.Option.{get_or_from_slice_get, slice_get-get_or, slice_get-map}
use Rattle.elf32_read.specs.Lent.{IsSymbol}
use Rattle.elf32_read.specs.Parts.{object_parts, symbol_parts}
use Rattle.elf32_read.specs.Symbols.{symbol_count, symbol_entry_of}
use Rattle.elf32_read.proofs.PartsLaws.{length-symbols, symbol_at}
use Rattle.psabi_sym.specs.Inputs.{Inputs, parsed}
use Rattle.tail_merge.specs.Merged.{merged_symbol}
use Rattle.tail_merge.specs.MovedTails.{kept_numbers}
use Rattle.tail_merge.proofs.SymbolTurns.{one-part, symbols-turn, symbols-whole}
use Rattle.tail_merge.proofs.symbols.merged_symbols.Goals as goal

pub loop-i-preserved : goal.loop-i-preserved
loop-i-preserved c =
    let inputs = c.args.given.now.cut.now in
    let o = c.args.object in
    let i = c.loop-i.i in
    let file = get_or inputs.files o [] in
    let parts = object_parts file in
    let s = symbol_parts file (symbol_entry_of file i) in
    let old = c.loop-i.symbols.items in
    let read = ap (λ (it : Inputs). get_or it.files o []) (sym c.objects-2.ensures.same) ∙ get_or_from_slice_get c.objects-2.result.now.files o c.object-read.result [] c.object-read.ensures in
    let within : i < symbol_count file = omega (arith, c.loop-i-test.true, c.symbol_count-i-end.ensures, ap symbol_count read) in
    let at = slice_get-map object_parts inputs.files o ∙ ap (option_map object_parts) (slice_get-get_or inputs.files o [] c.requires.object) in
    let numbers = c.deref.ensures.value ∙ c.in_ok-numbers.ensures ∙ ap (λ (it : Inputs). kept_numbers (object_parts (get_or it.files o []))) c.objects.ensures.same in
    let given = subst (λ f. IsSymbol c.symbol.result (symbol_parts f (symbol_entry_of f i))) (sym read) c.symbol.ensures in
    let merged = c.merged_symbol-symbol.ensures parts s at numbers given in
    let part = one-part c.merged_symbol-symbol.result c.in_ok-symbol_part.field-0 (merged_symbol (parsed inputs) o parts s) c.in_ok-symbol_part.ensures merged in
    c.in_ok-push.ensures.items ∙ ap (λ t. old ++ t ∷ []) part
    ∙ symbols-turn (merged_symbol (parsed inputs) o parts) parts.symbols i s old c.loop-i.auto.i (symbol_at file i within) c.loop-i.invariant

pub returns : goal.returns
returns c =
    let inputs = c.args.given.now.cut.now in
    let o = c.args.object in
    let file = get_or inputs.files o [] in
    let read = ap (λ (it : Inputs). get_or it.files o []) (sym c.objects-2.ensures.same) ∙ get_or_from_slice_get c.objects-2.result.now.files o c.object-read.result [] c.object-read.ensures in
    symbols-whole (merged_symbol (parsed inputs) o (object_parts file)) (object_parts file).symbols c.loop-i.i c.loop-i.symbols.items
    (omega (arith, c.loop-i-test.false, c.symbol_count-i-end.ensures, ap symbol_count read, length-symbols file)) c.loop-i.invariant
