use Rattle.std.proofs.Common.{◌∙◌, Option, Some, ap, false, slice_get, sym}
use Rattle.std.specs.Option.{option_and_then, option_map_or}
use Rattle.std.proofs.lemmas.Option.{slice_get-get_or, slice_get_past}
use Rattle.elf32_read.specs.Parts.{ObjectParts, SectionParts, is_code_section}
use Rattle.psabi_sym.specs.Inputs.{Inputs, parsed}
use Rattle.psabi_sym.specs.Data.{is_code_at}
use Rattle.tail_merge.proofs.SymbolTurns.{lent-in, lent-nowhere, lent-out}
use Rattle.tail_merge.proofs.symbols.merged_symbol.Goals as goal

pub returns-in_default : goal.returns-in_default
returns-in_default c = λ parts s at numbers is.
    let none = slice_get_past c.args.numbers.now c.args.symbol.home c.in_default.ensures.lookup.3 in
    lent-nowhere (parsed c.args.given.now.cut.now) c.args.object parts c.args.symbol s is c.if-symbol-eq-UNDEF.false (ap (λ ns. slice_get ns c.args.symbol.home) (sym numbers) ∙ none)

pub returns-in_default-number : goal.returns-in_default-number
returns-in_default-number c = λ parts s at numbers is.
    let found = c.in-Some.ensures.lookup in
    let got = slice_get-get_or c.args.numbers.now c.args.symbol.home c.in-Some.number.now found.3.0 ∙ ap Some (sym found.1 ∙ c.in_default-number.is) in
    lent-out (parsed c.args.given.now.cut.now) c.args.object parts c.args.symbol s is c.if-symbol-eq-UNDEF.false (ap (λ ns. slice_get ns c.args.symbol.home) (sym numbers) ∙ got)

pub returns-then-is_code : goal.returns-then-is_code
returns-then-is_code c = λ parts s at numbers is.
    let inputs = parsed c.args.given.now.cut.now in
    let o = c.args.object in
    let i = c.args.symbol.home in
    let found = c.in-Some.ensures.lookup in
    let got = slice_get-get_or c.args.numbers.now i c.in-Some.number.now found.3.0 ∙ ap Some (sym found.1 ∙ c.in-Some-number.is) in
    let lent = lent-in inputs o parts c.args.symbol s is c.if-symbol-eq-UNDEF.false c.in-Some-number.home (ap (λ ns. slice_get ns i) (sym numbers) ∙ got) in
    let there = ap (option_and_then (λ (object : ObjectParts). slice_get object.sections i)) at ∙ lent.home_is in
    let code = sym (ap (λ (it : Inputs). is_code_at (parsed it).objects o i) c.objects.ensures.same ∙ ap (λ (x : Option SectionParts). option_map_or is_code_section x false) there) ∙ sym c.is_code.ensures ∙ c.if-is_code.true in
    lent.code code c.symbol_in_code.result (c.symbol_in_code.ensures lent.home s there code is)

pub returns-else-is_code : goal.returns-else-is_code
returns-else-is_code c = λ parts s at numbers is.
    let inputs = parsed c.args.given.now.cut.now in
    let o = c.args.object in
    let i = c.args.symbol.home in
    let found = c.in-Some.ensures.lookup in
    let got = slice_get-get_or c.args.numbers.now i c.in-Some.number.now found.3.0 ∙ ap Some (sym found.1 ∙ c.in-Some-number.is) in
    let lent = lent-in inputs o parts c.args.symbol s is c.if-symbol-eq-UNDEF.false c.in-Some-number.home (ap (λ ns. slice_get ns i) (sym numbers) ∙ got) in
    let there = ap (option_and_then (λ (object : ObjectParts). slice_get object.sections i)) at ∙ lent.home_is in
    let code = sym (ap (λ (it : Inputs). is_code_at (parsed it).objects o i) c.objects.ensures.same ∙ ap (λ (x : Option SectionParts). option_map_or is_code_section x false) there) ∙ sym c.is_code.ensures ∙ c.if-is_code.false in
    lent.plain code
