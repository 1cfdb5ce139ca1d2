use Rattle.std.proofs.Common.{◌∙◌, Some, None, ap, sym}
use Rattle.std.proofs.lemmas.Option.{slice_get-get_or, slice_get_past}
use Rattle.section_gc.specs.declared.remains.Remains.TheVariants.{Nothing, Empty, Whole}
use Rattle.section_gc.proofs.PartLaws.{lent-cleaned}
use Rattle.section_gc.proofs.symbols.cleaned_symbol.Goals as goal

pub returns-in-None : goal.returns-in-None
returns-in-None c = λ needed object s made is.
    let none = slice_get_past c.args.table.now c.args.symbol.home c.in-None.ensures.lookup.3 in
    lent-cleaned needed object c.args.table.now c.args.symbol s None c.if-symbol-eq-UNDEF.false none made is

pub returns-in-Some-Nothing : goal.returns-in-Some-Nothing
returns-in-Some-Nothing c = λ needed object s made is.
    let found = c.in-Some-Nothing.ensures.lookup in
    let got = slice_get-get_or c.args.table.now c.args.symbol.home c.in-Some-Nothing.field-0.now found.3.0 ∙ ap Some (sym found.1 ∙ c.in-Some-Nothing.field-0-is) in
    lent-cleaned needed object c.args.table.now c.args.symbol s (Some Nothing) c.if-symbol-eq-UNDEF.false got made is

pub returns-in-Some-Empty : goal.returns-in-Some-Empty
returns-in-Some-Empty c = λ needed object s made is.
    let found = c.in-Some-Empty.ensures.lookup in
    let got = slice_get-get_or c.args.table.now c.args.symbol.home c.in-Some-Empty.field-0.now found.3.0 ∙ ap Some (sym found.1 ∙ c.in-Some-Empty.field-0-is) in
    lent-cleaned needed object c.args.table.now c.args.symbol s (Some (Empty c.in-Some-Empty.number)) c.if-symbol-eq-UNDEF.false got made is

pub returns-in-Some-Whole : goal.returns-in-Some-Whole
returns-in-Some-Whole c = λ needed object s made is.
    let found = c.in-Some-Whole.ensures.lookup in
    let got = slice_get-get_or c.args.table.now c.args.symbol.home c.in-Some-Whole.field-0.now found.3.0 ∙ ap Some (sym found.1 ∙ c.in-Some-Whole.field-0-is) in
    lent-cleaned needed object c.args.table.now c.args.symbol s (Some (Whole c.in-Some-Whole.number)) c.if-symbol-eq-UNDEF.false got made is
