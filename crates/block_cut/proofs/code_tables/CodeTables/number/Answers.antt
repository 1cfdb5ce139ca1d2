use Rattle.std.proofs.Common.{◌≡◌, false, true, MatchOption, sym, subst, ◌∙◌}
use Rattle.psabi_sym.specs.Inputs.{parsed}
use Rattle.psabi_sym.specs.Indexed.{IndexedSection}
use Rattle.block_cut.specs.Items.{is_target_at}
use Rattle.block_cut.specs.Places.{IsPlaceNumber}
use Rattle.block_cut.proofs.TextLaws.{kept_at, place_number}
use Rattle.block_cut.proofs.code_tables.CodeTables.number.Goals as goal

pub returns-in_err-index : goal.returns-in_err-index
returns-in_err-index c =
    let inputs = c.args.objects.now in
    let there = c.in_ok-section.ensures in
    let l : IndexedSection = record { object = c.args.p.object; index = c.args.p.section; section = there.0 } in
    let kept = c.index.ensures ∙ kept_at (parsed inputs) c.args.self.now.sections.items c.in_ok-section.section l _ c.requires.tables.sections there.2 in
    let nowhere : is_target_at (parsed inputs).objects c.args.p ≡ false = c.in_err-index.ensures inputs l c.recall_invariant.ensures.faultless there.1 kept in
    subst (λ o. MatchOption o (is_target_at (parsed inputs).objects c.args.p ≡ false) (λ number. (is_target_at (parsed inputs).objects c.args.p ≡ true) × IsPlaceNumber (parsed inputs).objects c.args.p number))
    (sym c.from_residual-in_err-index.ensures) nowhere

pub returns : goal.returns
returns c =
    let inputs = c.args.objects.now in
    let there = c.in_ok-section.ensures in
    let l : IndexedSection = record { object = c.args.p.object; index = c.args.p.section; section = there.0 } in
    let kept = c.index.ensures ∙ kept_at (parsed inputs) c.args.self.now.sections.items c.in_ok-section.section l _ c.requires.tables.sections there.2 in
    let got = c.in_ok-index.ensures inputs l c.recall_invariant.ensures.faultless there.1 kept in
    (got.0, place_number (parsed inputs).objects c.args.p c.in_ok-section.section c.in_ok-index.index there.0 there.1 there.2 got.0 got.1)
