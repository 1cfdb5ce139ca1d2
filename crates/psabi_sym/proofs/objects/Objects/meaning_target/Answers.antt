use Rattle.std.proofs.Common.{ap, sym, w32, ◌∙◌}
use Rattle.std.specs.Option.{option_map_or}
use Rattle.std.proofs.lemmas.Int.{to_z-of_z}
use Rattle.psabi_sym.specs.Inputs.{parsed}
use Rattle.psabi_sym.specs.Resolve.{definition_target, home_target, number_target, undefined_target}
use Rattle.psabi_sym.proofs.AccessLaws.{nothing_meaning, number_meaning, symbol_meaning}
use Rattle.psabi_sym.proofs.objects.Objects.meaning_target.Goals as goal

pub returns-in-Symbol : goal.returns-in-Symbol
returns-in-Symbol c = λ names o s meaning bind.
    let there = symbol_meaning names o c.in-Symbol.row (sym c.in-Symbol.is ∙ meaning) in
    let l = there.0 in
    let addend_is = to_z-of_z w32 c.args.addend c.ranges.addend in
    c.home_target.ensures l.symbol (ap (λ r. r.home) (sym there.2)) (ap (λ r. r.value) (sym there.2))
    ∙ (λ j. home_target (parsed c.args.self.now) (there.2 j).object l.symbol (addend_is j))
    ∙ ap (λ x. option_map_or (definition_target (parsed c.args.self.now) c.args.addend) x (undefined_target s c.args.addend)) (sym there.1)

pub returns-in-Number : goal.returns-in-Number
returns-in-Number c = λ names o s meaning bind.
    let there = number_meaning names o c.in-Number.n (sym c.in-Number.is ∙ meaning) in
    let addend_is = to_z-of_z w32 c.args.addend c.ranges.addend in
    c.number_target.ensures ∙ ap (number_target c.in-Number.n) addend_is
    ∙ ap (λ x. option_map_or (definition_target (parsed c.args.self.now) c.args.addend) x (undefined_target s c.args.addend)) (sym there)

pub returns-in-Nothing : goal.returns-in-Nothing
returns-in-Nothing c = λ names o s meaning bind.
    let there = nothing_meaning names o (sym c.in-Nothing.is ∙ meaning) in
    let addend_is = to_z-of_z w32 c.args.addend c.ranges.addend in
    c.undefined.ensures s bind ∙ ap (undefined_target s) addend_is
    ∙ ap (λ x. option_map_or (definition_target (parsed c.args.self.now) c.args.addend) x (undefined_target s c.args.addend)) (sym there)
