use Rattle.std.proofs.Common.{◌≡◌, ◌≢◌, ◌⊎◌, ℕ, Bool, List, ◌-◌, ◌<◌, ap, sym, cond, eqb, w32, ◌∙◌, arith, inl, inr, true, false, get_or, length}
use Rattle.std.specs.Prelude.{◌||◌, not, ℤ}
use Rattle.std.specs.Option.{option_map_or}
use Rattle.std.proofs.lemmas.Bool.{eq-eqb, ne_eqb}
use Rattle.std.proofs.lemmas.Int.{to_z-of_z}
use Rattle.std.proofs.lemmas.List.{get_or_read}
use Rattle.elf32_read.specs.Parts.{SymbolParts}
use Rattle.psabi_sym.specs.declared.meaning.Meaning.TheVariants.{Nothing}
use Rattle.psabi_sym.specs.declared.target.Target.{Target}
use Rattle.psabi_sym.specs.Inputs.{Inputs, inputs_in, ParsedInputs, parsed}
use Rattle.psabi_sym.specs.Indexed.{symbol_at}
use Rattle.psabi_sym.specs.Names.{goes_by_name, is_common}
use Rattle.psabi_sym.specs.Resolve.{definition_target, home_target, name_definition, number_target, resolved, symbol_target, undefined_target}
use Rattle.psabi_sym.specs.Invariants.Rows.{row_is_common, symbol_row}
use Rattle.psabi_sym.specs.declared.symbol_row.SymbolRow.{SymbolRow}
use Rattle.psabi_sym.proofs.AccessLaws.{meaning_is, no_symbol_there, number_inside, resolved_at, symbol_found_there, symbol_inside, symbol_is}
use Rattle.psabi_sym.proofs.FoundLaws.{IsFoundSymbol}
use Rattle.psabi_sym.proofs.NumberLaws.{bound_goes, common_goes}
use Rattle.psabi_sym.proofs.objects.Objects.resolve.Goals as goal
use Rattle.psabi_sym.proofs.objects.Objects.resolve.Goals.{In-Some}

-- where a name leads
abbrev named_target : ParsedInputs → SymbolParts → ℤ → Target
named_target inputs s addend = option_map_or (definition_target inputs addend) (name_definition inputs s.name) (undefined_target s addend)

abbrev here : In-Some → Inputs
here c = inputs_in c.self.inside.options c.self.inside.objects.items

-- the symbol
found : (c : In-Some) → IsFoundSymbol (parsed (here c)).objects c.args.object (c.args.symbol - 1) c.in-Some.k
found c = symbol_found_there c.self.invariant c.deref.result.now c.args.object (c.args.symbol - 1) c.in-Some.k c.place.result c.deref.ensures.value c.place.ensures c.in-Some.is

-- what it resolves to
target : (c : In-Some) → resolved (parsed c.args.self.now) c.args.object c.args.symbol c.args.addend ≡ symbol_target (parsed (here c)) c.args.object (found c).symbol c.args.addend
target c =
    resolved_at c.args.object c.args.symbol c.args.addend _ c.self.view_is (omega arith)
    (ap (symbol_at (parsed (here c)).objects c.args.object) (omega arith) ∙ (found c).found)

-- one that is common or not local goes by its name
goes : (names : List (List ℕ)) (o i : ℕ) (common : Bool) (s : SymbolParts) (row : SymbolRow) → row ≡ symbol_row names (record { object = o; index = i; symbol = s }) → common ≡ row_is_common row
    → ((common ≡ false) × (row.bind ≢ 0)) ⊎ (common ≡ true) → goes_by_name s ≡ true
goes names o i common s row is test (inl both) = bound_goes s (ne_eqb s.bind 0 (λ e. both.1 (ap (λ r. r.bind) is ∙ e)))
goes names o i common s row is test (inr held) = common_goes s (ap row_is_common (sym is) ∙ sym test ∙ held)

pub returns-then-symbol-eq0 : goal.returns-then-symbol-eq0
unfolding resolved
returns-then-symbol-eq0 c =
    c.number_target.ensures ∙ ap (number_target 0) (to_z-of_z w32 c.args.addend c.ranges.addend)
    ∙ ap (λ s. resolved (parsed c.args.self.now) c.args.object s c.args.addend) (sym c.if-symbol-eq0.true)

pub returns-in_default : goal.returns-in_default
returns-in_default c =
    let none = no_symbol_there c.self.invariant c.deref.result.now c.args.object c.args.symbol (c.args.symbol - 1) c.place.result c.deref.ensures.value (omega arith) c.place.ensures c.in_default.is in
    sym (resolved_at c.args.object c.args.symbol c.args.addend _ c.self.view_is (omega arith) none)

pub index-requires : goal.index-requires
index-requires c = omega (arith, symbol_inside c.self.invariant (found (goal.at.index-requires c).In-Some), c.self.inside.symbols.rows.ok.0)

pub returns-then-row-eq-LOCAL : goal.returns-then-row-eq-LOCAL
returns-then-row-eq-LOCAL c =
    let a = (goal.at.returns-then-row-eq-LOCAL c).In-Some in
    let s = (found a).symbol in
    let p = parsed (here a) in
    let row = c.index.ensures ∙ symbol_is c.self.invariant (found a) c.index.result.now in
    let common : is_common s ≡ false = ap row_is_common (sym row) ∙ sym c.is_common.ensures ∙ c.if-not-is_common.true in
    let local : eqb s.bind 0 ≡ true = eq-eqb s.bind 0 (ap (λ r. r.bind) (sym row) ∙ c.if-row-eq-LOCAL.true) in
    c.home_target.ensures s (ap (λ r. r.home) (sym row)) (ap (λ r. r.value) (sym row))
    ∙ (λ j. home_target (parsed (sym c.self.view_is j)) (row j).object s (to_z-of_z w32 c.args.addend c.ranges.addend j))
    ∙ sym (target a ∙ (λ j. cond (common j || not (local j)) (named_target p s c.args.addend) (home_target p c.args.object s c.args.addend)))

pub overflow_cast-row : goal.overflow_cast-row
overflow_cast-row c =
    let a = (goal.at.overflow_cast-row c).In-Some in
    let row = c.index.ensures ∙ symbol_is c.self.invariant (found a) c.index.result.now in
    omega (arith, number_inside c.self.invariant (found a) (goes c.self.invariant.defined.named.names _ _ _ (found a).symbol c.index.result.now row c.is_common.ensures c.else-not-is_common.either), ap (λ r. r.name) row, c.self.inside.definitions.meanings.ok.0, c.self.inside.definitions.meanings.small)

pub index-meaning-requires : goal.index-meaning-requires
index-meaning-requires c =
    let a = (goal.at.index-meaning-requires c).In-Some in
    let row = c.index.ensures ∙ symbol_is c.self.invariant (found a) c.index.result.now in
    omega (arith, number_inside c.self.invariant (found a) (goes c.self.invariant.defined.named.names _ _ _ (found a).symbol c.index.result.now row c.is_common.ensures c.else-not-is_common.either), ap (λ r. r.name) row, c.self.inside.definitions.meanings.ok.0)

pub returns : goal.returns
returns c =
    let a = (goal.at.returns c).In-Some in
    let s = (found a).symbol in
    let p = parsed (here a) in
    let row = c.index.ensures ∙ symbol_is c.self.invariant (found a) c.index.result.now in
    let meanings = c.self.inside.definitions.meanings.items in
    let names = c.self.invariant.defined.named.names in
    let named_is = goes c.self.invariant.defined.named.names _ _ _ s c.index.result.now row c.is_common.ensures c.else-not-is_common.either in
    let inside : c.index.result.now.name < length meanings = omega (arith, number_inside c.self.invariant (found a) named_is, ap (λ r. r.name) row) in
    let meaning = get_or_read meanings c.index.result.now.name c.index-meaning.result.now inside c.index-meaning.ensures Nothing
    ∙ ap (λ r. get_or meanings r.name Nothing) row ∙ meaning_is c.self.invariant (found a) named_is in
    let bind = ap (λ r. r.bind) (sym row) in
    let named : symbol_target p c.args.object s c.args.addend ≡ named_target p s c.args.addend =
    ap (λ b. cond b (named_target p s c.args.addend) (home_target p c.args.object s c.args.addend)) named_is in
    c.meaning_target.ensures names (name_definition p s.name) s meaning bind
    ∙ (λ j. option_map_or (definition_target (parsed (sym c.self.view_is j)) (to_z-of_z w32 c.args.addend c.ranges.addend j)) (name_definition p s.name) (undefined_target s (to_z-of_z w32 c.args.addend c.ranges.addend j)))
    ∙ sym (target a ∙ named)
