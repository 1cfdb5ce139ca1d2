use Rattle.std.proofs.Common.{◌≡◌, true, cond, ap, sym, ◌∙◌}
use Rattle.elf32_read.specs.Names.{name_at}
use Rattle.elf32_read.specs.Parts.{symbol_parts}
use Rattle.psabi_sym.specs.Invariants.Keys.{names_of}
use Rattle.psabi_sym.specs.Names.{goes_by_name}
use Rattle.psabi_sym.specs.Invariants.Rows.{name_number, with_name}
use Rattle.psabi_sym.proofs.NumberLaws.{symbol_number_is}
use Rattle.psabi_sym.proofs.read_symbols.number_name.Goals as goal

-- ---- a symbol that doesn't go by its name

pub returns-then-not-goes_by_name-clause-names : goal.returns-then-not-goes_by_name-clause-names
returns-then-not-goes_by_name-clause-names c = λ file table.
    let names = names_of c.args.names.now in
    let stays = sym c.if-not-goes_by_name.true ∙ c.goes_by_name.ensures file in
    λ j. cond (stays j) (with_name names (symbol_parts file c.args.entry.now).name) names

pub returns-then-not-goes_by_name-clause-number : goal.returns-then-not-goes_by_name-clause-number
returns-then-not-goes_by_name-clause-number c = λ file table.
    let stays = sym c.if-not-goes_by_name.true ∙ c.goes_by_name.ensures file in
    λ j. cond (stays j) (name_number (names_of c.args.names.now) (symbol_parts file c.args.entry.now).name) 0

pub returns-then-not-goes_by_name-clause-within : goal.returns-then-not-goes_by_name-clause-within
returns-then-not-goes_by_name-clause-within c = λ file goes. absurd (cc (c.if-not-goes_by_name.true, c.goes_by_name.ensures file, goes))

-- ---- one that does

pub returns-clause-names : goal.returns-clause-names
returns-clause-names c = λ file table.
    let names = names_of c.args.names.now in
    let goes = sym c.if-not-goes_by_name.false ∙ c.goes_by_name.ensures file in
    c.in_ok-number.ensures.added.names ∙ ap (λ t. with_name names (name_at t c.args.entry.now.name)) table
    ∙ (λ j. cond (goes j) (with_name names (symbol_parts file c.args.entry.now).name) names)

pub returns-clause-number : goal.returns-clause-number
returns-clause-number c = λ file table.
    let names = names_of c.number.new.self in
    let goes : goes_by_name (symbol_parts file c.args.entry.now) ≡ true = sym (c.goes_by_name.ensures file) ∙ c.if-not-goes_by_name.false in
    c.in_ok-number.ensures.number ∙ ap (λ t. name_number names (name_at t c.args.entry.now.name)) table
    ∙ sym (symbol_number_is names (symbol_parts file c.args.entry.now) goes)
