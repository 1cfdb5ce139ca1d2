-- The first object, folded and unfolded.
use Rattle.std.proofs.Common.{◌≡◌, ℕ, List, [], ◌∷◌, map, ap, ◌∙◌}
use Rattle.elf32_read.specs.Parts.{ObjectParts}
use Rattle.load_maker.specs.First.{IsStartObject}
use Rattle.load_maker.specs.Objects.{result_section, result_symbol, start_object, start_statements, start_symbol, text_section_of, undefined_symbol}
use Rattle.load_maker.specs.Statements.{named_by}
use Rattle.load_maker.specs.declared.statement.Statement.{Statement}

-- the object of statements
abbrev pub parts_of : List Statement → ObjectParts
parts_of statements = record {
  flags = 0;
  sections = text_section_of 2 (named_by [] statements) statements ∷ result_section ∷ [];
  symbols = result_symbol ∷ start_symbol ∷ map undefined_symbol (named_by [] statements);
}

pub first_folded : (number n : ℕ) (statements : List Statement) → statements ≡ start_statements number n → (parts : ObjectParts) → parts ≡ parts_of statements → IsStartObject number n parts
unfolding IsStartObject
first_folded number n statements are parts is = is ∙ ap parts_of are

pub first_unfolded : (number n : ℕ) (parts : ObjectParts) → IsStartObject number n parts → parts ≡ start_object number n
unfolding IsStartObject
first_unfolded number n parts is = is
