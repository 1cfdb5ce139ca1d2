-- What the name stands for at which a program starts.
use Rattle.std.specs.Prelude.{◌≡◌, ℕ, List, codes}
use Rattle.psabi_sym.specs.Inputs.{ParsedInputs}
use Rattle.psabi_sym.specs.Invariants.Meanings.{meaning_row}
use Rattle.psabi_sym.specs.Resolve.{name_definition}
use Rattle.psabi_sym.specs.declared.meaning.Meaning.{Meaning}

-- a program starts at `_start`
abbrev pub start_name : List ℕ
start_name = codes "_start"

-- the meaning is what that name stands for, by names with numbers
pub record IsStart (inputs : ParsedInputs) (start : Meaning) : Type 0 where
  pub names : List (List ℕ)
  pub start_is : start ≡ meaning_row names (name_definition inputs start_name)
