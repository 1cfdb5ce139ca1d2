-- What `make` does: it makes objects, links, traces and runs them, puts the objects if they have names, and writes the
-- summary.
use Rattle.std.specs.Prelude.{◌≡◌, ℕ, ◌⊎◌, List, [], length, Option, Some, None}
use Rattle.zc_outside.specs.Desk.{OnlyWrites}
use Rattle.zc_outside.specs.Shelf.{OnlyPuts}
use Rattle.zc_outside.specs.World.{World}
use Rattle.load_maker.specs.Objects.{made_objects}
use Rattle.load_runner.specs.Cause.{LoadCause}
use Rattle.load_runner.specs.Load.{IsLoad}
use Rattle.load_runner.specs.Runs.{standard_inputs}
use Rattle.load_runner.specs.Summary.{summary_text}
use Rattle.load_runner.specs.declared.load.Load.{Load}
use Rattle.load_runner.specs.declared.load_end.LoadEnd.{LoadEnd}
use Rattle.zcld.specs.declared.outcome.Outcome.{Outcome}
use Rattle.zcld.specs.ObjectNames.{named_from}
use Rattle.zcld.specs.Outcome.{load_outcome}
use Rattle.zcld.specs.Puts.{PutsInTurn}

-- ---- the files

-- the objects' files; without a prefix they have no names, and aren't put
abbrev pub object_files : Option (List ℕ) → List (List ℕ) → List (List ℕ × List ℕ)
object_files None objects = []
object_files (Some prefix) objects = named_from prefix 0 objects

-- ---- the text

-- the text is the summary of a load of objects with `functions` functions
pub record IsSummary (number functions : ℕ) (objects : List (List ℕ)) (text : List ℕ) : Type 0 where
  pub load : Load
  pub loaded : IsLoad (standard_inputs objects) number load
  pub spells : text ≡ summary_text functions (length objects) load

-- no load of the objects is known, for this outcome, or memory ran out before the objects were put
pub record IsUnloaded (number : ℕ) (objects : List (List ℕ)) (outcome : Outcome) : Type 0 where
  pub end : LoadEnd
  pub cause : LoadCause (standard_inputs objects) number end
  pub outcome_is : outcome ≡ load_outcome end

-- ---- the work

-- the objects were put and the summary written, as far as this outcome says
pub record PutsLoad
    (prefix : Option (List ℕ)) (number functions : ℕ) (outcome : Outcome) (before after : World) : Type 0 where
  pub text : List ℕ
  pub summary : IsSummary number functions (made_objects number functions) text
  pub done :
      PutsInTurn outcome (record { files = object_files prefix (made_objects number functions); text = text })
      before after
  pub shelf : OnlyPuts before.shelf after.shelf
  pub desk : OnlyWrites before.desk after.desk

-- the work of `make`: nothing was done, since no load of the objects is known or memory ran out before one was put; or one
-- is known, and the objects were put and its summary was written
abbrev pub MakeWork : Option (List ℕ) → ℕ → ℕ → List (List ℕ) → Outcome → World → World → Type 0
MakeWork prefix number functions files outcome before after =
    (IsUnloaded number (made_objects number functions) outcome × (after ≡ before))
    ⊎ PutsLoad prefix number functions outcome before after
