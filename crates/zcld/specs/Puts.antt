-- What a command puts outside: files, one after another, and then a text on standard output.
use Rattle.std.specs.Prelude.{◌≡◌, ◌≢◌, ℕ, ◌<◌, ◌⊎◌, List, [], ◌∷◌, length, take, Option, Some, None, ⊤}
use Rattle.zc_outside.specs.Desk.{WriteCause}
use Rattle.zc_outside.specs.Files.{Files}
use Rattle.zc_outside.specs.Shelf.{PutCause, Shelf}
use Rattle.zc_outside.specs.Streams.{Adds, AddsPart, KeepsBytes}
use Rattle.zc_outside.specs.World.{World}
use Rattle.zc_outside.specs.declared.console.ConsoleFault.TheVariants as console
use Rattle.zc_outside.specs.declared.store.StoreFault.TheVariants as store
use Rattle.zcld.specs.declared.outcome.Outcome.{Outcome}
use Rattle.zcld.specs.declared.outcome.Outcome.TheVariants.{Done, WriteFault, OutOfMemory}

-- files, each a name with its bytes, whose names differ; and the text
pub record Output : Type 0 where
  pub files : List (List ℕ × List ℕ)
  pub text : List ℕ

-- a text without files
abbrev pub text_alone : List ℕ → Output
text_alone text = record { files = []; text = text }

-- each of these files has its bytes under its name
abbrev pub HasFiles : Files → List (List ℕ × List ℕ) → Type 0
HasFiles f [] = ⊤
HasFiles f (file ∷ files) = (f file.0 ≡ Some file.1) × HasFiles f files

-- a name that none of these files has
abbrev pub IsOtherName : List ℕ → List (List ℕ × List ℕ) → Type 0
IsOtherName q [] = ⊤
IsOtherName q (file ∷ files) = q ≢ file.0 × IsOtherName q files

-- if the files were told, they still are: each of these names has its bytes, and no other name changed
abbrev pub PutsFiles : Option Files → Option Files → List (List ℕ × List ℕ) → Type 0
PutsFiles None after files = ⊤
PutsFiles (Some f) None files = ⊥
PutsFiles (Some f) (Some g) files = HasFiles g files × ((q : List ℕ) → IsOtherName q files → g q ≡ f q)

-- the first `count` of the files are there, but not all, and nothing was written
pub record IsUnput (output : Output) (before after : World) : Type 0 where
  pub count : ℕ
  pub part : count < length output.files
  pub files : PutsFiles before.shelf.files after.shelf.files (take count output.files)
  pub desk : after.desk ≡ before.desk

-- all files are there, and a part of the text was written, but not all of it
pub record IsUnprinted (output : Output) (before after : World) : Type 0 where
  pub files : PutsFiles before.shelf.files after.shelf.files output.files
  pub text : output.text ≢ []
  pub out : AddsPart before.desk.out after.desk.out output.text
  pub err : KeepsBytes before.desk.err after.desk.err

-- all files are there, and the whole text was written
pub record IsPrinted (output : Output) (before after : World) : Type 0 where
  pub files : PutsFiles before.shelf.files after.shelf.files output.files
  pub out : Adds before.desk.out after.desk.out output.text
  pub err : KeepsBytes before.desk.err after.desk.err

-- why a file couldn't be put, for this outcome
abbrev pub UnputCause : Outcome → Shelf → Shelf → Type 0
UnputCause WriteFault before after = PutCause before after store.Failed
UnputCause OutOfMemory before after = PutCause before after store.OutOfMemory
UnputCause other before after = ⊥

-- the world after the files were put in turn and the text was written, by how that ended: a put was refused, or a write
abbrev pub PutsInTurn : Outcome → Output → World → World → Type 0
PutsInTurn Done output before after = IsPrinted output before after
PutsInTurn WriteFault output before after =
    (IsUnput output before after × UnputCause WriteFault before.shelf after.shelf)
    ⊎ (IsUnprinted output before after × WriteCause before.desk after.desk console.Failed)
PutsInTurn OutOfMemory output before after =
    (IsUnput output before after × UnputCause OutOfMemory before.shelf after.shelf)
    ⊎ (IsUnprinted output before after × WriteCause before.desk after.desk console.OutOfMemory)
PutsInTurn other output before after = ⊥
