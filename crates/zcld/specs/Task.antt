-- How a command goes over its files: they can't be had and judged, or they are refused, or the command does its work.
use Rattle.std.specs.Prelude.{◌≡◌, ℕ, ◌⊎◌, Bool, List, [], ◌∷◌, Option, Some, None, ⊤}
use Rattle.zc_outside.specs.Shelf.{Shelf}
use Rattle.zc_outside.specs.Wanted.{AreRead, AreUnread, ReadsAll, Wanted}
use Rattle.zc_outside.specs.World.{World}
use Rattle.zcld.specs.declared.outcome.Outcome.{Outcome}
use Rattle.zcld.specs.declared.outcome.Outcome.TheVariants.{ReadFault, OutOfMemory}

-- what a command does outside: it reads these files, and refuses them by their bytes, or not; it puts files, or not; with files of these
-- bytes it may take the console's input, or not; and it writes to the console
pub record Task : Type 0 where
  pub wanted : List Wanted
  pub refusal : List (List ℕ) → Option Outcome
  pub puts : Bool
  pub takes : List (List ℕ) → Bool

-- the first of the files that were read
abbrev pub first_file : List (List ℕ) → List ℕ
first_file [] = []
first_file (file ∷ files) = file

-- the files were read, and nothing else was done
pub record OnlyRead (wanted : List Wanted) (before after : World) : Type 0 where
  pub shelf : ReadsAll wanted before.shelf after.shelf
  pub desk : after.desk ≡ before.desk

-- why files can't be had and judged: reading one failed, or one is too long, or memory ran out
abbrev pub UnreadCause : List Wanted → Shelf → Shelf → Outcome → Type 0
UnreadCause wanted before after ReadFault = AreUnread wanted before after
UnreadCause wanted before after OutOfMemory = ⊤
UnreadCause wanted before after other = ⊥

-- the files can't be had, or memory ran out before they were judged
pub record IsUnread (task : Task) (outcome : Outcome) (before after : World) : Type 0 where
  pub only : OnlyRead task.wanted before after
  pub cause : UnreadCause task.wanted before.shelf after.shelf outcome

-- the files have these bytes, and are refused
pub record IsRefused (task : Task) (files : List (List ℕ)) (outcome : Outcome) (before after : World) : Type 0 where
  pub only : OnlyRead task.wanted before after
  pub read : AreRead before.shelf.files task.wanted files
  pub refused : task.refusal files ≡ Some outcome

-- the files have these bytes and aren't refused, and the command did its work after that
pub record IsWorked
    (task : Task) (Work : List (List ℕ) → Outcome → World → World → Type 0) (files : List (List ℕ)) (outcome : Outcome)
    (before after : World) : Type 0 where
  pub between : World
  pub only : OnlyRead task.wanted before between
  pub read : AreRead before.shelf.files task.wanted files
  pub accepted : task.refusal files ≡ None
  pub work : Work files outcome between after

-- a task ended in one of these three ways
abbrev pub Performs :
    Task → (List (List ℕ) → Outcome → World → World → Type 0) → List (List ℕ) → Outcome → World → World → Type 0
Performs task Work files outcome before after =
    IsUnread task outcome before after
    ⊎ (IsRefused task files outcome before after ⊎ IsWorked task Work files outcome before after)
