-- What a command does that runs a machine: it takes the console's whole input, unless devices answer without it, and the machine comes
-- to an end.
use Rattle.std.specs.Prelude.{◌≡◌, ℕ, ◌⊎◌, Bool, true, false, List, []}
use Rattle.devices.specs.Environment.{Environment, environment_of}
use Rattle.devices.specs.Lines.{DevicesLine, has_answers}
use Rattle.zc_outside.specs.Desk.{Desk, OnlyWrites}
use Rattle.zc_outside.specs.World.{World, world}
use Rattle.zcld.specs.declared.outcome.Outcome.{Outcome}
use Rattle.zcld.specs.declared.outcome.Outcome.TheVariants.{OutOfMemory}
use Rattle.zcld.specs.Input.{IsUntaken, IsUntakenUnless, TakesInput, TakesUnless}

-- a machine came to one of its ends, which is this outcome; the console was only written to, and the store is unchanged
pub record HasEnded
    {End : Type 0} (Ends : End → Desk → Desk → Type 0) (outcome_of : End → Outcome) (outcome : Outcome)
    (before after : World) : Type 0 where
  pub answer : End
  pub ended : Ends answer before.desk after.desk
  pub outcome_is : outcome ≡ outcome_of answer
  pub only : OnlyWrites before.desk after.desk
  pub shelf : after.shelf ≡ before.shelf

-- there was no memory for the machine, and nothing was done; or the machine came to one of its ends
abbrev pub Executes : {End : Type 0} → (End → Desk → Desk → Type 0) → (End → Outcome) → Outcome → World → World → Type 0
Executes Ends outcome_of outcome before after =
    ((outcome ≡ OutOfMemory) × (after ≡ before)) ⊎ HasEnded Ends outcome_of outcome before after

-- the input can't be had, nothing was written, and the store is unchanged
pub record LacksInput (outcome : Outcome) (before after : World) : Type 0 where
  pub untaken : IsUntaken outcome before.desk after.desk
  pub shelf : after.shelf ≡ before.shelf

-- there is no machine with its input, which isn't wanted where the answers are given: the input can't be had, or it was taken whole,
-- and there was no memory for the machine
abbrev pub IsUnready : Bool → Outcome → Desk → Desk → Type 0
IsUnready answered outcome before after =
    IsUntakenUnless answered outcome before after
    ⊎ ((outcome ≡ OutOfMemory) × (input : List ℕ) × TakesUnless answered input before after)

-- the whole input was taken, and after that the command ran over it
pub record HasRun
    (Runs : List ℕ → Outcome → World → World → Type 0) (outcome : Outcome) (before after : World) : Type 0 where
  pub input : List ℕ
  pub between : Desk
  pub takes : TakesInput input before.desk between
  pub runs : Runs input outcome (world before.shelf between) after

-- the input can't be had, or it was taken whole and the command ran
abbrev pub TakesAndRuns : (List ℕ → Outcome → World → World → Type 0) → Outcome → World → World → Type 0
TakesAndRuns Runs outcome before after = LacksInput outcome before after ⊎ HasRun Runs outcome before after

-- the answers are given, and the command ran over no input; or it takes the whole input and runs
abbrev pub TakesUnlessAnswered : Bool → (List ℕ → Outcome → World → World → Type 0) → Outcome → World → World → Type 0
TakesUnlessAnswered true Runs = Runs []
TakesUnlessAnswered false Runs = TakesAndRuns Runs

-- the command ran with the devices of these lines, for at most `steps` steps: over what they answer, with the input left as it was,
-- or, if they have no answers, over the whole input, which was taken before
abbrev pub AnswersOrTakes :
    List DevicesLine → ℕ → (Environment → Outcome → World → World → Type 0) → Outcome → World → World → Type 0
AnswersOrTakes lines steps Runs =
    TakesUnlessAnswered (has_answers lines) (λ input. Runs (environment_of lines steps input))
