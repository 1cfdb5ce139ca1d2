-- The console's whole input.
use Rattle.std.specs.Prelude.{◌≡◌, ℕ, ◌+◌, ◌-◌, ◌^◌, ◌<◌, ◌≤◌, ◌⊎◌, ◌↔◌, ◌++◌, Bool, true, false, IsTrue, length, min, List, [], Option, Some, None, ⊤}
use Rattle.zc_outside.specs.Desk.{Desk, OnlyTakes}
use Rattle.zc_outside.specs.Files.{Rose}
use Rattle.zcld.specs.declared.input.TheConstants.{INPUT_LIMIT}
use Rattle.zcld.specs.declared.outcome.Outcome.{Outcome}
use Rattle.zcld.specs.declared.outcome.Outcome.TheVariants.{ReadFault, OutOfMemory}

-- if the input was told, these are its bytes, and none are left
abbrev pub TakesAll : Option (List ℕ) → Option (List ℕ) → List ℕ → Type 0
TakesAll None after input = ⊤
TakesAll (Some xs) None input = ⊥
TakesAll (Some xs) (Some ys) input = (input ≡ xs) × (ys ≡ [])

-- the whole input was taken, and it isn't above its limit
pub record TakesInput (input : List ℕ) (before after : Desk) : Type 0 where
  pub all : TakesAll before.input after.input input
  pub short : length input ≤ INPUT_LIMIT
  pub only : OnlyTakes before after

-- a 64-bit count that rose by more than this, or stands at its last value
abbrev pub RoseAbove : ℕ → ℕ → ℕ → Type 0
RoseAbove limit before now = min (before + limit + 1) (2 ^ 64 - 1) ≤ now

-- if the input was told, it was longer than its limit
abbrev pub IsLongInput : Option (List ℕ) → Type 0
IsLongInput None = ⊤
IsLongInput (Some xs) = INPUT_LIMIT < length xs

-- the input is told, and no longer than its limit
abbrev pub IsShortInput : Option (List ℕ) → Type 0
IsShortInput None = ⊥
IsShortInput (Some xs) = length xs ≤ INPUT_LIMIT

-- why the input can't be had: taking it failed, at a console that isn't sure; or it is too long; or memory ran out
abbrev pub UntakenCause : Outcome → Desk → Desk → Type 0
UntakenCause ReadFault before after =
    (Rose before.read_faults after.read_faults × (IsTrue before.sure → ⊥))
    ⊎ (RoseAbove INPUT_LIMIT before.taken after.taken × IsLongInput before.input)
UntakenCause OutOfMemory before after = ⊤
UntakenCause other before after = ⊥

-- the input can't be had, and nothing was written
pub record IsUntaken (outcome : Outcome) (before after : Desk) : Type 0 where
  pub cause : UntakenCause outcome before after
  pub only : OnlyTakes before after

-- ---- input that isn't wanted where the answers are given without it

-- none was taken, as the answers are given; or the whole input was
abbrev pub TakesUnless : Bool → List ℕ → Desk → Desk → Type 0
TakesUnless true input before after = (input ≡ []) × (after ≡ before)
TakesUnless false input before after = TakesInput input before after

-- the input can't be had, as it is wanted
abbrev pub IsUntakenUnless : Bool → Outcome → Desk → Desk → Type 0
IsUntakenUnless true outcome before after = ⊥
IsUntakenUnless false outcome before after = IsUntaken outcome before after

-- ---- a piece of the input

-- if the input was told: its first n bytes stand after those that were taken before, and none do if none was left
abbrev pub TakesPart : Option (List ℕ) → Option (List ℕ) → List ℕ → List ℕ → ℕ → Type 0
TakesPart None after old new n = ⊤
TakesPart (Some xs) None old new n = ⊥
TakesPart (Some xs) (Some ys) old new n = (new ++ ys ≡ old ++ xs) × ((n ≡ 0) ↔ (xs ≡ []))
