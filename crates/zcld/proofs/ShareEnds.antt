-- What is known of `share` if its run came to its end: its files were read and accepted, and the image was put.
use Rattle.std.proofs.Common.{◌≡◌, ◌++◌, ℕ, List, [], ◌∷◌, Some, sym, subst, inl, inr}
use Rattle.block_cut.specs.Faults.{first_fault}
use Rattle.interrupt_plan.specs.Text.{shared_in}
use Rattle.rv_decode.specs.State.{ZcCore}
use Rattle.zc_base.specs.Options.{Options}
use Rattle.zc_outside.specs.Desk.{Desk}
use Rattle.zc_outside.specs.Files.{Files, PutsFile}
use Rattle.zc_outside.specs.Shelf.{Shelf}
use Rattle.zc_outside.specs.Wanted.{AreRead, Wanted, each_within}
use Rattle.zc_outside.specs.World.{World}
use Rattle.zcld.specs.declared.outcome.Outcome.{Outcome}
use Rattle.zcld.specs.declared.outcome.Outcome.TheVariants.{Exited, OutOfMemory, Spent, Stopped}
use Rattle.zcld.specs.Input.{UntakenCause}
use Rattle.zcld.specs.Machines.{TakesAndRuns}
use Rattle.zcld.specs.Objects.{last_file, objects_before}
use Rattle.zcld.specs.Puts.{UnputCause}
use Rattle.zcld.specs.Run.{plan_wanted}
use Rattle.zcld.specs.Share.{PutsAndRuns, RunsFrom, share_inputs, share_refusal}
use Rattle.zcld.specs.Task.{UnreadCause}
use Rattle.zcld.proofs.ShareFacts.{by_refusals}

-- the outcome of a run that came to its end
abbrev pub IsRunEnd : Outcome → Type 0
IsRunEnd (Exited code) = Unit {0}
IsRunEnd (Stopped reason pc) = Unit {0}
IsRunEnd Spent = Unit {0}
IsRunEnd other = ⊥

pub ended_had : (outcome : Outcome) → IsRunEnd outcome → (wanted : List Wanted) (before after : Shelf) → UnreadCause wanted before after outcome → ⊥
ended_had (Exited code) ends wanted before after cause = cause
ended_had (Stopped reason pc) ends wanted before after cause = cause
ended_had Spent ends wanted before after cause = cause
ended_had other ends wanted before after cause = absurd ends

pub ended_accepted : (outcome : Outcome) → IsRunEnd outcome → (options : Options) (files : List (List ℕ)) → share_refusal options files ≡ Some outcome → ⊥
ended_accepted outcome ends options files refused =
    by_refusals (λ o. IsRunEnd o → ⊥) (λ i fault none. none) (λ fault none. none) (first_fault (share_inputs options files)) (shared_in (last_file files)) outcome refused ends

pub ended_not_memory : (outcome : Outcome) → IsRunEnd outcome → outcome ≡ OutOfMemory → ⊥
ended_not_memory outcome ends memory = subst IsRunEnd memory ends

ended_taken : (outcome : Outcome) → IsRunEnd outcome → (before after : Desk) → UntakenCause outcome before after → ⊥
ended_taken (Exited code) ends before after cause = cause
ended_taken (Stopped reason pc) ends before after cause = cause
ended_taken Spent ends before after cause = cause
ended_taken other ends before after cause = absurd ends

ended_unput : (outcome : Outcome) → IsRunEnd outcome → (before after : Shelf) → UnputCause outcome before after → ⊥
ended_unput (Exited code) ends before after cause = cause
ended_unput (Stopped reason pc) ends before after cause = cause
ended_unput Spent ends before after cause = cause
ended_unput other ends before after cause = absurd ends

-- the image was put
pub ended_put :
    (outcome : Outcome) → IsRunEnd outcome → (out image : List ℕ) (first : ZcCore) (happens : ℕ → ZcCore → ZcCore) (steps : ℕ) (before after : World) →
    TakesAndRuns (PutsAndRuns out image (RunsFrom first happens steps)) outcome before after → PutsFile before.shelf.files after.shelf.files out image
ended_put outcome ends out image first happens steps before after (inl lacks) = absurd (ended_taken outcome ends before.desk after.desk lacks.untaken.cause)
ended_put outcome ends out image first happens steps before after (inr run) = elim run.runs [
  | inl memory ↦ absurd (ended_not_memory outcome ends memory.0)
  | inr (inl unput) ↦ absurd (ended_unput outcome ends before.shelf after.shelf unput.cause)
  | inr (inr put) ↦ subst (λ (s : Shelf). PutsFile before.shelf.files s.files out image) (sym put.does.shelf) put.put
]

-- the objects are the files that were read before the plan
pub objects_read :
    (f : Files) (limit : ℕ) (plan : List ℕ) (names files : List (List ℕ)) → AreRead (Some f) (each_within limit names ++ plan_wanted (Some plan)) files →
    AreRead (Some f) (each_within limit names) (objects_before files)
objects_read f limit plan [] [] read = absurd read
objects_read f limit plan [] (file ∷ []) read = tt
objects_read f limit plan [] (file ∷ (next ∷ files)) read = absurd read.1
objects_read f limit plan (name ∷ names) [] read = absurd read
objects_read f limit plan (name ∷ []) (file ∷ []) read = absurd read.1
objects_read f limit plan (name ∷ (name' ∷ names)) (file ∷ []) read = absurd read.1
objects_read f limit plan (name ∷ names) (file ∷ (next ∷ files)) read = (read.0, objects_read f limit plan names (next ∷ files) read.1)
