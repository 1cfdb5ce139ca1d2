-- What a command does that writes objects again: it puts the results and writes lines on them, unless they would have a fault.
use Rattle.std.specs.Prelude.{◌≡◌, ℕ, ◌⊎◌, true, false, List}
use Rattle.elf32_read.specs.declared.fault.Fault.{Fault}
use Rattle.zc_base.specs.Options.{Options}
use Rattle.zc_outside.specs.Desk.{OnlyWrites}
use Rattle.zc_outside.specs.Shelf.{OnlyPuts}
use Rattle.zc_outside.specs.World.{World}
use Rattle.zcld.specs.declared.outcome.Outcome.{Outcome}
use Rattle.zcld.specs.declared.outcome.Outcome.TheVariants.{Broken, OutOfMemory}
use Rattle.zcld.specs.Objects.{objects_refusal, objects_wanted}
use Rattle.zcld.specs.Puts.{Output, PutsInTurn}
use Rattle.zcld.specs.Task.{Task}

-- it reads objects, refuses them as a link under the options does, and puts files
abbrev pub rewrite_task : Options → List (List ℕ) → Task
rewrite_task options objects = record {
  wanted = objects_wanted objects;
  refusal = objects_refusal options;
  puts = true;
  takes = λ files. false;
}

-- the objects have no fault, but the results would, and nothing was done
pub record BreaksObjects (Breaks : ℕ → Fault → Type 0) (outcome : Outcome) (before after : World) : Type 0 where
  pub index : ℕ
  pub fault : Fault
  pub broken : Breaks index fault
  pub outcome_is : outcome ≡ Broken index fault
  pub nothing : after ≡ before

-- the results were put and the lines written, as far as this outcome says
pub record PutsResults {A : Type 0}
    (AreResults : A → Type 0) (output : A → Output) (outcome : Outcome) (before after : World) : Type 0 where
  pub results : A
  pub are : AreResults results
  pub done : PutsInTurn outcome (output results) before after
  pub shelf : OnlyPuts before.shelf after.shelf
  pub desk : OnlyWrites before.desk after.desk

-- there was no memory for the results or their names, and nothing was done; or they would have a fault; or they were put
abbrev pub Rewrites :
    {A : Type 0} → (ℕ → Fault → Type 0) → (A → Type 0) → (A → Output) → Outcome → World → World → Type 0
Rewrites Breaks AreResults output outcome before after =
    ((outcome ≡ OutOfMemory) × (after ≡ before))
    ⊎ (BreaksObjects Breaks outcome before after ⊎ PutsResults AreResults output outcome before after)
