-- What is known of a command that writes objects again: its refusals, how its work ends, and what that does to the counts; and how it
-- ends with files that were read.
use Rattle.std.proofs.Common.{◌≡◌, ℕ, List, Some, None, refl, sym, ap, subst, ◌⊎◌, inl, inr}
use Rattle.psabi_sym.specs.Inputs.{Inputs, inputs_in}
use Rattle.block_cut.specs.Faults.{first_fault}
use Rattle.elf32_read.specs.declared.fault.Fault.{Fault}
use Rattle.zc_base.specs.Options.{Options}
use Rattle.zc_outside.specs.Desk.{OnlyWrites}
use Rattle.zc_outside.specs.Shelf.{OnlyPuts}
use Rattle.zc_outside.specs.Wanted.{AreRead}
use Rattle.zc_outside.specs.World.{World}
use Rattle.command_words.specs.Command.{Command}
use Rattle.zcld.specs.declared.outcome.Outcome.{Outcome}
use Rattle.zcld.specs.declared.outcome.Outcome.TheVariants.{Broken, OutOfMemory, Refused}
use Rattle.zcld.specs.Call.{DoesWith, task_of, work_of}
use Rattle.zcld.specs.ErrLine.{NamesNothing}
use Rattle.zcld.specs.Objects.{objects_wanted, refused_for}
use Rattle.zcld.specs.Puts.{Output, PutsInTurn}
use Rattle.zcld.specs.Rewrites.{Rewrites, rewrite_task}
use Rattle.zcld.specs.Task.{OnlyRead}
use Rattle.zcld.proofs.Answering.{Facts, IsAnswer, IsFaulted, Moves, no_memory, no_moves}
use Rattle.zcld.proofs.OutputFacts.{output_ends, output_moves}
use Rattle.zcld.proofs.Refusals.{names_in_none}
use Rattle.zcld.proofs.WithObjects.{with_read, without_objects}
use Rattle.zcld.proofs.ZcFacts.{fault_refuses}

module _ {A : Type 0} (options : Options) (Breaks : Inputs → ℕ → Fault → Type 0) (AreResults : Inputs → A → Type 0) (output : A → Output) where
  abbrev Work : List (List ℕ) → Outcome → World → World → Type 0
  Work files = Rewrites (Breaks (inputs_in options files)) (AreResults (inputs_in options files)) output

  module _ (names : List (List ℕ)) where
    rewrite_ends :
        (files : List (List ℕ)) (outcome : Outcome) (before after : World) → Work files outcome before after →
        IsAnswer outcome ⊎ IsFaulted (rewrite_task options names) files outcome before after
    rewrite_ends files outcome before after (inl memory) = inl (no_memory outcome memory.0)
    rewrite_ends files outcome before after (inr (inl breaks)) = inl (subst IsAnswer (sym breaks.outcome_is) tt)
    rewrite_ends files outcome before after (inr (inr put)) = output_ends (rewrite_task options names) files (output put.results) (inl refl) outcome before after put.done

    rewrite_moves : (files : List (List ℕ)) (outcome : Outcome) (before after : World) → Work files outcome before after → Moves before after
    rewrite_moves files outcome before after (inl memory) = subst (λ w. Moves before w) (sym memory.1) (no_moves before)
    rewrite_moves files outcome before after (inr (inl breaks)) = subst (λ w. Moves before w) (sym breaks.nothing) (no_moves before)
    rewrite_moves files outcome before after (inr (inr put)) = output_moves before after put.shelf put.desk

    pub rewrite_facts : Facts (rewrite_task options names) Work
    rewrite_facts = record { refuses = λ files. fault_refuses (first_fault (inputs_in options files)); ends = rewrite_ends; moves = rewrite_moves }

  module _ (command : Command) (names files : List (List ℕ)) (is_task : task_of command ≡ rewrite_task options names) (is_work : work_of command files ≡ Work files)
      (before between : World) (only : OnlyRead (objects_wanted names) before between)
      (read : AreRead before.shelf.files (objects_wanted names) files) where
    worked :
        (left : List (List ℕ)) (outcome : Outcome) (after : World) → first_fault (inputs_in options files) ≡ None → NamesNothing outcome
        → Work files outcome between after → DoesWith (Some command) left outcome before after
    worked left outcome after sound nothing work =
        with_read command options names left outcome before after between files (ap (λ t. t.wanted) is_task) (ap (λ t. t.refusal) is_task) only read sound
        (names_in_none outcome left files nothing) (subst (λ (W : Outcome → World → World → Type 0). W outcome between after) (sym is_work) work)

    -- the objects were refused, or there was no memory, or the results would have a fault; and nothing was done
    pub refused_first : (index : ℕ) (fault : Fault) → first_fault (inputs_in options files) ≡ Some (index, fault) → DoesWith (Some command) files (Refused index fault) before between
    refused_first index fault is =
        without_objects command options names files (Refused index fault) before between (ap (λ t. t.wanted) is_task) (ap (λ t. t.refusal) is_task) only
        (inr (record { files = files; read = read; refused = ap refused_for is; line = refl }))

    pub lacked_memory : DoesWith (Some command) files OutOfMemory before between
    lacked_memory = without_objects command options names files OutOfMemory before between (ap (λ t. t.wanted) is_task) (ap (λ t. t.refusal) is_task) only (inl tt)

    pub broke : (index : ℕ) (fault : Fault) → first_fault (inputs_in options files) ≡ None → Breaks (inputs_in options files) index fault → DoesWith (Some command) files (Broken index fault) before between
    broke index fault sound breaks =
        worked files (Broken index fault) between sound (λ files. refl)
        (inr (inl (record { index = index; fault = fault; broken = breaks; outcome_is = refl; nothing = refl })))

    -- there are results: they were put, or there was no memory for the names
    pub with_results :
        (left : List (List ℕ)) (outcome : Outcome) (results : A) (after : World) → first_fault (inputs_in options files) ≡ None → AreResults (inputs_in options files) results
        → ((outcome ≡ OutOfMemory) × (after ≡ between)) ⊎ PutsInTurn outcome (output results) between after → OnlyPuts between.shelf after.shelf
        → OnlyWrites between.desk after.desk → NamesNothing outcome → DoesWith (Some command) left outcome before after
    with_results left outcome results after sound are done shelf desk nothing =
        worked left outcome after sound nothing
        (elim done [
          | inl memory ↦ inl memory
          | inr put ↦ inr (inr (record { results = results; are = are; done = put; shelf = shelf; desk = desk }))
        ])
