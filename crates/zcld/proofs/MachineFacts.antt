-- What is known of a command that runs a machine over the console's whole input, or over what devices answer: how that ends, and what it
-- does to the counts.
use Rattle.std.proofs.Common.{◌≡◌, ◌≢◌, ℕ, refl, ap, length, Bool, true, false, not, List, [], Option, Some, None, IsTrue, sym, subst, ◌∙◌, ◌⊎◌, inl, inr, arith}
use Rattle.zc_outside.specs.Desk.{Desk, OnlyTakes}
use Rattle.zc_outside.specs.Files.{Rose}
use Rattle.zc_outside.specs.Shelf.{OnlyPuts, Shelf}
use Rattle.zc_outside.specs.World.{World, world}
use Rattle.zc_outside.proofs.Shelf.{OnlyPuts-refl}
use Rattle.zcld.specs.declared.outcome.Outcome.{Outcome}
use Rattle.zcld.specs.declared.outcome.Outcome.TheVariants.{ReadFault, OutOfMemory, Usage}
use Rattle.zcld.specs.Call.{IsSure}
use Rattle.zcld.specs.Input.{IsLongInput, IsShortInput, TakesAll, TakesInput, TakesUnless, UntakenCause}
use Rattle.zcld.specs.Machines.{Executes, HasEnded, IsUnready, TakesAndRuns, TakesUnlessAnswered}
use Rattle.zcld.specs.Task.{Task}
use Rattle.zcld.proofs.Answering.{IsAnswer, IsFaulted, Moves, faulted_later, moves_on, no_memory, no_moves}
use Rattle.zcld.proofs.OutputFacts.{output_moves}

-- no input is both too long and not
not_both : (told : Option (List ℕ)) → IsShortInput told → IsLongInput told → ⊥
not_both None short long = short
not_both (Some xs) short long = omega (arith, short, long)

-- the console refused a write: the refusal was counted, and the console isn't sure
pub record IsRefusedWrite (outcome : Outcome) (before after : Desk) : Type 0 where
  pub known : outcome ≢ Usage
  pub counted : Rose before.write_faults after.write_faults
  pub unsure : IsTrue before.sure → ⊥

-- ---- the end of a machine

module _ {End : Type 0} (Ends : End → Desk → Desk → Type 0) (outcome_of : End → Outcome) where
  module _ (task : Task) (files : List (List ℕ)) (each : (end : End) (before after : Desk) → Ends end before after → IsAnswer (outcome_of end) ⊎ IsRefusedWrite (outcome_of end) before after) where
    pub ended_ends : (outcome : Outcome) (before after : World) → HasEnded Ends outcome_of outcome before after → IsAnswer outcome ⊎ IsFaulted task files outcome before after
    ended_ends outcome before after run =
        elim (subst (λ o. IsAnswer o ⊎ IsRefusedWrite o before.desk after.desk) (sym run.outcome_is) (each run.answer before.desk after.desk run.ended)) [
          | inl answer ↦ inl answer
          | inr refused ↦ inr (record {
            known = refused.known;
            counted = λ clean. clean.written refused.counted;
            unsure = λ sure. refused.unsure sure.console;
          })
        ]

    pub executed_ends : (outcome : Outcome) (before after : World) → Executes Ends outcome_of outcome before after → IsAnswer outcome ⊎ IsFaulted task files outcome before after
    executed_ends outcome before after (inl memory) = inl (no_memory outcome memory.0)
    executed_ends outcome before after (inr run) = ended_ends outcome before after run

  pub ended_moves : (outcome : Outcome) (before after : World) → HasEnded Ends outcome_of outcome before after → Moves before after
  ended_moves outcome before after run = output_moves before after (subst (λ s. OnlyPuts before.shelf s) (sym run.shelf) (OnlyPuts-refl before.shelf)) run.only

  pub executed_moves : (outcome : Outcome) (before after : World) → Executes Ends outcome_of outcome before after → Moves before after
  executed_moves outcome before after (inl memory) = subst (λ w. Moves before w) (sym memory.1) (no_moves before)
  executed_moves outcome before after (inr run) = ended_moves outcome before after run

-- ---- the input

-- a machine with its input that can't be had: no input, or no memory
pub not_ready :
    (Runs : List ℕ → Outcome → World → World → Type 0) → ((input : List ℕ) (w : World) → Runs input OutOfMemory w w) →
    (answered : Bool) (outcome : Outcome) (shelf : Shelf) (before after : Desk) → IsUnready answered outcome before after →
    TakesUnlessAnswered answered Runs outcome (world shelf before) (world shelf after)
not_ready Runs lacks true outcome shelf before after (inl untaken) = absurd untaken
not_ready Runs lacks true outcome shelf before after (inr memory) =
    subst (λ o. Runs [] o (world shelf before) (world shelf after)) (sym memory.0)
    (subst (λ d. Runs [] OutOfMemory (world shelf before) (world shelf d)) (sym memory.2.1) (lacks [] (world shelf before)))
not_ready Runs lacks false outcome shelf before after (inl untaken) = inl (record { untaken = untaken; shelf = refl })
not_ready Runs lacks false outcome shelf before after (inr memory) = inr (record {
  input = memory.1;
  between = after;
  takes = memory.2;
  runs = subst (λ o. Runs memory.1 o (world shelf after) (world shelf after)) (sym memory.0) (lacks memory.1 (world shelf after));
})

-- the command ran over its input, or over none
pub ran_over :
    (Runs : List ℕ → Outcome → World → World → Type 0) (answered : Bool) (input : List ℕ) (outcome : Outcome) (shelf : Shelf) (before between : Desk) (after : World) →
    TakesUnless answered input before between → Runs input outcome (world shelf between) after → TakesUnlessAnswered answered Runs outcome (world shelf before) after
ran_over Runs true input outcome shelf before between after takes runs =
    subst (λ d. Runs [] outcome (world shelf d) after) takes.1 (subst (λ xs. Runs xs outcome (world shelf between) after) takes.0 runs)
ran_over Runs false input outcome shelf before between after takes runs = inr (record { input = input; between = between; takes = takes; runs = runs })

-- taking input moves only the counts of the console's input
takes_moves : (before after : World) → after.shelf ≡ before.shelf → OnlyTakes before.desk after.desk → Moves before after
takes_moves before after same only = record {
  shelf = subst (λ s. OnlyPuts before.shelf s) (sym same) (OnlyPuts-refl before.shelf);
  reads = only.reads;
  writes = omega (arith, only.writes);
  taken = only.taken;
  sure = only.sure;
  counted = λ sure. (only.counted sure, only.writes);
}

-- after the whole input was taken none is left, so it isn't too long
none_left : (before after : Option (List ℕ)) (input : List ℕ) → TakesAll before after input → IsShortInput before → IsShortInput after
none_left None after input takes short = absurd short
none_left (Some xs) None input takes short = absurd takes
none_left (Some xs) (Some ys) input takes short = omega (arith, ap length takes.1)

module _ (task : Task) (files : List (List ℕ)) where
  -- input that can't be had: memory ran out, or a fault was counted, at a console that isn't sure or has too much of it
  untaken_ends :
      IsTrue (task.takes files) → (outcome : Outcome) (before after : World) → UntakenCause outcome before.desk after.desk →
      IsAnswer outcome ⊎ IsFaulted task files outcome before after
  untaken_ends takes OutOfMemory before after cause = inl tt
  untaken_ends takes ReadFault before after cause = inr (record {
    known = λ e. cc;
    counted = λ clean. elim cause [ inl failed ↦ (clean.taken takes).0 failed.0 | inr long ↦ (clean.taken takes).1 long.0 ];
    unsure = λ sure. elim cause [
      | inl failed ↦ failed.1 sure.console
      | inr long ↦ not_both before.desk.input (sure.input takes) long.1
    ];
  })
  untaken_ends takes other before after cause = absurd cause

  -- an outside that is sure still is after the input was taken
  taken_sure : (input : List ℕ) (before : World) (between : Desk) → TakesInput input before.desk between → IsSure task files before → IsSure task files (world before.shelf between)
  taken_sure input before between taken sure = record {
    store = sure.store;
    console = taken.only.sure ∙ sure.console;
    input = λ takes. none_left before.desk.input between.input input taken.all (sure.input takes);
  }

  module _ (Runs : List ℕ → Outcome → World → World → Type 0) (each : (input : List ℕ) (outcome : Outcome) (before after : World) → Runs input outcome before after → IsAnswer outcome ⊎ IsFaulted task files outcome before after) where
    pub run_ends : IsTrue (task.takes files) → (outcome : Outcome) (before after : World) → TakesAndRuns Runs outcome before after → IsAnswer outcome ⊎ IsFaulted task files outcome before after
    run_ends takes outcome before after (inl lacks) = untaken_ends takes outcome before after lacks.untaken.cause
    run_ends takes outcome before after (inr run) = elim (each run.input outcome (world before.shelf run.between) after run.runs) [
      | inl answer ↦ inl answer
      | inr fault ↦
          inr (faulted_later task files outcome before (world before.shelf run.between) after (takes_moves before (world before.shelf run.between) refl run.takes.only) (taken_sure run.input before run.between run.takes) fault)
    ]

    -- a command takes input with these files unless the answers are given; a run whose answers are given takes none
    pub unless_ends :
        (answered : Bool) → task.takes files ≡ not answered → (outcome : Outcome) (before after : World) → TakesUnlessAnswered answered Runs outcome before after →
        IsAnswer outcome ⊎ IsFaulted task files outcome before after
    unless_ends true takes outcome before after runs = each [] outcome before after runs
    unless_ends false takes outcome before after runs = run_ends takes outcome before after runs

module _ (Runs : List ℕ → Outcome → World → World → Type 0) (each : (input : List ℕ) (outcome : Outcome) (before after : World) → Runs input outcome before after → Moves before after) where
  pub run_moves : (outcome : Outcome) (before after : World) → TakesAndRuns Runs outcome before after → Moves before after
  run_moves outcome before after (inl lacks) = takes_moves before after lacks.shelf lacks.untaken.only
  run_moves outcome before after (inr run) =
      moves_on before (world before.shelf run.between) after (takes_moves before (world before.shelf run.between) refl run.takes.only)
      (each run.input outcome (world before.shelf run.between) after run.runs)

  pub unless_moves : (answered : Bool) (outcome : Outcome) (before after : World) → TakesUnlessAnswered answered Runs outcome before after → Moves before after
  unless_moves true outcome before after runs = each [] outcome before after runs
  unless_moves false outcome before after runs = run_moves outcome before after runs
