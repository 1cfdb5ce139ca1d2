-- What is known of `make`: it refuses nothing, how its work ends, and what that does to the counts.
use Rattle.std.proofs.Common.{◌≡◌, ℕ, List, [], Option, Some, None, Result, Ok, Err, IsTrue, refl, sym, subst, ◌⊎◌, inl, inr}
use Rattle.std.specs.Option.{is_some}
use Rattle.std.proofs.lemmas.Option.{none-some}
use Rattle.std.specs.Result.{IfErr, IsErrAnd, OnOk}
use Rattle.zc_outside.specs.Desk.{OnlyWrites}
use Rattle.zc_outside.specs.Shelf.{OnlyPuts}
use Rattle.zc_outside.specs.World.{World}
use Rattle.zc_outside.proofs.Wanted.{ReadsAll-none}
use Rattle.load_maker.specs.Objects.{made_objects}
use Rattle.load_runner.specs.declared.load_end.LoadEnd.{LoadEnd}
use Rattle.load_runner.specs.declared.load_end.LoadEnd.TheVariants as end
use Rattle.zcld.specs.declared.outcome.Outcome.{Outcome}
use Rattle.zcld.specs.declared.outcome.Outcome.TheVariants.{OutOfMemory}
use Rattle.zcld.specs.Call.{DoesWith, task_of}
use Rattle.zcld.specs.ErrLine.{NamesNothing}
use Rattle.command_words.specs.Command.{Make}
use Rattle.zcld.specs.Make.{IsSummary, IsUnloaded, MakeWork, object_files}
use Rattle.zcld.specs.Outcome.{load_outcome}
use Rattle.zcld.specs.Puts.{PutsInTurn}
use Rattle.zcld.specs.Task.{Task}
use Rattle.zcld.proofs.Answering.{Facts, IsAnswer, IsFaulted, Moves, no_moves}
use Rattle.zcld.proofs.OutputFacts.{output_ends, output_moves}

-- what holds of OutOfMemory holds of a result whose only error that is
pub memory_alone : {A : Type 0} (P : Outcome → Type 0) (result : Result A Outcome) → P OutOfMemory → IsErrAnd result (λ o. o ≡ OutOfMemory) → IfErr result P
memory_alone P (Ok x) holds is = tt
memory_alone P (Err o) holds is = subst P (sym is) holds

-- what follows, follows of a result
pub on_ok : {A E : Type 0} {P Q : Type 0} (result : Result A E) → (P → Q) → OnOk result P → OnOk result Q
on_ok (Ok x) follows holds = follows holds
on_ok (Err e) follows holds = tt

pub if_err : {A E : Type 0} {P Q : E → Type 0} (result : Result A E) → ((e : E) → P e → Q e) → IfErr result P → IfErr result Q
if_err (Ok x) follows holds = tt
if_err (Err e) follows holds = follows e holds

-- an end without a load is an answer
load_answers : (last : LoadEnd) → IsAnswer (load_outcome last)
load_answers (end.Stuck place why) = tt
load_answers end.Spent = tt
load_answers end.OutOfMemory = tt

-- without a prefix nothing is put
names_or_none : (prefix : Option (List ℕ)) (objects : List (List ℕ)) → IsTrue (is_some prefix) ⊎ (object_files prefix objects ≡ [])
names_or_none None objects = inr refl
names_or_none (Some name) objects = inl refl

module _ (prefix : Option (List ℕ)) (number functions : ℕ) where
  abbrev task : Task
  task = task_of (Make prefix number functions)

  make_ends :
      (files : List (List ℕ)) (outcome : Outcome) (before after : World) → MakeWork prefix number functions files outcome before after →
      IsAnswer outcome ⊎ IsFaulted task files outcome before after
  make_ends files outcome before after (inl without) = inl (subst IsAnswer (sym without.0.outcome_is) (load_answers without.0.end))
  make_ends files outcome before after (inr put) =
      output_ends task files (record { files = object_files prefix (made_objects number functions); text = put.text })
      (names_or_none prefix (made_objects number functions)) outcome before after put.done

  make_moves :
      (files : List (List ℕ)) (outcome : Outcome) (before after : World) → MakeWork prefix number functions files outcome before after → Moves before after
  make_moves files outcome before after (inl without) = subst (λ w. Moves before w) (sym without.1) (no_moves before)
  make_moves files outcome before after (inr put) = output_moves before after put.shelf put.desk

  pub make_facts : Facts task (MakeWork prefix number functions)
  make_facts = record { refuses = λ files outcome none. absurd (none-some outcome none); ends = make_ends; moves = make_moves }

  -- `make` reads nothing, so its work is all that it does
  pub does_work :
      (outcome : Outcome) (before after : World) → NamesNothing outcome → MakeWork prefix number functions [] outcome before after
      → (left : List (List ℕ)) → DoesWith (Some (Make prefix number functions)) left outcome before after
  does_work outcome before after nothing work left = record {
    files = [];
    does = inr (inr (record { between = before; only = record { shelf = ReadsAll-none before.shelf; desk = refl }; read = tt; accepted = refl; work = work }));
    line = nothing left;
  }

  module _ (objects : List (List ℕ)) (made : objects ≡ made_objects number functions) where
    -- no load of the objects is known
    pub no_load : (outcome : Outcome) (before : World) → IsUnloaded number objects outcome → MakeWork prefix number functions [] outcome before before
    no_load outcome before without = inl (subst (λ all. IsUnloaded number all outcome) made without, refl)

    -- the objects were put and the summary written, as far as an outcome says
    pub load_put :
        (outcome : Outcome) (text : List ℕ) (before after : World) → IsSummary number functions objects text
        → PutsInTurn outcome (record { files = object_files prefix objects; text = text }) before after
        → OnlyPuts before.shelf after.shelf → OnlyWrites before.desk after.desk → MakeWork prefix number functions [] outcome before after
    load_put outcome text before after summary done shelf desk = inr (record {
      text = text;
      summary = subst (λ all. IsSummary number functions all text) made summary;
      done = subst (λ all. PutsInTurn outcome (record { files = object_files prefix all; text = text }) before after) made done;
      shelf = shelf;
      desk = desk;
    })
