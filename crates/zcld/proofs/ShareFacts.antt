-- What is known of `share`: its refusals, how its work ends, and what that does to the counts; and how it ends without its files, with
-- files that are refused, and with its run.
use Rattle.std.proofs.Common.{◌≡◌, ◌++◌, ℕ, List, [], ◌∷◌, Option, Some, None, Result, Ok, Err, refl, sym, ap, ap₂, subst, ◌∙◌, ◌⊎◌, inl, inr}
use Rattle.std.proofs.lemmas.Option.{same_Some, none-some}
use Rattle.std.specs.Option.{option_or}
use Rattle.block_cut.specs.Faults.{first_fault}
use Rattle.devices.specs.Environment.{only_input}
use Rattle.elf32_read.specs.declared.fault.Fault.{Fault}
use Rattle.interrupt_plan.specs.SharedPlan.{SharedEntry}
use Rattle.interrupt_plan.specs.Text.{shared_in}
use Rattle.interrupt_plan.specs.declared.fault.PlanFault.{PlanFault}
use Rattle.psabi_sym.specs.Inputs.{Inputs, inputs_in, parsed}
use Rattle.psabi_sym.specs.Shared.{shared_ranges}
use Rattle.psabi_sym.specs.Faults.{gather_fault}
use Rattle.psabi_sym.specs.LinkFault.{IsRefusal}
use Rattle.psabi_sym.specs.declared.link_fault.LinkFault.{LinkFault}
use Rattle.psabi_sym.specs.declared.link_fault.LinkFault.TheVariants as link
use Rattle.rv_decode.specs.State.{ZcCore}
use Rattle.shared_cells.specs.SharedRun.{shared_by}
use Rattle.shared_runs.proofs.Linked.{link_shares}
use Rattle.zc_base.specs.Options.{Options}
use Rattle.zc_machine.specs.Load.{first_core_of}
use Rattle.zc_outside.specs.Desk.{OnlyWrites}
use Rattle.zc_outside.specs.Shelf.{OnlyPuts, Shelf}
use Rattle.zc_outside.specs.Wanted.{AreRead}
use Rattle.zc_outside.specs.World.{World, world}
use Rattle.zc_outside.proofs.Desk.{OnlyWrites-refl}
use Rattle.command_words.specs.Command.{Share}
use Rattle.zcld.specs.declared.outcome.FileFault.TheVariants.{Plan}
use Rattle.zcld.specs.declared.outcome.Outcome.{Outcome}
use Rattle.zcld.specs.declared.outcome.Outcome.TheVariants.{BadFile, OutOfMemory, Refused}
use Rattle.zcld.specs.Call.{DoesWith, task_of}
use Rattle.zcld.specs.ErrLine.{NamesNothing, err_line}
use Rattle.zcld.specs.Machines.{TakesAndRuns}
use Rattle.zcld.specs.Objects.{IsUngathered, last_file, refused_for}
use Rattle.zcld.specs.Outcome.{link_outcome}
use Rattle.zcld.specs.Run.{EndsRun, end_outcome, plan_refusal}
use Rattle.zc_link.specs.Links.{IsZcLink, Link}
use Rattle.zcld.specs.declared.share.SharedImage.{SharedImage}
use Rattle.zcld.specs.Share.{IsReadyToShare, PutsAndRuns, RunsFrom, ShareWork, share_inputs, share_refusal, share_wanted}
use Rattle.zcld.specs.Task.{OnlyRead, Task, UnreadCause}
use Rattle.zcld.proofs.Answering.{Facts, IsAnswer, IsFaulted, Moves, faulted_later, moves_on, no_memory, no_moves}
use Rattle.zcld.proofs.FaultIndex.{refusal_line}
use Rattle.zcld.proofs.GivenFacts.{last_is, objects_are}
use Rattle.zcld.proofs.MachineFacts.{ended_ends, ended_moves, run_ends, run_moves}
use Rattle.zcld.proofs.OutputFacts.{output_moves, unput_ends}
use Rattle.zcld.proofs.RangeOrder.{any_order}
use Rattle.zcld.proofs.Refusals.{gather_refuses, names_in_none}
use Rattle.zcld.proofs.RunFacts.{end_of_run}

-- ---- the refusals

-- what holds of each refusal of objects and of a plan holds of the first of them
pub by_refusals :
    (P : Outcome → Type 0) → ((i : ℕ) (fault : Fault) → P (Refused i fault)) → ((fault : PlanFault) → P (BadFile (Plan fault))) →
    (found : Option (ℕ × Fault)) (plan : Result (List SharedEntry) PlanFault) (outcome : Outcome) →
    option_or (refused_for found) (plan_refusal plan) ≡ Some outcome → P outcome
by_refusals P refused bad (Some f) plan outcome some = subst P (same_Some (Refused f.0 f.1) outcome some) (refused f.0 f.1)
by_refusals P refused bad None (Err fault) outcome some = subst P (same_Some (BadFile (Plan fault)) outcome some) (bad fault)
by_refusals P refused bad None (Ok plan) outcome none = absurd (none-some outcome none)

-- ---- the work

module _ (options : Options) (out plan : List ℕ) (steps : ℕ) (names : List (List ℕ)) where
  abbrev task : Task
  task = task_of (Share options out plan steps names)

  module _ (files : List (List ℕ)) (image : List ℕ) (first : ZcCore) (happens : ℕ → ZcCore → ZcCore) (input : List ℕ) where
    put_moves : (before : World) (between : Shelf) (only : OnlyPuts before.shelf between) → Moves before (world between before.desk)
    put_moves before between only = output_moves before (world between before.desk) only (OnlyWrites-refl before.desk)

    run_put_ends :
        (outcome : Outcome) (before after : World) → PutsAndRuns out image (RunsFrom first happens steps) input outcome before after → IsAnswer outcome ⊎ IsFaulted task files outcome before after
    run_put_ends outcome before after (inl memory) = inl (no_memory outcome memory.0)
    run_put_ends outcome before after (inr (inl unput)) = unput_ends task files refl outcome before after unput.cause
    run_put_ends outcome before after (inr (inr put)) =
        elim (ended_ends (EndsRun first happens steps (only_input input)) end_outcome task files (end_of_run first happens steps (only_input input)) outcome (world put.between before.desk) after put.does) [
          | inl answer ↦ inl answer
          | inr fault ↦ inr (faulted_later task files outcome before (world put.between before.desk) after (put_moves before put.between put.only)
              (λ sure. record { store = put.only.sure ∙ sure.store; console = sure.console; input = sure.input }) fault)
        ]

    run_put_moves : (outcome : Outcome) (before after : World) → PutsAndRuns out image (RunsFrom first happens steps) input outcome before after → Moves before after
    run_put_moves outcome before after (inl memory) = subst (λ w. Moves before w) (sym memory.1) (no_moves before)
    run_put_moves outcome before after (inr (inl unput)) = output_moves before after unput.only (subst (λ d. OnlyWrites before.desk d) (sym unput.desk) (OnlyWrites-refl before.desk))
    run_put_moves outcome before after (inr (inr put)) =
        moves_on before (world put.between before.desk) after (put_moves before put.between put.only)
        (ended_moves (EndsRun first happens steps (only_input input)) end_outcome outcome (world put.between before.desk) after put.does)

  -- what happens before the commits, by the files and a plan
  abbrev happens_by : List (List ℕ) → List SharedEntry → ℕ → ZcCore → ZcCore
  happens_by files entries = shared_by (shared_ranges (parsed (share_inputs options files))) entries

  -- how a link's image runs
  abbrev runs_by : List (List ℕ) → Link → List SharedEntry → List ℕ → Outcome → World → World → Type 0
  runs_by files link entries = RunsFrom (first_core_of link.elf options.map) (happens_by files entries) steps

  share_ends : (files : List (List ℕ)) (outcome : Outcome) (before after : World) → ShareWork options out steps files outcome before after → IsAnswer outcome ⊎ IsFaulted task files outcome before after
  share_ends files outcome before after (inl memory) = inl (no_memory outcome memory.0)
  share_ends files outcome before after (inr work) =
      run_ends task files (PutsAndRuns out work.link.elf (runs_by files work.link work.plan)) (run_put_ends files work.link.elf (first_core_of work.link.elf options.map) (happens_by files work.plan)) refl outcome before after work.run

  share_moves : (files : List (List ℕ)) (outcome : Outcome) (before after : World) → ShareWork options out steps files outcome before after → Moves before after
  share_moves files outcome before after (inl memory) = subst (λ w. Moves before w) (sym memory.1) (no_moves before)
  share_moves files outcome before after (inr work) =
      run_moves (PutsAndRuns out work.link.elf (runs_by files work.link work.plan)) (run_put_moves files work.link.elf (first_core_of work.link.elf options.map) (happens_by files work.plan)) outcome before after work.run

  pub share_facts : Facts task (ShareWork options out steps)
  share_facts = record {
    refuses = λ files. by_refusals IsAnswer (λ i fault. tt) (λ fault. tt) (first_fault (share_inputs options files)) (shared_in (last_file files));
    ends = share_ends;
    moves = share_moves;
  }

  -- ---- what it does

  -- the files can't be had
  pub without_files :
      (left : List (List ℕ)) (outcome : Outcome) (before after : World) → OnlyRead (share_wanted plan names) before after →
      UnreadCause (share_wanted plan names) before.shelf after.shelf outcome → DoesWith (Some (Share options out plan steps names)) left outcome before after
  without_files left outcome before after only cause = record { files = left; line = refl; does = inl (record { only = only; cause = cause }) }

  module _ (objects : List (List ℕ)) (text : List ℕ) (before after : World) (only : OnlyRead (share_wanted plan names) before after) (read : AreRead before.shelf.files (share_wanted plan names) (objects ++ text ∷ [])) where
    abbrev files : List (List ℕ)
    files = objects ++ text ∷ []

    -- what is refused, and of which fault, by the objects and the text
    refusal_is : share_refusal options files ≡ option_or (refused_for (first_fault (inputs_in options objects))) (plan_refusal (shared_in text))
    refusal_is =
        ap₂ (λ (os : List (List ℕ)) (t : List ℕ). option_or (refused_for (first_fault (inputs_in options os))) (plan_refusal (shared_in t)))
        (objects_are objects text) (last_is objects text)

    refused_with : (left : List (List ℕ)) (outcome : Outcome) → share_refusal options files ≡ Some outcome → err_line left outcome ≡ err_line files outcome → DoesWith (Some (Share options out plan steps names)) left outcome before after
    refused_with left outcome refused line = record { files = files; line = line; does = inr (inl (record { only = only; read = read; refused = refused })) }

    -- the objects can't be gathered
    pub ungathered_files :
        (left : List (List ℕ)) (outcome : Outcome) → IsUngathered options objects left outcome → DoesWith (Some (Share options out plan steps names)) left outcome before after
    ungathered_files left outcome is = by is.fault is.outcome_is is.refused
      where
        by : (fault : LinkFault) → outcome ≡ link_outcome fault → IsRefusal (gather_fault (inputs_in options objects)) fault → DoesWith (Some (Share options out plan steps names)) left outcome before after
        by link.OutOfMemory same refused =
            without_files left outcome before after only (subst (λ o. UnreadCause (share_wanted plan names) before.shelf after.shelf o) (sym same) tt)
        by (link.Object index fault) same refused =
            let found = gather_refuses (inputs_in options objects) (link.Object index fault) refused in
            refused_with left outcome
            (refusal_is ∙ ap (λ f. option_or (refused_for f) (plan_refusal (shared_in text))) found ∙ ap Some (sym same))
            (is.line ∙ subst (λ o. err_line objects o ≡ err_line files o) (sym same) (refusal_line (inputs_in options objects) (text ∷ []) (link.Object index fault) refused))

    -- the objects or the plan are refused, or memory ran out before that was known
    pub unshared_files :
        (left : List (List ℕ)) (outcome : Outcome) → NamesNothing outcome
        → (outcome ≡ OutOfMemory) ⊎ (option_or (refused_for (first_fault (inputs_in options objects))) (plan_refusal (shared_in text)) ≡ Some outcome)
        → DoesWith (Some (Share options out plan steps names)) left outcome before after
    unshared_files left outcome nothing (inl memory) = without_files left outcome before after only (subst (λ o. UnreadCause (share_wanted plan names) before.shelf after.shelf o) (sym memory) tt)
    unshared_files left outcome nothing (inr refused) = refused_with left outcome (refusal_is ∙ refused) (names_in_none outcome left files nothing)

    -- the objects were linked, and the image ran
    pub shared_ran :
        (left : List (List ℕ)) (outcome : Outcome) (shared : SharedImage) (end : World) → NamesNothing outcome → IsReadyToShare (inputs_in options objects) text shared
        → TakesAndRuns (PutsAndRuns out shared.image.items (RunsFrom (first_core_of shared.image.items options.map) (shared_by shared.ranges.items shared.plan) steps)) outcome after end
        → DoesWith (Some (Share options out plan steps names)) left outcome before end
    shared_ran left outcome shared end nothing ready ran =
        let inputs_are : share_inputs options files ≡ inputs_in options objects = ap (inputs_in options) (objects_are objects text) in
        let happens_are : shared_by shared.ranges.items shared.plan ≡ shared_by (shared_ranges (parsed (share_inputs options files))) shared.plan =
        sym (any_order (shared_ranges (parsed (inputs_in options objects))) shared.ranges.items ready.ranges shared.plan)
        ∙ ap (λ (is : Inputs). shared_by (shared_ranges (parsed is)) shared.plan) (sym inputs_are) in
        let linked : IsZcLink (share_inputs options files) ready.link = subst (λ is. IsZcLink is ready.link) (sym inputs_are) ready.linked in
        record {
          files = files;
          line = names_in_none outcome left files nothing;
          does = inr (inr (record {
            between = after;
            only = only;
            read = read;
            accepted =
                refusal_is ∙ ap (λ f. option_or (refused_for f) (plan_refusal (shared_in text))) ready.faultless
                ∙ ap (λ (p : Result (List SharedEntry) PlanFault). plan_refusal p) ready.spelled;
            work = inr (record {
              link = ready.link;
              linked = linked;
              shares = link_shares (share_inputs options files) ready.link linked;
              plan = shared.plan;
              spelled = ap shared_in (last_is objects text) ∙ ready.spelled;
              run =
                  subst (λ happens. TakesAndRuns (PutsAndRuns out ready.link.elf (RunsFrom (first_core_of ready.link.elf options.map) happens steps)) outcome after end) happens_are
                  (subst (λ image. TakesAndRuns (PutsAndRuns out image (RunsFrom (first_core_of image options.map) (shared_by shared.ranges.items shared.plan) steps)) outcome after end) ready.image_is ran);
            });
          }));
        }
