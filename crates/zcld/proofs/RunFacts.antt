-- What is known of `run`: its refusals, how its work ends, and what that does to the counts.
use Rattle.std.proofs.Common.{◌≡◌, ℕ, List, Option, Some, None, Result, Ok, Err, refl, ap, subst, ◌⊎◌, inl, inr}
use Rattle.std.proofs.lemmas.Option.{same_Some, none-some}
use Rattle.std.specs.Option.{option_map, option_or}
use Rattle.devices.specs.Environment.{Environment, environment_of}
use Rattle.devices.specs.Lines.{DevicesLine, has_answers}
use Rattle.devices.specs.declared.fault.DevicesFault.{DevicesFault}
use Rattle.zc_base.specs.declared.mem_map.MemMap.{MemMap}
use Rattle.elf32_read.specs.declared.image_fault.ImageFault.{ImageFault}
use Rattle.elf32_read.specs.Image.{image_fault}
use Rattle.interrupt_plan.specs.Plan.{Entry}
use Rattle.interrupt_plan.specs.declared.fault.PlanFault.{PlanFault}
use Rattle.interrupt_plan.specs.declared.fault.PlanFault.TheVariants as bad
use Rattle.rv_decode.specs.State.{ZcCore}
use Rattle.zc_outside.specs.Desk.{Desk}
use Rattle.zc_outside.specs.declared.console.ConsoleFault.TheVariants as console
use Rattle.zc_machine.specs.Load.{first_core_of}
use Rattle.zc_machine.specs.Run.{interrupts_by}
use Rattle.zc_machine.specs.declared.run.RunEnd.{RunEnd}
use Rattle.zc_machine.specs.declared.run.RunEnd.TheVariants as end
use Rattle.command_words.specs.Command.{Run}
use Rattle.zcld.specs.declared.outcome.FileFault.TheVariants.{Devices, Image, Plan}
use Rattle.zcld.specs.declared.outcome.Outcome.{Outcome}
use Rattle.zcld.specs.declared.outcome.Outcome.TheVariants.{BadFile, OutOfMemory}
use Rattle.zcld.specs.Call.{task_of}
use Rattle.zcld.specs.Given.{devices_refusal, lines_given, wants_input}
use Rattle.zcld.specs.Outcome.{plan_outcome}
use Rattle.zcld.specs.Run.{EndsRun, RunTexts, RunWork, Runs, end_outcome, plan_given, plan_refusal, run_refusal, run_texts, started_core}
use Rattle.zcld.specs.Task.{Task}
use Rattle.zcld.proofs.Answering.{Facts, IsAnswer}
use Rattle.zcld.proofs.MachineFacts.{IsRefusedWrite, executed_ends, executed_moves, unless_ends, unless_moves}

-- a refusal of an image, of devices or of a plan is an answer
run_refuses : (map : MemMap) (texts : RunTexts) (outcome : Outcome) → run_refusal map texts ≡ Some outcome → IsAnswer outcome
run_refuses map texts outcome is = by_faults (image_fault texts.image map) (lines_given map texts.devices) (plan_given texts.plan) is
  where
    by_faults :
        (image : Option ImageFault) (lines : Result (List DevicesLine) DevicesFault) (plan : Result (List Entry) PlanFault) →
        option_or (option_map (λ fault. BadFile (Image fault)) image) (option_or (devices_refusal lines) (plan_refusal plan)) ≡ Some outcome → IsAnswer outcome
    by_faults None (Ok lines) (Ok plan) none = absurd (none-some outcome none)
    by_faults None (Ok lines) (Err fault) some = subst IsAnswer (same_Some (BadFile (Plan fault)) outcome some) tt
    by_faults None (Err fault) plan some = subst IsAnswer (same_Some (BadFile (Devices fault)) outcome some) tt
    by_faults (Some fault) lines plan some = subst IsAnswer (same_Some (BadFile (Image fault)) outcome some) tt

-- with nothing refused before it, a plan that can't be had is refused, or memory ran out
pub unplanned :
    {A : Type 0} (before : Option Outcome) (plan : Result A PlanFault) (why : PlanFault) → before ≡ None → (why ≡ bad.OutOfMemory) ⊎ (plan ≡ Err why) →
    (plan_outcome why ≡ OutOfMemory) ⊎ (option_or before (plan_refusal plan) ≡ Some (plan_outcome why))
unplanned before plan (bad.BadLine number) none cause = elim cause [ inl memory ↦ absurd (cc) | inr is ↦ inr (rw (none, is) refl) ]
unplanned before plan (bad.OutOfOrder number) none cause = elim cause [ inl memory ↦ absurd (cc) | inr is ↦ inr (rw (none, is) refl) ]
unplanned before plan bad.TooLarge none cause = elim cause [ inl memory ↦ absurd (cc) | inr is ↦ inr (rw (none, is) refl) ]
unplanned before plan bad.OutOfMemory none cause = inl refl

-- each end but a write that was refused is an answer
pub end_of_run :
    (first : ZcCore) (happens : ℕ → ZcCore → ZcCore) (steps : ℕ) (environment : Environment) (answer : RunEnd × ZcCore) (before after : Desk) →
    EndsRun first happens steps environment answer before after → IsAnswer (end_outcome answer) ⊎ IsRefusedWrite (end_outcome answer) before after
end_of_run first happens steps environment (end.Exit code, machine) before after ran = inl tt
end_of_run first happens steps environment (end.Stopped reason, machine) before after ran = inl tt
end_of_run first happens steps environment (end.Spent, machine) before after ran = inl tt
end_of_run first happens steps environment (end.Console console.Failed, machine) before after ran = inr (record { known = λ e. cc; counted = ran.cause.0; unsure = ran.cause.1 })
end_of_run first happens steps environment (end.Console console.OutOfMemory, machine) before after ran = inl tt

module _ (map : MemMap) (devices plan : Option (List ℕ)) (steps : ℕ) (image : List ℕ) where
  abbrev task : Task
  task = task_of (Run map devices plan steps image)

  abbrev texts_of : List (List ℕ) → RunTexts
  texts_of files = run_texts devices plan files

  abbrev first_of : List (List ℕ) → List DevicesLine → ZcCore
  first_of files lines = started_core lines (first_core_of (texts_of files).image map)

  pub run_facts : Facts task (λ files. RunWork map steps (texts_of files))
  run_facts = record {
    refuses = λ files. run_refuses map (texts_of files);
    ends = λ files outcome before after work.
        unless_ends task files (λ input. Runs (first_of files work.lines) work.plan steps (environment_of work.lines steps input))
        (λ input.
        let environment = environment_of work.lines steps input in
        executed_ends (EndsRun (first_of files work.lines) (interrupts_by work.plan) steps environment) end_outcome task files (end_of_run (first_of files work.lines) (interrupts_by work.plan) steps environment))
        (has_answers work.lines) (ap wants_input work.named) outcome before after work.run;
    moves = λ files outcome before after work.
        unless_moves (λ input. Runs (first_of files work.lines) work.plan steps (environment_of work.lines steps input))
        (λ input. executed_moves (EndsRun (first_of files work.lines) (interrupts_by work.plan) steps (environment_of work.lines steps input)) end_outcome)
        (has_answers work.lines) outcome before after work.run;
  }
