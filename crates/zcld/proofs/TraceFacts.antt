-- What is known of `trace`: its refusals, how its work ends, and what that does to the counts; and how it ends without its files, with
-- files that are refused, and with its run.
use Rattle.std.proofs.Common.{◌≡◌, ◌++◌, ℕ, List, Option, Some, None, Result, Ok, Err, refl, sym, ap, subst, ◌∙◌, ◌⊎◌, inl, inr}
use Rattle.std.proofs.lemmas.Option.{same_Some, none-some}
use Rattle.std.specs.Prelude.{not}
use Rattle.std.specs.Option.{option_or}
use Rattle.block_cut.specs.Faults.{first_fault}
use Rattle.devices.specs.Environment.{environment_of}
use Rattle.devices.specs.Lines.{DevicesLine, has_answers, starts_reset}
use Rattle.devices.specs.declared.fault.DevicesFault.{DevicesFault}
use Rattle.elf32_read.specs.declared.fault.Fault.{Fault}
use Rattle.psabi_sym.specs.Faults.{gather_fault}
use Rattle.psabi_sym.specs.Inputs.{inputs_in, parsed}
use Rattle.psabi_sym.specs.LinkFault.{IsRefusal}
use Rattle.psabi_sym.specs.declared.link_fault.LinkFault.{LinkFault}
use Rattle.psabi_sym.specs.declared.link_fault.LinkFault.TheVariants as link
use Rattle.sym_machine.specs.Objects.{program_of}
use Rattle.sym_machine.specs.Program.{Program}
use Rattle.sym_machine.specs.RunEnd.{Traced, plain_course}
use Rattle.sym_machine.specs.State.{PlainState, start_plain}
use Rattle.sym_machine.specs.declared.run.TraceEnd.{TraceEnd}
use Rattle.sym_machine.specs.declared.run.TraceEnd.TheVariants as end
use Rattle.sym_machine.specs.declared.why.Why.{Why}
use Rattle.zc_base.specs.Options.{Options}
use Rattle.zc_base.specs.declared.place.Place.{Place}
use Rattle.zc_outside.specs.Course.{Course}
use Rattle.zc_outside.specs.Desk.{Desk}
use Rattle.zc_outside.specs.Wanted.{AreRead}
use Rattle.zc_outside.specs.World.{World}
use Rattle.zc_outside.specs.declared.console.ConsoleFault.TheVariants as console
use Rattle.command_words.specs.Command.{Trace}
use Rattle.zcld.specs.declared.outcome.FileFault.TheVariants.{Devices}
use Rattle.zcld.specs.declared.outcome.Outcome.{Outcome}
use Rattle.zcld.specs.declared.outcome.Outcome.TheVariants.{BadFile, OutOfMemory, Refused}
use Rattle.zcld.specs.Call.{DoesWith, task_of}
use Rattle.zcld.specs.ErrLine.{NamesNothing, err_line}
use Rattle.zcld.specs.Given.{IsGiven, devices_refusal, lines_given, text_file, wants_input}
use Rattle.zcld.specs.Machines.{AnswersOrTakes}
use Rattle.zcld.specs.Objects.{IsUngathered, refused_for}
use Rattle.zcld.specs.Outcome.{link_outcome}
use Rattle.zcld.specs.Task.{OnlyRead, Task, UnreadCause}
use Rattle.zcld.specs.Trace.{TraceTexts, TraceWork, Traces, trace_outcome, trace_refusal, trace_texts, trace_wanted}
use Rattle.zcld.proofs.Answering.{Facts, IsAnswer}
use Rattle.zcld.proofs.FaultIndex.{refusal_line}
use Rattle.zcld.proofs.GivenFacts.{trace_files}
use Rattle.zcld.proofs.MachineFacts.{IsRefusedWrite, executed_ends, executed_moves, unless_ends, unless_moves}
use Rattle.zcld.proofs.Refusals.{gather_refuses, names_in_none}

-- a refusal of objects or of devices is an answer
trace_refuses : (options : Options) (texts : TraceTexts) (outcome : Outcome) → trace_refusal options texts ≡ Some outcome → IsAnswer outcome
trace_refuses options texts outcome is = by_faults (first_fault (inputs_in options texts.objects)) (lines_given options.map texts.devices) is
  where
    by_faults :
        (found : Option (ℕ × Fault)) (lines : Result (List DevicesLine) DevicesFault) →
        option_or (refused_for found) (devices_refusal lines) ≡ Some outcome → IsAnswer outcome
    by_faults (Some f) lines some = subst IsAnswer (same_Some (Refused f.0 f.1) outcome some) tt
    by_faults None (Err fault) some = subst IsAnswer (same_Some (BadFile (Devices fault)) outcome some) tt
    by_faults None (Ok lines) none = absurd (none-some outcome none)

module _ (options : Options) (devices : Option (List ℕ)) (steps : ℕ) (names : List (List ℕ)) where
  abbrev task : Task
  task = task_of (Trace options devices steps names)

  -- each end but a write that was refused is an answer
  end_of_trace :
      (run : Course PlainState (Place × Why)) (answer : TraceEnd) (before after : Desk) → Traced run answer before after →
      IsAnswer (trace_outcome answer) ⊎ IsRefusedWrite (trace_outcome answer) before after
  end_of_trace run (end.Exited code) before after traced = inl tt
  end_of_trace run (end.Stuck place why) before after traced = inl tt
  end_of_trace run end.Spent before after traced = inl tt
  end_of_trace run (end.Console console.Failed) before after traced = inr (record { known = λ e. cc; counted = traced.cause.0; unsure = traced.cause.1 })
  end_of_trace run (end.Console console.OutOfMemory) before after traced = inl tt
  end_of_trace run end.OutOfMemory before after traced = inl tt

  abbrev program : TraceTexts → Program
  program texts = program_of (parsed (inputs_in options texts.objects))

  -- the run of a text's objects with the devices of lines, and over an input
  abbrev course : TraceTexts → List DevicesLine → List ℕ → Course PlainState (Place × Why)
  course texts lines input =
      let environment = environment_of lines steps input in
      plain_course (program texts) (start_plain (not (starts_reset lines)) (program texts) environment.input) environment.devices steps

  abbrev runs : TraceTexts → List DevicesLine → List ℕ → Outcome → World → World → Type 0
  runs texts lines input = Traces (not (starts_reset lines)) (program texts) steps (environment_of lines steps input)

  pub trace_facts : Facts task (λ files. TraceWork options steps (trace_texts devices files))
  trace_facts = record {
    refuses = λ files. trace_refuses options (trace_texts devices files);
    ends = λ files outcome before after work.
        let texts = trace_texts devices files in
        unless_ends task files (runs texts work.lines)
        (λ input.
        let run = course texts work.lines input in
        executed_ends (Traced run) trace_outcome task files (end_of_trace run))
        (has_answers work.lines) (ap wants_input work.named) outcome before after work.run;
    moves = λ files outcome before after work.
        let texts = trace_texts devices files in
        unless_moves (runs texts work.lines)
        (λ input. executed_moves (Traced (course texts work.lines input)) trace_outcome)
        (has_answers work.lines) outcome before after work.run;
  }

  -- ---- what it does

  -- the files can't be had
  pub without_files :
      (left : List (List ℕ)) (outcome : Outcome) (before after : World) → OnlyRead (trace_wanted devices names) before after →
      UnreadCause (trace_wanted devices names) before.shelf after.shelf outcome → DoesWith (Some (Trace options devices steps names)) left outcome before after
  without_files left outcome before after only cause = record { files = left; line = refl; does = inl (record { only = only; cause = cause }) }

  module _ (objects : List (List ℕ)) (text : Option (List ℕ)) (given : IsGiven devices text) (before after : World) (only : OnlyRead (trace_wanted devices names) before after) (read : AreRead before.shelf.files (trace_wanted devices names) (objects ++ text_file text)) where
    abbrev files : List (List ℕ)
    files = objects ++ text_file text

    texts_are : trace_texts devices files ≡ record { objects = objects; devices = text }
    texts_are = trace_files devices objects text given

    -- what is refused, and of which fault, by the objects and the text
    refusal_is : trace_refusal options (trace_texts devices files) ≡ option_or (refused_for (first_fault (inputs_in options objects))) (devices_refusal (lines_given options.map text))
    refusal_is = ap (trace_refusal options) texts_are

    refused_with :
        (left : List (List ℕ)) (outcome : Outcome) → trace_refusal options (trace_texts devices files) ≡ Some outcome → err_line left outcome ≡ err_line files outcome
        → DoesWith (Some (Trace options devices steps names)) left outcome before after
    refused_with left outcome refused line = record { files = files; line = line; does = inr (inl (record { only = only; read = read; refused = refused })) }

    -- the objects can't be gathered
    pub ungathered_files :
        (left : List (List ℕ)) (outcome : Outcome) → IsUngathered options objects left outcome → DoesWith (Some (Trace options devices steps names)) left outcome before after
    ungathered_files left outcome is = by is.fault is.outcome_is is.refused
      where
        by : (fault : LinkFault) → outcome ≡ link_outcome fault → IsRefusal (gather_fault (inputs_in options objects)) fault → DoesWith (Some (Trace options devices steps names)) left outcome before after
        by link.OutOfMemory same refused =
            without_files left outcome before after only (subst (λ o. UnreadCause (trace_wanted devices names) before.shelf after.shelf o) (sym same) tt)
        by (link.Object index fault) same refused =
            let found = gather_refuses (inputs_in options objects) (link.Object index fault) refused in
            refused_with left outcome
            (refusal_is ∙ ap (λ f. option_or (refused_for f) (devices_refusal (lines_given options.map text))) found ∙ ap Some (sym same))
            (is.line ∙ subst (λ o. err_line objects o ≡ err_line files o) (sym same) (refusal_line (inputs_in options objects) (text_file text) (link.Object index fault) refused))

    -- the objects or the devices are refused, or memory ran out before that was known
    pub unready_files :
        (left : List (List ℕ)) (outcome : Outcome) → NamesNothing outcome
        → (outcome ≡ OutOfMemory) ⊎ (option_or (refused_for (first_fault (inputs_in options objects))) (devices_refusal (lines_given options.map text)) ≡ Some outcome)
        → DoesWith (Some (Trace options devices steps names)) left outcome before after
    unready_files left outcome nothing (inl memory) = without_files left outcome before after only (subst (λ o. UnreadCause (trace_wanted devices names) before.shelf after.shelf o) (sym memory) tt)
    unready_files left outcome nothing (inr refused) = refused_with left outcome (refusal_is ∙ refused) (names_in_none outcome left files nothing)

    -- the objects ran with the devices
    pub traced_ran :
        (left : List (List ℕ)) (outcome : Outcome) (lines : List DevicesLine) (end : World) → NamesNothing outcome → first_fault (inputs_in options objects) ≡ None → lines_given options.map text ≡ Ok lines
        → AnswersOrTakes lines steps (Traces (not (starts_reset lines)) (program_of (parsed (inputs_in options objects))) steps) outcome after end → DoesWith (Some (Trace options devices steps names)) left outcome before end
    traced_ran left outcome lines end nothing sound named ran = record {
      files = files;
      line = names_in_none outcome left files nothing;
      does = inr (inr (record {
        between = after;
        only = only;
        read = read;
        accepted =
            refusal_is ∙ ap (λ f. option_or (refused_for f) (devices_refusal (lines_given options.map text))) sound
            ∙ ap (λ (r : Result (List DevicesLine) DevicesFault). devices_refusal r) named;
        work = subst (λ texts. TraceWork options steps texts outcome after end) (sym texts_are) (record { lines = lines; named = named; run = ran });
      }));
    }
