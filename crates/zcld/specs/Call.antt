-- What a call of the program does: what its command does up to a world, and from there the outcome's line.
use Rattle.std.specs.Prelude.{◌≡◌, ℕ, ◌⊎◌, true, false, IsTrue, is_some, List, [], Option, Some, None, ⊤}
use Rattle.zc_outside.specs.Desk.{Desk, OnlyWrites, WriteCause}
use Rattle.zc_outside.specs.Files.{Files, Rose}
use Rattle.zc_outside.specs.Streams.{Adds, AddsPart, KeepsBytes}
use Rattle.zc_outside.specs.Wanted.{AreHeld, AreRead, IsOneLong, Wanted}
use Rattle.zc_outside.specs.World.{World}
use Rattle.zc_outside.specs.declared.console.ConsoleFault.{ConsoleFault}
use Rattle.command_words.specs.Command.{Check, Command, Gc, Listing, Make, Merge, Plain, Run, Share, Trace, Zc}
use Rattle.zcld.specs.declared.input.TheConstants.{INPUT_LIMIT}
use Rattle.zcld.specs.declared.outcome.Outcome.{Outcome}
use Rattle.zcld.specs.declared.outcome.Outcome.TheVariants.{Usage, ReadFault, WriteFault, OutOfMemory}
use Rattle.zcld.specs.Check.{CheckWork, check_refusal, check_wanted}
use Rattle.zcld.specs.ErrLine.{err_line}
use Rattle.zcld.specs.Gc.{GcWork}
use Rattle.zcld.specs.Given.{lines_given, wants_input}
use Rattle.zcld.specs.Input.{IsShortInput, RoseAbove}
use Rattle.zcld.specs.List.{ListWork, list_refusal, list_wanted}
use Rattle.zcld.specs.Make.{MakeWork}
use Rattle.zcld.specs.Merge.{MergeWork}
use Rattle.zcld.specs.Objects.{objects_refusal, objects_wanted}
use Rattle.zcld.specs.Plain.{PlainWork}
use Rattle.zcld.specs.Rewrites.{rewrite_task}
use Rattle.zcld.specs.Run.{RunWork, run_refusal, run_texts, run_wanted}
use Rattle.zcld.specs.Share.{ShareWork, share_refusal, share_wanted}
use Rattle.zcld.specs.Task.{Performs, Task}
use Rattle.zcld.specs.Trace.{TraceWork, trace_refusal, trace_texts, trace_wanted}
use Rattle.zcld.specs.Zc.{ZcWork}

-- ---- the commands

-- what each command does outside, under the options or in the map that its words give
abbrev pub task_of : Command → Task
task_of (Plain options out objects) = record {
  wanted = objects_wanted objects;
  refusal = objects_refusal options;
  puts = true;
  takes = λ files. false;
}
task_of (Zc options out cert objects) = record {
  wanted = objects_wanted objects;
  refusal = objects_refusal options;
  puts = true;
  takes = λ files. false;
}
task_of (Run map devices plan steps image) = record {
  wanted = run_wanted devices plan image;
  refusal = λ files. run_refusal map (run_texts devices plan files);
  puts = false;
  takes = λ files. wants_input (lines_given map (run_texts devices plan files).devices);
}
task_of (Trace options devices steps objects) = record {
  wanted = trace_wanted devices objects;
  refusal = λ files. trace_refusal options (trace_texts devices files);
  puts = false;
  takes = λ files. wants_input (lines_given options.map (trace_texts devices files).devices);
}
task_of (Check cert) = record {
  wanted = check_wanted cert;
  refusal = check_refusal;
  puts = false;
  takes = λ files. false;
}
task_of (Make prefix number functions) = record {
  wanted = [];
  refusal = λ files. None;
  puts = is_some prefix;
  takes = λ files. false;
}
task_of (Gc options prefix objects) = rewrite_task options objects
task_of (Merge options prefix objects) = rewrite_task options objects
task_of (Share options out plan steps objects) = record {
  wanted = share_wanted plan objects;
  refusal = share_refusal options;
  puts = true;
  takes = λ files. true;
}
task_of (Listing map image) = record {
  wanted = list_wanted image;
  refusal = list_refusal map;
  puts = false;
  takes = λ files. false;
}

-- the work of each command, once its files are read and accepted
abbrev pub work_of : Command → List (List ℕ) → Outcome → World → World → Type 0
work_of (Plain options out objects) = PlainWork options out
work_of (Zc options out cert objects) = ZcWork options out cert
work_of (Run map devices plan steps image) = λ files. RunWork map steps (run_texts devices plan files)
work_of (Trace options devices steps objects) = λ files. TraceWork options steps (trace_texts devices files)
work_of (Check cert) = CheckWork
work_of (Make prefix number functions) = MakeWork prefix number functions
work_of (Gc options prefix objects) = GcWork options prefix
work_of (Merge options prefix objects) = MergeWork options prefix
work_of (Share options out plan steps objects) = ShareWork options out steps
work_of (Listing map image) = ListWork

-- what words do: what their command performs; or, if they are no command, nothing, with the outcome Usage, or OutOfMemory if
-- memory ran out before that was known
abbrev pub CarriesOut : Option Command → List (List ℕ) → Outcome → World → World → Type 0
CarriesOut None files outcome before after = ((outcome ≡ Usage) ⊎ (outcome ≡ OutOfMemory)) × (after ≡ before)
CarriesOut (Some command) files outcome before after =
    Performs (task_of command) (work_of command) files outcome before after

-- the outcome is Usage only for words that spell no command, and for all of these unless memory ran out
pub record IsUsageOf (command : Option Command) (outcome : Outcome) : Type 0 where
  pub only : outcome ≡ Usage → command ≡ None
  pub always : command ≡ None → (outcome ≡ Usage) ⊎ (outcome ≡ OutOfMemory)

-- the command did this with the files that it read, and the outcome's line is the same for the files that are left
pub record DoesWith
    (command : Option Command) (left : List (List ℕ)) (outcome : Outcome) (before after : World) : Type 0 where
  pub files : List (List ℕ)
  pub does : CarriesOut command files outcome before after
  pub line : err_line left outcome ≡ err_line files outcome

-- ---- the outcome's line

-- the text stands on standard error after what was there; or a write was refused, which a console that is sure does only
-- for want of memory, and a part of the text stands
abbrev pub WritesLine : List ℕ → Desk → Desk → Type 0
WritesLine text before after =
    Adds before.err after.err text
    ⊎ ((fault : ConsoleFault) × WriteCause before after fault × AddsPart before.err after.err text)

-- the outcome's line is written, and nothing else is done
pub record Reports (text : List ℕ) (before after : World) : Type 0 where
  pub shelf : after.shelf ≡ before.shelf
  pub out : KeepsBytes before.desk.out after.desk.out
  pub line : WritesLine text before.desk after.desk
  pub only : OnlyWrites before.desk after.desk

-- ---- what follows for the outside

-- the store tells that these are the files' bytes, and each is within its limit
abbrev pub TellsAll : Option Files → List Wanted → List (List ℕ) → Type 0
TellsAll None wanted files = ⊥
TellsAll (Some told) wanted files = AreRead (Some told) wanted files

-- no fault of reading files was counted
pub record IsFileRead (before after : World) : Type 0 where
  pub reads : ¬ Rose before.shelf.read_faults after.shelf.read_faults
  pub longs : ¬ Rose before.shelf.long_files after.shelf.long_files

-- nothing was counted that can stop such a command with these files; what is counted of the console's input can stop it only if it may
-- take that with them, so not if devices answer in its place
pub record IsClean (task : Task) (files : List (List ℕ)) (before after : World) : Type 0 where
  pub read : IsFileRead before after
  pub put : IsTrue task.puts → ¬ Rose before.shelf.write_faults after.shelf.write_faults
  pub taken :
      IsTrue (task.takes files) →
      (¬ Rose before.desk.read_faults after.desk.read_faults)
      × (¬ RoseAbove INPUT_LIMIT before.desk.taken after.desk.taken)
  pub written : ¬ Rose before.desk.write_faults after.desk.write_faults

-- the store and the console are sure; and if the command may take the console's input with these files, so if no devices answer in its
-- place, the console tells that it isn't too long
pub record IsSure (task : Task) (files : List (List ℕ)) (before : World) : Type 0 where
  pub store : IsTrue before.shelf.sure
  pub console : IsTrue before.desk.sure
  pub input : IsTrue (task.takes files) → IsShortInput before.desk.input

-- the outcome is no fault of the outside
pub record IsNoFault (outcome : Outcome) : Type 0 where
  pub no_read : outcome ≡ ReadFault → ⊥
  pub no_write : outcome ≡ WriteFault → ⊥

-- what a command's outcome says, if its files are told:
pub record Answers (task : Task) (outcome : Outcome) (files : List (List ℕ)) (before after : World) : Type 0 where
  -- if reading the files reported no error and the task refuses their bytes, the outcome is that refusal, or OutOfMemory
  pub names :
      (refused : Outcome) → task.refusal files ≡ Some refused → IsFileRead before after →
      (outcome ≡ refused) ⊎ (outcome ≡ OutOfMemory)
  -- with no error reported, or over an outside that is sure, the outcome is no fault of the outside; nothing is asked of the console's
  -- input if the command can't take it with these files
  pub complete : IsClean task files before after → IsNoFault outcome
  pub sure : IsSure task files before → IsNoFault outcome

-- what an outside that is sure counts
pub record CountsFaults (task : Task) (before after : World) : Type 0 where
  -- a store that is sure and holds the files counts no fault, and a long file only if one of them is
  pub store :
      IsTrue before.shelf.sure → AreHeld before.shelf.files task.wanted →
      (after.shelf.read_faults ≡ before.shelf.read_faults) × (after.shelf.write_faults ≡ before.shelf.write_faults)
      × ((after.shelf.long_files ≡ before.shelf.long_files) ⊎ IsOneLong before.shelf.files task.wanted)
  -- a console that is sure counts no fault
  pub console :
      IsTrue before.desk.sure →
      (after.desk.read_faults ≡ before.desk.read_faults) × (after.desk.write_faults ≡ before.desk.write_faults)
  -- the store and the console are as sure as they were
  pub stays : (after.shelf.sure ≡ before.shelf.sure) × (after.desk.sure ≡ before.desk.sure)

-- P holds of the task that the words spell, if they spell a command
abbrev pub IfCommand : Option Command → (Task → Type 0) → Type 0
IfCommand None P = ⊤
IfCommand (Some command) P = P (task_of command)

-- ---- the call

-- the command did this up to a world `left`, and from there the outcome's line was written
pub record Calls (command : Option Command) (outcome : Outcome) (before after : World) : Type 0 where
  -- the files that were read
  pub files : List (List ℕ)
  pub left : World
  pub does : CarriesOut command files outcome before left
  pub line : Reports (err_line files outcome) left after
  -- what follows from that, by the words' task
  pub answers : IfCommand command
      (λ task.
      (told : List (List ℕ)) → TellsAll before.shelf.files task.wanted told → Answers task outcome told before after)
  pub counts : IfCommand command (λ task. CountsFaults task before after)
