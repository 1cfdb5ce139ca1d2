-- Each step brings the run one step further; what the console refused ends it.
use Rattle.std.proofs.Common.{◌≡◌, ◌+◌, ℕ, sym, arith, subst, ⊎_elim, take, List, Result}
use Rattle.std.specs.declared.alloc.AllocError.{AllocError}
use Rattle.devices.specs.Environment.{DeviceMap}
use Rattle.psabi_sym.specs.Inputs.{parsed}
use Rattle.zc_outside.specs.Course.{EndsAfter, WrotePart, WroteTo}
use Rattle.zc_outside.specs.Desk.{OnlyWrites}
use Rattle.zc_outside.proofs.Desk.{OnlyWrites-refl, OnlyWrites-trans, WriteCause-after}
use Rattle.sym_machine.specs.declared.answer.SymStep.{SymStep}
use Rattle.sym_machine.specs.declared.answer.SymStep.TheVariants as answer
use Rattle.rv_decode.specs.Devices.{sent_bytes}
use Rattle.rv_decode.specs.Effect.{load_width}
use Rattle.rv_decode.specs.EventBytes.{shown_bytes}
use Rattle.rv_decode.specs.State.{Store, Write}
use Rattle.sym_machine.specs.Answer.{Makes, StepAnswers, answer_bytes}
use Rattle.sym_machine.specs.Events.{Numeric}
use Rattle.sym_machine.specs.Objects.{program_of}
use Rattle.sym_machine.specs.Program.{Program}
use Rattle.sym_machine.specs.RunEnd.{plain_course}
use Rattle.sym_machine.specs.State.{PlainCore}
use Rattle.sym_machine.specs.Step.{plain_step}
use Rattle.sym_machine.proofs.RunLaws.{Came, Came-on, came_done, came_first, came_loaded, came_read, came_stored, came_system, came_wrote, counted, exited, refused, step_in, store_writes, stuck, traced, write_writes}
use Rattle.sym_machine.proofs.StepLaws.{of_again}
use Rattle.sym_machine.proofs.run.run_with.Goals as goal
use Rattle.sym_machine.proofs.run.run_with.Goals.{in-Done, in-Wrote+in_default-write_to, in-Stored+in_default-show}

pub loop-made-init : goal.loop-made-init
loop-made-init g c =
    let shown = g.C.Console.shown c.args.console.now in
    let from : PlainCore = c.args.sym.now in
    let e : DeviceMap = c.args.devices in
    record {
      within = omega arith;
      came = came_first (program_of (parsed c.args.cut.now)) e from shown c.requires.of c.requires.running;
      writes = OnlyWrites-refl shown;
    }

pub ask_if_stuck-requires : goal.ask_if_stuck-requires
ask_if_stuck-requires g c =
    let a = c.advance-quiet.ensures.advanced in
    of_again (program_of (parsed c.args.cut.now)) c.advance-quiet.result.1 a.last c.advance-quiet.new.self a.makes a.runs.of

pub loop-made-preserved : goal.loop-made-preserved
loop-made-preserved g c =
    let p : Program = program_of (parsed c.args.cut.now) in
    let from : PlainCore = c.args.sym.now in
    let e : DeviceMap = c.args.devices in
    let shown = g.C.Console.shown in
    let n = c.loop-made.made + c.advance-quiet.result.0 in
    let a = c.advance-quiet.ensures.advanced in
    let s : PlainCore = a.last in
    let s' : PlainCore = c.ask_if_stuck.new.sym in
    let first = shown c.args.console.now in
    let now = shown c.loop-made.console in
    let came = Came-on p from e c.loop-made.made c.loop-made.sym s c.advance-quiet.result.0 first now c.loop-made.invariant.came a.runs in
    let answers : StepAnswers (step_in p e s) c.ask_if_stuck.new.step s s' =
    c.ask_if_stuck.ensures s (subst (λ (r : Result SymStep AllocError). Makes r (plain_step p s) s c.advance-quiet.new.self) c.in-Ok.is a.makes) in
    let made = λ (b : SymStep) (is : c.ask_if_stuck.new.step ≡ b). subst (λ (d : SymStep). StepAnswers (step_in p e s) d s s') is answers in
    elim c.match-step.branch [
      | in-Done w ↦
          let next : Came p from e (n + 1) s' first now = ⊎_elim
          (λ done. let m = made answer.Done done in came_done p from e n s first now came s' m.1 m.2)
          (⊎_elim
          (λ read. came_read p from e n s first now came s' (take read.0 s.input) (made (answer.Read read.0) read.1).1)
          (⊎_elim
          (λ load. came_loaded p from e n s first now came s' load.1 (load_width load.0) (answer_bytes (load_width load.0) s) (made (answer.Loaded load.0 load.1) load.2))
          (⊎_elim
          (λ store. came_stored p from e n s first now came s' store.0 store.1 (made (answer.StoredCode store.0 store.1) store.2))
          (λ system. came_system p from e n s first now came s' system.0 system.1 (made (answer.System system.0 system.1) system.2)))))
          w.in-Done.is in
          record {
            within = omega arith;
            came = subst (λ d. Came p from e (n + 1) s' first (shown d)) (sym w.console-is) next;
            writes = subst (λ d. OnlyWrites first (shown d)) (sym w.console-is) c.loop-made.invariant.writes;
          }
      | in-Wrote+in_default-write_to w ↦
          let fd = w.in-Wrote.fd in
          let bytes = w.in-Wrote.bytes.items in
          let after = shown w.write_to.new.console in
          let m = made (answer.Wrote fd w.in-Wrote.bytes) w.in-Wrote.is in
          let wrote : WroteTo fd bytes now after = subst (λ (l : List ℕ). WroteTo fd l now after) w.deref.ensures.value w.in_default-write_to.ensures.ok in
          record {
            within = omega arith;
            came = subst (λ d. Came p from e (n + 1) s' first (shown d)) (sym w.console-is)
                (came_wrote p from e n s first now came s' (Numeric (Write fd bytes)) fd bytes after (write_writes e fd bytes) m.1.1 m.1.2 wrote);
            writes = subst (λ d. OnlyWrites first (shown d)) (sym w.console-is) (OnlyWrites-trans c.loop-made.invariant.writes w.write_to.ensures.writes);
          }
      | in-Stored+in_default-show w ↦
          let at = w.in-Stored.sent.at in
          let bytes = sent_bytes w.in-Stored.sent.op w.in-Stored.sent.word in
          let after = shown w.show.new.console in
          let m = made (answer.Stored w.in-Stored.sent) w.in-Stored.is in
          record {
            within = omega arith;
            came = subst (λ d. Came p from e (n + 1) s' first (shown d)) (sym w.console-is)
                (came_wrote p from e n s first now came s' (Numeric (Store at bytes)) 1 (shown_bytes e.outputs at bytes) after (store_writes e at bytes) m.1.1 m.1.2 w.in_default-show.ensures.ok);
            writes = subst (λ d. OnlyWrites first (shown d)) (sym w.console-is) (OnlyWrites-trans c.loop-made.invariant.writes w.show.ensures.writes);
          }
    ]

pub show-requires : goal.show-requires
show-requires g c =
    let p : Program = program_of (parsed c.args.cut.now) in
    let from : PlainCore = c.args.sym.now in
    let e : DeviceMap = c.args.devices in
    let shown = g.C.Console.shown in
    let n = c.loop-made.made + c.advance-quiet.result.0 in
    let a = c.advance-quiet.ensures.advanced in
    let s : PlainCore = a.last in
    let s' : PlainCore = c.ask_if_stuck.new.sym in
    let first = shown c.args.console.now in
    let now = shown c.loop-made.console in
    let came = Came-on p from e c.loop-made.made c.loop-made.sym s c.advance-quiet.result.0 first now c.loop-made.invariant.came a.runs in
    let answers : StepAnswers (step_in p e s) c.ask_if_stuck.new.step s s' =
    c.ask_if_stuck.ensures s (subst (λ (r : Result SymStep AllocError). Makes r (plain_step p s) s c.advance-quiet.new.self) c.in-Ok.is a.makes) in
    let made = λ (b : SymStep) (is : c.ask_if_stuck.new.step ≡ b). subst (λ (d : SymStep). StepAnswers (step_in p e s) d s s') is answers in
    (made (answer.Stored c.in-Stored.sent) c.in-Stored.is).0

pub returns-in-Err-clause-ran : goal.returns-in-Err-clause-ran
returns-in-Err-clause-ran g c =
    let p : Program = program_of (parsed c.args.cut.now) in
    let from : PlainCore = c.args.sym.now in
    let e : DeviceMap = c.args.devices in
    let shown = g.C.Console.shown in
    let n = c.loop-made.made + c.advance-quiet.result.0 in
    let a = c.advance-quiet.ensures.advanced in
    let s : PlainCore = a.last in
    let s' : PlainCore = c.ask_if_stuck.new.sym in
    let first = shown c.args.console.now in
    let now = shown c.loop-made.console in
    let came = Came-on p from e c.loop-made.made c.loop-made.sym s c.advance-quiet.result.0 first now c.loop-made.invariant.came a.runs in
    let answers : StepAnswers (step_in p e s) c.ask_if_stuck.new.step s s' =
    c.ask_if_stuck.ensures s (subst (λ (r : Result SymStep AllocError). Makes r (plain_step p s) s c.advance-quiet.new.self) c.in-Ok.is a.makes) in
    let made = λ (b : SymStep) (is : c.ask_if_stuck.new.step ≡ b). subst (λ (d : SymStep). StepAnswers (step_in p e s) d s s') is answers in
    let fd = c.in-Wrote.fd in
    let bytes = c.in-Wrote.bytes.items in
    let after = shown c.write_to.new.console in
    let m = made (answer.Wrote fd c.in-Wrote.bytes) c.in-Wrote.is in
    let part : WrotePart fd bytes now after = subst (λ (l : List ℕ). WrotePart fd l now after) c.deref.ensures.value c.in-Err.ensures.err in
    let cause = WriteCause-after first now after c.in-Err.fault c.loop-made.invariant.writes c.in-Err.ensures.cause in
    refused p from e n s first now came c.args.steps (omega arith) s' (Numeric (Write fd bytes)) fd bytes after c.in-Err.fault (write_writes e fd bytes) m.1.2 part cause

pub returns-in-Err-show-clause-ran : goal.returns-in-Err-show-clause-ran
returns-in-Err-show-clause-ran g c =
    let p : Program = program_of (parsed c.args.cut.now) in
    let from : PlainCore = c.args.sym.now in
    let e : DeviceMap = c.args.devices in
    let shown = g.C.Console.shown in
    let n = c.loop-made.made + c.advance-quiet.result.0 in
    let a = c.advance-quiet.ensures.advanced in
    let s : PlainCore = a.last in
    let s' : PlainCore = c.ask_if_stuck.new.sym in
    let first = shown c.args.console.now in
    let now = shown c.loop-made.console in
    let came = Came-on p from e c.loop-made.made c.loop-made.sym s c.advance-quiet.result.0 first now c.loop-made.invariant.came a.runs in
    let answers : StepAnswers (step_in p e s) c.ask_if_stuck.new.step s s' =
    c.ask_if_stuck.ensures s (subst (λ (r : Result SymStep AllocError). Makes r (plain_step p s) s c.advance-quiet.new.self) c.in-Ok.is a.makes) in
    let made = λ (b : SymStep) (is : c.ask_if_stuck.new.step ≡ b). subst (λ (d : SymStep). StepAnswers (step_in p e s) d s s') is answers in
    let at = c.in-Stored.sent.at in
    let bytes = sent_bytes c.in-Stored.sent.op c.in-Stored.sent.word in
    let after = shown c.show.new.console in
    let m = made (answer.Stored c.in-Stored.sent) c.in-Stored.is in
    let cause = WriteCause-after first now after c.in-Err-show.fault c.loop-made.invariant.writes c.in-Err-show.ensures.cause in
    refused p from e n s first now came c.args.steps (omega arith) s' (Numeric (Store at bytes)) 1 (shown_bytes e.outputs at bytes) after c.in-Err-show.fault (store_writes e at bytes) m.1.2 c.in-Err-show.ensures.err cause

pub returns-in-Exited-clause-ran : goal.returns-in-Exited-clause-ran
returns-in-Exited-clause-ran g c =
    let p : Program = program_of (parsed c.args.cut.now) in
    let from : PlainCore = c.args.sym.now in
    let e : DeviceMap = c.args.devices in
    let shown = g.C.Console.shown in
    let n = c.loop-made.made + c.advance-quiet.result.0 in
    let a = c.advance-quiet.ensures.advanced in
    let s : PlainCore = a.last in
    let s' : PlainCore = c.ask_if_stuck.new.sym in
    let first = shown c.args.console.now in
    let now = shown c.loop-made.console in
    let came = Came-on p from e c.loop-made.made c.loop-made.sym s c.advance-quiet.result.0 first now c.loop-made.invariant.came a.runs in
    let answers : StepAnswers (step_in p e s) c.ask_if_stuck.new.step s s' =
    c.ask_if_stuck.ensures s (subst (λ (r : Result SymStep AllocError). Makes r (plain_step p s) s c.advance-quiet.new.self) c.in-Ok.is a.makes) in
    let made = λ (b : SymStep) (is : c.ask_if_stuck.new.step ≡ b). subst (λ (d : SymStep). StepAnswers (step_in p e s) d s s') is answers in
    ⊎_elim
    (λ ends. exited p from e n s first now came c.args.steps (omega arith) s' c.in-Exited.status ends.1 ends.2)
    (λ before. absurd (let running = came.running in cc))
    (made (answer.Exited c.in-Exited.status) c.in-Exited.is)

pub returns-in-Exited-clause-count : goal.returns-in-Exited-clause-count
returns-in-Exited-clause-count g c =
    let p : Program = program_of (parsed c.args.cut.now) in
    let from : PlainCore = c.args.sym.now in
    let e : DeviceMap = c.args.devices in
    let shown = g.C.Console.shown in
    let n = c.loop-made.made + c.advance-quiet.result.0 in
    let a = c.advance-quiet.ensures.advanced in
    let s : PlainCore = a.last in
    let s' : PlainCore = c.ask_if_stuck.new.sym in
    let first = shown c.args.console.now in
    let now = shown c.loop-made.console in
    let came = Came-on p from e c.loop-made.made c.loop-made.sym s c.advance-quiet.result.0 first now c.loop-made.invariant.came a.runs in
    let answers : StepAnswers (step_in p e s) c.ask_if_stuck.new.step s s' =
    c.ask_if_stuck.ensures s (subst (λ (r : Result SymStep AllocError). Makes r (plain_step p s) s c.advance-quiet.new.self) c.in-Ok.is a.makes) in
    let made = λ (b : SymStep) (is : c.ask_if_stuck.new.step ≡ b). subst (λ (d : SymStep). StepAnswers (step_in p e s) d s s') is answers in
    ⊎_elim
    (λ ends. counted p from e n s first now came c.args.steps (omega arith) s' c.in-Exited.status ends.1 ends.2)
    (λ before. absurd (let running = came.running in cc))
    (made (answer.Exited c.in-Exited.status) c.in-Exited.is)

pub returns-in-Stuck-clause-ran : goal.returns-in-Stuck-clause-ran
returns-in-Stuck-clause-ran g c =
    let p : Program = program_of (parsed c.args.cut.now) in
    let from : PlainCore = c.args.sym.now in
    let e : DeviceMap = c.args.devices in
    let shown = g.C.Console.shown in
    let n = c.loop-made.made + c.advance-quiet.result.0 in
    let a = c.advance-quiet.ensures.advanced in
    let s : PlainCore = a.last in
    let s' : PlainCore = c.ask_if_stuck.new.sym in
    let first = shown c.args.console.now in
    let now = shown c.loop-made.console in
    let came = Came-on p from e c.loop-made.made c.loop-made.sym s c.advance-quiet.result.0 first now c.loop-made.invariant.came a.runs in
    let answers : StepAnswers (step_in p e s) c.ask_if_stuck.new.step s s' =
    c.ask_if_stuck.ensures s (subst (λ (r : Result SymStep AllocError). Makes r (plain_step p s) s c.advance-quiet.new.self) c.in-Ok.is a.makes) in
    let made = λ (b : SymStep) (is : c.ask_if_stuck.new.step ≡ b). subst (λ (d : SymStep). StepAnswers (step_in p e s) d s s') is answers in
    let m = made (answer.Stuck c.in-Stuck.place c.in-Stuck.why) c.in-Stuck.is in
    stuck p from e n s first now came c.args.steps (omega arith) c.in-Stuck.place c.in-Stuck.why m.2 m.3

pub returns-clause-ran : goal.returns-clause-ran
returns-clause-ran g c =
    let p : Program = program_of (parsed c.args.cut.now) in
    let from : PlainCore = c.args.sym.now in
    let e : DeviceMap = c.args.devices in
    let all : c.loop-made.made ≡ c.args.steps = omega arith in
    subst (λ (n : ℕ). EndsAfter (plain_course p from e c.args.steps) n (g.C.Console.shown c.args.console.now) (g.C.Console.shown c.loop-made.console)) all
    (traced p from e c.loop-made.made c.loop-made.sym _ _ c.loop-made.invariant.came c.args.steps)
