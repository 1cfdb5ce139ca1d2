use Rattle.std.proofs.Common.{◌≡◌, true, false, take, drop, refl, sym, ap, subst, ◌∙◌, arith}
use Rattle.rv_decode.specs.State.{ZcCore, ZcState, reg_in}
use Rattle.zc_machine.specs.declared.answer.EnvCall.TheVariants.{Exit, Read, Write}
use Rattle.zc_machine.specs.Answer.{exited, has_read, has_written}
use Rattle.devices.specs.Environment.{Environment}
use Rattle.zc_machine.specs.Buffer.{InMemory, bytes_at}
use Rattle.zc_machine.specs.Run.{is_answered}
use Rattle.zc_machine.specs.Shown.{shown_by}
use Rattle.zc_outside.specs.Course.{WrotePart, WroteTo}
use Rattle.zc_machine.specs.Step.{zc_step}
use Rattle.zc_machine.proofs.RunLaws.{Came, Came-start, Stops, asking, committed_next, device_next, device_refused_ran, exit_ran, none_ended, read_next, refused_ran, spent_ran, stepped, stop_ran, stopped_step, unanswered_step, wanted, write_next}
use Rattle.zc_machine.proofs.StepLaws.{asks_within, read_shows, write_shows}
use Rattle.zc_machine.proofs.run.run_with.Goals as goal

pub loop-devices-init : goal.loop-devices-init
loop-devices-init g c =
    let start = c.requires.start in
    record {
      within = omega arith;
      not_past = omega arith;
      goes_on = λ k le. refl;
      came =
          subst (λ (e : Environment). Came c.args.machine.now c.args.environment (g.B.BetweenCommits.happens c.args.between) c.args.machine.now e.input (g.C.Console.shown c.args.console.now) (g.C.Console.shown c.args.console.now))
          (sym c.environment.view_is) (Came-start c.args.machine.now c.args.environment _ _ c.requires.running start);
    }

-- ---- an instruction that commits

pub loop-devices-smaller-in-Committed : goal.loop-devices-smaller-in-Committed
loop-devices-smaller-in-Committed g c =
    let s = stepped c.loop-devices.invariant.came c.loop-devices.invariant.goes_on c.act_on.ensures.made c.act_on.ensures.commits c.act_on.ensures.exit c.act_on.ensures.goes_on c.next_commit.ensures.none_before (omega arith) c.advance.ensures in
    let next = committed_next s.came s.had c.advance.new.machine (cc s.answers) s.left_as in
    let counts = next.counts in
    omega arith

pub loop-devices-preserved-in-Committed : goal.loop-devices-preserved-in-Committed
loop-devices-preserved-in-Committed g c =
    let s = stepped c.loop-devices.invariant.came c.loop-devices.invariant.goes_on c.act_on.ensures.made c.act_on.ensures.commits c.act_on.ensures.exit c.act_on.ensures.goes_on c.next_commit.ensures.none_before (omega arith) c.advance.ensures in
    let next = committed_next s.came s.had c.advance.new.machine (cc s.answers) s.left_as in
    let counts = next.counts in
    record { within = omega arith; not_past = omega arith; goes_on = λ k le. s.goes_on k (omega arith); came = next.came }

-- ---- a read

pub answer_read_from-requires-clause-room : goal.answer_read_from-requires-clause-room
answer_read_from-requires-clause-room g c =
    let s = stepped c.loop-devices.invariant.came c.loop-devices.invariant.goes_on c.act_on.ensures.made c.act_on.ensures.commits c.act_on.ensures.exit c.act_on.ensures.goes_on c.next_commit.ensures.none_before (omega arith) c.advance.ensures in
    let w = c.in-Wants-Read in
    let asks = wanted s.acted c.advance.new.machine (Read w.field-0-0 w.field-0-1) (cc s.answers) s.left_as in
    let same = ap (λ (y : ZcCore). y.commits) asks.stays ∙ s.had.commits in
    omega arith

pub loop-devices-smaller-in-Wants-Read : goal.loop-devices-smaller-in-Wants-Read
loop-devices-smaller-in-Wants-Read g c =
    let s = stepped c.loop-devices.invariant.came c.loop-devices.invariant.goes_on c.act_on.ensures.made c.act_on.ensures.commits c.act_on.ensures.exit c.act_on.ensures.goes_on c.next_commit.ensures.none_before (omega arith) c.advance.ensures in
    let w = c.in-Wants-Read in
    let asks = wanted s.acted c.advance.new.machine (Read w.field-0-0 w.field-0-1) (cc s.answers) s.left_as in
    let same = ap (λ (y : ZcCore). y.commits) asks.stays ∙ s.had.commits in
    let counts = ap (λ (y : ZcCore). y.commits) c.answer_read_from.ensures.state in
    omega arith

pub loop-devices-preserved-in-Wants-Read : goal.loop-devices-preserved-in-Wants-Read
loop-devices-preserved-in-Wants-Read g c =
    let s = stepped c.loop-devices.invariant.came c.loop-devices.invariant.goes_on c.act_on.ensures.made c.act_on.ensures.commits c.act_on.ensures.exit c.act_on.ensures.goes_on c.next_commit.ensures.none_before (omega arith) c.advance.ensures in
    let w = c.in-Wants-Read in
    let machine = c.advance.new.machine in
    let left = c.loop-devices.answers in
    let asks = wanted s.acted machine (Read w.field-0-0 w.field-0-1) (cc s.answers) s.left_as in
    let room : reg_in machine 12 ≡ w.field-0-1 = ap (λ (y : ZcCore). reg_in y 12) asks.stays ∙ sym (read_shows s.acted w.field-0-0 w.field-0-1 asks.is).1 in
    let next =
    read_next s.came s.had c.answer_read_from.new.self w.field-0-0 w.field-0-1 (take (reg_in machine 12) left) c.answer_read_from.new.answers asks.is
    (ap (λ n. take n left) room) (c.answer_read_from.ensures.left ∙ ap (λ n. drop n left) room)
    (c.answer_read_from.ensures.state ∙ ap (has_read (take (reg_in machine 12) left)) asks.stays) in
    let counts = next.counts in
    record { within = omega arith; not_past = omega arith; goes_on = λ k le. s.goes_on k (omega arith); came = next.came }

-- ---- a write

pub write-requires-clause-stream : goal.write-requires-clause-stream
write-requires-clause-stream g c =
    let s = stepped c.loop-devices.invariant.came c.loop-devices.invariant.goes_on c.act_on.ensures.made c.act_on.ensures.commits c.act_on.ensures.exit c.act_on.ensures.goes_on c.next_commit.ensures.none_before (omega arith) c.advance.ensures in
    let w = c.in-Wants-Write in
    let asks = wanted s.acted c.advance.new.machine (Write w.fd w.at w.len) (cc s.answers) s.left_as in
    (write_shows s.acted w.fd w.at w.len asks.is).3

pub write-requires-clause-memory : goal.write-requires-clause-memory
write-requires-clause-memory g c =
    let s = stepped c.loop-devices.invariant.came c.loop-devices.invariant.goes_on c.act_on.ensures.made c.act_on.ensures.commits c.act_on.ensures.exit c.act_on.ensures.goes_on c.next_commit.ensures.none_before (omega arith) c.advance.ensures in
    let w = c.in-Wants-Write in
    let asks = wanted s.acted c.advance.new.machine (Write w.fd w.at w.len) (cc s.answers) s.left_as in
    subst (λ (y : ZcCore). InMemory y w.at w.len) (sym asks.stays) (write_shows s.acted w.fd w.at w.len asks.is).2

pub returns-in-Err-clause-ran : goal.returns-in-Err-clause-ran
returns-in-Err-clause-ran g c =
    let s = stepped c.loop-devices.invariant.came c.loop-devices.invariant.goes_on c.act_on.ensures.made c.act_on.ensures.commits c.act_on.ensures.exit c.act_on.ensures.goes_on c.next_commit.ensures.none_before (omega arith) c.advance.ensures in
    let w = c.in-Wants-Write in
    let asks = wanted s.acted c.advance.new.machine (Write w.fd w.at w.len) (cc s.answers) s.left_as in
    let now = g.C.Console.shown c.loop-devices.console in
    let after = g.C.Console.shown c.write.new.console in
    let part = subst (λ (y : ZcCore). WrotePart w.fd (bytes_at y w.at w.len) now after) asks.stays c.in-Err.ensures.err in
    refused_ran s.came s.had c.advance.new.machine c.args.steps (omega arith) w.fd w.at w.len c.in-Err.fault after asks.is part c.in-Err.ensures.cause

pub answer_write-requires-clause-room : goal.answer_write-requires-clause-room
answer_write-requires-clause-room g c =
    let s = stepped c.loop-devices.invariant.came c.loop-devices.invariant.goes_on c.act_on.ensures.made c.act_on.ensures.commits c.act_on.ensures.exit c.act_on.ensures.goes_on c.next_commit.ensures.none_before (omega arith) c.advance.ensures in
    let w = c.in-Wants-Write in
    let asks = wanted s.acted c.advance.new.machine (Write w.fd w.at w.len) (cc s.answers) s.left_as in
    let same = ap (λ (y : ZcCore). y.commits) asks.stays ∙ s.had.commits in
    omega arith

pub loop-devices-smaller-in-Wants-Write : goal.loop-devices-smaller-in-Wants-Write
loop-devices-smaller-in-Wants-Write g c =
    let s = stepped c.loop-devices.invariant.came c.loop-devices.invariant.goes_on c.act_on.ensures.made c.act_on.ensures.commits c.act_on.ensures.exit c.act_on.ensures.goes_on c.next_commit.ensures.none_before (omega arith) c.advance.ensures in
    let w = c.in-Wants-Write in
    let asks = wanted s.acted c.advance.new.machine (Write w.fd w.at w.len) (cc s.answers) s.left_as in
    let same = ap (λ (y : ZcCore). y.commits) asks.stays ∙ s.had.commits in
    let counts = ap (λ (y : ZcCore). y.commits) c.answer_write.ensures in
    omega arith

pub loop-devices-preserved-in-Wants-Write : goal.loop-devices-preserved-in-Wants-Write
loop-devices-preserved-in-Wants-Write g c =
    let s = stepped c.loop-devices.invariant.came c.loop-devices.invariant.goes_on c.act_on.ensures.made c.act_on.ensures.commits c.act_on.ensures.exit c.act_on.ensures.goes_on c.next_commit.ensures.none_before (omega arith) c.advance.ensures in
    let w = c.in-Wants-Write in
    let asks = wanted s.acted c.advance.new.machine (Write w.fd w.at w.len) (cc s.answers) s.left_as in
    let now = g.C.Console.shown c.loop-devices.console in
    let after = g.C.Console.shown c.write.new.console in
    let wrote = subst (λ (y : ZcCore). WroteTo w.fd (bytes_at y w.at w.len) now after) asks.stays c.in_default.ensures.ok in
    let next =
    write_next s.came s.had c.answer_write.new.self w.fd w.at w.len after asks.is
    (c.answer_write.ensures ∙ ap has_written asks.stays) wrote c.in_default.ensures.writes in
    let counts = next.counts in
    record { within = omega arith; not_past = omega arith; goes_on = λ k le. s.goes_on k (omega arith); came = next.came }

-- ---- a device

pub returns-then-not-is_answered-clause-ran : goal.returns-then-not-is_answered-clause-ran
returns-then-not-is_answered-clause-ran g c =
    let s = stepped c.loop-devices.invariant.came c.loop-devices.invariant.goes_on c.act_on.ensures.made c.act_on.ensures.commits c.act_on.ensures.exit c.act_on.ensures.goes_on c.next_commit.ensures.none_before (omega arith) c.advance.ensures in
    let z' = s.acted in
    let x = c.in-Asks.access in
    let devices = c.args.environment.devices.all in
    let none = subst (λ (e : Environment). is_answered e.devices.all x ≡ false) c.environment.view_is (sym c.is_answered.ensures ∙ c.if-not-is_answered.true) in
    let why = c.unanswered.result in
    let stops : Stops devices (zc_step z') why = subst (Stops devices (zc_step z')) (sym c.unanswered.ensures) (unanswered_step devices (zc_step z') x (cc s.answers) none) in
    stop_ran s.came s.had c.advance.new.machine c.args.steps (omega arith) why stops (s.left_as ∙ stops.stays z')

pub show-requires : goal.show-requires
show-requires g c =
    let s = stepped c.loop-devices.invariant.came c.loop-devices.invariant.goes_on c.act_on.ensures.made c.act_on.ensures.commits c.act_on.ensures.exit c.act_on.ensures.goes_on c.next_commit.ensures.none_before (omega arith) c.advance.ensures in
    let asks = asking s.acted c.advance.new.machine c.in-Asks.access (cc s.answers) s.left_as in
    asks_within s.acted c.in-Asks.access asks.is

pub returns-in-Err-show-clause-ran : goal.returns-in-Err-show-clause-ran
returns-in-Err-show-clause-ran g c =
    let s = stepped c.loop-devices.invariant.came c.loop-devices.invariant.goes_on c.act_on.ensures.made c.act_on.ensures.commits c.act_on.ensures.exit c.act_on.ensures.goes_on c.next_commit.ensures.none_before (omega arith) c.advance.ensures in
    let x = c.in-Asks.access in
    let asks = asking s.acted c.advance.new.machine x (cc s.answers) s.left_as in
    let now = g.C.Console.shown c.loop-devices.console in
    let after = g.C.Console.shown c.show.new.console in
    let lies = subst (λ (e : Environment). is_answered e.devices.all x ≡ true) c.environment.view_is (sym c.is_answered.ensures ∙ c.if-not-is_answered.false) in
    let part = subst (λ (e : Environment). WrotePart 1 (shown_by e.devices.outputs x) now after) c.environment.view_is c.in-Err-show.ensures.err in
    device_refused_ran s.came s.had c.advance.new.machine c.args.steps (omega arith) x c.in-Err-show.fault after asks.is lies part c.in-Err-show.ensures.cause

pub answer_access-requires : goal.answer_access-requires
answer_access-requires g c =
    let s = stepped c.loop-devices.invariant.came c.loop-devices.invariant.goes_on c.act_on.ensures.made c.act_on.ensures.commits c.act_on.ensures.exit c.act_on.ensures.goes_on c.next_commit.ensures.none_before (omega arith) c.advance.ensures in
    let asks = asking s.acted c.advance.new.machine c.in-Asks.access (cc s.answers) s.left_as in
    let same = ap (λ (y : ZcCore). y.commits) asks.stays ∙ s.had.commits in
    omega arith

pub loop-devices-preserved : goal.loop-devices-preserved
loop-devices-preserved g c =
    let s = stepped c.loop-devices.invariant.came c.loop-devices.invariant.goes_on c.act_on.ensures.made c.act_on.ensures.commits c.act_on.ensures.exit c.act_on.ensures.goes_on c.next_commit.ensures.none_before (omega arith) c.advance.ensures in
    let x = c.in-Asks.access in
    let asks = asking s.acted c.advance.new.machine x (cc s.answers) s.left_as in
    let there : ZcState = record { core = s.acted; input = c.loop-devices.answers; events = s.came.events; devices = c.args.environment.devices.all } in
    let now = g.C.Console.shown c.loop-devices.console in
    let after = g.C.Console.shown c.show.new.console in
    let lies = subst (λ (e : Environment). is_answered e.devices.all x ≡ true) c.environment.view_is (sym c.is_answered.ensures ∙ c.if-not-is_answered.false) in
    let wrote = subst (λ (e : Environment). WroteTo 1 (shown_by e.devices.outputs x) now after) c.environment.view_is c.in_default-show.ensures.ok in
    let next =
    device_next s.came s.had c.answer_access.new.self x c.answer_access.new.answers after asks.is lies (c.answer_access.ensures.state there (sym asks.stays) refl) (c.answer_access.ensures.left there refl) wrote
    c.in_default-show.ensures.writes in
    let counts = next.counts in
    record { within = omega arith; not_past = omega arith; goes_on = λ k le. s.goes_on k (omega arith); came = next.came }

pub loop-devices-smaller : goal.loop-devices-smaller
loop-devices-smaller g c =
    let s = stepped c.loop-devices.invariant.came c.loop-devices.invariant.goes_on c.act_on.ensures.made c.act_on.ensures.commits c.act_on.ensures.exit c.act_on.ensures.goes_on c.next_commit.ensures.none_before (omega arith) c.advance.ensures in
    let x = c.in-Asks.access in
    let asks = asking s.acted c.advance.new.machine x (cc s.answers) s.left_as in
    let there : ZcState = record { core = s.acted; input = c.loop-devices.answers; events = s.came.events; devices = c.args.environment.devices.all } in
    let now = g.C.Console.shown c.loop-devices.console in
    let after = g.C.Console.shown c.show.new.console in
    let lies = subst (λ (e : Environment). is_answered e.devices.all x ≡ true) c.environment.view_is (sym c.is_answered.ensures ∙ c.if-not-is_answered.false) in
    let wrote = subst (λ (e : Environment). WroteTo 1 (shown_by e.devices.outputs x) now after) c.environment.view_is c.in_default-show.ensures.ok in
    let next =
    device_next s.came s.had c.answer_access.new.self x c.answer_access.new.answers after asks.is lies (c.answer_access.ensures.state there (sym asks.stays) refl) (c.answer_access.ensures.left there refl) wrote
    c.in_default-show.ensures.writes in
    let counts = next.counts in
    omega arith

-- ---- ends

pub answer_exit-requires-clause-room : goal.answer_exit-requires-clause-room
answer_exit-requires-clause-room g c =
    let s = stepped c.loop-devices.invariant.came c.loop-devices.invariant.goes_on c.act_on.ensures.made c.act_on.ensures.commits c.act_on.ensures.exit c.act_on.ensures.goes_on c.next_commit.ensures.none_before (omega arith) c.advance.ensures in
    let w = c.in-Wants-Exit in
    let asks = wanted s.acted c.advance.new.machine (Exit w.status) (cc s.answers) s.left_as in
    let same = ap (λ (y : ZcCore). y.commits) asks.stays ∙ s.had.commits in
    omega arith

pub returns-in-Wants-Exit-clause-ran : goal.returns-in-Wants-Exit-clause-ran
returns-in-Wants-Exit-clause-ran g c =
    let s = stepped c.loop-devices.invariant.came c.loop-devices.invariant.goes_on c.act_on.ensures.made c.act_on.ensures.commits c.act_on.ensures.exit c.act_on.ensures.goes_on c.next_commit.ensures.none_before (omega arith) c.advance.ensures in
    let w = c.in-Wants-Exit in
    let asks = wanted s.acted c.advance.new.machine (Exit w.status) (cc s.answers) s.left_as in
    exit_ran s.came s.had c.answer_exit.new.self c.args.steps (omega arith) w.status asks.is
    (c.answer_exit.ensures w.status (ap zc_step asks.stays ∙ asks.is) ∙ ap (exited w.status) asks.stays)

pub returns-in-Ended-clause-ran : goal.returns-in-Ended-clause-ran
returns-in-Ended-clause-ran g c =
    let s = stepped c.loop-devices.invariant.came c.loop-devices.invariant.goes_on c.act_on.ensures.made c.act_on.ensures.commits c.act_on.ensures.exit c.act_on.ensures.goes_on c.next_commit.ensures.none_before (omega arith) c.advance.ensures in
    absurd (none_ended s.came s.had c.in-Ended.status (cc s.answers))

pub returns-in-Stopped-clause-ran : goal.returns-in-Stopped-clause-ran
returns-in-Stopped-clause-ran g c =
    let s = stepped c.loop-devices.invariant.came c.loop-devices.invariant.goes_on c.act_on.ensures.made c.act_on.ensures.commits c.act_on.ensures.exit c.act_on.ensures.goes_on c.next_commit.ensures.none_before (omega arith) c.advance.ensures in
    let z' = s.acted in
    let stops : Stops c.args.environment.devices.all (zc_step z') c.in-Stopped.reason = stopped_step c.args.environment.devices.all (zc_step z') c.in-Stopped.reason (cc s.answers) in
    stop_ran s.came s.had c.advance.new.machine c.args.steps (omega arith) c.in-Stopped.reason stops (s.left_as ∙ stops.stays z')

pub returns-clause-ran : goal.returns-clause-ran
returns-clause-ran g c =
    let kept = c.loop-devices.invariant in
    spent_ran c.args.machine.now c.args.environment _ c.args.steps _ _ _ _ kept.came (omega arith)
