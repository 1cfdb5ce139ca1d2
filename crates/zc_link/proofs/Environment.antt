-- Environment calls. The machine asks for the call whose number and arguments the program's words are, and its environment
-- answers: a read fills the buffer and a write takes it, and both go on; after the exit the states are over.
use Rattle.std.specs.Option.{option_map_or}
use Rattle.std.proofs.Common.{◌≡◌, ℕ, zero, suc, ◌+◌, ◌%◌, ◌^◌, ◌<◌, List, [], ◌∷◌, ◌++◌, length, map, min, take, drop, Option, Some, None, Ok, Bool, true, false, cond, refl, sym, ap, ◌∙◌, subst, inl, inr, arith, eqb}
use Rattle.std.specs.Prelude.{◌||◌, ◌⊎◌}
use Rattle.std.proofs.lemmas.Bool.{cond-true, eq-eqb, eqb-true, or_left, or_right}
use Rattle.std.proofs.lemmas.Option.{same_Some}
use Rattle.zc_base.specs.declared.place.Place.{Place}
use Rattle.interrupt_plan.specs.Plan.{Interrupt}
use Rattle.rv_decode.specs.declared.instr.Instr.TheVariants.{Ecall}
use Rattle.rv_decode.specs.Memory.{extents_of, is_data, lies_in}
use Rattle.rv_decode.specs.State.{Event, Exit, Read, Write, ZcCore, ZcState, reg_in}
use Rattle.sym_machine.specs.declared.arguments.Arguments.{Arguments}
use Rattle.sym_machine.specs.declared.why.Why.{Why}
use Rattle.sym_machine.specs.declared.why.Why.TheVariants.{ArgumentUnknown, BadAddress, UnknownCall}
use Rattle.sym_machine.specs.declared.word.SymByte.TheVariants.{Num}
use Rattle.sym_machine.specs.Change.{Change, Does, Goes, Stops, arguments_of, call_does, exit_does, sets, is_buffer, is_output, numbers_at, continues, read_does, with_buffer, write_does}
use Rattle.sym_machine.specs.Events.{Numeric}
use Rattle.sym_machine.specs.Program.{Program}
use Rattle.sym_machine.specs.State.{PlainState, reg_of}
use Rattle.sym_machine.specs.Step.{after_change, is_set}
use Rattle.sym_machine.specs.Words.{number_of, number_word}
use Rattle.zc_machine.specs.declared.answer.EnvCall.{EnvCall}
use Rattle.zc_machine.specs.declared.answer.EnvCall.TheVariants as call
use Rattle.zc_machine.specs.Answer.{has_read, has_written}
use Rattle.zc_machine.specs.Buffer.{bytes_at}
use Rattle.zc_machine.specs.Run.{answered, committed, zc_turn}
use Rattle.zc_machine.specs.Step.{Wants, called, effect_step}
use Rattle.zc_link.specs.Image.{Image, loaded_core}
use Rattle.zc_link.specs.Invariants.Stretches.{AloneLaid}
use Rattle.zc_link.specs.Invariants.Room.{Room}
use Rattle.zc_link.specs.IsSimulation.{Comes}
use Rattle.zc_link.specs.Sound.{Ready}
use Rattle.zc_link.specs.Stands.{WordStands}
use Rattle.zc_link.specs.Values.{value_in}
use Rattle.zc_link.proofs.Buffers.{IsBuffer, buffer_lies, numbers_are, read_agrees, taken_bytes}
use Rattle.zc_link.proofs.Commits.{AfterCuts, after_cuts, zc_turns-one}
use Rattle.sym_machine.proofs.StepLaws.{Ended}
use Rattle.zc_link.proofs.Ends.{ends_alike, ends_stands}
use Rattle.zc_link.proofs.EventLaws.{events_added}
use Rattle.zc_link.proofs.Ready.{ready_fed, ready_moved, ready_set}
use Rattle.zc_link.proofs.Singles.{FromSound, below_top}
use Rattle.zc_link.proofs.Words.{number_is, number_names, number_stands}
use Rattle.zc_link.proofs.Writes.{ready_changed}

-- what a step comes to
goes_same : (a b : Change) → Goes a ≡ Goes b → a ≡ b
goes_same a b h = cc

stops_not : {why : Why} {c : Change} → Stops why ≡ Goes c → ⊥
stops_not h = cc

none_some : {X : Type 0} {x : X} → None ≡ Some x → ⊥
none_some h = cc

module _
    {p : Program} {Named : Place → Type 0} {e : Image} {r r' : PlainState} {cuts : ℕ → List Interrupt} {z : ZcState} (room : Room p e) (from : FromSound p Named e r r' cuts z)
    (laid : AloneLaid p e r.core.place z.core.pc Ecall) where
  -- the state that asks
  w : AfterCuts p Named e laid.here laid.at.size r.core (cuts 0) z
  w = after_cuts room (cuts 0) (from.are 0) laid.at from.sound.alike

  -- the turn is the environment's answer
  asked : (c : EnvCall) → called w.now ≡ Wants c → zc_turn (cuts 0) z ≡ answered c (record z { core = w.now })
  asked c wants =
      w.turn
      ∙ ap (λ x. committed (effect_step x w.now) (record z { core = w.now })) (laid.same laid.at.size w.now)
      ∙ ap (λ t. committed t (record z { core = w.now })) wants

  -- a register that is a number to the program holds it
  holds : (x n : ℕ) → x < 32 → number_of (reg_of r.core x) ≡ Some n → n ≡ reg_in w.now x
  holds x n low is = number_is (value_in p e.address) (reg_of r.core x) (reg_in w.now x) n (w.alike.core.words x) (w.alike.registers x low) is

  -- ---- the exit

  abbrev exit_change : ℕ → Change
  exit_change status = record (continues r.core.place) { exit = Some status; events = Numeric (Exit status) ∷ [] }

  -- the answer to it ends both
  exit_over :
      (status : ℕ) → called w.now ≡ Wants (call.Exit status) → Ended p.map (is_set p.map r.core) (after_change (exit_change status) r.core) r'.core
      → r'.events ≡ r.events ++ Numeric (Exit status) ∷ [] → Comes p Named e cuts 1 z r'
  exit_over status wants end events =
      let z1 : ZcState = record z { core = record w.now { exit = Some status; commits = w.now.commits + 1 }; events = z.events ++ Exit status ∷ [] } in
      record {
        after = z1;
        runs = zc_turns-one cuts z z1 (asked (call.Exit status) wants);
        together = inr record {
          status = status;
          exited = ap (λ s. s.exit) end.state;
          ended = refl;
          stands = ends_stands end (record { registers = w.alike.registers; memory = w.alike.memory; input = from.sound.input; place = λ running. absurd cc });
        };
        events = events_added e.address r.events r'.events z.events from.same (Numeric (Exit status) ∷ []) events;
      }

  -- with 93 in a7 the machine asks for an exit, with the low byte of a0
  wants_exit : (a0 : ℕ) → reg_in w.now 17 ≡ 93 → a0 ≡ reg_in w.now 10 → called w.now ≡ Wants (call.Exit (a0 % 256))
  wants_exit a0 a7 is = cond-true (eqb (reg_in w.now 17) 93) _ _ (eq-eqb (reg_in w.now 17) 93 a7) ∙ ap (λ n. Wants (call.Exit (n % 256))) (sym is)

  exit_comes : (o : Option ℕ) → number_of (reg_of r.core 10) ≡ o → reg_in w.now 17 ≡ 93 → exit_does o r.core.place ≡ Goes from.step.change → Comes p Named e cuts 1 z r'
  exit_comes None is a7 h = absurd (stops_not h)
  exit_comes (Some a0) is a7 h =
      let made = goes_same (exit_change (a0 % 256)) from.step.change h in
      exit_over (a0 % 256) (wants_exit a0 a7 (holds 10 a0 (omega arith) is))
      (subst (λ c. Ended p.map (is_set p.map r.core) (after_change c r.core) r'.core) (sym made) from.step.end)
      (from.step.events ∙ ap (λ (c : Change). r.events ++ c.events) (sym made))

  -- ---- calls that go on

  -- the place after the call is listed, four bytes on
  next_listed : e.address (p.next r.core.place) ≡ Some ((w.now.pc + 4) % 2 ^ 32)
  next_listed =
      let four = laid.four refl in
      laid.next ∙ ap Some (below_top z.core.pc w.now.pc laid.at.size w.pc laid.at.small ∙ ap (λ n. (w.now.pc + n) % 2 ^ 32) four)

  -- the environment's answer to a call leaves states that are ready, with an event
  answer_comes :
      (c : Change) (event : Event) (core : ZcCore) (input : List ℕ) → c ≡ from.step.change → c.place ≡ p.next r.core.place → c.events ≡ Numeric event ∷ []
      → zc_turn (cuts 0) z ≡ Ok (record z { core = core; input = input; events = z.events ++ event ∷ [] })
      → core.pc ≡ (w.now.pc + 4) % 2 ^ 32 → drop c.taken r.core.input ≡ input → Ready p Named e (after_change c r.core) core → Comes p Named e cuts 1 z r'
  answer_comes c event core input made place events turn pc left ready =
      let end : Ended p.map (is_set p.map r.core) (after_change c r.core) r'.core = subst (λ x. Ended p.map (is_set p.map r.core) (after_change x r.core) r'.core) (sym made) from.step.end in
      let z1 : ZcState = record z { core = core; input = input; events = z.events ++ event ∷ [] } in
      record {
        after = z1;
        runs = zc_turns-one cuts z z1 turn;
        together = inl record {
          alike = ends_alike end ready;
          input = ap (λ s. s.input) end.state ∙ left;
          place = ap (λ s. e.address s.place) end.state ∙ ap e.address place ∙ next_listed ∙ ap Some (sym pc);
        };
        events =
            events_added e.address r.events r'.events z.events from.same (Numeric event ∷ [])
            (from.step.events ∙ ap (λ (x : Change). r.events ++ x.events) (sym made) ∙ ap (λ l. r.events ++ l) events);
      }

  -- ---- buffers

  -- the arguments are the machine's, but that of no bytes a1 isn't looked at
  record AreHeld (c : Arguments) : Type 0 where
    a0 : c.a0 ≡ reg_in w.now 10
    len : c.len ≡ reg_in w.now 12
    at : (c.len ≡ 0) ⊎ (c.at ≡ reg_in w.now 11)

  are_held :
      (o0 o1 o2 : Option ℕ) (c : Arguments) → number_of (reg_of r.core 10) ≡ o0 → number_of (reg_of r.core 11) ≡ o1 → number_of (reg_of r.core 12) ≡ o2
      → arguments_of o0 o1 o2 ≡ Some c → AreHeld c
  are_held None o1 o2 c is0 is1 is2 h = absurd (none_some h)
  are_held (Some a0) None None c is0 is1 is2 h = absurd (none_some h)
  are_held (Some a0) (Some at) None c is0 is1 is2 h = absurd (none_some h)
  are_held (Some a0) (Some at) (Some len) c is0 is1 is2 h =
      let same = same_Some (record { a0 = a0; at = at; len = len }) c h in
      subst AreHeld same (record { a0 = holds 10 a0 (omega arith) is0; len = holds 12 len (omega arith) is2; at = inr (holds 11 at (omega arith) is1) })
  are_held (Some a0) None (Some len) c is0 is1 is2 h = by (eqb len 0) refl h
    where
      by : (b : Bool) → eqb len 0 ≡ b → cond b (Some (record { a0 = a0; at = 0; len = 0 })) None ≡ Some c → AreHeld c
      by true none g =
          let same = same_Some (record { a0 = a0; at = 0; len = 0 }) c g in
          subst AreHeld same (record { a0 = holds 10 a0 (omega arith) is0; len = sym (eqb-true len 0 none) ∙ holds 12 len (omega arith) is2; at = inl refl })
      by false some g = absurd (none_some g)

  -- what is known of a call with a buffer that goes on
  record HasBuffer (known : ℕ → Bool) (go : Arguments → Does) : Type 0 where
    arguments : Arguments
    held : AreHeld arguments
    does : go arguments ≡ Goes from.step.change
    is_known : known arguments.a0 ≡ true
    buffer : IsBuffer p arguments.at (reg_in w.now 11) arguments.len

  -- where the buffer lies
  place_of : (c : Arguments) → AreHeld c → is_buffer r.core c ≡ true → IsBuffer p c.at (reg_in w.now 11) c.len
  place_of c held lies = by (eqb c.len 0) refl held.at
    where
      by : (b : Bool) → eqb c.len 0 ≡ b → (c.len ≡ 0) ⊎ (c.at ≡ reg_in w.now 11) → IsBuffer p c.at (reg_in w.now 11) c.len
      by true none at = inl (eqb-true c.len 0 none)
      by false some (inl none) = inl none
      by false some (inr at) = inr (at, buffer_lies room r.core c.at c.len w.alike.lies (sym (ap (λ b. b || lies_in is_data (extents_of r.core.memory) c.at c.len) some) ∙ lies))

  has_buffer : (known : ℕ → Bool) (go : Arguments → Does) → with_buffer known r.core go ≡ Goes from.step.change → HasBuffer known go
  has_buffer known go h = by_arguments (arguments_of (number_of (reg_of r.core 10)) (number_of (reg_of r.core 11)) (number_of (reg_of r.core 12))) refl h
    where
      tested :
          (c : Arguments) (k b : Bool) → AreHeld c → known c.a0 ≡ k → is_buffer r.core c ≡ b
          → cond k (cond b (go c) (Stops BadAddress)) (Stops UnknownCall) ≡ Goes from.step.change → HasBuffer known go
      tested c true true held k b g = record { arguments = c; held = held; does = g; is_known = k; buffer = place_of c held b }
      tested c true false held k b g = absurd (stops_not g)
      tested c false b held k lies g = absurd (stops_not g)

      by_arguments :
          (o : Option Arguments) → arguments_of (number_of (reg_of r.core 10)) (number_of (reg_of r.core 11)) (number_of (reg_of r.core 12)) ≡ o
          → option_map_or (λ c. cond (known c.a0) (cond (is_buffer r.core c) (go c) (Stops BadAddress)) (Stops UnknownCall)) o (Stops ArgumentUnknown) ≡ Goes from.step.change → HasBuffer known go
      by_arguments None is g = absurd (stops_not g)
      by_arguments (Some c) is g = tested c (known c.a0) (is_buffer r.core c) (are_held _ _ _ c refl refl refl is) refl refl g

  -- the machine finds the buffer too
  buffer_found : (at len : ℕ) → IsBuffer p at (reg_in w.now 11) len → (eqb len 0 || lies_in is_data (extents_of w.now.memory) (reg_in w.now 11) len) ≡ true
  buffer_found at len (inl none) = or_left (eqb len 0) _ (eq-eqb len 0 none)
  buffer_found at zero (inr lies) = refl
  buffer_found at (suc n) (inr lies) =
      or_right (eqb (suc n) 0) _
      (ap (λ es. lies_in is_data es (reg_in w.now 11) (suc n)) w.alike.extents
      ∙ ap (λ a. lies_in is_data (extents_of (loaded_core e).memory) a (suc n)) (sym lies.0)
      ∙ room.reaches at (suc n) (omega arith) lies.1)

  -- ---- reads

  wants_read : (c : Arguments) → AreHeld c → reg_in w.now 17 ≡ 63 → eqb c.a0 0 ≡ true → IsBuffer p c.at (reg_in w.now 11) c.len → called w.now ≡ Wants (call.Read (reg_in w.now 11) c.len)
  wants_read c held a7 known buffer =
      let input : eqb (reg_in w.now 10) 0 ≡ true = ap (λ a0. eqb a0 0) (sym held.a0) ∙ known in
      let found = ap (λ n. eqb n 0 || lies_in is_data (extents_of w.now.memory) (reg_in w.now 11) n) (sym held.len) ∙ buffer_found c.at c.len buffer in
      rw (a7, input, found) (ap (λ n. Wants (call.Read (reg_in w.now 11) n)) (sym held.len))

  read_comes : reg_in w.now 17 ≡ 63 → with_buffer (λ a0. eqb a0 0) r.core (read_does r.core (p.next r.core.place)) ≡ Goes from.step.change → Comes p Named e cuts 1 z r'
  read_comes a7 h =
      let b = has_buffer (λ a0. eqb a0 0) (read_does r.core (p.next r.core.place)) h in
      let a = b.arguments in
      let s = r.core in
      let to : ℕ = reg_in w.now 11 in
      let n = min a.len (length s.input) in
      let bytes = take n s.input in
      let t = taken_bytes a.len s.input z.input from.sound.input in
      let c : Change = record (continues (p.next s.place)) { writes = (10, number_word n) ∷ []; stores = (a.at, map Num bytes) ∷ []; taken = n; events = Numeric (Read bytes) ∷ [] } in
      let made = goes_same c from.step.change b.does in
      let core = has_read bytes w.now in
      let low : n < 2 ^ 32 = omega (arith, w.alike.core.words 12, b.held.len) in
      let number : WordStands (value_in p e.address) (number_word n) (length bytes) = subst (WordStands (value_in p e.address) (number_word n)) (sym t.count) (number_stands (value_in p e.address) n) in
      let ready = ready_moved (ready_fed (ready_set (ready_changed room _ _ (read_agrees room a.at to a.len bytes b.buffer t.short (t.are w.alike.plain.input)) w.alike.ready) 10 (length bytes) (number_word n) (omega (arith, low, t.count)) number (number_names Named n)) n) (p.next s.place) _ _ in
      answer_comes c (Read bytes) core (drop a.len z.input) made refl refl
      (asked (call.Read to a.len) (wants_read a b.held a7 b.is_known b.buffer) ∙ ap (λ l. Ok (record z { core = has_read l w.now; input = drop a.len z.input; events = z.events ++ Read l ∷ [] })) (sym t.same))
      refl t.rest ready

  -- ---- writes

  wants_write : (c : Arguments) → AreHeld c → reg_in w.now 17 ≡ 64 → is_output c.a0 ≡ true → IsBuffer p c.at (reg_in w.now 11) c.len → called w.now ≡ Wants (call.Write c.a0 (reg_in w.now 11) c.len)
  wants_write c held a7 known buffer =
      let output : is_output (reg_in w.now 10) ≡ true = ap is_output (sym held.a0) ∙ known in
      let found = ap (λ n. eqb n 0 || lies_in is_data (extents_of w.now.memory) (reg_in w.now 11) n) (sym held.len) ∙ buffer_found c.at c.len buffer in
      rw (a7, output, found) (λ i. Wants (call.Write (sym held.a0 i) (reg_in w.now 11) (sym held.len i)))

  write_comes : reg_in w.now 17 ≡ 64 → with_buffer is_output r.core (write_does r.core (p.next r.core.place)) ≡ Goes from.step.change → Comes p Named e cuts 1 z r'
  write_comes a7 h =
      let b = has_buffer is_output (write_does r.core (p.next r.core.place)) h in
      by b.arguments b.held b.is_known b.buffer (numbers_at r.core.memory b.arguments.at b.arguments.len) refl b.does
    where
      by : (a : Arguments) → AreHeld a → is_output a.a0 ≡ true → IsBuffer p a.at (reg_in w.now 11) a.len → (o : Option (List ℕ)) → numbers_at r.core.memory a.at a.len ≡ o
          → option_map_or (λ bytes. Goes (record (sets 10 (number_word a.len) (p.next r.core.place)) { events = Numeric (Write a.a0 bytes) ∷ [] })) o (Stops ArgumentUnknown) ≡ Goes from.step.change → Comes p Named e cuts 1 z r'
      by a held known buffer None is g = absurd (stops_not g)
      by a held known buffer (Some bytes) is g =
          let V = value_in p e.address in
          let c : Change = record (sets 10 (number_word a.len) (p.next r.core.place)) { events = Numeric (Write a.a0 bytes) ∷ [] } in
          let made = goes_same c from.step.change g in
          let same : bytes ≡ bytes_at w.now (reg_in w.now 11) a.len = numbers_are room w.alike.ready a.at (reg_in w.now 11) a.len bytes buffer is in
          let number : WordStands V (number_word a.len) (reg_in w.now 12) = subst (λ n. WordStands V (number_word n) (reg_in w.now 12)) (sym held.len) (number_stands V (reg_in w.now 12)) in
          let ready = ready_moved (ready_set w.alike.ready 10 (reg_in w.now 12) (number_word a.len) (w.alike.core.words 12) number (number_names Named a.len)) (p.next r.core.place) _ _ in
          answer_comes c (Write a.a0 bytes) (has_written w.now) z.input made refl refl
          (asked (call.Write a.a0 (reg_in w.now 11) a.len) (wants_write a held a7 known buffer) ∙ ap (λ l. Ok (record z { core = has_written w.now; input = z.input; events = z.events ++ Write a.a0 l ∷ [] })) (sym same))
          refl from.sound.input ready

  -- ---- all calls, by a7

  pub call_comes : call_does (number_of (reg_of r.core 17)) r.core (p.next r.core.place) ≡ Goes from.step.change → Comes p Named e cuts 1 z r'
  call_comes h = known (number_of (reg_of r.core 17)) refl h
    where
      by_number :
          (a7 : ℕ) (x y v : Bool) → a7 ≡ reg_in w.now 17 → eqb a7 93 ≡ x → eqb a7 63 ≡ y → eqb a7 64 ≡ v
          → cond x (exit_does (number_of (reg_of r.core 10)) r.core.place)
          (cond y (with_buffer (λ a0. eqb a0 0) r.core (read_does r.core (p.next r.core.place)))
          (cond v (with_buffer is_output r.core (write_does r.core (p.next r.core.place))) (Stops UnknownCall))) ≡ Goes from.step.change → Comes p Named e cuts 1 z r'
      by_number a7 true y v is exit read write g = exit_comes (number_of (reg_of r.core 10)) refl (sym is ∙ eqb-true a7 93 exit) g
      by_number a7 false true v is exit read write g = read_comes (sym is ∙ eqb-true a7 63 read) g
      by_number a7 false false true is exit read write g = write_comes (sym is ∙ eqb-true a7 64 write) g
      by_number a7 false false false is exit read write g = absurd (stops_not g)

      known : (o : Option ℕ) → number_of (reg_of r.core 17) ≡ o → call_does o r.core (p.next r.core.place) ≡ Goes from.step.change → Comes p Named e cuts 1 z r'
      known None is g = absurd (stops_not g)
      known (Some a7) is g = by_number a7 (eqb a7 93) (eqb a7 63) (eqb a7 64) (holds 17 a7 (omega arith) is) refl refl refl g
