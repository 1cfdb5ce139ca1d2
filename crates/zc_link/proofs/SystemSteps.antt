-- Instructions of the system. The word is the objects' own, which neither machine has an instruction for, and a device answers it. Its
-- operand is a number, the same in both machines, or the program has a place and the machine its address.
use Rattle.std.specs.Option.{option_map_or}
use Rattle.std.specs.Prelude.{◌&&◌, All}
use Rattle.std.proofs.Common.{◌≡◌, ℕ, ◌+◌, ◌^◌, ◌<◌, ◌≤◌, List, [], ◌∷◌, ◌++◌, length, min, take, drop, Some, None, Ok, Err, Bool, true, false, cond, refl, sym, ap, ◌∙◌, arith, eqb}
use Rattle.std.proofs.lemmas.Bool.{and_from, and_parts, cond-true}
use Rattle.std.proofs.lemmas.Option.{same_Some}
use Rattle.zc_base.specs.declared.place.Place.{Place}
use Rattle.interrupt_plan.specs.Plan.{Interrupt}
use Rattle.rv_decode.specs.declared.device_access.DeviceAccess.{DeviceAccess}
use Rattle.rv_decode.specs.declared.device_access.DeviceAccess.TheVariants as access
use Rattle.rv_decode.specs.Devices.{Device, has_registers, number_from}
use Rattle.rv_decode.specs.Effect.{onward}
use Rattle.rv_decode.specs.Formats.{rd_of, rs1_of}
use Rattle.rv_decode.specs.Memory.{extents_of, is_text, lies_in}
use Rattle.rv_decode.specs.State.{System, ZcCore, ZcState, reg_in, set_reg, word_at}
use Rattle.rv_decode.specs.System.{is_system, system_operand, system_width, takes_register}
use Rattle.block_cut.specs.declared.item.Item.TheVariants.{Raw}
use Rattle.sym_machine.specs.declared.known.Known.{Known}
use Rattle.sym_machine.specs.declared.known.Known.TheVariants.{Number, Code, Unknown}
use Rattle.sym_machine.specs.Change.{Change, Does, Goes}
use Rattle.sym_machine.specs.Conditions.{known_of}
use Rattle.sym_machine.specs.Devices.{device_does, system_answered, system_by_register, system_does}
use Rattle.sym_machine.specs.Events.{SymEvent, HandsCode, Numeric, event_in}
use Rattle.sym_machine.specs.Program.{Program}
use Rattle.sym_machine.specs.State.{PlainCore, PlainState, reg_of}
use Rattle.sym_machine.specs.Words.{number_word}
use Rattle.zc_machine.specs.declared.reason.Reason.TheVariants.{Illegal}
use Rattle.zc_machine.specs.Run.{committed, device_answers, is_answered, zc_turn}
use Rattle.zc_machine.specs.Step.{Asks, Stopped, ZcStep}
use Rattle.zc_machine.proofs.FetchLaws.{word_same}
use Rattle.zc_link.specs.Image.{Image, loaded_core}
use Rattle.zc_link.specs.Invariants.Room.{Room}
use Rattle.zc_link.specs.Invariants.Stretches.{SystemLaid}
use Rattle.zc_link.specs.IsSimulation.{Comes}
use Rattle.zc_link.specs.Sound.{Alike, Ready}
use Rattle.zc_link.specs.Values.{value_in}
use Rattle.zc_link.proofs.Branches.{Knows, knows}
use Rattle.zc_link.proofs.Buffers.{taken_bytes}
use Rattle.zc_link.proofs.Commits.{after_cuts_missing}
use Rattle.zc_link.proofs.DeviceSteps.{FromAnswered, answer_comes, goes_same, number_below}
use Rattle.zc_link.proofs.Ready.{ready_fed, ready_moved, ready_set}
use Rattle.zc_link.proofs.Singles.{below_top}
use Rattle.zc_link.proofs.Words.{number_names, number_stands}

-- ---- words and operands

system_width_few : (word : ℕ) → system_width word ≤ 4
system_width_few word = by (eqb (rd_of word) 0)
  where
    by : (b : Bool) → cond b 0 4 ≤ 4
    by true = omega arith
    by false = omega arith

-- what it gets is a word
system_below : (word : ℕ) (bytes : List ℕ) → All (λ b. b < 256) bytes → length bytes ≤ system_width word → number_from bytes < 2 ^ 32
system_below word bytes are few = (number_below bytes are).2 (let four = system_width_few word in omega (arith, few, four))

-- a word that is copied unread, where a device answers it
pub record NamesSystem (devices : List Device) (word : ℕ) (s : PlainCore) (next : Place) (d : Does) : Type 0 where
  pub registers : has_registers devices ≡ true
  pub system : is_system word ≡ true
  pub does : system_does word s next ≡ d

pub named_system :
    (devices : List Device) (p : Program) (word : ℕ) (s : PlainCore) (next : Place) (d : Does) → device_does devices p (Some (Raw word)) s next ≡ Some d
    → NamesSystem devices word s next d
named_system devices p word s next d h = by (has_registers devices && is_system word) refl h
  where
    by : (b : Bool) → (has_registers devices && is_system word) ≡ b → cond b (Some (system_does word s next)) None ≡ Some d → NamesSystem devices word s next d
    by true both g =
        let parts = and_parts (has_registers devices) (is_system word) both in
        record { registers = parts.0; system = parts.1; does = same_Some (system_does word s next) d g }
    by false both g = absurd cc

-- the program makes it, and in the image its event has this operand
record SystemMade (e : Image) (word operand : ℕ) (s : PlainCore) (next : Place) (c : Change) : Type 0 where
  event : List ℕ → SymEvent
  is : system_answered word event s next ≡ c
  told : (bytes : List ℕ) → event_in e.address (event bytes) ≡ System word operand bytes

module _ {p : Program} {e : Image} (room : Room p e) (word : ℕ) (s : PlainCore) where
  -- by what its operand is known to be
  system_known :
      (k : Known) (operand : ℕ) (next : Place) (c : Change) → Knows room k operand → system_by_register word k s next ≡ Goes c
      → SystemMade e word operand s next c
  system_known (Number n) operand next c is h = record {
    event = λ bytes. Numeric (System word n bytes);
    is = goes_same _ c h;
    told = λ bytes. ap (λ m. System word m bytes) is;
  }
  system_known (Code q) operand next c at h = record {
    event = HandsCode word q;
    is = goes_same _ c h;
    told = λ bytes. ap (λ o. System word (option_map_or (λ a. a) o 0) bytes) at;
  }
  system_known Unknown operand next c none h = absurd cc

  -- by where it takes it from
  system_made :
      {Named : Place → Type 0} (now : ZcCore) (next : Place) (c : Change) → Ready p Named e s now → system_does word s next ≡ Goes c
      → SystemMade e word (system_operand word (reg_in now (rs1_of word))) s next c
  system_made now next c ready h = by (takes_register word) h
    where
      by : (b : Bool)
          → cond b (system_by_register word (known_of (reg_of s (rs1_of word))) s next) (system_by_register word (Number (rs1_of word)) s next) ≡ Goes c
          → SystemMade e word (cond b (reg_in now (rs1_of word)) (rs1_of word)) s next c
      by true g =
          system_known (known_of (reg_of s (rs1_of word))) (reg_in now (rs1_of word)) next c
          (knows room (reg_of s (rs1_of word)) (reg_in now (rs1_of word)) (ready.core.words (rs1_of word)) (ready.registers (rs1_of word) (omega arith))) g
      by false g = system_known (Number (rs1_of word)) (rs1_of word) next c refl g

-- ---- the step of both

-- what the machine does with this word where no instruction is fetched
abbrev unread_word : ZcCore → ℕ → ZcStep
unread_word now w =
    cond (lies_in is_text (extents_of now.memory) now.pc 4 && is_system w) (Asks (access.System w (system_operand w (reg_in now (rs1_of w))))) (Stopped Illegal)

-- the state after the interrupts before its commit, and what the turn then is
record SystemTurn (p : Program) (Named : Place → Type 0) (e : Image) (r : PlainState) (word : ℕ) (cuts : ℕ → List Interrupt) (z : ZcState) : Type 0 where
  now : ZcCore
  alike : Alike p Named e r.core now
  pc : now.pc ≡ z.core.pc
  turn : zc_turn (cuts 0) z ≡ Ok (device_answers (access.System word (system_operand word (reg_in now (rs1_of word)))) (record z { core = now }))

module _ {p : Program} {Named : Place → Type 0} {e : Image} {r r' : PlainState} {cuts : ℕ → List Interrupt} {z : ZcState} (room : Room p e) (from : FromAnswered p Named e r r' cuts z) where
  -- the machine asks for it, and a device answers
  system_turn :
      (word : ℕ) → SystemLaid p e r.core.place z.core.pc word → is_system word ≡ true → has_registers r.devices ≡ true
      → SystemTurn p Named e r word cuts z
  system_turn word laid is answers =
      let y = after_cuts_missing room (cuts 0) (from.are 0) laid.at.here from.sound.alike in
      let now = y.now in
      let x : DeviceAccess = access.System word (system_operand word (reg_in now (rs1_of word))) in
      let here : word_at now now.pc ≡ word =
      ap (word_at now) y.pc
      ∙ word_same (loaded_core e) now (record { extents = y.alike.extents; text = y.alike.text }) z.core.pc laid.at.lies
      ∙ laid.at.is in
      let lies : lies_in is_text (extents_of now.memory) now.pc 4 ≡ true =
      ap (λ es. lies_in is_text es now.pc 4) y.alike.extents
      ∙ ap (λ a. lies_in is_text (extents_of (loaded_core e).memory) a 4) y.pc
      ∙ laid.at.lies in
      let yes : is_answered z.devices x ≡ true = ap has_registers from.devices ∙ answers in
      record {
        now = now;
        alike = y.alike;
        pc = y.pc;
        turn = y.turn
            ∙ ap (λ w. committed (unread_word now w) (record z { core = now })) here
            ∙ ap (λ b. committed (cond b (Asks x) (Stopped Illegal)) (record z { core = now })) (and_from _ _ lies is)
            ∙ cond-true (is_answered z.devices x) (Ok (device_answers x (record z { core = now }))) (Err Illegal) yes;
      }

  pub system_comes :
      (word : ℕ) → SystemLaid p e r.core.place z.core.pc word → is_system word ≡ true → has_registers r.devices ≡ true
      → system_does word r.core (p.next r.core.place) ≡ Goes from.step.change → Comes p Named e cuts 1 z r'
  system_comes word laid is answers h =
      let s = r.core in
      let next = p.next s.place in
      let y = system_turn word laid is answers in
      let now = y.now in
      let operand : ℕ = system_operand word (reg_in now (rs1_of word)) in
      let made = system_made room word s now next from.step.change y.alike.ready h in
      let n = system_width word in
      let t = taken_bytes n s.input z.input from.sound.input in
      let count = min n (length s.input) in
      let bytes = take count s.input in
      let v : ℕ = number_from bytes in
      let small : v < 2 ^ 32 = system_below word bytes (t.are y.alike.plain.input) t.short in
      let core : ℕ → ZcCore = λ value. onward now 4 (set_reg now.regs (rd_of word) value) in
      let set = ready_set y.alike.ready (rd_of word) v (number_word v) small (number_stands (value_in p e.address) v) (number_names Named v) in
      answer_comes from (system_answered word made.event s next) (made.event bytes) (core v) (drop n z.input) made.is refl refl
      (y.turn
      ∙ ap (λ l. Ok (record z { core = core (number_from l); input = drop n z.input; events = z.events ++ System word operand l ∷ [] })) (sym t.same)
      ∙ ap (λ x. Ok (record z { core = core v; input = drop n z.input; events = z.events ++ x ∷ [] })) (sym (made.told bytes)))
      (laid.next ∙ ap Some (below_top z.core.pc now.pc 4 y.pc laid.at.small)) t.rest
      (ready_moved (ready_fed set count) next _ _)
