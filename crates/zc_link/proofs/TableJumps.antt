-- Jumps and calls through the jump table. Each is one commit, whatever interrupts come before it: jvt is the text's start,
-- and the text is as it was loaded, so the machine goes to the address that the slot's word holds, which is that of the
-- item's place.
use Rattle.std.proofs.Common.{◌≡◌, ℕ, ◌+◌, ◌*◌, ◌/◌, ◌%◌, ◌^◌, ◌≤◌, List, [], Some, None, true, refl, sym, ap, ◌∙◌, subst, arith}
use Rattle.std.proofs.lemmas.Bool.{cond-true}
use Rattle.zc_base.specs.declared.place.Place.{Place}
use Rattle.interrupt_plan.specs.Plan.{Interrupt}
use Rattle.rv_decode.specs.Effect.{Commits, after, onward}
use Rattle.rv_decode.specs.Memory.{extents_of, is_text, lies_in}
use Rattle.rv_decode.specs.State.{ZcCore, ZcState, byte_in, set_reg, word_at}
use Rattle.rv_decode.proofs.MemoryLaws.{lies_inside}
use Rattle.block_cut.specs.declared.item.Item.TheVariants.{Call, Jump}
use Rattle.sym_machine.specs.Change.{Change, Goes, item_does, sets}
use Rattle.sym_machine.specs.Program.{Program}
use Rattle.sym_machine.specs.State.{PlainCore, PlainState}
use Rattle.sym_machine.specs.Step.{after_change}
use Rattle.sym_machine.specs.Words.{code_word}
use Rattle.zc_decode.specs.Effect.{entry_at, short_effect}
use Rattle.zc_decode.specs.declared.short.Short.TheVariants.{TableJump}
use Rattle.zc_machine.proofs.FetchLaws.{SameText}
use Rattle.zc_link.specs.Image.{Image, loaded_core}
use Rattle.zc_link.specs.IsSimulation.{Comes}
use Rattle.moved_runs.specs.Leads.{Leads}
use Rattle.zc_link.specs.Invariants.Room.{Room}
use Rattle.zc_link.specs.Sound.{Alike, Ready}
use Rattle.zc_link.specs.Invariants.Stretches.{ByCall, ByJump, GoesTo, TableLaid, slot_address}
use Rattle.zc_link.specs.LaidOut.{linked_by}
use Rattle.zc_link.proofs.Addresses.{code_names, code_stands}
use Rattle.zc_link.proofs.Calls.{called}
use Rattle.zc_link.proofs.Commits.{zc_turns-one}
use Rattle.zc_link.proofs.FrameCuts.{Behind, alike_ready, spoiled_alike}
use Rattle.zc_link.proofs.GroupEnds.{behind_one, turn_commits}
use Rattle.zc_link.proofs.Instrs.{IsQuiet}
use Rattle.zc_link.proofs.Ready.{ready_forgets, ready_moved, ready_set}
use Rattle.zc_link.proofs.Singles.{FromSound, below_top, comes_after}

-- ---- the machine alone

-- the state after a jump to an address, with the one after the instruction in a register
abbrev linked : ℕ → ℕ → ℕ → ZcCore → ZcCore
linked to rd size y = record (onward y size (set_reg y.regs rd (after y size))) { pc = to }

-- a word of the text is as it was loaded
word_kept :
    (y z : ZcCore) → SameText y z → (a : ℕ) → lies_in is_text (extents_of y.memory) a 4 ≡ true → word_at z a ≡ word_at y a
word_kept y z same a lies =
    let b0 = byte a (omega arith) (omega arith) in
    let b1 = byte (a + 1) (omega arith) (omega arith) in
    let b2 = byte (a + 2) (omega arith) (omega arith) in
    let b3 = byte (a + 3) (omega arith) (omega arith) in
    omega (arith, b0, b1, b2, b3)
  where
    byte : (x : ℕ) → a ≤ x → x + 1 ≤ a + 4 → byte_in z x ≡ byte_in y x
    byte x low high = same.text x (lies_inside is_text (extents_of y.memory) a 4 x 1 lies low high)

-- bit 0 of an even number is clear
even_half : (m n : ℕ) → m ≡ n → n % 2 ≡ 0 → m / 2 * 2 ≡ n
even_half m n same even = omega (arith, same, even)

-- ---- both machines

-- a change that goes to a place, after which the states are ready
record Links
    (p : Program) (Named : Place → Type 0) (e : Image) (to : Place) (c : Change) (s : PlainCore) (y : ZcCore) : Type 0 where
  ready : Ready p Named e (after_change c s) y
  quiet : IsQuiet c
  place : c.place ≡ to

module _
    {p : Program} {Named : Place → Type 0} {e : Image} {r r' : PlainState} {cuts : ℕ → List Interrupt} {z : ZcState}
    {slot : ℕ} (room : Room p e) (leads : Leads p Named) (from : FromSound p Named e r r' cuts z)
    (laid : TableLaid p e r.core.place z.core.pc slot) where
  abbrev next : Place
  next = p.next r.core.place

  -- the address in the slot
  abbrev target : ℕ
  target = word_at (loaded_core e) (slot_address e slot)

  -- the state before the halfword, and after it
  abbrev behind : Behind room [] (TableJump slot) laid.at.size (cuts 0) z
  behind =
      behind_one room (TableJump slot) (cuts 0) (λ sp. refl) (from.are 0) z (alike_ready room from.sound.alike) laid.at

  abbrev now : ZcCore
  now = behind.now

  abbrev there : ZcCore
  there = linked target (linked_by slot) laid.at.size now

  now_alike : Alike p Named e r.core now
  now_alike = spoiled_alike room behind.spoiled from.sound.alike

  -- the machine goes to that address
  goes_there : short_effect (TableJump slot) laid.at.size now ≡ Commits there
  goes_there =
      let a = slot_address e slot in
      let small = laid.entry.small in
      let table = now_alike.table laid.elsewhere in
      let at : entry_at slot now ≡ a = ap (λ t. (t + 4 * slot) % 2 ^ 32) table ∙ omega (arith, small) in
      let lies : lies_in is_text (extents_of now.memory) (entry_at slot now) 4 ≡ true =
      ap (λ b. lies_in is_text (extents_of now.memory) b 4) at
      ∙ ap (λ es. lies_in is_text es a 4) now_alike.extents ∙ laid.entry.lies in
      let text : SameText (loaded_core e) now = record { extents = now_alike.extents; text = now_alike.text } in
      let same = ap (word_at now) at ∙ word_kept (loaded_core e) now text a laid.entry.lies in
      let even = (room.even laid.to target laid.entry.leads).0 in
      cond-true (lies_in is_text (extents_of now.memory) (entry_at slot now) 4) _ _ lies
      ∙ ap (λ to. Commits (linked to (linked_by slot) laid.at.size now))
      (even_half (word_at now (entry_at slot now)) target same even)

  -- the address after it is the next place's
  listed : e.address next ≡ Some (after now laid.at.size)
  listed =
      let pc = ap (λ x. x.pc) behind.spoiled.rest in
      laid.next ∙ ap Some (below_top z.core.pc now.pc laid.at.size pc laid.at.small)

  -- the address that the machine links stands for the word that the program puts in the register
  set_ready :
      {s : PlainCore} → Ready p Named e s now → Named next
      → Ready p Named e
      (record s { place = laid.to; regs = set_reg s.regs (linked_by slot) (code_word next); exit = None }) there
  set_ready ready named =
      let link = after now laid.at.size in
      let stands = code_stands room next link listed in
      let names = code_names Named next named in
      ready_moved (ready_set ready (linked_by slot) link (code_word next) (omega arith) stands names)
      laid.to there.pc there.commits

  links : Links p Named e laid.to from.step.change r.core there
  links = by laid.goes
    where
      by : GoesTo p r.core.place (linked_by slot) laid.to → Links p Named e laid.to from.step.change r.core there
      by (ByJump item) =
          let does : Goes (sets (linked_by slot) (code_word next) laid.to) ≡ Goes from.step.change =
          ap (λ o. item_does p o r.core next) (sym item) ∙ from.step.does in
          let same : sets (linked_by slot) (code_word next) laid.to ≡ from.step.change = cc in
          subst (λ c. Links p Named e laid.to c r.core there) same (record {
            ready = set_ready now_alike.ready (leads.next r.core.place (Jump (linked_by slot) laid.to) item refl);
            quiet = record { events = refl; taken = refl };
            place = refl;
          })
      by (ByCall temp item) =
          let does = ap (λ o. item_does p o r.core next) (sym item) ∙ from.step.does in
          let is = called (linked_by slot) temp laid.to next from.step.change does in
          subst (λ c. Links p Named e laid.to c r.core there) is.change (record {
            ready = set_ready (ready_forgets now_alike.ready temp)
                (leads.next r.core.place (Call (linked_by slot) temp laid.to) item refl);
            quiet = record { events = refl; taken = refl };
            place = refl;
          })

  pub table_comes : Comes p Named e cuts 1 z r'
  table_comes =
      let turn = turn_commits (cuts 0) z now there (TableJump slot) laid.at.size behind.turn goes_there in
      comes_after from 1 there (zc_turns-one cuts z (record z { core = there }) turn) links.ready links.quiet
      (ap e.address links.place ∙ laid.entry.leads)
