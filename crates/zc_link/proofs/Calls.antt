-- Calls. The program forgets a register, and goes to the place with the next one's address in another. An image does so
-- by one `jal`, or by an `auipc` and a `jalr`; between these two the first register holds what the program doesn't know.
-- It isn't sp, if that is set, or the program would be stuck.
use Rattle.std.proofs.Common.{ℤ, ◌≡◌, ◌≢◌, ℕ, ◌+◌, ◌*◌, ◌/◌, ◌%◌, ◌^◌, List, [], ◌∷◌, length, Some, None, Ok, Bool, true, false, cond, refl, sym, ap, ◌∙◌, subst, arith, eqb, ⊎_elim, inl, inr}
use Rattle.std.specs.Prelude.{◌⊎◌}
use Rattle.std.proofs.lemmas.Bool.{cases_Bool, cases_eq, eqb-false}
use Rattle.zc_base.specs.declared.place.Place.{Place}
use Rattle.interrupt_plan.specs.Plan.{Interrupt}
use Rattle.rv_decode.specs.declared.instr.Instr.TheVariants.{Jal, Jalr, Upper}
use Rattle.rv_decode.specs.declared.instr.UpperOp.TheVariants.{Auipc}
use Rattle.rv_decode.specs.Bits.{add32}
use Rattle.rv_decode.specs.Effect.{after, onward}
use Rattle.rv_decode.specs.Results.{upper_result}
use Rattle.rv_decode.specs.State.{ZcCore, ZcState, reg_in, set_reg}
use Rattle.rv_decode.proofs.RegisterLaws.{length-set_reg, reads, reads-set_reg_other, reads-set_reg_same}
use Rattle.sym_machine.specs.declared.why.Why.TheVariants.{TargetUnknown}
use Rattle.sym_machine.specs.declared.word.SymWord.{SymWord}
use Rattle.sym_machine.specs.Change.{Change, Goes, Stops, call_to, continues, item_does}
use Rattle.sym_machine.specs.Program.{Program}
use Rattle.sym_machine.specs.State.{PlainCore, PlainState}
use Rattle.sym_machine.specs.Step.{after_change, is_set}
use Rattle.sym_machine.specs.Words.{code_word, number_of, number_word, undef_word}
use Rattle.sym_machine.proofs.StepLaws.{Ended, set_some}
use Rattle.zc_decode.specs.declared.short.Short.TheVariants.{Base}
use Rattle.zc_machine.specs.Fetch.{fetched_at}
use Rattle.zc_machine.specs.Run.{zc_turns}
use Rattle.zc_machine.proofs.TurnLaws.{zc_turns-more}
use Rattle.zc_link.specs.Image.{Image, loaded_core}
use Rattle.zc_link.specs.Invariants.Stretches.{AloneLaid, CallLaid, OneAt}
use Rattle.zc_link.specs.Invariants.Room.{Room}
use Rattle.zc_link.specs.IsSimulation.{Comes}
use Rattle.zc_link.specs.Sound.{Alike, Ready}
use Rattle.zc_link.proofs.Addresses.{code_names, code_stands}
use Rattle.zc_link.proofs.Commits.{AfterCuts, after_cuts, zc_turns-one}
use Rattle.zc_link.proofs.Instrs.{IsQuiet, Moves}
use Rattle.zc_link.proofs.Ready.{alike_forgets, ready_forgets, ready_moved, ready_set}
use Rattle.zc_link.proofs.Singles.{FromSound, below_top, comes_after, single_comes}

-- what a call changes
abbrev pub call_change : ℕ → ℕ → Place → Place → Change
call_change rd temp to next = record (continues to) { writes = (temp, undef_word) ∷ (rd, code_word next) ∷ [] }

pub record Called (rd temp : ℕ) (to next : Place) (c : Change) : Type 0 where
  pub some : temp ≢ 0
  pub change : call_change rd temp to next ≡ c

pub called : (rd temp : ℕ) (to next : Place) (c : Change) → call_to rd temp to next ≡ Goes c → Called rd temp to next c
called rd temp to next c h = tested (eqb temp 0) refl h
  where
    tested : (b : Bool) → eqb temp 0 ≡ b → cond b (Stops TargetUnknown) (Goes (call_change rd temp to next)) ≡ Goes c → Called rd temp to next c
    tested true is g = absurd cc
    tested false is g = record { some = eqb-false temp 0 is; change = cc }

-- the word in sp
abbrev sp_word : List SymWord → SymWord
sp_word regs = reads (number_word 0) undef_word regs 2

module _ {p : Program} {Named : Place → Type 0} {e : Image} {r r' : PlainState} {cuts : ℕ → List Interrupt} {z : ZcState} (room : Room p e) (from : FromSound p Named e r r' cuts z) where
  -- ---- by one instruction

  pub jump_call_comes :
      (rd temp : ℕ) (to : Place) (d : ℤ) → Named (p.next r.core.place) → e.address to ≡ Some (add32 z.core.pc d)
      → AloneLaid p e r.core.place z.core.pc (Jal rd d)
      → call_to rd temp to (p.next r.core.place) ≡ Goes from.step.change → Comes p Named e cuts 1 z r'
  jump_call_comes rd temp to d named reaches laid h = single_comes room from laid law
    where
      law :
          (y : ZcCore) → y.pc ≡ z.core.pc → Alike p Named e r.core y → e.address (p.next r.core.place) ≡ Some (after y laid.at.size)
          → Moves p Named e (Jal rd d) laid.at.size from.step.change r.core y
      law y at al listed =
          let next = p.next r.core.place in
          let size = laid.at.size in
          let link = after y size in
          let is = called rd temp to next from.step.change h in
          subst (λ c. Moves p Named e (Jal rd d) size c r.core y) is.change (record {
            made = record {
              after = record (onward y size (set_reg y.regs rd link)) { pc = add32 y.pc d };
              commits = refl;
              ready = ready_moved (ready_set (ready_forgets al.ready temp) rd link (code_word next) (omega arith) (code_stands room next link listed) (code_names Named next named)) to _ _;
              quiet = record { events = refl; taken = refl };
            };
            place = reaches ∙ ap (λ a. Some (add32 a d)) (sym at);
          })

  -- ---- by two

  -- sp isn't the register that is forgotten, if it is a number afterwards
  no_sp : (regs : List SymWord) (rd temp : ℕ) (q : Place) (sp : ℕ) → length regs ≡ 32 → number_of (sp_word (set_reg (set_reg regs temp undef_word) rd (code_word q))) ≡ Some sp → temp ≢ 2
  no_sp regs rd temp q sp long is temp_sp = ⊎_elim
      (λ rd_sp.
      let l = length-set_reg regs temp undef_word in
      let w : sp_word (set_reg (set_reg regs temp undef_word) rd (code_word q)) ≡ code_word q =
      ap (λ k. sp_word (set_reg (set_reg regs temp undef_word) k (code_word q))) rd_sp
      ∙ reads-set_reg_same (number_word 0) undef_word (set_reg regs temp undef_word) 2 (code_word q) (λ (none : 2 ≡ 0). omega (arith, none)) (omega (arith, l, long)) in
      let none : number_of (code_word q) ≡ Some sp = ap number_of (sym w) ∙ is in
      absurd cc)
      (λ other.
      let w : sp_word (set_reg (set_reg regs temp undef_word) rd (code_word q)) ≡ undef_word =
      reads-set_reg_other (number_word 0) undef_word (set_reg regs temp undef_word) rd (code_word q) 2 (λ x. other (sym x))
      ∙ ap (λ k. sp_word (set_reg regs k undef_word)) temp_sp
      ∙ reads-set_reg_same (number_word 0) undef_word regs 2 undef_word (λ (none : 2 ≡ 0). omega (arith, none)) (omega (arith, long)) in
      let none : number_of undef_word ≡ Some sp = ap number_of (sym w) ∙ is in
      absurd cc)
      (cases_eq rd 2)

  module _ (laid : CallLaid p e r.core.place z.core.pc) (is : Called laid.rd laid.temp laid.to (p.next r.core.place) from.step.change) where
    -- the state before the first word
    abbrev first : AfterCuts p Named e (Upper Auipc laid.temp laid.upper) laid.at.one.size r.core (cuts 0) z
    first = after_cuts room (cuts 0) (from.are 0) laid.at.one from.sound.alike

    -- what that gives
    abbrev way_part : ℕ
    way_part = upper_result Auipc first.now.pc laid.upper

    -- the states after it, with the program's register forgotten
    abbrev between : ZcCore
    between = onward first.now laid.at.one.size (set_reg first.now.regs laid.temp way_part)

    abbrev forgotten : PlainCore
    forgotten = record r.core { regs = set_reg r.core.regs laid.temp undef_word; exit = None }

    not_sp : (laid.temp ≢ 2) ⊎ (is_set p.map r.core ≡ false)
    not_sp =
        let end = subst (λ c. Ended p.map (is_set p.map r.core) (after_change c r.core) r'.core) (sym is.change) from.step.end in
        let known = λ (set : is_set p.map r.core ≡ true). set_some p.map (after_change (call_change laid.rd laid.temp laid.to (p.next r.core.place)) r.core) (end.kept set) in
        ⊎_elim
        (λ set. let at = known set in inl (no_sp r.core.regs laid.rd laid.temp (p.next r.core.place) at.sp from.sound.alike.plain.count at.is))
        (λ unset. inr unset)
        (cases_Bool (is_set p.map r.core))

    between_alike : Alike p Named e forgotten between
    between_alike = alike_forgets laid.temp way_part between.pc between.commits not_sp (omega arith) first.alike

    between_pc : between.pc ≡ z.core.pc + laid.at.one.size
    between_pc = sym (below_top z.core.pc first.now.pc laid.at.one.size first.pc laid.at.one.small)

    -- the state before the second word
    abbrev after_first : ZcState
    after_first = record z { core = between }

    abbrev second_at : OneAt e between.pc (Base (Jalr laid.rd laid.temp laid.lower))
    second_at = record {
      size = laid.at.two.size;
      here = ap (fetched_at (loaded_core e)) between_pc ∙ laid.at.two.here;
      small = omega (arith, laid.at.two.small, between_pc);
    }

    abbrev second : AfterCuts p Named e (Jalr laid.rd laid.temp laid.lower) laid.at.two.size forgotten (cuts 1) after_first
    second = after_cuts room (cuts 1) (from.are 1) second_at between_alike

    abbrev link : ℕ
    link = after second.now laid.at.two.size

    link_is : link ≡ z.core.pc + laid.at.one.size + laid.at.two.size
    link_is = sym (below_top between.pc second.now.pc laid.at.two.size second.pc second_at.small) ∙ ap (λ a. a + laid.at.two.size) between_pc

    -- the register holds what the first word gave
    held : reg_in second.now laid.temp ≡ way_part
    held =
        let long = first.alike.core.count in
        let low = laid.temp_low in
        ap (λ regs. reads 0 0 regs laid.temp) second.regs
        ∙ reads-set_reg_same 0 0 first.now.regs laid.temp way_part is.some (omega (arith, long, low))

    abbrev there : ZcCore
    there = record (onward second.now laid.at.two.size (set_reg second.now.regs laid.rd link)) { pc = add32 (reg_in second.now laid.temp) laid.lower / 2 * 2 }

    runs : zc_turns cuts 2 z ≡ Ok (record z { core = there })
    runs = zc_turns-more cuts 1 z after_first (record z { core = there }) (zc_turns-one cuts z after_first first.turn) second.turn

    reached : e.address laid.to ≡ Some there.pc
    reached = laid.reaches ∙ ap (λ x. Some (add32 x laid.lower / 2 * 2)) (ap (λ a. (a + laid.upper * 2 ^ 12) % 2 ^ 32) (sym first.pc) ∙ sym held)

    two_comes : Named (p.next r.core.place) → Comes p Named e cuts 2 z r'
    two_comes named =
        let next = p.next r.core.place in
        let ready : Ready p Named e (after_change (call_change laid.rd laid.temp laid.to next) r.core) there =
        ready_moved (ready_set second.alike.ready laid.rd link (code_word next) (omega arith)
        (code_stands room next link (laid.next ∙ ap Some (sym link_is))) (code_names Named next named)) laid.to _ _ in
        comes_after from 2 there runs (subst (λ c. Ready p Named e (after_change c r.core) there) is.change ready)
        (subst IsQuiet is.change (record { events = refl; taken = refl }))
        (ap (λ (c : Change). e.address c.place) (sym is.change) ∙ reached)

  pub call_comes : (laid : CallLaid p e r.core.place z.core.pc) → Named (p.next r.core.place) → Comes p Named e cuts 2 z r'
  call_comes laid named =
      let does = ap (λ o. item_does p o r.core (p.next r.core.place)) (sym laid.item) ∙ from.step.does in
      two_comes laid (called laid.rd laid.temp laid.to (p.next r.core.place) from.step.change does) named
