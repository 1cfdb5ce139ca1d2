-- The step is stuck at its first load, or as it returns; or all loads are made, then a0 is 0 or not, and sp is raised.
use Rattle.std.proofs.Common.{◌≡◌, ℕ, ◌+◌, ◌-◌, ◌*◌, ◌%◌, ◌^◌, ◌<◌, pos, List, [], ◌++◌, length, Some, None, Bool, true, refl, ap, sym, ◌∙◌, subst, arith, get_or}
use Rattle.std.specs.Bool.{OnTrue}
use Rattle.zc_base.specs.declared.mem_map.MemMap.{MemMap}
use Rattle.zc_base.specs.declared.place.Place.{Place}
use Rattle.rv_decode.specs.Bits.{add32}
use Rattle.rv_decode.specs.declared.instr.LoadOp.TheVariants.{Lw}
use Rattle.sym_machine.specs.Answer.{RunsOn}
use Rattle.sym_machine.specs.Change.{Goes, load_word, sets}
use Rattle.sym_machine.specs.Expansions.{restores}
use Rattle.sym_machine.specs.Invariants.Frames as frames
use Rattle.sym_machine.specs.Invariants.Frames.{AreReached, HasStack, IsFrameBytes, IsFrameRegister, IsLoading, IsZeroed, behind_loads, word_address}
use Rattle.sym_machine.specs.State.{PlainCore}
use Rattle.sym_machine.specs.Step.{Stuck, Went, applied, in_stack, in_turn}
use Rattle.sym_machine.specs.Words.{code_of, number_word}
use Rattle.sym_machine.specs.declared.state.frames.PopEnd.{PopEnd}
use Rattle.sym_machine.specs.declared.why.Why.TheVariants.{TargetUnknown}
use Rattle.sym_machine.proofs.FrameLaws.{loading_more, loads_stuck}
use Rattle.sym_machine.proofs.PushPopLaws.{IsListed, is_listed, loaded_of, loaded_some, pop_goes, return_stuck}
use Rattle.sym_machine.proofs.state.State.pop.Goals as goal

-- the address of ra's word
ra_at : (sp frame n : ℕ) → 0 < n → (sp + (frame - 4 * n)) % 2 ^ 32 ≡ word_address sp frame (n - 1)
ra_at sp frame n some = ap (λ k. (sp + k) % 2 ^ 32) (let same : frame - 4 * n ≡ frame - 4 * (n - 1 + 1) = omega (arith, some) in same)

module _ (map : MemMap) (sp frame : ℕ) (end : PopEnd) (rs : List ℕ) (next : Place) (s : PlainCore) (small : sp < 2 ^ 32) (of : IsListed frame rs) (stack : HasStack map sp s) (reached : AreReached s sp frame (length rs)) where
  unknown : in_stack map (add32 sp (pos frame)) ≡ true → frames.pop_target end (code_of (load_word Lw s (word_address sp frame (length rs - 1)))) next ≡ None
      → in_turn map (restores frame rs ++ behind_loads end frame) next s ≡ Stuck TargetUnknown
  unknown inside none =
      let z = loaded_some map sp frame end rs next s of.some of.last small of.known stack reached in
      z.is.same ∙ return_stuck map sp frame next z.state z.is.stack of.size.some inside end (ap (λ w. frames.pop_target end (code_of w) next) z.is.ra ∙ none)

  goes : (s1 z s4 : PlainCore) (to : Place) → in_stack map (add32 sp (pos frame)) ≡ true
      → frames.pop_target end (code_of (load_word Lw s (word_address sp frame (length rs - 1)))) next ≡ Some to
      → IsLoading map sp frame (length rs) rs next s s1 → IsZeroed end map next s1 z → applied map z (Goes (sets 2 (number_word (add32 sp (pos frame))) to)) ≡ Went s4 []
      → in_turn map (restores frame rs ++ behind_loads end frame) next s ≡ Went s4 []
  goes s1 z s4 to inside target loading cleared h =
      let l = loaded_of map sp frame end rs next s of.some of.last s1 z loading cleared in
      l.same ∙ pop_goes map sp frame next z l.stack of.size.some inside end to s4 (ap (λ w. frames.pop_target end (code_of w) next) l.ra ∙ target) h

  -- behind all other loads ra's is made
  all_loaded : (s1 s2 : PlainCore) → IsLoading map sp frame (length rs - 1) rs next s s1
      → applied map s1 (Goes (sets 1 (load_word Lw s1 (word_address sp frame (length rs - 1))) next)) ≡ Went s2 [] → IsLoading map sp frame (length rs) rs next s s2
  all_loaded s1 s2 loading h =
      let k : ℕ = length rs - 1 in
      let some = of.some in
      let few : k < length rs = omega (arith, some) in
      let all : k + 1 ≡ length rs = omega (arith, some) in
      let own : applied map s1 (Goes (sets (get_or rs k 0) (load_word Lw s1 (word_address sp frame k)) next)) ≡ Went s2 [] =
      ap (λ r. applied map s1 (Goes (sets r (load_word Lw s1 (word_address sp frame k)) next))) of.last ∙ h in
      subst (λ (n : ℕ). IsLoading map sp frame n rs next s s2) all (loading_more map sp frame rs next s small of.known k s1 s2 few (reached.each k few) loading own)

pub obstacle-requires-clause-frame : goal.obstacle-requires-clause-frame
obstacle-requires-clause-frame c =
    (is_listed c.args.list c.args.adjust c.from-frame.result c.registers-registers.result.now c.requires.size c.from-frame.ensures c.registers-registers.ensures.value).size

pub returns-in-Some : goal.returns-in-Some
returns-in-Some c =
    let first = c.args.self.now in
    let s = first.core in
    let frame : ℕ = c.from-frame.result in
    let rs : List ℕ = c.registers-registers.result.now in
    let of = is_listed c.args.list c.args.adjust frame rs c.requires.size c.from-frame.ensures c.registers-registers.ensures.value in (
      c.requires.running,
      refl,
      (λ j. in_turn first.map (restores (sym c.from-frame.ensures j) (sym c.registers-registers.ensures.value j) ++ behind_loads c.args.end (sym c.from-frame.ensures j)) c.args.next s)
          ∙ loads_stuck first.map c.sp-sp.result frame rs c.args.next s c.sp-sp.type_inv of.known c.sp-sp.ensures c.in-Some.why (behind_loads c.args.end frame) of.some c.in-Some.ensures,
    )

pub returns-in_default-pop_target : goal.returns-in_default-pop_target
returns-in_default-pop_target c =
    let first = c.args.self.now in
    let s = first.core in
    let sp : ℕ = c.sp-sp.result in
    let frame : ℕ = c.from-frame.result in
    let rs : List ℕ = c.registers-registers.result.now in
    let of = is_listed c.args.list c.args.adjust frame rs c.requires.size c.from-frame.ensures c.registers-registers.ensures.value in
    let none = ap (λ a. frames.pop_target c.args.end (code_of (load_word Lw s a)) c.args.next) (sym (ra_at sp frame (length rs) of.some)) ∙ sym c.pop_target.ensures ∙ c.in_default-pop_target.is in (
      c.requires.running,
      refl,
      (λ j. in_turn first.map (restores (sym c.from-frame.ensures j) (sym c.registers-registers.ensures.value j) ++ behind_loads c.args.end (sym c.from-frame.ensures j)) c.args.next s)
          ∙ unknown first.map sp frame c.args.end rs c.args.next s c.sp-sp.type_inv of c.sp-sp.ensures (c.in_default.ensures.reached (length rs) of.room) c.in_default.ensures.end none,
    )

pub restore_all-requires-clause-known : goal.restore_all-requires-clause-known
restore_all-requires-clause-known c =
    (is_listed c.args.list c.args.adjust c.from-frame.result c.registers-registers.result.now c.requires.size c.from-frame.ensures c.registers-registers.ensures.value).known

pub restore_all-requires-clause-reached : goal.restore_all-requires-clause-reached
restore_all-requires-clause-reached c =
    let rs : List ℕ = c.registers-registers.result.now in
    let of = is_listed c.args.list c.args.adjust c.from-frame.result rs c.requires.size c.from-frame.ensures c.registers-registers.ensures.value in
    c.in_default.ensures.reached (length rs) of.room

pub restore_ra-requires-clause-leads : goal.restore_ra-requires-clause-leads
restore_ra-requires-clause-leads c =
    let s = c.args.self.now.core in
    let ra : ℕ = (c.sp-sp.result + (c.from-frame.result - 4 * length c.registers-registers.result.now)) % 2 ^ 32 in
    ap (λ m. frames.pop_target c.args.end (code_of (load_word Lw (record s { memory = m }) ra)) c.args.next) c.restore_all.ensures.loaded.memory
    ∙ sym c.pop_target.ensures ∙ c.in-Some-pop_target.is

pub returns : goal.returns
returns c =
    let first = c.args.self.now in
    let s = first.core in
    let sp : ℕ = c.sp-sp.result in
    let frame : ℕ = c.from-frame.result in
    let rs : List ℕ = c.registers-registers.result.now in
    let next = c.args.next in
    let to = c.in-Some-pop_target.to in
    let s1 = c.restore_all.new.self in
    let s2 = c.restore_ra.new.self in
    let z = c.clear_a0.new.self in
    let s4 = c.move_sp-raised.new.self.core in
    let of = is_listed c.args.list c.args.adjust frame rs c.requires.size c.from-frame.ensures c.registers-registers.ensures.value in
    let inside = c.in_default.ensures.end in
    let reached = c.in_default.ensures.reached (length rs) of.room in
    let map1 = c.restore_all.ensures.runs.1 in
    let map2 : s2.map ≡ first.map = c.restore_ra.ensures.map ∙ map1 in
    let ra_made : applied first.map s1.core (Goes (sets 1 (load_word Lw s1.core (word_address sp frame (length rs - 1))) next)) ≡ Went s2.core [] =
    (λ j. applied (sym map1 j) s1.core (Goes (sets 1 (load_word Lw s1.core (sym (ra_at sp frame (length rs) of.some) j)) next))) ∙ c.restore_ra.ensures.made.2 in
    let loading = all_loaded first.map sp frame c.args.end rs next s c.sp-sp.type_inv of c.sp-sp.ensures reached s1.core s2.core c.restore_all.ensures.loaded ra_made in
    let target = ap (λ a. frames.pop_target c.args.end (code_of (load_word Lw s a)) next) (sym (ra_at sp frame (length rs) of.some)) ∙ sym c.pop_target.ensures ∙ c.in-Some-pop_target.is in
    let map_z : z.map ≡ first.map = c.clear_a0.ensures.runs.1 ∙ map2 in
    let top : ℕ = (sp + frame) % 2 ^ 32 in
    let could = c.move_sp-raised.ensures.could ∙ ap (λ (m : MemMap). in_stack m top) map_z ∙ inside in
    let made = subst (λ (b : Bool). OnTrue b (RunsOn (applied z.map z.core (Goes (sets 2 (number_word top) to))) [] z.core s4)) could c.move_sp-raised.ensures.made in
    let raised : applied first.map z.core (Goes (sets 2 (number_word top) to)) ≡ Went s4 [] = ap (λ (m : MemMap). applied m z.core (Goes (sets 2 (number_word top) to))) (sym map_z) ∙ made.2 in
    let cleared = subst (λ (m : MemMap). IsZeroed c.args.end m next s2.core z.core) map2 c.clear_a0.ensures.zeroed in (
      c.requires.running,
      made.1,
      (λ j. in_turn first.map (restores (sym c.from-frame.ensures j) (sym c.registers-registers.ensures.value j) ++ behind_loads c.args.end (sym c.from-frame.ensures j)) next s)
          ∙ goes first.map sp frame c.args.end rs next s c.sp-sp.type_inv of c.sp-sp.ensures reached s2.core z.core s4 to inside target loading cleared raised,
    )
