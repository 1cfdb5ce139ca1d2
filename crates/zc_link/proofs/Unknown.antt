-- Bytes that no store of a push touches stay undefined to the program: those below its slots, which an interrupt between the two
-- instructions of a split push may write.
use Rattle.std.proofs.Common.{◌≡◌, ℕ, ◌+◌, ◌-◌, ◌^◌, ◌<◌, ◌≤◌, List, [], ◌∷◌, length, Ok, Bool, refl, sym, ap, ◌∙◌, subst, arith, pos, negsuc, leb, ltb, slice_index_or, inl, inr}
use Rattle.std.specs.Prelude.{◌&&◌}
use Rattle.std.proofs.lemmas.Bool.{cond_both}
use Rattle.zc_base.specs.declared.mem_map.MemMap.{MemMap}
use Rattle.zc_base.specs.declared.place.Place.{Place}
use Rattle.rv_decode.specs.declared.instr.Instr.TheVariants.{Store}
use Rattle.rv_decode.specs.declared.instr.StoreOp.TheVariants.{Sw}
use Rattle.rv_decode.specs.Bits.{add32}
use Rattle.rv_decode.specs.Effect.{onward, stored}
use Rattle.rv_decode.specs.Memory.{written}
use Rattle.rv_decode.specs.Run.{iterate}
use Rattle.rv_decode.specs.State.{ZcCore, reg_in, set_reg}
use Rattle.rv_decode.proofs.MemoryLaws.{cell-changed_default, untouched}
use Rattle.rv_decode.proofs.RegisterLaws.{reads-set_reg_same}
use Rattle.rv_decode.proofs.RunLaws.{bind_ok}
use Rattle.sym_machine.specs.declared.word.SymByte.{SymByte}
use Rattle.sym_machine.specs.declared.word.SymByte.TheVariants.{Undef}
use Rattle.sym_machine.specs.Change.{Change, Goes, op_does, puts, sets, stored_bytes}
use Rattle.sym_machine.specs.Program.{Program}
use Rattle.sym_machine.specs.Run.{plain_turn}
use Rattle.sym_machine.specs.State.{PlainCore, PlainState, cell_of, reg_of}
use Rattle.sym_machine.specs.Step.{after_change, is_set, stack_mark, undefined_below}
use Rattle.sym_machine.specs.Words.{sum_word}
use Rattle.sym_machine.proofs.StepLaws.{Ended}
use Rattle.zc_link.specs.Invariants.Groups.{Slot, lower_sp, push_ops, stores_of}
use Rattle.zc_link.specs.Image.{Image}
use Rattle.zc_link.specs.Invariants.Room.{Room}
use Rattle.zc_link.specs.Sound.{Alike}
use Rattle.zc_link.specs.Invariants.Stretches.{AreOps}
use Rattle.zc_link.proofs.Accesses.{reached}
use Rattle.zc_link.proofs.Effects.{commits_same, reached_by}
use Rattle.zc_link.proofs.Slots.{IsOneOf}
use Rattle.zc_link.proofs.Straight.{AreStraight, base_sum, both_step}

-- ---- one step

-- the end of a step
end_keeps : (map : MemMap) (was_set : Bool) (s s' : PlainCore) (x : ℕ) → Ended map was_set s s' → cell_of s x ≡ Undef → cell_of s' x ≡ Undef
end_keeps map was_set s s' x end undefined =
    ap (λ t. cell_of t x) end.state
    ∙ cell-changed_default (undefined_below map (stack_mark map s)) s.memory x Undef (below Undef refl)
    ∙ below (cell_of s x) undefined
  where
    below : (c : SymByte) → c ≡ Undef → undefined_below map (stack_mark map s) x c ≡ Undef
    below c is = cond_both (leb map.stack_low x && ltb x (stack_mark map s)) Undef c (λ k. k ≡ Undef) (λ _. refl) (λ _. is)

-- a store above
puts_keep : (s : PlainCore) (a : ℕ) (bytes : List SymByte) (next : Place) (x : ℕ) → x < a → cell_of s x ≡ Undef → cell_of (after_change (puts a bytes next) s) x ≡ Undef
puts_keep s a bytes next x under undefined =
    let given : ℕ → SymByte = λ i. slice_index_or bytes i Undef in
    let stays : (c : SymByte) → written a (length bytes) given x c ≡ c = λ c. untouched a (length bytes) given x c (λ low high. omega (arith, low, under)) in
    cell-changed_default (written a (length bytes) given) s.memory x Undef (stays Undef) ∙ stays (cell_of s x) ∙ undefined

module _ {p : Program} {Named : Place → Type 0} {e : Image} (room : Room p e) where
  store_keeps :
      (d : Slot) (base : ℕ) (s s' : PlainCore) (z : ZcCore) (c : Change) (next : Place) (x : ℕ) → Alike p Named e s z → reg_in z 2 ≡ base → base + d.offset < 2 ^ 32
      → x < base + d.offset → op_does (Store Sw d.register 2 (pos d.offset)) s next ≡ Goes c → Ended p.map (is_set p.map s) (after_change c s) s' → cell_of s x ≡ Undef → cell_of s' x ≡ Undef
  store_keeps d base s s' z c next x al at small under does end undefined =
      let a : ℕ = add32 (reg_in z 2) (pos d.offset) in
      let is : a ≡ base + d.offset = omega (arith, at, small) in
      let bytes = stored_bytes Sw (reg_of s d.register) in
      let ok = reached room al.ready 4 (sum_word (reg_of s 2) (pos d.offset)) a (λ k. Goes (puts k bytes next)) c (omega arith) (base_sum room 2 (pos d.offset) al.ready (omega arith)) does in
      let same : puts a bytes next ≡ c = (let g = ok.goes in cc) in
      end_keeps p.map (is_set p.map s) (after_change c s) s' x end
      (subst (λ t. cell_of (after_change t s) x ≡ Undef) same (puts_keep s a bytes next x (omega (arith, is, under)) undefined))

  stores_keep :
      (ds : List Slot) (base : ℕ) (r r' : PlainState) (z : ZcCore) (x : ℕ) → AreOps p r.core.place (stores_of ds) → AreStraight (stores_of ds)
      → iterate (plain_turn p) (length (stores_of ds)) r ≡ Ok r' → Alike p Named e r.core z → reg_in z 2 ≡ base
      → ((d : Slot) → IsOneOf d ds → (base + d.offset < 2 ^ 32) × (x < base + d.offset)) → cell_of r.core x ≡ Undef → cell_of r'.core x ≡ Undef
  stores_keep [] base r r' z x ops low h al at above undefined = let same : r ≡ r' = cc in ap (λ (t : PlainState). cell_of t.core x) (sym same) ∙ undefined
  stores_keep (d ∷ ds) base r r' z x ops low h al at above undefined =
      let i = Store Sw d.register 2 (pos d.offset) in
      let first = bind_ok (plain_turn p r) (iterate (plain_turn p) (length (stores_of ds))) r' h in
      let one = both_step room i r first.0 z low.0 ops.0 first.1 al in
      let a : ℕ = add32 (reg_in z 2) (pos d.offset) in
      let ok = reached_by a z (onward (stored 4 a (reg_in z d.register) z) 0 z.regs) one.goes.made.after _ one.goes.made.commits in
      let here = above d (inl refl) in
      stores_keep ds base first.0 r' one.goes.made.after x (subst (λ q. AreOps p q (stores_of ds)) (sym one.of.came.place) ops.1) low.1 first.2 one.alike
      (ap (λ t. reg_in t 2) ok.0 ∙ at) (λ c m. above c (inr m))
      (store_keeps d base r.core first.0.core z one.of.step.change (p.next r.core.place) x al at here.0 here.1 one.of.does one.of.step.end undefined)

  -- ---- all of a push's items

  pub push_keeps :
      (frame : ℕ) (order : List Slot) (r r' : PlainState) (z : ZcCore) (x : ℕ) → AreOps p r.core.place (push_ops frame order) → AreStraight (push_ops frame order)
      → iterate (plain_turn p) (length (push_ops frame order)) r ≡ Ok r' → Alike p Named e r.core z → 0 < frame → frame ≤ reg_in z 2
      → ((d : Slot) → IsOneOf d order → (reg_in z 2 - frame + d.offset < 2 ^ 32) × (x < reg_in z 2 - frame + d.offset))
      → cell_of r.core x ≡ Undef → cell_of r'.core x ≡ Undef
  push_keeps frame order r r' z x ops low h al some deep above undefined =
      let first = bind_ok (plain_turn p r) (iterate (plain_turn p) (length (stores_of order))) r' h in
      let one = both_step room (lower_sp frame) r first.0 z low.0 ops.0 first.1 al in
      let v : ℕ = add32 (reg_in z 2) (negsuc (frame - 1)) in
      let small = al.core.words 2 in
      let is : v ≡ reg_in z 2 - frame = omega (arith, deep, some, small) in
      let done = commits_same (onward z 0 (set_reg z.regs 2 v)) one.goes.made.after one.goes.made.commits in
      let long = al.core.count in
      let at : reg_in one.goes.made.after 2 ≡ reg_in z 2 - frame =
      ap (λ t. reg_in t 2) done ∙ reads-set_reg_same 0 0 z.regs 2 v (λ (none : 2 ≡ 0). omega (arith, none)) (omega (arith, long)) ∙ is in
      let c = one.of.step.change in
      let same : sets 2 (sum_word (reg_of r.core 2) (negsuc (frame - 1))) (p.next r.core.place) ≡ c = (let g = one.of.does in cc) in
      let still : cell_of (after_change c r.core) x ≡ Undef = subst (λ t. cell_of (after_change t r.core) x ≡ Undef) same undefined in
      stores_keep order (reg_in z 2 - frame) first.0 r' one.goes.made.after x (subst (λ q. AreOps p q (stores_of order)) (sym one.of.came.place) ops.1) low.1 first.2 one.alike at above
      (end_keeps p.map (is_set p.map r.core) (after_change c r.core) first.0.core x one.of.step.end still)
