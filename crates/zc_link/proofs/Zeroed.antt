-- A pop's items with `addi a0,x0,0` among them do what they do without it, and then set a0 to 0: a0 is no slot's register, and it
-- isn't sp. This speaks of the machine alone.
use Rattle.std.proofs.Common.{◌≡◌, ◌≢◌, ℕ, List, [], ◌∷◌, ◌++◌, length, refl, sym, ap, ap₂, ◌∙◌, subst, arith, pos, inl, inr, ⊎_elim}
use Rattle.std.proofs.lemmas.Bool.{cases_eq}
use Rattle.rv_decode.specs.Bits.{add32}
use Rattle.rv_decode.specs.declared.instr.LoadOp.TheVariants.{Lw}
use Rattle.rv_decode.specs.declared.device_access.DeviceAccess.TheVariants as access
use Rattle.rv_decode.specs.Effect.{Commits, Outside, attempting, onward}
use Rattle.rv_decode.specs.Memory.{Region}
use Rattle.rv_decode.specs.State.{ZcCore, reg_in, set_reg, word_at}
use Rattle.rv_decode.proofs.RegisterLaws.{length-set_reg, reads, reads-set_reg_other, reads-set_reg_same, set_reg_both}
use Rattle.zc_link.specs.Invariants.Groups.{Ending, GoesOn, Returns, Slot, ZeroBeforeRaise, ZeroBeforeReturn, ZeroFirst, slot_loads, ops_before_return, pop_ops, raise_sp, zero_a0}
use Rattle.zc_link.proofs.Effects.{Effects, KeepsRest, effects_apart, effects_both, loads_sp, reached_by, reaches, sum_is}
use Rattle.zc_link.proofs.Slots.{IsOneOf}

-- ---- how a pop ends

-- the registers after a pop, by those that a pop that goes on leaves
abbrev pub final_regs : Ending → List ℕ → List ℕ
final_regs GoesOn regs = regs
final_regs Returns regs = regs
final_regs ZeroFirst regs = set_reg regs 10 0
final_regs ZeroBeforeRaise regs = set_reg regs 10 0
final_regs ZeroBeforeReturn regs = set_reg regs 10 0

pub length_final : (ending : Ending) (regs : List ℕ) → length (final_regs ending regs) ≡ length regs
length_final GoesOn regs = refl
length_final Returns regs = refl
length_final ZeroFirst regs = length-set_reg regs 10 0
length_final ZeroBeforeRaise regs = length-set_reg regs 10 0
length_final ZeroBeforeReturn regs = length-set_reg regs 10 0

-- what reads the same does so with a0 set
set_zero : (xs ys : List ℕ) (r : ℕ) → length xs ≡ length ys → reads 0 0 xs r ≡ reads 0 0 ys r → reads 0 0 (set_reg xs 10 0) r ≡ reads 0 0 (set_reg ys 10 0) r
set_zero xs ys r long same = set_reg_both (λ (v w : ℕ). v ≡ w) 0 0 0 0 xs ys 10 r 0 0 long refl same

pub final_same :
    (ending : Ending) (xs ys : List ℕ) → length xs ≡ length ys → ((r : ℕ) → reads 0 0 xs r ≡ reads 0 0 ys r) → (r : ℕ)
    → reads 0 0 (final_regs ending xs) r ≡ reads 0 0 (final_regs ending ys) r
final_same GoesOn xs ys long same r = same r
final_same Returns xs ys long same r = same r
final_same ZeroFirst xs ys long same r = set_zero xs ys r long (same r)
final_same ZeroBeforeRaise xs ys long same r = set_zero xs ys r long (same r)
final_same ZeroBeforeReturn xs ys long same r = set_zero xs ys r long (same r)

-- sp isn't a0
pub final_sp : (ending : Ending) (regs : List ℕ) → reads 0 0 (final_regs ending regs) 2 ≡ reads 0 0 regs 2
final_sp GoesOn regs = refl
final_sp Returns regs = refl
final_sp ZeroFirst regs = reads-set_reg_other 0 0 regs 10 0 2 (λ is. omega (arith, is))
final_sp ZeroBeforeRaise regs = reads-set_reg_other 0 0 regs 10 0 2 (λ is. omega (arith, is))
final_sp ZeroBeforeReturn regs = reads-set_reg_other 0 0 regs 10 0 2 (λ is. omega (arith, is))

-- zf is zp with these registers
pub record Final (ending : Ending) (zp zf : ZcCore) : Type 0 where
  pub rest : KeepsRest zp zf
  pub memory : zf.memory ≡ zp.memory
  pub long : length zf.regs ≡ length zp.regs
  pub registers : (r : ℕ) → reg_in zf r ≡ reads 0 0 (final_regs ending zp.regs) r

-- ---- a0 is 0

-- z is y, but that a0 is 0
record HasZero (y z : ZcCore) : Type 0 where
  rest : KeepsRest y z
  memory : z.memory ≡ y.memory
  long : length z.regs ≡ 32
  long_y : length y.regs ≡ 32
  registers : (r : ℕ) → r ≢ 10 → reg_in z r ≡ reg_in y r
  a0 : reg_in z 10 ≡ 0

-- an instruction that sets another register, to the same in both
other_set : (y z : ZcCore) (rd v size_y size_z : ℕ) → HasZero y z → rd ≢ 10 → HasZero (onward y size_y (set_reg y.regs rd v)) (onward z size_z (set_reg z.regs rd v))
other_set y z rd v size_y size_z t other = record {
  rest = record { exit = t.rest.exit; jvt = t.rest.jvt };
  memory = t.memory;
  long = length-set_reg z.regs rd v ∙ t.long;
  long_y = length-set_reg y.regs rd v ∙ t.long_y;
  registers = λ r no_a0. set_reg_both (λ (a b : ℕ). a ≡ b) 0 0 0 0 z.regs y.regs rd r v v (t.long ∙ sym t.long_y) refl (t.registers r no_a0);
  a0 = reads-set_reg_other 0 0 z.regs rd v 10 (λ is. other (sym is)) ∙ t.a0;
}

loads_zero :
    (ds : List Slot) (y yz zz : ZcCore) → ((d : Slot) → IsOneOf d ds → d.register ≢ 10) → HasZero y yz → Effects (slot_loads ds) yz zz
    → (z : ZcCore) × Effects (slot_loads ds) y z × HasZero z zz
loads_zero [] y yz zz low t h = (y, refl, subst (λ x. HasZero y x) (sym h) t)
loads_zero (d ∷ ds) y yz zz low t h =
    let a : ℕ = add32 (reg_in y 2) (pos d.offset) in
    let sp : reg_in yz 2 ≡ reg_in y 2 = t.registers 2 (λ is. omega (arith, is)) in
    let v : ℕ = word_at y a in
    let first : attempting 4 a y (Outside (access.Load Lw a d.register h.0)) (Commits (onward yz h.0 (set_reg yz.regs d.register v))) ≡ Commits h.1 =
    sym (ap₂ (λ (m : List (Region ℕ)) (n : ℕ).
    attempting 4 (add32 n (pos d.offset)) (record yz { memory = m }) (Outside (access.Load Lw (add32 n (pos d.offset)) d.register h.0))
    (Commits (onward yz h.0 (set_reg yz.regs d.register (word_at (record yz { memory = m }) (add32 n (pos d.offset))))))) t.memory sp) ∙ h.2 in
    let ok = reached_by a y (onward yz h.0 (set_reg yz.regs d.register v)) h.1 _ first in
    let y1 : ZcCore = onward y 0 (set_reg y.regs d.register v) in
    let next : HasZero y1 h.1 = subst (λ x. HasZero y1 x) (sym ok.0) (other_set y yz d.register v 0 h.0 t (low d (inl refl))) in
    let rest = loads_zero ds y1 h.1 zz (λ c m. low c (inr m)) next h.3 in
    (rest.0, (0, y1, reaches a y _ (Commits y1) ok.1, rest.1), rest.2)

-- `addi sp`
raise_zero : (frame : ℕ) (y yz zz : ZcCore) → HasZero y yz → Effects (raise_sp frame ∷ []) yz zz → (z : ZcCore) × Effects (raise_sp frame ∷ []) y z × HasZero z zz
raise_zero frame y yz zz t h =
    let sp : reg_in yz 2 ≡ reg_in y 2 = t.registers 2 (λ is. omega (arith, is)) in
    let v : ℕ = add32 (reg_in y 2) (pos frame) in
    let is = sum_is 2 2 (pos frame) yz zz h in
    let z : ZcCore = onward y 0 (set_reg y.regs 2 v) in
    let same : zz ≡ onward yz is.0 (set_reg yz.regs 2 v) = is.1 ∙ ap (λ n. onward yz is.0 (set_reg yz.regs 2 (add32 n (pos frame)))) sp in
    (z, (0, z, refl, refl), subst (λ x. HasZero z x) (sym same) (other_set y yz 2 v 0 is.0 t (λ is. omega (arith, is))))

-- `addi a0,x0,0` itself
zero_itself : (y yz : ZcCore) → length y.regs ≡ 32 → Effects (zero_a0 ∷ []) y yz → HasZero y yz
zero_itself y yz long h =
    let is = sum_is 10 0 (pos 0) y yz h in
    let ten : ◌≢◌ {A = ℕ} 10 0 = λ none. omega (arith, none) in
    subst (λ x. HasZero y x) (sym is.1) (record {
      rest = record { exit = refl; jvt = refl };
      memory = refl;
      long = length-set_reg y.regs 10 0 ∙ long;
      long_y = long;
      registers = λ r other. reads-set_reg_other 0 0 y.regs 10 0 r other;
      a0 = reads-set_reg_same 0 0 y.regs 10 0 ten (omega (arith, long));
    })

-- the registers are those with a0 set
zero_reads : (y z : ZcCore) → HasZero y z → (r : ℕ) → reg_in z r ≡ reads 0 0 (set_reg y.regs 10 0) r
zero_reads y z t r = ⊎_elim
    (λ here.
    let ten : ◌≢◌ {A = ℕ} 10 0 = λ none. omega (arith, none) in
    let long = t.long_y in
    ap (reg_in z) here ∙ t.a0 ∙ sym (reads-set_reg_same 0 0 y.regs 10 0 ten (omega (arith, long))) ∙ ap (reads 0 0 (set_reg y.regs 10 0)) (sym here))
    (λ other. t.registers r other ∙ sym (reads-set_reg_other 0 0 y.regs 10 0 r other))
    (cases_eq r 10)

-- ---- a pop's items

-- the effects of a pop that goes on, up to a state zp, and of what sets a0
pub record WithoutZero (ending : Ending) (frame : ℕ) (order : List Slot) (z zf : ZcCore) : Type 0 where
  pub zp : ZcCore
  pub effects : Effects (pop_ops frame order) z zp
  pub final : Final ending zp zf

module _ (frame : ℕ) (order : List Slot) (no_a0 : (d : Slot) → IsOneOf d order → d.register ≢ 10) (no_sp : (d : Slot) → IsOneOf d order → d.register ≢ 2) (z : ZcCore) (long : length z.regs ≡ 32) where
  -- a0 is set before the loads
  zero_first : (zf : ZcCore) → Effects (zero_a0 ∷ pop_ops frame order) z zf → (zp : ZcCore) × Effects (pop_ops frame order) z zp × HasZero zp zf
  zero_first zf h =
      let t = zero_itself z h.1 long (h.0, h.1, h.2, refl) in
      let parts = effects_apart (slot_loads order) (raise_sp frame ∷ []) h.1 zf h.3 in
      let a = loads_zero order z h.1 parts.0 no_a0 t parts.1 in
      let b = raise_zero frame a.0 parts.0 zf a.2 parts.2 in
      (b.0, effects_both (slot_loads order) (raise_sp frame ∷ []) z a.0 b.0 a.1 b.1, b.2)

  -- before sp is raised
  zero_between : (zf : ZcCore) → Effects (slot_loads order ++ zero_a0 ∷ raise_sp frame ∷ []) z zf → (zp : ZcCore) × Effects (pop_ops frame order) z zp × HasZero zp zf
  zero_between zf h =
      let parts = effects_apart (slot_loads order) (zero_a0 ∷ raise_sp frame ∷ []) z zf h in
      let ye : ZcCore = parts.0 in
      let rest = parts.2 in
      let ld = loads_sp order z ye no_sp parts.1 in
      let t = zero_itself ye rest.1 (ld.1 ∙ long) (rest.0, rest.1, rest.2, refl) in
      let b = raise_zero frame ye rest.1 zf t rest.3 in
      (b.0, effects_both (slot_loads order) (raise_sp frame ∷ []) z ye b.0 parts.1 b.1, b.2)

  -- a0 is set last
  zero_last : (zf : ZcCore) → Effects (pop_ops frame order ++ zero_a0 ∷ []) z zf → (zp : ZcCore) × Effects (pop_ops frame order) z zp × HasZero zp zf
  zero_last zf h =
      let parts = effects_apart (pop_ops frame order) (zero_a0 ∷ []) z zf h in
      let zp : ZcCore = parts.0 in
      let inner = effects_apart (slot_loads order) (raise_sp frame ∷ []) z zp parts.1 in
      let ye : ZcCore = inner.0 in
      let ld = loads_sp order z ye no_sp inner.1 in
      let last = sum_is 2 2 (pos frame) ye zp inner.2 in
      let long_p : length zp.regs ≡ 32 = ap (λ x. length x.regs) last.1 ∙ length-set_reg ye.regs 2 (add32 (reg_in ye 2) (pos frame)) ∙ ld.1 ∙ long in
      (zp, parts.1, zero_itself zp zf long_p parts.2)

  pub without_zero : (ending : Ending) (zf : ZcCore) → Effects (ops_before_return ending frame order) z zf → WithoutZero ending frame order z zf
  without_zero GoesOn zf h = record { zp = zf; effects = h; final = record { rest = record { exit = refl; jvt = refl }; memory = refl; long = refl; registers = λ r. refl } }
  without_zero Returns zf h = record { zp = zf; effects = h; final = record { rest = record { exit = refl; jvt = refl }; memory = refl; long = refl; registers = λ r. refl } }
  without_zero ZeroFirst zf h =
      let f = zero_first zf h in
      record { zp = f.0; effects = f.1; final = record { rest = f.2.rest; memory = f.2.memory; long = f.2.long ∙ sym f.2.long_y; registers = zero_reads f.0 zf f.2 } }
  without_zero ZeroBeforeRaise zf h =
      let f = zero_between zf h in
      record { zp = f.0; effects = f.1; final = record { rest = f.2.rest; memory = f.2.memory; long = f.2.long ∙ sym f.2.long_y; registers = zero_reads f.0 zf f.2 } }
  without_zero ZeroBeforeReturn zf h =
      let f = zero_last zf h in
      record { zp = f.0; effects = f.1; final = record { rest = f.2.rest; memory = f.2.memory; long = f.2.long ∙ sym f.2.long_y; registers = zero_reads f.0 zf f.2 } }
