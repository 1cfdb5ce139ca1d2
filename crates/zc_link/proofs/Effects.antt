-- Effects of instructions, one after another, said of the machine alone: stores and loads of slots, and sums of sp. Nothing but
-- registers, memory, pc and the number of commits changes.
use Rattle.std.proofs.Common.{◌≡◌, ◌≢◌, ℕ, ◌+◌, ◌%◌, ◌^◌, ◌<◌, List, [], ◌∷◌, ◌++◌, length, Bool, true, false, cond, refl, sym, ap, ◌∙◌, subst, arith, ℤ, pos, eqb, inl, inr}
use Rattle.std.proofs.lemmas.Bool.{cond-true, eq-eqb, eqb-true}
use Rattle.rv_decode.specs.declared.instr.Instr.{Instr}
use Rattle.rv_decode.specs.declared.instr.Instr.TheVariants.{WithImm}
use Rattle.rv_decode.specs.declared.instr.ImmOp.TheVariants.{Addi}
use Rattle.rv_decode.specs.Bits.{add32}
use Rattle.rv_decode.specs.declared.instr.LoadOp.TheVariants.{Lw}
use Rattle.rv_decode.specs.declared.instr.StoreOp.TheVariants.{Sw}
use Rattle.rv_decode.specs.declared.device_access.DeviceAccess.{DeviceAccess}
use Rattle.rv_decode.specs.declared.device_access.DeviceAccess.TheVariants as access
use Rattle.rv_decode.specs.Effect.{Commits, Effect, Misaligned, Outside, attempting, effect, onward, stored}
use Rattle.rv_decode.specs.Memory.{Extent, byte_of, extents_of, is_data, lies_in, written}
use Rattle.rv_decode.specs.State.{ZcCore, reg_in, set_reg, word_at}
use Rattle.rv_decode.proofs.MemoryLaws.{extents-changed}
use Rattle.rv_decode.proofs.RegisterLaws.{length-set_reg, reads-set_reg_other}
use Rattle.zc_link.specs.Invariants.Groups.{Slot, slot_loads, stores_of}
use Rattle.zc_link.proofs.Slots.{IsOneOf}
use Rattle.zc_link.proofs.SlotWords.{read_all, written_all}

-- ---- one after another

-- each instruction's effect commits, in some size
abbrev pub Effects : List Instr → ZcCore → ZcCore → Type 0
Effects [] z z' = z' ≡ z
Effects (i ∷ is) z z' = (size : ℕ) × (y : ZcCore) × (effect i size z ≡ Commits y) × Effects is y z'

-- the effects of two lists, taken apart and put together
pub effects_apart : (is js : List Instr) (x z : ZcCore) → Effects (is ++ js) x z → (y : ZcCore) × Effects is x y × Effects js y z
effects_apart [] js x z h = (x, refl, h)
effects_apart (i ∷ is) js x z h = let rest = effects_apart is js h.1 z h.3 in (rest.0, (h.0, h.1, h.2, rest.1), rest.2)

pub effects_both : (is js : List Instr) (x y z : ZcCore) → Effects is x y → Effects js y z → Effects (is ++ js) x z
effects_both [] js x y z a b = subst (λ t. Effects js t z) a b
effects_both (i ∷ is) js x y z a b = (a.0, a.1, a.2, effects_both is js a.1 y z a.3 b)

pub commits_same : (c y : ZcCore) → Commits c ≡ Commits y → y ≡ c
commits_same c y h = cc

-- what a state keeps of another
pub record KeepsRest (y z : ZcCore) : Type 0 where
  pub exit : z.exit ≡ y.exit
  pub jvt : z.jvt ≡ y.jvt

pub keeps_same : {y z : ZcCore} → z ≡ y → KeepsRest y z
keeps_same same = record { exit = ap (λ x. x.exit) same; jvt = ap (λ x. x.jvt) same }

pub keeps_both : {x y z : ZcCore} → KeepsRest x y → KeepsRest y z → KeepsRest x z
keeps_both a b = record { exit = b.exit ∙ a.exit; jvt = b.jvt ∙ a.jvt }

-- ---- sums

-- `addi rd,first,imm`
pub sum_is :
    (rd first : ℕ) (imm : ℤ) (y z : ZcCore) → Effects (WithImm Addi rd first imm ∷ []) y z → (size : ℕ) × (z ≡ onward y size (set_reg y.regs rd (add32 (reg_in y first) imm)))
sum_is rd first imm y z h = (h.0, h.3 ∙ commits_same (onward y h.0 (set_reg y.regs rd (add32 (reg_in y first) imm))) h.1 h.2)

-- ---- accesses

-- a word lies in memory for data, at a multiple of 4
pub record IsReached (es : List Extent) (a : ℕ) : Type 0 where
  pub aligned : a % 4 ≡ 0
  pub lies : lies_in is_data es a 4 ≡ true

-- an access that commits is aligned and lies in memory
pub reached_by : (a : ℕ) (z c y : ZcCore) (x : DeviceAccess) → attempting 4 a z (Outside x) (Commits c) ≡ Commits y → (y ≡ c) × IsReached (extents_of z.memory) a
reached_by a z c y x h = either (eqb (a % 4) 0) (lies_in is_data (extents_of z.memory) a 4) refl refl h
  where
    either :
        (b d : Bool) → eqb (a % 4) 0 ≡ b → lies_in is_data (extents_of z.memory) a 4 ≡ d → cond b (cond d (Commits c) (Outside x)) Misaligned ≡ Commits y
        → (y ≡ c) × IsReached (extents_of z.memory) a
    either true true s t g = (commits_same c y g, record { aligned = eqb-true (a % 4) 0 s; lies = t })
    either true false s t g = absurd cc
    either false d s t g = absurd cc

-- an access that is aligned and lies in memory is made
pub reaches : (a : ℕ) (z : ZcCore) (other go : Effect) → IsReached (extents_of z.memory) a → attempting 4 a z other go ≡ go
reaches a z other go is = cond-true (eqb (a % 4) 0) _ _ (eq-eqb (a % 4) 0 is.aligned) ∙ cond-true (lies_in is_data (extents_of z.memory) a 4) _ _ is.lies

-- each slot's word does
abbrev pub AreReached : List Extent → ℕ → List Slot → Type 0
AreReached es base ds = (d : Slot) → IsOneOf d ds → IsReached es (base + d.offset)

-- ---- stores

-- the state after the stores of some slots
pub record StoresAre (base : ℕ) (ds : List Slot) (y z : ZcCore) : Type 0 where
  pub memory : z.memory ≡ written_all (λ r. byte_of (reg_in y r)) base ds y.memory
  pub regs : z.regs ≡ y.regs
  pub rest : KeepsRest y z
  pub reach : AreReached (extents_of y.memory) base ds

pub stores_are : (base : ℕ) (ds : List Slot) (y z : ZcCore) → reg_in y 2 ≡ base → ((d : Slot) → IsOneOf d ds → base + d.offset < 2 ^ 32) → Effects (stores_of ds) y z → StoresAre base ds y z
stores_are base [] y z at small h = record { memory = ap (λ x. x.memory) h; regs = ap (λ x. x.regs) h; rest = keeps_same h; reach = λ d m. absurd m }
stores_are base (d ∷ ds) y z at small h =
    let a : add32 (reg_in y 2) (pos d.offset) ≡ base + d.offset = omega (arith, at, small d (inl refl)) in
    let sends : ℕ → Effect = λ x. Outside (access.Store Sw x (reg_in y d.register) h.0) in
    let after : ℕ → ZcCore = λ x. onward (stored 4 x (reg_in y d.register) y) h.0 y.regs in
    let y1 : ZcCore = after (base + d.offset) in
    let first : attempting 4 (base + d.offset) y (sends (base + d.offset)) (Commits y1) ≡ Commits h.1 = subst (λ x. attempting 4 x y (sends x) (Commits (after x)) ≡ Commits h.1) a h.2 in
    let ok = reached_by (base + d.offset) y y1 h.1 _ first in
    let rest = stores_are base ds y1 z at (λ c m. small c (inr m)) (subst (λ x. Effects (stores_of ds) x z) ok.0 h.3) in
    let same = extents-changed (written (base + d.offset) 4 (byte_of (reg_in y d.register))) y.memory in
    record {
      memory = rest.memory;
      regs = rest.regs;
      rest = keeps_both (record { exit = refl; jvt = refl }) rest.rest;
      reach = λ c m. reach c m ok.1 (subst (λ es. AreReached es base ds) same rest.reach);
    }
  where
    reach : (c : Slot) → IsOneOf c (d ∷ ds) → IsReached (extents_of y.memory) (base + d.offset) → AreReached (extents_of y.memory) base ds → IsReached (extents_of y.memory) (base + c.offset)
    reach c (inl here) is later = subst (λ (x : Slot). IsReached (extents_of y.memory) (base + x.offset)) (sym here) is
    reach c (inr there) is later = later c there

-- ---- loads

-- the state after the loads of some slots
pub record LoadsAre (base : ℕ) (ds : List Slot) (y z : ZcCore) : Type 0 where
  pub regs : z.regs ≡ read_all (word_at y) base ds y.regs
  pub memory : z.memory ≡ y.memory
  pub rest : KeepsRest y z
  pub reach : AreReached (extents_of y.memory) base ds

pub loads_are :
    (base : ℕ) (ds : List Slot) (y z : ZcCore) → reg_in y 2 ≡ base → ((d : Slot) → IsOneOf d ds → (base + d.offset < 2 ^ 32) × (d.register ≢ 2)) → Effects (slot_loads ds) y z
    → LoadsAre base ds y z
loads_are base [] y z at small h = record { regs = ap (λ x. x.regs) h; memory = ap (λ x. x.memory) h; rest = keeps_same h; reach = λ d m. absurd m }
loads_are base (d ∷ ds) y z at small h =
    let in_range = small d (inl refl) in
    let a : add32 (reg_in y 2) (pos d.offset) ≡ base + d.offset = omega (arith, at, in_range.0) in
    let takes : ℕ → Effect = λ x. Outside (access.Load Lw x d.register h.0) in
    let after : ℕ → ZcCore = λ x. onward y h.0 (set_reg y.regs d.register (word_at y x)) in
    let y1 : ZcCore = after (base + d.offset) in
    let first : attempting 4 (base + d.offset) y (takes (base + d.offset)) (Commits y1) ≡ Commits h.1 = subst (λ x. attempting 4 x y (takes x) (Commits (after x)) ≡ Commits h.1) a h.2 in
    let ok = reached_by (base + d.offset) y y1 h.1 _ first in
    let at1 : reg_in y1 2 ≡ base = reads-set_reg_other 0 0 y.regs d.register (word_at y (base + d.offset)) 2 (λ is. in_range.1 (sym is)) ∙ at in
    let rest = loads_are base ds y1 z at1 (λ c m. small c (inr m)) (subst (λ x. Effects (slot_loads ds) x z) ok.0 h.3) in
    record {
      regs = rest.regs;
      memory = rest.memory;
      rest = keeps_both (record { exit = refl; jvt = refl }) rest.rest;
      reach = λ c m. reach c m ok.1 rest.reach;
    }
  where
    reach : (c : Slot) → IsOneOf c (d ∷ ds) → IsReached (extents_of y.memory) (base + d.offset) → AreReached (extents_of y.memory) base ds → IsReached (extents_of y.memory) (base + c.offset)
    reach c (inl here) is later = subst (λ (x : Slot). IsReached (extents_of y.memory) (base + x.offset)) (sym here) is
    reach c (inr there) is later = later c there

-- whatever they load, sp stays
pub loads_sp :
    (ds : List Slot) (y z : ZcCore) → ((d : Slot) → IsOneOf d ds → d.register ≢ 2) → Effects (slot_loads ds) y z → (reg_in z 2 ≡ reg_in y 2) × (length z.regs ≡ length y.regs)
loads_sp [] y z no_sp h = (ap (λ x. reg_in x 2) h, ap (λ x. length x.regs) h)
loads_sp (d ∷ ds) y z no_sp h =
    let a : ℕ = add32 (reg_in y 2) (pos d.offset) in
    let ok = reached_by a y (onward y h.0 (set_reg y.regs d.register (word_at y a))) h.1 _ h.2 in
    let rest = loads_sp ds h.1 z (λ c m. no_sp c (inr m)) h.3 in (
      rest.0 ∙ ap (λ x. reg_in x 2) ok.0 ∙ reads-set_reg_other 0 0 y.regs d.register (word_at y a) 2 (λ is. no_sp d (inl refl) (sym is)),
      rest.1 ∙ ap (λ x. length x.regs) ok.0 ∙ length-set_reg y.regs d.register (word_at y a),
    )
