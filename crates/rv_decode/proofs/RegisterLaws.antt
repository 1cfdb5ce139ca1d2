-- What registers read after one of them is set, for any list of registers: of words, or of what stands for words.
use Rattle.std.proofs.Common.{◌≡◌, ◌≢◌, ℕ, ◌^◌, ◌<◌, List, length, Bool, true, false, cond, refl, ap, ◌∙◌, arith, eqb, get_or, set, length-set, get_or-set_same, get_or-set_other, ⊎_elim}
use Rattle.std.proofs.lemmas.Bool.{cases_lt, cases_eq, cond-false, ne_eqb}
use Rattle.std.proofs.lemmas.List.{set_past}
use Rattle.std.proofs.lemmas.Grind.{get_or-set_at}
use Rattle.rv_decode.specs.State.{IsCore, ZcCore, set_reg}

-- what register r reads, with what register 0 is; reg_in z r is reads 0 0 z.regs r
abbrev pub reads : {X : Type 0} → X → X → List X → ℕ → X
reads zero d regs r = cond (eqb r 0) zero (get_or regs r d)

pub length-set_reg : {X : Type 0} (regs : List X) (rd : ℕ) (v : X) → length (set_reg regs rd v) ≡ length regs
length-set_reg {X = X} regs rd v = either (eqb rd 0)
  where
    either : (b : Bool) → length (cond b regs (set regs rd v)) ≡ length regs
    either true = refl
    either false = length-set regs rd v

module _ {X : Type 0} (zero d : X) (regs : List X) (rd : ℕ) (v : X) where
  -- register 0
  pub reads-set_reg_zero : reads zero d (set_reg regs rd v) 0 ≡ zero
  reads-set_reg_zero = refl

  -- the register that is set
  pub reads-set_reg_same : rd ≢ 0 → rd < length regs → reads zero d (set_reg regs rd v) rd ≡ v
  reads-set_reg_same some inside =
      let other = ne_eqb rd 0 some in
      cond-false (eqb rd 0) zero (get_or (set_reg regs rd v) rd d) other
      ∙ ap (λ l. get_or l rd d) (cond-false (eqb rd 0) regs (set regs rd v) other)
      ∙ get_or-set_same regs rd v d inside

  -- another one
  pub reads-set_reg_other : (r : ℕ) → r ≢ rd → reads zero d (set_reg regs rd v) r ≡ reads zero d regs r
  reads-set_reg_other r other = ap (cond (eqb r 0) zero) (either (eqb rd 0))
    where
      either : (b : Bool) → get_or (cond b regs (set regs rd v)) r d ≡ get_or regs r d
      either true = refl
      either false = get_or-set_other regs rd r v d other

-- two lists of registers, each with a value for one of them: what holds of both values and of what both lists read holds
-- of what both read after
pub set_reg_both : {X Y : Type 0} (R : X → Y → Type 0) (zero_x d : X) (zero_y e : Y) (xs : List X) (ys : List Y) (rd r : ℕ) (v : X) (w : Y) → length xs ≡ length ys → R v w → R (reads zero_x d xs r) (reads zero_y e ys r) → R (reads zero_x d (set_reg xs rd v) r) (reads zero_y e (set_reg ys rd w) r)
set_reg_both R zero_x d zero_y e xs ys rd r v w long values before = either (eqb rd 0) (eqb r 0) before
  where
    set_both : R (get_or xs r d) (get_or ys r e) → R (get_or (set xs rd v) r d) (get_or (set ys rd w) r e)
    set_both h = ⊎_elim
        (λ same. ⊎_elim
        (λ inside. rw (get_or-set_at xs rd r v d same inside, get_or-set_at ys rd r w e same (omega arith)) values)
        (λ past. rw (set_past xs rd v past, set_past ys rd w (omega arith)) h)
        (cases_lt rd (length xs)))
        (λ other. rw (get_or-set_other xs rd r v d other, get_or-set_other ys rd r w e other) h)
        (cases_eq r rd)

    either : (b c : Bool) → R (cond c zero_x (get_or xs r d)) (cond c zero_y (get_or ys r e)) → R (cond c zero_x (get_or (cond b xs (set xs rd v)) r d)) (cond c zero_y (get_or (cond b ys (set ys rd w)) r e))
    either true c h = h
    either false true h = h
    either false false h = set_both h

-- the same of one list
pub set_reg_each : {X : Type 0} (P : X → Type 0) (zero d : X) (regs : List X) (rd r : ℕ) (v : X) → P v → P (reads zero d regs r) → P (reads zero d (set_reg regs rd v) r)
set_reg_each P zero d regs rd r v value before = set_reg_both (λ x y. P x) zero d zero d regs regs rd r v v refl value before

-- a state in which a register is set to a word is still one
pub set_reg_core : (z : ZcCore) (rd v : ℕ) → IsCore z → v < 2 ^ 32 → IsCore (record z { regs = set_reg z.regs rd v })
set_reg_core z rd v is small = record {
  count = length-set_reg z.regs rd v ∙ is.count;
  words = λ r. set_reg_each (λ n. n < 2 ^ 32) 0 0 z.regs rd r v small (is.words r);
  bytes = is.bytes;
}
