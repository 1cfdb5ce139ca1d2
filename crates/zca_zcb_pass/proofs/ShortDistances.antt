-- The halfwords of branches and jumps: one whose registers fit has a halfword at each distance in its range, and that spells it.
use Rattle.std.proofs.Common.{◌≡◌, ℕ, suc, ◌-◌, ◌%◌, ◌^◌, ◌<◌, ◌⊎◌, inl, inr, ℤ, pos, negsuc, Bool, true, false, cond, Option, Some, None, refl, sym, ap, ◌∙◌, subst, arith, eqb, leb, ltb}
use Rattle.std.specs.Prelude.{◌&&◌, is_some}
use Rattle.std.proofs.Math.Nat.{mod-mod_of_dvd}
use Rattle.std.proofs.lemmas.Bool.{and_from, and_parts, eq-eqb, eqb-true, le-leb, le-ltb, lt-ltb}
use Rattle.std.proofs.lemmas.Nat.Gcd.{dvd_of_mod-eq-zero}
use Rattle.psabi_reloc.specs.Reaches.{is_even_of, short_branch_reach, short_jump_reach}
use Rattle.rv_decode.specs.Normal.{normal_of}
use Rattle.rv_decode.specs.Registers.{HasRegisters}
use Rattle.rv_decode.specs.declared.instr.BranchOp.{BranchOp}
use Rattle.rv_decode.specs.declared.instr.BranchOp.TheVariants.{Beq, Bne, Blt, Bge, Bltu, Bgeu}
use Rattle.rv_decode.specs.declared.instr.Instr.{Instr}
use Rattle.rv_decode.specs.declared.instr.Instr.TheVariants.{Branch, Jal}
use Rattle.zc_decode.specs.Halfwords.{decoded16, spelled}
use Rattle.zc_decode.specs.declared.short.Short.TheVariants.{Base}
use Rattle.zc_decode.proofs.FormLaws.{decoded_by_form}
use Rattle.zc_encode.specs.Halves.{encoded16, half_for, has_bits, is_popular, is_signed, low_bits, when}
use Rattle.zc_encode.proofs.EncodingLaws.{encoding}
use Rattle.zc_encode.proofs.RowFits.{normal-base}
use Rattle.zca_zcb_pass.proofs.HalfNormals.{IsNear, IsZeroBranch, near_reaches}

-- ---- tests

-- an even distance of `bits` bits is a signed number that a halfword holds
pub signed_two : (bits : ℕ) → 2 ^ bits % 2 ≡ 0 → (z : ℤ) → is_even_of bits z ≡ true → is_signed bits 2 z ≡ true
signed_two bits whole (pos n) h =
    let two = and_parts (ltb n (2 ^ (bits - 1))) (eqb (n % 2) 0) h in
    let even : n % 2 ≡ 0 = eqb-true (n % 2) 0 two.1 in
    let low : low_bits bits (pos n) % 2 ≡ n % 2 ^ 32 % 2 = mod-mod_of_dvd 2 (n % 2 ^ 32) (dvd_of_mod-eq-zero 2 whole) in
    and_from (has_bits bits (pos n)) (eqb (low_bits bits (pos n) % 2) 0) two.0 (eq-eqb (low_bits bits (pos n) % 2) 0 (low ∙ omega (arith, even)))
signed_two bits whole (negsuc n) h =
    let two = and_parts (ltb n (2 ^ (bits - 1))) (eqb (n % 2) 1) h in
    let odd : n % 2 ≡ 1 = eqb-true (n % 2) 1 two.1 in
    let low : low_bits bits (negsuc n) % 2 ≡ (2 ^ 32 - suc n) % 2 ^ 32 % 2 = mod-mod_of_dvd 2 ((2 ^ 32 - suc n) % 2 ^ 32) (dvd_of_mod-eq-zero 2 whole) in
    and_from (has_bits bits (negsuc n)) (eqb (low_bits bits (negsuc n) % 2) 0) two.0 (eq-eqb (low_bits bits (negsuc n) % 2) 0 (low ∙ omega (arith, odd)))

-- there is a halfword exactly if its test passes
pub when_is : (t : Bool) (half : ℕ) → is_some (when t half) ≡ t
when_is true half = refl
when_is false half = refl

-- ---- short forms

-- a branch of one of x8 to x15 with x0 has a halfword if the distance is in its range
pub zero_short :
    (op : BranchOp) (first second : ℕ) (d : ℤ) → IsZeroBranch op first second → short_branch_reach d ≡ true → is_some (encoded16 (Base (Branch op first second d))) ≡ true
zero_short op first second d is reach = by op is.equal
  where
    more : ltb first second ≡ false
    more = le-ltb first second (omega (arith, is.low, is.zero))

    test : (eqb second 0 && (is_popular first && is_signed 9 2 d)) ≡ true
    test =
        and_from (eqb second 0) (is_popular first && is_signed 9 2 d) (ap (λ n. eqb n 0) is.zero)
        (and_from (is_popular first) (is_signed 9 2 d) (and_from (leb 8 first) (ltb first 16) (le-leb 8 first is.low) (lt-ltb first 16 is.high)) (signed_two 9 refl d reach))

    by : (op : BranchOp) → (op ≡ Beq) ⊎ (op ≡ Bne) → is_some (encoded16 (Base (Branch op first second d))) ≡ true
    by Beq equal = ap (λ b. is_some (half_for (cond b (Branch Beq second first d) (Branch Beq first second d)))) more ∙ when_is (eqb second 0 && (is_popular first && is_signed 9 2 d)) _ ∙ test
    by Bne equal = ap (λ b. is_some (half_for (cond b (Branch Bne second first d) (Branch Bne first second d)))) more ∙ when_is (eqb second 0 && (is_popular first && is_signed 9 2 d)) _ ∙ test
    by Blt (inl equal) = absurd cc
    by Blt (inr equal) = absurd cc
    by Bge (inl equal) = absurd cc
    by Bge (inr equal) = absurd cc
    by Bltu (inl equal) = absurd cc
    by Bltu (inr equal) = absurd cc
    by Bgeu (inl equal) = absurd cc
    by Bgeu (inr equal) = absurd cc

-- a jump that links x0 or ra has one too
pub link_short : (rd : ℕ) (d : ℤ) → (rd ≡ 0) ⊎ (rd ≡ 1) → short_jump_reach d ≡ true → is_some (encoded16 (Base (Jal rd d))) ≡ true
link_short rd d (inl is) reach = ap (λ r. is_some (encoded16 (Base (Jal r d)))) is ∙ when_is (is_signed 12 2 d) _ ∙ signed_two 12 refl d reach
link_short rd d (inr is) reach = ap (λ r. is_some (encoded16 (Base (Jal r d)))) is ∙ when_is (is_signed 12 2 d) _ ∙ signed_two 12 refl d reach

-- ---- what they spell

-- an instruction's halfword, which spells one with this normal form
pub record HasShort (i : Instr) : Type 0 where
  pub half : ℕ
  pub encodes : encoded16 (Base i) ≡ Some half
  pub small : half < 2 ^ 16
  pub spelled_by : Instr
  pub spells : decoded16 half ≡ Some (Base spelled_by)
  pub normal : normal_of spelled_by ≡ normal_of i

pub has_short : (i : Instr) → HasRegisters (normal_of i) → is_some (encoded16 (Base i)) ≡ true → HasShort i
has_short i has some = by (half_for (normal_of i)) refl some
  where
    by : (o : Option ℕ) → half_for (normal_of i) ≡ o → is_some o ≡ true → HasShort i
    by None is h = absurd cc
    by (Some half) is h =
        let first = encoding i (Some half) has is in
        let base = normal-base (spelled first.form half) (normal_of i) first.spells.same in
        record {
          half = half;
          encodes = is;
          small = first.spells.small;
          spelled_by = base.0;
          spells = decoded_by_form half first.form first.spells.row ∙ ap Some base.1;
          normal = base.2;
        }

-- such a branch is its own normal form
pub zero_itself : (op : BranchOp) (first second : ℕ) (d : ℤ) → IsZeroBranch op first second → normal_of (Branch op first second d) ≡ Branch op first second d
zero_itself op first second d is = by op is.equal
  where
    more : ltb first second ≡ false
    more = le-ltb first second (omega (arith, is.low, is.zero))

    by : (op : BranchOp) → (op ≡ Beq) ⊎ (op ≡ Bne) → normal_of (Branch op first second d) ≡ Branch op first second d
    by Beq equal = ap (λ b. cond b (Branch Beq second first d) (Branch Beq first second d)) more
    by Bne equal = ap (λ b. cond b (Branch Bne second first d) (Branch Bne first second d)) more
    by Blt equal = refl
    by Bge equal = refl
    by Bltu equal = refl
    by Bgeu equal = refl

pub branch_has_short : (op : BranchOp) (first second : ℕ) (d : ℤ) → IsZeroBranch op first second → IsNear 9 d → HasShort (Branch op first second d)
branch_has_short op first second d is near =
    has_short (Branch op first second d) (subst HasRegisters (sym (zero_itself op first second d is)) (omega (arith, is.high), omega (arith, is.zero)))
    (zero_short op first second d is (near_reaches 9 d near))

pub jump_has_short : (rd : ℕ) (d : ℤ) → (rd ≡ 0) ⊎ (rd ≡ 1) → IsNear 12 d → HasShort (Jal rd d)
jump_has_short rd d links near = has_short (Jal rd d) (small links) (link_short rd d links (near_reaches 12 d near))
  where
    small : (rd ≡ 0) ⊎ (rd ≡ 1) → rd < 32
    small (inl is) = omega (arith, is)
    small (inr is) = omega (arith, is)
