-- The rows of jumps and branches.
use Rattle.std.proofs.Common.{◌≡◌, ℕ, ◌+◌, ◌-◌, ◌*◌, ◌%◌, ◌^◌, ◌<◌, ◌≤◌, Some, None, Bool, true, false, cond, refl, sym, ap, ◌∙◌, ⊎_elim, arith, ℤ, pos, eqb, ltb}
use Rattle.std.specs.Prelude.{◌&&◌, not}
use Rattle.std.specs.Ordering.{int_eq}
use Rattle.std.proofs.lemmas.Bool.{cond-false, cond-true, eqb-true, le-ltb, ltb-true, not-true}
use Rattle.rv_decode.specs.declared.instr.Instr.TheVariants.{Branch, Jal, Jalr}
use Rattle.rv_decode.specs.declared.instr.BranchOp.{BranchOp}
use Rattle.rv_decode.specs.declared.instr.BranchOp.TheVariants.{Beq, Bne, Blt, Bge, Bltu, Bgeu}
use Rattle.rv_decode.specs.Bits.{field, signed}
use Rattle.rv_decode.specs.Formats.{rd_of}
use Rattle.zc_decode.specs.Fields.{cb_offset_of, group_of, high_reg_of, cj_offset_of, c_rs2_of}
use Rattle.zc_decode.specs.Rows.{unless}
use Rattle.zc_decode.specs.declared.form.Form.TheVariants.{CBeqz, CBnez, CEbreak, CJ, CJal, CJalr, CJr}
use Rattle.zc_decode.specs.declared.short.Short.TheVariants.{Base}
use Rattle.zc_decode.proofs.FormLaws.{form_in_group}
use Rattle.zc_encode.specs.Halves.{beqz_half, branch_half, half_of, is_popular, is_signed, jal_half, jalr_half, jump_half, low_bits}
use Rattle.zc_encode.proofs.HalfLaws.{branch_is, fields_of, high_is, jump_is}
use Rattle.zc_encode.proofs.NumberLaws.{and_three, bit_cases, int_is, popular, signed_nine, signed_twelve, when_some}
use Rattle.zc_encode.proofs.RowFits.{InRow, Row}

-- ---- c.j and c.jal

record Jump (group half : ℕ) (distance : ℤ) : Type 0 where
  small : half < 2 ^ 16
  in_group : group_of half ≡ group
  value : cj_offset_of half ≡ distance

jump : (group half : ℕ) (distance : ℤ) → group < 32 → jump_half group distance ≡ Some half → Jump group half distance
jump group half distance five h =
    let n = low_bits 12 distance in
    let t = when_some (is_signed 12 2 distance) (half_of group (field n 11 1) (field n 4 1 * 16 + field n 8 2 * 4 + field n 10 1 * 2 + field n 6 1) (field n 7 1 * 16 + field n 1 3 * 2 + field n 5 1)) half h in
    let v = signed_twelve distance t.0 in
    built n (omega arith) t.1 v.whole v.value
  where
    built : (n : ℕ) → n < 4096 → half ≡ half_of group (field n 11 1) (field n 4 1 * 16 + field n 8 2 * 4 + field n 10 1 * 2 + field n 6 1) (field n 7 1 * 16 + field n 1 3 * 2 + field n 5 1) → n % 2 ≡ 0 → signed 12 n ≡ distance → Jump group half distance
    built n lt is whole value =
        let f = fields_of group (field n 11 1) (field n 4 1 * 16 + field n 8 2 * 4 + field n 10 1 * 2 + field n 6 1) (field n 7 1 * 16 + field n 1 3 * 2 + field n 5 1) half is five (omega arith) (omega arith) (omega arith) in
        record { small = f.small; in_group = f.in_group; value = ap (signed 12) (jump_is n half lt whole f.twelfth f.above f.below) ∙ value }

pub jal_row : (rd half : ℕ) (distance : ℤ) → jal_half rd distance ≡ Some half → InRow half (Jal rd distance)
jal_row rd half distance h = by_tests (eqb rd 1) (eqb rd 0) refl refl h
  where
    by_tests : (a b : Bool) → eqb rd 1 ≡ a → eqb rd 0 ≡ b → cond a (jump_half 0b001_01 distance) (cond b (jump_half 0b101_01 distance) None) ≡ Some half → InRow half (Jal rd distance)
    by_tests true b is _ g =
        let j = jump 0b001_01 half distance (omega arith) g in
        let r : 1 ≡ rd = sym (eqb-true rd 1 is) in
        (CJal, record { small = j.small; row = form_in_group half 0b001_01 (Some CJal) j.in_group refl; no_hint = refl; is = λ i. Base (Jal (r i) (j.value i)) })
    by_tests false true _ is g =
        let j = jump 0b101_01 half distance (omega arith) g in
        let r : 0 ≡ rd = sym (eqb-true rd 0 is) in
        (CJ, record { small = j.small; row = form_in_group half 0b101_01 (Some CJ) j.in_group refl; no_hint = refl; is = λ i. Base (Jal (r i) (j.value i)) })
    by_tests false false _ _ g = absurd cc

-- ---- c.jr and c.jalr

pub jalr_row : (rd base half : ℕ) (imm : ℤ) → base < 32 → jalr_half rd base imm ≡ Some half → InRow half (Jalr rd base imm)
jalr_row rd base half imm small h =
    let t = when_some (ltb rd 2 && (not (eqb base 0) && int_eq imm (pos 0))) (half_of 0b100_10 rd base 0) half h in
    let tests = and_three (ltb rd 2) (not (eqb base 0)) (int_eq imm (pos 0)) t.0 in
    let two = ltb-true rd 2 tests.0 in
    let f = fields_of 0b100_10 rd base 0 half t.1 (omega arith) two small (omega arith) in
    let some : eqb (rd_of half) 0 ≡ false = ap (λ k. eqb k 0) f.above ∙ not-true (eqb base 0) tests.1 in
    let none : eqb (c_rs2_of half) 0 ≡ true = ap (λ k. eqb k 0) f.below in
    let m : pos 0 ≡ imm = sym (int_is imm (pos 0) tests.2) in
    let group = form_in_group half 0b100_10 _ f.in_group refl ∙ cond-true (eqb (c_rs2_of half) 0) _ _ none in
    ⊎_elim (λ e. (
      CJr,
      record {
        small = f.small;
        row = group ∙ ap (λ k. cond (eqb k 0) (unless (eqb (rd_of half) 0) CJr) (cond (eqb (rd_of half) 0) (Some CEbreak) (Some CJalr))) (f.twelfth ∙ e) ∙ ap (λ b. unless b CJr) some;
        no_hint = refl;
        is = λ i. Base (Jalr (sym e i) (f.above i) (m i));
      },
    )) (λ e. (
      CJalr,
      record {
        small = f.small;
        row = group ∙ ap (λ k. cond (eqb k 0) (unless (eqb (rd_of half) 0) CJr) (cond (eqb (rd_of half) 0) (Some CEbreak) (Some CJalr))) (f.twelfth ∙ e) ∙ ap (λ b. cond b (Some CEbreak) (Some CJalr)) some;
        no_hint = refl;
        is = λ i. Base (Jalr (sym e i) (f.above i) (m i));
      },
    )) (bit_cases rd two)

-- ---- c.beqz and c.bnez

record OnZero (group first second half : ℕ) (distance : ℤ) : Type 0 where
  small : half < 2 ^ 16
  in_group : group_of half ≡ group
  high : high_reg_of half ≡ first
  none : 0 ≡ second
  value : cb_offset_of half ≡ distance

on_zero : (group first second half : ℕ) (distance : ℤ) → group < 32 → beqz_half group first second distance ≡ Some half → OnZero group first second half distance
on_zero group first second half distance five h =
    let n = low_bits 9 distance in
    let t = when_some (eqb second 0 && (is_popular first && is_signed 9 2 distance)) (half_of group (field n 8 1) (field n 3 2 * 8 + (first - 8)) (field n 6 2 * 8 + field n 1 2 * 2 + field n 5 1)) half h in
    let tests = and_three (eqb second 0) (is_popular first) (is_signed 9 2 distance) t.0 in
    let v = signed_nine distance tests.2 in
    built n (omega arith) t.1 (eqb-true second 0 tests.0) (popular first tests.1) v.whole v.value
  where
    built : (n : ℕ) → n < 512 → half ≡ half_of group (field n 8 1) (field n 3 2 * 8 + (first - 8)) (field n 6 2 * 8 + field n 1 2 * 2 + field n 5 1) → second ≡ 0 → (8 ≤ first) × (first < 16) → n % 2 ≡ 0 → signed 9 n ≡ distance → OnZero group first second half distance
    built n lt is none p whole value =
        let f = fields_of group (field n 8 1) (field n 3 2 * 8 + (first - 8)) (field n 6 2 * 8 + field n 1 2 * 2 + field n 5 1) half is five (omega arith) (omega (arith, p)) (omega arith) in
        record {
          small = f.small;
          in_group = f.in_group;
          high = high_is half first (field n 3 2) p.0 p.1 f.above;
          none = sym none;
          value = ap (signed 9) (branch_is n half (first - 8) lt whole (omega (arith, p)) f.twelfth f.above f.below) ∙ value;
        }

beq_row : (first second half : ℕ) (distance : ℤ) → beqz_half 0b110_01 first second distance ≡ Some half → Row CBeqz half (Branch Beq first second distance)
beq_row first second half distance h =
    let z = on_zero 0b110_01 first second half distance (omega arith) h in
    record { small = z.small; row = form_in_group half 0b110_01 (Some CBeqz) z.in_group refl; no_hint = refl; is = ap Base (cond-false (ltb (high_reg_of half) 0) _ _ (le-ltb (high_reg_of half) 0 (omega arith)) ∙ (λ i. Branch Beq (z.high i) (z.none i) (z.value i))) }

bne_row : (first second half : ℕ) (distance : ℤ) → beqz_half 0b111_01 first second distance ≡ Some half → Row CBnez half (Branch Bne first second distance)
bne_row first second half distance h =
    let z = on_zero 0b111_01 first second half distance (omega arith) h in
    record { small = z.small; row = form_in_group half 0b111_01 (Some CBnez) z.in_group refl; no_hint = refl; is = ap Base (cond-false (ltb (high_reg_of half) 0) _ _ (le-ltb (high_reg_of half) 0 (omega arith)) ∙ (λ i. Branch Bne (z.high i) (z.none i) (z.value i))) }

pub branch_row : (op : BranchOp) (first second half : ℕ) (distance : ℤ) → branch_half op first second distance ≡ Some half → InRow half (Branch op first second distance)
branch_row Beq first second half distance h = (CBeqz, beq_row first second half distance h)
branch_row Bne first second half distance h = (CBnez, bne_row first second half distance h)
branch_row Blt first second half distance h = absurd cc
branch_row Bge first second half distance h = absurd cc
branch_row Bltu first second half distance h = absurd cc
branch_row Bgeu first second half distance h = absurd cc
