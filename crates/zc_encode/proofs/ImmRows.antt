-- The rows of operations with an immediate, and of upper immediates.
use Rattle.std.proofs.Common.{◌≡◌, ℕ, ◌+◌, ◌-◌, ◌*◌, ◌/◌, ◌%◌, ◌^◌, ◌<◌, ◌≤◌, Some, true, false, cond, refl, sym, ap, ◌∙◌, ⊎_elim, arith, ℤ, pos, negsuc, eqb, ltb, leb}
use Rattle.std.specs.Prelude.{◌&&◌, not}
use Rattle.std.specs.Ordering.{int_eq}
use Rattle.std.proofs.lemmas.Bool.{and_parts, cond-false, eqb-false, eqb-true, leb-true, ltb-true, ne_eqb, not-true, or_cases, or_from}
use Rattle.rv_decode.specs.declared.instr.Instr.TheVariants.{Upper, WithImm}
use Rattle.rv_decode.specs.declared.instr.UpperOp.{UpperOp}
use Rattle.rv_decode.specs.declared.instr.UpperOp.TheVariants.{Auipc, Lui}
use Rattle.rv_decode.specs.declared.instr.ImmOp.{ImmOp}
use Rattle.rv_decode.specs.declared.instr.ImmOp.TheVariants.{Addi, Slti, Sltiu, Xori, Ori, Andi, Slli, Srli, Srai}
use Rattle.rv_decode.specs.Bits.{as_word, field, signed}
use Rattle.rv_decode.specs.Decode.{row_of}
use Rattle.rv_decode.specs.Formats.{rd_of}
use Rattle.zc_decode.specs.Fields.{addi16sp_of, addi4spn_of, amount_of, group_of, high_reg_of, imm_ci_of, low_reg_of, lui_of, c_rs2_of}
use Rattle.zc_decode.specs.Rows.{form_of, unless, zcb_unary}
use Rattle.zc_decode.specs.declared.form.Form.TheVariants.{CAdd, CAddi, CAddi16sp, CAddi4spn, CAndi, CLi, CLui, CMv, CNop, CNot, CSlli, CSrai, CSrli, CZextB}
use Rattle.zc_decode.specs.declared.short.Short.TheVariants.{Base}
use Rattle.zc_decode.proofs.FormLaws.{form_in_group, form_in_operations, form_in_registers}
use Rattle.zc_encode.specs.Halves.{addi16sp_half, addi4spn_half, addi_half, andi_half, half_of, has_bits, is_amount, is_c_lui_imm, is_offset, is_popular, is_signed, li_half, low_bits, lui_half, mv_half, nop_half, right_half, six_half, slli_half, sum_half, unary_half, with_imm_half}
use Rattle.zc_encode.proofs.HalfLaws.{Fields, addi16sp_is, addi4spn_is, ci_bits_is, fields_of, high_is, low_is}
use Rattle.zc_encode.proofs.NumberLaws.{amount, and_four, and_three, int_is, offset, popular, signed_ten, six_is, when_some}
use Rattle.zc_encode.proofs.RowFits.{InRow, Row, either_of}

-- ---- additions

addi4spn_row : (rd first half : ℕ) (imm : ℤ) → addi4spn_half rd first imm ≡ Some half → Row CAddi4spn half (WithImm Addi rd first imm)
addi4spn_row rd first half imm h =
    let n = as_word imm in
    let t = when_some (eqb first 2 && (is_popular rd && (is_offset 1024 4 imm && not (eqb n 0)))) (half_of 0b000_00 (field n 5 1) (field n 4 1 * 16 + field n 6 4) (field n 2 1 * 16 + field n 3 1 * 8 + (rd - 8))) half h in
    let tests = and_four (eqb first 2) (is_popular rd) (is_offset 1024 4 imm) (not (eqb n 0)) t.0 in
    let o = offset 1024 4 imm (omega arith) tests.2 in
    built n t.1 (eqb-true first 2 tests.0) (popular rd tests.1) o.below o.whole (not-true (eqb n 0) tests.3) o.value
  where
    built : (n : ℕ) → half ≡ half_of 0b000_00 (field n 5 1) (field n 4 1 * 16 + field n 6 4) (field n 2 1 * 16 + field n 3 1 * 8 + (rd - 8)) → first ≡ 2 → (8 ≤ rd) × (rd < 16) → n < 1024 → n % 4 ≡ 0 → eqb n 0 ≡ false → pos n ≡ imm → Row CAddi4spn half (WithImm Addi rd first imm)
    built n is sp p lt whole some value =
        let f = fields_of 0b000_00 (field n 5 1) (field n 4 1 * 16 + field n 6 4) (field n 2 1 * 16 + field n 3 1 * 8 + (rd - 8)) half is (omega arith) (omega arith) (omega arith) (omega (arith, p)) in
        let v : addi4spn_of half ≡ n = addi4spn_is n half (rd - 8) lt whole (omega (arith, p)) f.twelfth f.above f.below in
        let r : low_reg_of half ≡ rd = low_is half rd (field n 2 1 * 2 + field n 3 1) p.0 p.1 (omega (arith, f.below)) in
        let m : pos (addi4spn_of half) ≡ imm = ap pos v ∙ value in
        record {
          small = f.small;
          row = form_in_group half 0b000_00 _ f.in_group refl ∙ ap (λ k. unless (eqb k 0) CAddi4spn) v ∙ ap (λ b. unless b CAddi4spn) some;
          no_hint = refl;
          is = λ i. Base (WithImm Addi (r i) (sym sp i) (m i));
        }

-- a halfword with a signed immediate of six bits
record Six (group upper n half : ℕ) (imm : ℤ) : Type 0 where
  fields : Fields group (field n 5 1) upper (field n 0 5) half
  value : imm_ci_of half ≡ imm

six : (group upper half : ℕ) (imm : ℤ) → group < 32 → upper < 32 → has_bits 6 imm ≡ true → half ≡ six_half group upper imm → Six group upper (low_bits 6 imm) half imm
six group upper half imm five lt fits is = built (low_bits 6 imm) (omega arith) is (six_is imm fits)
  where
    built : (n : ℕ) → n < 64 → half ≡ half_of group (field n 5 1) upper (field n 0 5) → signed 6 n ≡ imm → Six group upper n half imm
    built n small is value =
        let f = fields_of group (field n 5 1) upper (field n 0 5) half is five (omega arith) lt (omega arith) in
        record { fields = f; value = ap (signed 6) (ci_bits_is n half small f.twelfth f.below) ∙ value }

nop_row : (rd first half : ℕ) (imm : ℤ) → nop_half rd first imm ≡ Some half → Row CNop half (WithImm Addi rd first imm)
nop_row rd first half imm h =
    let t = when_some (eqb rd 0 && (eqb first 0 && int_eq imm (pos 0))) (six_half 0b000_01 0 (pos 0)) half h in
    let tests = and_three (eqb rd 0) (eqb first 0) (int_eq imm (pos 0)) t.0 in
    let s = six 0b000_01 0 half (pos 0) (omega arith) (omega arith) refl t.1 in
    let r : 0 ≡ rd = sym (eqb-true rd 0 tests.0) in
    let source : 0 ≡ first = sym (eqb-true first 0 tests.1) in
    let m : imm_ci_of half ≡ imm = s.value ∙ sym (int_is imm (pos 0) tests.2) in
    record {
      small = s.fields.small;
      row = form_in_group half 0b000_01 _ s.fields.in_group refl ∙ ap (λ k. Some (cond (eqb k 0) CNop CAddi)) s.fields.above;
      no_hint = ap (λ z. not (int_eq z (pos 0))) s.value;
      is = λ i. Base (WithImm Addi (r i) (source i) (m i));
    }

addi_row_is : (rd first half : ℕ) (imm : ℤ) → rd < 32 → addi_half rd first imm ≡ Some half → Row CAddi half (WithImm Addi rd first imm)
addi_row_is rd first half imm small h =
    let t = when_some (eqb first rd && (not (eqb rd 0) && (has_bits 6 imm && not (int_eq imm (pos 0))))) (six_half 0b000_01 rd imm) half h in
    let tests = and_four (eqb first rd) (not (eqb rd 0)) (has_bits 6 imm) (not (int_eq imm (pos 0))) t.0 in
    let s = six 0b000_01 rd half imm (omega arith) small tests.2 t.1 in
    let some : eqb (rd_of half) 0 ≡ false = ap (λ k. eqb k 0) s.fields.above ∙ not-true (eqb rd 0) tests.1 in
    let source : rd_of half ≡ first = s.fields.above ∙ sym (eqb-true first rd tests.0) in
    record {
      small = s.fields.small;
      row = form_in_group half 0b000_01 _ s.fields.in_group refl ∙ ap (λ b. Some (cond b CNop CAddi)) some;
      no_hint = ap (λ z. int_eq z (pos 0)) s.value ∙ not-true (int_eq imm (pos 0)) tests.3;
      is = λ i. Base (WithImm Addi (s.fields.above i) (source i) (s.value i));
    }

li_row : (rd first half : ℕ) (imm : ℤ) → rd < 32 → li_half rd first imm ≡ Some half → Row CLi half (WithImm Addi rd first imm)
li_row rd first half imm small h =
    let t = when_some (eqb first 0 && (not (eqb rd 0) && has_bits 6 imm)) (six_half 0b010_01 rd imm) half h in
    let tests = and_three (eqb first 0) (not (eqb rd 0)) (has_bits 6 imm) t.0 in
    let s = six 0b010_01 rd half imm (omega arith) small tests.2 t.1 in
    let source : 0 ≡ first = sym (eqb-true first 0 tests.0) in
    record {
      small = s.fields.small;
      row = form_in_group half 0b010_01 (Some CLi) s.fields.in_group refl;
      no_hint = ap (λ k. eqb k 0) s.fields.above ∙ not-true (eqb rd 0) tests.1;
      is = λ i. Base (WithImm Addi (s.fields.above i) (source i) (s.value i));
    }

addi16sp_row : (rd first half : ℕ) (imm : ℤ) → addi16sp_half rd first imm ≡ Some half → Row CAddi16sp half (WithImm Addi rd first imm)
addi16sp_row rd first half imm h =
    let n = low_bits 10 imm in
    let t = when_some (eqb rd 2 && (eqb first 2 && (is_signed 10 16 imm && not (eqb n 0)))) (half_of 0b011_01 (field n 9 1) 2 (field n 4 1 * 16 + field n 6 1 * 8 + field n 7 2 * 2 + field n 5 1)) half h in
    let tests = and_four (eqb rd 2) (eqb first 2) (is_signed 10 16 imm) (not (eqb n 0)) t.0 in
    let v = signed_ten imm tests.2 in
    built n (omega arith) t.1 (eqb-true rd 2 tests.0) (eqb-true first 2 tests.1) v.whole (eqb-false n 0 (not-true (eqb n 0) tests.3)) v.value
  where
    built : (n : ℕ) → n < 1024 → half ≡ half_of 0b011_01 (field n 9 1) 2 (field n 4 1 * 16 + field n 6 1 * 8 + field n 7 2 * 2 + field n 5 1) → rd ≡ 2 → first ≡ 2 → n % 16 ≡ 0 → (n ≡ 0 → ⊥) → signed 10 n ≡ imm → Row CAddi16sp half (WithImm Addi rd first imm)
    built n lt is sp source whole some value =
        let f = fields_of 0b011_01 (field n 9 1) 2 (field n 4 1 * 16 + field n 6 1 * 8 + field n 7 2 * 2 + field n 5 1) half is (omega arith) (omega arith) (omega arith) (omega arith) in
        let bits = addi16sp_is n half lt whole f.twelfth f.below in
        let nonzero : eqb (lui_of half) 0 ≡ false = ne_eqb (lui_of half) 0 (λ e. some (omega (arith, e, bits))) in
        let m : addi16sp_of half ≡ imm = ap (signed 10) bits ∙ value in
        record {
          small = f.small;
          row = form_in_group half 0b011_01 _ f.in_group refl ∙ ap (λ b. unless b (cond (eqb (rd_of half) 2) CAddi16sp CLui)) nonzero ∙ ap (λ k. Some (cond (eqb k 2) CAddi16sp CLui)) f.above;
          no_hint = refl;
          is = λ i. Base (WithImm Addi (sym sp i) (sym source i) (m i));
        }

mv_row : (rd first half : ℕ) (imm : ℤ) → rd < 32 → first < 32 → mv_half rd first imm ≡ Some half → Row CMv half (WithImm Addi rd first imm)
mv_row rd first half imm small source h =
    let t = when_some (int_eq imm (pos 0) && (not (eqb rd 0) && not (eqb first 0))) (half_of 0b100_10 0 rd first) half h in
    let tests = and_three (int_eq imm (pos 0)) (not (eqb rd 0)) (not (eqb first 0)) t.0 in
    let f = fields_of 0b100_10 0 rd first half t.1 (omega arith) (omega arith) small source in
    let some : eqb (c_rs2_of half) 0 ≡ false = ap (λ k. eqb k 0) f.below ∙ not-true (eqb first 0) tests.2 in
    let m : pos 0 ≡ imm = sym (int_is imm (pos 0) tests.0) in
    record {
      small = f.small;
      row = form_in_group half 0b100_10 _ f.in_group refl ∙ cond-false (eqb (c_rs2_of half) 0) _ _ some ∙ ap (λ k. cond (eqb k 0) (Some CMv) (Some CAdd)) f.twelfth;
      no_hint = ap (λ k. eqb k 0) f.above ∙ not-true (eqb rd 0) tests.1;
      is = ap Base (cond-false (eqb (c_rs2_of half) 0) _ _ some ∙ (λ i. WithImm Addi (f.above i) (f.below i) (m i)));
    }

sum_row : (rd first half : ℕ) (imm : ℤ) → rd < 32 → first < 32 → sum_half rd first imm ≡ Some half → InRow half (WithImm Addi rd first imm)
sum_row rd first half imm small source h =
    ⊎_elim (λ e. (CAddi4spn, addi4spn_row rd first half imm e))
    (λ h. ⊎_elim (λ e. (CNop, nop_row rd first half imm e))
    (λ h. ⊎_elim (λ e. (CAddi, addi_row_is rd first half imm small e))
    (λ h. ⊎_elim (λ e. (CLi, li_row rd first half imm small e))
    (λ h. ⊎_elim (λ e. (CAddi16sp, addi16sp_row rd first half imm e)) (λ e. (CMv, mv_row rd first half imm small source e))
    (either_of (addi16sp_half rd first imm) (mv_half rd first imm) half h))
    (either_of (li_half rd first imm) _ half h))
    (either_of (addi_half rd first imm) _ half h))
    (either_of (nop_half rd first imm) _ half h))
    (either_of (addi4spn_half rd first imm) _ half h)

-- ---- shifts

record Right (which rd half : ℕ) (imm : ℤ) : Type 0 where
  small : half < 2 ^ 16
  in_group : group_of half ≡ 0b100_01
  which_is : field half 10 2 ≡ which
  twelfth : field half 12 1 ≡ 0
  high : high_reg_of half ≡ rd
  below : amount_of half ≡ as_word imm

right : (which rd first half : ℕ) (imm : ℤ) → which < 4 → right_half which rd first imm ≡ Some half → (Right which rd half imm) × (rd ≡ first) × (pos (as_word imm) ≡ imm) × (eqb (as_word imm) 0 ≡ false)
right which rd first half imm two h =
    let t = when_some (eqb first rd && (is_popular rd && is_amount imm)) (half_of 0b100_01 0 (which * 8 + (rd - 8)) (as_word imm)) half h in
    let tests = and_three (eqb first rd) (is_popular rd) (is_amount imm) t.0 in
    let p = popular rd tests.1 in
    let a = amount imm tests.2 in
    let f = fields_of 0b100_01 0 (which * 8 + (rd - 8)) (as_word imm) half t.1 (omega arith) (omega arith) (omega (arith, p, two)) a.below in (
      record { small = f.small; in_group = f.in_group; which_is = omega (arith, f.above, p, two); twelfth = f.twelfth; high = high_is half rd which p.0 p.1 f.above; below = f.below },
      sym (eqb-true first rd tests.0),
      a.value,
      a.some,
    )

srli_row : (rd first half : ℕ) (imm : ℤ) → right_half 0b00 rd first imm ≡ Some half → Row CSrli half (WithImm Srli rd first imm)
srli_row rd first half imm h =
    let q = right 0b00 rd first half imm (omega arith) h in
    let s = q.0 in
    let source : high_reg_of half ≡ first = s.high ∙ q.1 in
    let m : pos (amount_of half) ≡ imm = ap pos s.below ∙ q.2 in
    record {
      small = s.small;
      row = form_in_operations half 0b00 _ s.in_group s.which_is refl ∙ ap (λ k. unless (eqb k 1) CSrli) s.twelfth;
      no_hint = ap (λ k. eqb k 0) s.below ∙ q.3;
      is = λ i. Base (WithImm Srli (s.high i) (source i) (m i));
    }

srai_row : (rd first half : ℕ) (imm : ℤ) → right_half 0b01 rd first imm ≡ Some half → Row CSrai half (WithImm Srai rd first imm)
srai_row rd first half imm h =
    let q = right 0b01 rd first half imm (omega arith) h in
    let s = q.0 in
    let source : high_reg_of half ≡ first = s.high ∙ q.1 in
    let m : pos (amount_of half) ≡ imm = ap pos s.below ∙ q.2 in
    record {
      small = s.small;
      row = form_in_operations half 0b01 _ s.in_group s.which_is refl ∙ ap (λ k. unless (eqb k 1) CSrai) s.twelfth;
      no_hint = ap (λ k. eqb k 0) s.below ∙ q.3;
      is = λ i. Base (WithImm Srai (s.high i) (source i) (m i));
    }

slli_row : (rd first half : ℕ) (imm : ℤ) → rd < 32 → slli_half rd first imm ≡ Some half → Row CSlli half (WithImm Slli rd first imm)
slli_row rd first half imm small h =
    let t = when_some (eqb first rd && (not (eqb rd 0) && is_amount imm)) (half_of 0b000_10 0 rd (as_word imm)) half h in
    let tests = and_three (eqb first rd) (not (eqb rd 0)) (is_amount imm) t.0 in
    let a = amount imm tests.2 in
    let f = fields_of 0b000_10 0 rd (as_word imm) half t.1 (omega arith) (omega arith) small a.below in
    let source : rd_of half ≡ first = f.above ∙ sym (eqb-true first rd tests.0) in
    let m : pos (amount_of half) ≡ imm = ap pos f.below ∙ a.value in
    let no_rd : eqb (rd_of half) 0 ≡ false = ap (λ k. eqb k 0) f.above ∙ not-true (eqb rd 0) tests.1 in
    let no_amount : eqb (amount_of half) 0 ≡ false = ap (λ k. eqb k 0) f.below ∙ a.some in
    record {
      small = f.small;
      row = form_in_group half 0b000_10 _ f.in_group refl ∙ ap (λ k. unless (eqb k 1) CSlli) f.twelfth;
      no_hint = or_from (eqb (rd_of half) 0) (eqb (amount_of half) 0) no_rd no_amount;
      is = λ i. Base (WithImm Slli (f.above i) (source i) (m i));
    }

-- ---- c.andi, c.zext.b and c.not

andi_row : (rd first half : ℕ) (imm : ℤ) → andi_half rd first imm ≡ Some half → Row CAndi half (WithImm Andi rd first imm)
andi_row rd first half imm h =
    let t = when_some (eqb first rd && (is_popular rd && has_bits 6 imm)) (six_half 0b100_01 (0b10 * 8 + (rd - 8)) imm) half h in
    let tests = and_three (eqb first rd) (is_popular rd) (has_bits 6 imm) t.0 in
    let p = popular rd tests.1 in
    let s = six 0b100_01 (0b10 * 8 + (rd - 8)) half imm (omega arith) (omega (arith, p)) tests.2 t.1 in
    let r : high_reg_of half ≡ rd = high_is half rd 0b10 p.0 p.1 s.fields.above in
    let source : high_reg_of half ≡ first = r ∙ sym (eqb-true first rd tests.0) in
    record {
      small = s.fields.small;
      row = form_in_operations half 0b10 (Some CAndi) s.fields.in_group (omega (arith, s.fields.above, p)) refl;
      no_hint = refl;
      is = λ i. Base (WithImm Andi (r i) (source i) (s.value i));
    }

record Unary (which rd half : ℕ) : Type 0 where
  small : half < 2 ^ 16
  row : form_of half ≡ row_of zcb_unary (which % 8)
  high : high_reg_of half ≡ rd

unary : (wanted : ℤ) (which rd first half : ℕ) (imm : ℤ) → which < 32 → which / 8 ≡ 3 → unary_half wanted which rd first imm ≡ Some half → (Unary which rd half) × (rd ≡ first) × (wanted ≡ imm)
unary wanted which rd first half imm lt three h =
    let t = when_some (eqb first rd && (is_popular rd && int_eq imm wanted)) (half_of 0b100_01 1 (0b11 * 8 + (rd - 8)) which) half h in
    let tests = and_three (eqb first rd) (is_popular rd) (int_eq imm wanted) t.0 in
    let p = popular rd tests.1 in
    let f = fields_of 0b100_01 1 (0b11 * 8 + (rd - 8)) which half t.1 (omega arith) (omega arith) (omega (arith, p)) lt in
    let operation : field half 10 2 ≡ 0b11 = omega (arith, f.above, p) in
    let registers : field half 12 1 * 4 + field half 5 2 ≡ 0b1_11 = omega (arith, f.twelfth, f.below, three) in
    let last : field half 2 3 ≡ which % 8 = omega (arith, f.below) in (
      record {
        small = f.small;
        row = form_in_registers half 0b1_11 _ f.in_group operation registers refl ∙ ap (row_of zcb_unary) last;
        high = high_is half rd 0b11 p.0 p.1 f.above;
      },
      sym (eqb-true first rd tests.0),
      sym (int_is imm wanted tests.2),
    )

zext_row : (rd first half : ℕ) (imm : ℤ) → unary_half (pos 255) 0b11000 rd first imm ≡ Some half → Row CZextB half (WithImm Andi rd first imm)
zext_row rd first half imm h =
    let q = unary (pos 255) 0b11000 rd first half imm (omega arith) refl h in
    let source : high_reg_of half ≡ first = q.0.high ∙ q.1 in
    record { small = q.0.small; row = q.0.row; no_hint = refl; is = λ i. Base (WithImm Andi (q.0.high i) (source i) (q.2 i)) }

not_row : (rd first half : ℕ) (imm : ℤ) → unary_half (negsuc 0) 0b11101 rd first imm ≡ Some half → Row CNot half (WithImm Xori rd first imm)
not_row rd first half imm h =
    let q = unary (negsuc 0) 0b11101 rd first half imm (omega arith) refl h in
    let source : high_reg_of half ≡ first = q.0.high ∙ q.1 in
    record { small = q.0.small; row = q.0.row; no_hint = refl; is = λ i. Base (WithImm Xori (q.0.high i) (source i) (q.2 i)) }

-- ---- all of them

pub with_imm_row : (op : ImmOp) (rd first half : ℕ) (imm : ℤ) → rd < 32 → first < 32 → with_imm_half op rd first imm ≡ Some half → InRow half (WithImm op rd first imm)
with_imm_row Addi rd first half imm small source h = sum_row rd first half imm small source h
with_imm_row Slti rd first half imm small source h = absurd cc
with_imm_row Sltiu rd first half imm small source h = absurd cc
with_imm_row Xori rd first half imm small source h = (CNot, not_row rd first half imm h)
with_imm_row Ori rd first half imm small source h = absurd cc
with_imm_row Andi rd first half imm small source h = ⊎_elim
    (λ e. (CAndi, andi_row rd first half imm e))
    (λ e. (CZextB, zext_row rd first half imm e))
    (either_of (andi_half rd first imm) _ half h)
with_imm_row Slli rd first half imm small source h = (CSlli, slli_row rd first half imm small h)
with_imm_row Srli rd first half imm small source h = (CSrli, srli_row rd first half imm h)
with_imm_row Srai rd first half imm small source h = (CSrai, srai_row rd first half imm h)

-- ---- c.lui

lui_value : (imm half : ℕ) → is_c_lui_imm imm ≡ true → field half 12 1 ≡ field imm 5 1 → field half 2 5 ≡ field imm 0 5 → (lui_of half ≡ imm) × (0 < imm)
lui_value imm half fits bit lower = ⊎_elim low high (or_cases (ltb 0 imm && ltb imm 32) (leb (2 ^ 20 - 32) imm && ltb imm (2 ^ 20)) fits)
  where
    low : (ltb 0 imm && ltb imm 32) ≡ true → (lui_of half ≡ imm) × (0 < imm)
    low h =
        let p = and_parts (ltb 0 imm) (ltb imm 32) h in
        let some = ltb-true 0 imm p.0 in
        let few = ltb-true imm 32 p.1 in
        (omega (arith, few, bit, lower), some)

    high : (leb (2 ^ 20 - 32) imm && ltb imm (2 ^ 20)) ≡ true → (lui_of half ≡ imm) × (0 < imm)
    high h =
        let p = and_parts (leb (2 ^ 20 - 32) imm) (ltb imm (2 ^ 20)) h in
        let least = leb-true (2 ^ 20 - 32) imm p.0 in
        let most = ltb-true imm (2 ^ 20) p.1 in
        (omega (arith, least, most, bit, lower), omega (arith, least))

lui_row_is : (rd imm half : ℕ) → rd < 32 → lui_half Lui rd imm ≡ Some half → Row CLui half (Upper Lui rd imm)
lui_row_is rd imm half small h =
    let t = when_some (not (eqb rd 0) && (not (eqb rd 2) && is_c_lui_imm imm)) (half_of 0b011_01 (field imm 5 1) rd (field imm 0 5)) half h in
    let tests = and_three (not (eqb rd 0)) (not (eqb rd 2)) (is_c_lui_imm imm) t.0 in
    let f = fields_of 0b011_01 (field imm 5 1) rd (field imm 0 5) half t.1 (omega arith) (omega arith) small (omega arith) in
    let v = lui_value imm half tests.2 f.twelfth f.below in
    let some : eqb (lui_of half) 0 ≡ false = ne_eqb (lui_of half) 0 (λ e. omega (arith, v, e)) in
    let not_sp : eqb (rd_of half) 2 ≡ false = ap (λ k. eqb k 2) f.above ∙ not-true (eqb rd 2) tests.1 in
    record {
      small = f.small;
      row = form_in_group half 0b011_01 _ f.in_group refl ∙ ap (λ b. unless b (cond (eqb (rd_of half) 2) CAddi16sp CLui)) some ∙ ap (λ b. Some (cond b CAddi16sp CLui)) not_sp;
      no_hint = ap (λ k. eqb k 0) f.above ∙ not-true (eqb rd 0) tests.0;
      is = λ i. Base (Upper Lui (f.above i) (v.0 i));
    }

pub upper_row : (op : UpperOp) (rd imm half : ℕ) → rd < 32 → lui_half op rd imm ≡ Some half → InRow half (Upper op rd imm)
upper_row Lui rd imm half small h = (CLui, lui_row_is rd imm half small h)
upper_row Auipc rd imm half small h = absurd cc
