-- The rows of loads and stores.
use Rattle.std.proofs.Common.{◌≡◌, ℕ, ◌+◌, ◌-◌, ◌*◌, ◌%◌, ◌^◌, ◌<◌, ◌≤◌, Some, false, refl, sym, ap, ◌∙◌, ⊎_elim, arith, ℤ, pos, eqb}
use Rattle.std.specs.Prelude.{◌&&◌, ◌⊎◌, not}
use Rattle.std.proofs.lemmas.Bool.{and_parts, eqb-true, not-true}
use Rattle.rv_decode.specs.declared.instr.Instr.TheVariants.{Load, Store}
use Rattle.rv_decode.specs.declared.instr.LoadOp.{LoadOp}
use Rattle.rv_decode.specs.declared.instr.LoadOp.TheVariants.{Lb, Lh, Lw, Lbu, Lhu}
use Rattle.rv_decode.specs.declared.instr.StoreOp.{StoreOp}
use Rattle.rv_decode.specs.declared.instr.StoreOp.TheVariants.{Sb, Sh, Sw}
use Rattle.rv_decode.specs.Bits.{as_word, field}
use Rattle.rv_decode.specs.Decode.{row_of}
use Rattle.rv_decode.specs.Formats.{rd_of}
use Rattle.zc_decode.specs.Fields.{byte_offset_of, group_of, half_offset_of, high_reg_of, low_reg_of, lwsp_of, swsp_of, word_offset_of}
use Rattle.zc_decode.specs.Rows.{unless, zcb_memory}
use Rattle.zc_decode.specs.declared.form.Form.TheVariants.{CLbu, CLh, CLhu, CLw, CLwsp, CSb, CSh, CSw, CSwsp}
use Rattle.zc_decode.specs.declared.short.Short.TheVariants.{Base}
use Rattle.zc_decode.proofs.FormLaws.{form_in_group}
use Rattle.zc_encode.specs.Halves.{byte_half, half_half, half_of, is_offset, is_popular, load_half, lwsp_half, store_half, swsp_half, word_half}
use Rattle.zc_encode.proofs.HalfLaws.{byte_offset_is, fields_of, half_offset_is, high_is, low_is, lwsp_is, swsp_is, word_offset_is}
use Rattle.zc_encode.proofs.NumberLaws.{and_three, bit_cases, offset, popular, when_some}
use Rattle.zc_encode.proofs.RowFits.{InRow, Row, either_of}

-- registers and an offset, in a group, with the number of a row of Zcb's
record Access (group r base half : ℕ) (imm offset : ℤ) : Type 0 where
  small : half < 2 ^ 16
  in_group : group_of half ≡ group
  low : low_reg_of half ≡ r
  high : high_reg_of half ≡ base
  value : offset ≡ imm

-- ---- c.lw and c.sw

word_access : (group r base half : ℕ) (imm : ℤ) → group < 32 → word_half group r base imm ≡ Some half → Access group r base half imm (pos (word_offset_of half))
word_access group r base half imm five h =
    let n = as_word imm in
    let t = when_some (is_popular r && (is_popular base && is_offset 128 4 imm)) (half_of group (field n 5 1) (field n 3 2 * 8 + (base - 8)) (field n 2 1 * 16 + field n 6 1 * 8 + (r - 8))) half h in
    let tests = and_three (is_popular r) (is_popular base) (is_offset 128 4 imm) t.0 in
    let p = popular r tests.0 in
    let q = popular base tests.1 in
    let o = offset 128 4 imm (omega arith) tests.2 in
    built n (field n 2 1 * 2 + field n 6 1) t.1 (omega arith) p q o.below o.whole o.value
  where
    built : (n above : ℕ) → half ≡ half_of group (field n 5 1) (field n 3 2 * 8 + (base - 8)) (field n 2 1 * 16 + field n 6 1 * 8 + (r - 8)) → field n 2 1 * 16 + field n 6 1 * 8 ≡ above * 8 → (8 ≤ r) × (r < 16) → (8 ≤ base) × (base < 16) → n < 128 → n % 4 ≡ 0 → pos n ≡ imm → Access group r base half imm (pos (word_offset_of half))
    built n above is apart p q lt whole value =
        let f = fields_of group (field n 5 1) (field n 3 2 * 8 + (base - 8)) (field n 2 1 * 16 + field n 6 1 * 8 + (r - 8)) half is five (omega arith) (omega (arith, q)) (omega (arith, p)) in
        record {
          small = f.small;
          in_group = f.in_group;
          low = low_is half r above p.0 p.1 (omega (arith, f.below, apart));
          high = high_is half base (field n 3 2) q.0 q.1 f.above;
          value = ap pos (word_offset_is n half (r - 8) (base - 8) lt whole (omega (arith, p)) (omega (arith, q)) f.twelfth f.above f.below) ∙ value;
        }

lw_row : (rd base half : ℕ) (imm : ℤ) → word_half 0b010_00 rd base imm ≡ Some half → Row CLw half (Load Lw rd base imm)
lw_row rd base half imm h =
    let a = word_access 0b010_00 rd base half imm (omega arith) h in
    record { small = a.small; row = form_in_group half 0b010_00 (Some CLw) a.in_group refl; no_hint = refl; is = λ i. Base (Load Lw (a.low i) (a.high i) (a.value i)) }

sw_row : (source base half : ℕ) (imm : ℤ) → word_half 0b110_00 source base imm ≡ Some half → Row CSw half (Store Sw source base imm)
sw_row source base half imm h =
    let a = word_access 0b110_00 source base half imm (omega arith) h in
    record { small = a.small; row = form_in_group half 0b110_00 (Some CSw) a.in_group refl; no_hint = refl; is = λ i. Base (Store Sw (a.low i) (a.high i) (a.value i)) }

-- ---- c.lbu and c.sb

record ByteAccess (which r base half : ℕ) (imm : ℤ) : Type 0 where
  access : Access 0b100_00 r base half imm (pos (byte_offset_of half))
  bit : ℕ
  row : field half 10 3 * 2 + field half 6 1 ≡ which * 2 + bit
  one : (bit ≡ 0) ⊎ (bit ≡ 1)

byte_access : (which r base half : ℕ) (imm : ℤ) → which < 4 → byte_half which r base imm ≡ Some half → ByteAccess which r base half imm
byte_access which r base half imm two h =
    let n = as_word imm in
    let t = when_some (is_popular r && (is_popular base && is_offset 4 1 imm)) (half_of 0b100_00 0 (which * 8 + (base - 8)) (field n 0 1 * 16 + field n 1 1 * 8 + (r - 8))) half h in
    let tests = and_three (is_popular r) (is_popular base) (is_offset 4 1 imm) t.0 in
    let o = offset 4 1 imm (omega arith) tests.2 in
    built n t.1 (popular r tests.0) (popular base tests.1) o.below o.value
  where
    built : (n : ℕ) → half ≡ half_of 0b100_00 0 (which * 8 + (base - 8)) (field n 0 1 * 16 + field n 1 1 * 8 + (r - 8)) → (8 ≤ r) × (r < 16) → (8 ≤ base) × (base < 16) → n < 4 → pos n ≡ imm → ByteAccess which r base half imm
    built n is p q lt value =
        let f = fields_of 0b100_00 0 (which * 8 + (base - 8)) (field n 0 1 * 16 + field n 1 1 * 8 + (r - 8)) half is (omega arith) (omega arith) (omega (arith, q, two)) (omega (arith, p)) in
        record {
          access = record {
            small = f.small;
            in_group = f.in_group;
            low = low_is half r (field n 0 1 * 2 + field n 1 1) p.0 p.1 (omega (arith, f.below));
            high = high_is half base which q.0 q.1 f.above;
            value = ap pos (byte_offset_is n half (r - 8) lt (omega (arith, p)) f.below) ∙ value;
          };
          bit = field n 0 1;
          row = omega (arith, f.twelfth, f.above, f.below, p, q, two);
          one = bit_cases (field n 0 1) (omega arith);
        }

lbu_row : (rd base half : ℕ) (imm : ℤ) → byte_half 0b00 rd base imm ≡ Some half → Row CLbu half (Load Lbu rd base imm)
lbu_row rd base half imm h =
    let b = byte_access 0b00 rd base half imm (omega arith) h in
    let a = b.access in
    let found : row_of zcb_memory (0b00 * 2 + b.bit) ≡ Some CLbu = ⊎_elim (λ e. ap (λ k. row_of zcb_memory (0b00 * 2 + k)) e) (λ e. ap (λ k. row_of zcb_memory (0b00 * 2 + k)) e) b.one in
    record { small = a.small; row = form_in_group half 0b100_00 _ a.in_group refl ∙ ap (row_of zcb_memory) b.row ∙ found; no_hint = refl; is = λ i. Base (Load Lbu (a.low i) (a.high i) (a.value i)) }

sb_row : (source base half : ℕ) (imm : ℤ) → byte_half 0b10 source base imm ≡ Some half → Row CSb half (Store Sb source base imm)
sb_row source base half imm h =
    let b = byte_access 0b10 source base half imm (omega arith) h in
    let a = b.access in
    let found : row_of zcb_memory (0b10 * 2 + b.bit) ≡ Some CSb = ⊎_elim (λ e. ap (λ k. row_of zcb_memory (0b10 * 2 + k)) e) (λ e. ap (λ k. row_of zcb_memory (0b10 * 2 + k)) e) b.one in
    record { small = a.small; row = form_in_group half 0b100_00 _ a.in_group refl ∙ ap (row_of zcb_memory) b.row ∙ found; no_hint = refl; is = λ i. Base (Store Sb (a.low i) (a.high i) (a.value i)) }

-- ---- c.lhu, c.lh and c.sh

record HalfAccess (which bit r base half : ℕ) (imm : ℤ) : Type 0 where
  access : Access 0b100_00 r base half imm (pos (half_offset_of half))
  row : field half 10 3 * 2 + field half 6 1 ≡ which * 2 + bit

half_access : (which bit r base half : ℕ) (imm : ℤ) → which < 4 → bit < 2 → half_half which bit r base imm ≡ Some half → HalfAccess which bit r base half imm
half_access which bit r base half imm two one h =
    let n = as_word imm in
    let t = when_some (is_popular r && (is_popular base && is_offset 4 2 imm)) (half_of 0b100_00 0 (which * 8 + (base - 8)) (bit * 16 + field n 1 1 * 8 + (r - 8))) half h in
    let tests = and_three (is_popular r) (is_popular base) (is_offset 4 2 imm) t.0 in
    let o = offset 4 2 imm (omega arith) tests.2 in
    built n t.1 (popular r tests.0) (popular base tests.1) o.below o.whole o.value
  where
    built : (n : ℕ) → half ≡ half_of 0b100_00 0 (which * 8 + (base - 8)) (bit * 16 + field n 1 1 * 8 + (r - 8)) → (8 ≤ r) × (r < 16) → (8 ≤ base) × (base < 16) → n < 4 → n % 2 ≡ 0 → pos n ≡ imm → HalfAccess which bit r base half imm
    built n is p q lt whole value =
        let f = fields_of 0b100_00 0 (which * 8 + (base - 8)) (bit * 16 + field n 1 1 * 8 + (r - 8)) half is (omega arith) (omega arith) (omega (arith, q, two)) (omega (arith, p, one)) in
        record {
          access = record {
            small = f.small;
            in_group = f.in_group;
            low = low_is half r (bit * 2 + field n 1 1) p.0 p.1 (omega (arith, f.below));
            high = high_is half base which q.0 q.1 f.above;
            value = ap pos (half_offset_is n half bit (r - 8) lt whole one (omega (arith, p)) f.below) ∙ value;
          };
          row = omega (arith, f.twelfth, f.above, f.below, p, q, two, one);
        }

lhu_row : (rd base half : ℕ) (imm : ℤ) → half_half 0b01 0 rd base imm ≡ Some half → Row CLhu half (Load Lhu rd base imm)
lhu_row rd base half imm h =
    let b = half_access 0b01 0 rd base half imm (omega arith) (omega arith) h in
    let a = b.access in
    record { small = a.small; row = form_in_group half 0b100_00 _ a.in_group refl ∙ ap (row_of zcb_memory) b.row; no_hint = refl; is = λ i. Base (Load Lhu (a.low i) (a.high i) (a.value i)) }

lh_row : (rd base half : ℕ) (imm : ℤ) → half_half 0b01 1 rd base imm ≡ Some half → Row CLh half (Load Lh rd base imm)
lh_row rd base half imm h =
    let b = half_access 0b01 1 rd base half imm (omega arith) (omega arith) h in
    let a = b.access in
    record { small = a.small; row = form_in_group half 0b100_00 _ a.in_group refl ∙ ap (row_of zcb_memory) b.row; no_hint = refl; is = λ i. Base (Load Lh (a.low i) (a.high i) (a.value i)) }

sh_row : (source base half : ℕ) (imm : ℤ) → half_half 0b11 0 source base imm ≡ Some half → Row CSh half (Store Sh source base imm)
sh_row source base half imm h =
    let b = half_access 0b11 0 source base half imm (omega arith) (omega arith) h in
    let a = b.access in
    record { small = a.small; row = form_in_group half 0b100_00 _ a.in_group refl ∙ ap (row_of zcb_memory) b.row; no_hint = refl; is = λ i. Base (Store Sh (a.low i) (a.high i) (a.value i)) }

-- ---- c.lwsp and c.swsp

lwsp_row : (rd base half : ℕ) (imm : ℤ) → lwsp_half rd base imm ≡ Some half → rd < 32 → Row CLwsp half (Load Lw rd base imm)
lwsp_row rd base half imm h small =
    let n = as_word imm in
    let t = when_some (eqb base 2 && (not (eqb rd 0) && is_offset 256 4 imm)) (half_of 0b010_10 (field n 5 1) rd (field n 2 3 * 4 + field n 6 2)) half h in
    let tests = and_three (eqb base 2) (not (eqb rd 0)) (is_offset 256 4 imm) t.0 in
    let o = offset 256 4 imm (omega arith) tests.2 in
    let f = fields_of 0b010_10 (field n 5 1) rd (field n 2 3 * 4 + field n 6 2) half t.1 (omega arith) (omega arith) small (omega arith) in
    let is_base : 2 ≡ base = sym (eqb-true base 2 tests.0) in
    let some : eqb (rd_of half) 0 ≡ false = ap (λ r. eqb r 0) f.above ∙ not-true (eqb rd 0) tests.1 in
    let value : pos (lwsp_of half) ≡ imm = ap pos (lwsp_is n half o.below o.whole f.twelfth f.below) ∙ o.value in
    record {
      small = f.small;
      row = form_in_group half 0b010_10 _ f.in_group refl ∙ ap (λ b. unless b CLwsp) some;
      no_hint = refl;
      is = λ i. Base (Load Lw (f.above i) (is_base i) (value i));
    }

swsp_row : (source base half : ℕ) (imm : ℤ) → swsp_half source base imm ≡ Some half → source < 32 → Row CSwsp half (Store Sw source base imm)
swsp_row source base half imm h small =
    let n = as_word imm in
    let t = when_some (eqb base 2 && is_offset 256 4 imm) (half_of 0b110_10 (field n 5 1) (field n 2 3 * 4 + field n 6 2) source) half h in
    let tests = and_parts (eqb base 2) (is_offset 256 4 imm) t.0 in
    let o = offset 256 4 imm (omega arith) tests.1 in
    let f = fields_of 0b110_10 (field n 5 1) (field n 2 3 * 4 + field n 6 2) source half t.1 (omega arith) (omega arith) (omega arith) small in
    let is_base : 2 ≡ base = sym (eqb-true base 2 tests.0) in
    let value : pos (swsp_of half) ≡ imm = ap pos (swsp_is n half o.below o.whole f.twelfth f.above) ∙ o.value in
    record { small = f.small; row = form_in_group half 0b110_10 (Some CSwsp) f.in_group refl; no_hint = refl; is = λ i. Base (Store Sw (f.below i) (is_base i) (value i)) }

-- ---- all of them

pub load_row : (op : LoadOp) (rd base half : ℕ) (imm : ℤ) → rd < 32 → load_half op rd base imm ≡ Some half → InRow half (Load op rd base imm)
load_row Lb rd base half imm small h = absurd cc
load_row Lh rd base half imm small h = (CLh, lh_row rd base half imm h)
load_row Lw rd base half imm small h = ⊎_elim
    (λ e. (CLw, lw_row rd base half imm e))
    (λ e. (CLwsp, lwsp_row rd base half imm e small))
    (either_of (word_half 0b010_00 rd base imm) (lwsp_half rd base imm) half h)
load_row Lbu rd base half imm small h = (CLbu, lbu_row rd base half imm h)
load_row Lhu rd base half imm small h = (CLhu, lhu_row rd base half imm h)

pub store_row : (op : StoreOp) (source base half : ℕ) (imm : ℤ) → source < 32 → store_half op source base imm ≡ Some half → InRow half (Store op source base imm)
store_row Sb source base half imm small h = (CSb, sb_row source base half imm h)
store_row Sh source base half imm small h = (CSh, sh_row source base half imm h)
store_row Sw source base half imm small h = ⊎_elim
    (λ e. (CSw, sw_row source base half imm e))
    (λ e. (CSwsp, swsp_row source base half imm e small))
    (either_of (word_half 0b110_00 source base imm) (swsp_half source base imm) half h)
