-- The rows of operations on two registers. Operations whose sources may be swapped have them in the order of normal
-- forms.
use Rattle.std.proofs.Common.{◌≡◌, ℕ, ◌+◌, ◌-◌, ◌*◌, ◌^◌, ◌<◌, ◌≤◌, Some, None, Bool, true, false, cond, refl, sym, ap, ◌∙◌, arith, eqb, ltb}
use Rattle.std.specs.Prelude.{◌&&◌, not}
use Rattle.std.proofs.lemmas.Bool.{and_parts, cond-false, cond-true, eqb-true, eqb-false, lt-ltb, le-ltb, not-true}
use Rattle.rv_decode.specs.declared.instr.Instr.{Instr}
use Rattle.rv_decode.specs.declared.instr.Instr.TheVariants.{WithReg}
use Rattle.rv_decode.specs.declared.instr.RegOp.{RegOp}
use Rattle.rv_decode.specs.declared.instr.RegOp.TheVariants.{Add, Sub, Sll, Slt, Sltu, Xor, Srl, Sra, Or, And, Mul, Mulh, Mulhsu, Mulhu, Div, Divu, Rem, Remu}
use Rattle.rv_decode.specs.Bits.{field}
use Rattle.rv_decode.specs.Formats.{rd_of}
use Rattle.rv_decode.specs.Normal.{greater_first}
use Rattle.zc_decode.specs.Fields.{group_of, high_reg_of, low_reg_of, c_rs2_of}
use Rattle.zc_decode.specs.declared.form.Form.TheVariants.{CAdd, CAnd, CMul, CMv, COr, CSub, CXor}
use Rattle.zc_decode.specs.declared.short.Short.TheVariants.{Base}
use Rattle.zc_decode.proofs.FormLaws.{form_in_group, form_in_registers}
use Rattle.zc_encode.specs.Halves.{add_half, either_half, half_of, is_popular, pair_half, plus_half, with_reg_half}
use Rattle.zc_encode.proofs.HalfLaws.{fields_of, high_is, low_is}
use Rattle.zc_encode.proofs.NumberLaws.{popular, when_some}
use Rattle.zc_encode.proofs.RowFits.{InRow, Row}

-- two registers of x8 to x15, and the number of their row
record Pair (bit which rd second half : ℕ) : Type 0 where
  small : half < 2 ^ 16
  in_group : group_of half ≡ 0b100_01
  operation : field half 10 2 ≡ 0b11
  row : field half 12 1 * 4 + field half 5 2 ≡ bit * 4 + which
  high : high_reg_of half ≡ rd
  low : low_reg_of half ≡ second

pair : (bit which rd second half : ℕ) → bit < 2 → which < 4 → pair_half bit which rd second ≡ Some half → Pair bit which rd second half
pair bit which rd second half one two h =
    let t = when_some (is_popular rd && is_popular second) (half_of 0b100_01 bit (0b11 * 8 + (rd - 8)) (which * 8 + (second - 8))) half h in
    let tests = and_parts (is_popular rd) (is_popular second) t.0 in
    let p = popular rd tests.0 in
    let q = popular second tests.1 in
    let f = fields_of 0b100_01 bit (0b11 * 8 + (rd - 8)) (which * 8 + (second - 8)) half t.1 (omega arith) one (omega (arith, p)) (omega (arith, q, two)) in
    record {
      small = f.small;
      in_group = f.in_group;
      operation = omega (arith, f.above, p);
      row = omega (arith, f.twelfth, f.below, q, two);
      high = high_is half rd 0b11 p.0 p.1 f.above;
      low = low_is half second which q.0 q.1 f.below;
    }

-- the one that is the destination, and the other
record Either (bit which rd first second half : ℕ) (op : RegOp) : Type 0 where
  other : ℕ
  pair : Pair bit which rd other half
  same : greater_first op rd rd other ≡ WithReg op rd first second

-- what two registers in order are, whichever is the destination
ordered_first : (op : RegOp) (rd first second : ℕ) → second ≤ first → first ≡ rd → greater_first op rd rd second ≡ WithReg op rd first second
ordered_first op rd first second le e = cond-false (ltb rd second) _ _ (le-ltb rd second (omega arith)) ∙ ap (λ r. WithReg op rd r second) (sym e)

ordered_second : (op : RegOp) (rd first second : ℕ) → second ≤ first → (first ≡ rd → ⊥) → second ≡ rd → greater_first op rd rd first ≡ WithReg op rd first second
ordered_second op rd first second le ne e = cond-true (ltb rd first) _ _ (lt-ltb rd first (omega arith)) ∙ ap (λ r. WithReg op rd first r) (sym e)

either : (op : RegOp) (bit which rd first second half : ℕ) → bit < 2 → which < 4 → second ≤ first → either_half bit which rd first second ≡ Some half → Either bit which rd first second half op
either op bit which rd first second half one two le h = by_tests (eqb first rd) (eqb second rd) refl refl h
  where
    by_tests : (a b : Bool) → eqb first rd ≡ a → eqb second rd ≡ b → cond a (pair_half bit which rd second) (cond b (pair_half bit which rd first) None) ≡ Some half → Either bit which rd first second half op
    by_tests true b is _ g = record { other = second; pair = pair bit which rd second half one two g; same = ordered_first op rd first second le (eqb-true first rd is) }
    by_tests false true differs is g = record { other = first; pair = pair bit which rd first half one two g; same = ordered_second op rd first second le (eqb-false first rd differs) (eqb-true second rd is) }
    by_tests false false _ _ g = absurd cc

sub_row : (rd first second half : ℕ) → with_reg_half Sub rd first second ≡ Some half → Row CSub half (WithReg Sub rd first second)
sub_row rd first second half h = by_test (eqb first rd) refl h
  where
    by_test : (a : Bool) → eqb first rd ≡ a → cond a (pair_half 0 0b00 rd second) None ≡ Some half → Row CSub half (WithReg Sub rd first second)
    by_test true is g =
        let p = pair 0 0b00 rd second half (omega arith) (omega arith) g in
        let source : high_reg_of half ≡ first = p.high ∙ sym (eqb-true first rd is) in
        record { small = p.small; row = form_in_registers half 0b0_00 (Some CSub) p.in_group p.operation p.row refl; no_hint = refl; is = λ i. Base (WithReg Sub (p.high i) (source i) (p.low i)) }
    by_test false _ g = absurd cc

xor_row : (rd first second half : ℕ) → second ≤ first → with_reg_half Xor rd first second ≡ Some half → Row CXor half (WithReg Xor rd first second)
xor_row rd first second half le h =
    let e = either Xor 0 0b01 rd first second half (omega arith) (omega arith) le h in
    let p = e.pair in
    record { small = p.small; row = form_in_registers half 0b0_01 (Some CXor) p.in_group p.operation p.row refl; no_hint = refl; is = ap Base ((λ i. greater_first Xor (p.high i) (p.high i) (p.low i)) ∙ e.same) }

or_row : (rd first second half : ℕ) → second ≤ first → with_reg_half Or rd first second ≡ Some half → Row COr half (WithReg Or rd first second)
or_row rd first second half le h =
    let e = either Or 0 0b10 rd first second half (omega arith) (omega arith) le h in
    let p = e.pair in
    record { small = p.small; row = form_in_registers half 0b0_10 (Some COr) p.in_group p.operation p.row refl; no_hint = refl; is = ap Base ((λ i. greater_first Or (p.high i) (p.high i) (p.low i)) ∙ e.same) }

and_row : (rd first second half : ℕ) → second ≤ first → with_reg_half And rd first second ≡ Some half → Row CAnd half (WithReg And rd first second)
and_row rd first second half le h =
    let e = either And 0 0b11 rd first second half (omega arith) (omega arith) le h in
    let p = e.pair in
    record { small = p.small; row = form_in_registers half 0b0_11 (Some CAnd) p.in_group p.operation p.row refl; no_hint = refl; is = ap Base ((λ i. greater_first And (p.high i) (p.high i) (p.low i)) ∙ e.same) }

mul_row : (rd first second half : ℕ) → second ≤ first → with_reg_half Mul rd first second ≡ Some half → Row CMul half (WithReg Mul rd first second)
mul_row rd first second half le h =
    let e = either Mul 1 0b10 rd first second half (omega arith) (omega arith) le h in
    let p = e.pair in
    record { small = p.small; row = form_in_registers half 0b1_10 (Some CMul) p.in_group p.operation p.row refl; no_hint = refl; is = ap Base ((λ i. greater_first Mul (p.high i) (p.high i) (p.low i)) ∙ e.same) }

-- ---- c.add

-- with the second source
plus_row : (rd second half : ℕ) (i : Instr) → rd < 32 → second < 32 → plus_half rd second ≡ Some half → greater_first Add rd rd second ≡ i → Row CAdd half i
plus_row rd second half i small source h same =
    let t = when_some (not (eqb rd 0) && not (eqb second 0)) (half_of 0b100_10 1 rd second) half h in
    let tests = and_parts (not (eqb rd 0)) (not (eqb second 0)) t.0 in
    let f = fields_of 0b100_10 1 rd second half t.1 (omega arith) (omega arith) small source in
    let some : eqb (c_rs2_of half) 0 ≡ false = ap (λ k. eqb k 0) f.below ∙ not-true (eqb second 0) tests.1 in
    let target : eqb (rd_of half) 0 ≡ false = ap (λ k. eqb k 0) f.above ∙ not-true (eqb rd 0) tests.0 in
    record {
      small = f.small;
      row = form_in_group half 0b100_10 _ f.in_group refl ∙ cond-false (eqb (c_rs2_of half) 0) _ _ some ∙ ap (λ k. cond (eqb k 0) (Some CMv) (Some CAdd)) f.twelfth;
      no_hint = target;
      is = ap Base (cond-false (eqb (c_rs2_of half) 0) _ _ some ∙ cond-false (eqb (rd_of half) 0) _ _ target ∙ (λ k. greater_first Add (f.above k) (f.above k) (f.below k)) ∙ same);
    }

add_row : (rd first second half : ℕ) → rd < 32 → first < 32 → second ≤ first → add_half rd first second ≡ Some half → Row CAdd half (WithReg Add rd first second)
add_row rd first second half small source le h = by_tests (eqb first rd) (eqb second rd) refl refl h
  where
    by_tests : (a b : Bool) → eqb first rd ≡ a → eqb second rd ≡ b → cond a (plus_half rd second) (cond b (plus_half rd first) None) ≡ Some half → Row CAdd half (WithReg Add rd first second)
    by_tests true b is _ g = plus_row rd second half _ small (omega arith) g (ordered_first Add rd first second le (eqb-true first rd is))
    by_tests false true differs is g = plus_row rd first half _ small source g (ordered_second Add rd first second le (eqb-false first rd differs) (eqb-true second rd is))
    by_tests false false _ _ g = absurd cc

-- ---- all of them

-- the sources of an operation in normal form are in order, if their order makes no difference
abbrev pub InOrder : RegOp → ℕ → ℕ → Type 0
InOrder Add first second = second ≤ first
InOrder Xor first second = second ≤ first
InOrder Or first second = second ≤ first
InOrder And first second = second ≤ first
InOrder Mul first second = second ≤ first
InOrder other first second = Unit {0}

pub with_reg_row : (op : RegOp) (rd first second half : ℕ) → rd < 32 → first < 32 → InOrder op first second → with_reg_half op rd first second ≡ Some half → InRow half (WithReg op rd first second)
with_reg_row Add rd first second half small source le h = (CAdd, add_row rd first second half small source le h)
with_reg_row Sub rd first second half small source le h = (CSub, sub_row rd first second half h)
with_reg_row Sll rd first second half small source le h = absurd cc
with_reg_row Slt rd first second half small source le h = absurd cc
with_reg_row Sltu rd first second half small source le h = absurd cc
with_reg_row Xor rd first second half small source le h = (CXor, xor_row rd first second half le h)
with_reg_row Srl rd first second half small source le h = absurd cc
with_reg_row Sra rd first second half small source le h = absurd cc
with_reg_row Or rd first second half small source le h = (COr, or_row rd first second half le h)
with_reg_row And rd first second half small source le h = (CAnd, and_row rd first second half le h)
with_reg_row Mul rd first second half small source le h = (CMul, mul_row rd first second half le h)
with_reg_row Mulh rd first second half small source le h = absurd cc
with_reg_row Mulhsu rd first second half small source le h = absurd cc
with_reg_row Mulhu rd first second half small source le h = absurd cc
with_reg_row Div rd first second half small source le h = absurd cc
with_reg_row Divu rd first second half small source le h = absurd cc
with_reg_row Rem rd first second half small source le h = absurd cc
with_reg_row Remu rd first second half small source le h = absurd cc
