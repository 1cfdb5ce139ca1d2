-- Words of numbers: each is its number again, and what operations make of numbers are numbers.
use Rattle.std.proofs.Common.{◌≡◌, ℕ, ℤ, pos, negsuc, ◌+◌, ◌*◌, ◌%◌, ◌^◌, ◌<◌, Bool, true, false, cond, eqb, Some, None, refl, sym, ap, ◌∙◌, ⊎_elim, arith}
use Rattle.std.specs.Prelude.{◌&&◌}
use Rattle.std.specs.Option.{option_map_or}
use Rattle.std.proofs.lemmas.Bool.{and_parts, cond-false, cond-true, eqb-true}
use Rattle.std.proofs.lemmas.Bool.Decides.{eqb_tells}
use Rattle.zc_base.specs.declared.place.Place.{Place}
use Rattle.block_cut.proofs.LedLaws.{same_is}
use Rattle.rv_decode.specs.Bits.{add32}
use Rattle.rv_decode.specs.Memory.{byte_of}
use Rattle.rv_decode.specs.Results.{imm_result, reg_result}
use Rattle.rv_decode.specs.declared.instr.ImmOp.{ImmOp}
use Rattle.rv_decode.specs.declared.instr.ImmOp.TheVariants.{Addi, Slti, Sltiu, Xori, Ori, Andi, Slli, Srli, Srai}
use Rattle.rv_decode.specs.declared.instr.RegOp.{RegOp}
use Rattle.rv_decode.specs.declared.instr.RegOp.TheVariants.{Add, Sub, Sll, Slt, Sltu, Xor, Srl, Sra, Or, And, Mul, Mulh, Mulhsu, Mulhu, Div, Divu, Rem, Remu}
use Rattle.sym_machine.specs.declared.word.SymByte.{SymByte}
use Rattle.sym_machine.specs.declared.word.SymByte.TheVariants.{Num, Part, Undef}
use Rattle.sym_machine.specs.declared.word.SymWord.{SymWord}
use Rattle.sym_machine.specs.declared.word.Value.{Value}
use Rattle.sym_machine.specs.declared.word.Value.TheVariants.{Code, AbsHi, PcHi}
use Rattle.sym_machine.specs.State.{PlainCore, reg_of}
use Rattle.sym_machine.specs.Words.{code_from, code_of, code_word, is_part, is_value, same_value, value_word, code_or, imm_numeric, imm_word, is_one, number_of, number_word, numeric, reg_numeric, reg_word, sum_word, undef_word}

-- four bytes of a number make it up
pub bytes_make : (n : ℕ) → n < 2 ^ 32 → byte_of n 0 + 256 * byte_of n 1 + 65536 * byte_of n 2 + 16777216 * byte_of n 3 ≡ n
bytes_make n lt = omega (arith, lt)

pub number_back : (n : ℕ) → n < 2 ^ 32 → number_of (number_word n) ≡ Some n
number_back n lt = ap Some (bytes_make n lt)

-- a sum with an immediate
pub number_sum : (n : ℕ) (imm : ℤ) → n < 2 ^ 32 → sum_word (number_word n) imm ≡ number_word (add32 n imm)
number_sum n (negsuc m) lt = ap (λ o. numeric o (λ k. add32 k (negsuc m))) (number_back n lt)
number_sum n (pos m) lt = ⊎_elim
    (λ zero.
    let same : n ≡ add32 n (pos 0) = omega (arith, lt) in
    cond-true (eqb m 0) (number_word n) (numeric (number_of (number_word n)) (λ k. add32 k (pos m))) zero.0
    ∙ ap number_word (same ∙ ap (λ k. add32 n (pos k)) (sym zero.1)))
    (λ other. cond-false (eqb m 0) (number_word n) (numeric (number_of (number_word n)) (λ k. add32 k (pos m))) other.0
    ∙ ap (λ o. numeric o (λ k. add32 k (pos m))) (number_back n lt))
    (eqb_tells m 0)

-- an operation with an immediate
pub number_imm : (op : ImmOp) (n : ℕ) (imm : ℤ) → n < 2 ^ 32 → imm_word op (number_word n) imm ≡ number_word (imm_result op n imm)
number_imm Addi n imm lt = number_sum n imm lt
number_imm Slti n imm lt = ap (λ o. numeric o (λ k. imm_result Slti k imm)) (number_back n lt)
number_imm Sltiu n imm lt = either (is_one imm)
  where
    either : (b : Bool) → code_or (cond b None None) 0 (imm_numeric Sltiu (number_word n) imm) ≡ number_word (imm_result Sltiu n imm)
    either true = ap (λ o. numeric o (λ k. imm_result Sltiu k imm)) (number_back n lt)
    either false = ap (λ o. numeric o (λ k. imm_result Sltiu k imm)) (number_back n lt)
number_imm Xori n imm lt = ap (λ o. numeric o (λ k. imm_result Xori k imm)) (number_back n lt)
number_imm Ori n imm lt = ap (λ o. numeric o (λ k. imm_result Ori k imm)) (number_back n lt)
number_imm Andi n imm lt = ap (λ o. numeric o (λ k. imm_result Andi k imm)) (number_back n lt)
number_imm Slli n imm lt = ap (λ o. numeric o (λ k. imm_result Slli k imm)) (number_back n lt)
number_imm Srli n imm lt = ap (λ o. numeric o (λ k. imm_result Srli k imm)) (number_back n lt)
number_imm Srai n imm lt = ap (λ o. numeric o (λ k. imm_result Srai k imm)) (number_back n lt)

-- register 0 holds no other number than 0
zeros : (s : PlainCore) (r a : ℕ) → a < 2 ^ 32 → reg_of s r ≡ number_word a → r ≡ 0 → a ≡ 0
zeros s r a lt is z =
    let e : Some a ≡ Some 0 = sym (number_back a lt) ∙ ap number_of (sym is ∙ ap (reg_of s) z) in
    cc

module _ (a b : ℕ) (below_a : a < 2 ^ 32) (below_b : b < 2 ^ 32) where
  both : (op : RegOp) → reg_numeric op (number_word a) (number_word b) ≡ number_word (reg_result op a b)
  both op = λ j. option_map_or (λ m. option_map_or (λ n. number_word (reg_result op m n)) (number_back b below_b j) undef_word) (number_back a below_a j) undef_word

  -- an operation on two registers, of which register 0 holds 0
  number_reg : (op : RegOp) (first second : ℕ) → (first ≡ 0 → a ≡ 0) → (second ≡ 0 → b ≡ 0) → reg_word op first second (number_word a) (number_word b) ≡ number_word (reg_result op a b)
  number_reg Add first second zero_a zero_b = ⊎_elim
      (λ zero. cond-true (eqb second 0) (number_word a) (cond (eqb first 0) (number_word b) (reg_numeric Add (number_word a) (number_word b))) zero.0
      ∙ ap number_word (let e : a ≡ (a + b) % 2 ^ 32 = omega (arith, zero_b zero.1, below_a) in e))
      (λ other. cond-false (eqb second 0) (number_word a) (cond (eqb first 0) (number_word b) (reg_numeric Add (number_word a) (number_word b))) other.0 ∙ ⊎_elim
      (λ zero. cond-true (eqb first 0) (number_word b) (reg_numeric Add (number_word a) (number_word b)) zero.0
      ∙ ap number_word (let e : b ≡ (a + b) % 2 ^ 32 = omega (arith, zero_a zero.1, below_b) in e))
      (λ some. cond-false (eqb first 0) (number_word b) (reg_numeric Add (number_word a) (number_word b)) some.0 ∙ both Add)
      (eqb_tells first 0))
      (eqb_tells second 0)
  number_reg Sub first second zero_a zero_b = both Sub
  number_reg Sll first second zero_a zero_b = both Sll
  number_reg Slt first second zero_a zero_b = both Slt
  number_reg Sltu first second zero_a zero_b = either (eqb first 0)
    where
      either : (c : Bool) → code_or (cond c None None) 1 (reg_numeric Sltu (number_word a) (number_word b)) ≡ number_word (reg_result Sltu a b)
      either true = both Sltu
      either false = both Sltu
  number_reg Xor first second zero_a zero_b = both Xor
  number_reg Srl first second zero_a zero_b = both Srl
  number_reg Sra first second zero_a zero_b = both Sra
  number_reg Or first second zero_a zero_b = both Or
  number_reg And first second zero_a zero_b = both And
  number_reg Mul first second zero_a zero_b = both Mul
  number_reg Mulh first second zero_a zero_b = both Mulh
  number_reg Mulhsu first second zero_a zero_b = both Mulhsu
  number_reg Mulhu first second zero_a zero_b = both Mulhu
  number_reg Div first second zero_a zero_b = both Div
  number_reg Divu first second zero_a zero_b = both Divu
  number_reg Rem first second zero_a zero_b = both Rem
  number_reg Remu first second zero_a zero_b = both Remu

-- an operation on two registers whose words are numbers
pub registers_reg : (s : PlainCore) (op : RegOp) (first second a b : ℕ) → a < 2 ^ 32 → b < 2 ^ 32 → reg_of s first ≡ number_word a → reg_of s second ≡ number_word b
    → number_word (reg_result op a b) ≡ reg_word op first second (reg_of s first) (reg_of s second)
registers_reg s op first second a b below_a below_b is_a is_b =
    sym (number_reg a b below_a below_b op first second (zeros s first a below_a is_a) (zeros s second b below_b is_b))
    ∙ (λ j. reg_word op first second (sym is_a j) (sym is_b j))

-- ---- values

module _ (v : Value) where
  same_value_is : (w : Value) → same_value v w ≡ true → v ≡ w
  same_value_is w is = by v w is
    where
      by : (a b : Value) → same_value a b ≡ true → a ≡ b
      by (Code q) (Code r) h = let p = same_is q r h in λ j. Code (record { object = p.0 j; section = p.1 j; offset = p.2 j })
      by (Code q) (AbsHi r) h = absurd cc
      by (Code q) (PcHi r) h = absurd cc
      by (AbsHi q) (Code r) h = absurd cc
      by (AbsHi q) (AbsHi r) h = let p = same_is q r h in λ j. AbsHi (record { object = p.0 j; section = p.1 j; offset = p.2 j })
      by (AbsHi q) (PcHi r) h = absurd cc
      by (PcHi q) (Code r) h = absurd cc
      by (PcHi q) (AbsHi r) h = absurd cc
      by (PcHi q) (PcHi r) h = let p = same_is q r h in λ j. PcHi (record { object = p.0 j; section = p.1 j; offset = p.2 j })

  pub part_is : (i : ℕ) (b : SymByte) → is_part v i b ≡ true → Part v i ≡ b
  part_is i (Num n) h = absurd cc
  part_is i Undef h = absurd cc
  part_is i (Part w j) h =
      let both = and_parts (same_value v w) (eqb i j) h in
      λ k. Part (same_value_is w both.0 k) (eqb-true i j both.1 k)

  value_is : (w : SymWord) → is_value v w ≡ true → value_word v ≡ w
  value_is w h =
      let a = and_parts (is_part v 0 w.b0) (is_part v 1 w.b1 && (is_part v 2 w.b2 && is_part v 3 w.b3)) h in
      let b = and_parts (is_part v 1 w.b1) (is_part v 2 w.b2 && is_part v 3 w.b3) a.1 in
      let c = and_parts (is_part v 2 w.b2) (is_part v 3 w.b3) b.1 in
      λ k. record { b0 = part_is 0 w.b0 a.0 k; b1 = part_is 1 w.b1 b.0 k; b2 = part_is 2 w.b2 c.0 k; b3 = part_is 3 w.b3 c.1 k }

-- a word that is a place's address is that address's word
pub code_is : (w : SymWord) (q : Place) → code_of w ≡ Some q → code_word q ≡ w
code_is w q is = by w.b0 is
  where
    tested : (r : Place) (b : Bool) → is_value (Code r) w ≡ b → cond b (Some r) None ≡ Some q → code_word q ≡ w
    tested r true value h = let same : r ≡ q = cc in ap code_word (sym same) ∙ value_is (Code r) w value
    tested r false value h = absurd cc

    by : (b : SymByte) → code_from b w ≡ Some q → code_word q ≡ w
    by (Num n) h = absurd cc
    by Undef h = absurd cc
    by (Part (AbsHi r) i) h = absurd cc
    by (Part (PcHi r) i) h = absurd cc
    by (Part (Code r) i) h = tested r (is_value (Code r) w) refl h
