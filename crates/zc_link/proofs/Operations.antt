-- Operations of the symbolic machine: each result stands for the machine's, and names no places but those that it copies.
use Rattle.std.proofs.Common.{◌≡◌, ℕ, ◌+◌, ◌%◌, ◌^◌, ◌<◌, Option, Some, None, Bool, true, false, cond, refl, arith, ℤ, pos, negsuc, eqb, ltb}
use Rattle.std.proofs.lemmas.Bool.{cond-true, cond-false, eqb-true, lt-ltb, le-ltb}
use Rattle.zc_base.specs.declared.place.Place.{Place}
use Rattle.rv_decode.specs.declared.instr.ImmOp.{ImmOp}
use Rattle.rv_decode.specs.declared.instr.ImmOp.TheVariants.{Addi, Slti, Sltiu, Xori, Ori, Andi, Slli, Srli, Srai}
use Rattle.rv_decode.specs.declared.instr.RegOp.{RegOp}
use Rattle.rv_decode.specs.declared.instr.RegOp.TheVariants.{Add, Sub, Sll, Slt, Sltu, Xor, Srl, Sra, Or, And, Mul, Mulh, Mulhsu, Mulhu, Div, Divu, Rem, Remu}
use Rattle.rv_decode.specs.declared.instr.UpperOp.{UpperOp}
use Rattle.rv_decode.specs.declared.instr.UpperOp.TheVariants.{Lui, Auipc}
use Rattle.rv_decode.specs.Bits.{as_word}
use Rattle.rv_decode.specs.Results.{imm_result, reg_result, upper_result}
use Rattle.sym_machine.specs.declared.word.SymWord.{SymWord}
use Rattle.sym_machine.specs.declared.word.Value.{Value}
use Rattle.sym_machine.specs.Program.{Program}
use Rattle.sym_machine.specs.Words.{code_of, imm_numeric, imm_word, is_one, number_of, reg_numeric, reg_word, upper_word}
use Rattle.zc_link.specs.Image.{Image}
use Rattle.zc_link.specs.Invariants.Room.{Room}
use Rattle.zc_link.specs.Sound.{NamesWord}
use Rattle.zc_link.specs.Stands.{WordStands}
use Rattle.zc_link.specs.Values.{value_in}
use Rattle.zc_link.proofs.Addresses.{code_above}
use Rattle.zc_link.proofs.Words.{code_or_names, code_or_stands, number_names, number_results, number_results2, number_stands, numeric_names, numeric2_names, sum_names, sum_stands, undef_names, undef_stands}

-- ---- results

module _ {p : Program} {e : Image} (room : Room p e) where
  abbrev V : Value → Option ℕ
  V = value_in p e.address

  one_is : (imm : ℤ) → is_one imm ≡ true → as_word imm ≡ 1
  one_is (pos k) h = let is : k ≡ 1 = eqb-true k 1 h in omega (arith, is)
  one_is (negsuc k) h = absurd cc

  imm_numeric_stands :
      (op : ImmOp) (w : SymWord) (imm : ℤ) (n : ℕ) → n < 2 ^ 32 → WordStands V w n → WordStands V (imm_numeric op w imm) (imm_result op n imm)
  imm_numeric_stands op w imm n small h = number_results V w (λ k. imm_result op k imm) n small h

  pub imm_word_stands :
      (op : ImmOp) (w : SymWord) (imm : ℤ) (n : ℕ) → n < 2 ^ 32 → WordStands V w n → WordStands V (imm_word op w imm) (imm_result op n imm)
  imm_word_stands Addi w imm n small h = sum_stands V w imm n small h
  imm_word_stands Slti w imm n small h = imm_numeric_stands Slti w imm n small h
  imm_word_stands Sltiu w imm n small h =
      code_or_stands V (cond (is_one imm) (code_of w) None) 0 (imm_numeric Sltiu w imm) (imm_result Sltiu n imm) (λ q. tested q (is_one imm) refl)
      (imm_numeric_stands Sltiu w imm n small h)
    where
      tested : (q : Place) (b : Bool) → is_one imm ≡ b → cond b (code_of w) None ≡ Some q → imm_result Sltiu n imm ≡ 0
      tested q true t g =
          let some = code_above room w n q small h g in
          cond-false (ltb n (as_word imm)) 1 0 (le-ltb n (as_word imm) (omega (arith, some, one_is imm t)))
      tested q false t g = absurd cc
  imm_word_stands Xori w imm n small h = imm_numeric_stands Xori w imm n small h
  imm_word_stands Ori w imm n small h = imm_numeric_stands Ori w imm n small h
  imm_word_stands Andi w imm n small h = imm_numeric_stands Andi w imm n small h
  imm_word_stands Slli w imm n small h = imm_numeric_stands Slli w imm n small h
  imm_word_stands Srli w imm n small h = imm_numeric_stands Srli w imm n small h
  imm_word_stands Srai w imm n small h = imm_numeric_stands Srai w imm n small h

  reg_numeric_stands :
      (op : RegOp) (a b : SymWord) (m n : ℕ) → m < 2 ^ 32 → n < 2 ^ 32 → WordStands V a m → WordStands V b n
      → WordStands V (reg_numeric op a b) (reg_result op m n)
  reg_numeric_stands op a b m n small_m small_n ha hb = number_results2 V a b (reg_result op) m n small_m small_n ha hb

  -- an operation on two registers, by their numbers; register 0 holds 0
  pub reg_word_stands :
      (op : RegOp) (first second : ℕ) (a b : SymWord) (m n : ℕ) → m < 2 ^ 32 → n < 2 ^ 32 → (first ≡ 0 → m ≡ 0) → (second ≡ 0 → n ≡ 0)
      → WordStands V a m → WordStands V b n → WordStands V (reg_word op first second a b) (reg_result op m n)
  reg_word_stands Add first second a b m n small_m small_n zero_m zero_n ha hb = tested (eqb second 0) (eqb first 0) refl refl
    where
      tested : (x y : Bool) → eqb second 0 ≡ x → eqb first 0 ≡ y → WordStands V (cond x a (cond y b (reg_numeric Add a b))) ((m + n) % 2 ^ 32)
      tested true y t u =
          let zero = zero_n (eqb-true second 0 t) in
          let same : (m + n) % 2 ^ 32 ≡ m = omega (arith, zero, small_m) in
          rw same ha
      tested false true t u =
          let zero = zero_m (eqb-true first 0 u) in
          let same : (m + n) % 2 ^ 32 ≡ n = omega (arith, zero, small_n) in
          rw same hb
      tested false false t u = reg_numeric_stands Add a b m n small_m small_n ha hb
  reg_word_stands Sub first second a b m n small_m small_n zero_m zero_n ha hb = reg_numeric_stands Sub a b m n small_m small_n ha hb
  reg_word_stands Sll first second a b m n small_m small_n zero_m zero_n ha hb = reg_numeric_stands Sll a b m n small_m small_n ha hb
  reg_word_stands Slt first second a b m n small_m small_n zero_m zero_n ha hb = reg_numeric_stands Slt a b m n small_m small_n ha hb
  reg_word_stands Sltu first second a b m n small_m small_n zero_m zero_n ha hb =
      code_or_stands V (cond (eqb first 0) (code_of b) None) 1 (reg_numeric Sltu a b) (reg_result Sltu m n) (λ q. tested q (eqb first 0) refl)
      (reg_numeric_stands Sltu a b m n small_m small_n ha hb)
    where
      tested : (q : Place) (x : Bool) → eqb first 0 ≡ x → cond x (code_of b) None ≡ Some q → reg_result Sltu m n ≡ 1
      tested q true t g =
          let some = code_above room b n q small_n hb g in
          let zero = zero_m (eqb-true first 0 t) in
          cond-true (ltb m n) 1 0 (lt-ltb m n (omega (arith, some, zero)))
      tested q false t g = absurd cc
  reg_word_stands Xor first second a b m n small_m small_n zero_m zero_n ha hb = reg_numeric_stands Xor a b m n small_m small_n ha hb
  reg_word_stands Srl first second a b m n small_m small_n zero_m zero_n ha hb = reg_numeric_stands Srl a b m n small_m small_n ha hb
  reg_word_stands Sra first second a b m n small_m small_n zero_m zero_n ha hb = reg_numeric_stands Sra a b m n small_m small_n ha hb
  reg_word_stands Or first second a b m n small_m small_n zero_m zero_n ha hb = reg_numeric_stands Or a b m n small_m small_n ha hb
  reg_word_stands And first second a b m n small_m small_n zero_m zero_n ha hb = reg_numeric_stands And a b m n small_m small_n ha hb
  reg_word_stands Mul first second a b m n small_m small_n zero_m zero_n ha hb = reg_numeric_stands Mul a b m n small_m small_n ha hb
  reg_word_stands Mulh first second a b m n small_m small_n zero_m zero_n ha hb = reg_numeric_stands Mulh a b m n small_m small_n ha hb
  reg_word_stands Mulhsu first second a b m n small_m small_n zero_m zero_n ha hb = reg_numeric_stands Mulhsu a b m n small_m small_n ha hb
  reg_word_stands Mulhu first second a b m n small_m small_n zero_m zero_n ha hb = reg_numeric_stands Mulhu a b m n small_m small_n ha hb
  reg_word_stands Div first second a b m n small_m small_n zero_m zero_n ha hb = reg_numeric_stands Div a b m n small_m small_n ha hb
  reg_word_stands Divu first second a b m n small_m small_n zero_m zero_n ha hb = reg_numeric_stands Divu a b m n small_m small_n ha hb
  reg_word_stands Rem first second a b m n small_m small_n zero_m zero_n ha hb = reg_numeric_stands Rem a b m n small_m small_n ha hb
  reg_word_stands Remu first second a b m n small_m small_n zero_m zero_n ha hb = reg_numeric_stands Remu a b m n small_m small_n ha hb

  pub upper_word_stands : (op : UpperOp) (pc imm : ℕ) → WordStands V (upper_word op imm) (upper_result op pc imm)
  upper_word_stands Lui pc imm = number_stands V (upper_result Lui 0 imm)
  upper_word_stands Auipc pc imm = undef_stands V (upper_result Auipc pc imm)

-- ---- the places that they name

module _ (Named : Place → Type 0) where
  pub imm_names : (op : ImmOp) (w : SymWord) (imm : ℤ) → NamesWord Named w → NamesWord Named (imm_word op w imm)
  imm_names Addi w imm names = sum_names Named w imm names
  imm_names Slti w imm names = numeric_names Named (number_of w) (λ n. imm_result Slti n imm)
  imm_names Sltiu w imm names = code_or_names Named (cond (is_one imm) (code_of w) None) 0 (imm_numeric Sltiu w imm) (numeric_names Named (number_of w) (λ n. imm_result Sltiu n imm))
  imm_names Xori w imm names = numeric_names Named (number_of w) (λ n. imm_result Xori n imm)
  imm_names Ori w imm names = numeric_names Named (number_of w) (λ n. imm_result Ori n imm)
  imm_names Andi w imm names = numeric_names Named (number_of w) (λ n. imm_result Andi n imm)
  imm_names Slli w imm names = numeric_names Named (number_of w) (λ n. imm_result Slli n imm)
  imm_names Srli w imm names = numeric_names Named (number_of w) (λ n. imm_result Srli n imm)
  imm_names Srai w imm names = numeric_names Named (number_of w) (λ n. imm_result Srai n imm)

  reg_numeric_names : (op : RegOp) (a b : SymWord) → NamesWord Named (reg_numeric op a b)
  reg_numeric_names op a b = numeric2_names Named (number_of a) (number_of b) (reg_result op)

  pub reg_names : (op : RegOp) (first second : ℕ) (a b : SymWord) → NamesWord Named a → NamesWord Named b → NamesWord Named (reg_word op first second a b)
  reg_names Add first second a b names_a names_b = either (eqb second 0) (eqb first 0)
    where
      either : (x y : Bool) → NamesWord Named (cond x a (cond y b (reg_numeric Add a b)))
      either true y = names_a
      either false true = names_b
      either false false = reg_numeric_names Add a b
  reg_names Sub first second a b names_a names_b = reg_numeric_names Sub a b
  reg_names Sll first second a b names_a names_b = reg_numeric_names Sll a b
  reg_names Slt first second a b names_a names_b = reg_numeric_names Slt a b
  reg_names Sltu first second a b names_a names_b = code_or_names Named (cond (eqb first 0) (code_of b) None) 1 (reg_numeric Sltu a b) (reg_numeric_names Sltu a b)
  reg_names Xor first second a b names_a names_b = reg_numeric_names Xor a b
  reg_names Srl first second a b names_a names_b = reg_numeric_names Srl a b
  reg_names Sra first second a b names_a names_b = reg_numeric_names Sra a b
  reg_names Or first second a b names_a names_b = reg_numeric_names Or a b
  reg_names And first second a b names_a names_b = reg_numeric_names And a b
  reg_names Mul first second a b names_a names_b = reg_numeric_names Mul a b
  reg_names Mulh first second a b names_a names_b = reg_numeric_names Mulh a b
  reg_names Mulhsu first second a b names_a names_b = reg_numeric_names Mulhsu a b
  reg_names Mulhu first second a b names_a names_b = reg_numeric_names Mulhu a b
  reg_names Div first second a b names_a names_b = reg_numeric_names Div a b
  reg_names Divu first second a b names_a names_b = reg_numeric_names Divu a b
  reg_names Rem first second a b names_a names_b = reg_numeric_names Rem a b
  reg_names Remu first second a b names_a names_b = reg_numeric_names Remu a b

  pub upper_names : (op : UpperOp) (imm : ℕ) → NamesWord Named (upper_word op imm)
  upper_names Lui imm = number_names Named (upper_result Lui 0 imm)
  upper_names Auipc imm = undef_names Named
