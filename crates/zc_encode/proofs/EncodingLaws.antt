-- The halfword that is found for an instruction is the first that spells it: what is found is of a row, and spells it; and each
-- halfword that spells it is found, or one of an earlier row is.
use Rattle.std.proofs.Common.{◌≡◌, ℕ, ◌<◌, ◌≤◌, Option, Some, None, Bool, true, false, refl, sym, ap, ◌∙◌, subst, ⊎_elim, inl, inr, arith, eqb, ltb, cond, ℤ, pos}
use Rattle.std.specs.Prelude.{◌⊎◌, ◌||◌}
use Rattle.std.proofs.lemmas.Bool.{eqb-true, false≢true, ltb-true, ltb-false, or_cases}
use Rattle.rv_decode.specs.declared.instr.Instr.{Instr}
use Rattle.rv_decode.specs.declared.instr.Instr.TheVariants.{Upper, Jal, Jalr, Branch, Load, Store, WithImm, WithReg, Fence, Ecall, Ebreak, Csrrw}
use Rattle.rv_decode.specs.declared.instr.BranchOp.{BranchOp}
use Rattle.rv_decode.specs.declared.instr.BranchOp.TheVariants.{Beq, Bne, Blt, Bge, Bltu, Bgeu}
use Rattle.rv_decode.specs.declared.instr.ImmOp.TheVariants.{Addi}
use Rattle.rv_decode.specs.declared.instr.RegOp.{RegOp}
use Rattle.rv_decode.specs.declared.instr.RegOp.TheVariants.{Add, Sub, Sll, Slt, Sltu, Xor, Srl, Sra, Or, And, Mul, Mulh, Mulhsu, Mulhu, Div, Divu, Rem, Remu}
use Rattle.rv_decode.specs.Normal.{greater_branch, greater_first, normal_branch, normal_of, normal_reg, normal_sum}
use Rattle.rv_decode.specs.Registers.{HasRegisters}
use Rattle.zc_decode.specs.Hints.{is_hint, row_number}
use Rattle.zc_decode.specs.Rows.{form_of}
use Rattle.zc_decode.specs.declared.form.Form.{Form}
use Rattle.zc_decode.specs.declared.form.Form.TheVariants.{CEbreak, CmMva01s, CmMvsa01, CmPop, CmPopret, CmPopretz, CmPush}
use Rattle.zc_decode.specs.declared.short.Short.{Short}
use Rattle.zc_decode.specs.declared.short.Short.TheVariants.{Base, Push, Pop, PopRet, PopRetz, MoveSa, MoveAs, TableJump}
use Rattle.zc_encode.specs.Encoding.{IsEncoding, IsFirst, Spells, normal_short}
use Rattle.zc_encode.specs.Halves.{half_for, list_half, move_half, move_sa_half, table_half}
use Rattle.zc_encode.proofs.ImmRows.{upper_row, with_imm_row}
use Rattle.zc_encode.proofs.JumpRows.{branch_row, jal_row, jalr_row}
use Rattle.zc_encode.proofs.MemoryRows.{load_row, store_row}
use Rattle.zc_encode.proofs.RegRows.{InOrder, with_reg_row}
use Rattle.zc_decode.proofs.EachHalfword.{each_passes, passes}
use Rattle.zc_encode.proofs.RoundTrips.{all_found_again, half_of_normal, is_earlier, is_found, is_found_again}
use Rattle.zc_encode.proofs.RowFits.{InRow, InRowOf}
use Rattle.zc_encode.proofs.ZcmpRows.{move_as_row, move_sa_row, pop_row, popret_row, popretz_row, push_row, table_row}

-- ---- the halfword that is found encodes the instruction

-- the sources are in order, as far as normal forms order them
abbrev IsOrdered : Instr → Type 0
IsOrdered (WithReg op rd first second) = InOrder op first second
IsOrdered other = Unit {0}

greater_ordered : (op : RegOp) (rd first second : ℕ) → ((m n : ℕ) → n ≤ m → InOrder op m n) → IsOrdered (greater_first op rd first second)
greater_ordered op rd first second in_order = either (ltb first second) refl
  where
    either : (t : Bool) → ltb first second ≡ t → IsOrdered (cond t (WithReg op rd second first) (WithReg op rd first second))
    either true is = let lt = ltb-true first second is in in_order second first (omega arith)
    either false is = in_order first second (ltb-false first second is)

sum_ordered : (rd first second : ℕ) → IsOrdered (normal_sum rd first second)
sum_ordered rd first second = either (eqb second 0) (eqb first 0)
  where
    either : (t u : Bool) → IsOrdered (cond t (WithImm Addi rd first (pos 0)) (cond u (WithImm Addi rd second (pos 0)) (greater_first Add rd first second)))
    either true u = tt
    either false true = tt
    either false false = greater_ordered Add rd first second (λ m n le. le)

reg_ordered : (op : RegOp) (rd first second : ℕ) → IsOrdered (normal_reg op rd first second)
reg_ordered Add rd first second = sum_ordered rd first second
reg_ordered Sub rd first second = tt
reg_ordered Sll rd first second = tt
reg_ordered Slt rd first second = tt
reg_ordered Sltu rd first second = tt
reg_ordered Xor rd first second = greater_ordered Xor rd first second (λ m n le. le)
reg_ordered Srl rd first second = tt
reg_ordered Sra rd first second = tt
reg_ordered Or rd first second = greater_ordered Or rd first second (λ m n le. le)
reg_ordered And rd first second = greater_ordered And rd first second (λ m n le. le)
reg_ordered Mul rd first second = greater_ordered Mul rd first second (λ m n le. le)
reg_ordered Mulh rd first second = tt
reg_ordered Mulhsu rd first second = tt
reg_ordered Mulhu rd first second = tt
reg_ordered Div rd first second = tt
reg_ordered Divu rd first second = tt
reg_ordered Rem rd first second = tt
reg_ordered Remu rd first second = tt

greater_branch_ordered : (op : BranchOp) (first second : ℕ) (distance : ℤ) → IsOrdered (greater_branch op first second distance)
greater_branch_ordered op first second distance = either (ltb first second)
  where
    either : (t : Bool) → IsOrdered (cond t (Branch op second first distance) (Branch op first second distance))
    either true = tt
    either false = tt

branch_ordered : (op : BranchOp) (first second : ℕ) (distance : ℤ) → IsOrdered (normal_branch op first second distance)
branch_ordered Beq first second distance = greater_branch_ordered Beq first second distance
branch_ordered Bne first second distance = greater_branch_ordered Bne first second distance
branch_ordered Blt first second distance = tt
branch_ordered Bge first second distance = tt
branch_ordered Bltu first second distance = tt
branch_ordered Bgeu first second distance = tt

normal_ordered : (i : Instr) → IsOrdered (normal_of i)
normal_ordered (Upper op rd imm) = tt
normal_ordered (Jal rd distance) = tt
normal_ordered (Jalr rd base imm) = tt
normal_ordered (Branch op first second distance) = branch_ordered op first second distance
normal_ordered (Load op rd base imm) = tt
normal_ordered (Store op source base imm) = tt
normal_ordered (WithImm op rd first imm) = tt
normal_ordered (WithReg op rd first second) = reg_ordered op rd first second
normal_ordered (Fence rest) = tt
normal_ordered Ecall = tt
normal_ordered Ebreak = tt
normal_ordered (Csrrw rd source) = tt

ebreak_form : form_of 0x9002 ≡ Some CEbreak
unfolding form_of
ebreak_form = refl

ebreak_row : (half : ℕ) → Some 0x9002 ≡ Some half → InRow half Ebreak
ebreak_row half h = subst (λ k. InRow k Ebreak) (some h) (CEbreak, record { small = omega arith; row = ebreak_form; no_hint = refl; is = refl })
  where
    some : Some 0x9002 ≡ Some half → 0x9002 ≡ half
    some e = cc

found_row : (i : Instr) (half : ℕ) → HasRegisters i → IsOrdered i → half_for i ≡ Some half → InRow half i
found_row (Upper op rd imm) half r order h = upper_row op rd imm half r h
found_row (Jal rd distance) half r order h = jal_row rd half distance h
found_row (Jalr rd base imm) half r order h = jalr_row rd base half imm r.1 h
found_row (Branch op first second distance) half r order h = branch_row op first second half distance h
found_row (Load op rd base imm) half r order h = load_row op rd base half imm r.0 h
found_row (Store op source base imm) half r order h = store_row op source base half imm r.0 h
found_row (WithImm op rd first imm) half r order h = with_imm_row op rd first half imm r.0 r.1 h
found_row (WithReg op rd first second) half r order h = with_reg_row op rd first second half r.0 r.1 order h
found_row (Fence rest) half r order h = absurd cc
found_row Ecall half r order h = absurd cc
found_row Ebreak half r order h = ebreak_row half h
found_row (Csrrw rd source) half r order h = absurd cc

-- ---- a halfword that encodes the instruction is found, or a halfword of an earlier row is

-- the halfword that is found is the same, or is in an earlier row
abbrev Found : Form → ℕ → Option ℕ → Type 0
Found form half o = (k : ℕ) × (o ≡ Some k) × ((half ≡ k) ⊎ ((other : Form) × (form_of k ≡ Some other) × (row_number other < row_number form)))

found : (form : Form) (half : ℕ) (o : Option ℕ) → is_found form half o ≡ true → Found form half o
found form half None h = absurd cc
found form half (Some k) h = (k, refl, ⊎_elim (λ e. inl (sym (eqb-true k half e))) (λ e. inr (earlier (form_of k) refl e)) (or_cases (eqb k half) (is_earlier form (form_of k)) h))
  where
    earlier : (o : Option Form) → form_of k ≡ o → is_earlier form o ≡ true → (other : Form) × (form_of k ≡ Some other) × (row_number other < row_number form)
    earlier None is e = absurd cc
    earlier (Some other) is e = (other, is, ltb-true (row_number other) (row_number form) e)

spells_found : (form : Form) (half : ℕ) (s : Short) → Spells form half s → Found form half (half_of_normal (normal_short s))
spells_found form half s spells =
    let back : passes is_found_again half (Some form) ≡ true =
    sym (ap (passes is_found_again half) spells.row) ∙ each_passes is_found_again all_found_again half spells.small in
    let again = sym (ap (λ t. is_hint form half || is_found form half (half_of_normal t)) spells.same) ∙ back in
    found form half _ (⊎_elim (λ hint. absurd (false≢true (sym spells.no_hint ∙ hint))) (λ e. e) (or_cases (is_hint form half) _ again))

-- ---- the first halfword is found

first_of : (s : Short) (half : ℕ) → InRowOf half (normal_short s) → half_of_normal (normal_short s) ≡ Some half → IsFirst half s
first_of s half in_row is =
    let row = in_row.1 in
    record {
      form = in_row.0;
      spells = record { small = row.small; row = row.row; no_hint = row.no_hint; same = row.is };
      first = λ other k spells.
          let f = spells_found other k s spells in
          let same : f.0 ≡ half = some (sym f.1 ∙ is) in
          ⊎_elim (λ e. inl (e ∙ same)) (λ e. inr (earlier in_row.0 e.0 other (sym (row.row) ∙ ap form_of (sym same) ∙ e.1) e.2)) f.2;
    }
  where
    some : {m n : ℕ} → Some m ≡ Some n → m ≡ n
    some e = cc

    earlier : (form found other : Form) → Some form ≡ Some found → row_number found < row_number other → row_number form < row_number other
    earlier form found other e lt = subst (λ f. row_number f < row_number other) (sym (form_is form found e)) lt
      where
        form_is : (a b : Form) → Some a ≡ Some b → a ≡ b
        form_is a b e = cc

-- what is found for the normal form is the encoding, if it is of a row
encoding_of : (s : Short) (o : Option ℕ) → ((half : ℕ) → o ≡ Some half → InRowOf half (normal_short s)) → half_of_normal (normal_short s) ≡ o → IsEncoding s o
encoding_of s None rows is = λ form half spells. let f = spells_found form half s spells in absurd (none (sym is ∙ f.1))
  where
    none : {k : ℕ} → None ≡ Some k → ⊥
    none e = cc
encoding_of s (Some half) rows is = first_of s half (rows half refl) is

pub encoding : (i : Instr) (o : Option ℕ) → HasRegisters (normal_of i) → half_for (normal_of i) ≡ o → IsEncoding (Base i) o
encoding i o registers is = encoding_of (Base i) o (λ half found. found_row (normal_of i) half registers (normal_ordered i) (is ∙ found)) is

pub encoding-push : (list adjust : ℕ) (o : Option ℕ) → list_half 0b1000 list adjust ≡ o → IsEncoding (Push list adjust) o
encoding-push list adjust o is = encoding_of (Push list adjust) o (λ half found. (CmPush, push_row list adjust half (is ∙ found))) is

pub encoding-pop : (list adjust : ℕ) (o : Option ℕ) → list_half 0b1010 list adjust ≡ o → IsEncoding (Pop list adjust) o
encoding-pop list adjust o is = encoding_of (Pop list adjust) o (λ half found. (CmPop, pop_row list adjust half (is ∙ found))) is

pub encoding-popret : (list adjust : ℕ) (o : Option ℕ) → list_half 0b1110 list adjust ≡ o → IsEncoding (PopRet list adjust) o
encoding-popret list adjust o is = encoding_of (PopRet list adjust) o (λ half found. (CmPopret, popret_row list adjust half (is ∙ found))) is

pub encoding-popretz : (list adjust : ℕ) (o : Option ℕ) → list_half 0b1100 list adjust ≡ o → IsEncoding (PopRetz list adjust) o
encoding-popretz list adjust o is = encoding_of (PopRetz list adjust) o (λ half found. (CmPopretz, popretz_row list adjust half (is ∙ found))) is

pub encoding-move_sa : (first second : ℕ) (o : Option ℕ) → move_sa_half first second ≡ o → IsEncoding (MoveSa first second) o
encoding-move_sa first second o is = encoding_of (MoveSa first second) o (λ half found. (CmMvsa01, move_sa_row first second half (is ∙ found))) is

pub encoding-move_as : (first second : ℕ) (o : Option ℕ) → move_half 0b11 first second ≡ o → IsEncoding (MoveAs first second) o
encoding-move_as first second o is = encoding_of (MoveAs first second) o (λ half found. (CmMva01s, move_as_row first second half (is ∙ found))) is

pub encoding-table : (index : ℕ) (o : Option ℕ) → table_half index ≡ o → IsEncoding (TableJump index) o
encoding-table index o is = encoding_of (TableJump index) o (λ half found. table_row index half (is ∙ found)) is
