-- What is known of `_start`: how long it is, that its code is right, and that it has no branches.
use Rattle.std.proofs.Common.{◌≡◌, ℕ, zero, suc, pos, ◌+◌, ◌*◌, ◌%◌, ◌^◌, ◌<◌, ◌≤◌, List, ◌∷◌, map, true, false, Some, refl, ap, arith}
use Rattle.std.specs.Prelude.{All}
use Rattle.std.specs.List.{range_with_len}
use Rattle.std.proofs.lemmas.List.Elements.{All-append, All-cons, All-from_recursion, All-map, All-nil}
use Rattle.std.proofs.lemmas.List.Sums.{sum_by-append, sum_by-cons}
use Rattle.rv_decode.specs.declared.instr.Instr.{Instr}
use Rattle.rv_decode.specs.declared.instr.Instr.TheVariants.{WithImm, Ecall}
use Rattle.rv_decode.specs.declared.instr.ImmOp.TheVariants.{Addi}
use Rattle.rv_decode.specs.Decode.{decoded, imm_ops, row_of}
use Rattle.rv_decode.specs.Formats.{funct3_of, imm_i_of, opcode_of, rd_of, rs1_of}
use Rattle.rv_decode.proofs.DecodeLaws.{OfImm, format-decoded}
use Rattle.rv_encode.specs.Words.{encoded}
use Rattle.sound_objects.specs.Fragments.{Fragment}
use Rattle.sound_objects.specs.Reach.{HaveNoBareBranch, is_branch, is_no_bare_branch}
use Rattle.sound_objects.proofs.ReachLaws.{word_no_bare_branch}
use Rattle.load_maker.specs.Instructions.{addi, lui, sw}
use Rattle.load_maker.specs.Objects.{start_end, start_statements}
use Rattle.load_maker.specs.Statements.{code_size, fragment_of, size_of}
use Rattle.load_maker.specs.declared.register.Register.TheVariants.{Zero, Temp1, A0, A1}
use Rattle.load_maker.specs.declared.statement.Statement.{Statement}
use Rattle.load_maker.specs.declared.statement.Statement.TheVariants.{Plain, Call, WithAddress}
use Rattle.load_maker.proofs.CodeLaws.{IsRight, takes_store, takes_sum, takes_upper}

-- ---- its length

calls_size : (a n : ℕ) → code_size (map Call (range_with_len a n)) ≡ 8 * n
calls_size a zero = refl
calls_size a (suc n) = omega (arith, sum_by-cons size_of (Call a) (map Call (range_with_len (a + 1) n)), calls_size (a + 1) n)

-- the code at the start has a call for each function
pub start_size : (number n : ℕ) → code_size (start_statements number n) ≡ 48 + 8 * n
start_size number n =
    let first = Plain (addi A0 Zero (pos (number % 2048))) in
    let calls : List Statement = map Call (range_with_len 0 n) in
    omega (arith, sum_by-append size_of (first ∷ calls) start_end, sum_by-cons size_of first calls, calls_size 0 n)

-- ---- its code

calls_right : (n a m : ℕ) → a + m ≤ n → All (IsRight n) (map Call (range_with_len a m))
calls_right n a zero le = All-nil (IsRight n)
calls_right n a (suc m) le = All-cons (IsRight n) (Call a) (map Call (range_with_len (a + 1) m)) (omega (arith, le)) (calls_right n (a + 1) m (omega (arith, le)))

end_right : (n : ℕ) → All (IsRight n) start_end
unfolding decoded encoded
end_right n = All-from_recursion (IsRight n) start_end (
  takes_upper (lui Temp1 0) (omega arith) (omega arith) refl,
  (
    takes_store (sw A0 (pos 0) Temp1) (omega arith) (omega arith) refl,
    (
      takes_upper (lui A1 0) (omega arith) (omega arith) refl,
      (
        takes_sum (addi A1 A1 (pos 0)) (omega arith) (omega arith) refl,
        (omega arith, (omega arith, (omega arith, (tt, (omega arith, (omega arith, (tt, tt))))))),
      ),
    ),
  ),
)

pub start_right : (number n : ℕ) → All (IsRight n) (start_statements number n)
start_right number n =
    let first = Plain (addi A0 Zero (pos (number % 2048))) in
    let calls : List Statement = map Call (range_with_len 0 n) in
    All-append (IsRight n) (first ∷ calls) start_end (All-cons (IsRight n) first calls (omega arith) (calls_right n 0 n (omega arith))) (end_right n)

-- ---- no branches

-- an instruction whose word isn't a branch
record IsStraight (i : Instr) : Type 0 where
  pub small : encoded i < 2 ^ 32
  pub straight : is_branch (decoded (encoded i)) ≡ false

abbrev IsNoBareBranch : Statement → Type 0
IsNoBareBranch (Plain i) = IsStraight i
IsNoBareBranch (Call i) = Unit {0}
IsNoBareBranch (WithAddress kind i) = Unit {0}

no_bare_branch : (symbol : ℕ → ℕ) (s : Statement) → IsNoBareBranch s → is_no_bare_branch (fragment_of symbol s).reloc (fragment_of symbol s).bytes ≡ true
no_bare_branch symbol (Plain i) is = word_no_bare_branch (encoded i) is.small is.straight
no_bare_branch symbol (Call i) is = refl
no_bare_branch symbol (WithAddress kind i) is = refl

addi_straight : (m : ℕ) → m < 2048 → IsStraight (addi A0 Zero (pos m))
unfolding encoded
addi_straight m lt =
    let w : ℕ = encoded (addi A0 Zero (pos m)) in
    let opcode : opcode_of w ≡ 0b0010011 = omega arith in
    let funct3 : funct3_of w ≡ 0b000 = omega arith in
    let spelled : decoded w ≡ Some (WithImm Addi (rd_of w) (rs1_of w) (imm_i_of w)) = format-decoded w (WithImm Addi (rd_of w) (rs1_of w) (imm_i_of w)) (OfImm Addi opcode (ap (row_of imm_ops) funct3) refl) in
    record { small = omega arith; straight = ap is_branch spelled }

ecall_straight : IsStraight Ecall
unfolding decoded encoded
ecall_straight = record { small = omega arith; straight = refl }

end_no_bare_branch : All IsNoBareBranch start_end
unfolding decoded encoded
end_no_bare_branch = All-from_recursion IsNoBareBranch start_end (
  tt,
  (
    tt,
    (
      tt,
      (
        tt,
        (
          addi_straight 1 (omega arith),
          (
            record { small = omega arith; straight = refl },
            (record { small = omega arith; straight = refl }, (ecall_straight, (addi_straight 0 (omega arith), (record { small = omega arith; straight = refl }, (ecall_straight, tt))))),
          ),
        ),
      ),
    ),
  ),
)

calls_no_bare_branch : (a m : ℕ) → All IsNoBareBranch (map Call (range_with_len a m))
calls_no_bare_branch a zero = All-nil IsNoBareBranch
calls_no_bare_branch a (suc m) = All-cons IsNoBareBranch (Call a) (map Call (range_with_len (a + 1) m)) tt (calls_no_bare_branch (a + 1) m)

start_straight : (number n : ℕ) → All IsNoBareBranch (start_statements number n)
start_straight number n =
    let first = Plain (addi A0 Zero (pos (number % 2048))) in
    let calls : List Statement = map Call (range_with_len 0 n) in
    All-append IsNoBareBranch (first ∷ calls) start_end (All-cons IsNoBareBranch first calls (addi_straight (number % 2048) (omega arith)) (calls_no_bare_branch 0 n)) end_no_bare_branch

pub start_no_bare_branch : (symbol : ℕ → ℕ) (number n : ℕ) → HaveNoBareBranch (map (fragment_of symbol) (start_statements number n))
start_no_bare_branch symbol number n =
    All-map (λ (p : Fragment). is_no_bare_branch p.reloc p.bytes ≡ true) (fragment_of symbol) (start_statements number n)
    (λ k d lt. no_bare_branch symbol _ (start_straight number n k d lt))
