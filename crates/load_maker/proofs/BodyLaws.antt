-- What is known of each generated function: it is short, its instructions have words, and it calls functions that there are.
use Rattle.std.proofs.Common.{◌≡◌, ℕ, zero, suc, pos, negsuc, ◌+◌, ◌-◌, ◌*◌, ◌%◌, ◌<◌, ◌≤◌, ◌-ℤ◌, ℤ, ◌+ℤ◌, List, [], ◌∷◌, ◌++◌, length, map, Bool, true, false, cond, drop, min, refl, ap, arith, eqb, ltb, length-append}
use Rattle.std.specs.Prelude.{All, ◌≤ℤ◌, ◌<ℤ◌}
use Rattle.std.specs.List.{flat_map}
use Rattle.std.proofs.lemmas.Int.{ints}
use Rattle.std.proofs.lemmas.Bool.{and_parts, ltb-true}
use Rattle.std.proofs.lemmas.List.{length-drop, length-take}
use Rattle.std.proofs.lemmas.List.Elements.{All-append, All-cons, All-drop, All-from_recursion, All-head, All-map, All-nil, All-tail, All-take}
use Rattle.std.proofs.lemmas.List.Sums.{sum_by-append, sum_by-cons}
use Rattle.zc_base.specs.Draws.{drawn, stepped}
use Rattle.rv_decode.specs.declared.instr.Instr.{Instr}
use Rattle.rv_decode.specs.Bits.{FitsIn}
use Rattle.rv_decode.specs.Immediates.{InRange}
use Rattle.load_maker.specs.Functions.{after_function, before_call, call, calls, epilogue, drawn_saves, function_statements, functions_from, increment, saves_ra, prologue, operation, operation_count, drawn_operations}
use Rattle.load_maker.specs.Instructions.{add, addi, lui, slli, srai, sub, xori}
use Rattle.load_maker.specs.Objects.{group}
use Rattle.load_maker.specs.Statements.{code_size, size_of}
use Rattle.load_maker.specs.declared.saved_registers.SavedRegisters.{SavedRegisters}
use Rattle.load_maker.specs.declared.saved_registers.SavedRegisters.TheVariants.{Both, ReturnAddress, Neither}
use Rattle.load_maker.specs.declared.register.Register.TheVariants.{A0, A1}
use Rattle.load_maker.specs.declared.statement.Statement.{Statement}
use Rattle.load_maker.specs.declared.statement.Statement.TheVariants.{Plain, Call, WithAddress}

-- ---- statements of functions

-- an instruction with a word, or a call of a function below a number
abbrev pub IsInner : ℕ → Statement → Type 0
IsInner n (Plain i) = InRange i
IsInner n (Call i) = i < n
IsInner n (WithAddress kind i) = ⊥

plain_inner : (n : ℕ) (instrs : List Instr) → All InRange instrs → All (IsInner n) (map Plain instrs)
plain_inner n instrs range = All-map (IsInner n) Plain instrs range

plain_size : (instrs : List Instr) → code_size (map Plain instrs) ≡ 4 * length instrs
plain_size [] = refl
plain_size (i ∷ rest) = omega (arith, sum_by-cons size_of (Plain i) (map Plain rest), plain_size rest)

-- ---- immediates of instructions

fits_by : (z : ℤ) → pos 0 ≤ℤ (z +ℤ pos 2048) → z <ℤ pos 2048 → FitsIn 12 z
fits_by (pos n) low high = omega (arith, ints)
fits_by (negsuc n) low high = omega (arith, ints)

-- 1,024 less than a number below 2,048
less_fits : (v : ℕ) → v < 2048 → FitsIn 12 (pos v -ℤ pos 1024)
less_fits v lt = fits_by (pos v -ℤ pos 1024) (omega (arith, ints)) (omega (arith, ints))

-- ---- the parts of a function: how long they are, and that their immediates fit

-- at most `most` instructions, each with a word
record AreShort (most : ℕ) (instrs : List Instr) : Type 0 where
  pub short : length instrs ≤ most
  pub range : All InRange instrs

one_of_two : (most : ℕ) (b : Bool) (xs ys : List Instr) → AreShort most xs → AreShort most ys → AreShort most (cond b xs ys)
one_of_two most true xs ys one two = one
one_of_two most false xs ys one two = two

prologue_short : (saved : SavedRegisters) → AreShort 4 (prologue saved)
prologue_short Both = record { short = omega arith; range = All-from_recursion InRange (prologue Both) (omega arith, (omega arith, (omega arith, (omega arith, tt)))) }
prologue_short ReturnAddress = record { short = omega arith; range = All-from_recursion InRange (prologue ReturnAddress) (omega arith, (omega arith, tt)) }
prologue_short Neither = record { short = omega arith; range = All-nil InRange }

operation_short : (kind v : ℕ) → v < 2048 → AreShort 2 (operation kind v)
operation_short kind v lt =
    one_of_two 2 (eqb kind 0) _ _ (one (addi A0 A0 (pos v -ℤ pos 1024)) (less_fits v lt))
    (one_of_two 2 (eqb kind 1) _ _ (one (xori A0 A0 (pos v)) (omega arith))
    (one_of_two 2 (eqb kind 2) _ _ (one (slli A0 A0 (pos (1 + v % 3))) (omega arith))
    (one_of_two 2 (eqb kind 3) _ _ (two (addi A1 A0 (pos (v % 32))) (add A0 A0 A1) (omega arith) tt)
    (one_of_two 2 (eqb kind 4) _ _ (two (lui A1 v) (sub A0 A0 A1) (omega arith) tt)
    (one (srai A0 A0 (pos (1 + v % 3))) (omega arith))))))
  where
    one : (i : Instr) → InRange i → AreShort 2 (i ∷ [])
    one i fits = record { short = omega arith; range = All-from_recursion InRange (i ∷ []) (fits, tt) }

    two : (i j : Instr) → InRange i → InRange j → AreShort 2 (i ∷ j ∷ [])
    two i j fits other = record { short = omega arith; range = All-from_recursion InRange (i ∷ j ∷ []) (fits, (other, tt)) }

operations_short : (m x : ℕ) → AreShort (2 * m) (drawn_operations m x)
operations_short zero x = record { short = omega arith; range = All-nil InRange }
operations_short (suc m) x =
    let kind : ℕ = drawn (stepped x) % 6 in
    let v : ℕ = drawn (stepped (stepped x)) % 2048 in
    let first = operation_short kind v (omega arith) in
    let rest = operations_short m (stepped (stepped x)) in
    record {
      short = omega (arith, length-append (operation kind v) (drawn_operations m (stepped (stepped x))), first.short, rest.short);
      range = All-append InRange (operation kind v) (drawn_operations m (stepped (stepped x))) first.range rest.range;
    }

increment_short : AreShort 2 increment
increment_short = record { short = omega arith; range = All-from_recursion InRange increment ((omega arith, refl), (omega arith, tt)) }

epilogue_short : (saved : SavedRegisters) → AreShort 5 (epilogue saved)
epilogue_short Both = record { short = omega arith; range = All-from_recursion InRange (epilogue Both) (tt, (omega arith, (omega arith, (omega arith, (omega arith, tt))))) }
epilogue_short ReturnAddress = record { short = omega arith; range = All-from_recursion InRange (epilogue ReturnAddress) (omega arith, (omega arith, (omega arith, tt))) }
epilogue_short Neither = record { short = omega arith; range = All-from_recursion InRange (epilogue Neither) (omega arith, tt) }

-- ---- a function

-- one that is below a number, or the number itself
pub record IsBody (n : ℕ) (body : List Statement) : Type 0 where
  pub short : code_size body ≤ 140
  pub inner : All (IsInner n) body

call_body : (n : ℕ) (saved : SavedRegisters) (i x : ℕ) → i ≤ n → (code_size (call saved i x) ≤ 8) × All (IsInner n) (call saved i x)
call_body n saved i x le = by (calls saved i) refl
  where
    by : (b : Bool) → calls saved i ≡ b → (code_size (cond b (Call (drawn (stepped x) % i) ∷ []) []) ≤ 8) × All (IsInner n) (cond b (Call (drawn (stepped x) % i) ∷ []) [])
    by true is =
        let some = ltb-true 0 i (and_parts (saves_ra saved) (ltb 0 i) is).1 in
        (omega arith, All-from_recursion (IsInner n) (Call (drawn (stepped x) % i) ∷ []) (omega (arith, some, le), tt))
    by false is = (omega arith, All-nil (IsInner n))

function_body : (n i x : ℕ) → i ≤ n → IsBody n (function_statements i x)
function_body n i x le =
    let saved = drawn_saves x in
    let first = prologue saved in
    let middle = drawn_operations (operation_count x) (stepped (stepped x)) in
    let begin : List Instr = (first ++ middle) ++ increment in
    let own = call saved i (before_call x) in
    let last = epilogue saved in
    let count : operation_count x ≤ 11 = omega arith in
    let a = prologue_short saved in
    let b = operations_short (operation_count x) (stepped (stepped x)) in
    let c = call_body n saved i (before_call x) le in
    let d = epilogue_short saved in
    record {
      short = omega (
        arith,
        sum_by-append size_of (map Plain begin ++ own) (map Plain last),
        sum_by-append size_of (map Plain begin) own,
        plain_size begin,
        length-append (first ++ middle) increment,
        length-append first middle,
        a.short,
        b.short,
        count,
        c.0,
        plain_size last,
        d.short,
      );
      inner = All-append (IsInner n) (map Plain begin ++ own) (map Plain last)
          (All-append (IsInner n) (map Plain begin) own
          (plain_inner n begin (All-append InRange (first ++ middle) increment (All-append InRange first middle a.range b.range) increment_short.range)) c.1)
          (plain_inner n last d.range);
    }

-- ---- all functions

pub all_bodies : (n m i x : ℕ) → i + m ≤ n → All (IsBody n) (functions_from m i x)
all_bodies n zero i x le = All-nil (IsBody n)
all_bodies n (suc m) i x le =
    All-cons (IsBody n) (function_statements i x) (functions_from m (i + 1) (after_function i x))
    (function_body n i x (omega (arith, le))) (all_bodies n m (i + 1) (after_function i x) (omega (arith, le)))

pub length-functions_from : (m i x : ℕ) → length (functions_from m i x) ≡ m
length-functions_from zero i x = refl
length-functions_from (suc m) i x = ap (λ n. suc n) (length-functions_from m (i + 1) (after_function i x))

-- ---- the functions of an object

flat_short : (n : ℕ) (bodies : List (List Statement)) → All (IsBody n) bodies → code_size (flat_map (λ body. body) bodies) ≤ 140 * length bodies
flat_short n [] all = omega arith
flat_short n (body ∷ rest) all =
    omega (arith, sum_by-append size_of body (flat_map (λ b. b) rest), (All-head (IsBody n) body rest all).short, flat_short n rest (All-tail (IsBody n) body rest all))

flat_inner : (n : ℕ) (bodies : List (List Statement)) → All (IsBody n) bodies → All (IsInner n) (flat_map (λ body. body) bodies)
flat_inner n [] all = All-nil (IsInner n)
flat_inner n (body ∷ rest) all =
    All-append (IsInner n) body (flat_map (λ b. b) rest) (All-head (IsBody n) body rest all).inner (flat_inner n rest (All-tail (IsBody n) body rest all))

-- the bodies of one group
module _ (number n k : ℕ) where
  abbrev pub bodies_of : List (List Statement)
  bodies_of = group (functions_from n 0 number) k

  abbrev pub code_of : List Statement
  code_of = flat_map (λ body. body) bodies_of

  bodies_are : All (IsBody n) bodies_of
  bodies_are = All-take (IsBody n) 8 (drop (8 * k) (functions_from n 0 number)) (All-drop (IsBody n) (8 * k) (functions_from n 0 number) (all_bodies n n 0 number (omega arith)))

  -- how long it is
  pub group_long : length bodies_of ≡ min 8 (n - 8 * k)
  group_long = omega (arith, length-take 8 (drop (8 * k) (functions_from n 0 number)), length-drop (8 * k) (functions_from n 0 number), length-functions_from n 0 number)

  pub group_short : code_size code_of ≤ 1120
  group_short = omega (arith, flat_short n bodies_of bodies_are, group_long)

  pub group_inner : All (IsInner n) code_of
  group_inner = flat_inner n bodies_of bodies_are
