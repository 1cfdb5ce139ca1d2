-- The loops that append operations and functions: those so far, followed by those that are left, are all of them. Each turn
-- appends the next one, and at the end none are left.
use Rattle.std.proofs.Common.{◌≡◌, ℕ, suc, ◌+◌, ◌-◌, ◌%◌, ◌<◌, ◌≤◌, List, [], ◌∷◌, ◌++◌, map, sym, ap, ◌∙◌, arith, append-nil, append_assoc}
use Rattle.std.proofs.lemmas.List.{map-append}
use Rattle.zc_base.specs.Draws.{drawn, stepped}
use Rattle.rv_decode.specs.declared.instr.Instr.{Instr}
use Rattle.load_maker.specs.Functions.{after_function, after_operations, function_statements, functions_from, operation, drawn_operations}
use Rattle.load_maker.specs.declared.statement.Statement.{Statement}
use Rattle.load_maker.specs.declared.statement.Statement.TheVariants.{Plain}

less : (n i : ℕ) → i < n → n - i ≡ suc (n - (i + 1))
less n i lt = omega arith

none : (n i : ℕ) → n ≤ i → n - i ≡ 0
none n i le = omega arith

-- ---- operations

abbrev pub operation_at : ℕ → List Instr
operation_at x = operation (drawn (stepped x) % 6) (drawn (stepped (stepped x)) % 2048)

pub operations_more : (out : List Statement) (n i x : ℕ) → i < n
    → (out ++ map Plain (operation_at x)) ++ map Plain (drawn_operations (n - (i + 1)) (stepped (stepped x))) ≡ out ++ map Plain (drawn_operations (n - i) x)
operations_more out n i x lt =
    let rest = drawn_operations (n - (i + 1)) (stepped (stepped x)) in
    append_assoc out (map Plain (operation_at x)) (map Plain rest)
    ∙ ap (λ l. out ++ l) (sym (map-append Plain (operation_at x) rest))
    ∙ ap (λ m. out ++ map Plain (drawn_operations m x)) (sym (less n i lt))

pub after_more : (n i x : ℕ) → i < n → after_operations (n - (i + 1)) (stepped (stepped x)) ≡ after_operations (n - i) x
after_more n i x lt = ap (λ m. after_operations m x) (sym (less n i lt))

pub operations_end : (out : List Statement) (n i x : ℕ) → n ≤ i → out ≡ out ++ map Plain (drawn_operations (n - i) x)
operations_end out n i x le = sym (ap (λ m. out ++ map Plain (drawn_operations m x)) (none n i le) ∙ append-nil out)

pub after_end : (n i x : ℕ) → n ≤ i → x ≡ after_operations (n - i) x
after_end n i x le = sym (ap (λ m. after_operations m x) (none n i le))

pub ruleset operation_steps = (operations_more, after_more, operations_end, after_end)

-- ---- functions

pub functions_more : (out : List (List Statement)) (n i x : ℕ) → i < n
    → (out ++ function_statements i x ∷ []) ++ functions_from (n - (i + 1)) (i + 1) (after_function i x) ≡ out ++ functions_from (n - i) i x
functions_more out n i x lt =
    append_assoc out (function_statements i x ∷ []) (functions_from (n - (i + 1)) (i + 1) (after_function i x))
    ∙ ap (λ m. out ++ functions_from m i x) (sym (less n i lt))

pub functions_end : (out : List (List Statement)) (n i x : ℕ) → n ≤ i → out ≡ out ++ functions_from (n - i) i x
functions_end out n i x le = sym (ap (λ m. out ++ functions_from m i x) (none n i le) ∙ append-nil out)

pub ruleset function_steps = (functions_more, functions_end)
