-- What the text of a plan is read as, with cells and without.
use Rattle.std.proofs.Common.{◌≡◌, ◌⊎◌, ℕ, ◌<◌, ◌≤◌, Ok, Err, false, Result, List, [], ◌∷◌, length, map, eqb, ne_eqb, inl, inr, refl, ap, sym, ◌∙◌, arith, lit<}
use Rattle.std.specs.Prelude.{All}
use Rattle.std.specs.Result.{result_map_both}
use Rattle.std.proofs.lemmas.List.Elements.{All-cons, All-from_recursion, All-head, All-nil, All-tail, All-weaker}
use Rattle.text_lines.proofs.PlainLaws.{IsLine}
use Rattle.interrupt_plan.specs.Plan.{Entry, IsInterrupt, IsPlan}
use Rattle.interrupt_plan.specs.SharedPlan.{IsSharedPlan, SharedEntry, without_cells}
use Rattle.interrupt_plan.specs.Text.{FitsByte, Grammar, IsEntryOf, IsPlanText, IsTextBy, entries_by, plan_grammar, plan_in, shared_grammar}
use Rattle.interrupt_plan.specs.declared.fault.PlanFault.{PlanFault}
use Rattle.interrupt_plan.specs.declared.fault.PlanFault.TheVariants.{OutOfMemory}
use Rattle.interrupt_plan.proofs.TextLaws.{text_back}

-- ---- the first lines have no line feed

above : (title : List ℕ) → All (λ b. 31 < b) title → IsLine title
above title over = All-weaker (λ b. 31 < b) (λ b. eqb b 10 ≡ false) (λ b more. ne_eqb b 10 (λ same. omega (arith, more, same))) title over

pub plan_title : IsLine plan_grammar.title
plan_title =
    above plan_grammar.title (All-from_recursion (λ b. 31 < b) plan_grammar.title (lit< tt, (lit< tt, (lit< tt, (lit< tt, (lit< tt, (lit< tt, (lit< tt, (lit< tt, (lit< tt, (lit< tt, (lit< tt, tt))))))))))))

pub shared_title : IsLine shared_grammar.title
shared_title =
    above shared_grammar.title (All-from_recursion (λ b. 31 < b) shared_grammar.title (lit< tt, (lit< tt, (lit< tt, (lit< tt, (lit< tt, (lit< tt, (lit< tt, (lit< tt, (lit< tt, (lit< tt, (lit< tt, (lit< tt, (lit< tt, tt))))))))))))))

-- ---- what spells something is read as that

-- a fault isn't found in the text of entries
pub refused : {A : Type 0} (g : Grammar) → IsLine g.title → (text : List ℕ) (es : List SharedEntry) (fault : PlanFault) (x : A) → (fault ≡ OutOfMemory) ⊎ (entries_by g text ≡ Err fault) → IsTextBy g text es → length text ≤ 8388608 → (◌≡◌ {A = Result A PlanFault} (Err fault) (Ok x)) ⊎ (◌≡◌ {A = Result A PlanFault} (Err fault) (Err OutOfMemory))
refused g titled text es fault x (inl memory) is small = inr (ap Err memory)
refused g titled text es fault x (inr bad) is small = let good = text_back g titled text es is small in absurd cc

-- the text of entries isn't read as others
pub same_entries : (g : Grammar) → IsLine g.title → (text : List ℕ) (es others : List SharedEntry) → entries_by g text ≡ Ok es → IsTextBy g text others → length text ≤ 8388608 → es ≡ others
same_entries g titled text es others ok is small = let good = text_back g titled text others is small in cc

-- all values that entries write fit in a byte
bytes_fit : (dirt : List (ℕ × ℕ)) → All FitsByte dirt → All (λ d. d.1 < 256) dirt
bytes_fit dirt fits = All-weaker FitsByte (λ d. d.1 < 256) (λ d small. small.1) dirt fits

pub shared_bytes : (g : Grammar) (es : List SharedEntry) → All (IsEntryOf g) es → IsSharedPlan es
shared_bytes g es fits = All-weaker (IsEntryOf g) (λ e. IsInterrupt e.entry.cut × All (λ c. c.1 < 256) e.cells) (λ e here. (bytes_fit e.entry.cut.dirt here.1.2, bytes_fit e.cells here.1.3)) es fits

-- ---- plans without cells

pub plain_back : (plan : List Entry) → map (λ e. e.entry) (map without_cells plan) ≡ plan
plain_back [] = refl
plain_back (e ∷ es) = ap (λ l. e ∷ l) (plain_back es)

-- the entries that a text spells are a plan with no cells added
pub plan_found : (text : List ℕ) (plan : List Entry) → entries_by plan_grammar text ≡ Ok (map without_cells plan) → plan_in text ≡ Ok plan
plan_found text plan ok = ap (result_map_both (map (λ e. e.entry)) (λ fault. fault)) ok ∙ ap Ok (plain_back plan)

pub plan_fault : (text : List ℕ) (fault : PlanFault) → (fault ≡ OutOfMemory) ⊎ (entries_by plan_grammar text ≡ Err fault) → (fault ≡ OutOfMemory) ⊎ (plan_in text ≡ Err fault)
plan_fault text fault (inl memory) = inl memory
plan_fault text fault (inr bad) = inr (ap (result_map_both (map (λ e. e.entry)) (λ fault. fault)) bad)

pub same_plan : (text : List ℕ) (plan other : List Entry) → entries_by plan_grammar text ≡ Ok (map without_cells plan) → IsPlanText text other → length text ≤ 8388608 → plan ≡ other
same_plan text plan other ok is small =
    sym (plain_back plan) ∙ ap (map (λ e. e.entry)) (same_entries plan_grammar plan_title text (map without_cells plan) (map without_cells other) ok is small) ∙ plain_back other

pub plan_bytes : (plan : List Entry) → All (IsEntryOf plan_grammar) (map without_cells plan) → IsPlan plan
plan_bytes [] fits = All-nil (λ e. IsInterrupt e.cut)
plan_bytes (e ∷ es) fits =
    let here = All-head (IsEntryOf plan_grammar) (without_cells e) (map without_cells es) fits in
    All-cons (λ x. IsInterrupt x.cut) e es (bytes_fit e.cut.dirt here.1.2) (plan_bytes es (All-tail (IsEntryOf plan_grammar) (without_cells e) (map without_cells es) fits))
