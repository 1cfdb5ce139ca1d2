-- The order of ranges makes no difference to what is written in them.
use Rattle.std.proofs.Common.{◌≡◌, ℕ, Bool, List, [], ◌∷◌, cond, refl, ap, ◌∙◌}
use Rattle.std.specs.List.Sorted.{IsPermutation}
use Rattle.std.proofs.lemmas.List.Sorted.{list_any-IsPermutation}
use Rattle.interrupt_plan.specs.SharedPlan.{SharedEntry, shared_at}
use Rattle.rv_decode.specs.State.{ZcCore}
use Rattle.shared_cells.specs.SharedRun.{all_shared, cell_written, cells_written, in_ranges, shared_by}
use Rattle.zc_machine.specs.Interrupt.{interrupted}
use Rattle.zc_machine.specs.Poked.{poked_core}

module _ (r s : List (ℕ × ℕ)) (same : (a : ℕ) → in_ranges r a ≡ in_ranges s a) where
  cells_same : (cs : List (ℕ × ℕ)) (z : ZcCore) → cells_written r cs z ≡ cells_written s cs z
  cells_same [] z = refl
  cells_same (c ∷ cs) z = ap (λ (b : Bool). cells_written r cs (cond b (poked_core c z) z)) (same c.0) ∙ cells_same cs (cell_written s c z)

  entries_same : (es : List SharedEntry) (z : ZcCore) → all_shared r es z ≡ all_shared s es z
  entries_same [] z = refl
  entries_same (e ∷ es) z = ap (all_shared r es) (cells_same e.cells (interrupted e.entry.cut z)) ∙ entries_same es (cells_written s e.cells (interrupted e.entry.cut z))

pub any_order : (r s : List (ℕ × ℕ)) → IsPermutation r s → (plan : List SharedEntry) → shared_by r plan ≡ shared_by s plan
any_order r s is plan = λ i k z. entries_same r s (λ a. list_any-IsPermutation _ r s is) (shared_at plan k) z i
