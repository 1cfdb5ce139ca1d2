-- The test of a certificate decides whether it is accepted.
use Rattle.std.proofs.Common.{◌≡◌, ℕ, ◌+◌, ◌≤◌, Bool, List, length, refl, leb}
use Rattle.std.proofs.lemmas.Bool.{leb-true, le-leb}
use Rattle.std.proofs.lemmas.Bool.Decides.{Decides-and, Decides-by_and, Decides-eqb, Decides-like, same_from_decides}
use Rattle.std.specs.Bool.{Decides}
use Rattle.std.specs.List.{list_all}
use Rattle.std.specs.Prelude.{IsTrue, ◌↔◌}
use Rattle.pick_check.specs.Bound.{bound_of}
use Rattle.pick_check.specs.Certified.{Certified, IsAccepted, is_accepted}
use Rattle.pick_check.specs.Saved.{cost_of, saved_of}
use Rattle.pick_check.specs.declared.saving.Saving.{Saving}

Decides-leb : (a b : ℕ) → Decides (leb a b) (a ≤ b)
Decides-leb a b = (leb-true a b, le-leb a b)

accepted_decides : (savings : List Saving) (c : Certified) → Decides (is_accepted savings c) (IsAccepted savings c)
unfolding is_accepted
accepted_decides savings c =
    let few = Decides-leb (length c.slots) 256 in
    let in_range = Decides-by_and (λ slot. leb slot (length savings)) (λ slot. slot ≤ length savings) (list_all (λ slot. leb slot (length savings))) (λ slot. Decides-leb slot (length savings)) refl (λ _ _. refl) c.slots in
    let saves = Decides-eqb (saved_of savings c.slots) (c.net + cost_of c.slots) in
    let bound = Decides-eqb c.net (bound_of savings c.prices) in
    Decides-like _
    (λ p. record { assignment = record { few = p.0.0.0; in_range = p.0.0.1 }; saves = p.0.1; bound = p.1 })
    (λ a. (((a.assignment.few, a.assignment.in_range), a.saves), a.bound))
    (Decides-and _ _ (Decides-and _ _ (Decides-and _ _ few in_range) saves) bound)

-- a result that is true exactly if a certificate is accepted equals the test
pub accepted_test : (savings : List Saving) (c : Certified) (answer : Bool) → (IsTrue answer ↔ IsAccepted savings c) → answer ≡ is_accepted savings c
accepted_test savings c answer is = same_from_decides answer (is_accepted savings c) is (accepted_decides savings c)
