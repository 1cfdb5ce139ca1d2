-- What is kept of code stays right when one entry more is kept.
use Rattle.std.proofs.Common.{◌≡◌, ℕ, zero, suc, ◌+◌, ◌-◌, ◌*◌, ◌<◌, ◌≤◌, ◌++◌, List, [], ◌∷◌, drop, get_or, length, length-append, replicate, set, refl, sym, subst, ap, ◌∙◌, arith, ⊎_elim}
use Rattle.std.proofs.lemmas.Bool.{cases_eq}
use Rattle.std.proofs.lemmas.List.{get_or-set_other, get_or-set_same, length-replicate}
use Rattle.zc_machine.specs.Invariants.Kept.{IsCodeCache, IsDecodedFrom, extended_to_index}
use Rattle.zc_machine.specs.declared.code.Kept.{Kept}
use Rattle.zc_machine.specs.declared.code.Kept.TheVariants.{Unknown}

-- entries that say nothing say as much as none
get_or-padded : (kept : List Kept) (n k : ℕ) → get_or (kept ++ replicate n Unknown) k Unknown ≡ get_or kept k Unknown
get_or-padded [] zero k = refl
get_or-padded [] (suc n) zero = refl
get_or-padded [] (suc n) (suc k) = get_or-padded [] n k
get_or-padded (x ∷ xs) n zero = refl
get_or-padded (x ∷ xs) n (suc k) = get_or-padded xs n k

module _ (bytes : List ℕ) (kept : List Kept) (capacity : ℕ) (are : IsCodeCache bytes kept capacity) where
  -- one entry more, of the instruction at its halfword
  pub kept_more :
      (index more : ℕ) (entry : Kept) (entries : List Kept) → IsDecodedFrom entry (drop (2 * index) bytes)
      → entries ≡ extended_to_index kept index → capacity ≤ more → IsCodeCache bytes (set entries index entry) more
  kept_more index more entry entries stands is room = record {
    right = λ k. ⊎_elim
        (λ same.
        let at = ap (λ i. get_or (set entries index entry) i Unknown) same ∙ get_or-set_same entries index entry Unknown within in
        subst (λ e. IsDecodedFrom e (drop (2 * k) bytes)) (sym at) (subst (λ i. IsDecodedFrom entry (drop (2 * i) bytes)) (sym same) stands))
        (λ other. subst (λ e. IsDecodedFrom e (drop (2 * k) bytes))
        (sym (get_or-set_other entries index k entry Unknown other ∙ ap (λ es. get_or es k Unknown) is ∙ get_or-padded kept _ k)) (are.right k))
        (cases_eq k index);
    room = omega (arith, are.room, room);
  }
    where
      within : index < length entries
      within = omega (arith, ap length is, length-append kept (replicate (index + 1 - length kept) Unknown), length-replicate (index + 1 - length kept) Unknown)
