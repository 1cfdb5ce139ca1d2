-- Groups of a kind, counted one by one.
use Rattle.std.proofs.Common.{◌≡◌, ◌∙◌, ℕ, ◌+◌, List, [], ◌∷◌, ◌++◌, Bool, true, false, cond, Some, filter, length, take, slice_get, refl, ap, arith}
use Rattle.std.proofs.lemmas.List.{take_more}
use Rattle.std.proofs.lemmas.Option.{get_or_from_slice_get, slice_get_within}
use Rattle.zc_decode.specs.declared.short.Short.{Short}
use Rattle.frame_match.specs.declared.group.Group.{Group}

-- the number of groups of a kind in a list
abbrev pub kinds_in : (Short → Bool) → List Group → ℕ
kinds_in test gs = length (filter (λ g. test g.kind) gs)

-- the number of groups of a kind, with one group more
kinds_more : (test : Short → Bool) (gs : List Group) (g : Group) → kinds_in test (gs ++ g ∷ []) ≡ kinds_in test gs + cond {A = ℕ} (test g.kind) 1 0
kinds_more test [] g = by (test g.kind)
  where
    by : (b : Bool) → length (cond b (g ∷ []) []) ≡ 0 + cond {A = ℕ} b 1 0
    by true = refl
    by false = refl
kinds_more test (x ∷ gs) g = by (test x.kind) (kinds_more test gs g)
  where
    by : (b : Bool) → kinds_in test (gs ++ g ∷ []) ≡ kinds_in test gs + cond {A = ℕ} (test g.kind) 1 0
        → length (cond b (x ∷ filter (λ y. test y.kind) (gs ++ g ∷ [])) (filter (λ y. test y.kind) (gs ++ g ∷ []))) ≡ length (cond b (x ∷ filter (λ y. test y.kind) gs) (filter (λ y. test y.kind) gs)) + cond {A = ℕ} (test g.kind) 1 0
    by true rest = omega (arith, rest)
    by false rest = rest

pub kinds_next : (test : Short → Bool) (gs : List Group) (k : ℕ) (g : Group) → slice_get gs k ≡ Some g → kinds_in test (take (k + 1) gs) ≡ kinds_in test (take k gs) + cond {A = ℕ} (test g.kind) 1 0
kinds_next test gs k g is =
    ap (kinds_in test) (take_more gs k g (slice_get_within gs k g is) ∙ ap (λ x. take k gs ++ x ∷ []) (get_or_from_slice_get gs k g g is))
    ∙ kinds_more test (take k gs) g
