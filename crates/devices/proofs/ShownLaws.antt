-- What a store shows on standard output.
use Rattle.std.proofs.Common.{◌≡◌, ℕ, suc, ◌+◌, List, [], ◌∷◌, ◌++◌, length, take, cond, eqb, refl, sym, ap, ◌∙◌, arith, append-nil}
use Rattle.std.specs.Int.{to_le_bytes, w32}
use Rattle.std.specs.List.{list_any}
use Rattle.std.proofs.lemmas.List.{append_assoc}
use Rattle.rv_decode.specs.declared.instr.StoreOp.{StoreOp}
use Rattle.rv_decode.specs.declared.instr.StoreOp.TheVariants.{Sb, Sh, Sw}
use Rattle.rv_decode.specs.Devices.{sent_bytes}
use Rattle.rv_decode.specs.Effect.{store_width}
use Rattle.rv_decode.specs.EventBytes.{shown_bytes}

-- the low bytes of a word
pub low_bytes : (op : StoreOp) (word : ℕ) → take (store_width op) (to_le_bytes w32 word) ≡ sent_bytes op word
low_bytes Sb word = refl
low_bytes Sh word = refl
low_bytes Sw word = refl

-- one byte more
pub shown_more :
    (outputs : List ℕ) (a : ℕ) (xs : List ℕ) (b : ℕ)
    → shown_bytes outputs a (xs ++ b ∷ []) ≡ shown_bytes outputs a xs ++ cond (list_any (λ x. eqb x (a + length xs)) outputs) (b ∷ []) []
shown_more outputs a [] b =
    let here : a ≡ a + 0 = omega arith in
    append-nil (cond (list_any (λ x. eqb x a) outputs) (b ∷ []) []) ∙ ap (λ k. cond (list_any (λ x. eqb x k) outputs) (b ∷ []) []) here
shown_more outputs a (x ∷ xs) b =
    let first : List ℕ = cond (list_any (λ y. eqb y a) outputs) (x ∷ []) [] in
    let next : a + 1 + length xs ≡ a + suc (length xs) = omega arith in
    ap (λ ys. first ++ ys) (shown_more outputs (a + 1) xs b ∙ ap (λ k. shown_bytes outputs (a + 1) xs ++ cond (list_any (λ y. eqb y k) outputs) (b ∷ []) []) next)
    ∙ sym (append_assoc first (shown_bytes outputs (a + 1) xs) (cond (list_any (λ y. eqb y (a + suc (length xs))) outputs) (b ∷ []) []))
