-- Ascending places, where the list of places is the values of a function.
use Rattle.std.proofs.Common.{◌≡◌, ℕ, suc, ◌+◌, ◌-◌, ◌<◌, map, sym, ap, ◌∙◌, arith}
use Rattle.std.specs.Prelude.{◌&&◌}
use Rattle.std.specs.List.{range_with_len}
use Rattle.zc_base.specs.declared.place.Place.{Place}
use Rattle.zc_base.specs.Places.{is_before}
use Rattle.elf32_read.specs.Places.{is_ascending}

-- a list is ascending if its first two places are, and so is the list from the second on
pub is_ascending_step : (f : ℕ → Place × ℕ) (i n : ℕ) → i + 1 < n → is_ascending (map f (range_with_len i (n - i))) ≡ (is_before (f i).0 (f (i + 1)).0 && is_ascending (map f (range_with_len (i + 1) (n - (i + 1)))))
is_ascending_step f i n lt =
    let two : n - i ≡ suc (suc (n - (i + 2))) = omega arith in
    let one : n - (i + 1) ≡ suc (n - (i + 2)) = omega arith in
    ap (λ k. is_ascending (map f (range_with_len i k))) two
    ∙ ap (λ k. is_before (f i).0 (f (i + 1)).0 && is_ascending (map f (range_with_len (i + 1) k))) (sym one)
