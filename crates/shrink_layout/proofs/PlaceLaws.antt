-- When two places are the same.
use Rattle.std.proofs.Common.{◌≡◌, true, false, sym, ap, ◌∙◌}
use Rattle.std.proofs.lemmas.Bool.{false≢true}
use Rattle.zc_base.specs.Places.{same_place}
use Rattle.zc_base.specs.declared.place.Place.{Place}
use Rattle.zc_base.proofs.PlaceLaws.{same_place-refl}
use Rattle.block_cut.proofs.LedLaws.{same_is}

pub same_place-true : (q r : Place) → same_place q r ≡ true → q ≡ r
same_place-true q r is =
    let parts = same_is q r is in
    λ j. record { object = parts.0 j; section = parts.1 j; offset = parts.2 j }

pub same_place-false : (q r : Place) → same_place q r ≡ false → q ≡ r → ⊥
same_place-false q r is same = false≢true (sym is ∙ ap (same_place q) (sym same) ∙ same_place-refl q)
