-- When two places are the same.
use Rattle.std.proofs.Common.{◌≡◌, true, refl}
use Rattle.std.specs.Prelude.{◌&&◌}
use Rattle.std.proofs.lemmas.Bool.{eq-eqb}
use Rattle.zc_base.specs.Places.{same_place}
use Rattle.zc_base.specs.declared.place.Place.{Place}

pub same_place-refl : (q : Place) → same_place q q ≡ true
same_place-refl q = λ j. eq-eqb q.object q.object refl j && (eq-eqb q.section q.section refl j && eq-eqb q.offset q.offset refl j)
