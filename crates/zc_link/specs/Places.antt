-- Addresses of places in the image.
use Rattle.std.specs.Prelude.{ℕ, if◌then◌else◌, List, [], ◌∷◌, Option, Some, None}
use Rattle.zc_base.specs.Places.{same_place}
use Rattle.zc_base.specs.declared.place.Place.{Place}

-- the address that a list of places gives to a place; none if it isn't listed
abbrev pub listed_address : List (Place × ℕ) → Place → Option ℕ
listed_address [] q = None
listed_address (e ∷ es) q = if same_place e.0 q then Some e.1 else listed_address es q
