-- What the value of an option came from.
use Rattle.std.proofs.Common.{◌≡◌, Some, None, Bool, true, false, cond, Option, refl}
use Rattle.std.specs.Option.{option_map}
use Rattle.std.proofs.lemmas.Option.{none-some, same_Some}

pub mapped : {A B P : Type 0} (f : A → B) (o : Option A) (y : B) → option_map f o ≡ Some y → ((x : A) → o ≡ Some x → f x ≡ y → P) → P
mapped f None y is then = absurd (none-some y is)
mapped f (Some x) y is then = then x refl (same_Some (f x) y is)

pub picked : {A : Type 0} (b : Bool) (o : Option A) (y : A) → cond b o None ≡ Some y → (b ≡ true) × (o ≡ Some y)
picked true o y is = (refl, is)
picked false o y is = absurd (none-some y is)
