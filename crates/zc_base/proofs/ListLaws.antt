-- Elements of lists, by their index.
use Rattle.std.proofs.Common.{◌≡◌, ℕ, List, map, Some, slice_get, ap, ◌∙◌}
use Rattle.std.specs.Option.{option_map}
use Rattle.std.proofs.lemmas.Option.{slice_get-map}

-- an element of what a function makes of each
pub get_map : {X Y : Type 0} (f : X → Y) (xs : List X) (k : ℕ) (x : X) → slice_get xs k ≡ Some x → slice_get (map f xs) k ≡ Some (f x)
get_map f xs k x at = slice_get-map f xs k ∙ ap (option_map f) at
