-- Lists that are made of each element and of those before it.
use Rattle.std.specs.Prelude.{List, [], ◌∷◌, ◌++◌}

-- what f makes of each element and of those before it
abbrev pub each_after : {X Y : Type 0} → (List X → X → Y) → List X → List X → List Y
each_after f before [] = []
each_after f before (x ∷ xs) = f before x ∷ each_after f (before ++ x ∷ []) xs
