-- The files of objects in memory.
use Rattle.std.specs.Prelude.{ℕ, List, Vec, map}
use Rattle.std.specs.declared.alloc.Global.{Global}

-- the bytes of each file
abbrev pub contents_of : List (Vec ℕ Global) → List (List ℕ)
contents_of files = map (λ file. file.items) files
