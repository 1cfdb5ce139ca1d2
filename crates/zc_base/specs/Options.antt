-- What a link is told beside its objects.
use Rattle.std.specs.Prelude.{ℕ, List, [], Vec, map}
use Rattle.std.specs.declared.alloc.Global.{Global}
use Rattle.zc_base.specs.declared.mem_map.MemMap.{MemMap}

-- the memory map, and the names of sections of code that stay as they were compiled
pub record Options : Type 0 where
  pub map : MemMap
  pub fixed : List (List ℕ)

-- the options of a map alone
abbrev pub options_in : MemMap → Options
options_in memory = record { map = memory; fixed = [] }

-- the bytes of each name
abbrev pub listed_names : List (Vec ℕ Global) → List (List ℕ)
listed_names names = map (λ name. name.items) names
