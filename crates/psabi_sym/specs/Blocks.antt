-- Blocks of data one after another, each at a multiple of its alignment.
use Rattle.std.specs.Prelude.{ℕ, ◌+◌, max, List, [], ◌∷◌}
use Rattle.std.specs.Int.{next_multiple_of}
use Rattle.std.specs.List.{sum_by}
use Rattle.psabi_sym.specs.declared.block.Block.{Block}

-- an address rounded up to a multiple of an alignment, of which 0 counts as 1
unfoldable pub aligned_up : ℕ → ℕ → ℕ
aligned_up align at = next_multiple_of at (max 1 align)

-- things that take blocks, one after another from an address on, each with where it begins
abbrev pub placed_from : {X : Type 0} → (X → Block) → ℕ → List X → List (X × ℕ)
placed_from block at [] = []
placed_from block at (x ∷ xs) =
    let begin = aligned_up (block x).align at in (x, begin) ∷ placed_from block (begin + (block x).size) xs

-- where the last of blocks ends, one after another from an address on
abbrev pub end_from : ℕ → List Block → ℕ
end_from at [] = at
end_from at (b ∷ bs) = end_from (aligned_up b.align at + b.size) bs

-- the room that a block may take: its size, and its alignment, of which 0 counts as 1
abbrev pub room_of : Block → ℕ
room_of b = b.size + max 1 b.align

-- the room that blocks may take
abbrev pub room_of_all : List Block → ℕ
room_of_all blocks = sum_by room_of blocks
