-- Laws of blocks one after another: where they end if one more follows, and that their rooms bound it.
use Rattle.std.proofs.Common.{◌≡◌, ℕ, ◌+◌, ◌<◌, ◌≤◌, List, [], ◌∷◌, ◌++◌, max, refl, ap, arith, map}
use Rattle.std.proofs.lemmas.List.Sums.{sum_by-cons}
use Rattle.psabi_sym.specs.declared.block.Block.{Block}
use Rattle.psabi_sym.specs.Blocks.{aligned_up, end_from, room_of, room_of_all, placed_from}

-- rounding up goes below the alignment
pub aligned_up-lt : (align at : ℕ) → aligned_up align at < at + max 1 align
unfolding aligned_up
aligned_up-lt align at = grind arith

-- an aligned address is not lower
pub aligned_up-ge : (align at : ℕ) → at ≤ aligned_up align at
unfolding aligned_up
aligned_up-ge align at = omega arith

-- blocks end no earlier than they begin
pub end_from-ge : (at : ℕ) (bs : List Block) → at ≤ end_from at bs
end_from-ge at [] = omega arith
end_from-ge at (b ∷ bs) = omega (arith, aligned_up-ge b.align at, end_from-ge (aligned_up b.align at + b.size) bs)

-- where blocks end, with one block more
pub end_from_push : (at : ℕ) (bs : List Block) (b : Block) → end_from at (bs ++ b ∷ []) ≡ aligned_up b.align (end_from at bs) + b.size
end_from_push at [] b = refl
end_from_push at (c ∷ bs) b = end_from_push (aligned_up c.align at + c.size) bs b

-- the end of blocks is bounded by their rooms
pub end_from_fits : (at : ℕ) (bs : List Block) → end_from at bs ≤ at + room_of_all bs
end_from_fits at [] = omega arith
end_from_fits at (b ∷ bs) =
    let rest = end_from_fits (aligned_up b.align at + b.size) bs in
    omega (arith, aligned_up-lt b.align at, sum_by-cons room_of b bs, rest)

-- where blocks are placed, with one block more
pub placed_from_push : {X : Type 0} (block : X → Block) (at : ℕ) (xs : List X) (x : X)
    → placed_from block at (xs ++ x ∷ []) ≡ placed_from block at xs ++ (x, aligned_up (block x).align (end_from at (map block xs))) ∷ []
placed_from_push block at [] x = refl
placed_from_push block at (y ∷ ys) x =
    ap (λ rest. (y, aligned_up (block y).align at) ∷ rest) (placed_from_push block (aligned_up (block y).align at + (block y).size) ys x)
