-- Several writes in sequence, if the bytes of the stream are known.
use Rattle.std.proofs.Common.{◌≡◌, ℕ, ◌+◌, List, ◌++◌, take, drop, Option, Some, None, sym, ◌∙◌, ap, append_assoc}
use Rattle.std.proofs.Math.Seq.{take-add}
use Rattle.std.specs.Io.KnownBytes.{Keeps, Appends}
use Rattle.zc_outside.specs.Streams.{Adds}

-- a piece that was added is still there after calls that keep the bytes
pub Adds-Keeps : (xs ys zs : Option (List ℕ)) (piece : List ℕ) → Adds xs ys piece → Keeps ys zs → Adds xs zs piece
Adds-Keeps None ys zs piece added kept = tt
Adds-Keeps (Some xs) None zs piece added kept = absurd added
Adds-Keeps (Some xs) (Some ys) None piece added kept = kept
Adds-Keeps (Some xs) (Some ys) (Some zs) piece added kept = kept ∙ added

-- a part and the next part are one part
pub Adds-Appends :
    (xs ys zs : Option (List ℕ)) (piece : List ℕ) (done count : ℕ) → Adds xs ys (take done piece) → Appends ys zs (take count (drop done piece)) → Adds xs zs (take (done + count) piece)
Adds-Appends None ys zs piece done count added next = tt
Adds-Appends (Some xs) None zs piece done count added next = absurd added
Adds-Appends (Some xs) (Some ys) None piece done count added next = next
Adds-Appends (Some xs) (Some ys) (Some zs) piece done count added next =
    let joined : take done piece ++ take count (drop done piece) ≡ take (done + count) piece = sym (take-add done count piece) in
    next ∙ ap (λ front. front ++ take count (drop done piece)) added ∙ append_assoc xs (take done piece) (take count (drop done piece)) ∙ ap (λ part. xs ++ part) joined
