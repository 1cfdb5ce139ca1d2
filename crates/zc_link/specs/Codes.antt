-- What is written for a unit, as a value: a halfword or a word, two of these, bytes of the object, or padding.
use Rattle.std.specs.Prelude.{◌≡◌, ℕ, ℤ, ◌⊎◌, List, ◌++◌}
use Rattle.zc_base.specs.Fields.{half_bytes, word_bytes}
use Rattle.rv_decode.specs.declared.instr.BranchOp.{BranchOp}
use Rattle.rv_decode.specs.declared.instr.Instr.TheVariants as instr
use Rattle.zc_link.specs.Written.{IsLongBranch, IsSpelled, padding}
use Rattle.zc_link.specs.declared.code.Code.{Code}
use Rattle.zc_link.specs.declared.code.Code.TheVariants.{Half, Word, Pair, Halves, HalfWord, WordHalf, Own, Padding}

-- the bytes of what is written
abbrev pub code_bytes : Code → List ℕ
code_bytes (Half half) = half_bytes half
code_bytes (Word word) = word_bytes word
code_bytes (Pair first second) = word_bytes first ++ word_bytes second
code_bytes (Halves first second) = half_bytes first ++ half_bytes second
code_bytes (HalfWord half word) = half_bytes half ++ word_bytes word
code_bytes (WordHalf word half) = word_bytes word ++ half_bytes half
code_bytes (Own bytes) = bytes.now
code_bytes (Padding count) = padding count

-- the n bytes of a branch with a distance: itself, or its long form
abbrev pub IsBranchSpelled : ℕ → List ℕ → BranchOp → (one two : ℕ) → ℤ → Type 0
IsBranchSpelled n bytes op one two d = IsSpelled n bytes (instr.Branch op one two d) ⊎ ((n ≡ 8) × IsLongBranch op one two d bytes)
