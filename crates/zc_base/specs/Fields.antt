-- Little-endian fields of bytes (System V gABI, "Data Representation", ELFDATA2LSB).
use Rattle.std.specs.Prelude.{ℕ, ◌+◌, ◌*◌, ◌/◌, ◌%◌, List, [], ◌∷◌, ◌++◌, take, drop, slice_index}

-- the half at an offset: two bytes, the low one first
unfoldable pub half_in : List ℕ → ℕ → ℕ
half_in bytes at = slice_index bytes at + 256 * slice_index bytes (at + 1)

-- the word at an offset: four bytes, the lowest first
unfoldable pub word_in : List ℕ → ℕ → ℕ
word_in bytes at =
    slice_index bytes at + 256 * slice_index bytes (at + 1) + 65536 * slice_index bytes (at + 2) + 16777216 * slice_index bytes (at + 3)

-- the two bytes of a half
abbrev pub half_bytes : ℕ → List ℕ
half_bytes v = v % 256 ∷ v / 256 % 256 ∷ []

-- the four bytes of a word
abbrev pub word_bytes : ℕ → List ℕ
word_bytes v = v % 256 ∷ v / 256 % 256 ∷ v / 65536 % 256 ∷ v / 16777216 % 256 ∷ []

-- the bytes with this half at an offset, and all others as they were
unfoldable pub with_half : List ℕ → ℕ → ℕ → List ℕ
with_half bytes at v = take at bytes ++ (half_bytes v ++ drop (at + 2) bytes)

-- the bytes with this word at an offset, and all others as they were
unfoldable pub with_word : List ℕ → ℕ → ℕ → List ℕ
with_word bytes at v = take at bytes ++ (word_bytes v ++ drop (at + 4) bytes)
