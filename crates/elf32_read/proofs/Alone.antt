-- The index of the only value that passes a test, among the values of a function at 0, 1, 2 and so on.
use Rattle.std.proofs.Common.{◌≡◌, ℕ, ◌+◌, ◌<◌, ◌≤◌, List, [], ◌∷◌, ◌++◌, length, map, Bool, true, false, Option, Some, None, ap, ◌∙◌, arith}
use Rattle.std.specs.Prelude.{filter}
use Rattle.std.specs.List.{range_with_len}
use Rattle.elf32_read.specs.Header.{IsOnly, header_of, section_count}
use Rattle.elf32_read.specs.declared.header.SectionHeader.{SectionHeader}
use Rattle.elf32_read.proofs.Filtered.{count_more, kept_length, kept_more, kept_same}

-- among the first n values the one with this index is the only one that passes; `None` if no value passes
abbrev pub Found : {X : Type 0} → (X → Bool) → (ℕ → X) → ℕ → Option ℕ → Type 0
Found p f n None = filter p (map f (range_with_len 0 n)) ≡ []
Found p f n (Some i) = (i < n) × (filter p (map f (range_with_len 0 n)) ≡ f i ∷ [])

-- one value more that passes, while none did before it
pub found_more : {X : Type 0} (p : X → Bool) (f : ℕ → X) (count n : ℕ) (found : Option ℕ) → length (filter p (map f (range_with_len 0 count))) ≤ 1 → n < count → Found p f n found → p (f n) ≡ true → Found p f (n + 1) (Some n)
found_more p f count n None once lt before passes =
    (omega arith, kept_more p f n passes ∙ ap (λ l. l ++ f n ∷ []) before)
found_more p f count n (Some i) once lt before passes =
    let two = count_more p f n passes in
    let one = ap length before.1 in
    let all = kept_length p f count (n + 1) (omega arith) in
    absurd (omega (arith, two, one, all, once))

-- one value more that doesn't pass
pub found_same : {X : Type 0} (p : X → Bool) (f : ℕ → X) (n : ℕ) (found : Option ℕ) → Found p f n found → p (f n) ≡ false → Found p f (n + 1) found
found_same p f n None before fails = kept_same p f n fails ∙ before
found_same p f n (Some i) before fails = (omega (arith, before.0), kept_same p f n fails ∙ before.1)

-- the only header that passes a test, once all headers were looked at
pub found_only : (p : SectionHeader → Bool) (bytes : List ℕ) (found : Option ℕ) → Found p (header_of bytes) (section_count bytes) found → IsOnly p bytes found
found_only p bytes None found = found
found_only p bytes (Some i) found = found
