-- What is read where bytes were written: halves, words and instructions.
use Rattle.std.proofs.Common.{◌≡◌, ℕ, ◌+◌, ◌*◌, ◌≤◌, ◌<◌, List, take, drop, sym, ap, ◌∙◌, arith, get_or}
use Rattle.std.proofs.lemmas.List.{get_or-drop, get_or-take}
use Rattle.zc_base.specs.Fields.{half_in, word_in}
use Rattle.rv_decode.specs.Decode.{decoded}
use Rattle.block_cut.specs.Relocs.{normal_base, instr_in}
use Rattle.zc_decode.specs.Halfwords.{decoded16}

-- the bytes at two offsets are the same
abbrev pub SameBytes : ℕ → List ℕ → ℕ → List ℕ → ℕ → Type 0
SameBytes k xs n ys m = take k (drop n xs) ≡ take k (drop m ys)

byte-same : (k : ℕ) (xs : List ℕ) (n : ℕ) (ys : List ℕ) (m : ℕ) → SameBytes k xs n ys m → (i : ℕ) → i < k → get_or xs (n + i) 0 ≡ get_or ys (m + i) 0
byte-same k xs n ys m same i lt =
    sym (get_or-take k (drop n xs) i 0 lt ∙ get_or-drop n xs i 0)
    ∙ ap (λ zs. get_or zs i 0) same
    ∙ (get_or-take k (drop m ys) i 0 lt ∙ get_or-drop m ys i 0)

first-same : (k : ℕ) (xs : List ℕ) (n : ℕ) (ys : List ℕ) (m : ℕ) → SameBytes k xs n ys m → 0 < k → get_or xs n 0 ≡ get_or ys m 0
first-same k xs n ys m same lt =
    let a : n + 0 ≡ n = omega arith in
    let b : m + 0 ≡ m = omega arith in
    ap (λ j. get_or xs j 0) (sym a) ∙ byte-same k xs n ys m same 0 lt ∙ ap (λ j. get_or ys j 0) b

pub half-same : (k : ℕ) (xs : List ℕ) (n : ℕ) (ys : List ℕ) (m : ℕ) → SameBytes k xs n ys m → 2 ≤ k → half_in xs n ≡ half_in ys m
unfolding half_in
half-same k xs n ys m same le =
    let a = first-same k xs n ys m same (omega (arith, le)) in
    let b = byte-same k xs n ys m same 1 (omega (arith, le)) in
    λ i. a i + 256 * b i

pub word-same : (k : ℕ) (xs : List ℕ) (n : ℕ) (ys : List ℕ) (m : ℕ) → SameBytes k xs n ys m → 4 ≤ k → word_in xs n ≡ word_in ys m
unfolding word_in
word-same k xs n ys m same le =
    let a = first-same k xs n ys m same (omega (arith, le)) in
    let b = byte-same k xs n ys m same 1 (omega (arith, le)) in
    let c = byte-same k xs n ys m same 2 (omega (arith, le)) in
    let d = byte-same k xs n ys m same 3 (omega (arith, le)) in
    λ i. a i + 256 * b i + 65536 * c i + 16777216 * d i

-- so an instruction in 2 or 4 bytes is the same
pub short-same : (k : ℕ) (xs : List ℕ) (n : ℕ) (ys : List ℕ) (m : ℕ) → SameBytes k xs n ys m → 2 ≤ k → instr_in 2 xs n ≡ instr_in 2 ys m
short-same k xs n ys m same le = ap (λ h. normal_base (decoded16 h)) (half-same k xs n ys m same le)

pub long-same : (k : ℕ) (xs : List ℕ) (n : ℕ) (ys : List ℕ) (m : ℕ) → SameBytes k xs n ys m → 4 ≤ k → instr_in 4 xs n ≡ instr_in 4 ys m
long-same k xs n ys m same le = ap decoded (word-same k xs n ys m same le)
