-- Bytes of words, of padding and of objects: their number, and that each is a byte.
use Rattle.std.proofs.Common.{◌≡◌, ℕ, zero, suc, ◌+◌, ◌*◌, ◌/◌, ◌%◌, ◌^◌, ◌<◌, ◌≤◌, List, [], ◌∷◌, ◌++◌, length, Bool, true, false, cond, eqb, refl, sym, ap, ◌∙◌, subst, arith, get_or, length-append, take, drop}
use Rattle.std.specs.Prelude.{replicate}
use Rattle.std.proofs.lemmas.Bool.{eqb-false, eqb-true}
use Rattle.std.proofs.lemmas.List.{drop-append-le, get_or-drop, get_or-take, length-drop, length-take-le, take-append-le}
use Rattle.zc_base.specs.Fields.{half_bytes, half_in, word_bytes, word_in}
use Rattle.zc_link.specs.Copied.{bytes_from}
use Rattle.zc_link.specs.Written.{copies, nop, padding, short_nop}

-- ---- bytes are bytes

-- each is one
abbrev pub AreBytes : List ℕ → Type 0
AreBytes bytes = (k : ℕ) → get_or bytes k 0 < 256

pub bytes_append : (xs ys : List ℕ) → AreBytes xs → AreBytes ys → AreBytes (xs ++ ys)
bytes_append [] ys hx hy k = hy k
bytes_append (x ∷ xs) ys hx hy zero = hx 0
bytes_append (x ∷ xs) ys hx hy (suc k) = bytes_append xs ys (λ i. hx (suc i)) hy k

pub word_are : (word : ℕ) → AreBytes (word_bytes word)
word_are v zero = omega arith
word_are v (suc zero) = omega arith
word_are v (suc (suc zero)) = omega arith
word_are v (suc (suc (suc zero))) = omega arith
word_are v (suc (suc (suc (suc k)))) = omega arith

pub half_are : (half : ℕ) → AreBytes (half_bytes half)
half_are v zero = omega arith
half_are v (suc zero) = omega arith
half_are v (suc (suc k)) = omega arith

pub zeros_are : (n : ℕ) → AreBytes (replicate n 0)
zeros_are zero k = omega arith
zeros_are (suc n) zero = omega arith
zeros_are (suc n) (suc k) = zeros_are n k

pub copies_are : (word n : ℕ) → AreBytes (copies word n)
copies_are word zero k = omega arith
copies_are word (suc n) k = bytes_append (word_bytes word) (copies word n) (word_are word) (copies_are word n) k

pub length-copies : (word n : ℕ) → length (copies word n) ≡ 4 * n
length-copies word zero = refl
length-copies word (suc n) = omega (arith, length-append (word_bytes word) (copies word n), length-copies word n)

-- padding of n bytes is made of bytes
pub padding_are : (n : ℕ) → AreBytes (padding n)
padding_are n = bytes_append _ (copies nop (n / 4)) (by (eqb (n % 4) 2)) (copies_are nop (n / 4))
  where
    by : (b : Bool) → AreBytes (cond b (half_bytes short_nop) [])
    by true = half_are short_nop
    by false = λ k. omega arith

pub length-padding : (n : ℕ) → n % 2 ≡ 0 → length (padding n) ≡ n
length-padding n even =
    length-append _ (copies nop (n / 4)) ∙ (λ j. by (eqb (n % 4) 2) refl j + length-copies nop (n / 4) j) ∙ omega arith
  where
    by : (b : Bool) → eqb (n % 4) 2 ≡ b → length (cond b (half_bytes short_nop) []) ≡ n % 4
    by true e = sym (eqb-true (n % 4) 2 e)
    by false e = omega (arith, even, eqb-false (n % 4) 2 e)

pub take_are : (n : ℕ) (xs : List ℕ) → AreBytes xs → AreBytes (take n xs)
take_are zero xs are k = omega arith
take_are (suc n) [] are k = omega arith
take_are (suc n) (x ∷ xs) are zero = are 0
take_are (suc n) (x ∷ xs) are (suc k) = take_are n xs (λ i. are (suc i)) k

pub drop_are : (n : ℕ) (xs : List ℕ) → AreBytes xs → AreBytes (drop n xs)
drop_are zero xs are k = are k
drop_are (suc n) [] are k = omega arith
drop_are (suc n) (x ∷ xs) are k = drop_are n xs (λ i. are (suc i)) k

pub length-bytes_from : (bytes : List ℕ) (at n : ℕ) → at + n ≤ length bytes → length (bytes_from bytes at n) ≡ n
length-bytes_from bytes at n within = length-take-le n (drop at bytes) (omega (arith, length-drop at bytes))

-- the first bytes stay if more come after them
pub first_bytes : (text more : List ℕ) (at n : ℕ) → at + n ≤ length text → bytes_from (text ++ more) at n ≡ bytes_from text at n
first_bytes text more at n within =
    ap (take n) (drop-append-le at text more (omega arith)) ∙ take-append-le n (drop at text) more (omega (arith, length-drop at text))

-- ---- the halfword or word at an offset

pub half_small : (code : List ℕ) (n : ℕ) → AreBytes code → half_in code n < 2 ^ 16
unfolding half_in
half_small code n bytes = omega (arith, bytes n, bytes (n + 1))

-- two bytes from there on are those of their number, if they are bytes
pub two_bytes :
    (code : List ℕ) (n : ℕ) (two : List ℕ) → take 2 (drop n code) ≡ two → length two ≡ 2 → ((k : ℕ) → get_or two k 0 < 256)
    → (half_in code n < 2 ^ 16) × (two ≡ half_bytes (half_in code n))
unfolding half_in
two_bytes [] n two are long octets = absurd (let none : length two ≡ 0 = ap length (sym are) ∙ ap (λ l. length (take 2 l)) (drop_none n) in omega (arith, none, long))
  where
    drop_none : (m : ℕ) → drop {A = ℕ} m [] ≡ []
    drop_none zero = refl
    drop_none (suc m) = refl
two_bytes (x ∷ []) zero two are long octets = absurd (let one : length two ≡ 1 = ap length (sym are) in omega (arith, one, long))
two_bytes (x ∷ y ∷ code) zero two are long octets =
    let bx : x < 256 = subst (λ l. get_or l 0 0 < 256) (sym are) (octets 0) in
    let by : y < 256 = subst (λ l. get_or l 1 0 < 256) (sym are) (octets 1) in
    let low : x ≡ (x + 256 * y) % 256 = omega (arith, bx, by) in
    let high : y ≡ (x + 256 * y) / 256 % 256 = omega (arith, bx, by) in
    (omega (arith, bx, by), sym are ∙ (λ i. low i ∷ high i ∷ []))
two_bytes (x ∷ code) (suc n) two are long octets =
    let next : suc (n + 1) ≡ suc n + 1 = omega arith in
    let rest = two_bytes code n two are long octets in
    let same : half_in code n ≡ half_in (x ∷ code) (suc n) = ap (λ m. get_or (x ∷ code) (suc n) 0 + 256 * get_or (x ∷ code) m 0) next in
    (subst (λ h. h < 2 ^ 16) same rest.0, rest.1 ∙ ap half_bytes same)

-- so are four
pub four_bytes :
    (code : List ℕ) (n : ℕ) (four : List ℕ) → take 4 (drop n code) ≡ four → length four ≡ 4 → ((k : ℕ) → get_or four k 0 < 256)
    → (word_in code n < 2 ^ 32) × (four ≡ word_bytes (word_in code n))
unfolding word_in
four_bytes code n [] are long octets = absurd (omega (arith, long))
four_bytes code n (a ∷ []) are long octets = absurd (omega (arith, long))
four_bytes code n (a ∷ b ∷ []) are long octets = absurd (omega (arith, long))
four_bytes code n (a ∷ b ∷ c ∷ []) are long octets = absurd (omega (arith, long))
four_bytes code n (a ∷ b ∷ c ∷ d ∷ []) are long octets =
    let at = λ (k : ℕ) (lt : k < 4). ap (λ l. get_or l k 0) (sym are) ∙ get_or-take 4 (drop n code) k 0 lt ∙ get_or-drop n code k 0 in
    let first : n + 0 ≡ n = omega arith in
    let is_a : a ≡ get_or code n 0 = at 0 (omega arith) ∙ ap (λ m. get_or code m 0) first in
    let is_b : b ≡ get_or code (n + 1) 0 = at 1 (omega arith) in
    let is_c : c ≡ get_or code (n + 2) 0 = at 2 (omega arith) in
    let is_d : d ≡ get_or code (n + 3) 0 = at 3 (omega arith) in
    let small_a : a < 256 = octets 0 in
    let small_b : b < 256 = octets 1 in
    let small_c : c < 256 = octets 2 in
    let small_d : d < 256 = octets 3 in
    let sum : word_in code n ≡ a + 256 * b + 65536 * c + 16777216 * d = omega (arith, is_a, is_b, is_c, is_d) in
    (omega (arith, sum, small_a, small_b, small_c, small_d), four_are (word_in code n) a b c d sum small_a small_b small_c small_d)
  where
    four_are :
        (w a b c d : ℕ) → w ≡ a + 256 * b + 65536 * c + 16777216 * d → a < 256 → b < 256 → c < 256 → d < 256
        → a ∷ b ∷ c ∷ d ∷ [] ≡ word_bytes w
    four_are w a b c d sum small_a small_b small_c small_d =
        let b0 : a ≡ w % 256 = omega (arith, sum, small_a) in
        let b1 : b ≡ w / 256 % 256 = omega (arith, sum, small_a, small_b) in
        let b2 : c ≡ w / 65536 % 256 = omega (arith, sum, small_a, small_b, small_c) in
        let b3 : d ≡ w / 16777216 % 256 = omega (arith, sum, small_a, small_b, small_c, small_d) in
        λ i. b0 i ∷ b1 i ∷ b2 i ∷ b3 i ∷ []
four_bytes code n (a ∷ b ∷ c ∷ d ∷ more ∷ rest) are long octets = absurd (omega (arith, long))

-- two bytes of a list of bytes are those of the halfword there
pub own_half : (code : List ℕ) (n : ℕ) → n + 2 ≤ length code → AreBytes code → bytes_from code n 2 ≡ half_bytes (half_in code n)
own_half code n le bytes = (two_bytes code n (bytes_from code n 2) refl (length-bytes_from code n 2 le) (take_are 2 (drop n code) (drop_are n code bytes))).1
