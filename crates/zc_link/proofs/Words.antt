-- Words that stand for numbers: a number stands for itself alone, an undefined word for any; and a result of numbers or a sum that
-- the symbolic machine has stands for the machine's, and names no other places.
use Rattle.std.specs.Option.{option_map_or}
use Rattle.std.proofs.Common.{eqb, ◌≡◌, ℕ, ◌+◌, ◌*◌, ◌^◌, ◌<◌, Option, Some, None, Bool, true, false, cond, refl, sym, subst, arith, ℤ, pos, negsuc}
use Rattle.std.proofs.lemmas.Bool.{eqb-true}
use Rattle.zc_base.specs.declared.place.Place.{Place}
use Rattle.rv_decode.specs.Bits.{add32}
use Rattle.rv_decode.specs.Memory.{byte_of}
use Rattle.sym_machine.specs.declared.word.Value.{Value}
use Rattle.sym_machine.specs.declared.word.SymByte.{SymByte}
use Rattle.sym_machine.specs.declared.word.SymByte.TheVariants.{Num, Part, Undef}
use Rattle.sym_machine.specs.declared.word.SymWord.{SymWord}
use Rattle.sym_machine.specs.Words.{code_or, number_of, number_of_bytes, number_word, numeric, sum_word, undef_word}
use Rattle.zc_link.specs.Sound.{NamesWord}
use Rattle.zc_link.specs.Stands.{ByteStands, WordStands}

module _ (V : Value → Option ℕ) where
  -- ---- numbers and undefined words

  pub number_stands : (n : ℕ) → WordStands V (number_word n) n
  number_stands n = record { b0 = refl; b1 = refl; b2 = refl; b3 = refl }

  pub undef_stands : (n : ℕ) → WordStands V undef_word n
  undef_stands n = record { b0 = tt; b1 = tt; b2 = tt; b3 = tt }

  four_bytes :
      (n a b c d : ℕ) → n < 2 ^ 32 → byte_of n 0 ≡ a → byte_of n 1 ≡ b → byte_of n 2 ≡ c → byte_of n 3 ≡ d
      → a + 256 * b + 65536 * c + 16777216 * d ≡ n
  four_bytes n a b c d small first second third fourth = omega arith

  bytes_are :
      (b0 b1 b2 b3 : SymByte) (n m : ℕ) → n < 2 ^ 32 → ByteStands V b0 (byte_of n 0) → ByteStands V b1 (byte_of n 1) → ByteStands V b2 (byte_of n 2)
      → ByteStands V b3 (byte_of n 3) → number_of_bytes b0 b1 b2 b3 ≡ Some m → m ≡ n
  bytes_are (Num a) (Num b) (Num c) (Num d) n m small h0 h1 h2 h3 is =
      let sum : a + 256 * b + 65536 * c + 16777216 * d ≡ n = four_bytes n a b c d small h0 h1 h2 h3 in
      cc
  bytes_are (Num a) (Num b) (Num c) (Part v i) n m small h0 h1 h2 h3 is = cc
  bytes_are (Num a) (Num b) (Num c) Undef n m small h0 h1 h2 h3 is = cc
  bytes_are (Num a) (Num b) (Part v i) b3 n m small h0 h1 h2 h3 is = cc
  bytes_are (Num a) (Num b) Undef b3 n m small h0 h1 h2 h3 is = cc
  bytes_are (Num a) (Part v i) b2 b3 n m small h0 h1 h2 h3 is = cc
  bytes_are (Num a) Undef b2 b3 n m small h0 h1 h2 h3 is = cc
  bytes_are (Part v i) b1 b2 b3 n m small h0 h1 h2 h3 is = cc
  bytes_are Undef b1 b2 b3 n m small h0 h1 h2 h3 is = cc

  -- a word that is a number stands for that number alone
  pub number_is : (w : SymWord) (n m : ℕ) → n < 2 ^ 32 → WordStands V w n → number_of w ≡ Some m → m ≡ n
  number_is w n m small h is = bytes_are w.b0 w.b1 w.b2 w.b3 n m small h.b0 h.b1 h.b2 h.b3 is

  -- ---- results

  numeric_stands : (o : Option ℕ) (f : ℕ → ℕ) (n : ℕ) → ((m : ℕ) → o ≡ Some m → m ≡ n) → WordStands V (numeric o f) (f n)
  numeric_stands None f n is = undef_stands (f n)
  numeric_stands (Some m) f n is = subst (λ k. WordStands V (number_word (f m)) (f k)) (is m refl) (number_stands (f m))

  pub number_results :
      (w : SymWord) (f : ℕ → ℕ) (n : ℕ) → n < 2 ^ 32 → WordStands V w n → WordStands V (numeric (number_of w) f) (f n)
  number_results w f n small h = numeric_stands (number_of w) f n (λ m is. number_is w n m small h is)

  numeric2_stands :
      (o u : Option ℕ) (f : ℕ → ℕ → ℕ) (m n : ℕ) → ((k : ℕ) → o ≡ Some k → k ≡ m) → ((k : ℕ) → u ≡ Some k → k ≡ n)
      → WordStands V (option_map_or (λ k. option_map_or (λ l. number_word (f k l)) u undef_word) o undef_word) (f m n)
  numeric2_stands None None f m n left right = undef_stands (f m n)
  numeric2_stands None (Some l) f m n left right = undef_stands (f m n)
  numeric2_stands (Some k) None f m n left right = undef_stands (f m n)
  numeric2_stands (Some k) (Some l) f m n left right = rw (sym (left k refl), sym (right l refl)) (number_stands (f k l))

  pub number_results2 :
      (a b : SymWord) (f : ℕ → ℕ → ℕ) (m n : ℕ) → m < 2 ^ 32 → n < 2 ^ 32 → WordStands V a m → WordStands V b n
      → WordStands V (option_map_or (λ k. option_map_or (λ l. number_word (f k l)) (number_of b) undef_word) (number_of a) undef_word) (f m n)
  number_results2 a b f m n small_m small_n ha hb =
      numeric2_stands (number_of a) (number_of b) f m n (λ k is. number_is a m k small_m ha is) (λ k is. number_is b n k small_n hb is)

  -- a number that is known if there is a place, and else a word
  pub code_or_stands :
      (o : Option Place) (k : ℕ) (w : SymWord) (n : ℕ) → ((q : Place) → o ≡ Some q → n ≡ k) → WordStands V w n → WordStands V (code_or o k w) n
  code_or_stands None k w n is h = h
  code_or_stands (Some q) k w n is h = rw (is q refl) (number_stands k)

  -- ---- sums with an immediate

  pub sum_stands : (w : SymWord) (imm : ℤ) (n : ℕ) → n < 2 ^ 32 → WordStands V w n → WordStands V (sum_word w imm) (add32 n imm)
  sum_stands w (pos k) n small h = either (eqb k 0) refl
    where
      either : (b : Bool) → eqb k 0 ≡ b → WordStands V (cond b w (numeric (number_of w) (λ m. add32 m (pos k)))) (add32 n (pos k))
      either true is =
          let zero : k ≡ 0 = eqb-true k 0 is in
          let same : add32 n (pos k) ≡ n = omega arith in
          rw same h
      either false other = number_results w (λ m. add32 m (pos k)) n small h
  sum_stands w (negsuc k) n small h = number_results w (λ m. add32 m (negsuc k)) n small h

-- ---- the places that words name

module _ (Named : Place → Type 0) where
  pub number_names : (n : ℕ) → NamesWord Named (number_word n)
  number_names n = (tt, tt, tt, tt)

  pub undef_names : NamesWord Named undef_word
  undef_names = (tt, tt, tt, tt)

  pub numeric_names : (o : Option ℕ) (f : ℕ → ℕ) → NamesWord Named (numeric o f)
  numeric_names None f = undef_names
  numeric_names (Some n) f = number_names (f n)

  pub numeric2_names : (o u : Option ℕ) (f : ℕ → ℕ → ℕ) → NamesWord Named (option_map_or (λ k. option_map_or (λ l. number_word (f k l)) u undef_word) o undef_word)
  numeric2_names None None f = undef_names
  numeric2_names None (Some l) f = undef_names
  numeric2_names (Some k) None f = undef_names
  numeric2_names (Some k) (Some l) f = number_names (f k l)

  pub code_or_names : (o : Option Place) (k : ℕ) (w : SymWord) → NamesWord Named w → NamesWord Named (code_or o k w)
  code_or_names None k w names = names
  code_or_names (Some q) k w names = number_names k

  -- a sum is a copy, or it names none
  pub sum_names : (w : SymWord) (imm : ℤ) → NamesWord Named w → NamesWord Named (sum_word w imm)
  sum_names w (pos k) names = either (eqb k 0)
    where
      either : (b : Bool) → NamesWord Named (cond b w (numeric (number_of w) (λ n. add32 n (pos k))))
      either true = names
      either false = numeric_names (number_of w) (λ n. add32 n (pos k))
  sum_names w (negsuc k) names = numeric_names (number_of w) (λ n. add32 n (negsuc k))
