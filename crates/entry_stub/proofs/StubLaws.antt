-- Three words in a row, as they are put into twelve bytes one after another.
use Rattle.std.proofs.Common.{◌≡◌, ℕ, zero, suc, ◌*◌, ◌/◌, ◌%◌, ◌^◌, ◌<◌, List, [], ◌∷◌, ◌++◌, get_or, slice_get, Some, refl, sym, ap, ◌∙◌, subst, arith, replicate}
use Rattle.zc_base.specs.Fields.{with_word, word_bytes, word_in}
use Rattle.rv_decode.specs.declared.instr.Instr.{Instr}
use Rattle.rv_decode.specs.Decode.{decoded}
use Rattle.entry_stub.specs.Stub.{AreWordsOf}

-- a word is read back from its own bytes, whatever follows
word_back : (v : ℕ) (rest : List ℕ) → v < 2 ^ 32 → word_in (word_bytes v ++ rest) 0 ≡ v
unfolding word_in
word_back v rest small = omega arith

byte_first : (b : ℕ) (rest : List ℕ) → b < 256 → ((k : ℕ) → get_or rest k 0 < 256) → (k : ℕ) → get_or (b ∷ rest) k 0 < 256
byte_first b rest small h zero = small
byte_first b rest small h (suc k) = h k

no_bytes : (k : ℕ) → get_or [] k 0 < 256
no_bytes k = omega arith

word_first : (v : ℕ) (rest : List ℕ) → ((k : ℕ) → get_or rest k 0 < 256) → (k : ℕ) → get_or (word_bytes v ++ rest) k 0 < 256
word_first v rest h =
    let third = v / 16777216 % 256 ∷ rest in
    let second = v / 65536 % 256 ∷ third in
    let first = v / 256 % 256 ∷ second in
    byte_first (v % 256) first (omega arith) (byte_first (v / 256 % 256) second (omega arith) (byte_first (v / 65536 % 256) third (omega arith) (byte_first (v / 16777216 % 256) rest (omega arith) h)))

module _ (a b c : ℕ) where
  words : List ℕ
  words = word_bytes a ++ (word_bytes b ++ (word_bytes c ++ []))

  put_one_by_one : with_word (with_word (with_word (replicate 12 0) 0 a) 4 b) 8 c ≡ words
  unfolding with_word words
  put_one_by_one = refl

  module _ (i j l : Instr) (small_a : a < 2 ^ 32) (small_b : b < 2 ^ 32) (small_c : c < 2 ^ 32) (is_a : decoded a ≡ Some i) (is_b : decoded b ≡ Some j) (is_c : decoded c ≡ Some l) where
    spell_each : (k : ℕ) → k < 3 → decoded (word_in words (4 * k)) ≡ slice_get (i ∷ j ∷ l ∷ []) k
    unfolding words word_in
    spell_each zero lt = ap decoded (word_back a (word_bytes b ++ (word_bytes c ++ [])) small_a) ∙ is_a
    spell_each (suc zero) lt = ap decoded (word_back b (word_bytes c ++ []) small_b) ∙ is_b
    spell_each (suc (suc zero)) lt = ap decoded (word_back c [] small_c) ∙ is_c
    spell_each (suc (suc (suc k))) lt = absurd (omega arith)

    three_words : AreWordsOf (i ∷ j ∷ l ∷ []) words
    unfolding words
    three_words = record {
      whole = refl;
      octets = word_first a (word_bytes b ++ (word_bytes c ++ [])) (word_first b (word_bytes c ++ []) (word_first c [] no_bytes));
      spell = spell_each;
    }

    -- three words that are put into twelve bytes
    pub spelled_one_by_one : (first second third : List ℕ) → first ≡ with_word (replicate 12 0) 0 a → second ≡ with_word first 4 b → third ≡ with_word second 8 c → AreWordsOf (i ∷ j ∷ l ∷ []) third
    spelled_one_by_one first second third one two three =
        let all : third ≡ words = three ∙ ap (λ bytes. with_word bytes 8 c) (two ∙ ap (λ bytes. with_word bytes 4 b) one) ∙ put_one_by_one in
        subst (AreWordsOf (i ∷ j ∷ l ∷ [])) (sym all) three_words
