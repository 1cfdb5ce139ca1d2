-- What is fetched depends on the bytes of the text alone.
use Rattle.std.proofs.Common.{◌≡◌, ◌≢◌, ℕ, Some, sym, ◌+◌, ◌*◌, ◌≤◌, Bool, true, false, cond, refl, ap, ap₂, ◌∙◌, arith, eqb}
use Rattle.std.proofs.lemmas.Bool.{cond-true, cond-false, eq-eqb, ne_eqb}
use Rattle.std.specs.Option.{option_map}
use Rattle.rv_decode.specs.Bits.{field}
use Rattle.rv_decode.specs.Decode.{decoded}
use Rattle.rv_decode.specs.Memory.{is_text, extents_of, lies_in}
use Rattle.rv_decode.specs.State.{ZcCore, byte_in, half_at, word_at}
use Rattle.rv_decode.proofs.MemoryLaws.{lies_inside}
use Rattle.rv_decode.specs.declared.instr.Instr.{Instr}
use Rattle.zc_decode.specs.declared.short.Short.{Short}
use Rattle.zc_decode.specs.declared.short.Short.TheVariants.{Base}
use Rattle.zc_decode.specs.Halfwords.{decoded16}
use Rattle.zc_machine.specs.declared.reason.Reason.TheVariants.{BadAccess}
use Rattle.zc_machine.specs.Fetch.{Found, Missing, found, fetched_at, Fetched}

-- an instruction of four bytes
abbrev pub fetched_word : ZcCore → ℕ → Fetched
fetched_word z a = cond (lies_in is_text (extents_of z.memory) a 4) (found (option_map Base (decoded (word_at z a))) 4) (Missing BadAccess)

-- two machines with one text: their regions lie alike, and their bytes of code are the same
pub record SameText (y z : ZcCore) : Type 0 where
  pub extents : extents_of z.memory ≡ extents_of y.memory
  pub text : (a : ℕ) → lies_in is_text (extents_of y.memory) a 1 ≡ true → byte_in z a ≡ byte_in y a

pub SameText-refl : (z : ZcCore) → SameText z z
SameText-refl z = record { extents = refl; text = λ a _. refl }

module _ (y z : ZcCore) (same : SameText y z) where
  byte_same : (a n x : ℕ) → lies_in is_text (extents_of y.memory) a n ≡ true → a ≤ x → x + 1 ≤ a + n → byte_in z x ≡ byte_in y x
  byte_same a n x h low high = same.text x (lies_inside is_text (extents_of y.memory) a n x 1 h low high)

  half_same : (a : ℕ) → lies_in is_text (extents_of y.memory) a 2 ≡ true → half_at z a ≡ half_at y a
  half_same a h = ap₂ (λ b c. b + 256 * c) (byte_same a 2 a h (omega arith) (omega arith)) (byte_same a 2 (a + 1) h (omega arith) (omega arith))

  pub word_same : (a : ℕ) → lies_in is_text (extents_of y.memory) a 4 ≡ true → word_at z a ≡ word_at y a
  word_same a h =
      let e0 = byte_same a 4 a h (omega arith) (omega arith) in
      let e1 = byte_same a 4 (a + 1) h (omega arith) (omega arith) in
      let e2 = byte_same a 4 (a + 2) h (omega arith) (omega arith) in
      let e3 = byte_same a 4 (a + 3) h (omega arith) (omega arith) in
      omega (arith, e0, e1, e2, e3)

  fetched_word_same : (a : ℕ) → fetched_word z a ≡ fetched_word y a
  fetched_word_same a = ap (λ es. cond (lies_in is_text es a 4) (found (option_map Base (decoded (word_at z a))) 4) (Missing BadAccess)) same.extents ∙ either (lies_in is_text (extents_of y.memory) a 4) refl
    where
      either : (b : Bool) → lies_in is_text (extents_of y.memory) a 4 ≡ b → cond b (found (option_map Base (decoded (word_at z a))) 4) (Missing BadAccess) ≡ cond b (found (option_map Base (decoded (word_at y a))) 4) (Missing BadAccess)
      either true h = ap (λ w. found (option_map Base (decoded w)) 4) (word_same a h)
      either false h = refl

  pub fetched_same : (a : ℕ) → fetched_at z a ≡ fetched_at y a
  fetched_same a = ap (λ es. cond (lies_in is_text es a 2) (cond (eqb (field (half_at z a) 0 2) 3) (fetched_word z a) (found (decoded16 (half_at z a)) 2)) (Missing BadAccess)) same.extents ∙ either (lies_in is_text (extents_of y.memory) a 2) refl
    where
      half : half_at z a ≡ half_at y a → cond (eqb (field (half_at z a) 0 2) 3) (fetched_word z a) (found (decoded16 (half_at z a)) 2) ≡ cond (eqb (field (half_at y a) 0 2) 3) (fetched_word y a) (found (decoded16 (half_at y a)) 2)
      half e = rw (fetched_word_same a, e) refl

      either : (b : Bool) → lies_in is_text (extents_of y.memory) a 2 ≡ b → cond b (cond (eqb (field (half_at z a) 0 2) 3) (fetched_word z a) (found (decoded16 (half_at z a)) 2)) (Missing BadAccess) ≡ cond b (cond (eqb (field (half_at y a) 0 2) 3) (fetched_word y a) (found (decoded16 (half_at y a)) 2)) (Missing BadAccess)
      either true h = half (half_same a h)
      either false h = refl

-- ---- what is fetched from given bytes

-- a halfword of the tables
pub fetched_short : (z : ZcCore) (a half : ℕ) (s : Short) → lies_in is_text (extents_of z.memory) a 2 ≡ true → half_at z a ≡ half → field half 0 2 ≢ 3 → decoded16 half ≡ Some s → fetched_at z a ≡ Found s 2
fetched_short z a half s here is low d =
    let other : eqb (field (half_at z a) 0 2) 3 ≡ false = ne_eqb (field (half_at z a) 0 2) 3 (λ e. low (sym (ap (λ h. field h 0 2) is) ∙ e)) in
    cond-true (lies_in is_text (extents_of z.memory) a 2) _ _ here
    ∙ cond-false (eqb (field (half_at z a) 0 2) 3) _ _ other
    ∙ ap (λ h. found (decoded16 h) 2) is
    ∙ ap (λ o. found o 2) d

-- a word of the table
pub fetched_long : (z : ZcCore) (a word : ℕ) (i : Instr) → lies_in is_text (extents_of z.memory) a 4 ≡ true → word_at z a ≡ word → field (half_at z a) 0 2 ≡ 3 → decoded word ≡ Some i → fetched_at z a ≡ Found (Base i) 4
fetched_long z a word i here is low d =
    cond-true (lies_in is_text (extents_of z.memory) a 2) _ _ (lies_inside is_text (extents_of z.memory) a 4 a 2 here (omega arith) (omega arith))
    ∙ cond-true (eqb (field (half_at z a) 0 2) 3) _ _ (eq-eqb (field (half_at z a) 0 2) 3 low)
    ∙ cond-true (lies_in is_text (extents_of z.memory) a 4) _ _ here
    ∙ ap (λ w. found (option_map Base (decoded w)) 4) is
    ∙ ap (λ o. found (option_map Base o) 4) d
