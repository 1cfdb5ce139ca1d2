-- What an access reaches is what memory holds there: bytes, halfwords and words, a load, and an instruction.
use Rattle.std.proofs.Common.{◌≡◌, ℕ, ◌+◌, ◌*◌, ◌%◌, ◌<◌, ◌≤◌, List, [], ◌∷◌, length, Bool, true, false, cond, eqb, Option, Some, None, refl, sym, ap, ap₂, ◌∙◌, arith}
use Rattle.std.specs.Option.{option_map}
use Rattle.std.proofs.lemmas.Bool.{cond-false, cond-true, le-leb, lt-leb}
use Rattle.rv_decode.specs.Bits.{field}
use Rattle.rv_decode.specs.Decode.{decoded}
use Rattle.rv_decode.specs.Effect.{extended, load_result, load_width}
use Rattle.rv_decode.specs.Memory.{extents_of, is_data, is_text, lies_in}
use Rattle.rv_decode.specs.State.{ZcCore, byte_in, half_at, word_at}
use Rattle.rv_decode.specs.declared.instr.LoadOp.{LoadOp}
use Rattle.rv_decode.specs.declared.instr.LoadOp.TheVariants.{Lb, Lh, Lw, Lbu, Lhu}
use Rattle.zc_decode.specs.Halfwords.{decoded16}
use Rattle.zc_decode.specs.declared.short.Short.TheVariants.{Base}
use Rattle.zc_machine.specs.Cells.{first_byte, first_half, first_word, half_spells, instruction, loaded, word_spells}
use Rattle.zc_machine.specs.Fetch.{Fetched, Missing, fetched_at, found}
use Rattle.zc_machine.proofs.FetchLaws.{fetched_word}
use Rattle.zc_machine.specs.Memory.{Reaches, most_at_once}
use Rattle.zc_machine.specs.Region.{allowed}
use Rattle.zc_machine.specs.declared.reason.Reason.TheVariants.{BadAccess}
use Rattle.zc_machine.specs.declared.region.AccessKind.{AccessKind}
use Rattle.zc_machine.specs.declared.region.AccessKind.TheVariants as access

module _ (way : AccessKind) (z : ZcCore) (a : ℕ) where
  -- what memory gives of n bytes there, if they lie in it
  abbrev pub held : ℕ → ℕ → Option ℕ
  held n value = cond (lies_in (allowed way) (extents_of z.memory) a n) (Some value) None

  few : (n value : ℕ) (cells : List ℕ) → Reaches way z.memory a cells → n ≤ most_at_once way a → length cells < n → None ≡ held n value
  few n value cells reach room past = sym (cond-false _ (Some value) None (reach.lies n (omega arith) room ∙ lt-leb n (length cells) past))

  enough : (n value given : ℕ) (cells : List ℕ) → Reaches way z.memory a cells → 0 < n → n ≤ length cells → given ≡ value → Some given ≡ held n value
  enough n value given cells reach some within is =
      ap Some is ∙ sym (cond-true _ (Some value) None (reach.lies n some (omega (arith, within, reach.within)) ∙ le-leb n (length cells) within))

  first : (x : ℕ) (rest : List ℕ) → Reaches way z.memory a (x ∷ rest) → x ≡ byte_in z a
  first x rest reach = let here : a + 0 ≡ a = omega arith in sym (reach.holds 0 (omega arith)) ∙ ap (byte_in z) here

  reach_byte : (cells : List ℕ) → Reaches way z.memory a cells → 1 ≤ most_at_once way a → first_byte cells ≡ held 1 (byte_in z a)
  reach_byte [] reach room = few 1 (byte_in z a) [] reach room (omega arith)
  reach_byte (x ∷ rest) reach room = enough 1 (byte_in z a) x (x ∷ rest) reach (omega arith) (omega arith) (first x rest reach)

  reach_half : (cells : List ℕ) → Reaches way z.memory a cells → 2 ≤ most_at_once way a → first_half cells ≡ held 2 (half_at z a)
  reach_half [] reach room = few 2 (half_at z a) [] reach room (omega arith)
  reach_half (x ∷ []) reach room = few 2 (half_at z a) (x ∷ []) reach room (omega arith)
  reach_half (x ∷ y ∷ rest) reach room =
      enough 2 (half_at z a) (x + 256 * y) (x ∷ y ∷ rest) reach (omega arith) (omega arith) (ap₂ (λ b c. b + 256 * c) (first x (y ∷ rest) reach) (sym (reach.holds 1 (omega arith))))

  pub reach_word : (cells : List ℕ) → Reaches way z.memory a cells → 4 ≤ most_at_once way a → first_word cells ≡ held 4 (word_at z a)
  reach_word [] reach room = few 4 (word_at z a) [] reach room (omega arith)
  reach_word (x ∷ []) reach room = few 4 (word_at z a) (x ∷ []) reach room (omega arith)
  reach_word (x ∷ y ∷ []) reach room = few 4 (word_at z a) (x ∷ y ∷ []) reach room (omega arith)
  reach_word (x ∷ y ∷ v ∷ []) reach room = few 4 (word_at z a) (x ∷ y ∷ v ∷ []) reach room (omega arith)
  reach_word (x ∷ y ∷ v ∷ w ∷ rest) reach room =
      let is : x + 256 * y + 65536 * v + 16777216 * w ≡ word_at z a = omega (arith, first x (y ∷ v ∷ w ∷ rest) reach, reach.holds 1 (omega arith), reach.holds 2 (omega arith), reach.holds 3 (omega arith)) in
      enough 4 (word_at z a) (x + 256 * y + 65536 * v + 16777216 * w) (x ∷ y ∷ v ∷ w ∷ rest) reach (omega arith) (omega arith) is

-- ---- a load

-- what a load makes of a number that may be there
option_map-cond : (f : ℕ → ℕ) (b : Bool) (x : ℕ) → option_map f (cond b (Some x) None) ≡ cond b (Some (f x)) None
option_map-cond f true x = refl
option_map-cond f false x = refl

pub reach_loaded :
    (z : ZcCore) (a : ℕ) (op : LoadOp) (cells : List ℕ) → Reaches access.Data z.memory a cells → a % load_width op ≡ 0
    → loaded op cells ≡ cond (lies_in is_data (extents_of z.memory) a (load_width op)) (Some (load_result op z a)) None
reach_loaded z a Lb cells reach aligned = ap (option_map (extended 8)) (reach_byte access.Data z a cells reach (omega arith)) ∙ option_map-cond (extended 8) _ (byte_in z a)
reach_loaded z a Lh cells reach aligned =
    ap (option_map (extended 16)) (reach_half access.Data z a cells reach (omega (arith, aligned))) ∙ option_map-cond (extended 16) _ (half_at z a)
reach_loaded z a Lw cells reach aligned = reach_word access.Data z a cells reach (omega (arith, aligned))
reach_loaded z a Lbu cells reach aligned = reach_byte access.Data z a cells reach (omega arith)
reach_loaded z a Lhu cells reach aligned = reach_half access.Data z a cells reach (omega (arith, aligned))

-- ---- an instruction

module _ (z : ZcCore) (a : ℕ) (cells : List ℕ) (reach : Reaches access.Fetch z.memory a cells) where
  word_fetched : word_spells (first_word cells) ≡ fetched_word z a
  word_fetched = ap word_spells (reach_word access.Fetch z a cells reach (omega arith)) ∙ either (lies_in is_text (extents_of z.memory) a 4)
    where
      either : (b : Bool) → word_spells (cond b (Some (word_at z a)) None) ≡ cond b (found (option_map Base (decoded (word_at z a))) 4) (Missing BadAccess)
      either true = refl
      either false = refl

  pub reach_fetched : instruction cells ≡ fetched_at z a
  reach_fetched = ap (λ h. half_spells h cells) (reach_half access.Fetch z a cells reach (omega arith)) ∙ either (lies_in is_text (extents_of z.memory) a 2)
    where
      either :
          (b : Bool) → half_spells (cond b (Some (half_at z a)) None) cells
          ≡ cond b (cond (eqb (field (half_at z a) 0 2) 3) (fetched_word z a) (found (decoded16 (half_at z a)) 2)) (Missing BadAccess)
      either true = ap (λ (f : Fetched). cond (eqb (field (half_at z a) 0 2) 3) f (found (decoded16 (half_at z a)) 2)) word_fetched
      either false = refl
