-- What the lines of a certificate are read as, and that only these lines are read so.
use Rattle.std.proofs.Common.{◌≡◌, ℕ, ◌+◌, ◌^◌, ◌<◌, ◌≤◌, Some, None, true, false, Option, List, [], ◌∷◌, ◌++◌, map, length, get_or, drop, refl, ap, ap₂, sym, subst, ◌∙◌, append_assoc, Bor, eqb}
use Rattle.std.specs.Prelude.{All, bytes_eq, codes, slice_index}
use Rattle.std.specs.Fmt.{decimal}
use Rattle.std.specs.List.{join_with_byte}
use Rattle.std.specs.Option.{is_some, option_and_then, option_copied, option_map}
use Rattle.std.proofs.lemmas.Bool.{cond-false, cond-true, false≢true}
use Rattle.std.proofs.lemmas.List.{drop_all, drop_more}
use Rattle.std.proofs.lemmas.List.Elements.{All-head, All-tail}
use Rattle.std.proofs.lemmas.List.Splits.{join_with_byte-slice_split}
use Rattle.std.proofs.lemmas.Option.{none-some, option_and_then_some, same_Some}
use Rattle.std.proofs.lemmas.Slice.Eq.{bytes_eq-Decides}
use Rattle.text_lines.specs.Lines.{words_in, words_of}
use Rattle.text_lines.specs.Number.{decimal_of}
use Rattle.text_lines.proofs.NumberLaws.{decimal_of-Some, number_of_is}
use Rattle.text_lines.proofs.OptionLaws.{mapped, picked}
use Rattle.text_lines.proofs.PlainLaws.{IsLine, IsPlain}
use Rattle.text_lines.proofs.SplitLaws.{some_part}
use Rattle.pick_check.specs.declared.saving.Saving.{Saving}
use Rattle.pick_check.specs.Text.{AreWithin, FitsSaving, FitsSlot, line_with, net_limits, net_line, net_in_line, numbers_behind, numbers_in, numbers_of, only, price_limits, price_line, prices_in_line, saving_limits, saving_line, saving_numbers, saving_in_line, saving_with, slot_limits, slot_line, slot_in_line}
use Rattle.pick_check.proofs.PlainLaws.{line_plain, net_plain, net_small, price_plain, price_small, saving_plain, saving_small, slot_plain, slot_small, within_small, words_back}

-- ---- numbers

ReadNumbers : List ℕ → List (List ℕ) → List ℕ → Type 0
ReadNumbers limits words ns = (words ≡ map decimal ns) × AreWithin limits ns

numbers_are : (limits : List ℕ) (words : List (List ℕ)) (ns : List ℕ) → numbers_of limits words ≡ Some ns → (words ≡ map decimal ns) × AreWithin limits ns
unfolding ReadNumbers
numbers_are [] [] ns is = subst (ReadNumbers [] []) (same_Some [] ns is) (refl, tt)
numbers_are [] (word ∷ words) ns is = absurd (none-some ns is)
numbers_are (limit ∷ limits) [] ns is = absurd (none-some ns is)
numbers_are (limit ∷ limits) (word ∷ words) ns is =
    option_and_then_some (λ n. option_map (λ more. n ∷ more) (numbers_of limits words)) (decimal_of limit word) ns is (λ n first rest.
    mapped (λ more. n ∷ more) (numbers_of limits words) ns rest (λ more others same.
    let here = number_of_is limit word n first in
    let there = numbers_are limits words more others in
    subst (ReadNumbers (limit ∷ limits) (word ∷ words)) same (ap₂ (λ w ws. w ∷ ws) here.1 there.0, (here.0, there.1))))

numbers_back : (limits ns : List ℕ) → All (λ limit. limit < 2 ^ 64) limits → AreWithin limits ns → numbers_of limits (map decimal ns) ≡ Some ns
numbers_back [] [] small within = refl
numbers_back [] (n ∷ ns) small within = absurd within
numbers_back (limit ∷ limits) [] small within = absurd within
numbers_back (limit ∷ limits) (n ∷ ns) small within =
    ap (option_and_then (λ m. option_map (λ more. m ∷ more) (numbers_of limits (map decimal ns)))) (decimal_of-Some limit n (decimal n) (All-head (λ limit. limit < 2 ^ 64) limit limits small) within.0 refl)
    ∙ ap (option_map (λ more. n ∷ more)) (numbers_back limits ns (All-tail (λ limit. limit < 2 ^ 64) limit limits small) within.1)

behind_are : (name limits : List ℕ) (words : List (List ℕ)) (ns : List ℕ) → numbers_behind name limits words ≡ Some ns → (words ≡ name ∷ map decimal ns) × AreWithin limits ns
behind_are name limits [] ns is = absurd (none-some ns is)
behind_are name limits (first ∷ words) ns is =
    let parts = picked (bytes_eq first name) (numbers_of limits words) ns is in
    let others = numbers_are limits words ns parts.1 in
    (ap₂ (λ w ws. w ∷ ws) ((bytes_eq-Decides first name).0 parts.0) others.0, others.1)

-- ---- a line with a name

pub line_read : (name limits line ns : List ℕ) → numbers_in name limits line ≡ Some ns → (line ≡ line_with name ns) × AreWithin limits ns
unfolding numbers_in
line_read name limits line ns is =
    let parts = behind_are name limits (words_of line) ns is in
    (sym (join_with_byte-slice_split 32 line) ∙ ap (join_with_byte 32) parts.0, parts.1)

pub line_back : (name limits ns : List ℕ) → IsPlain name → All (λ limit. limit < 2 ^ 64) limits → AreWithin limits ns → numbers_in name limits (line_with name ns) ≡ Some ns
unfolding numbers_in
line_back name limits ns plain small within =
    ap (numbers_behind name limits) (words_back name ns plain (within_small limits ns small within))
    ∙ cond-true (bytes_eq name name) (numbers_of limits (map decimal ns)) None ((bytes_eq-Decides name name).1 refl)
    ∙ numbers_back limits ns small within

-- a line with another name
line_other : (name limits other ns : List ℕ) → IsPlain other → All (λ n. n < 2 ^ 64) ns → bytes_eq other name ≡ false → numbers_in name limits (line_with other ns) ≡ None
unfolding numbers_in
line_other name limits other ns plain small differs =
    ap (numbers_behind name limits) (words_back other ns plain small)
    ∙ cond-false (bytes_eq other name) (numbers_of limits (map decimal ns)) None differs

-- ---- the four lines with names

-- the saving that five numbers make has these numbers
saving_numbers_with : (ns : List ℕ) → AreWithin saving_limits ns → saving_numbers (saving_with ns) ≡ ns
saving_numbers_with [] within = absurd within
saving_numbers_with (a ∷ []) within = absurd within.1
saving_numbers_with (a ∷ (b ∷ [])) within = absurd within.1.1
saving_numbers_with (a ∷ (b ∷ (c ∷ []))) within = absurd within.1.1.1
saving_numbers_with (a ∷ (b ∷ (c ∷ (d ∷ [])))) within = absurd within.1.1.1.1
saving_numbers_with (a ∷ (b ∷ (c ∷ (d ∷ (e ∷ []))))) within = refl
saving_numbers_with (a ∷ (b ∷ (c ∷ (d ∷ (e ∷ (f ∷ ns)))))) within = absurd within.1.1.1.1.1

ReadSaving : List ℕ → Saving → Type 0
ReadSaving line s = (line ≡ saving_line s) × FitsSaving s

pub saving_read : (line : List ℕ) (s : Saving) → saving_in_line line ≡ Some s → (line ≡ saving_line s) × FitsSaving s
unfolding ReadSaving
saving_read line s is =
    mapped saving_with (numbers_in (codes "saving") saving_limits line) s is (λ ns numbers same.
    let parts = line_read (codes "saving") saving_limits line ns numbers in
    let five = saving_numbers_with ns parts.1 in
    subst (ReadSaving line) same (parts.0 ∙ ap (line_with (codes "saving")) (sym five), subst (AreWithin saving_limits) (sym five) parts.1))

pub saving_back : (s : Saving) → FitsSaving s → saving_in_line (saving_line s) ≡ Some s
saving_back s fits = ap (option_map saving_with) (line_back (codes "saving") saving_limits (saving_numbers s) saving_plain saving_small fits)

-- a list of one number
alone : (limit : ℕ) (ns : List ℕ) → AreWithin (limit ∷ []) ns → slice_index ns 0 ∷ [] ≡ ns
alone limit [] within = absurd within
alone limit (n ∷ []) within = refl
alone limit (n ∷ (m ∷ ns)) within = absurd within.1

ReadOne : List ℕ → ℕ → List ℕ → ℕ → Type 0
ReadOne name limit line n = (line ≡ line_with name (n ∷ [])) × AreWithin (limit ∷ []) (n ∷ [])

one_read : (name : List ℕ) (limit : ℕ) (line : List ℕ) (n : ℕ) → option_map (λ ns. slice_index ns 0) (numbers_in name (limit ∷ []) line) ≡ Some n → (line ≡ line_with name (n ∷ [])) × AreWithin (limit ∷ []) (n ∷ [])
unfolding ReadOne
one_read name limit line n is =
    mapped (λ ns. slice_index ns 0) (numbers_in name (limit ∷ []) line) n is (λ ns numbers same.
    let parts = line_read name (limit ∷ []) line ns numbers in
    let one = alone limit ns parts.1 in
    subst (ReadOne name limit line) same (parts.0 ∙ ap (line_with name) (sym one), subst (AreWithin (limit ∷ [])) (sym one) parts.1))

pub slot_read : (line : List ℕ) (slot : ℕ) → slot_in_line line ≡ Some slot → (line ≡ slot_line slot) × FitsSlot slot
slot_read line slot is = one_read (codes "slot") 0xFFFF_FFFF line slot is

pub slot_back : (slot : ℕ) → FitsSlot slot → slot_in_line (slot_line slot) ≡ Some slot
slot_back slot fits = ap (option_map (λ ns. slice_index ns 0)) (line_back (codes "slot") slot_limits (slot ∷ []) slot_plain slot_small fits)

pub prices_read : (line prices : List ℕ) → prices_in_line line ≡ Some prices → (line ≡ price_line prices) × AreWithin price_limits prices
prices_read line prices is = line_read (codes "price") price_limits line prices is

pub prices_back : (prices : List ℕ) → AreWithin price_limits prices → prices_in_line (price_line prices) ≡ Some prices
prices_back prices fits = line_back (codes "price") price_limits prices price_plain price_small fits

pub net_read : (line : List ℕ) (net : ℕ) → net_in_line line ≡ Some net → (line ≡ net_line net) × AreWithin net_limits (net ∷ [])
net_read line net is = one_read (codes "net") 0xFFFF_FFFF_FFFF_FFFF line net is

pub net_back : (net : ℕ) → AreWithin net_limits (net ∷ []) → net_in_line (net_line net) ≡ Some net
net_back net fits = ap (option_map (λ ns. slice_index ns 0)) (line_back (codes "net") net_limits (net ∷ []) net_plain net_small fits)

-- a line alone
pub only_is : (wanted line x : List ℕ) → only wanted line ≡ Some x → line ≡ wanted
only_is wanted line x is = (bytes_eq-Decides line wanted).0 (picked (bytes_eq line wanted) (Some line) x is).0

-- ---- a line of one kind isn't a line of another kind

pub slot_no_saving : (slot : ℕ) → FitsSlot slot → saving_in_line (slot_line slot) ≡ None
slot_no_saving slot fits =
    ap (option_map saving_with) (line_other (codes "saving") saving_limits (codes "slot") (slot ∷ []) slot_plain (within_small slot_limits (slot ∷ []) slot_small fits) refl)

pub price_no_saving : (prices : List ℕ) → AreWithin price_limits prices → saving_in_line (price_line prices) ≡ None
price_no_saving prices fits =
    ap (option_map saving_with) (line_other (codes "saving") saving_limits (codes "price") prices price_plain (within_small price_limits prices price_small fits) refl)

pub price_no_slot : (prices : List ℕ) → AreWithin price_limits prices → slot_in_line (price_line prices) ≡ None
price_no_slot prices fits =
    ap (option_map (λ ns. slice_index ns 0)) (line_other (codes "slot") slot_limits (codes "price") prices price_plain (within_small price_limits prices price_small fits) refl)

-- ---- no line has a line feed

pub saving_is_line : (s : Saving) → FitsSaving s → IsLine (saving_line s)
saving_is_line s fits = line_plain (codes "saving") (saving_numbers s) saving_plain (within_small saving_limits (saving_numbers s) saving_small fits)

pub slot_is_line : (slot : ℕ) → FitsSlot slot → IsLine (slot_line slot)
slot_is_line slot fits = line_plain (codes "slot") (slot ∷ []) slot_plain (within_small slot_limits (slot ∷ []) slot_small fits)

pub price_is_line : (prices : List ℕ) → AreWithin price_limits prices → IsLine (price_line prices)
price_is_line prices fits = line_plain (codes "price") prices price_plain (within_small price_limits prices price_small fits)

pub net_is_line : (net : ℕ) → AreWithin net_limits (net ∷ []) → IsLine (net_line net)
net_is_line net fits = line_plain (codes "net") (net ∷ []) net_plain (within_small net_limits (net ∷ []) net_small fits)

-- ---- a line's words are read from the first on: the numbers so far, followed by what the other words spell

pub numbers_named : (name limits line first : List ℕ) (words : List (List ℕ)) → words_of line ≡ first ∷ words → bytes_eq first name ≡ true → numbers_in name limits line ≡ numbers_of limits words
unfolding numbers_in
numbers_named name limits line first words is same = ap (numbers_behind name limits) is ∙ cond-true (bytes_eq first name) (numbers_of limits words) None same

pub other_name : (name limits line first : List ℕ) (words : List (List ℕ)) → words_of line ≡ first ∷ words → bytes_eq first name ≡ false → numbers_in name limits line ≡ None
unfolding numbers_in
other_name name limits line first words is differs = ap (numbers_behind name limits) is ∙ cond-false (bytes_eq first name) (numbers_of limits words) None differs

module _ (limits : List ℕ) (k : ℕ) where
  pub no_word : k < length limits → numbers_of (drop k limits) [] ≡ None
  no_word lt = ap (λ ls. numbers_of ls []) (drop_more limits k 0 lt)

  here : (word : List ℕ) (words : List (List ℕ)) → k < length limits → numbers_of (drop k limits) (word ∷ words) ≡ option_and_then (λ n. option_map (λ ns. n ∷ ns) (numbers_of (drop (k + 1) limits) words)) (decimal_of (get_or limits k 0) word)
  here word words lt = ap (λ ls. numbers_of ls (word ∷ words)) (drop_more limits k 0 lt)

  pub no_number : (word : List ℕ) (words : List (List ℕ)) → k < length limits → decimal_of (get_or limits k 0) word ≡ None → numbers_of (drop k limits) (word ∷ words) ≡ None
  no_number word words lt bad = here word words lt ∙ ap (option_and_then (λ n. option_map (λ ns. n ∷ ns) (numbers_of (drop (k + 1) limits) words))) bad

  pub one_number : (word : List ℕ) (words : List (List ℕ)) (n : ℕ) → k < length limits → decimal_of (get_or limits k 0) word ≡ Some n → numbers_of (drop k limits) (word ∷ words) ≡ option_map (λ ns. n ∷ ns) (numbers_of (drop (k + 1) limits) words)
  one_number word words n lt good = here word words lt ∙ ap (option_and_then (λ m. option_map (λ ns. m ∷ ns) (numbers_of (drop (k + 1) limits) words))) good

  pub words_left : (word : List ℕ) (words : List (List ℕ)) → length limits ≤ k → numbers_of (drop k limits) (word ∷ words) ≡ None
  words_left word words past = ap (λ ls. numbers_of ls (word ∷ words)) (drop_all k limits past)

  pub none_left : length limits ≤ k → numbers_of (drop k limits) [] ≡ Some []
  none_left past = ap (λ ls. numbers_of ls []) (drop_all k limits past)

-- the numbers so far, before others
abbrev pub with_numbers : List ℕ → Option (List ℕ) → Option (List ℕ)
with_numbers ns others = option_map (λ more. ns ++ more) others

pub one_more : (ns : List ℕ) (n : ℕ) (others : Option (List ℕ)) → with_numbers ns (option_map (λ more. n ∷ more) others) ≡ with_numbers (ns ++ n ∷ []) others
one_more ns n None = refl
one_more ns n (Some more) = ap Some (sym (append_assoc ns (n ∷ []) more))

pub with_none : (others : Option (List ℕ)) → with_numbers [] others ≡ others
with_none None = refl
with_none (Some more) = refl

-- after the last limit, words are left, or no word is left
pub some_words : (limits : List ℕ) (k : ℕ) (o : Option (Bor (List ℕ))) → length limits ≤ k → true ≡ is_some o → numbers_of (drop k limits) (words_in (option_copied o)) ≡ None
some_words limits k None past is = absurd (false≢true (sym is))
some_words limits k (Some x) past is =
    let parts = some_part (λ b. eqb b 32) x.now in
    ap (numbers_of (drop k limits)) parts.2 ∙ words_left limits k parts.0 parts.1 past

pub no_words : (limits : List ℕ) (k : ℕ) (o : Option (Bor (List ℕ))) → length limits ≤ k → false ≡ is_some o → numbers_of (drop k limits) (words_in (option_copied o)) ≡ Some []
no_words limits k None past is = none_left limits k past
no_words limits k (Some x) past is = absurd (false≢true is)
