-- A segment's first line spells its address, its size and its kind, and no other line does.
use Rattle.std.proofs.Common.{◌≡◌, ℕ, ◌^◌, ◌<◌, Some, None, Bool, true, false, cond, List, [], ◌∷◌, refl, sym, ap, ap₂, subst, ◌∙◌, arith, lit<}
use Rattle.std.specs.Prelude.{All, bytes_eq, codes}
use Rattle.std.specs.Fmt.{decimal}
use Rattle.std.specs.List.{join_with_byte}
use Rattle.std.specs.Option.{option_and_then, option_map}
use Rattle.std.proofs.lemmas.List.Elements.{All-cons, All-from_recursion, All-nil}
use Rattle.std.proofs.lemmas.List.Splits.{join_with_byte-slice_split}
use Rattle.std.proofs.lemmas.Option.{none-some, option_and_then_some, same_Some}
use Rattle.std.proofs.lemmas.Slice.Eq.{bytes_eq-Decides}
use Rattle.elf32_read.specs.Segments.{SegmentData}
use Rattle.text_lines.specs.Hex.{hex_word}
use Rattle.text_lines.specs.Lines.{words_of}
use Rattle.text_lines.specs.Number.{decimal_of, hex_word_of}
use Rattle.text_lines.proofs.HexLaws.{hex_word_of-Some, hex_word_of_is}
use Rattle.text_lines.proofs.NumberLaws.{decimal_of-Some, number_of_is}
use Rattle.text_lines.proofs.OptionLaws.{mapped, picked}
use Rattle.text_lines.proofs.PlainLaws.{IsLine, IsPlain, decimal_plain, joined_line, words_again}
use Rattle.zc_list.specs.Listing.{kind_word, segment_line}
use Rattle.zc_list.specs.Spelled.{empty_segment, kind_of_word, segment_of_words}
use Rattle.zc_list.proofs.ContentLaws.{word_plain}

kind_plain : (code : Bool) → IsPlain (kind_word code)
kind_plain true = All-from_recursion (λ b. 32 < b) (codes "code") (lit< tt, (lit< tt, (lit< tt, (lit< tt, tt))))
kind_plain false = All-from_recursion (λ b. 32 < b) (codes "data") (lit< tt, (lit< tt, (lit< tt, (lit< tt, tt))))

word_segment : IsPlain (codes "segment")
word_segment = All-from_recursion (λ b. 32 < b) (codes "segment") (lit< tt, (lit< tt, (lit< tt, (lit< tt, (lit< tt, (lit< tt, (lit< tt, tt)))))))

abbrev line_words : SegmentData → List (List ℕ)
line_words s = hex_word s.at ∷ (decimal s.size ∷ (kind_word s.code ∷ []))

words_plain : (s : SegmentData) → s.size < 2 ^ 32 → All IsPlain (codes "segment" ∷ line_words s)
words_plain s lt =
    All-cons IsPlain (codes "segment") (line_words s) word_segment
    (All-cons IsPlain (hex_word s.at) (decimal s.size ∷ (kind_word s.code ∷ [])) (word_plain s.at)
    (All-cons IsPlain (decimal s.size) (kind_word s.code ∷ []) (decimal_plain s.size (omega (arith, lt)))
    (All-cons IsPlain (kind_word s.code) [] (kind_plain s.code) (All-nil IsPlain))))

kind_back : (code : Bool) → kind_of_word (kind_word code) ≡ Some code
kind_back true = refl
kind_back false = refl

-- what a first line spells
pub segment_back : (s : SegmentData) → s.at < 2 ^ 32 → s.size < 2 ^ 32 → segment_of_words (words_of (segment_line s)) ≡ Some (empty_segment s.at s.size s.code)
unfolding segment_line
segment_back s at size =
    ap segment_of_words (words_again (codes "segment") (line_words s) (words_plain s size))
    ∙ ap (option_and_then (λ a. option_and_then (λ n. option_map (empty_segment a n) (kind_of_word (kind_word s.code))) (decimal_of 0xFFFF_FFFF (decimal s.size)))) (hex_word_of-Some s.at (hex_word s.at) at refl)
    ∙ ap (option_and_then (λ n. option_map (empty_segment s.at n) (kind_of_word (kind_word s.code)))) (decimal_of-Some 0xFFFF_FFFF s.size (decimal s.size) (lit< tt) (omega (arith, size)) refl)
    ∙ ap (option_map (empty_segment s.at s.size)) (kind_back s.code)

pub segment_is_line : (s : SegmentData) → s.size < 2 ^ 32 → IsLine (segment_line s)
unfolding segment_line
segment_is_line s size = joined_line (codes "segment" ∷ line_words s) (words_plain s size)

-- a first line isn't the end
pub segment_no_end : (s : SegmentData) → bytes_eq (segment_line s) (codes "end") ≡ false
unfolding segment_line
segment_no_end s = refl

kind_is : (word : List ℕ) (code : Bool) → kind_of_word word ≡ Some code → word ≡ kind_word code
kind_is word code found = first (bytes_eq word (codes "code")) refl found
  where
    second : (b : Bool) → bytes_eq word (codes "data") ≡ b → cond b (Some false) None ≡ Some code → word ≡ kind_word code
    second true is h = (bytes_eq-Decides word (codes "data")).0 is ∙ ap kind_word (same_Some false code h)
    second false is h = absurd (none-some code h)

    first : (b : Bool) → bytes_eq word (codes "code") ≡ b → cond b (Some true) (cond (bytes_eq word (codes "data")) (Some false) None) ≡ Some code → word ≡ kind_word code
    first true is h = (bytes_eq-Decides word (codes "code")).0 is ∙ ap kind_word (same_Some true code h)
    first false is h = second (bytes_eq word (codes "data")) refl h

-- a line that spells a segment is the segment's first line
pub record ReadSegment (line : List ℕ) (s : SegmentData) : Type 0 where
  pub spells : line ≡ segment_line s
  pub at : s.at < 2 ^ 32
  pub size : s.size < 2 ^ 32
  pub bytes : s.bytes ≡ []

words_are : (line : List ℕ) (words : List (List ℕ)) (s : SegmentData) → line ≡ join_with_byte 32 words → segment_of_words words ≡ Some s → ReadSegment line s
unfolding segment_line
words_are line [] s joined found = absurd (none-some s found)
words_are line (a ∷ []) s joined found = absurd (none-some s found)
words_are line (a ∷ (b ∷ [])) s joined found = absurd (none-some s found)
words_are line (a ∷ (b ∷ (c ∷ []))) s joined found = absurd (none-some s found)
words_are line (a ∷ (b ∷ (c ∷ (d ∷ (e ∷ rest))))) s joined found = absurd (none-some s found)
words_are line (first ∷ (at ∷ (size ∷ (kind ∷ [])))) s joined found =
    let parts = picked (bytes_eq first (codes "segment")) (option_and_then (λ a. option_and_then (λ n. option_map (empty_segment a n) (kind_of_word kind)) (decimal_of 0xFFFF_FFFF size)) (hex_word_of at)) s found in
    option_and_then_some (λ a. option_and_then (λ n. option_map (empty_segment a n) (kind_of_word kind)) (decimal_of 0xFFFF_FFFF size)) (hex_word_of at) s parts.1 (λ a one rest.
    option_and_then_some (λ n. option_map (empty_segment a n) (kind_of_word kind)) (decimal_of 0xFFFF_FFFF size) s rest (λ n two more.
    mapped (empty_segment a n) (kind_of_word kind) s more (λ code three same.
    let address = hex_word_of_is at a one in
    let count = number_of_is 0xFFFF_FFFF size n two in
    let P : SegmentData → Type 0 = ReadSegment line in
    subst P same (record {
      spells = joined ∙ ap₂ (λ f h. join_with_byte 32 (f ∷ (h ∷ (size ∷ (kind ∷ []))))) ((bytes_eq-Decides first (codes "segment")).0 parts.0) address.1
          ∙ ap₂ (λ d k. join_with_byte 32 (codes "segment" ∷ (hex_word a ∷ (d ∷ (k ∷ []))))) count.1 (kind_is kind code three);
      at = address.0;
      size = omega (arith, count.0);
      bytes = refl;
    }))))

pub segment_is : (line : List ℕ) (s : SegmentData) → segment_of_words (words_of line) ≡ Some s → ReadSegment line s
segment_is line s found = words_are line (words_of line) s (sym (join_with_byte-slice_split 32 line)) found
