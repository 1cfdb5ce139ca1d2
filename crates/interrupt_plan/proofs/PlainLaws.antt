-- No word of a plan holds a space or a line feed, so its lines and words are found again.
use Rattle.std.proofs.Common.{◌≡◌, ℕ, ◌+◌, ◌/◌, ◌%◌, ◌^◌, ◌<◌, [], ◌∷◌, ◌++◌, map, ltb, arith, lit<}
use Rattle.std.specs.Prelude.{All, codes}
use Rattle.std.specs.Fmt.{decimal}
use Rattle.std.proofs.lemmas.Bool.{cond_both}
use Rattle.std.proofs.lemmas.List.Elements.{All-append, All-cons, All-from_recursion, All-map, All-weaker}
use Rattle.text_lines.specs.Hex.{hex_digit}
use Rattle.text_lines.specs.Lines.{words_of}
use Rattle.text_lines.proofs.PlainLaws.{IsLine, IsPlain, decimal_plain, joined_line, words_again}
use Rattle.interrupt_plan.specs.SharedPlan.{SharedEntry}
use Rattle.interrupt_plan.specs.Text.{FitsEntry, access_word, entry_line, entry_words, part_words, written_word}

-- ---- words are plain

hex_plain : (d : ℕ) → 32 < hex_digit d
hex_plain d = cond_both (ltb d 10) (48 + d) (87 + d) (λ x. 32 < x) (λ _. omega arith) (λ _. omega arith)

access_plain : (n : ℕ) → n < 256 → IsPlain (access_word n)
access_plain n lt = All-cons (λ b. 32 < b) 97 (decimal n) (omega arith) (decimal_plain n (omega (arith, lt)))

byte_plain : (c : ℕ) → 32 < c → (d : ℕ × ℕ) → IsPlain (written_word (c ∷ []) d)
byte_plain c above d =
    let h = λ (n shift : ℕ). hex_plain (n / 2 ^ shift % 16) in
    All-from_recursion (λ b. 32 < b) (written_word (c ∷ []) d)
    (above, (h d.0 28, (h d.0 24, (h d.0 20, (h d.0 16, (h d.0 12, (h d.0 8, (h d.0 4, (h d.0 0, (lit< tt, (h d.1 4, (h d.1 0, tt))))))))))))

cut_plain : IsPlain (codes "cut")
cut_plain = All-from_recursion (λ b. 32 < b) (codes "cut") (lit< tt, (lit< tt, (lit< tt, tt)))

parts_plain : (e : SharedEntry) → All (λ n. n < 256) e.entry.cut.done → All IsPlain (part_words e)
parts_plain e small =
    All-append IsPlain (map access_word e.entry.cut.done) (map (written_word (codes "d")) e.entry.cut.dirt ++ map (written_word (codes "s")) e.cells)
    (All-map IsPlain access_word e.entry.cut.done (All-weaker (λ n. n < 256) (λ n. IsPlain (access_word n)) access_plain e.entry.cut.done small))
    (All-append IsPlain (map (written_word (codes "d")) e.entry.cut.dirt) (map (written_word (codes "s")) e.cells)
    (All-map IsPlain (written_word (codes "d")) e.entry.cut.dirt (λ k d lt. byte_plain 100 (lit< tt) _))
    (All-map IsPlain (written_word (codes "s")) e.cells (λ k d lt. byte_plain 115 (lit< tt) _)))

words_plain : (e : SharedEntry) → FitsEntry e → All IsPlain (entry_words e)
words_plain e fits =
    All-cons IsPlain (codes "cut") (decimal e.entry.at ∷ part_words e) cut_plain
    (All-cons IsPlain (decimal e.entry.at) (part_words e) (decimal_plain e.entry.at fits.0) (parts_plain e fits.1))

-- ---- a line is split into its words again, and has no line feed

pub words_back : (e : SharedEntry) → FitsEntry e → words_of (entry_line e) ≡ entry_words e
words_back e fits = words_again (codes "cut") (decimal e.entry.at ∷ part_words e) (words_plain e fits)

pub no_line_feed : (e : SharedEntry) → FitsEntry e → IsLine (entry_line e)
no_line_feed e fits = joined_line (entry_words e) (words_plain e fits)
