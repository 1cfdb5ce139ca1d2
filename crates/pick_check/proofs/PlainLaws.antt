-- No word of a certificate holds a space or a line feed, so its lines and words are found again.
use Rattle.std.proofs.Common.{◌≡◌, ℕ, ◌^◌, ◌<◌, false, List, [], ◌∷◌, map, eqb, refl, arith, lit<}
use Rattle.std.specs.Prelude.{All, codes}
use Rattle.std.specs.Fmt.{decimal}
use Rattle.std.proofs.lemmas.List.Elements.{All-cons, All-from_recursion, All-head, All-map, All-nil, All-tail, All-weaker}
use Rattle.text_lines.specs.Lines.{words_of}
use Rattle.text_lines.proofs.PlainLaws.{IsLine, IsPlain, decimal_plain, joined_line, words_again}
use Rattle.pick_check.specs.Text.{AreWithin, line_with, net_limits, price_limits, saving_limits, slot_limits}

-- ---- words are plain

numbers_plain : (ns : List ℕ) → All (λ n. n < 2 ^ 64) ns → All IsPlain (map decimal ns)
numbers_plain ns small = All-map IsPlain decimal ns (All-weaker (λ n. n < 2 ^ 64) (λ n. IsPlain (decimal n)) decimal_plain ns small)

words_plain : (name ns : List ℕ) → IsPlain name → All (λ n. n < 2 ^ 64) ns → All IsPlain (name ∷ map decimal ns)
words_plain name ns plain small = All-cons IsPlain name (map decimal ns) plain (numbers_plain ns small)

-- ---- a line is split into its words again, and has no line feed

pub words_back : (name ns : List ℕ) → IsPlain name → All (λ n. n < 2 ^ 64) ns → words_of (line_with name ns) ≡ name ∷ map decimal ns
words_back name ns plain small = words_again name (map decimal ns) (words_plain name ns plain small)

pub line_plain : (name ns : List ℕ) → IsPlain name → All (λ n. n < 2 ^ 64) ns → IsLine (line_with name ns)
line_plain name ns plain small = joined_line (name ∷ map decimal ns) (words_plain name ns plain small)

-- ---- the names of lines

pub saving_plain : IsPlain (codes "saving")
saving_plain = All-from_recursion (λ b. 32 < b) (codes "saving") (lit< tt, (lit< tt, (lit< tt, (lit< tt, (lit< tt, (lit< tt, tt))))))

pub slot_plain : IsPlain (codes "slot")
slot_plain = All-from_recursion (λ b. 32 < b) (codes "slot") (lit< tt, (lit< tt, (lit< tt, (lit< tt, tt))))

pub price_plain : IsPlain (codes "price")
price_plain = All-from_recursion (λ b. 32 < b) (codes "price") (lit< tt, (lit< tt, (lit< tt, (lit< tt, (lit< tt, tt)))))

pub net_plain : IsPlain (codes "net")
net_plain = All-from_recursion (λ b. 32 < b) (codes "net") (lit< tt, (lit< tt, (lit< tt, tt)))

pub end_line : IsLine (codes "end")
end_line = All-from_recursion (λ b. eqb b 10 ≡ false) (codes "end") (refl, (refl, (refl, tt)))

pub title_line : IsLine (codes "zcld certificate 1")
title_line =
    All-from_recursion (λ b. eqb b 10 ≡ false) (codes "zcld certificate 1")
    (refl, (refl, (refl, (refl, (refl, (refl, (refl, (refl, (refl, (refl, (refl, (refl, (refl, (refl, (refl, (refl, (refl, (refl, tt))))))))))))))))))

-- ---- numbers within limits

pub saving_small : All (λ limit. limit < 2 ^ 64) saving_limits
saving_small = All-from_recursion (λ limit. limit < 2 ^ 64) saving_limits (lit< tt, (lit< tt, (lit< tt, (lit< tt, (lit< tt, tt)))))

pub slot_small : All (λ limit. limit < 2 ^ 64) slot_limits
slot_small = All-from_recursion (λ limit. limit < 2 ^ 64) slot_limits (lit< tt, tt)

pub price_small : All (λ limit. limit < 2 ^ 64) price_limits
price_small = All-from_recursion (λ limit. limit < 2 ^ 64) price_limits (lit< tt, (lit< tt, (lit< tt, tt)))

pub net_small : All (λ limit. limit < 2 ^ 64) net_limits
net_small = All-from_recursion (λ limit. limit < 2 ^ 64) net_limits (lit< tt, tt)

pub within_small : (limits ns : List ℕ) → All (λ limit. limit < 2 ^ 64) limits → AreWithin limits ns → All (λ n. n < 2 ^ 64) ns
within_small [] [] small within = All-nil (λ n. n < 2 ^ 64)
within_small [] (n ∷ ns) small within = absurd within
within_small (limit ∷ limits) [] small within = absurd within
within_small (limit ∷ limits) (n ∷ ns) small within =
    let first = All-head (λ limit. limit < 2 ^ 64) limit limits small in
    All-cons (λ n. n < 2 ^ 64) n ns (let le = within.0 in omega (arith, first, le)) (within_small limits ns (All-tail (λ limit. limit < 2 ^ 64) limit limits small) within.1)
