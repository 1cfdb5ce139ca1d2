-- Texts that are put together, of words and of lines.
use Rattle.std.proofs.Common.{◌≡◌, ℕ, ◌≤◌, List, [], ◌∷◌, ◌++◌, length, drop, map, sym, ap, ◌∙◌, append_assoc, append-nil}
use Rattle.std.specs.Prelude.{codes, decimal, flat_map}
use Rattle.std.specs.List.{join_with_byte}
use Rattle.std.proofs.lemmas.List.{drop_all}
use Rattle.elf32_read.specs.Segments.{SegmentData}
use Rattle.text_lines.specs.Hex.{hex_byte, hex_word}
use Rattle.zc_list.specs.Listing.{Bytes, content_text, kind_word, segment_line}

-- words behind a first one, each with a space before it
joined_words : (f : ℕ → List ℕ) (word : List ℕ) (xs : List ℕ) → join_with_byte 32 (word ∷ map f xs) ≡ word ++ flat_map (λ x. 32 ∷ f x) xs
joined_words f word [] = sym (append-nil word)
joined_words f word (x ∷ xs) = ap (λ t. word ++ (32 ∷ t)) (joined_words f (f x) xs)

pub bytes_spaced : (bytes : List ℕ) → content_text (Bytes bytes) ≡ codes ".byte" ++ flat_map (λ b. 32 ∷ hex_byte b) bytes
unfolding content_text
bytes_spaced bytes = joined_words hex_byte (codes ".byte") bytes

-- all bytes were added
pub bytes_added : (bytes old now : List ℕ) (i : ℕ) → length bytes ≤ i → now ++ flat_map (λ b. 32 ∷ hex_byte b) (drop i bytes) ≡ old ++ (codes ".byte" ++ flat_map (λ b. 32 ∷ hex_byte b) bytes)
    → now ≡ old ++ content_text (Bytes bytes)
bytes_added bytes old now i past made =
    sym (ap (λ bs. now ++ flat_map (λ b. 32 ∷ hex_byte b) bs) (drop_all i bytes past) ∙ append-nil now)
    ∙ made ∙ ap (λ t. old ++ t) (sym (bytes_spaced bytes))

-- a segment's first line, part by part
pub segment_line_added : (s : SegmentData) (old one two three : List ℕ) → one ≡ old ++ codes "segment " → two ≡ one ++ (hex_word s.at ++ (32 ∷ [])) → three ≡ two ++ decimal s.size
    → three ++ (32 ∷ (kind_word s.code ++ (10 ∷ []))) ≡ old ++ (segment_line s ++ (10 ∷ []))
unfolding segment_line
segment_line_added s old one two three first second third =
    let end = 32 ∷ (kind_word s.code ++ (10 ∷ [])) in
    let at = hex_word s.at ++ (32 ∷ []) in
    let middle : two ≡ old ++ (codes "segment " ++ at) = second ∙ ap (λ t. t ++ at) first ∙ append_assoc old (codes "segment ") at in
    let most : three ≡ old ++ ((codes "segment " ++ at) ++ decimal s.size) = third ∙ ap (λ t. t ++ decimal s.size) middle ∙ append_assoc old (codes "segment " ++ at) (decimal s.size) in
    ap (λ t. t ++ end) most ∙ append_assoc old ((codes "segment " ++ at) ++ decimal s.size) end
    ∙ ap (λ t. old ++ (codes "segment " ++ (hex_word s.at ++ (32 ∷ t)))) (sym (append_assoc (decimal s.size) (32 ∷ kind_word s.code) (10 ∷ [])))

-- a text that was added, before what follows
pub added : (text rest old new : List ℕ) → new ≡ old ++ text → new ++ rest ≡ old ++ (text ++ rest)
added text rest old new made = ap (λ t. t ++ rest) made ∙ append_assoc old text rest
