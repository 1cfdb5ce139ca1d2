-- One step of each loop of the listing, and that the segments of an image without a fault fit.
use Rattle.std.proofs.Common.{◌≡◌, ℕ, zero, suc, ◌+◌, ◌-◌, ◌*◌, ◌/◌, ◌%◌, ◌<◌, ◌≤◌, false, None, List, [], ◌∷◌, ◌++◌, length, drop, take, map, Some, refl, sym, ap, subst, ap₂, ◌∙◌, arith, ltb}
use Rattle.std.specs.Prelude.{◌&&◌, ◌||◌, ◌==◌, not, bit_and, All, codes, flat_map, min, slice_get}
use Rattle.std.specs.List.{list_any}
use Rattle.std.proofs.Math.Seq.{drop-cons, take-length}
use Rattle.std.proofs.lemmas.Bool.{ltb-false, or_parts}
use Rattle.std.proofs.lemmas.Grind.{flat_map-append}
use Rattle.std.proofs.lemmas.List.{append-nil, drop-drop, drop_all, length-drop, length-take, take_min, take_more}
use Rattle.std.proofs.lemmas.List.Elements.{All-cons, All-nil, All-push}
use Rattle.std.proofs.lemmas.Option.{get_or_from_slice_get, slice_get_within}
use Rattle.zc_base.specs.declared.mem_map.MemMap.{MemMap}
use Rattle.elf32_read.proofs.Decided.{first_no}
use Rattle.elf32_read.specs.Header.{entry_address}
use Rattle.elf32_read.specs.Image.{bad_segments, image_fault, image_truncated, is_bad_load, not_image, some_overlap}
use Rattle.elf32_read.specs.Segments.{SegmentData, is_code, is_in_place, loads_of, segment_of, segments_of}
use Rattle.elf32_read.specs.declared.header.ProgramHeader.{ProgramHeader}
use Rattle.elf32_read.specs.declared.image_fault.ImageFault.TheVariants.{BadSegment, NotElf, TooLarge, Truncated}
use Rattle.zc_list.specs.Listing.{Bytes, FitsSegment, content_line, content_lines, list_text, segment_lines, sixteens, text_of_lines}
use Rattle.zc_list.proofs.TextLaws.{added}

-- ---- lines of sixteen bytes

-- the first bytes of what is left, however they were cut
pub first_bytes : (k : ℕ) (bytes : List ℕ) (n : ℕ) → n ≡ min (length (take (length bytes - k) (drop k bytes))) 16
    → take n (take (length bytes - k) (drop k bytes)) ≡ take 16 (drop k bytes)
first_bytes k bytes n is =
    let whole : take (length bytes - k) (drop k bytes) ≡ drop k bytes = ap (λ m. take m (drop k bytes)) (sym (length-drop k bytes)) ∙ take-length (drop k bytes) in
    let count : n ≡ min 16 (length (drop k bytes)) = is ∙ ap (λ xs. min (length xs) 16) whole ∙ omega arith in
    ap₂ take count whole ∙ take_min 16 (drop k bytes)

-- if there are more lines, they begin at the same address
same_lines : (left at next : ℕ) (bytes : List ℕ) → (0 < left → at ≡ next) → content_lines at (sixteens left bytes) ≡ content_lines next (sixteens left bytes)
same_lines zero at next bytes same = refl
same_lines (suc left) at next bytes same = ap (λ a. content_lines a (sixteens (suc left) bytes)) (same (omega arith))

pub sixteen_added : (count i at : ℕ) (bytes old before now all : List ℕ) → i < count → count ≡ (length bytes + 15) / 16
    → before ++ text_of_lines (content_lines (at + 16 * i) (sixteens (count - i) (drop (16 * i) bytes))) ≡ old ++ all
    → now ≡ before ++ (content_line (at + 16 * i) (Bytes (take 16 (drop (16 * i) bytes))) ++ (10 ∷ []))
    → now ++ text_of_lines (content_lines (at + 16 * (i + 1)) (sixteens (count - (i + 1)) (drop (16 * (i + 1)) bytes))) ≡ old ++ all
sixteen_added count i at bytes old before now all lt counted so_far made =
    let here : List ℕ = drop (16 * i) bytes in
    let first : List ℕ = take 16 here in
    let left : ℕ = count - (i + 1) in
    let rest : drop (16 * (i + 1)) bytes ≡ drop 16 here = ap (λ k. drop k bytes) (let e : 16 * (i + 1) ≡ 16 * i + 16 = omega arith in e) ∙ sym (drop-drop 16 (16 * i) bytes) in
    let size : 0 < left → at + 16 * (i + 1) ≡ at + 16 * i + length first = λ some. omega (arith, some, counted, length-take 16 here, length-drop (16 * i) bytes) in
    let one : count - i ≡ suc left = omega (arith, lt) in
    ap (λ bs. now ++ text_of_lines (content_lines (at + 16 * (i + 1)) (sixteens left bs))) rest
    ∙ ap (λ ls. now ++ text_of_lines ls) (same_lines left (at + 16 * (i + 1)) (at + 16 * i + length first) (drop 16 here) size)
    ∙ added (content_line (at + 16 * i) (Bytes first) ++ (10 ∷ [])) (text_of_lines (content_lines (at + 16 * i + length first) (sixteens left (drop 16 here)))) before now made
    ∙ sym (ap (λ n. before ++ text_of_lines (content_lines (at + 16 * i) (sixteens n here))) one)
    ∙ so_far

-- ---- segments

-- the element at an index, before the rest
next_at : {X : Type 0} (xs : List X) (i : ℕ) (x : X) → slice_get xs i ≡ Some x → drop i xs ≡ x ∷ drop (i + 1) xs
next_at xs i x h =
    let count : suc i ≡ i + 1 = omega arith in
    drop-cons xs i x (slice_get_within xs i x h) ∙ ap₂ (λ y n. y ∷ drop n xs) (get_or_from_slice_get xs i x x h) count

pub segment_added : (segments : List SegmentData) (i : ℕ) (s : SegmentData) (before now all : List ℕ) → slice_get segments i ≡ Some s
    → before ++ text_of_lines (flat_map segment_lines (drop i segments)) ≡ all
    → now ≡ before ++ text_of_lines (segment_lines s)
    → now ++ text_of_lines (flat_map segment_lines (drop (i + 1) segments)) ≡ all
segment_added segments i s before now all is so_far made =
    let rest : List (List ℕ) = flat_map segment_lines (drop (i + 1) segments) in
    added (text_of_lines (segment_lines s)) (text_of_lines rest) before now made
    ∙ ap (λ t. before ++ t) (sym (flat_map-append (λ line. line ++ (10 ∷ [])) (segment_lines s) rest))
    ∙ sym (ap (λ xs. before ++ text_of_lines (flat_map segment_lines xs)) (next_at segments i s is)) ∙ so_far

pub fits_more : (segments : List SegmentData) (i : ℕ) (s : SegmentData) → slice_get segments i ≡ Some s → All FitsSegment (take i segments) → FitsSegment s → All FitsSegment (take (i + 1) segments)
fits_more segments i s is fits here =
    let more = take_more segments i s (slice_get_within segments i s is) ∙ ap (λ x. take i segments ++ (x ∷ [])) (get_or_from_slice_get segments i s s is) in
    rw more (All-push FitsSegment (take i segments) s fits here)

-- the text after the last segment
pub list_ended : (segments : List SegmentData) (i : ℕ) (before now : List ℕ) → length segments ≤ i
    → before ++ text_of_lines (flat_map segment_lines (drop i segments)) ≡ codes "zcld list 1\n" ++ text_of_lines (flat_map segment_lines segments)
    → now ≡ before ++ codes "end\n" → now ≡ list_text segments
unfolding list_text
list_ended segments i before now past so_far made =
    let lines : List (List ℕ) = flat_map segment_lines segments in
    let whole : before ≡ codes "zcld list 1\n" ++ text_of_lines lines = sym (ap (λ xs. before ++ text_of_lines (flat_map segment_lines xs)) (drop_all i segments past) ∙ append-nil before) ∙ so_far in
    made ∙ ap (λ t. t ++ codes "end\n") whole
    ∙ ap (λ t. codes "zcld list 1\n" ++ t) (sym (flat_map-append (λ line. line ++ (10 ∷ [])) lines (codes "end" ∷ [])))

-- ---- the segments of an image without a fault

-- no segment has more bytes than it is long
abbrev IsHeld : SegmentData → Type 0
IsHeld s = length s.bytes ≤ s.size

good_load : (bytes : List ℕ) (memory : MemMap) (header : ProgramHeader) → is_bad_load memory header ≡ false → IsHeld (segment_of bytes header)
good_load bytes memory header good =
    let parts = or_parts (ltb header.memory_size header.file_size || (is_code header && bit_and header.flags 2 == 2)) (not (is_in_place memory header)) good in
    let sizes = or_parts (ltb header.memory_size header.file_size) (is_code header && bit_and header.flags 2 == 2) parts.0 in
    omega (arith, ltb-false header.memory_size header.file_size sizes.0, length-take header.file_size (drop header.offset bytes))

good_loads : (bytes : List ℕ) (memory : MemMap) (headers : List ProgramHeader) → list_any (is_bad_load memory) headers ≡ false → All IsHeld (map (segment_of bytes) headers)
good_loads bytes memory [] good = All-nil IsHeld
good_loads bytes memory (header ∷ headers) good =
    let parts = or_parts (is_bad_load memory header) (list_any (is_bad_load memory) headers) good in
    All-cons IsHeld (segment_of bytes header) (map (segment_of bytes) headers) (good_load bytes memory header parts.0) (good_loads bytes memory headers parts.1)

all_held : (bytes : List ℕ) (memory : MemMap) → image_fault bytes memory ≡ None → All IsHeld (segments_of bytes)
unfolding image_fault
all_held bytes memory faultless =
    let small = first_no (ltb 0x80_0000 (length bytes)) TooLarge _ faultless in
    let image = first_no (not_image bytes) NotElf _ small.1 in
    let whole = first_no (image_truncated bytes) Truncated _ image.1 in
    let segments = first_no (bad_segments bytes memory) BadSegment _ whole.1 in
    let entered = or_parts (_ || (entry_address bytes % 2 == 1)) _ segments.0 in
    let even = or_parts (_ || some_overlap (loads_of bytes)) _ entered.0 in
    let overlaps = or_parts (_ || list_any (is_bad_load memory) (loads_of bytes)) (some_overlap (loads_of bytes)) even.0 in
    let loads = or_parts _ (list_any (is_bad_load memory) (loads_of bytes)) overlaps.0 in
    good_loads bytes memory (loads_of bytes) loads.1

pub held_within : (bytes : List ℕ) (memory : MemMap) (i : ℕ) (s : SegmentData) → image_fault bytes memory ≡ None → slice_get (segments_of bytes) i ≡ Some s → length s.bytes ≤ s.size
held_within bytes memory i s faultless is =
    let P : SegmentData → Type 0 = IsHeld in
    subst P (get_or_from_slice_get (segments_of bytes) i s s is) (all_held bytes memory faultless i s (slice_get_within (segments_of bytes) i s is))
