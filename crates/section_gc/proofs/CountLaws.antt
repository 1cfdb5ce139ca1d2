-- Counts of code, section after section, and how large they are.
use Rattle.std.proofs.Common.{◌≡◌, ℕ, ◌+◌, ◌<◌, ◌≤◌, ◌^◌, List, [], ◌∷◌, ◌++◌, length, filter, take, drop, refl, sym, ap, ◌∙◌, append-nil, arith, suc, Bool, true, false, cond, Some, None, slice_get}
use Rattle.std.specs.Prelude.{◌&&◌}
use Rattle.std.proofs.lemmas.Bool.{and_parts}
use Rattle.std.proofs.lemmas.List.{length-append, length-take-le, take-append-drop}
use Rattle.std.proofs.lemmas.List.Elements.{filter-append}
use Rattle.std.proofs.lemmas.List.Sums.{sum_by-append, sum_by-cons}
use Rattle.std.proofs.lemmas.Option.{slice_get_within}
use Rattle.elf32_read.specs.Kept.{has_flags}
use Rattle.elf32_read.specs.Parts.{ObjectParts, is_code_section, is_kept_section}
use Rattle.psabi_sym.specs.Data.{is_code_role}
use Rattle.psabi_sym.specs.Faults.{code_room, gather_fault}
use Rattle.psabi_sym.specs.Indexed.{IndexedSection, all_sections}
use Rattle.psabi_sym.specs.Inputs.{Inputs, parsed}
use Rattle.psabi_sym.specs.Invariants.Rows.{section_row}
use Rattle.psabi_sym.specs.declared.section_row.SectionRow.{SectionRow}
use Rattle.psabi_sym.proofs.PlaceLaws.{code_is}
use Rattle.psabi_sym.proofs.SectionNumbers.{few_sections}
use Rattle.block_cut.proofs.CodeSizeLaws.{counted_least}
use Rattle.block_cut.proofs.RoomLaws.{code_room_is, rooms, rooms_few}
use Rattle.block_cut.proofs.TakeLaws.{take_next}
use Rattle.reach.specs.Reach.{mark_of}
use Rattle.section_gc.specs.Counts.{code_among, code_counts, listed_bytes, with_code}
use Rattle.section_gc.specs.Graph.{has_mark}
use Rattle.section_gc.specs.declared.counts.CodeCounts.{CodeCounts}
use Rattle.section_gc.proofs.RemainsLaws.{mark-at}

module _ (needed : ℕ → ℕ → Bool) where
  -- with a section behind others
  counts-push : (ls : List IndexedSection) (l : IndexedSection) → code_counts needed (ls ++ l ∷ []) ≡ cond (is_code_section l.section) (with_code (code_counts needed ls) l.section.size (needed l.object l.index)) (code_counts needed ls)
  counts-push ls l =
      ap counted (filter-append is_code ls (l ∷ []))
      ∙ by (is_code_section l.section) (needed l.object l.index) refl
    where
      is_code : IndexedSection → Bool
      is_code l = is_code_section l.section

      is_needed : IndexedSection → Bool
      is_needed l = needed l.object l.index

      size : IndexedSection → ℕ
      size l = l.section.size

      counted : List IndexedSection → CodeCounts
      counted code = record {
        kept = length (filter is_needed code);
        all = length code;
        bytes = listed_bytes (filter is_needed code);
        from = listed_bytes code;
      }

      more : (b : Bool) → is_needed l ≡ b → counted (filter is_code ls ++ l ∷ []) ≡ with_code (counted (filter is_code ls)) (size l) b
      more b is =
          let code = filter is_code ls in
          let own : filter is_needed (l ∷ []) ≡ cond b (l ∷ []) [] = ap (λ b. cond b (l ∷ []) []) is in
          let both = filter-append is_needed code (l ∷ []) ∙ ap (λ xs. filter is_needed code ++ xs) own in
          let kept : length (filter is_needed (code ++ l ∷ [])) ≡ length (filter is_needed code) + cond b 1 0 =
          ap length both ∙ length-append (filter is_needed code) (cond b (l ∷ []) []) ∙ ap (λ n. length (filter is_needed code) + n) (one b) in
          let bytes : listed_bytes (filter is_needed (code ++ l ∷ [])) ≡ listed_bytes (filter is_needed code) + cond b (size l) 0 =
          ap listed_bytes both ∙ sum_by-append size (filter is_needed code) (cond b (l ∷ []) []) ∙ ap (λ n. listed_bytes (filter is_needed code) + n) (own-size b) in
          let all : length (code ++ l ∷ []) ≡ length code + 1 = length-append code (l ∷ []) in
          let from : listed_bytes (code ++ l ∷ []) ≡ listed_bytes code + size l = sum_by-append size code (l ∷ []) ∙ ap (λ n. listed_bytes code + n) (own-size true) in
          λ i. record { kept = kept i; all = all i; bytes = bytes i; from = from i }
        where
          one : (b : Bool) → length (cond b (l ∷ []) []) ≡ cond b 1 0
          one true = refl
          one false = refl

          own-size : (b : Bool) → listed_bytes (cond b (l ∷ []) []) ≡ cond b (size l) 0
          own-size true = omega (arith, sum_by-cons size l [])
          own-size false = refl

      by : (c b : Bool) → is_needed l ≡ b → counted (filter is_code ls ++ cond c (l ∷ []) []) ≡ cond c (with_code (counted (filter is_code ls)) (size l) b) (counted (filter is_code ls))
      by true b is = more b is
      by false b is = ap counted (append-nil (filter is_code ls))

  pub counts-more : (ls : List IndexedSection) (k : ℕ) (l : IndexedSection) → slice_get ls k ≡ Some l
      → code_counts needed (take (k + 1) ls) ≡ cond (is_code_section l.section) (with_code (code_counts needed (take k ls)) l.section.size (needed l.object l.index)) (code_counts needed (take k ls))
  counts-more ls k l at = ap (code_counts needed) (take_next ls k l at) ∙ counts-push (take k ls) l

  -- ---- how large they are

  -- what is needed is among all, and these have room
  pub record AreCounts (ls : List IndexedSection) : Type 0 where
    pub kept : (code_counts needed ls).kept ≤ (code_counts needed ls).all
    pub all : (code_counts needed ls).all ≤ length ls
    pub bytes : (code_counts needed ls).bytes ≤ (code_counts needed ls).from
    pub from : (code_counts needed ls).from ≤ rooms ls

  few-kept : {X : Type 0} (p : X → Bool) (xs : List X) → length (filter p xs) ≤ length xs
  few-kept p [] = omega arith
  few-kept p (x ∷ xs) = by (few-kept p xs) (p x)
    where
      by : length (filter p xs) ≤ length xs → (b : Bool) → length (cond b (x ∷ filter p xs) (filter p xs)) ≤ suc (length xs)
      by le true = omega arith
      by le false = omega arith

  few-bytes : (p : IndexedSection → Bool) (ls : List IndexedSection) → listed_bytes (filter p ls) ≤ listed_bytes ls
  few-bytes p [] = omega arith
  few-bytes p (l ∷ ls) = by (few-bytes p ls) (p l)
    where
      size : IndexedSection → ℕ
      size l = l.section.size

      by : listed_bytes (filter p ls) ≤ listed_bytes ls → (b : Bool) → listed_bytes (cond b (l ∷ filter p ls) (filter p ls)) ≤ listed_bytes (l ∷ ls)
      by le true = omega (arith, le, sum_by-cons size l (filter p ls), sum_by-cons size l ls)
      by le false = omega (arith, le, sum_by-cons size l ls)

  in-rooms : (ls : List IndexedSection) → listed_bytes (code_among ls) ≤ rooms ls
  in-rooms [] = omega arith
  in-rooms (l ∷ ls) = by (in-rooms ls) (is_code_section l.section) refl
    where
      size : IndexedSection → ℕ
      size l = l.section.size

      room : IndexedSection → ℕ
      room l = code_room l.section

      by : listed_bytes (code_among ls) ≤ rooms ls → (b : Bool) → is_code_section l.section ≡ b → listed_bytes (cond b (l ∷ code_among ls) (code_among ls)) ≤ rooms (l ∷ ls)
      by le true code = omega (arith, le, sum_by-cons size l (code_among ls), sum_by-cons room l ls, code_room_is l.section code, counted_least l.section.compressed l.section.size)
      by le false code = omega (arith, le, sum_by-cons room l ls)

  pub are-counts : (ls : List IndexedSection) → AreCounts ls
  are-counts ls = record {
    kept = few-kept (λ (l : IndexedSection). needed l.object l.index) (code_among ls);
    all = few-kept (λ (l : IndexedSection). is_code_section l.section) ls;
    bytes = few-bytes (λ (l : IndexedSection). needed l.object l.index) (code_among ls);
    from = in-rooms ls;
  }

-- the first of some sections have less room than all
pub rooms-taken : (k : ℕ) (ls : List IndexedSection) → rooms (take k ls) ≤ rooms ls
rooms-taken k ls =
    omega (arith, sum_by-append (λ (l : IndexedSection). code_room l.section) (take k ls) (drop k ls), ap rooms (take-append-drop k ls))

-- code is needed if it is marked
pub code-marked : (objects : List ObjectParts) (marks : List Bool) (k : ℕ) (l : IndexedSection) → slice_get (all_sections objects) k ≡ Some l → is_code_section l.section ≡ true → has_mark objects marks l.object l.index ≡ mark_of marks k
code-marked objects marks k l at code =
    mark-at objects marks k l at ∙ ap (λ b. b && mark_of marks k) (and_parts (is_kept_section l.section) (has_flags 4 l.section.flags) code).0

-- one section of code more
pub counts-turn : (objects : List ObjectParts) (marks : List Bool) (k : ℕ) (l : IndexedSection) (counts : CodeCounts) → slice_get (all_sections objects) k ≡ Some l → is_code_section l.section ≡ true
    → counts ≡ code_counts (has_mark objects marks) (take k (all_sections objects))
    → with_code counts l.section.size (mark_of marks k) ≡ code_counts (has_mark objects marks) (take (k + 1) (all_sections objects))
counts-turn objects marks k l counts at code before =
    (λ i. with_code (before i) l.section.size (sym (code-marked objects marks k l at code) i))
    ∙ sym (counts-more (has_mark objects marks) (all_sections objects) k l at
    ∙ ap (λ b. cond b (with_code (code_counts (has_mark objects marks) (take k (all_sections objects))) l.section.size (has_mark objects marks l.object l.index)) (code_counts (has_mark objects marks) (take k (all_sections objects)))) code)

-- one other section more
pub counts-passed : (objects : List ObjectParts) (marks : List Bool) (k : ℕ) (l : IndexedSection) (counts : CodeCounts) → slice_get (all_sections objects) k ≡ Some l → is_code_section l.section ≡ false
    → counts ≡ code_counts (has_mark objects marks) (take k (all_sections objects))
    → counts ≡ code_counts (has_mark objects marks) (take (k + 1) (all_sections objects))
counts-passed objects marks k l counts at other before =
    before
    ∙ sym (counts-more (has_mark objects marks) (all_sections objects) k l at
    ∙ ap (λ b. cond b (with_code (code_counts (has_mark objects marks) (take k (all_sections objects))) l.section.size (has_mark objects marks l.object l.index)) (code_counts (has_mark objects marks) (take k (all_sections objects)))) other)

-- counts have room for one section of code more
pub record HasRoom (counts : CodeCounts) (size : ℕ) : Type 0 where
  pub kept : counts.kept ≤ counts.all
  pub all : counts.all < 0x10_0000
  pub bytes : counts.bytes ≤ counts.from
  pub from : counts.from + size < 2 ^ 32

pub has-room : (inputs : Inputs) (marks : List Bool) (k : ℕ) (l : IndexedSection) (counts : CodeCounts) → gather_fault inputs ≡ None → slice_get (all_sections (parsed inputs).objects) k ≡ Some l → is_code_section l.section ≡ true
    → counts ≡ code_counts (has_mark (parsed inputs).objects marks) (take k (all_sections (parsed inputs).objects)) → HasRoom counts l.section.size
has-room inputs marks k l counts none at code before =
    let objects = (parsed inputs).objects in
    let all = all_sections objects in
    let needed = has_mark objects marks in
    let now = are-counts needed (take k all) in
    let next = are-counts needed (take (k + 1) all) in
    let within = slice_get_within all k l at in
    let some : length (take k all) ≡ k = length-take-le k all (omega (arith, within)) in
    let kept = ap (λ (c : CodeCounts). c.kept) before in
    let count = ap (λ (c : CodeCounts). c.all) before in
    let bytes = ap (λ (c : CodeCounts). c.bytes) before in
    let from = ap (λ (c : CodeCounts). c.from) before in
    let more = ap (λ (c : CodeCounts). c.from) (counts-turn objects marks k l counts at code before) in
    record {
      kept = omega (arith, kept, count, now.kept);
      all = omega (arith, count, now.all, some, within, few_sections inputs none);
      bytes = omega (arith, bytes, from, now.bytes);
      from = omega (arith, more, next.from, rooms-taken (k + 1) all, rooms_few inputs none);
    }

-- whether a section is code, by its row
pub row-code : (names : List (List ℕ)) (r : SectionRow) (l : IndexedSection) (b : Bool) → r ≡ section_row names l → b ≡ is_code_role r.role → is_code_section l.section ≡ b
row-code names r l b row is = sym (code_is l.section) ∙ ap (λ (r : SectionRow). is_code_role r.role) (sym row) ∙ sym is
