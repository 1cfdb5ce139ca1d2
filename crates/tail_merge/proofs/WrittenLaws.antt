-- What is written of a section's items, and where it stands.
use Rattle.std.proofs.Common.{◌≡◌, ℕ, ◌+◌, ◌%◌, ◌≤◌, ◌<◌, ◌⊎◌, inl, inr, List, [], ◌∷◌, ◌++◌, length, take, drop, Bool, true, false, cond, refl, sym, ap, ◌∙◌, subst, arith, eqb, Option, Some, None}
use Rattle.std.specs.Prelude.{All}
use Rattle.std.specs.List.{find, flat_map}
use Rattle.std.specs.Option.{option_map_or}
use Rattle.std.proofs.lemmas.List.{length-drop, length-take}
use Rattle.std.proofs.lemmas.List.Sums.{sum_by-cons}
use Rattle.std.proofs.lemmas.List.Elements.{All-cons, All-head, All-nil, All-tail}
use Rattle.elf32_read.specs.Parts.{SectionParts}
use Rattle.elf32_read.specs.declared.reloc.Reloc.{Reloc}
use Rattle.psabi_sym.specs.Inputs.{ParsedInputs}
use Rattle.psabi_sym.specs.Indexed.{IndexedSection}
use Rattle.rv_decode.specs.declared.instr.Instr.{Instr}
use Rattle.block_cut.specs.Relocs.{reloc_on}
use Rattle.tail_merge.specs.Tails.{CodeItem, Removed, bytes_of_all, code_items, covers, moved_down, removed_tails, tail_start}
use Rattle.tail_merge.specs.Merged.{instr_bytes, item_bytes, jump_bytes, kept_bytes, merged_bytes, new_distance, transfer_instr}
use Rattle.tail_merge.proofs.ItemsLaws.{items-clear, items-forward, removed-apart}
use Rattle.tail_merge.proofs.OffsetLaws.{Forward}
use Rattle.tail_merge.proofs.ReadLaws.{SameBytes}
use Rattle.tail_merge.proofs.PlacedLaws.{IsClear, down-first, jump_by, width, width_in, written-at, written-end}

-- an item lies in its section, and has bytes, an even number of them; what has no relocation has two or four
pub record IsHeld (s : SectionParts) (c : CodeItem) : Type 0 where
  pub some : 0 < c.size
  pub even : c.size % 2 ≡ 0
  pub within : c.offset + c.size ≤ length s.bytes
  pub size : reloc_on s c.offset ≡ None → (c.size ≡ 2) ⊎ (c.size ≡ 4)

pub instr-length : (size : ℕ) (i : Instr) → (size ≡ 2) ⊎ (size ≡ 4) → length (instr_bytes size i) ≡ size
instr-length size i (inl two) = subst (λ n. length (instr_bytes n i) ≡ n) (sym two) refl
instr-length size i (inr four) = subst (λ n. length (instr_bytes n i) ≡ n) (sym four) refl

own-length : (s : SectionParts) (c : CodeItem) → c.offset + c.size ≤ length s.bytes → length (take c.size (drop c.offset s.bytes)) ≡ c.size
own-length s c within = let a = length-take c.size (drop c.offset s.bytes) in let b = length-drop c.offset s.bytes in grind (arith, a, b, within)

kept-length : (removed : List Removed) (s : SectionParts) (c : CodeItem) → IsHeld s c → length (kept_bytes removed s c) ≡ c.size
kept-length removed s c held = by (reloc_on s c.offset) refl
  where
    transfer : (c.size ≡ 2) ⊎ (c.size ≡ 4) → (t : Option Instr) → length (option_map_or (instr_bytes c.size) t (take c.size (drop c.offset s.bytes))) ≡ c.size
    transfer size None = own-length s c held.within
    transfer size (Some i) = instr-length c.size i size

    by : (r : Option Reloc) → reloc_on s c.offset ≡ r → length (option_map_or (λ r. take c.size (drop c.offset s.bytes)) r (option_map_or (instr_bytes c.size) (transfer_instr (new_distance removed c.offset) c.item) (take c.size (drop c.offset s.bytes)))) ≡ c.size
    by (Some r) is = own-length s c held.within
    by None is = transfer (held.size is) (transfer_instr (new_distance removed c.offset) c.item)

-- what is written of an item is as long as said
item-length : (removed : List Removed) (s : SectionParts) (c : CodeItem) → IsHeld s c → length (item_bytes removed s c) ≡ width removed c
item-length removed s c held = by (find (covers c.offset) removed)
  where
    jump : (r : Removed) (b : Bool) → length (cond b (jump_bytes removed r) []) ≡ jump_by b
    jump r true = refl
    jump r false = refl

    by : (o : Option Removed) → length (option_map_or (λ r. cond (eqb c.offset (tail_start r)) (jump_bytes removed r) []) o (kept_bytes removed s c)) ≡ width_in c o
    by None = kept-length removed s c held
    by (Some r) = jump r (eqb c.offset (tail_start r))

-- items before one of a list stand one after another, and it begins where they end
forward-split : (n : ℕ) (front back : List CodeItem) (c : CodeItem) → Forward n (front ++ c ∷ back) → Forward n front × (c.offset ≡ n + bytes_of_all front)
forward-split n [] back c f = let at = f.0 in (tt, omega (arith, at))
forward-split n (d ∷ front) back c f =
    let rest = forward-split (d.offset + d.size) front back c f.1 in
    let at = f.0 in
    let offset = rest.1 in
    ((f.0, rest.0), omega (arith, at, offset, sum_by-cons (λ (c : CodeItem). c.size) d front))

All-left : (P : CodeItem → Type 0) (xs ys : List CodeItem) → All P (xs ++ ys) → All P xs
All-left P [] ys all = All-nil P
All-left P (x ∷ xs) ys all = All-cons P x xs (All-head P x (xs ++ ys) all) (All-left P xs ys (All-tail P x (xs ++ ys) all))

module _ (inputs : ParsedInputs) (l : IndexedSection) (held : All (IsHeld l.section) (code_items inputs l)) where
  abbrev removed : List Removed
  removed = removed_tails inputs l

  abbrev IsFit : CodeItem → Type 0
  IsFit c = (All (IsClear c) removed × (0 < c.size)) × (length (item_bytes removed l.section c) ≡ width removed c)

  fits : All IsFit (code_items inputs l)
  fits = λ k d lt. ((items-clear inputs l k d lt, (held k d lt).some), item-length removed l.section _ (held k d lt))

  -- the section's new length is where its end moves to
  pub merged-length : length (merged_bytes inputs l) ≡ moved_down removed (bytes_of_all (code_items inputs l))
  merged-length =
      let all = written-end 0 removed (item_bytes removed l.section) 0 (code_items inputs l) (removed-apart inputs l) (items-forward inputs l) fits in
      let zero = down-first 0 removed 0 (removed-apart inputs l) (omega arith) in
      let none : 0 + bytes_of_all (code_items inputs l) ≡ bytes_of_all (code_items inputs l) = omega arith in
      let last = ap (moved_down removed) none in
      omega (arith, all, zero, last)

  -- what stands outside of removed tails stands where its offset moves to, as it is or with its new distance; and a jump at each
  -- removed tail's start
  pub item-written : (front back : List CodeItem) (c : CodeItem) → code_items inputs l ≡ front ++ c ∷ back → Forward 0 front → c.offset ≡ bytes_of_all front → All IsFit front
      → take (length (item_bytes removed l.section c)) (drop (moved_down removed c.offset) (merged_bytes inputs l)) ≡ item_bytes removed l.section c
  item-written front back c is front-f at each =
      ap (λ items. take (length (item_bytes removed l.section c)) (drop (moved_down removed c.offset) (flat_map (item_bytes removed l.section) items))) is
      ∙ written-at removed (item_bytes removed l.section) front back c (removed-apart inputs l) (subst (Forward 0) is (items-forward inputs l)) front-f at each

  -- the same of any item, wherever it stands among them
  pub any-written : (front back : List CodeItem) (c : CodeItem) → code_items inputs l ≡ front ++ c ∷ back
      → take (length (item_bytes removed l.section c)) (drop (moved_down removed c.offset) (merged_bytes inputs l)) ≡ item_bytes removed l.section c
  any-written front back c is =
      let split = forward-split 0 front back c (subst (Forward 0) is (items-forward inputs l)) in
      let at = split.1 in
      item-written front back c is split.0 (omega (arith, at)) (All-left IsFit front (c ∷ back) (subst (All IsFit) is fits))

  -- an item that is copied: its bytes stand at its offset moved down
  pub copied-same : (front back : List CodeItem) (c : CodeItem) → code_items inputs l ≡ front ++ c ∷ back → c.offset + c.size ≤ length l.section.bytes → find (covers c.offset) removed ≡ None → kept_bytes removed l.section c ≡ take c.size (drop c.offset l.section.bytes)
      → SameBytes c.size (merged_bytes inputs l) (moved_down removed c.offset) l.section.bytes c.offset
  copied-same front back c is within outside own =
      let bytes : item_bytes removed l.section c ≡ take c.size (drop c.offset l.section.bytes) = ap (λ o. option_map_or (λ r. cond (eqb c.offset (tail_start r)) (jump_bytes removed r) []) o (kept_bytes removed l.section c)) outside ∙ own in
      let size : c.size ≡ length (item_bytes removed l.section c) = sym (ap length bytes ∙ own-length l.section c within) in
      ap (λ k. take k (drop (moved_down removed c.offset) (merged_bytes inputs l))) size ∙ any-written front back c is ∙ bytes
