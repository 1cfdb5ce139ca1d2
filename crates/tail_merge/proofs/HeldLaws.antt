-- Sections of code without a fault: how long they are when their tails are removed.
use Rattle.std.proofs.Common.{◌≡◌, ℕ, zero, suc, ◌+◌, ◌≤◌, ◌<◌, ◌⊎◌, inl, inr, List, [], ◌∷◌, ◌++◌, length, map, Bool, true, false, cond, refl, sym, ap, ◌∙◌, subst, arith, ltb}
use Rattle.std.specs.Prelude.{◌%◌, not, All}
use Rattle.std.specs.Option.{option_map_or}
use Rattle.std.proofs.lemmas.Bool.{cases_lt, lt-ltb, ltb-true}
use Rattle.std.proofs.lemmas.List.Sums.{sum_by-cons}
use Rattle.std.proofs.lemmas.List.Elements.{All-cons, All-head, All-nil, All-tail, All-weaker}
use Rattle.elf32_read.specs.Parts.{is_code_section}
use Rattle.psabi_sym.specs.Inputs.{ParsedInputs}
use Rattle.psabi_sym.specs.Indexed.{IndexedSection}
use Rattle.block_cut.specs.CodeSizes.{code_step, is_long_at, own_size}
use Rattle.block_cut.specs.Items.{size_on, starts_from, starts_in}
use Rattle.block_cut.specs.Relocs.{field_of}
use Rattle.block_cut.specs.Whole.{IsWhole}
use Rattle.block_cut.proofs.CodeSizeLaws.{step_even}
use Rattle.block_cut.proofs.StartLaws.{step}
use Rattle.tail_merge.specs.Tails.{CodeItem, Removed, bytes_of_all, code_item, code_items, ends_tail, longest_tail, moved_down, removed_from, removed_tails, bytes_saved_by, saved_bytes, tail_end}
use Rattle.tail_merge.specs.Merged.{merged_bytes}
use Rattle.tail_merge.proofs.OffsetLaws.{ApartFrom, Backward, Forward, longest-prefix, removed-end, some-items}
use Rattle.tail_merge.proofs.ItemsLaws.{items-forward, removed-apart}
use Rattle.tail_merge.proofs.PlacedLaws.{down-past, floor}
use Rattle.tail_merge.proofs.TailLaws.{removed-cases}
use Rattle.tail_merge.proofs.WrittenLaws.{IsHeld, merged-length}

abbrev IsTwoOrFour : ℕ → Type 0
IsTwoOrFour n = (n ≡ 2) ⊎ (n ≡ 4)

own-two-four : (compressed : Bool) (bytes : List ℕ) (n : ℕ) → IsTwoOrFour (own_size compressed bytes n)
own-two-four false bytes n = inr refl
own-two-four true bytes n = by (is_long_at bytes n)
  where
    by : (b : Bool) → IsTwoOrFour (cond b 4 2)
    by true = inr refl
    by false = inl refl

-- sums of whole steps are whole steps
steps-add : (compressed : Bool) (a b : ℕ) → a % code_step compressed ≡ 0 → b % code_step compressed ≡ 0 → (a + b) % code_step compressed ≡ 0
steps-add true a b x y = omega (arith, x, y)
steps-add false a b x y = omega (arith, x, y)

-- ---- bytes that are saved

-- behind all removed tails an offset moves down by all that they save
down-all : (m : ℕ) (rs : List Removed) (n : ℕ) → ApartFrom m rs → All (λ (r : Removed). tail_end r ≤ n) rs → moved_down rs n + saved_bytes rs ≡ n
down-all m [] n a ends = omega arith
down-all m (r ∷ rs) n a ends =
    let long = a.1 in
    let end = All-head (λ (r : Removed). tail_end r ≤ n) r rs ends in
    let past = down-past r rs n (omega (arith, long, end)) end in
    let low = floor (tail_end r) rs n a.2 end in
    let rest = down-all (tail_end r) rs n a.2 (All-tail (λ (r : Removed). tail_end r ≤ n) r rs ends) in
    omega (arith, past, low, rest, long, sum_by-cons bytes_saved_by r rs)

from-ends : (m : ℕ) (hosts : List (List CodeItem)) (before cs : List CodeItem) (n : ℕ) → Backward n before → Forward n cs → All (λ (c : CodeItem). c.offset + c.size ≤ m) cs → All (λ (r : Removed). tail_end r ≤ m) (removed_from hosts before cs)
from-ends m hosts before [] n b f all = All-nil (λ (r : Removed). tail_end r ≤ m)
from-ends m hosts before (c ∷ cs) n b f all =
    let behind = subst (λ n. Backward n before) (sym f.0) b in
    let rest = All-tail (λ (c : CodeItem). c.offset + c.size ≤ m) c cs all in
    by behind (All-head (λ (c : CodeItem). c.offset + c.size ≤ m) c cs all)
    (from-ends m hosts (c ∷ before) cs (c.offset + c.size) (refl, behind) f.1 rest)
    (from-ends m (hosts ++ (c ∷ before) ∷ []) (c ∷ before) cs (c.offset + c.size) (refl, behind) f.1 rest)
    (ends_tail c)
  where
    removed : Backward c.offset before → c.offset + c.size ≤ m → (b : Bool) → ltb 4 (bytes_of_all (longest_tail (c ∷ before) hosts).tail) ≡ b → All (λ (r : Removed). tail_end r ≤ m) (removed_from hosts (c ∷ before) cs) → All (λ (r : Removed). tail_end r ≤ m) (removed_from (hosts ++ (c ∷ before) ∷ []) (c ∷ before) cs)
        → All (λ (r : Removed). tail_end r ≤ m) (cond b (longest_tail (c ∷ before) hosts ∷ removed_from hosts (c ∷ before) cs) (removed_from (hosts ++ (c ∷ before) ∷ []) (c ∷ before) cs))
    removed behind own false e on also = also
    removed behind own true e on also =
        let best = longest_tail (c ∷ before) hosts in
        let some = some-items best.tail (c ∷ before) (longest-prefix (c ∷ before) (record { tail = []; host = [] }) (0, refl) hosts) (ltb-true 4 (bytes_of_all best.tail) e) in
        let end = (removed-end c before best.tail some.0 some.1 behind).1 in
        All-cons (λ (r : Removed). tail_end r ≤ m) best (removed_from hosts (c ∷ before) cs) (omega (arith, end, own)) on

    by : Backward c.offset before → c.offset + c.size ≤ m → All (λ (r : Removed). tail_end r ≤ m) (removed_from hosts (c ∷ before) cs) → All (λ (r : Removed). tail_end r ≤ m) (removed_from (hosts ++ (c ∷ before) ∷ []) (c ∷ before) cs) → (b : Bool)
        → All (λ (r : Removed). tail_end r ≤ m) (cond (not b) (removed_from hosts (c ∷ before) cs) (cond (ltb 4 (bytes_of_all (longest_tail (c ∷ before) hosts).tail)) (longest_tail (c ∷ before) hosts ∷ removed_from hosts (c ∷ before) cs) (removed_from (hosts ++ (c ∷ before) ∷ []) (c ∷ before) cs)))
    by behind own on also false = on
    by behind own on also true = removed behind own (ltb 4 (bytes_of_all (longest_tail (c ∷ before) hosts).tail)) refl on also

module _ (inputs : ParsedInputs) (l : IndexedSection) (code : is_code_section l.section ≡ true) (whole : IsWhole l.section) where
  item-held : (n : ℕ) → n % code_step l.section.compressed ≡ 0 → n < length l.section.bytes → IsHeld l.section (code_item inputs l n)
  item-held n words lt =
      let s = step l.section code whole n words lt in
      let some = s.some in
      record {
        some = omega (arith, some);
        even = step_even l.section.compressed (size_on l.section n) s.words;
        within = s.inside;
        size = λ none. subst (λ k. (k ≡ 2) ⊎ (k ≡ 4)) (sym (ap (λ o. option_map_or field_of o (own_size l.section.compressed l.section.bytes n)) none)) (own-two-four l.section.compressed l.section.bytes n);
      }

  from-held : (fuel n : ℕ) → n % code_step l.section.compressed ≡ 0 → All (IsHeld l.section) (map (code_item inputs l) (starts_from fuel l.section n))
  from-held zero n words = All-nil (IsHeld l.section)
  from-held (suc fuel) n words = by (λ w. from-held fuel (n + size_on l.section n) w) (ltb n (length l.section.bytes)) refl
    where
      by : ((n + size_on l.section n) % code_step l.section.compressed ≡ 0 → All (IsHeld l.section) (map (code_item inputs l) (starts_from fuel l.section (n + size_on l.section n)))) → (b : Bool) → ltb n (length l.section.bytes) ≡ b
          → All (IsHeld l.section) (map (code_item inputs l) (cond b (n ∷ starts_from fuel l.section (n + size_on l.section n)) []))
      by rest false e = All-nil (IsHeld l.section)
      by rest true e =
          let lt = ltb-true n (length l.section.bytes) e in
          All-cons (IsHeld l.section) (code_item inputs l n) (map (code_item inputs l) (starts_from fuel l.section (n + size_on l.section n))) (item-held n words lt)
          (rest (steps-add l.section.compressed n (size_on l.section n) words (step l.section code whole n words lt).words))

  zero-steps : (compressed : Bool) → 0 % code_step compressed ≡ 0
  zero-steps true = refl
  zero-steps false = refl

  pub items-held : All (IsHeld l.section) (code_items inputs l)
  unfolding starts_in
  items-held = from-held (length l.section.bytes) 0 (zero-steps l.section.compressed)

  -- the items' bytes are the section's
  all-bytes : (fuel n : ℕ) → n % code_step l.section.compressed ≡ 0 → n ≤ length l.section.bytes → length l.section.bytes ≤ n + fuel → n + bytes_of_all (map (code_item inputs l) (starts_from fuel l.section n)) ≡ length l.section.bytes
  all-bytes zero n words le more = omega (arith, le, more)
  all-bytes (suc fuel) n words le more = by (λ w a b. all-bytes fuel (n + size_on l.section n) w a b) (ltb n (length l.section.bytes)) refl
    where
      by : ((n + size_on l.section n) % code_step l.section.compressed ≡ 0 → n + size_on l.section n ≤ length l.section.bytes → length l.section.bytes ≤ n + size_on l.section n + fuel → n + size_on l.section n + bytes_of_all (map (code_item inputs l) (starts_from fuel l.section (n + size_on l.section n))) ≡ length l.section.bytes)
          → (b : Bool) → ltb n (length l.section.bytes) ≡ b → n + bytes_of_all (map (code_item inputs l) (cond b (n ∷ starts_from fuel l.section (n + size_on l.section n)) [])) ≡ length l.section.bytes
      by rest false e = elim (cases_lt n (length l.section.bytes)) [
        | inl lt ↦ absurd (let t : ltb n (length l.section.bytes) ≡ true = lt-ltb n (length l.section.bytes) lt in cc)
        | inr past ↦ omega (arith, past, le)
      ]
      by rest true e =
          let lt = ltb-true n (length l.section.bytes) e in
          let s = step l.section code whole n words lt in
          let some = s.some in
          let inside = s.inside in
          let on = rest (steps-add l.section.compressed n (size_on l.section n) words s.words) inside (omega (arith, some, more)) in
          omega (arith, on, sum_by-cons (λ (c : CodeItem). c.size) (code_item inputs l n) (map (code_item inputs l) (starts_from fuel l.section (n + size_on l.section n))))

  pub items-bytes : bytes_of_all (code_items inputs l) ≡ length l.section.bytes
  unfolding starts_in
  items-bytes = let all = all-bytes (length l.section.bytes) 0 (zero-steps l.section.compressed) (omega arith) (omega arith) in omega (arith, all)

  -- the new section ends where the old end moves to
  pub new-length : length (merged_bytes inputs l) ≡ moved_down (removed_tails inputs l) (length l.section.bytes)
  new-length = merged-length inputs l items-held ∙ ap (moved_down (removed_tails inputs l)) items-bytes

  pub removed-ends : All (λ (r : Removed). tail_end r ≤ length l.section.bytes) (removed_tails inputs l)
  removed-ends =
      removed-cases (All (λ (r : Removed). tail_end r ≤ length l.section.bytes)) inputs l (All-nil (λ (r : Removed). tail_end r ≤ length l.section.bytes))
      (from-ends (length l.section.bytes) [] [] (code_items inputs l) 0 tt (items-forward inputs l) (All-weaker (IsHeld l.section) (λ (c : CodeItem). c.offset + c.size ≤ length l.section.bytes) (λ c h. h.within) (code_items inputs l) items-held))

  -- a section's bytes are the given ones less those that its removed tails save
  pub bytes-saved : length (merged_bytes inputs l) + saved_bytes (removed_tails inputs l) ≡ length l.section.bytes
  bytes-saved = let all = down-all 0 (removed_tails inputs l) (length l.section.bytes) (removed-apart inputs l) removed-ends in let new = new-length in omega (arith, all, new)
