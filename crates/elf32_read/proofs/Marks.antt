-- Marks of the kept sections for which a RELA section was seen.
use Rattle.std.proofs.Common.{◌≡◌, ◌≢◌, ℕ, ◌+◌, ◌<◌, ◌≤◌, List, length, get_or, set, map, Bool, true, false, cond, refl, sym, ap, ◌∙◌, arith, eqb, ltb, eq-eqb}
use Rattle.std.specs.Prelude.{◌&&◌, filter, nat_lt}
use Rattle.std.specs.List.{range_with_len}
use Rattle.std.proofs.lemmas.Bool.{and_parts, eqb-true, false_from_ne_true, le-ltb, lt-ltb, ltb-true}
use Rattle.std.proofs.lemmas.List.{get_or-set_other, get_or-set_same, length-set}
use Rattle.elf32_read.specs.Header.{header_of, section_count}
use Rattle.elf32_read.specs.Kept.{is_kept}
use Rattle.elf32_read.specs.Object.{has_two_relas, is_changed_twice, is_kept_rela}
use Rattle.elf32_read.specs.declared.header.SectionHeader.{SectionHeader}
use Rattle.elf32_read.proofs.Filtered.{count_more, count_same, kept_length}
use Rattle.elf32_read.proofs.Listed.{no_index, some_in_range}
use Rattle.elf32_read.proofs.Tests.{changes}

-- the number of RELA sections for this section among the first n
abbrev pub relas_until : List ℕ → ℕ → ℕ → ℕ
relas_until bytes k n = length (filter (changes k) (map (header_of bytes) (range_with_len 0 n)))

-- each kept section is marked exactly if one of the first n sections is a RELA for it, and no two of them are
pub record AreMarked (bytes : List ℕ) (marks : List Bool) (n : ℕ) : Type 0 where
  pub room : section_count bytes ≤ length marks
  pub each : (k : ℕ) → k < section_count bytes → is_kept bytes (header_of bytes k) ≡ true → relas_until bytes k n ≡ cond (get_or marks k false) 1 0

module _ (bytes : List ℕ) where
  -- a RELA for a kept section, by its parts
  pub record IsFor (h : SectionHeader) (k : ℕ) : Type 0 where
    pub within : k < section_count bytes
    pub kept : is_kept bytes (header_of bytes k) ≡ true
    pub changes : changes k h ≡ true

  pub rela_is_for : (h : SectionHeader) → is_kept_rela bytes h ≡ true → IsFor h h.info
  rela_is_for h rela =
      let both = and_parts (eqb h.kind 4 && ltb h.info (section_count bytes)) (is_kept bytes (header_of bytes h.info)) rela in
      let parts = and_parts (eqb h.kind 4) (ltb h.info (section_count bytes)) both.0 in
      record {
        within = ltb-true h.info (section_count bytes) parts.1;
        kept = both.1;
        changes = ap (λ b. b && eqb h.info h.info) parts.0 ∙ eq-eqb h.info h.info refl;
      }

  -- a section with the relocations of a kept section is a RELA for a kept section
  pub for_is_rela : (h : SectionHeader) (k : ℕ) → IsFor h k → is_kept_rela bytes h ≡ true
  for_is_rela h k for =
      let parts = and_parts (eqb h.kind 4) (eqb h.info k) for.changes in
      let same : h.info ≡ k = eqb-true h.info k parts.1 in
      let lt : h.info < section_count bytes = omega (arith, same, for.within) in
      ap (λ b. b && ltb h.info (section_count bytes) && is_kept bytes (header_of bytes h.info)) parts.0
      ∙ ap (λ b. b && is_kept bytes (header_of bytes h.info)) (lt-ltb h.info (section_count bytes) lt)
      ∙ ap (λ n. is_kept bytes (header_of bytes n)) same ∙ for.kept

  -- the marks after a section that is no RELA for a kept section
  pub marked_same : (marks : List Bool) (n : ℕ) (h : SectionHeader) → h ≡ header_of bytes n → AreMarked bytes marks n → is_kept_rela bytes h ≡ false → AreMarked bytes marks (n + 1)
  marked_same marks n h is before other = record { room = before.room; each = each }
    where
      each : (k : ℕ) → k < section_count bytes → is_kept bytes (header_of bytes k) ≡ true → relas_until bytes k (n + 1) ≡ cond (get_or marks k false) 1 0
      each k lt kept =
          let not_for : changes k h ≡ false = false_from_ne_true (changes k h) (λ yes. cc (other, for_is_rela h k (record { within = lt; kept = kept; changes = yes }))) in
          count_same (changes k) (header_of bytes) n (sym (ap (changes k) is) ∙ not_for) ∙ before.each k lt kept

  -- the marks after the first RELA for a kept section
  pub marked_more : (marks : List Bool) (n : ℕ) (h : SectionHeader) → h ≡ header_of bytes n → AreMarked bytes marks n → is_kept_rela bytes h ≡ true → get_or marks h.info false ≡ false → AreMarked bytes (set marks h.info true) (n + 1)
  marked_more marks n h is before rela new =
      record { room = omega (arith, before.room, length-set marks h.info true); each = λ k lt kept. by k lt kept (eqb k h.info) refl }
    where
      inside : h.info < length marks
      inside = omega (arith, (rela_is_for h rela).within, before.room)

      by : (k : ℕ) → k < section_count bytes → is_kept bytes (header_of bytes k) ≡ true → (b : Bool) → eqb k h.info ≡ b → relas_until bytes k (n + 1) ≡ cond (get_or (set marks h.info true) k false) 1 0
      by k lt kept true e =
          let same : k ≡ h.info = eqb-true k h.info e in
          let yes : changes k (header_of bytes n) ≡ true = ap (changes k) (sym is) ∙ ap (λ j. changes j h) same ∙ (rela_is_for h rela).changes in
          let none : relas_until bytes k n ≡ 0 = before.each k lt kept ∙ ap (λ j. cond (get_or marks j false) 1 0) same ∙ ap (λ b. cond b 1 0) new in
          let marked : get_or (set marks h.info true) k false ≡ true = ap (λ j. get_or (set marks h.info true) j false) same ∙ get_or-set_same marks h.info true false inside in
          count_more (changes k) (header_of bytes) n yes ∙ ap (λ j. j + 1) none ∙ sym (ap (λ b. cond b 1 0) marked)
      by k lt kept false e =
          let other : k ≢ h.info = λ same. cc (e, eq-eqb k h.info same) in
          let no : changes k h ≡ false = false_from_ne_true (changes k h) (λ yes. other (sym (eqb-true h.info k (and_parts (eqb h.kind 4) (eqb h.info k) yes).1))) in
          count_same (changes k) (header_of bytes) n (sym (ap (changes k) is) ∙ no) ∙ before.each k lt kept
          ∙ sym (ap (λ b. cond b 1 0) (get_or-set_other marks h.info k true false other))

  -- a second RELA for the same kept section
  pub marked_twice : (marks : List Bool) (n : ℕ) (h : SectionHeader) → h ≡ header_of bytes n → n < section_count bytes → AreMarked bytes marks n → is_kept_rela bytes h ≡ true → get_or marks h.info false ≡ true → has_two_relas bytes ≡ true
  marked_twice marks n h is inside before rela marked =
      let for = rela_is_for h rela in
      let count = section_count bytes in
      let one : relas_until bytes h.info n ≡ 1 = before.each h.info for.within for.kept ∙ ap (λ b. cond b 1 0) marked in
      let more = count_more (changes h.info) (header_of bytes) n (ap (changes h.info) (sym is) ∙ for.changes) in
      let all = kept_length (changes h.info) (header_of bytes) count (n + 1) (omega arith) in
      let two : 1 < relas_until bytes h.info count = omega (arith, one, more, all) in
      some_in_range (is_changed_twice bytes) count h.info for.within (ap (λ b. b && nat_lt 1 (relas_until bytes h.info count)) for.kept ∙ lt-ltb 1 (relas_until bytes h.info count) two)

  -- no kept section has two RELA among all sections
  pub marked_once : (marks : List Bool) → AreMarked bytes marks (section_count bytes) → has_two_relas bytes ≡ false
  marked_once marks marked =
      let count = section_count bytes in
      no_index (is_changed_twice bytes) 0 count (λ k ge lt. by k (omega (arith, lt)) (is_kept bytes (header_of bytes k)) refl)
    where
      few : (b : Bool) → cond b 1 0 < 2
      few true = omega arith
      few false = omega arith

      by : (k : ℕ) → k < section_count bytes → (b : Bool) → is_kept bytes (header_of bytes k) ≡ b → (b && nat_lt 1 (relas_until bytes k (section_count bytes))) ≡ false
      by k lt false kept = refl
      by k lt true kept =
          let count = section_count bytes in
          le-ltb 1 (relas_until bytes k count) (omega (arith, marked.each k lt kept, few (get_or marks k false)))
