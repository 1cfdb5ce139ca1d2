-- The table of the sections with relocations, by the sections that were looked at.
use Rattle.std.proofs.Common.{◌≡◌, ◌≢◌, ℕ, ◌+◌, ◌<◌, ◌≤◌, List, [], length, get_or, set, true, false, cond, Option, Some, None, refl, sym, ap, subst, ◌∙◌, arith, eqb, inl, inr}
use Rattle.std.specs.Prelude.{◌&&◌, nat_lt, replicate}
use Rattle.std.specs.List.{flat_map}
use Rattle.std.proofs.lemmas.Bool.{and_parts, cases_Bool, cases_eq, eqb-true, false_from_ne_true, ltb-false}
use Rattle.std.proofs.lemmas.List.{append-nil, get_or-replicate, get_or-set_other, get_or-set_same, length-replicate, length-set}
use Rattle.elf32_read.specs.Header.{IsOnly, header_of, section_count}
use Rattle.elf32_read.specs.Kept.{is_kept}
use Rattle.elf32_read.specs.Object.{has_two_relas, is_changed_twice, is_kept_rela}
use Rattle.elf32_read.specs.Parts.{relocs_held}
use Rattle.elf32_read.specs.Relas.{IsRelaOf}
use Rattle.elf32_read.specs.Relocs.{relas_for}
use Rattle.elf32_read.specs.declared.header.SectionHeader.{SectionHeader}
use Rattle.elf32_read.proofs.Alone.{Found, found_more, found_only, found_same}
use Rattle.elf32_read.proofs.Listed.{none_in_range}
use Rattle.elf32_read.proofs.Marks.{for_is_rela, rela_is_for}
use Rattle.elf32_read.proofs.Tests.{changes}

-- the table has, for each kept section, the one of the first n sections that is a RELA for it, and `None` for a
-- dropped section
pub record AreFound (bytes : List ℕ) (table : List (Option ℕ)) (n : ℕ) : Type 0 where
  pub room : length table ≡ section_count bytes
  pub kept : (s : ℕ) → s < section_count bytes → is_kept bytes (header_of bytes s) ≡ true → Found (changes s) (header_of bytes) n (get_or table s None)
  pub dropped : (s : ℕ) → s < section_count bytes → is_kept bytes (header_of bytes s) ≡ false → get_or table s None ≡ None

module _ (bytes : List ℕ) (once : has_two_relas bytes ≡ false) where
  -- no kept section has two RELA sections
  one : (s : ℕ) → s < section_count bytes → is_kept bytes (header_of bytes s) ≡ true → length (relas_for bytes s) ≤ 1
  one s within kept =
      ltb-false 1 (length (relas_for bytes s)) (sym (ap (λ b. b && nat_lt 1 (length (relas_for bytes s))) kept) ∙ none_in_range (is_changed_twice bytes) (section_count bytes) s once within)

  -- nothing is found yet
  pub found_none : AreFound bytes (replicate (section_count bytes) None) 0
  found_none = record {
    room = length-replicate (section_count bytes) None;
    kept = λ s within kept. subst (Found (changes s) (header_of bytes) 0) (sym (get_or-replicate (section_count bytes) s None None within)) refl;
    dropped = λ s within dropped. get_or-replicate (section_count bytes) s None None within;
  }

  -- the next section is no RELA for a kept section
  pub found_next_same : (table : List (Option ℕ)) (n : ℕ) (h : SectionHeader) → h ≡ header_of bytes n → AreFound bytes table n → is_kept_rela bytes h ≡ false → AreFound bytes table (n + 1)
  found_next_same table n h is before other = record {
    room = before.room;
    kept = λ s within kept.
        let not_for : changes s h ≡ false = false_from_ne_true (changes s h) (λ yes. cc (other, for_is_rela bytes h s (record { within = within; kept = kept; changes = yes }))) in
        found_same (changes s) (header_of bytes) n (get_or table s None) (before.kept s within kept) (sym (ap (changes s) is) ∙ not_for);
    dropped = before.dropped;
  }

  -- the next section is a RELA for a kept section
  pub found_next : (table : List (Option ℕ)) (n : ℕ) (h : SectionHeader) → h ≡ header_of bytes n → n < section_count bytes → AreFound bytes table n → is_kept_rela bytes h ≡ true
      → AreFound bytes (set table h.info (Some n)) (n + 1)
  found_next table n h is inside before rela = record {
    room = length-set table h.info (Some n) ∙ before.room;
    kept = λ s within kept. elim (cases_eq s h.info) [
      | inl same ↦
          let yes : changes s (header_of bytes n) ≡ true = ap (changes s) (sym is) ∙ ap (λ j. changes j h) same ∙ (rela_is_for bytes h rela).changes in
          subst (Found (changes s) (header_of bytes) (n + 1)) (sym (ap (λ j. get_or (set table h.info (Some n)) j None) same ∙ get_or-set_same table h.info (Some n) None room))
          (found_more (changes s) (header_of bytes) (section_count bytes) n (get_or table s None) (one s within kept) inside (before.kept s within kept) yes)
      | inr other ↦
          let no : changes s h ≡ false = false_from_ne_true (changes s h) (λ yes. other (sym (eqb-true h.info s (and_parts (eqb h.kind 4) (eqb h.info s) yes).1))) in
          subst (Found (changes s) (header_of bytes) (n + 1)) (sym (get_or-set_other table h.info s (Some n) None other))
          (found_same (changes s) (header_of bytes) n (get_or table s None) (before.kept s within kept) (sym (ap (changes s) is) ∙ no))
    ];
    dropped = λ s within dropped.
        let other : s ≢ h.info = λ same. cc (dropped, ap (λ j. is_kept bytes (header_of bytes j)) same, (rela_is_for bytes h rela).kept) in
        get_or-set_other table h.info s (Some n) None other ∙ before.dropped s within dropped;
  }
    where
      room : h.info < length table
      room = omega (arith, before.room, (rela_is_for bytes h rela).within)

  -- what is found for a kept section has its relocations
  held : (s : ℕ) (found : Option ℕ) → is_kept bytes (header_of bytes s) ≡ true → IsOnly (changes s) bytes found → IsRelaOf bytes s found
  held s None kept only =
      ap (λ b. cond b (flat_map (relocs_held bytes) (relas_for bytes s)) []) kept ∙ ap (flat_map (relocs_held bytes)) only
  held s (Some rela) kept only =
      (only.0, ap (λ b. cond b (flat_map (relocs_held bytes) (relas_for bytes s)) []) kept ∙ ap (flat_map (relocs_held bytes)) only.1 ∙ append-nil (relocs_held bytes (header_of bytes rela)))

  -- the table once all sections were looked at
  pub found_all : (table : List (Option ℕ)) (n : ℕ) → n ≡ section_count bytes → AreFound bytes table n → (s : ℕ) → s < section_count bytes → IsRelaOf bytes s (get_or table s None)
  found_all table n all found s within = elim (cases_Bool (is_kept bytes (header_of bytes s))) [
    | inl kept ↦
        held s (get_or table s None) kept (found_only (changes s) bytes (get_or table s None)
        (subst (λ k. Found (changes s) (header_of bytes) k (get_or table s None)) all (found.kept s within kept)))
    | inr dropped ↦
        subst (IsRelaOf bytes s) (sym (found.dropped s within dropped)) (ap (λ b. cond b (flat_map (relocs_held bytes) (relas_for bytes s)) []) dropped)
  ]
