-- Which relocation decides the item at each halfword, as a table is filled: the first of those so far that are right and begin
-- there.
use Rattle.std.proofs.Common.{◌≡◌, ◌≢◌, ℕ, ◌+◌, ◌-◌, ◌*◌, ◌/◌, ◌%◌, ◌<◌, ◌≤◌, List, length, get_or, take, Bool, true, false, cond, Option, Some, None, slice_get, refl, sym, ap, ◌∙◌, arith, eqb, eq-eqb, inl, inr}
use Rattle.std.specs.Prelude.{◌&&◌}
use Rattle.std.specs.List.{find}
use Rattle.std.specs.Option.{option_map, option_map_or, option_or}
use Rattle.std.proofs.lemmas.Bool.{cases_eq, ne_eqb}
use Rattle.std.proofs.lemmas.List.{take_all}
use Rattle.std.proofs.lemmas.Option.{slice_get-get_or, slice_get_within}
use Rattle.elf32_read.specs.Parts.{is_code_section}
use Rattle.elf32_read.specs.declared.reloc.Reloc.{Reloc}
use Rattle.psabi_sym.specs.Inputs.{ParsedInputs}
use Rattle.psabi_sym.specs.Indexed.{IndexedSection}
use Rattle.block_cut.specs.Items.{item_in, item_under, place_of, size_on}
use Rattle.block_cut.specs.Relocs.{field_of, reloc_on}
use Rattle.block_cut.specs.Resolved.{is_right, is_right_at, resolved_item, resolved_reloc, resolved_relocs}
use Rattle.block_cut.specs.Invariants.HalfwordTables.{IsRelocTable, numbered}
use Rattle.block_cut.specs.CodeSizes.{own_size}
use Rattle.block_cut.specs.declared.resolved_reloc.ResolvedReloc.{ResolvedReloc}
use Rattle.block_cut.proofs.ResolvedLaws.{resolved_at, resolved_on}
use Rattle.block_cut.proofs.WordLaws.{found_next}
use Rattle.psabi_sym.proofs.Tables.{or_none}

-- the table after k relocations
pub record IsTableSoFar (relocs : List ResolvedReloc) (count k : ℕ) (table : List ℕ) : Type 0 where
  pub count_is : length table ≡ count
  pub low : (j : ℕ) → j < count → get_or table j 0 ≤ k
  pub each : (j : ℕ) → j < count → numbered relocs (get_or table j 0) ≡ find (is_right_at (2 * j)) (take k relocs)

-- by what the entry is
numbered_none : (relocs : List ResolvedReloc) (n : ℕ) → n ≡ 0 → numbered relocs n ≡ None
numbered_none relocs n e = ap (λ b. cond b None (slice_get relocs (n - 1))) (eq-eqb n 0 e)

numbered_some : (relocs : List ResolvedReloc) (n : ℕ) → n ≢ 0 → numbered relocs n ≡ slice_get relocs (n - 1)
numbered_some relocs n ne = ap (λ b. cond b None (slice_get relocs (n - 1))) (ne_eqb n 0 ne)

module _ (relocs : List ResolvedReloc) (count k : ℕ) (r : ResolvedReloc) (at : slice_get relocs k ≡ Some r) where
  -- the table with one relocation more, which is right
  pub table_next : (old new : List ℕ) → is_right r.fault ≡ true → r.offset % 2 ≡ 0 → IsTableSoFar relocs count k old → length new ≡ length old
      → ((j : ℕ) → j < length old → get_or new j 0 ≡ cond (eqb j (r.offset / 2)) (cond (eqb (get_or old j 0) 0) (k + 1) (get_or old j 0)) (get_or old j 0))
      → IsTableSoFar relocs count (k + 1) new
  table_next old new right even was long is = record {
    count_is = long ∙ was.count_is;
    low = λ j lt. (one j lt).0;
    each = λ j lt. (one j lt).1;
  }
    where
      one : (j : ℕ) → j < count → (get_or new j 0 ≤ k + 1) × (numbered relocs (get_or new j 0) ≡ find (is_right_at (2 * j)) (take (k + 1) relocs))
      one j lt =
          let inside : j < length old = omega (arith, lt, was.count_is) in
          let found = found_next (is_right_at (2 * j)) relocs k r at in
          let had = was.each j lt in
          let low = was.low j lt in
          let passes : is_right_at (2 * j) r ≡ eqb r.offset (2 * j) = ap (λ b. b && eqb r.offset (2 * j)) right in
          elim (cases_eq j (r.offset / 2)) [
            | inl e ↦
                let same : eqb r.offset (2 * j) ≡ true = eq-eqb r.offset (2 * j) (omega (arith, e, even)) in
                let here : get_or new j 0 ≡ cond (eqb (get_or old j 0) 0) (k + 1) (get_or old j 0) =
                is j inside ∙ ap (λ b. cond b (cond (eqb (get_or old j 0) 0) (k + 1) (get_or old j 0)) (get_or old j 0)) (eq-eqb j (r.offset / 2) e) in
                let after : find (is_right_at (2 * j)) (take (k + 1) relocs) ≡ option_or (find (is_right_at (2 * j)) (take k relocs)) (Some r) =
                found ∙ ap (λ b. option_or (find (is_right_at (2 * j)) (take k relocs)) (cond b (Some r) None)) (passes ∙ same) in
                elim (cases_eq (get_or old j 0) 0) [
                  | inl zero_is ↦
                      let own : get_or new j 0 ≡ k + 1 = here ∙ ap (λ b. cond b (k + 1) (get_or old j 0)) (eq-eqb (get_or old j 0) 0 zero_is) in
                      let less : get_or new j 0 - 1 ≡ k = omega (arith, own) in
                      let before : find (is_right_at (2 * j)) (take k relocs) ≡ None = sym had ∙ numbered_none relocs (get_or old j 0) zero_is in (
                        omega (arith, own),
                        numbered_some relocs (get_or new j 0) (λ n. omega (arith, n, own)) ∙ ap (slice_get relocs) less ∙ at
                            ∙ sym (after ∙ ap (λ o. option_or o (Some r)) before),
                      )
                  | inr some ↦
                      let own : get_or new j 0 ≡ get_or old j 0 = here ∙ ap (λ b. cond b (k + 1) (get_or old j 0)) (ne_eqb (get_or old j 0) 0 some) in
                      let there : get_or old j 0 - 1 < length relocs = omega (arith, low, some, slice_get_within relocs k r at) in
                      let before : find (is_right_at (2 * j)) (take k relocs) ≡ Some (get_or relocs (get_or old j 0 - 1) r) =
                      sym had ∙ numbered_some relocs (get_or old j 0) some ∙ slice_get-get_or relocs (get_or old j 0 - 1) r there in (
                        omega (arith, own, low),
                        ap (numbered relocs) own ∙ had ∙ before ∙ sym (after ∙ ap (λ o. option_or o (Some r)) before),
                      )
                ]
            | inr ne ↦
                let other : eqb r.offset (2 * j) ≡ false = ne_eqb r.offset (2 * j) (λ e. ne (omega (arith, e))) in
                let own : get_or new j 0 ≡ get_or old j 0 =
                is j inside ∙ ap (λ b. cond b (cond (eqb (get_or old j 0) 0) (k + 1) (get_or old j 0)) (get_or old j 0)) (ne_eqb j (r.offset / 2) ne) in (
                  omega (arith, own, low),
                  ap (numbered relocs) own ∙ had
                      ∙ sym (found ∙ ap (λ b. option_or (find (is_right_at (2 * j)) (take k relocs)) (cond b (Some r) None)) (passes ∙ other) ∙ or_none (find (is_right_at (2 * j)) (take k relocs))),
                )
          ]

  -- or which says nothing at any halfword
  pub table_other : (table : List ℕ) → ((j : ℕ) → is_right_at (2 * j) r ≡ false) → IsTableSoFar relocs count k table → IsTableSoFar relocs count (k + 1) table
  table_other table fails was = record {
    count_is = was.count_is;
    low = λ j lt. omega (arith, was.low j lt);
    each = λ j lt.
        was.each j lt
        ∙ sym (found_next (is_right_at (2 * j)) relocs k r at ∙ ap (λ b. option_or (find (is_right_at (2 * j)) (take k relocs)) (cond b (Some r) None)) (fails j)
        ∙ or_none (find (is_right_at (2 * j)) (take k relocs)));
  }

  -- a relocation that isn't right, or stands at an odd offset, is right at no halfword
  pub wrong_fails : is_right r.fault ≡ false → (j : ℕ) → is_right_at (2 * j) r ≡ false
  wrong_fails wrong j = ap (λ b. b && eqb r.offset (2 * j)) wrong

  pub odd_fails : r.offset % 2 ≢ 0 → (j : ℕ) → is_right_at (2 * j) r ≡ false
  odd_fails odd j = ap (λ b. is_right r.fault && b) (ne_eqb r.offset (2 * j) (λ e. odd (omega (arith, e)))) ∙ by (is_right r.fault)
    where
      by : (b : Bool) → (b && false) ≡ false
      by true = refl
      by false = refl

-- at first there are none
pub table_first : (relocs : List ResolvedReloc) (count : ℕ) (table : List ℕ) → length table ≡ count → ((j : ℕ) → j < count → get_or table j 0 ≡ 0) → IsTableSoFar relocs count 0 table
table_first relocs count table long zeros = record {
  count_is = long;
  low = λ j lt. omega (arith, zeros j lt);
  each = λ j lt. numbered_none relocs (get_or table j 0) (zeros j lt) ∙ sym (nothing j relocs);
}
  where
    nothing : (j : ℕ) (xs : List ResolvedReloc) → find (is_right_at (2 * j)) (take 0 xs) ≡ None
    nothing j xs = refl

-- after all of them
pub table_all : (relocs : List ResolvedReloc) (count k : ℕ) (table : List ℕ) → length relocs ≤ k → IsTableSoFar relocs count k table → IsRelocTable relocs count table
table_all relocs count k table past is = record {
  count_is = is.count_is;
  each = λ j lt. is.each j lt ∙ ap (find (is_right_at (2 * j))) (take_all k relocs past);
}

-- ---- what the relocation at an offset says

-- the number of bytes of the item at an offset, by the relocation in the table
pub sized_on : (inputs : ParsedInputs) (l : IndexedSection) (n : ℕ) → is_code_section l.section ≡ true
    → option_map_or (λ d. d.size) (find (is_right_at n) (resolved_relocs inputs l)) (own_size l.section.compressed l.section.bytes n) ≡ size_on l.section n
sized_on inputs l n code = ap (λ o. option_map_or (λ (d : ResolvedReloc). d.size) o own) (resolved_on inputs l n) ∙ by (reloc_on l.section n) refl
  where
    own : ℕ
    own = own_size l.section.compressed l.section.bytes n

    by : (o : Option Reloc) → reloc_on l.section n ≡ o → option_map_or (λ (d : ResolvedReloc). d.size) (option_map (resolved_reloc inputs l) o) own ≡ option_map_or field_of o own
    by None at = refl
    by (Some r) at = (resolved_at inputs l n r code at).size

-- the item at an offset by its relocation in the table
pub item_with : (inputs : ParsedInputs) (l : IndexedSection) (n : ℕ) (d : ResolvedReloc) → is_code_section l.section ≡ true → find (is_right_at n) (resolved_relocs inputs l) ≡ Some d
    → resolved_item d l.section.bytes n ≡ item_in inputs l.section (place_of l n)
item_with inputs l n d code found = by (reloc_on l.section n) refl (sym (resolved_on inputs l n) ∙ found)
  where
    by : (o : Option Reloc) → reloc_on l.section n ≡ o → option_map (resolved_reloc inputs l) o ≡ Some d → resolved_item d l.section.bytes n ≡ item_in inputs l.section (place_of l n)
    by None at is = absurd cc
    by (Some r) at is =
        let same : resolved_reloc inputs l r ≡ d = cc in
        ap (λ x. resolved_item x l.section.bytes n) (sym same) ∙ (resolved_at inputs l n r code at).item l.section.bytes n
        ∙ ap (λ o. item_under inputs (place_of l n) o (size_on l.section n) l.section.bytes) (sym at)

-- the item at an offset without a relocation in the table
pub item_without : (inputs : ParsedInputs) (l : IndexedSection) (n : ℕ) → find (is_right_at n) (resolved_relocs inputs l) ≡ None
    → item_under inputs (place_of l n) None (own_size l.section.compressed l.section.bytes n) l.section.bytes ≡ item_in inputs l.section (place_of l n)
item_without inputs l n found = by (reloc_on l.section n) refl (sym (resolved_on inputs l n) ∙ found)
  where
    own : ℕ
    own = own_size l.section.compressed l.section.bytes n

    by : (o : Option Reloc) → reloc_on l.section n ≡ o → option_map (resolved_reloc inputs l) o ≡ None → item_under inputs (place_of l n) None own l.section.bytes ≡ item_in inputs l.section (place_of l n)
    by None at is = ap (λ o. item_under inputs (place_of l n) o (option_map_or field_of o own) l.section.bytes) (sym at)
    by (Some r) at is = absurd cc
