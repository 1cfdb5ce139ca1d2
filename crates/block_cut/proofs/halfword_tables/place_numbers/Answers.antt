-- Each halfword has the number of its place, and the next place comes when no bytes of the item are left.
use Rattle.std.proofs.Common.{◌≡◌, ◌++◌, ◌∷◌, [], ℕ, ◌+◌, ◌-◌, ◌*◌, ◌/◌, ◌≤◌, max, Bool, true, false, length, map, cond, eqb, eq-eqb, refl, sym, ap, subst, ◌∙◌, arith, inl, inr}
use Rattle.std.specs.Prelude.{◌||◌}
use Rattle.std.specs.List.{find, range_with_len}
use Rattle.std.specs.Option.{option_copied, option_map_or}
use Rattle.std.proofs.lemmas.Bool.{cases_eq, ne_eqb}
use Rattle.std.proofs.lemmas.List.{length-append}
use Rattle.std.proofs.lemmas.List.FromFn.{map-range_with_len_more}
use Rattle.elf32_read.specs.Parts.{SectionParts, is_code_section}
use Rattle.block_cut.specs.CodeSizes.{own_size}
use Rattle.block_cut.specs.Items.{size_on, starts_on}
use Rattle.block_cut.specs.PlainLayout.{starts_before}
use Rattle.block_cut.specs.Resolved.{is_right_at, resolved_relocs}
use Rattle.block_cut.specs.Invariants.HalfwordTables.{number_on}
use Rattle.block_cut.specs.Whole.{IsWhole}
use Rattle.block_cut.specs.declared.resolved_reloc.ResolvedReloc.{ResolvedReloc}
use Rattle.block_cut.proofs.StartLaws.{before_first_none}
use Rattle.block_cut.proofs.TableLaws.{sized_on}
use Rattle.block_cut.proofs.WordLaws.{IsNext, before_other, before_start, is_next, next_first, next_item, next_word}
use Rattle.block_cut.proofs.halfword_tables.place_numbers.Goals as goal

module _ (s : SectionParts) (code : is_code_section s ≡ true) (whole : IsWhole s) where
  -- a halfword further
  further : (k left new size : ℕ) → size ≡ size_on s (2 * k) → new ≡ cond (eqb left 0) size left - 2 → k + 1 ≤ length s.bytes / 2
      → IsNext s (2 * k) (2 * k + left) → IsNext s (2 * (k + 1)) (2 * (k + 1) + new)
  further k left new size sized is le before = elim (cases_eq left 0) [
    | inl e ↦
        let same : 2 * k + left ≡ 2 * k = omega (arith, e) in
        let next = next_item s code whole (2 * k) (subst (IsNext s (2 * k)) same before) (omega (arith, le)) in
        let own : new ≡ size - 2 = is ∙ ap (λ b. cond b size left - 2) (eq-eqb left 0 e) in
        let one : 2 * k + 2 ≡ 2 * (k + 1) = omega arith in
        let two : 2 * k + size_on s (2 * k) ≡ 2 * (k + 1) + new = omega (arith, sized, own, next.low) in
        subst (λ a. IsNext s a (2 * (k + 1) + new)) one (subst (IsNext s (2 * k + 2)) two next)
    | inr ne ↦
        let own : new ≡ left - 2 = is ∙ ap (λ b. cond b size left - 2) (ne_eqb left 0 ne) in
        let next = next_word s code whole (2 * k) (2 * k + left) before (omega arith) (λ e. ne (omega (arith, e))) in
        let one : 2 * k + 2 ≡ 2 * (k + 1) = omega arith in
        let two : 2 * k + left ≡ 2 * (k + 1) + new = omega (arith, own, next.low) in
        subst (λ a. IsNext s a (2 * (k + 1) + new)) one (subst (IsNext s (2 * k + 2)) two next)
  ]

  -- none are left where something starts
  starts_now : (k left : ℕ) → IsNext s (2 * k) (2 * k + left) → eqb left 0 ≡ (starts_on s (2 * k) || eqb (2 * k) (length s.bytes))
  starts_now k left next = elim (cases_eq left 0) [
    | inl e ↦ eq-eqb left 0 e ∙ sym (eq-eqb (2 * k + left) (2 * k) (omega (arith, e)))
    | inr ne ↦ ne_eqb left 0 ne ∙ sym (ne_eqb (2 * k + left) (2 * k) (λ e. ne (omega (arith, e))))
  ] ∙ is_next s code whole (2 * k) (2 * k + left) next

  -- the number of places before the next halfword
  counted : (k before number new : ℕ) → before ≡ length (starts_before s (2 * k)) → number ≡ number_on s (2 * k) → new ≡ max before number → k + 1 ≤ length s.bytes / 2
      → new ≡ length (starts_before s (2 * (k + 1)))
  counted k before number new was is new_is le = by (starts_on s (2 * k)) refl
    where
      next : 2 * (k + 1) ≡ 2 * k + 2
      next = omega arith

      inside : eqb (2 * k) (length s.bytes) ≡ false
      inside = ne_eqb (2 * k) (length s.bytes) (λ e. omega (arith, e, le))

      by : (b : Bool) → starts_on s (2 * k) ≡ b → new ≡ length (starts_before s (2 * (k + 1)))
      by true start =
          let own : number ≡ length (starts_before s (2 * k)) + 1 = is ∙ ap (λ b. cond (b || eqb (2 * k) (length s.bytes)) (length (starts_before s (2 * k)) + 1) 0) start in
          let more : length (starts_before s (2 * (k + 1))) ≡ length (starts_before s (2 * k)) + 1 =
          ap (λ n. length (starts_before s n)) next ∙ ap length (before_start s code whole (2 * k) start) ∙ length-append (starts_before s (2 * k)) (2 * k ∷ []) in
          omega (arith, new_is, own, was, more)
      by false other =
          let own : number ≡ 0 = is ∙ (λ j. cond (other j || inside j) (length (starts_before s (2 * k)) + 1) 0) in
          let same : length (starts_before s (2 * (k + 1))) ≡ length (starts_before s (2 * k)) =
          ap (λ n. length (starts_before s n)) next ∙ ap length (before_other s code whole (2 * k) (omega arith) other) in
          omega (arith, new_is, own, was, same)

pub loop-k-init : goal.loop-k-init
loop-k-init c = record {
  most = omega arith;
  each = λ inputs m code whole held compressed are table. (
    c.in_ok-numbers.ensures.items,
    λ le. (next_first m.section code whole, sym (ap length (before_first_none m.section code whole))),
  );
}

pub loop-k-preserved : goal.loop-k-preserved
loop-k-preserved c =
    let k = c.loop-k.k in
    let left = c.loop-k.left in
    let before = c.loop-k.before in
    let number = c.next_number-number.result in
    let few : number ≤ before + 1 = elim (cases_eq left 0) [
      | inl e ↦ omega (arith, c.next_number-number.ensures, ap (λ b. cond b (before + 1) 0) (eq-eqb left 0 e))
      | inr ne ↦ omega (arith, c.next_number-number.ensures, ap (λ b. cond b (before + 1) 0) (ne_eqb left 0 ne))
    ] in
    record {
      most = omega (arith, c.max-before.ensures, few, c.loop-k.invariant.most);
      each = λ inputs m code whole held compressed are table.
          let s = m.section in
          let inv = c.loop-k.invariant.each inputs m code whole held compressed are table in
          let within : k ≤ length s.bytes / 2 = omega (arith, table.count_is, c.loop-k-test.true) in
          let next = (inv.1 within).0 in
          let reloc : option_copied c.numbered.result ≡ find (is_right_at (2 * k)) (resolved_relocs inputs m) =
          c.numbered.ensures ∙ table.each k (omega (arith, within)) ∙ ap (find (is_right_at (2 * k))) are in
          let read = option_map_or (λ (d : ResolvedReloc). d.size) (option_copied c.numbered.result) (own_size c.args.content.now.compressed c.args.content.now.bytes (2 * k)) in
          let size : read ≡ size_on s (2 * k) =
          (λ j. option_map_or (λ (d : ResolvedReloc). d.size) (reloc j) (own_size (compressed j) (held j) (2 * k))) ∙ sized_on inputs m (2 * k) code in
          let is : number ≡ number_on s (2 * k) = c.next_number-number.ensures ∙ (λ j. cond (starts_now s code whole k left next j) ((inv.1 within).1 j + 1) 0) in (
            c.in_ok-push.ensures.items ∙ ap (λ l. l ++ number ∷ []) inv.0 ∙ ap (λ x. map (λ j. number_on s (2 * j)) (range_with_len 0 k) ++ x ∷ []) is
                ∙ sym (map-range_with_len_more (λ j. number_on s (2 * j)) 0 k k (omega arith)),
            λ le. (
              further s code whole k left c.left_after-left.result read size c.left_after-left.ensures le next,
              counted s code whole k before number c.max-before.result (inv.1 within).1 is (omega (arith, c.max-before.ensures)) le,
            ),
          );
    }

pub returns : goal.returns
returns c = λ inputs m code whole held compressed are table.
    let end : c.loop-k.k ≡ length m.section.bytes / 2 + 1 = omega (arith, table.count_is, c.loop-k-test.false, c.loop-k.auto.k-end) in
    (c.loop-k.invariant.each inputs m code whole held compressed are table).0 ∙ ap (λ n. map (λ j. number_on m.section (2 * j)) (range_with_len 0 n)) end
