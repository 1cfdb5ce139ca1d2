use Rattle.std.proofs.Common.{◌≡◌, ℕ, Bool, true, false, Bor, List, Option, Some, None, IfSome, length, get_or, slice_get, eqb, eq-eqb, ltb, refl, sym, ap, ◌∙◌}
use Rattle.std.specs.Prelude.{◌&&◌, ◌||◌, ◌==◌, nat_eq}
use Rattle.std.specs.List.{list_any, starts_with}
use Rattle.std.specs.Option.{is_some, option_map, option_map_or}
use Rattle.std.proofs.lemmas.Bool.{ltb-false, ltb-true, ne_eqb}
use Rattle.std.proofs.lemmas.Option.{slice_get-get_or, slice_get_past}
use Rattle.elf32_read.specs.Lent.{IsSectionEntry}
use Rattle.elf32_read.specs.Parts.{SectionParts}
use Rattle.elf32_read.specs.declared.section_entry.SectionEntry.{SectionEntry}
use Rattle.elf32_read.proofs.Strings.{begun}
use Rattle.psabi_sym.specs.Data.{is_of_kin}
use Rattle.psabi_sym.proofs.KinLaws.{kin_is, no_kin}
use Rattle.psabi_sym.proofs.read_sections.is_of_kin.Goals as goal
use Rattle.psabi_sym.proofs.read_sections.is_of_kin.Goals.{then-not-name_starts_with-via-then-not-name_starts_with, then-not-name_starts_with-via-else-not-name_starts_with+then-contains}

-- a section's name is of this kind by the byte behind it in the table, if the kind's name has no zero
kin : (section : SectionEntry) (parts : SectionParts) (base : List ℕ) (starts : Bool) (behind : Option ℕ) → IsSectionEntry section parts → list_any (λ byte. byte == 0) base ≡ false
    → starts ≡ starts_with nat_eq parts.name base → slice_get section.names.now (length base) ≡ behind
    → (starts && option_map_or (λ y. eqb y 0 || eqb y 46) behind false) ≡ is_of_kin base parts.name
kin section parts base starts behind is whole begins at =
    let names = section.names.now in
    sym (ap (is_of_kin base) (sym is.name) ∙ kin_is names base is.ends whole
    ∙ (λ j. sym (begins ∙ ap (λ n. starts_with nat_eq n base) (sym is.name) ∙ begun names base whole) j && option_map_or (λ y. eqb y 0 || eqb y 46) (at j) false))

-- and isn't, if the kind's name has one
other : (section : SectionEntry) (parts : SectionParts) (base : List ℕ) → IsSectionEntry section parts → list_any (λ byte. byte == 0) base ≡ true → is_of_kin base parts.name ≡ false
other section parts base is has = ap (is_of_kin base) (sym is.name) ∙ no_kin section.names.now base has

pub returns-then-not-name_starts_with : goal.returns-then-not-name_starts_with
returns-then-not-name_starts_with c = λ parts is.
    let section = c.args.section.now in
    let base = c.args.base.now in
    elim c.then-not-name_starts_with.branch [
      | then-not-name_starts_with-via-then-not-name_starts_with w ↦
          either section parts base is (list_any (λ byte. byte == 0) base) refl (λ whole. sym w.if-not-name_starts_with.true ∙ c.name_starts_with.ensures parts is whole)
      | then-not-name_starts_with-via-else-not-name_starts_with+then-contains w ↦ sym (other section parts base is (sym w.contains.ensures.value ∙ w.if-contains.true))
    ]
  where
    either : (section : SectionEntry) (parts : SectionParts) (base : List ℕ) → IsSectionEntry section parts → (b : Bool) → list_any (λ byte. byte == 0) base ≡ b
        → (list_any (λ byte. byte == 0) base ≡ false → false ≡ starts_with nat_eq parts.name base) → false ≡ is_of_kin base parts.name
    either section parts base is true has begins = sym (other section parts base is has)
    either section parts base is false whole begins = kin section parts base false (slice_get section.names.now (length base)) is whole (begins whole) refl

-- the byte behind is what the table has there
behind_is : (names : List ℕ) (n : ℕ) (o : Option (Bor ℕ)) → is_some o ≡ ltb n (length names) → IfSome o (λ x. x.now ≡ get_or names n x.now) → slice_get names n ≡ option_map (λ x. x.now) o
behind_is names n None within is = slice_get_past names n (ltb-false n (length names) (sym within))
behind_is names n (Some x) within is = slice_get-get_or names n x.now (ltb-true n (length names) (sym within)) ∙ ap Some (sym is)

pub returns-in-None : goal.returns-in-None
returns-in-None c = λ parts is.
    let section = c.args.section.now in
    let base = c.args.base.now in
    let whole = sym c.contains.ensures.value ∙ c.if-contains.false in
    let found = c.get.ensures.lookup in
    let behind = behind_is section.names.now (length base) c.get.result found.0 found.1 ∙ ap (option_map (λ x. x.now)) c.in-None.is in
    ap (λ b. b && false) (sym c.if-not-name_starts_with.false) ∙ kin section parts base c.name_starts_with.result None is whole (c.name_starts_with.ensures parts is whole) behind

-- a byte follows
followed : (section : SectionEntry) (parts : SectionParts) (base : List ℕ) (starts : Bool) (o : Option (Bor ℕ)) (x : Bor ℕ) → IsSectionEntry section parts → list_any (λ byte. byte == 0) base ≡ false
    → starts ≡ true → starts ≡ starts_with nat_eq parts.name base → is_some o ≡ ltb (length base) (length section.names.now) → IfSome o (λ y. y.now ≡ get_or section.names.now (length base) y.now) → o ≡ Some x
    → (eqb x.now 0 || eqb x.now 46) ≡ is_of_kin base parts.name
followed section parts base starts o x is whole starts_so begins within there found =
    ap (λ b. b && (eqb x.now 0 || eqb x.now 46)) (sym starts_so)
    ∙ kin section parts base starts (Some x.now) is whole begins (behind_is section.names.now (length base) o within there ∙ ap (option_map (λ y. y.now)) found)

pub returns-then-next-eq0 : goal.returns-then-next-eq0
returns-then-next-eq0 c = λ parts is.
    let whole = sym c.contains.ensures.value ∙ c.if-contains.false in
    let found = c.get.ensures.lookup in
    let zero : eqb c.in-Some.next.now 0 ≡ true = eq-eqb c.in-Some.next.now 0 c.if-next-eq0.true in
    zero ∙ ap (λ b. b || eqb c.in-Some.next.now 46) (sym zero)
    ∙ followed c.args.section.now parts c.args.base.now c.name_starts_with.result c.get.result c.in-Some.next is whole c.if-not-name_starts_with.false (c.name_starts_with.ensures parts is whole) found.0 found.1 c.in-Some.is

pub returns-else-next-eq0 : goal.returns-else-next-eq0
returns-else-next-eq0 c = λ parts is.
    let whole = sym c.contains.ensures.value ∙ c.if-contains.false in
    let found = c.get.ensures.lookup in
    ap (λ b. b || eqb c.in-Some.next.now 46) (sym (ne_eqb c.in-Some.next.now 0 c.if-next-eq0.false))
    ∙ followed c.args.section.now parts c.args.base.now c.name_starts_with.result c.get.result c.in-Some.next is whole c.if-not-name_starts_with.false (c.name_starts_with.ensures parts is whole) found.0 found.1 c.in-Some.is
