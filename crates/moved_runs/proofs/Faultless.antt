-- What it means that no fault stands in relocations: what an item's relocation leads to is a place where an item starts or a section
-- ends, or a number.
use Rattle.std.proofs.Common.{◌≡◌, ℕ, List, [], ◌∷◌, ◌++◌, map, Option, Some, None, Bool, true, false, cond, eqb, refl, sym, ap, ◌∙◌}
use Rattle.std.specs.Prelude.{◌&&◌, ◌||◌, not}
use Rattle.std.specs.List.{find, flat_map}
use Rattle.std.specs.Option.{option_map}
use Rattle.std.proofs.lemmas.Bool.{eqb-true, not-false, or_parts}
use Rattle.zc_base.specs.declared.place.Place.{Place}
use Rattle.elf32_read.specs.Parts.{ObjectParts, SectionParts}
use Rattle.elf32_read.specs.declared.fault.Fault.{Fault}
use Rattle.elf32_read.specs.declared.fault.Fault.TheVariants.{BadTarget, LoPair, RelocKind, RelocPlace}
use Rattle.elf32_read.specs.declared.reloc.Reloc.{Reloc}
use Rattle.psabi_reloc.specs.Kinds.{kind_of}
use Rattle.psabi_sym.specs.Faults.{first_some, gather_fault}
use Rattle.psabi_sym.specs.Inputs.{Inputs, ParsedInputs, parsed}
use Rattle.psabi_sym.specs.Indexed.{IndexedSection, section_at, sections_before}
use Rattle.psabi_sym.specs.declared.target.Target.{Target}
use Rattle.psabi_sym.specs.declared.target.Target.TheVariants.{Code, Number, Absent, Nowhere}
use Rattle.psabi_sym.proofs.FaultLaws.{neither}
use Rattle.block_cut.specs.Faults.{entry_fault, first_fault, if_so, has_bad_target, is_stray, lacks_pcrel_hi, is_bad_target, range_fault, reloc_fault, relocs_fault, section_fault}
use Rattle.block_cut.specs.Items.{is_start_at, is_target_at, start_only, target_of}
use Rattle.block_cut.specs.Relocs.{is_bad_kind, is_bad_place, is_ignored, is_transfer, reloc_on}
use Rattle.block_cut.proofs.ListedLaws.{cut_at, listed}
use Rattle.block_cut.proofs.StartLaws.{is_among}
use Rattle.moved_runs.proofs.Elements.{none_found, none_there}

-- ---- what gives nothing

-- a search that finds nothing, over parts of a list
module _ {X : Type 0} (p : X → Bool) where
  step_none : (x : X) (rest : Option X) → cond (p x) (Some x) rest ≡ None → (p x ≡ false) × (rest ≡ None)
  step_none x rest = by (p x)
    where
      by : (b : Bool) → cond b (Some x) rest ≡ None → (b ≡ false) × (rest ≡ None)
      by true h = absurd cc
      by false h = (refl, h)

  find_append : (xs ys : List X) → find p (xs ++ ys) ≡ None → (find p xs ≡ None) × (find p ys ≡ None)
  find_append [] ys h = (refl, h)
  find_append (x ∷ xs) ys h =
      let first = step_none x (find p (xs ++ ys)) h in
      let rest = find_append xs ys first.1 in
      (ap (λ b. cond b (Some x) (find p xs)) first.0 ∙ rest.0, rest.1)

  pub find_flat : {Y : Type 0} (f : Y → List X) (before rest : List Y) (y : Y) → find p (flat_map f (before ++ y ∷ rest)) ≡ None → find p (f y) ≡ None
  find_flat f [] rest y h = (find_append (f y) (flat_map f rest) h).0
  find_flat f (z ∷ zs) rest y h = find_flat f zs rest y (find_append (f z) (flat_map f (zs ++ y ∷ rest)) h).1

  pub find_among : (f : ℕ → X) (ns : List ℕ) (n : ℕ) → find p (map f ns) ≡ None → is_among n ns ≡ true → p (f n) ≡ false
  find_among f [] n h is = absurd cc
  find_among f (m ∷ ms) n h is =
      let first = step_none (f m) (find p (map f ms)) h in
      by (eqb m n) refl is first.0 (λ later. find_among f ms n first.1 later)
    where
      by : (b : Bool) → eqb m n ≡ b → (b || is_among n ms) ≡ true → p (f m) ≡ false → (is_among n ms ≡ true → p (f n) ≡ false) → p (f n) ≡ false
      by true e is here rest = ap (λ k. p (f k)) (sym (eqb-true m n e)) ∙ here
      by false e is here rest = rest is

-- ---- faults

not-so : (b : Bool) (f : Fault) → if_so b f ≡ None → b ≡ false
not-so true f h = absurd cc
not-so false f h = refl

mapped-none : {A B : Type 0} (f : A → B) (o : Option A) → option_map f o ≡ None → o ≡ None
mapped-none f None h = refl
mapped-none f (Some a) h = absurd cc

pub record AreFaultless (inputs : Inputs) : Type 0 where
  pub gathered : gather_fault inputs ≡ None
  pub relocs : relocs_fault (parsed inputs) ≡ None
  pub entry : entry_fault (parsed inputs) ≡ None
  pub range : range_fault (parsed inputs) ≡ None

pub all_none : (inputs : Inputs) → first_fault inputs ≡ None → AreFaultless inputs
unfolding first_fault
all_none inputs none =
    let one = neither (gather_fault inputs) _ none in
    let two = neither (relocs_fault (parsed inputs)) _ one.1 in
    let three = neither (entry_fault (parsed inputs)) _ two.1 in
    let four = neither (range_fault (parsed inputs)) _ three.1 in
    record { gathered = one.0; relocs = two.0; entry = three.0; range = four.0 }

-- a relocation without a fault isn't lonely or astray
pub record IsGood (inputs : ParsedInputs) (l : IndexedSection) (r : Reloc) : Type 0 where
  pub known : is_bad_kind l.section (kind_of r.kind) ≡ false
  pub placed : is_bad_place l.section r ≡ false
  pub paired : lacks_pcrel_hi inputs l r ≡ false
  pub leads : has_bad_target inputs l r ≡ false

pub good : (inputs : ParsedInputs) (l : IndexedSection) (r : Reloc) → reloc_fault inputs l r ≡ None → IsGood inputs l r
good inputs l r none =
    let n = r.offset in
    let one = neither (if_so (is_bad_kind l.section (kind_of r.kind)) (RelocKind l.index n)) _ none in
    let two = neither (if_so (is_bad_place l.section r || is_stray l.section r) (RelocPlace l.index n)) _ one.1 in
    let three = neither (if_so (lacks_pcrel_hi inputs l r) (LoPair l.index n)) _ two.1 in
    let four = neither (if_so (has_bad_target inputs l r) (BadTarget l.index n)) _ three.1 in
    record { known = not-so _ _ one.0; placed = (or_parts (is_bad_place l.section r) (is_stray l.section r) (not-so _ _ two.0)).0; paired = not-so _ _ three.0; leads = not-so _ _ four.0 }

module _ (inputs : Inputs) (none : first_fault inputs ≡ None) where
  abbrev p : ParsedInputs
  p = parsed inputs

  fine : AreFaultless inputs
  fine = all_none inputs none

  -- a section has none
  pub section_none : (o i : ℕ) (s : SectionParts) → section_at p.objects o i ≡ Some s → first_some (map (reloc_fault p (listed o i s)) s.relocs) ≡ None
  unfolding relocs_fault
  section_none o i s found =
      let cut = cut_at p.objects o i s found in
      let all : first_some (map (section_fault p) (sections_before p.objects o i ++ listed o i s ∷ cut.rest)) ≡ None =
      ap (λ l. first_some (map (section_fault p) l)) (sym cut.all_are) ∙ fine.relocs in
      mapped-none _ (first_some (map (reloc_fault p (listed o i s)) s.relocs)) (none_there (section_fault p) (sections_before p.objects o i) cut.rest (listed o i s) all)

  -- nor has the relocation at an offset
  pub reloc_good : (o i n : ℕ) (s : SectionParts) (r : Reloc) → section_at p.objects o i ≡ Some s → reloc_on s n ≡ Some r → IsGood p (listed o i s) r
  unfolding reloc_on
  reloc_good o i n s r found is = good p (listed o i s) r (none_found _ (reloc_fault p (listed o i s)) s.relocs r is (section_none o i s found))

-- ---- targets

-- a relocation that asks for something leads to a number, or where an item starts or a section of code ends
pub target_good :
    (p : ParsedInputs) (l : IndexedSection) (r : Reloc) (to : Place) → is_ignored (kind_of r.kind) ≡ false → IsGood p l r
    → target_of p l.object r ≡ Code to → is_target_at p.objects to ≡ true
target_good p l r to asks fine leads =
    not-false (is_target_at p.objects to)
    (ap (is_bad_target p.objects (is_transfer (kind_of r.kind))) (sym leads)
    ∙ ap (λ b. not b && is_bad_target p.objects (is_transfer (kind_of r.kind)) (target_of p l.object r)) (sym asks)
    ∙ fine.leads)

-- ---- the start

-- the place that a target is, where an item starts
pub record IsStartOf (objects : List ObjectParts) (t : Target) (q : Place) : Type 0 where
  pub leads : t ≡ Code q
  pub starts : is_start_at objects q ≡ true

pub start_at : (objects : List ObjectParts) (t : Target) (q : Place) → start_only objects t ≡ Some q → IsStartOf objects t q
start_at objects (Code r) q h = by (is_start_at objects r) refl h
  where
    by : (b : Bool) → is_start_at objects r ≡ b → cond b (Some r) None ≡ Some q → IsStartOf objects (Code r) q
    by true starts g = let same : r ≡ q = cc in record { leads = ap Code same; starts = ap (is_start_at objects) (sym same) ∙ starts }
    by false starts g = absurd cc
start_at objects (Number n) q h = absurd cc
start_at objects (Absent n) q h = absurd cc
start_at objects Nowhere q h = absurd cc
