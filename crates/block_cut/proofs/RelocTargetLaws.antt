-- Relocations of code of which none is wrong and all lead where code may lead have no fault; they lead where those of all sections do.
use Rattle.std.proofs.Common.{◌≡◌, ◌≢◌, ℕ, ◌*◌, ◌/◌, ◌%◌, List, [], ◌∷◌, ◌++◌, get_or, length, map, Bool, true, false, cond, Option, Some, None, slice_get, refl, sym, ap, ◌∙◌, arith, inl, inr, eqb}
use Rattle.std.specs.Prelude.{is_some, ◌&&◌, ◌||◌, not}
use Rattle.std.specs.List.{list_any}
use Rattle.block_cut.specs.Invariants.Led.{is_marked, mark_in, section_number}
use Rattle.std.specs.Option.{option_map_or, option_map}
use Rattle.std.proofs.Math.Bool.{or-false, or_assoc}
use Rattle.std.proofs.lemmas.Bool.{cases_lt, eqb-true, false≢true, or_parts}
use Rattle.std.proofs.lemmas.List.{get_or_past}
use Rattle.std.proofs.lemmas.List.Folds.{list_any-append, list_any_at}
use Rattle.std.proofs.lemmas.Option.{get_or_from_slice_get, slice_get_within}
use Rattle.elf32_read.specs.Parts.{ObjectParts, is_code_section}
use Rattle.elf32_read.specs.declared.fault.Fault.{Fault}
use Rattle.elf32_read.specs.declared.fault.Fault.TheVariants.{BadTarget}
use Rattle.psabi_sym.specs.Faults.{first_some, gather_fault}
use Rattle.psabi_sym.specs.Inputs.{Inputs, ParsedInputs, parsed}
use Rattle.psabi_sym.specs.Indexed.{IndexedSection, section_at}
use Rattle.psabi_sym.specs.declared.target.Target.{Target}
use Rattle.psabi_sym.specs.declared.target.Target.TheVariants.{Code, Number, Absent, Nowhere}
use Rattle.zc_base.specs.declared.place.Place.{Place}
use Rattle.zc_base.proofs.PlaceLaws.{same_place-refl}
use Rattle.block_cut.specs.Invariants.CodeTargets.{code_leads, is_wrong, is_wrong_target}
use Rattle.block_cut.specs.Faults.{if_so, is_bad_target, section_fault}
use Rattle.block_cut.specs.Items.{is_target_at, place_of}
use Rattle.block_cut.specs.Leaders.{is_place, section_leads}
use Rattle.block_cut.specs.Relocs.{is_transfer}
use Rattle.block_cut.specs.Resolved.{code_relocs, fault_of, resolved_fault, placed_relocs}
use Rattle.block_cut.specs.Invariants.HalfwordTables.{by_halfword, number_on, numbers_of_section}
use Rattle.block_cut.specs.declared.resolved_reloc.RelocFault.{RelocFault}
use Rattle.block_cut.specs.declared.resolved_reloc.ResolvedReloc.{ResolvedReloc}
use Rattle.block_cut.proofs.JudgeLaws.{section_resolved}
use Rattle.block_cut.proofs.StrayLaws.{placed_lead}
use Rattle.block_cut.proofs.WholeLaws.{code_at_is}
use Rattle.block_cut.proofs.WordLaws.{number_got, some_target}

-- ---- lists

-- a test of a list with one element more at its end
pub any_pushed : {X : Type 0} (p : X → Bool) (xs : List X) (x : X) → (list_any p xs || p x) ≡ list_any p (xs ++ x ∷ [])
any_pushed p xs x = sym (list_any-append p xs (x ∷ []) ∙ ap (λ b. list_any p xs || b) (or-false (p x)))

-- what follows if both hold
pub when_both : {A : Type 0} (a b : Bool) → (a && b) ≡ true → (a ≡ true → b ≡ true → A) → A
when_both true true is then = then refl refl
when_both true false is then = absurd cc
when_both false b is then = absurd cc

-- a test that holds wherever another does
any_weaker : {X : Type 0} (p q : X → Bool) → ((x : X) → p x ≡ true → q x ≡ true) → (xs : List X) → list_any p xs ≡ true → list_any q xs ≡ true
any_weaker p q weaker [] is = absurd cc
any_weaker p q weaker (x ∷ xs) is = by (p x) refl is (any_weaker p q weaker xs)
  where
    by : (b : Bool) → p x ≡ b → (b || list_any p xs) ≡ true → (list_any p xs ≡ true → list_any q xs ≡ true) → (q x || list_any q xs) ≡ true
    by true here is rest = ap (λ b. b || list_any q xs) (weaker x here)
    by false here is rest = ap (λ b. q x || b) (rest is) ∙ last (q x)
      where
        last : (b : Bool) → (b || true) ≡ true
        last true = refl
        last false = refl

-- ---- faults

-- a relocation that isn't wrong has no fault if code may lead where it leads
fine_one : (objects : List ObjectParts) (i : ℕ) (d : ResolvedReloc) → is_wrong d ≡ false → ((q : Place) → is_place q d.target ≡ true → is_target_at objects q ≡ true) → resolved_fault objects i d ≡ None
fine_one objects i d right leads = by d.fault refl right
  where
    target : (t : Target) → d.target ≡ t → is_wrong_target (is_transfer d.kind) t ≡ false → ((q : Place) → is_place q t ≡ true → is_target_at objects q ≡ true) → is_bad_target objects (is_transfer d.kind) t ≡ false
    target (Code to) is right leads = ap not (leads to (same_place-refl to))
    target (Number n) is right leads = right
    target (Absent n) is right leads = refl
    target Nowhere is right leads = absurd cc

    by : (f : Option RelocFault) → d.fault ≡ f → (is_some f || is_wrong_target (is_transfer d.kind) d.target) ≡ false
        → fault_of f (if_so (is_bad_target objects (is_transfer d.kind) d.target) (BadTarget i d.offset)) i d.offset ≡ None
    by (Some f) is right = absurd cc
    by None is right = ap (λ b. if_so b (BadTarget i d.offset)) (target d.target refl right leads)

fine_all : (objects : List ObjectParts) (i : ℕ) (ds : List ResolvedReloc) → list_any is_wrong ds ≡ false → ((q : Place) → list_any (λ d. is_place q d.target) ds ≡ true → is_target_at objects q ≡ true)
    → first_some (map (resolved_fault objects i) ds) ≡ None
fine_all objects i [] right leads = refl
fine_all objects i (d ∷ ds) right leads =
    let two = or_parts (is_wrong d) (list_any is_wrong ds) right in
    let here = fine_one objects i d two.0 (λ q is. leads q (ap (λ b. b || list_any (λ e. is_place q e.target) ds) is)) in
    let rest = fine_all objects i ds two.1 (λ q is. leads q (ap (λ b. is_place q d.target || b) is ∙ last (is_place q d.target))) in
    first here ∙ rest
  where
    last : (b : Bool) → (b || true) ≡ true
    last true = refl
    last false = refl

    first : {o : Option Fault} → o ≡ None → first_some (o ∷ map (resolved_fault objects i) ds) ≡ first_some (map (resolved_fault objects i) ds)
    first none = ap (λ o. first_some (o ∷ map (resolved_fault objects i) ds)) none

-- a section of code has none if its relocations are such
pub fine_section : (inputs : ParsedInputs) (l : IndexedSection) → is_code_section l.section ≡ true → list_any is_wrong (code_relocs inputs l) ≡ false
    → ((q : Place) → code_leads inputs q l ≡ true → is_target_at inputs.objects q ≡ true) → section_fault inputs l ≡ None
fine_section inputs l code right leads =
    let own : code_relocs inputs l ≡ placed_relocs inputs l = ap (λ b. cond b (placed_relocs inputs l) []) code in
    let none = fine_all inputs.objects l.index (code_relocs inputs l) right leads in
    sym (section_resolved inputs l)
    ∙ ap (option_map {U = ℕ × Fault} (λ (f : Fault). (l.object, f))) (ap (λ ds. first_some (map (resolved_fault inputs.objects l.index) ds)) (sym own) ∙ none)

-- ---- one section after another

module _ (inputs : ParsedInputs) (l : IndexedSection) (b : Bool) (own : List ResolvedReloc) (is : own ≡ cond b [] (placed_relocs inputs l)) where
  -- what is left to be judged of a section has its first fault, if what isn't left has none
  pub left_judged : (b ≡ true → section_fault inputs l ≡ None) → option_map {U = ℕ × Fault} (λ (f : Fault). (l.object, f)) (first_some (map (resolved_fault inputs.objects l.index) own)) ≡ section_fault inputs l
  left_judged fine = ap (λ ds. option_map {U = ℕ × Fault} (λ (f : Fault). (l.object, f)) (first_some (map (resolved_fault inputs.objects l.index) ds))) is ∙ by b fine
    where
      by : (b : Bool) → (b ≡ true → section_fault inputs l ≡ None)
          → option_map {U = ℕ × Fault} (λ (f : Fault). (l.object, f)) (first_some (map (resolved_fault inputs.objects l.index) (cond b [] (placed_relocs inputs l)))) ≡ section_fault inputs l
      by true fine = sym (fine refl)
      by false fine = section_resolved inputs l

  -- with the section's own relocations the places are those of all, and those before
  pub left_leads : (q : Place) (before : Bool) → (b ≡ true → section_leads inputs q l ≡ true → before ≡ true) → (rest : Bool)
      → ((before || rest) || list_any (λ d. is_place q d.target) own) ≡ (before || (rest || section_leads inputs q l))
  left_leads q before kept rest = ap (λ ds. (before || rest) || list_any (λ d. is_place q d.target) ds) is ∙ by b kept
    where
      skipped : (before rest here : Bool) → (here ≡ true → before ≡ true) → ((before || rest) || false) ≡ (before || (rest || here))
      skipped true rest here kept = refl
      skipped false true here kept = refl
      skipped false false false kept = refl
      skipped false false true kept = kept refl

      by : (b : Bool) → (b ≡ true → section_leads inputs q l ≡ true → before ≡ true)
          → ((before || rest) || list_any (λ d. is_place q d.target) (cond b [] (placed_relocs inputs l))) ≡ (before || (rest || section_leads inputs q l))
      by true kept = skipped before rest (section_leads inputs q l) (kept refl)
      by false kept = or_assoc before rest _ ∙ ap (λ h. before || (rest || h)) (placed_lead inputs l q)

-- the relocations of code lead where all of its section do
pub code_lead : (inputs : ParsedInputs) (q : Place) (l : IndexedSection) → is_code_section l.section ≡ true → code_leads inputs q l ≡ section_leads inputs q l
code_lead inputs q l code = ap (λ b. list_any (λ d. is_place q d.target) (cond b (placed_relocs inputs l) [])) code ∙ placed_lead inputs l q

-- the relocations of code add no place that those of all don't
pub code_led : (inputs : ParsedInputs) (q : Place) (ls : List IndexedSection) → (list_any (code_leads inputs q) ls || list_any (section_leads inputs q) ls) ≡ list_any (section_leads inputs q) ls
code_led inputs q ls = both (list_any (code_leads inputs q) ls) (list_any (section_leads inputs q) ls) (any_weaker (code_leads inputs q) (section_leads inputs q) one ls)
  where
    both : (a b : Bool) → (a ≡ true → b ≡ true) → (a || b) ≡ b
    both true b weaker = sym (weaker refl)
    both false b weaker = refl

    one : (l : IndexedSection) → code_leads inputs q l ≡ true → section_leads inputs q l ≡ true
    one l leads = by (is_code_section l.section) refl leads
      where
        by : (b : Bool) → is_code_section l.section ≡ b → list_any (λ d. is_place q d.target) (cond b (placed_relocs inputs l) []) ≡ true → section_leads inputs q l ≡ true
        by true code leads = sym (placed_lead inputs l q) ∙ leads
        by false other leads = absurd cc

-- one element that passes settles a test of all
pub any_here : {X : Type 0} (p : X → Bool) (xs : List X) (k : ℕ) (x : X) → slice_get xs k ≡ Some x → p x ≡ true → list_any p xs ≡ true
any_here p xs k x at is = list_any_at p xs k x (slice_get_within xs k x at) (ap p (get_or_from_slice_get xs k x x at) ∙ is)

pub none_here : {X : Type 0} (p : X → Bool) (xs : List X) (k : ℕ) (x : X) → slice_get xs k ≡ Some x → list_any p xs ≡ false → p x ≡ false
none_here p xs k x at none = by (p x) refl
  where
    by : (b : Bool) → p x ≡ b → p x ≡ false
    by true is = absurd (false≢true (sym none ∙ any_here p xs k x at is))
    by false is = is

-- ---- places

pub none_in : {X : Type 0} (xs : List X) → length xs ≡ 0 → xs ≡ []
none_in [] none = refl
none_in (x ∷ xs) none = absurd (omega (arith, none))

-- a place that is marked
pub record IsMarked (objects : List ObjectParts) (sections : List (List Bool)) (q : Place) : Type 0 where
  pub even : q.offset % 2 ≡ 0
  pub n : ℕ
  pub number : section_number objects q ≡ Some n
  pub mark : mark_in sections n (q.offset / 2) ≡ true

pub marked_is : (objects : List ObjectParts) (sections : List (List Bool)) (q : Place) → is_marked objects sections q ≡ true → IsMarked objects sections q
marked_is objects sections q marked = by (eqb (q.offset % 2) 0) refl (section_number objects q) refl marked
  where
    by : (b : Bool) → eqb (q.offset % 2) 0 ≡ b → (o : Option ℕ) → section_number objects q ≡ o → (b && option_map_or (λ n. mark_in sections n (q.offset / 2)) o false) ≡ true → IsMarked objects sections q
    by false even o is mark = absurd cc
    by true even None is mark = absurd cc
    by true even (Some n) is mark = record { even = eqb-true (q.offset % 2) 0 even; n = n; number = is; mark = mark }

-- code may lead to a halfword of a section with a number
pub numbered_target : (inputs : Inputs) (l : IndexedSection) (numbers : List ℕ) (n : ℕ) → gather_fault inputs ≡ None → section_at (parsed inputs).objects l.object l.index ≡ Some l.section
    → numbers ≡ numbers_of_section l.section → n % 2 ≡ 0 → get_or numbers (n / 2) 0 ≢ 0 → is_target_at (parsed inputs).objects (place_of l n) ≡ true
numbered_target inputs l numbers n none found are even some = by (is_code_section l.section) refl are
  where
    by : (b : Bool) → is_code_section l.section ≡ b → numbers ≡ cond b (by_halfword (number_on l.section) l.section) [] → is_target_at (parsed inputs).objects (place_of l n) ≡ true
    by false other are = absurd (some (ap (λ ns. get_or ns (n / 2) 0) are))
    by true code are = elim (cases_lt (n / 2) (length numbers)) [
      | inl lt ↦
          let got = (number_got l.section numbers (n / 2) 0 are lt).1 in
          let twice : 2 * (n / 2) ≡ n = omega (arith, even) in
          some_target (parsed inputs).objects (place_of l n) l.section
          (code_at_is (parsed inputs).objects (place_of l n) l.section found code)
          (λ e. some (got ∙ ap (number_on l.section) twice ∙ e))
      | inr past ↦ absurd (some (get_or_past numbers (n / 2) 0 past))
    ]
