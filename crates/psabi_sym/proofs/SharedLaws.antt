-- Shared sections lie in data, and what is found among the sections so far grows by one section after another.
use Rattle.std.proofs.Common.{◌≡◌, ℕ, suc, ◌+◌, ◌≤◌, List, [], ◌∷◌, ◌++◌, take, Bool, true, false, cond, Option, Some, None, slice_get, refl, sym, ap, ◌∙◌, arith}
use Rattle.std.specs.Prelude.{All}
use Rattle.std.specs.List.{cons_option, filter_map}
use Rattle.std.specs.Option.{option_map}
use Rattle.std.proofs.lemmas.List.{take_more}
use Rattle.std.proofs.lemmas.List.Elements.{All-cons, All-nil, filter_map-append}
use Rattle.std.proofs.lemmas.Option.{get_or_from_slice_get, slice_get_within}
use Rattle.psabi_sym.specs.Data.{address_in, data_address, data_end, role_of}
use Rattle.psabi_sym.specs.Inputs.{ParsedInputs}
use Rattle.psabi_sym.specs.Indexed.{IndexedSection, all_sections, section_at}
use Rattle.psabi_sym.specs.Shared.{is_named_shared, shared_range, shared_ranges}
use Rattle.psabi_sym.specs.declared.section_row.SectionRole.{SectionRole}
use Rattle.psabi_sym.specs.declared.section_row.SectionRole.TheVariants.{Code, InClass, Dropped}
use Rattle.psabi_sym.proofs.ContentLaws.{address_in-ge, address_of_data, none_of_code, none_of_dropped}
use Rattle.psabi_sym.proofs.EndLaws.{ends_in_data}
use Rattle.psabi_sym.proofs.SectionNumbers.{listed_at}

-- one element more
pub filter_map_more : {X Y : Type 0} (h : X → Option Y) (xs : List X) (k : ℕ) (x : X) → slice_get xs k ≡ Some x
    → filter_map h (take (k + 1) xs) ≡ filter_map h (take k xs) ++ cons_option (h x) []
filter_map_more h xs k x at =
    ap (filter_map h) (take_more xs k x (slice_get_within xs k x at) ∙ ap (λ y. take k xs ++ y ∷ []) (get_or_from_slice_get xs k x x at))
    ∙ filter_map-append h (take k xs) (x ∷ [])

-- a range by an address and a size has both
range_parts : (a : Option ℕ) (size : ℕ) (r : ℕ × ℕ) → option_map (λ at. (at, size)) a ≡ Some r → (a ≡ Some r.0) × (size ≡ r.1)
range_parts None size r is = absurd cc
range_parts (Some at) size r is = let same : (at, size) ≡ r = cc in (ap (λ (p : ℕ × ℕ). Some p.0) same, ap (λ (p : ℕ × ℕ). p.1) same)

module _ (inputs : ParsedInputs) where
  abbrev LiesInData : ℕ × ℕ → Type 0
  LiesInData r = (inputs.map.data_low ≤ r.0) × (r.0 + r.1 ≤ data_end inputs)

  -- a section that has no address isn't shared
  pub range_none : (l : IndexedSection) → data_address inputs l.object l.index ≡ None → shared_range inputs l ≡ None
  range_none l none = ap (λ a. cond (is_named_shared l.section) (option_map (λ at. (at, l.section.size)) a) None) none ∙ either (is_named_shared l.section)
    where
      either : (b : Bool) → cond {A = Option (ℕ × ℕ)} b None None ≡ None
      either true = refl
      either false = refl

  -- a shared section is data
  one_within : (l : IndexedSection) → section_at inputs.objects l.object l.index ≡ Some l.section → (r : ℕ × ℕ) → shared_range inputs l ≡ Some r → LiesInData r
  one_within l found r is = by (is_named_shared l.section) is
    where
      of : (role : SectionRole) → role_of l.section ≡ role → data_address inputs l.object l.index ≡ Some r.0 → l.section.size ≡ r.1 → LiesInData r
      of Code role at size = absurd (cc (none_of_code inputs l.object l.index l.section found role, at))
      of Dropped role at size = absurd (cc (none_of_dropped inputs l.object l.index l.section found role, at))
      of (InClass class) role at size =
          let two : Some (address_in inputs l.object l.index l.section class) ≡ Some r.0 = sym (address_of_data inputs l.object l.index l.section found class role) ∙ at in
          let same : address_in inputs l.object l.index l.section class ≡ r.0 = cc in (
            omega (arith, same, address_in-ge inputs l.object l.index l.section class),
            omega (arith, same, size, ends_in_data inputs l.object l.index l.section found class role),
          )

      by : (b : Bool) → cond b (option_map (λ at. (at, l.section.size)) (data_address inputs l.object l.index)) None ≡ Some r → LiesInData r
      by true is = let parts = range_parts (data_address inputs l.object l.index) l.section.size r is in of (role_of l.section) refl parts.0 parts.1
      by false is = absurd cc

  each_within : (ls : List IndexedSection) → ((k : ℕ) (l : IndexedSection) → slice_get ls k ≡ Some l → section_at inputs.objects l.object l.index ≡ Some l.section)
      → All LiesInData (filter_map (shared_range inputs) ls)
  each_within [] found = All-nil LiesInData
  each_within (l ∷ ls) found = by (shared_range inputs l) refl (each_within ls (λ k. found (suc k)))
    where
      by : (x : Option (ℕ × ℕ)) → shared_range inputs l ≡ x → All LiesInData (filter_map (shared_range inputs) ls) → All LiesInData (cons_option x (filter_map (shared_range inputs) ls))
      by None is rest = rest
      by (Some r) is rest = All-cons LiesInData r (filter_map (shared_range inputs) ls) (one_within l (found 0 l refl) r is) rest

  -- all shared sections do
  pub shared_within : All (λ r. (inputs.map.data_low ≤ r.0) × (r.0 + r.1 ≤ data_end inputs)) (shared_ranges inputs)
  shared_within = each_within (all_sections inputs.objects) (listed_at inputs.objects)
