-- Which faults the result can't have, where the given objects have none: those of relocations, and a missing start.
use Rattle.std.proofs.Common.{◌≡◌, ℕ, ◌+◌, ◌<◌, ℤ, pos, negsuc, List, [], ◌∷◌, length, map, filter, refl, sym, ap, ap₂, ◌∙◌, arith, Bool, true, false, cond, eqb, leb, ltb, Option, Some, None, is_none, get_or, subst}
use Rattle.std.specs.Prelude.{◌&&◌, ◌||◌, not, All}
use Rattle.std.specs.List.{enumerate_from, flat_map, list_any}
use Rattle.std.specs.Option.{option_map, option_or}
use Rattle.std.proofs.lemmas.Bool.{eq-eqb, eqb-true}
use Rattle.std.proofs.lemmas.List.Elements.{All-append, All-cons, All-from_get_or, All-head, All-nil, All-tail}
use Rattle.std.proofs.lemmas.Option.{get_or_from_slice_get, slice_get-get_or}
use Rattle.zc_base.specs.Fields.{word_in}
use Rattle.zc_base.specs.declared.place.Place.{Place}
use Rattle.elf32_read.specs.Header.{section_count}
use Rattle.elf32_read.specs.Object.{object_fault}
use Rattle.elf32_read.specs.Parts.{ObjectParts, SectionParts, is_code_section, is_kept_section, object_parts, relocs_held, section_parts}
use Rattle.elf32_read.specs.Relocs.{relas_for}
use Rattle.elf32_read.specs.declared.fault.Fault.{Fault}
use Rattle.elf32_read.specs.declared.fault.Fault.TheVariants.{BadTarget, LoPair, NoEntry, RelocKind, RelocPlace}
use Rattle.elf32_read.specs.declared.reloc.Reloc.{Reloc}
use Rattle.elf32_read.proofs.Faultless.{is_kept_section-parts}
use Rattle.elf32_read.proofs.PartsLaws.{length-sections, section_at}
use Rattle.psabi_sym.specs.Faults.{first_some}
use Rattle.psabi_sym.specs.Inputs.{ParsedInputs}
use Rattle.psabi_sym.specs.Indexed.{IndexedSection, all_sections, sections_in}
use Rattle.psabi_sym.specs.Resolve.{resolved}
use Rattle.psabi_sym.specs.declared.target.Target.{Target}
use Rattle.psabi_sym.specs.declared.target.Target.TheVariants as target
use Rattle.psabi_reloc.specs.Kinds.{is_auipc, kind_of}
use Rattle.psabi_reloc.specs.declared.kind.RelocKind.{RelocKind as Kind}
use Rattle.psabi_reloc.specs.declared.kind.RelocKind.TheVariants as kind
use Rattle.rv_decode.specs.Decode.{decoded}
use Rattle.block_cut.specs.Faults.{entry_fault, if_so, has_bad_target, lacks_pcrel_hi, is_bad_target, is_stray, is_zero_addend, is_pair_at, reloc_fault, relocs_fault, section_fault}
use Rattle.block_cut.specs.Items.{target_of}
use Rattle.block_cut.specs.Relocs.{field_end, is_bad_kind, is_bad_place, is_ignored, is_pcrel_hi, is_pcrel_lo, is_placed, is_transfer, has_pcrel_hi_at}
use Rattle.block_cut.proofs.AskingLaws.{asked, overlaps_same, starts_same}
use Rattle.block_cut.proofs.DataLaws.{reloc_none}
use Rattle.block_cut.proofs.FaultLaws.{section_fine}
use Rattle.block_cut.specs.Resolved.{asks}
use Rattle.moved_runs.specs.Moved.{moved_target}
use Rattle.moved_runs.specs.Passes.{ArePassed}
use Rattle.moved_runs.proofs.PassListed.{IsThere, all-there}
use Rattle.moved_runs.proofs.PassSections.{is_kept_listed, kept-all, passed}
use Rattle.section_gc.specs.Cleaned.{moved_by}
use Rattle.section_gc.proofs.Closed.{IsClosed}
use Rattle.section_gc.proofs.CleaningLaws.{clean-data, cleaning, needed-clean}
use Rattle.section_gc.proofs.ResolveLaws.{IsNeededTarget, resolved-clean}
use Rattle.section_gc.proofs.BytesLaws.{target-clean}
use Rattle.section_gc.proofs.ItemLaws.{entry-in-clean, target-at-clean}

-- ---- what is dropped has no relocations

abbrev pub IsBarePart : SectionParts → Type 0
IsBarePart s = is_kept_section s ≡ false → s.relocs ≡ []

abbrev pub AreBare : List ObjectParts → Type 0
AreBare objects = All (λ (g : ObjectParts). All IsBarePart g.sections) objects

abbrev IsBare : IndexedSection → Type 0
IsBare l = IsBarePart l.section

-- an object that is read without a fault
pub bare-file : (file : List ℕ) → object_fault file ≡ None → All IsBarePart (object_parts file).sections
bare-file file fine = λ k d inside.
    let lt : k < section_count file = omega (arith, inside, length-sections file) in
    subst IsBarePart (sym (get_or_from_slice_get (object_parts file).sections k (section_parts file k) d (section_at file k lt))) (one k lt)
  where
    one : (k : ℕ) → k < section_count file → IsBarePart (section_parts file k)
    one k lt dropped = ap (λ b. cond b (flat_map (relocs_held file) (relas_for file k)) []) (sym (is_kept_section-parts file fine k lt) ∙ dropped)

bare-in : (n m : ℕ) (ss : List SectionParts) → All IsBarePart ss → All IsBare (map (λ e. record { object = n; index = e.0; section = e.1 }) (enumerate_from m ss))
bare-in n m [] all = All-nil IsBare
bare-in n m (s ∷ ss) all =
    All-cons IsBare (record { object = n; index = m; section = s }) (map (λ e. record { object = n; index = e.0; section = e.1 }) (enumerate_from (m + 1) ss)) (All-head IsBarePart s ss all)
    (bare-in n (m + 1) ss (All-tail IsBarePart s ss all))

bare-from : (n : ℕ) (rs : List ObjectParts) → AreBare rs → All IsBare (flat_map sections_in (enumerate_from n rs))
bare-from n [] all = All-nil IsBare
bare-from n (r ∷ rs) all =
    All-append IsBare (sections_in (n, r)) (flat_map sections_in (enumerate_from (n + 1) rs)) (bare-in n 0 r.sections (All-head (λ (g : ObjectParts). All IsBarePart g.sections) r rs all))
    (bare-from (n + 1) rs (All-tail (λ (g : ObjectParts). All IsBarePart g.sections) r rs all))

all-bare : (rs : List ObjectParts) → AreBare rs → All IsBare (all_sections rs)
unfolding all_sections
all-bare rs all = bare-from 0 rs all

-- ---- the first fault of sections that are kept

first-kept : {Y : Type 0} (f : IndexedSection → Option Y) → ((l : IndexedSection) → l.section.relocs ≡ [] → f l ≡ None) → (ls : List IndexedSection) → All IsBare ls → first_some (map f ls) ≡ first_some (map f (filter is_kept_listed ls))
first-kept f none [] bare = refl
first-kept f none (l ∷ ls) bare = by (first-kept f none ls (All-tail IsBare l ls bare)) (is_kept_section l.section) refl
  where
    by : first_some (map f ls) ≡ first_some (map f (filter is_kept_listed ls)) → (b : Bool) → is_kept_section l.section ≡ b → option_or (f l) (first_some (map f ls)) ≡ first_some (map f (cond b (l ∷ filter is_kept_listed ls) (filter is_kept_listed ls)))
    by rest true is = ap (option_or (f l)) rest
    by rest false is = ap (λ o. option_or o (first_some (map f ls))) (none l (All-head IsBare l ls bare is)) ∙ rest

-- ---- relocations

find-any : (p : Reloc → Bool) → ((r : Reloc) → p r ≡ true → asks r ≡ true) → (xs : List Reloc) → list_any p (filter asks xs) ≡ list_any p xs
find-any p only [] = refl
find-any p only (x ∷ xs) = by (find-any p only xs) (asks x) refl
  where
    quiet : (b : Bool) → p x ≡ b → asks x ≡ false → list_any p xs ≡ (b || list_any p xs)
    quiet false h is = refl
    quiet true h is = let a = only x h in absurd cc

    by : list_any p (filter asks xs) ≡ list_any p xs → (a : Bool) → asks x ≡ a → list_any p (cond a (x ∷ filter asks xs) (filter asks xs)) ≡ (p x || list_any p xs)
    by rest true is = ap (λ t. p x || t) rest
    by rest false is = rest ∙ quiet (p x) refl is

hi-asks : (r : Reloc) (n : ℕ) → (is_pcrel_hi (kind_of r.kind) && eqb r.offset n) ≡ true → asks r ≡ true
hi-asks r n h = by (kind_of r.kind) (eqb r.offset n) h
  where
    by : (k : Option Kind) (b : Bool) → (is_pcrel_hi k && b) ≡ true → not (is_ignored k) ≡ true
    by (Some kind.Ignored) b h = absurd cc
    by None b h = refl
    by (Some k) b h = refl

upper-same : (s : SectionParts) (n : ℕ) → has_pcrel_hi_at (asked s) n ≡ has_pcrel_hi_at s n
upper-same s n = ap (λ t. leb (n + 4) (length s.bytes) && (is_auipc (decoded (word_in s.bytes n)) && t)) (find-any (λ r. is_pcrel_hi (kind_of r.kind) && eqb r.offset n) (λ r h. hi-asks r n h) s.relocs)

place-same : (s : SectionParts) (r : Reloc) → is_bad_place (asked s) r ≡ is_bad_place s r
place-same s r = ap (λ c. asks r && (ltb s.size (field_end r) || (not (is_placed s r) || c))) (overlaps_same r s.relocs)

-- the four tests of a relocation
record FourFalse (a b c d : Bool) : Type 0 where
  pub first : a ≡ false
  pub second : b ≡ false
  pub third : c ≡ false
  pub fourth : d ≡ false

four : (a b c d : Bool) (f g h i : Fault) → option_or (if_so a f) (option_or (if_so b g) (option_or (if_so c h) (option_or (if_so d i) None))) ≡ None → FourFalse a b c d
four false false false false f g h i e = record { first = refl; second = refl; third = refl; fourth = refl }
four true b c d f g h i e = absurd cc
four false true c d f g h i e = absurd cc
four false false true d f g h i e = absurd cc
four false false false true f g h i e = absurd cc

four-back : (a b c d : Bool) (f g h i : Fault) → FourFalse a b c d → option_or (if_so a f) (option_or (if_so b g) (option_or (if_so c h) (option_or (if_so d i) None))) ≡ None
four-back a b c d f g h i e = ap₂ (λ a b. option_or (if_so a f) (option_or (if_so b g) (option_or (if_so c h) (option_or (if_so d i) None)))) e.first e.second ∙ ap₂ (λ c d. option_or (if_so c h) (option_or (if_so d i) None)) e.third e.fourth

module _ (needed : ℕ → ℕ → Bool) (number : ℕ → ℕ → ℕ) (inputs result : ParsedInputs) (clean : ArePassed (cleaning needed number) inputs result) (closed : IsClosed inputs needed) (fine : relocs_fault inputs ≡ None) (bare : AreBare result.objects) where
  abbrev M : Place → Place
  M q = moved_by number q

  -- the section in the result
  abbrev there : IndexedSection → IndexedSection
  there l = record { object = l.object; index = number l.object l.index; section = asked l.section }

  lost-moved : (transfers : Bool) (t : Target) → IsNeededTarget needed t → is_bad_target result.objects transfers (moved_target M t) ≡ is_bad_target inputs.objects transfers t
  lost-moved transfers (target.Code q) it = ap not (target-at-clean needed number inputs result clean closed q it)
  lost-moved transfers (target.Number n) it = refl
  lost-moved transfers (target.Absent n) it = refl
  lost-moved transfers target.Nowhere it = refl

  astray-none : (l : IndexedSection) (r : Reloc) → asks r ≡ true → IsNeededTarget needed (target_of inputs l.object r) → has_bad_target inputs l r ≡ false → has_bad_target result (there l) r ≡ false
  astray-none l r asked it none =
      ap (λ t. asks r && is_bad_target result.objects (is_transfer (kind_of r.kind)) t) (target-clean needed number inputs result clean l.object r it)
      ∙ ap (λ b. asks r && b) (lost-moved (is_transfer (kind_of r.kind)) (target_of inputs l.object r) it) ∙ none

  pair-moved : (l : IndexedSection) (t : Target) → is_pair_at l t ≡ true → is_pair_at (there l) (moved_target M t) ≡ true
  pair-moved l (target.Number n) h = absurd cc
  pair-moved l (target.Absent n) h = absurd cc
  pair-moved l target.Nowhere h = absurd cc
  pair-moved l (target.Code q) h =
      let a = parts (eqb q.object l.object) (eqb q.section l.index && has_pcrel_hi_at l.section q.offset) h in
      let b = parts (eqb q.section l.index) (has_pcrel_hi_at l.section q.offset) a.1 in
      let same = ap₂ number (eqb-true q.object l.object a.0) (eqb-true q.section l.index b.0) in
      ap₂ (λ x y. x && y) a.0 (ap₂ (λ x y. x && y) (eq-eqb (number q.object q.section) (number l.object l.index) same) (upper-same l.section q.offset ∙ b.1))
    where
      parts : (a b : Bool) → (a && b) ≡ true → (a ≡ true) × (b ≡ true)
      parts true b h = (refl, h)
      parts false b h = absurd cc

  nothing-is : (z : ℤ) → is_zero_addend z ≡ true → z ≡ pos 0
  nothing-is (pos n) h = ap pos (eqb-true n 0 h)
  nothing-is (negsuc n) h = absurd cc

  lonely-none : (l : IndexedSection) (r : Reloc) → IsNeededTarget needed (target_of inputs l.object r) → lacks_pcrel_hi inputs l r ≡ false → lacks_pcrel_hi result (there l) r ≡ false
  lonely-none l r it none = by (is_pcrel_lo (kind_of r.kind)) none
    where
      both : (a b : Bool) → (not a || not b) ≡ false → (a ≡ true) × (b ≡ true)
      both true true h = (refl, refl)
      both true false h = absurd cc
      both false b h = absurd cc

      by : (b : Bool) → (b && (not (is_zero_addend r.addend) || not (is_pair_at l (resolved inputs l.object r.symbol (pos 0))))) ≡ false → (b && (not (is_zero_addend r.addend) || not (is_pair_at (there l) (resolved result l.object r.symbol (pos 0))))) ≡ false
      by false h = refl
      by true h =
          let two = both (is_zero_addend r.addend) (is_pair_at l (resolved inputs l.object r.symbol (pos 0))) h in
          let zero = nothing-is r.addend two.0 in
          let here = resolved-clean needed number inputs result clean l.object r.symbol (pos 0) (subst (λ z. IsNeededTarget needed (resolved inputs l.object r.symbol z)) zero it) in
          ap₂ (λ a b. not a || not b) two.0 (ap (is_pair_at (there l)) here ∙ pair-moved l (resolved inputs l.object r.symbol (pos 0)) two.1)

  reloc-none : (l : IndexedSection) (r : Reloc) → asks r ≡ true → IsNeededTarget needed (target_of inputs l.object r) → reloc_fault inputs l r ≡ None → reloc_fault result (there l) r ≡ None
  reloc-none l r asked it none =
      let f = four (is_bad_kind l.section (kind_of r.kind)) (is_bad_place l.section r || is_stray l.section r) (lacks_pcrel_hi inputs l r) (has_bad_target inputs l r) (RelocKind l.index r.offset) (RelocPlace l.index r.offset) (LoPair l.index r.offset) (BadTarget l.index r.offset) none in
      four-back (is_bad_kind (asked' l.section) (kind_of r.kind)) (is_bad_place (asked' l.section) r || is_stray (asked' l.section) r) (lacks_pcrel_hi result (there l) r) (has_bad_target result (there l) r)
      (RelocKind (number l.object l.index) r.offset) (RelocPlace (number l.object l.index) r.offset) (LoPair (number l.object l.index) r.offset) (BadTarget (number l.object l.index) r.offset)
      (record { first = f.first; second = ap₂ (λ a b. a || b) (place-same l.section r) (ap (λ b. is_code_section l.section && (asks r && not b)) (starts_same l.section r.offset)) ∙ f.second; third = lonely-none l r it f.third; fourth = astray-none l r asked it f.fourth })
    where
      asked' : SectionParts → SectionParts
      asked' s = record s { relocs = filter asks s.relocs }

  each-none : (l : IndexedSection) (rs : List Reloc) → All (λ r. reloc_fault inputs l r ≡ None) rs → All (λ r. asks r ≡ true → IsNeededTarget needed (target_of inputs l.object r)) rs → first_some (map (reloc_fault result (there l)) (filter asks rs)) ≡ None
  each-none l [] none leads = refl
  each-none l (r ∷ rs) none leads =
      by (each-none l rs (All-tail (λ r. reloc_fault inputs l r ≡ None) r rs none) (All-tail (λ r. asks r ≡ true → IsNeededTarget needed (target_of inputs l.object r)) r rs leads)) (asks r) refl
    where
      by : first_some (map (reloc_fault result (there l)) (filter asks rs)) ≡ None → (b : Bool) → asks r ≡ b → first_some (map (reloc_fault result (there l)) (cond b (r ∷ filter asks rs) (filter asks rs))) ≡ None
      by rest true is =
          ap₂ option_or (reloc-none l r is (All-head (λ r. asks r ≡ true → IsNeededTarget needed (target_of inputs l.object r)) r rs leads is) (All-head (λ r. reloc_fault inputs l r ≡ None) r rs none)) rest
      by rest false is = rest

  section-none : (l : IndexedSection) → IsThere inputs.objects l → is_kept_section l.section ≡ true → section_fault result (passed (cleaning needed number) l) ≡ None
  section-none l at kept = by (needed l.object l.index) refl (is_code_section l.section) refl
    where
      nones : All (λ r. reloc_fault inputs l r ≡ None) l.section.relocs
      nones = from l.section.relocs refl
        where
          from : (rs : List Reloc) → l.section.relocs ≡ rs → All (λ r. reloc_fault inputs l r ≡ None) l.section.relocs
          from [] is = subst (All (λ r. reloc_fault inputs l r ≡ None)) (sym is) (All-nil (λ r. reloc_fault inputs l r ≡ None))
          from (d ∷ rs) is =
              All-from_get_or (λ r. reloc_fault inputs l r ≡ None) l.section.relocs d
              (λ k lt. reloc_none inputs l.object l.index l.section at (section_fine inputs fine l.object l.index l.section at) k (get_or l.section.relocs k d) (slice_get-get_or l.section.relocs k d lt))

      asked-none : needed l.object l.index ≡ true → section_fault result (there l) ≡ None
      asked-none need = ap (option_map {U = ℕ × Fault} (λ fault. (l.object, fault))) (each-none l l.section.relocs nones (closed.leads l.object l.index l.section at need))

      in-result : SectionParts → Option (ℕ × Fault)
      in-result s = section_fault result (record { object = l.object; index = number l.object l.index; section = s })

      by : (b : Bool) → needed l.object l.index ≡ b → (c : Bool) → is_code_section l.section ≡ c → section_fault result (passed (cleaning needed number) l) ≡ None
      by true need c code = ap (λ s. section_fault result (record { object = l.object; index = number l.object l.index; section = s })) (needed-clean (needed l.object l.index) l.section need) ∙ asked-none need
      by false need false code =
          ap (λ s. section_fault result (record { object = l.object; index = number l.object l.index; section = s })) (clean-data (needed l.object l.index) l.section code)
          ∙ asked-none (closed.data_needed l.object l.index l.section at kept code)
      by false need true code =
          ap₂ (λ c b. section_fault result (record { object = l.object; index = number l.object l.index; section = cond (c && not b) (record l.section { align = 1; size = 0; bytes = []; relocs = [] }) (record l.section { relocs = filter asks l.section.relocs }) })) code need

  sections-none : (ls : List IndexedSection) → All (IsThere inputs.objects) ls → first_some (map (section_fault result) (map (passed (cleaning needed number)) (filter is_kept_listed ls))) ≡ None
  sections-none [] there = refl
  sections-none (l ∷ ls) there = by (sections-none ls (All-tail (IsThere inputs.objects) l ls there)) (is_kept_section l.section) refl
    where
      by : first_some (map (section_fault result) (map (passed (cleaning needed number)) (filter is_kept_listed ls))) ≡ None → (b : Bool) → is_kept_section l.section ≡ b → first_some (map (section_fault result) (map (passed (cleaning needed number)) (cond b (l ∷ filter is_kept_listed ls) (filter is_kept_listed ls)))) ≡ None
      by rest true is = ap₂ option_or (section-none l (All-head (IsThere inputs.objects) l ls there) is) rest
      by rest false is = rest

  -- the result has no fault of relocations
  pub relocs-none : relocs_fault result ≡ None
  unfolding relocs_fault
  relocs-none =
      first-kept (section_fault result) (λ l none. ap (λ rs. option_map {U = ℕ × Fault} (λ fault. (l.object, fault)) (first_some (map (reloc_fault result l) rs))) none) (all_sections result.objects) (all-bare result.objects bare)
      ∙ ap (λ ls. first_some (map (section_fault result) ls)) (kept-all (cleaning needed number) inputs.objects result.objects clean.objects)
      ∙ sections-none (all_sections inputs.objects) (all-there inputs.objects)

  -- the result has a start
  pub entry-none : entry_fault result ≡ None
  unfolding entry_fault
  entry-none = ap (λ e. cond (is_none e) (Some (0, NoEntry)) None) (entry-in-clean needed number inputs result clean closed ∙ ap (option_map M) closed.entry_is)
