-- Names of the result are defined as those of the given objects, and its sections need no more room.
use Rattle.std.proofs.Common.{◌≡◌, ℕ, ◌+◌, ◌≤◌, List, [], ◌∷◌, ◌++◌, map, filter, refl, sym, ap, ap₂, ◌∙◌, arith, Bool, true, false, cond, eqb, Option, Some, None, is_none, slice_get, subst}
use Rattle.std.specs.Prelude.{◌&&◌, ◌||◌, not, All}
use Rattle.std.specs.List.{AllZip, enumerate_from, find, list_any, sum_by}
use Rattle.std.specs.Option.{option_map, option_map_or}
use Rattle.std.proofs.lemmas.List.Elements.{All-head, All-tail}
use Rattle.std.proofs.lemmas.List.Sums.{sum_by-cons}
use Rattle.std.proofs.lemmas.Option.{get_or_from_slice_get, slice_get_within}
use Rattle.elf32_read.specs.Parts.{ObjectParts, SectionParts, is_code_section, is_kept_section}
use Rattle.elf32_read.specs.declared.fault.Fault.{Fault}
use Rattle.elf32_read.specs.declared.fault.Fault.TheVariants.{Duplicate, Undefined}
use Rattle.elf32_read.specs.declared.reloc.Reloc.{Reloc}
use Rattle.psabi_sym.specs.Data.{role_of}
use Rattle.psabi_sym.specs.Faults.{code_room, counted_bytes, duplicate_fault, is_missing, is_second, is_used, is_used_in, names, object_code, room_in_code, same_symbol, undefined_fault}
use Rattle.psabi_sym.specs.Inputs.{ParsedInputs}
use Rattle.psabi_sym.specs.Indexed.{IndexedSymbol, all_symbols}
use Rattle.psabi_sym.specs.Names.{is_definition, is_strong, same_name, strong_definition}
use Rattle.psabi_sym.specs.Resolve.{Definition, name_definition}
use Rattle.psabi_sym.specs.declared.section_row.SectionRole.{SectionRole}
use Rattle.psabi_sym.specs.declared.section_row.SectionRole.TheVariants.{Code, InClass, Dropped}
use Rattle.block_cut.specs.Resolved.{asks}
use Rattle.moved_runs.specs.Passes.{ArePassed, IsPassOf, passed_from}
use Rattle.moved_runs.proofs.PassData.{definition-kept, dropped-role, first-definition-same, name-kept}
use Rattle.moved_runs.proofs.PassNames.{SameDefinition, Undefined as NoneDefined, Numbered, Defined, definition-same}
use Rattle.moved_runs.proofs.PassSections.{result-of}
use Rattle.moved_runs.proofs.PassSymbols.{IsPassedSymbol, symbol-kept, symbols-all}
use Rattle.moved_runs.proofs.PassZips.{ZipOption, BothNone, BothSome}
use Rattle.object_passes.proofs.WordRooms.{asking-room}
use Rattle.section_gc.specs.Cleaned.{cleaned_section}
use Rattle.section_gc.proofs.CleaningLaws.{cleaning, role-clean}
use Rattle.section_gc.proofs.LeftFaultsRelocs.{AreBare, IsBarePart}

-- ---- what isn't found

zip-none : {X Y : Type 0} (R : X → Y → Type 0) (p : X → Bool) (q : Y → Bool) → ((x : X) (y : Y) → R x y → p x ≡ false → q y ≡ false) → (xs : List X) (ys : List Y) → AllZip R xs ys → find p xs ≡ None → find q ys ≡ None
zip-none R p q fails [] [] zip none = refl
zip-none R p q fails [] (y ∷ ys) zip none = absurd zip
zip-none R p q fails (x ∷ xs) [] zip none = absurd zip
zip-none R p q fails (x ∷ xs) (y ∷ ys) zip none = by (λ n. zip-none R p q fails xs ys zip.1 n) (p x) refl none
  where
    by : (find p xs ≡ None → find q ys ≡ None) → (b : Bool) → p x ≡ b → cond b (Some x) (find p xs) ≡ None → cond (q y) (Some y) (find q ys) ≡ None
    by rest true h none = absurd cc
    by rest false h none = ap (λ b. cond b (Some y) (find q ys)) (fails x y zip.0 h) ∙ rest none

all-at : {X : Type 0} (P : X → Type 0) (xs : List X) (k : ℕ) (x : X) → All P xs → slice_get xs k ≡ Some x → P x
all-at P xs k x all at = subst P (get_or_from_slice_get xs k x x at) (all k x (slice_get_within xs k x at))

unmapped : {X Y : Type 0} (f : X → Y) (o : Option X) → option_map f o ≡ None → o ≡ None
unmapped f None h = refl
unmapped f (Some x) h = absurd cc

module _ (needed : ℕ → ℕ → Bool) (number : ℕ → ℕ → ℕ) (inputs result : ParsedInputs) (clean : ArePassed (cleaning needed number) inputs result) (bare : AreBare result.objects) where
  -- ---- names that are defined twice

  second-same : (l m : IndexedSymbol) → IsPassedSymbol (cleaning needed number) inputs.objects l m → is_second result.objects m ≡ is_second inputs.objects l
  second-same l m c =
      ap₂ (λ b n. b && option_map_or (λ first. not (same_symbol first m)) (strong_definition result.objects n) false) (definition-kept (cleaning needed number) inputs.objects result.objects clean.objects 1 l m c) (name-kept (cleaning needed number) inputs.objects result.objects clean.objects l m c)
      ∙ ap (λ t. is_strong l.symbol && t) (by (strong_definition inputs.objects l.symbol.name) (strong_definition result.objects l.symbol.name) (first-definition-same (cleaning needed number) inputs.objects result.objects clean.objects 1 l.symbol.name))
    where
      by : (a b : Option IndexedSymbol) → ZipOption (λ l0 m0. IsPassedSymbol (cleaning needed number) inputs.objects l0 m0 × ((is_definition 1 l0.symbol && same_name l0.symbol.name l.symbol.name) ≡ true)) a b
          → option_map_or (λ first. not (same_symbol first m)) b false ≡ option_map_or (λ first. not (same_symbol first l)) a false
      by a b BothNone = refl
      by a b (BothSome x y d) = λ i. not (eqb (d.0.object i) (c.object i) && eqb (d.0.index i) (c.index i))

  pub duplicate-none : duplicate_fault inputs.objects ≡ None → duplicate_fault result.objects ≡ None
  unfolding duplicate_fault
  duplicate-none none =
      ap (option_map {U = ℕ × Fault} (λ (l : IndexedSymbol). (l.object, Duplicate l.index)))
      (zip-none (IsPassedSymbol (cleaning needed number) inputs.objects) (is_second inputs.objects) (is_second result.objects) (λ l m c h. second-same l m c ∙ h)
      (all_symbols inputs.objects) (all_symbols result.objects) (symbols-all (cleaning needed number) inputs.objects result.objects clean.objects)
      (unmapped (λ (l : IndexedSymbol). (l.object, Duplicate l.index)) (find (is_second inputs.objects) (all_symbols inputs.objects)) none))

  -- ---- names that nothing defines

  names-fewer : (k : ℕ) (rs : List Reloc) → names k rs ≡ false → names k (filter asks rs) ≡ false
  names-fewer k [] h = refl
  names-fewer k (r ∷ rs) h = by (names-fewer k rs (right (eqb r.symbol k) (names k rs) h)) (asks r)
    where
      right : (a b : Bool) → (a || b) ≡ false → b ≡ false
      right false b h = h
      right true b h = absurd cc

      left : (a b : Bool) → (a || b) ≡ false → a ≡ false
      left false b h = refl
      left true b h = absurd cc

      by : names k (filter asks rs) ≡ false → (b : Bool) → names k (cond b (r ∷ filter asks rs) (filter asks rs)) ≡ false
      by rest true = ap₂ (λ a b. a || b) (left (eqb r.symbol k) (names k rs) h) rest
      by rest false = rest

  used-section : (k : ℕ) (b : Bool) (s : SectionParts) → names k s.relocs ≡ false → names k (cleaned_section b s).relocs ≡ false
  used-section k b s h = by (is_code_section s && not b)
    where
      by : (c : Bool) → names k (cond c (record s { align = 1; size = 0; bytes = []; relocs = [] }) (record s { relocs = filter asks s.relocs })).relocs ≡ false
      by true = refl
      by false = names-fewer k s.relocs h

  used-added : (k : ℕ) (added : List SectionParts) → All IsBarePart added → list_any is_kept_section added ≡ false → list_any (λ s. names k s.relocs) added ≡ false
  used-added k [] bare dropped = refl
  used-added k (x ∷ xs) bare dropped = by (λ h. used-added k xs (All-tail IsBarePart x xs bare) h) (is_kept_section x) refl dropped
    where
      by : (list_any is_kept_section xs ≡ false → list_any (λ s. names k s.relocs) xs ≡ false) → (b : Bool) → is_kept_section x ≡ b → (b || list_any is_kept_section xs) ≡ false → list_any (λ s. names k s.relocs) (x ∷ xs) ≡ false
      by rest true is h = absurd cc
      by rest false is h = ap₂ (λ rs b. names k rs || b) (All-head IsBarePart x xs bare is) (rest h)

  used-fewer : (k j : ℕ) (n : ℕ → Bool) (ss added : List SectionParts) → list_any (λ s. names k s.relocs) added ≡ false → list_any (λ s. names k s.relocs) ss ≡ false
      → list_any (λ s. names k s.relocs) (passed_from (λ i s. cleaned_section (n i) s) j ss ++ added) ≡ false
  used-fewer k j n [] added rest none = rest
  used-fewer k j n (s ∷ ss) added rest none = by (used-fewer k (j + 1) n ss added rest (right (names k s.relocs) _ none)) (is_kept_section s)
    where
      right : (a b : Bool) → (a || b) ≡ false → b ≡ false
      right false b h = h
      right true b h = absurd cc

      left : (a b : Bool) → (a || b) ≡ false → a ≡ false
      left false b h = refl
      left true b h = absurd cc

      by : list_any (λ s. names k s.relocs) (passed_from (λ i s. cleaned_section (n i) s) (j + 1) ss ++ added) ≡ false → (b : Bool)
          → list_any (λ s. names k s.relocs) (map (λ e. cleaned_section (n e.0) e.1) (cond b ((j, s) ∷ filter (λ e. is_kept_section e.1) (enumerate_from (j + 1) ss)) (filter (λ e. is_kept_section e.1) (enumerate_from (j + 1) ss))) ++ added) ≡ false
      by rest true = ap₂ (λ a b. a || b) (used-section k (n j) s (left (names k s.relocs) (list_any (λ s. names k s.relocs) ss) none)) rest
      by rest false = rest

  used-less : (l m : IndexedSymbol) → IsPassedSymbol (cleaning needed number) inputs.objects l m → is_used inputs.objects l ≡ false → is_used result.objects m ≡ false
  unfolding is_used
  used-less l m c none =
      let r = result-of (cleaning needed number) inputs.objects result.objects clean.objects l.object c.given c.given_is in
      let given : is_used_in c.given l.index ≡ false = sym (ap (λ o. option_map_or (λ object. is_used_in object l.index) o false) c.given_is) ∙ none in
      ap₂ (λ o k. option_map_or (λ object. is_used_in object k) (slice_get result.objects o) false) c.object c.index
      ∙ ap (λ o. option_map_or (λ object. is_used_in object l.index) o false) r.is
      ∙ ap (λ ss. list_any (λ s. names l.index s.relocs) ss) r.clean.sections
      ∙ (let all = subst (All IsBarePart) r.clean.sections (all-at (λ (g : ObjectParts). All IsBarePart g.sections) result.objects l.object r.object bare r.is) in
      let kept = passed_from (λ i s. cleaned_section (needed l.object i) s) 0 c.given.sections in
      let added = used-added l.index r.clean.added (after kept r.clean.added (All-tail IsBarePart r.clean.null (kept ++ r.clean.added) all)) r.clean.added_dropped in
      ap₂ (λ rs b. names l.index rs || b) (All-head IsBarePart r.clean.null (kept ++ r.clean.added) all r.clean.null_dropped) (used-fewer l.index 0 (needed l.object) c.given.sections r.clean.added added given))
    where
      after : (xs ys : List SectionParts) → All IsBarePart (xs ++ ys) → All IsBarePart ys
      after [] ys all = all
      after (x ∷ xs) ys all = after xs ys (All-tail IsBarePart x (xs ++ ys) all)

  none-defined : (a b : Option Definition) → SameDefinition (cleaning needed number) inputs result clean a b → is_none b ≡ is_none a
  none-defined a b NoneDefined = refl
  none-defined a b (Numbered n) = refl
  none-defined a b (Defined l m c other) = refl

  missing-less : (l m : IndexedSymbol) → IsPassedSymbol (cleaning needed number) inputs.objects l m → is_missing inputs l ≡ false → is_missing result m ≡ false
  missing-less l m c none =
      let same = symbol-kept (cleaning needed number) inputs.objects l m c in
      let defined = ap (λ n. is_none (name_definition result n)) same.name ∙ none-defined (name_definition inputs l.symbol.name) (name_definition result l.symbol.name) (definition-same (cleaning needed number) inputs result clean l.symbol.name) in
      (λ i. eqb (same.bind i) 1 && same.undefined i && is_used result.objects m && defined i)
      ∙ by (eqb l.symbol.bind 1 && eqb l.symbol.home 0) (is_used inputs.objects l) refl (is_none (name_definition inputs l.symbol.name)) none
    where
      by : (a u : Bool) → is_used inputs.objects l ≡ u → (d : Bool) → (a && u && d) ≡ false → (a && is_used result.objects m && d) ≡ false
      by false u is d h = refl
      by true true is false h = off (is_used result.objects m)
        where
          off : (b : Bool) → (b && false) ≡ false
          off true = refl
          off false = refl
      by true true is true h = absurd cc
      by true false is d h = ap (λ b. b && d) (used-less l m c is)

  pub undefined-none : undefined_fault inputs ≡ None → undefined_fault result ≡ None
  unfolding undefined_fault
  undefined-none none =
      ap (option_map {U = ℕ × Fault} (λ (l : IndexedSymbol). (l.object, Undefined l.index)))
      (zip-none (IsPassedSymbol (cleaning needed number) inputs.objects) (is_missing inputs) (is_missing result) missing-less
      (all_symbols inputs.objects) (all_symbols result.objects) (symbols-all (cleaning needed number) inputs.objects result.objects clean.objects)
      (unmapped (λ (l : IndexedSymbol). (l.object, Undefined l.index)) (find (is_missing inputs) (all_symbols inputs.objects)) none))

-- ---- room

none-counted : (b : Bool) → counted_bytes b 0 ≡ 0
none-counted true = refl
none-counted false = refl

pub code-less : (b : Bool) (s : SectionParts) → code_room (cleaned_section b s) ≤ code_room s
code-less b s = subst (λ r. room_in_code (cleaned_section b s) r ≤ code_room s) (sym (role-clean b s)) (by (is_code_section s && not b) (role_of s))
  where
    by : (c : Bool) (r : SectionRole) → room_in_code (cond c (record s { align = 1; size = 0; bytes = []; relocs = [] }) (record s { relocs = filter asks s.relocs })) r ≤ room_in_code s r
    by true Code = let none = none-counted s.compressed in omega (arith, none)
    by false Code = omega (arith, asking-room s.relocs)
    by c (InClass class) = omega arith
    by c Dropped = omega arith

code-none : (s : SectionParts) → is_kept_section s ≡ false → code_room s ≡ 0
code-none s dropped = ap (room_in_code s) (dropped-role s dropped)

module _ (n : ℕ → Bool) where
  added-room : (added : List SectionParts) → list_any is_kept_section added ≡ false → sum_by code_room added ≡ 0
  added-room [] none = refl
  added-room (x ∷ xs) none = by (is_kept_section x) refl (λ h. added-room xs h) none
    where
      by : (b : Bool) → is_kept_section x ≡ b → (list_any is_kept_section xs ≡ false → sum_by code_room xs ≡ 0) → (b || list_any is_kept_section xs) ≡ false → sum_by code_room (x ∷ xs) ≡ 0
      by true is rest h = absurd cc
      by false is rest h = omega (arith, sum_by-cons code_room x xs, code-none x is, rest h)

  code-fewer : (j : ℕ) (ss added : List SectionParts) → list_any is_kept_section added ≡ false → sum_by code_room (passed_from (λ i s. cleaned_section (n i) s) j ss ++ added) ≤ sum_by code_room ss
  code-fewer j [] added none = omega (arith, added-room added none)
  code-fewer j (s ∷ ss) added none = by (code-fewer (j + 1) ss added none) (is_kept_section s)
    where
      by : sum_by code_room (passed_from (λ i s. cleaned_section (n i) s) (j + 1) ss ++ added) ≤ sum_by code_room ss → (b : Bool)
          → sum_by code_room (map (λ e. cleaned_section (n e.0) e.1) (cond b ((j, s) ∷ filter (λ e. is_kept_section e.1) (enumerate_from (j + 1) ss)) (filter (λ e. is_kept_section e.1) (enumerate_from (j + 1) ss))) ++ added) ≤ sum_by code_room (s ∷ ss)
      by le true = omega (arith, sum_by-cons code_room s ss, sum_by-cons code_room (cleaned_section (n j) s) (passed_from (λ i s. cleaned_section (n i) s) (j + 1) ss ++ added), code-less (n j) s)
      by le false = omega (arith, sum_by-cons code_room s ss)

-- code takes no more room than it did
pub object-code-less : (needed : ℕ → ℕ → Bool) (number : ℕ → ℕ → ℕ) (n : ℕ) (g r : ObjectParts) → IsPassOf (cleaning needed number) n g r → object_code r ≤ object_code g
object-code-less needed number n g r c =
    subst (λ ss. sum_by code_room ss ≤ sum_by code_room g.sections) (sym c.sections)
    (let fewer = code-fewer (needed n) 0 g.sections c.added c.added_dropped in
    let none = code-none c.null c.null_dropped in
    omega (arith, sum_by-cons code_room c.null (passed_from (λ i s. cleaned_section (needed n i) s) 0 g.sections ++ c.added), none, fewer))
