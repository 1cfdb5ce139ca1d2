-- What the symbols of merged objects lead to: each new addend leads to where the place that the given one led to is found.
use Rattle.std.proofs.Common.{◌≡◌, ℕ, zero, suc, ◌<◌, ◌≤◌, ◌⊎◌, inl, inr, ℤ, pos, negsuc, ◌+◌, ◌+ℤ◌, ◌-ℤ◌, List, length, refl, sym, ap, ap₂, ◌∙◌, arith, Bool, true, false, cond, eqb, leb, Option, Some, None, slice_get, subst}
use Rattle.std.specs.Prelude.{not}
use Rattle.std.specs.Int.{w32, cast_unsigned}
use Rattle.std.specs.Option.{option_and_then, option_map_or}
use Rattle.std.proofs.lemmas.Bool.{le-leb, leb-true}
use Rattle.std.proofs.lemmas.Option.{slice_get_past}
use Rattle.zc_base.specs.declared.place.Place.{Place}
use Rattle.elf32_read.specs.Parts.{ObjectParts, SectionParts, SymbolParts, is_code_section, is_kept_section}
use Rattle.elf32_read.specs.declared.reloc.Reloc.{Reloc}
use Rattle.psabi_reloc.specs.Kinds.{kind_of}
use Rattle.psabi_sym.specs.Data.{class_of, role_of}
use Rattle.psabi_sym.specs.Inputs.{ParsedInputs}
use Rattle.psabi_sym.specs.Indexed.{IndexedSymbol, section_at, symbol_at}
use Rattle.psabi_sym.specs.Names.{goes_by_name}
use Rattle.psabi_sym.specs.Resolve.{Definition, code_target, definition_target, home_target, name_definition, number_target, offset_within, resolved, role_target, symbol_target, undefined_target}
use Rattle.psabi_sym.specs.Resolve.Definition.{InObject, AtNumber}
use Rattle.psabi_sym.specs.declared.target.Target.{Target}
use Rattle.psabi_sym.specs.declared.target.Target.TheVariants.{Code, Number, Absent, Nowhere}
use Rattle.block_cut.specs.Items.{target_of}
use Rattle.block_cut.specs.Whole.{IsWhole}
use Rattle.moved_runs.specs.Moved.{moved_target}
use Rattle.moved_runs.specs.Passes.{ArePassed, IsHomed, IsOrderly, new_number, renumbered}
use Rattle.moved_runs.proofs.PassContents.{code-role}
use Rattle.moved_runs.proofs.PassData.{address_in-moved, dropped-role, role-same}
use Rattle.moved_runs.proofs.PassNumbers.{not-eqb, number-low}
use Rattle.moved_runs.proofs.PassSections.{result-of, section-moved}
use Rattle.moved_runs.proofs.PassTargets.{DefinitionMoves, SymbolMoves, absolute, data-role, in-section, section_target, symbol-resolved}
use Rattle.tail_merge.specs.Merged.{addend_to, defining_value, definition_of, indexed, is_align_kind, merged_bytes, merged_place, merged_reloc, merged_relocs, merged_section, merged_symbol, new_value, removed_at, symbol_in, symbol_in_code}
use Rattle.tail_merge.specs.Tails.{Removed, merged_offset, moved_down, removed_tails}
use Rattle.tail_merge.proofs.DistanceLaws.{there-and-back}
use Rattle.tail_merge.proofs.FoundLaws.{found-within, removed-here}
use Rattle.tail_merge.proofs.MergingLaws.{merged-keeps, merging}

-- it leads somewhere
abbrev pub IsSomewhere : Target → Type 0
IsSomewhere (Code q) = Unit {0}
IsSomewhere (Number n) = Unit {0}
IsSomewhere (Absent n) = Unit {0}
IsSomewhere Nowhere = ⊥

-- the addend that leads to where a target's place is found, from a value; a number keeps the given addend
abbrev pub addend_from : ParsedInputs → Target → ℕ → ℤ → ℤ
addend_from inputs (Code p) value addend = pos (merged_place inputs p).offset -ℤ pos value
addend_from inputs (Number n) value addend = addend
addend_from inputs (Absent n) value addend = addend
addend_from inputs Nowhere value addend = addend

pub addend-same : (inputs : ParsedInputs) (o : ℕ) (r : Reloc) (t : Target) → addend_to inputs o r t ≡ addend_from inputs t (new_value inputs o r.symbol) r.addend
addend-same inputs o r (Code p) = refl
addend-same inputs o r (Number n) = refl
addend-same inputs o r (Absent n) = refl
addend-same inputs o r Nowhere = refl

-- each section of code is whole
abbrev pub AreWhole : ParsedInputs → Type 0
AreWhole inputs = (o i : ℕ) (s : SectionParts) → section_at inputs.objects o i ≡ Some s → is_code_section s ≡ true → IsWhole s

-- where a symbol stands that moves down
abbrev pub moved_value : ParsedInputs → ℕ → SymbolParts → ℕ
moved_value inputs o s = moved_down (removed_at inputs o s.home) s.value

offset-low : (size : ℕ) (z : ℤ) (n : ℕ) → offset_within size z ≡ Some n → n ≤ size
offset-low size (pos k) n is = by (leb k size) refl is
  where
    by : (b : Bool) → leb k size ≡ b → cond b (Some k) None ≡ Some n → n ≤ size
    by true le h = let same : k ≡ n = cc in let low = leb-true k size le in omega (arith, low, same)
    by false le h = absurd cc
offset-low size (negsuc k) n is = absurd cc

-- ---- a symbol in a section

module _ (inputs : ParsedInputs) where
  pub merged-is : (o : ℕ) (g : ObjectParts) (s : SymbolParts) (h : SectionParts) → eqb s.home 0 ≡ false → slice_get g.sections s.home ≡ Some h
      → merged_symbol inputs o g s ≡ symbol_in (removed_at inputs o s.home) (new_number g.sections s.home) s h
  merged-is o g s h other at =
      ap (λ b. option_map_or (symbol_in (removed_at inputs o s.home) (new_number g.sections s.home) s) (cond b None (slice_get g.sections s.home)) s) other
      ∙ ap (λ f. option_map_or (symbol_in (removed_at inputs o s.home) (new_number g.sections s.home) s) f s) at

  -- where no section is, the symbol stays
  pub merged-homeless : (o : ℕ) (g : ObjectParts) (s : SymbolParts) → slice_get g.sections s.home ≡ None → merged_symbol inputs o g s ≡ s
  merged-homeless o g s none = ap (λ x. option_map_or (symbol_in (removed_at inputs o s.home) (new_number g.sections s.home) s) (cond (eqb s.home 0) None x) s) none ∙ by (eqb s.home 0)
    where
      by : (b : Bool) → option_map_or (symbol_in (removed_at inputs o s.home) (new_number g.sections s.home) s) (cond b None None) s ≡ s
      by true = refl
      by false = refl

-- a symbol's value in its section
abbrev value_in : Bool → List Removed → ℕ → ℕ
value_in code removed value = cond code (moved_down removed value) value

in-kept : (removed : List Removed) (m : ℕ) (s : SymbolParts) (h : SectionParts) → is_kept_section h ≡ true
    → symbol_in removed m s h ≡ record (cond (is_code_section h) (symbol_in_code removed h s) s) { home = m }
in-kept removed m s h kept = ap (λ k. cond (not k) (record s { value = 0; home = 0xFFF1 }) (record (cond (is_code_section h) (symbol_in_code removed h s) s) { home = m })) kept

kept-value : (removed : List Removed) (s : SymbolParts) (h : SectionParts) → (record (cond (is_code_section h) (symbol_in_code removed h s) s) { home = 0 }).value ≡ value_in (is_code_section h) removed s.value
kept-value removed s h = by (is_code_section h)
  where
    by : (c : Bool) → (cond c (symbol_in_code removed h s) s).value ≡ value_in c removed s.value
    by true = refl
    by false = refl

module _ (inputs result : ParsedInputs) (passes : ArePassed (merging inputs) inputs result) (whole : AreWhole inputs) where
  abbrev M : Place → Place
  M q = merged_place inputs q

  -- ---- a section

  -- how large a section of code becomes
  merged-size : (o i : ℕ) (h : SectionParts) → is_code_section h ≡ true → (merged_section inputs o i h).size ≡ length (merged_bytes inputs (indexed o i h))
  merged-size o i h code =
      ap (λ (c : Bool). (cond c (record h { relocs = merged_relocs inputs (indexed o i h); size = length (merged_bytes inputs (indexed o i h)); bytes = merged_bytes inputs (indexed o i h) }) (record h { relocs = merged_relocs inputs (indexed o i h) })).size) code

  -- a place in code
  code-moved : (o i value : ℕ) (a : ℤ) (h : SectionParts) → section_at inputs.objects o i ≡ Some h → is_code_section h ≡ true → IsSomewhere (code_target o i h (pos value +ℤ a))
      → code_target o (renumbered inputs.objects o i) (merged_section inputs o i h) (pos (moved_down (removed_at inputs o i) value) +ℤ addend_from inputs (code_target o i h (pos value +ℤ a)) (moved_down (removed_at inputs o i) value) a)
      ≡ moved_target M (code_target o i h (pos value +ℤ a))
  code-moved o i value a h at code = by (offset_within h.size (pos value +ℤ a)) refl
    where
      by : (found : Option ℕ) → offset_within h.size (pos value +ℤ a) ≡ found → IsSomewhere (option_map_or (λ n. Code (record { object = o; section = i; offset = n })) found Nowhere)
          → code_target o (renumbered inputs.objects o i) (merged_section inputs o i h) (pos (moved_down (removed_at inputs o i) value) +ℤ addend_from inputs (option_map_or (λ n. Code (record { object = o; section = i; offset = n })) found Nowhere) (moved_down (removed_at inputs o i) value) a)
          ≡ moved_target M (option_map_or (λ n. Code (record { object = o; section = i; offset = n })) found Nowhere)
      by None is it = absurd it
      by (Some n) is it =
          let own = whole o i h at code in
          let q : Place = record { object = o; section = i; offset = n } in
          let low : n ≤ length h.bytes = omega (arith, offset-low h.size (pos value +ℤ a) n is, own.bytes) in
          let found = found-within inputs (indexed o i h) code own n low in
          let removed : merged_offset (removed_at inputs o i) n ≡ merged_offset (removed_tails inputs (indexed o i h)) n = ap (λ rs. merged_offset rs n) (removed-here inputs o i h at code) in
          let size = merged-size o i h code in
          let within : merged_offset (removed_at inputs o i) n ≤ (merged_section inputs o i h).size = omega (arith, found, removed, size) in
          ap (λ z. code_target o (renumbered inputs.objects o i) (merged_section inputs o i h) z) (there-and-back (moved_down (removed_at inputs o i) value) (merged_offset (removed_at inputs o i) n))
          ∙ ap (λ b. option_map_or (λ n. Code (record { object = o; section = renumbered inputs.objects o i; offset = n })) (cond b (Some (merged_offset (removed_at inputs o i) n)) None) Nowhere)
          (le-leb (merged_offset (removed_at inputs o i) n) (merged_section inputs o i h).size within)

  -- a place or an address in a kept section
  section-merged : (o i value : ℕ) (a : ℤ) (h : SectionParts) → section_at inputs.objects o i ≡ Some h → is_kept_section h ≡ true → IsSomewhere (section_target inputs o i value a h)
      → section_target result o (renumbered inputs.objects o i) (value_in (is_code_section h) (removed_at inputs o i) value) (addend_from inputs (section_target inputs o i value a h) (moved_down (removed_at inputs o i) value) a) (merged_section inputs o i h)
      ≡ moved_target M (section_target inputs o i value a h)
  section-merged o i value a h at kept it = by (is_code_section h) refl
    where
      new : role_of (merged_section inputs o i h) ≡ role_of h
      new = role-same h (merged_section inputs o i h) (merged-keeps inputs o i h)

      by : (c : Bool) → is_code_section h ≡ c
          → role_target result o (renumbered inputs.objects o i) (value_in c (removed_at inputs o i) value) (addend_from inputs (role_target inputs o i value a h (role_of h)) (moved_down (removed_at inputs o i) value) a) (merged_section inputs o i h) (role_of (merged_section inputs o i h))
          ≡ moved_target M (role_target inputs o i value a h (role_of h))
      by true code =
          let is = code-role h code in
          let here : IsSomewhere (code_target o i h (pos value +ℤ a)) = subst (λ r. IsSomewhere (role_target inputs o i value a h r)) is it in
          ap₂ (λ r t. role_target result o (renumbered inputs.objects o i) (moved_down (removed_at inputs o i) value) (addend_from inputs (role_target inputs o i value a h t) (moved_down (removed_at inputs o i) value) a) (merged_section inputs o i h) r) (new ∙ is) is
          ∙ code-moved o i value a h at code here
          ∙ sym (ap (λ r. moved_target M (role_target inputs o i value a h r)) is)
      by false plain =
          let is = data-role h kept plain in
          ap₂ (λ r t. role_target result o (renumbered inputs.objects o i) value (addend_from inputs (role_target inputs o i value a h t) (moved_down (removed_at inputs o i) value) a) (merged_section inputs o i h) r) (new ∙ is) is
          ∙ ap (λ n. number_target (n + value) a) (address_in-moved (merging inputs) inputs result passes o i h (class_of h) at plain)
          ∙ sym (ap (λ r. moved_target M (role_target inputs o i value a h r)) is)

  -- ---- a home

  home-merged : (o : ℕ) (g : ObjectParts) (s : SymbolParts) (a : ℤ) → slice_get inputs.objects o ≡ Some g → IsOrderly g → IsHomed g s → eqb s.home 0 ≡ false → IsSomewhere (home_target inputs o s a)
      → home_target result o (merged_symbol inputs o g s) (addend_from inputs (home_target inputs o s a) (moved_value inputs o s) a) ≡ moved_target M (home_target inputs o s a)
  home-merged o g s a at orderly homed other it = by homed.home
    where
      found-in : (low : s.home < length g.sections) (found : Option SectionParts) → slice_get g.sections s.home ≡ found
          → home_target result o (merged_symbol inputs o g s) (addend_from inputs (home_target inputs o s a) (moved_value inputs o s) a) ≡ moved_target M (home_target inputs o s a)
      found-in low None none = absurd (subst IsSomewhere (in-section inputs o g s a at low orderly ∙ ap (λ x. option_map_or (section_target inputs o s.home s.value a) x Nowhere) none) it)
      found-in low (Some h) is = by (is_kept_section h) refl
        where
          there : section_at inputs.objects o s.home ≡ Some h
          there = ap (option_and_then (λ (object : ObjectParts). slice_get object.sections s.home)) at ∙ is

          given : home_target inputs o s a ≡ section_target inputs o s.home s.value a h
          given = in-section inputs o g s a at low orderly ∙ ap (λ x. option_map_or (section_target inputs o s.home s.value a) x Nowhere) is

          by : (k : Bool) → is_kept_section h ≡ k
              → home_target result o (merged_symbol inputs o g s) (addend_from inputs (home_target inputs o s a) (moved_value inputs o s) a) ≡ moved_target M (home_target inputs o s a)
          by false dropped = absurd (subst IsSomewhere (given ∙ ap (role_target inputs o s.home s.value a h) (dropped-role h dropped)) it)
          by true kept =
              let r = result-of (merging inputs) inputs.objects result.objects passes.objects o g at in
              let number : new_number g.sections s.home ≡ renumbered inputs.objects o s.home = sym (r.clean.numbers s.home) in
              let b = addend_from inputs (section_target inputs o s.home s.value a h) (moved_value inputs o s) a in
              let removed = removed_at inputs o s.home in
              let old = merged-is inputs o g s h other is ∙ in-kept removed (new_number g.sections s.home) s h kept in
              subst (λ t. home_target result o (merged_symbol inputs o g s) (addend_from inputs t (moved_value inputs o s) a) ≡ moved_target M t) (sym given)
              (ap (λ t. home_target result o t b) old
              ∙ ap (λ c. cond c (number_target (cond (is_code_section h) (symbol_in_code removed h s) s).value b) (option_map_or (section_target result o (new_number g.sections s.home) (cond (is_code_section h) (symbol_in_code removed h s) s).value b) (section_at result.objects o (new_number g.sections s.home)) Nowhere))
              (not-eqb (new_number g.sections s.home) 0xFFF1 (inl (number-low g s.home orderly)))
              ∙ ap₂ (λ m v. option_map_or (section_target result o m v b) (section_at result.objects o m) Nowhere) number (kept-value removed s h)
              ∙ ap (λ x. option_map_or (section_target result o (renumbered inputs.objects o s.home) (value_in (is_code_section h) removed s.value) b) x Nowhere) (section-moved (merging inputs) inputs.objects result.objects passes.objects o s.home h there kept)
              ∙ section-merged o s.home s.value a h there kept (subst IsSomewhere given it))

      by : (s.home < length g.sections) ⊎ ((s.home ≡ 0xFFF1) ⊎ (s.home ≡ 0xFFF2))
          → home_target result o (merged_symbol inputs o g s) (addend_from inputs (home_target inputs o s a) (moved_value inputs o s) a) ≡ moved_target M (home_target inputs o s a)
      by (inl low) = found-in low (slice_get g.sections s.home) refl
      by (inr (inl is)) =
          let one : eqb s.home 0xFFF1 ≡ true = ap (λ h. eqb h 0xFFF1) is in
          let given : home_target inputs o s a ≡ number_target s.value a = ap (λ b. cond b (number_target s.value a) (option_map_or (section_target inputs o s.home s.value a) (section_at inputs.objects o s.home) Nowhere)) one in
          subst (λ t. home_target result o (merged_symbol inputs o g s) (addend_from inputs t (moved_value inputs o s) a) ≡ moved_target M t) (sym given)
          (ap (λ t. home_target result o t a) (merged-homeless inputs o g s (absolute g s orderly is))
          ∙ ap (λ b. cond b (number_target s.value a) (option_map_or (section_target result o s.home s.value a) (section_at result.objects o s.home) Nowhere)) one)
      by (inr (inr is)) =
          let one : eqb s.home 0xFFF1 ≡ false = ap (λ h. eqb h 0xFFF1) is in
          let none = slice_get_past g.sections s.home (omega (arith, is, orderly.few)) in
          absurd (subst IsSomewhere
          (ap (λ b. cond b (number_target s.value a) (option_map_or (section_target inputs o s.home s.value a) (section_at inputs.objects o s.home) Nowhere)) one
          ∙ ap (λ x. option_map_or (section_target inputs o s.home s.value a) (option_and_then (λ (object : ObjectParts). slice_get object.sections s.home) x) Nowhere) at
          ∙ ap (λ x. option_map_or (section_target inputs o s.home s.value a) x Nowhere) none) it)

  -- a symbol that defines a name, or itself
  pub defines-merged : (a : ℤ) (l : IndexedSymbol) → IsSomewhere (home_target inputs l.object l.symbol a)
      → SymbolMoves (merging inputs) inputs result passes M a (addend_from inputs (home_target inputs l.object l.symbol a) (moved_value inputs l.object l.symbol) a) l
  defines-merged a l it = λ m c other.
      ap₂ (λ o s. home_target result o s (addend_from inputs (home_target inputs l.object l.symbol a) (moved_value inputs l.object l.symbol) a)) c.object c.symbol
      ∙ home-merged l.object c.given l.symbol a c.given_is c.orderly c.homed other it

  -- ---- symbols

  -- the addend by what defines the symbol
  definition-merged : (s : SymbolParts) (a : ℤ) (d : Option Definition) → IsSomewhere (option_map_or (definition_target inputs a) d (undefined_target s a))
      → DefinitionMoves (merging inputs) inputs result passes M a (addend_from inputs (option_map_or (definition_target inputs a) d (undefined_target s a)) (defining_value inputs d) a) d
  definition-merged s a None it = by (eqb s.bind 2)
    where
      by : (b : Bool) → addend_from inputs (cond b (Absent (cast_unsigned w32 a)) Nowhere) 0 a ≡ a
      by true = refl
      by false = refl
  definition-merged s a (Some (AtNumber n)) it = refl
  definition-merged s a (Some (InObject l)) it = defines-merged a l it

  pub resolved-merged : (o k : ℕ) (a : ℤ) → IsSomewhere (resolved inputs o k a)
      → resolved result o k (addend_from inputs (resolved inputs o k a) (new_value inputs o k) a) ≡ moved_target M (resolved inputs o k a)
  unfolding resolved
  resolved-merged o zero a it = refl
  resolved-merged o (suc k) a it = by (slice_get inputs.objects o) refl
    where
      unfound : symbol_at inputs.objects o (suc k) ≡ None → ⊥
      unfound none = subst IsSomewhere (ap (λ x. option_map_or (λ symbol. symbol_target inputs o symbol a) x Nowhere) none) it

      in-object : (g : ObjectParts) → slice_get inputs.objects o ≡ Some g → (found : Option SymbolParts) → slice_get g.symbols (suc k) ≡ found
          → resolved result o (suc k) (addend_from inputs (resolved inputs o (suc k) a) (new_value inputs o (suc k)) a) ≡ moved_target M (resolved inputs o (suc k) a)
      in-object g at None is = absurd (unfound (ap (option_and_then (λ (object : ObjectParts). slice_get object.symbols (suc k))) at ∙ is))
      in-object g at (Some s) is =
          let given : symbol_at inputs.objects o (suc k) ≡ Some s = ap (option_and_then (λ (object : ObjectParts). slice_get object.symbols (suc k))) at ∙ is in
          symbol-resolved (merging inputs) inputs result passes M o k g s a (addend_from inputs (resolved inputs o (suc k) a) (new_value inputs o (suc k)) a) at is (record { named = named given; own = own given })
        where
          named : symbol_at inputs.objects o (suc k) ≡ Some s → goes_by_name s ≡ true → DefinitionMoves (merging inputs) inputs result passes M a (addend_from inputs (resolved inputs o (suc k) a) (new_value inputs o (suc k)) a) (name_definition inputs s.name)
          named given by-name =
              let value : new_value inputs o (suc k) ≡ defining_value inputs (name_definition inputs s.name) =
              ap (λ x. option_map_or (λ s. defining_value inputs (definition_of inputs o (suc k) s)) x 0) given
              ∙ ap (λ b. defining_value inputs (cond b (name_definition inputs s.name) (Some (InObject (record { object = o; index = suc k; symbol = s }))))) by-name in
              let target : resolved inputs o (suc k) a ≡ option_map_or (definition_target inputs a) (name_definition inputs s.name) (undefined_target s a) =
              ap (λ x. option_map_or (λ symbol. symbol_target inputs o symbol a) x Nowhere) given
              ∙ ap (λ b. cond b (option_map_or (definition_target inputs a) (name_definition inputs s.name) (undefined_target s a)) (home_target inputs o s a)) by-name in
              subst (λ z. DefinitionMoves (merging inputs) inputs result passes M a z (name_definition inputs s.name)) (sym (ap₂ (λ t v. addend_from inputs t v a) target value))
              (definition-merged s a (name_definition inputs s.name) (subst IsSomewhere target it))

          own : symbol_at inputs.objects o (suc k) ≡ Some s → goes_by_name s ≡ false → SymbolMoves (merging inputs) inputs result passes M a (addend_from inputs (resolved inputs o (suc k) a) (new_value inputs o (suc k)) a) (record { object = o; index = suc k; symbol = s })
          own given local =
              let value : new_value inputs o (suc k) ≡ moved_value inputs o s =
              ap (λ x. option_map_or (λ s. defining_value inputs (definition_of inputs o (suc k) s)) x 0) given
              ∙ ap (λ b. defining_value inputs (cond b (name_definition inputs s.name) (Some (InObject (record { object = o; index = suc k; symbol = s }))))) local in
              let target : resolved inputs o (suc k) a ≡ home_target inputs o s a =
              ap (λ x. option_map_or (λ symbol. symbol_target inputs o symbol a) x Nowhere) given
              ∙ ap (λ b. cond b (option_map_or (definition_target inputs a) (name_definition inputs s.name) (undefined_target s a)) (home_target inputs o s a)) local in
              subst (λ z. SymbolMoves (merging inputs) inputs result passes M a z (record { object = o; index = suc k; symbol = s })) (sym (ap₂ (λ t v. addend_from inputs t v a) target value))
              (defines-merged a (record { object = o; index = suc k; symbol = s }) (subst IsSomewhere target it))

      by : (found : Option ObjectParts) → slice_get inputs.objects o ≡ found
          → resolved result o (suc k) (addend_from inputs (resolved inputs o (suc k) a) (new_value inputs o (suc k)) a) ≡ moved_target M (resolved inputs o (suc k) a)
      by None at = absurd (unfound (ap (option_and_then (λ (object : ObjectParts). slice_get object.symbols (suc k))) at))
      by (Some g) at = in-object g at (slice_get g.symbols (suc k)) refl

  -- ---- relocations

  -- a relocation's new addend; that of padding says how long it is, and leads nowhere
  pub target-merged : (o : ℕ) (removed : List Removed) (r : Reloc) → is_align_kind (kind_of r.kind) ≡ false → IsSomewhere (target_of inputs o r)
      → target_of result o (merged_reloc inputs o removed r) ≡ moved_target M (target_of inputs o r)
  target-merged o removed r leads it =
      ap (λ b. resolved result o r.symbol (cond b r.addend (addend_to inputs o r (target_of inputs o r)))) leads
      ∙ ap (resolved result o r.symbol) (addend-same inputs o r (target_of inputs o r))
      ∙ resolved-merged o r.symbol r.addend it
