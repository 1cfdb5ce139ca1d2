-- What symbols of cleaned objects resolve to, if that is needed.
use Rattle.std.proofs.Common.{◌≡◌, ℕ, zero, suc, ◌+◌, ◌<◌, ◌⊎◌, inl, inr, ℤ, pos, ◌+ℤ◌, List, length, refl, sym, ap, ap₂, ◌∙◌, arith, Bool, true, false, cond, eqb, Option, Some, None, slice_get, subst}
use Rattle.std.specs.Prelude.{◌&&◌, not}
use Rattle.std.specs.Option.{option_and_then, option_map_or}
use Rattle.std.proofs.lemmas.Option.{slice_get_past}
use Rattle.zc_base.specs.declared.place.Place.{Place}
use Rattle.elf32_read.specs.Parts.{ObjectParts, SectionParts, SymbolParts, is_code_section, is_kept_section}
use Rattle.psabi_sym.specs.Data.{class_of}
use Rattle.psabi_sym.specs.Inputs.{ParsedInputs}
use Rattle.psabi_sym.specs.Indexed.{IndexedSymbol, section_at, symbol_at}
use Rattle.psabi_sym.specs.Names.{goes_by_name}
use Rattle.psabi_sym.specs.Resolve.{Definition, code_target, definition_target, home_target, name_definition, name_target, number_target, offset_within, resolved, role_target, symbol_target, undefined_target}
use Rattle.psabi_sym.specs.Resolve.Definition.{InObject, AtNumber}
use Rattle.psabi_sym.specs.declared.target.Target.{Target}
use Rattle.psabi_sym.specs.declared.target.Target.TheVariants.{Code, Number, Absent, Nowhere}
use Rattle.section_gc.specs.Cleaned.{cleaned_in, cleaned_section, cleaned_symbol, moved_by}
use Rattle.moved_runs.specs.Moved.{moved_target}
use Rattle.moved_runs.specs.Passes.{ArePassed, IsHomed, IsOrderly, new_number}
use Rattle.moved_runs.proofs.PassContents.{code-role}
use Rattle.moved_runs.proofs.PassSections.{result-of, section-moved}
use Rattle.moved_runs.proofs.PassData.{address_in-moved, dropped-role}
use Rattle.moved_runs.proofs.PassNumbers.{not-eqb, number-low}
use Rattle.moved_runs.proofs.PassTargets.{DefinitionMoves, SymbolMoves, absolute, data-role, in-section, name-moved, named_target, section_target, symbol-resolved}
use Rattle.section_gc.proofs.CleaningLaws.{cleaning, needed-clean, role-clean}

-- what is needed: a number, or a place in a section that is
abbrev pub IsNeededTarget : (ℕ → ℕ → Bool) → Target → Type 0
IsNeededTarget needed (Code q) = needed q.object q.section ≡ true
IsNeededTarget needed (Number n) = Unit {0}
IsNeededTarget needed (Absent n) = Unit {0}
IsNeededTarget needed Nowhere = ⊥

-- ---- a symbol in a section

pub clean-is : (n : ℕ → Bool) (g : ObjectParts) (s : SymbolParts) (h : SectionParts) → eqb s.home 0 ≡ false → slice_get g.sections s.home ≡ Some h → cleaned_symbol n g s ≡ cleaned_in (n s.home) (new_number g.sections s.home) s h
clean-is n g s h other at =
    ap (λ b. option_map_or (cleaned_in (n s.home) (new_number g.sections s.home) s) (cond b None (slice_get g.sections s.home)) s) other
    ∙ ap (λ f. option_map_or (cleaned_in (n s.home) (new_number g.sections s.home) s) f s) at

-- a symbol in a section that isn't emptied keeps all but its home, which is the section's new number
stays : (b : Bool) (m : ℕ) (s : SymbolParts) (h : SectionParts) → is_kept_section h ≡ true → (is_code_section h && not b) ≡ false → cleaned_in b m s h ≡ record s { home = m }
stays b m s h kept full =
    ap (λ k. cond (not k) (record s { value = 0; home = 0xFFF1 }) (cond (is_code_section h && not b) (record s { value = 0; size = 0; home = m }) (record s { home = m }))) kept
    ∙ ap (λ k. cond k (record s { value = 0; size = 0; home = m }) (record s { home = m })) full

module _ (needed : ℕ → ℕ → Bool) (renumber : ℕ → ℕ → ℕ) (inputs result : ParsedInputs) (clean : ArePassed (cleaning needed renumber) inputs result) where
  abbrev pub M : Place → Place
  M q = moved_by renumber q

  -- ---- a section

  -- a place in code
  code-moved : (o i : ℕ) (h : SectionParts) (offset : ℤ) → IsNeededTarget needed (code_target o i h offset) → code_target o (renumber o i) (cleaned_section (needed o i) h) offset ≡ moved_target M (code_target o i h offset)
  code-moved o i h offset = by (offset_within h.size offset) refl
    where
      by : (found : Option ℕ) → offset_within h.size offset ≡ found → IsNeededTarget needed (option_map_or (λ n. Code (record { object = o; section = i; offset = n })) found Nowhere)
          → code_target o (renumber o i) (cleaned_section (needed o i) h) offset ≡ moved_target M (option_map_or (λ n. Code (record { object = o; section = i; offset = n })) found Nowhere)
      by None is it = absurd it
      by (Some n) is it =
          ap (λ (s : SectionParts). code_target o (renumber o i) s offset) (needed-clean (needed o i) h it)
          ∙ ap (λ found. option_map_or (λ n. Code (record { object = o; section = renumber o i; offset = n })) found Nowhere) is

  -- the target says that its section is needed
  code-needed : (o i : ℕ) (h : SectionParts) (offset : ℤ) → IsNeededTarget needed (code_target o i h offset) → needed o i ≡ true
  code-needed o i h offset = by (offset_within h.size offset)
    where
      by : (found : Option ℕ) → IsNeededTarget needed (option_map_or (λ n. Code (record { object = o; section = i; offset = n })) found Nowhere) → needed o i ≡ true
      by None it = absurd it
      by (Some n) it = it

  section-clean : (o i value : ℕ) (addend : ℤ) (h : SectionParts) → section_at inputs.objects o i ≡ Some h → is_kept_section h ≡ true → IsNeededTarget needed (section_target inputs o i value addend h)
      → (section_target result o (renumber o i) value addend (cleaned_section (needed o i) h) ≡ moved_target M (section_target inputs o i value addend h)) × ((is_code_section h && not (needed o i)) ≡ false)
  section-clean o i value addend h at kept = by (is_code_section h) refl
    where
      by : (c : Bool) → is_code_section h ≡ c → IsNeededTarget needed (section_target inputs o i value addend h)
          → (section_target result o (renumber o i) value addend (cleaned_section (needed o i) h) ≡ moved_target M (section_target inputs o i value addend h)) × ((c && not (needed o i)) ≡ false)
      by true is it =
          let role = code-role h is in
          let here : IsNeededTarget needed (code_target o i h (pos value +ℤ addend)) = subst (λ r. IsNeededTarget needed (role_target inputs o i value addend h r)) role it in (
            ap (role_target result o (renumber o i) value addend (cleaned_section (needed o i) h)) (role-clean (needed o i) h ∙ role)
                ∙ code-moved o i h (pos value +ℤ addend) here
                ∙ sym (ap (λ r. moved_target M (role_target inputs o i value addend h r)) role),
            ap not (code-needed o i h (pos value +ℤ addend) here),
          )
      by false is it =
          let role = data-role h kept is in (
            ap (role_target result o (renumber o i) value addend (cleaned_section (needed o i) h)) (role-clean (needed o i) h ∙ role)
                ∙ ap (λ a. number_target (a + value) addend) (address_in-moved (cleaning needed renumber) inputs result clean o i h (class_of h) at is)
                ∙ sym (ap (λ r. moved_target M (role_target inputs o i value addend h r)) role),
            refl,
          )

  -- ---- a home

  -- where no section is, the symbol stays
  pub homeless : (n : ℕ → Bool) (g : ObjectParts) (s : SymbolParts) → slice_get g.sections s.home ≡ None → cleaned_symbol n g s ≡ s
  homeless n g s none = ap (λ x. option_map_or (cleaned_in (n s.home) (new_number g.sections s.home) s) (cond (eqb s.home 0) None x) s) none ∙ by (eqb s.home 0)
    where
      by : (b : Bool) → option_map_or (cleaned_in (n s.home) (new_number g.sections s.home) s) (cond b None None) s ≡ s
      by true = refl
      by false = refl

  home-clean : (o : ℕ) (g : ObjectParts) (s : SymbolParts) (addend : ℤ) → slice_get inputs.objects o ≡ Some g → IsOrderly g → IsHomed g s → eqb s.home 0 ≡ false → IsNeededTarget needed (home_target inputs o s addend)
      → home_target result o (cleaned_symbol (needed o) g s) addend ≡ moved_target M (home_target inputs o s addend)
  home-clean o g s addend at orderly homed other it = by homed.home
    where
      found-in : (low : s.home < length g.sections) (found : Option SectionParts) → slice_get g.sections s.home ≡ found → home_target result o (cleaned_symbol (needed o) g s) addend ≡ moved_target M (home_target inputs o s addend)
      found-in low None none = absurd (subst (IsNeededTarget needed) (in-section inputs o g s addend at low orderly ∙ ap (λ x. option_map_or (section_target inputs o s.home s.value addend) x Nowhere) none) it)
      found-in low (Some h) is = by (is_kept_section h) refl
        where
          there : section_at inputs.objects o s.home ≡ Some h
          there = ap (option_and_then (λ (object : ObjectParts). slice_get object.sections s.home)) at ∙ is

          given : home_target inputs o s addend ≡ section_target inputs o s.home s.value addend h
          given = in-section inputs o g s addend at low orderly ∙ ap (λ x. option_map_or (section_target inputs o s.home s.value addend) x Nowhere) is

          by : (k : Bool) → is_kept_section h ≡ k → home_target result o (cleaned_symbol (needed o) g s) addend ≡ moved_target M (home_target inputs o s addend)
          by false dropped = absurd (subst (IsNeededTarget needed) (given ∙ ap (role_target inputs o s.home s.value addend h) (dropped-role h dropped)) it)
          by true kept =
              let both = section-clean o s.home s.value addend h there kept (subst (IsNeededTarget needed) given it) in
              let r = result-of (cleaning needed renumber) inputs.objects result.objects clean.objects o g at in
              let same : new_number g.sections s.home ≡ renumber o s.home = sym (r.clean.numbers s.home) in
              ap (λ t. home_target result o t addend) (clean-is (needed o) g s h other is ∙ stays (needed o s.home) (new_number g.sections s.home) s h kept both.1)
              ∙ ap (λ b. cond b (number_target s.value addend) (option_map_or (section_target result o (new_number g.sections s.home) s.value addend) (section_at result.objects o (new_number g.sections s.home)) Nowhere)) (not-eqb (new_number g.sections s.home) 0xFFF1 (inl (number-low g s.home orderly)))
              ∙ ap (λ m. option_map_or (section_target result o m s.value addend) (section_at result.objects o m) Nowhere) same
              ∙ ap (λ x. option_map_or (section_target result o (renumber o s.home) s.value addend) x Nowhere) (section-moved (cleaning needed renumber) inputs.objects result.objects clean.objects o s.home h there kept)
              ∙ both.0
              ∙ ap (moved_target M) (sym given)

      by : (s.home < length g.sections) ⊎ ((s.home ≡ 0xFFF1) ⊎ (s.home ≡ 0xFFF2)) → home_target result o (cleaned_symbol (needed o) g s) addend ≡ moved_target M (home_target inputs o s addend)
      by (inl low) = found-in low (slice_get g.sections s.home) refl
      by (inr (inl is)) =
          let a : eqb s.home 0xFFF1 ≡ true = ap (λ h. eqb h 0xFFF1) is in
          ap (λ t. home_target result o t addend) (homeless (needed o) g s (absolute g s orderly is))
          ∙ ap (λ b. cond b (number_target s.value addend) (option_map_or (section_target result o s.home s.value addend) (section_at result.objects o s.home) Nowhere)) a
          ∙ sym (ap (λ b. moved_target M (cond b (number_target s.value addend) (option_map_or (section_target inputs o s.home s.value addend) (section_at inputs.objects o s.home) Nowhere))) a)
      by (inr (inr is)) =
          let a : eqb s.home 0xFFF1 ≡ false = ap (λ h. eqb h 0xFFF1) is in
          let none = slice_get_past g.sections s.home (omega (arith, is, orderly.few)) in
          absurd (subst (IsNeededTarget needed)
          (ap (λ b. cond b (number_target s.value addend) (option_map_or (section_target inputs o s.home s.value addend) (section_at inputs.objects o s.home) Nowhere)) a
          ∙ ap (λ x. option_map_or (section_target inputs o s.home s.value addend) (option_and_then (λ (object : ObjectParts). slice_get object.sections s.home) x) Nowhere) at
          ∙ ap (λ x. option_map_or (section_target inputs o s.home s.value addend) x Nowhere) none) it)

  -- ---- definitions

  defines-clean : (addend : ℤ) (l : IndexedSymbol) → IsNeededTarget needed (home_target inputs l.object l.symbol addend) → SymbolMoves (cleaning needed renumber) inputs result clean M addend addend l
  defines-clean addend l it = λ m c other. ap₂ (λ o s. home_target result o s addend) c.object c.symbol ∙ home-clean l.object c.given l.symbol addend c.given_is c.orderly c.homed other it

  definition-clean : (s : SymbolParts) (addend : ℤ) (d : Option Definition) → IsNeededTarget needed (option_map_or (definition_target inputs addend) d (undefined_target s addend))
      → DefinitionMoves (cleaning needed renumber) inputs result clean M addend addend d
  definition-clean s addend None it = refl
  definition-clean s addend (Some (AtNumber n)) it = refl
  definition-clean s addend (Some (InObject l)) it = defines-clean addend l it

  -- where a name leads by itself
  pub name-clean : (name : List ℕ) → IsNeededTarget needed (name_target inputs name) → name_target result name ≡ moved_target M (name_target inputs name)
  name-clean name it = name-moved (cleaning needed renumber) inputs result clean M name (by (name_definition inputs name) it)
    where
      by : (d : Option Definition) → IsNeededTarget needed (option_map_or (definition_target inputs (pos 0)) d Nowhere) → DefinitionMoves (cleaning needed renumber) inputs result clean M (pos 0) (pos 0) d
      by None it = refl
      by (Some (AtNumber n)) it = refl
      by (Some (InObject l)) it = defines-clean (pos 0) l it

  -- ---- symbols

  pub resolved-clean : (o k : ℕ) (addend : ℤ) → IsNeededTarget needed (resolved inputs o k addend) → resolved result o k addend ≡ moved_target M (resolved inputs o k addend)
  unfolding resolved
  resolved-clean o zero addend it = refl
  resolved-clean o (suc k) addend it = by (slice_get inputs.objects o) refl
    where
      unfound : symbol_at inputs.objects o (suc k) ≡ None → ⊥
      unfound none = subst (IsNeededTarget needed) (ap (λ x. option_map_or (λ symbol. symbol_target inputs o symbol addend) x Nowhere) none) it

      in-object : (g : ObjectParts) → slice_get inputs.objects o ≡ Some g → (found : Option SymbolParts) → slice_get g.symbols (suc k) ≡ found → resolved result o (suc k) addend ≡ moved_target M (resolved inputs o (suc k) addend)
      in-object g at None is = absurd (unfound (ap (option_and_then (λ (object : ObjectParts). slice_get object.symbols (suc k))) at ∙ is))
      in-object g at (Some s) is =
          symbol-resolved (cleaning needed renumber) inputs result clean M o k g s addend addend at is
          (record { named = λ by-name. definition-clean s addend (name_definition inputs s.name) (led (goes_by_name s) by-name here); own = λ local. defines-clean addend (record { object = o; index = suc k; symbol = s }) (homed (goes_by_name s) local here) })
        where
          given : symbol_at inputs.objects o (suc k) ≡ Some s
          given = ap (option_and_then (λ (object : ObjectParts). slice_get object.symbols (suc k))) at ∙ is

          here : IsNeededTarget needed (symbol_target inputs o s addend)
          here = subst (IsNeededTarget needed) (ap (λ x. option_map_or (λ symbol. symbol_target inputs o symbol addend) x Nowhere) given) it

          led : (b : Bool) → b ≡ true → IsNeededTarget needed (cond b (named_target inputs s addend) (home_target inputs o s addend)) → IsNeededTarget needed (named_target inputs s addend)
          led true is it = it
          led false is it = absurd cc

          homed : (b : Bool) → b ≡ false → IsNeededTarget needed (cond b (named_target inputs s addend) (home_target inputs o s addend)) → IsNeededTarget needed (home_target inputs o s addend)
          homed false is it = it
          homed true is it = absurd cc

      by : (found : Option ObjectParts) → slice_get inputs.objects o ≡ found → resolved result o (suc k) addend ≡ moved_target M (resolved inputs o (suc k) addend)
      by None at = absurd (unfound (ap (option_and_then (λ (object : ObjectParts). slice_get object.symbols (suc k))) at))
      by (Some g) at = in-object g at (slice_get g.symbols (suc k)) refl
