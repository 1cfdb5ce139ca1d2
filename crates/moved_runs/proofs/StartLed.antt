-- Where the program starts a basic block begins: a symbol is defined there that others may use.
use Rattle.std.proofs.Common.{◌≡◌, ℕ, ◌+◌, ◌⊎◌, List, Option, Some, None, Bool, true, false, cond, refl, sym, ap, ◌∙◌, arith, inl, inr, eqb}
use Rattle.std.specs.Prelude.{pos, ◌&&◌, ◌||◌, not, nat_le}
use Rattle.std.specs.List.{list_any}
use Rattle.std.specs.Option.{option_map, option_map_or, option_or}
use Rattle.std.proofs.lemmas.Bool.{and_from, and_parts, eqb-true, or_cases, or_left, or_right}
use Rattle.zc_base.specs.Places.{same_place}
use Rattle.zc_base.specs.declared.place.Place.{Place}
use Rattle.zc_base.proofs.PlaceLaws.{same_place-refl}
use Rattle.elf32_read.specs.Parts.{SectionParts, is_code_section}
use Rattle.psabi_sym.specs.Data.{common_address, is_code_role, role_of}
use Rattle.psabi_sym.specs.Indexed.{IndexedSymbol, all_sections, all_symbols, section_at}
use Rattle.psabi_sym.specs.Inputs.{ParsedInputs}
use Rattle.psabi_sym.specs.Names.{first_definition, is_common, is_definition, same_name, strong_definition, weak_definition}
use Rattle.psabi_sym.specs.Resolve.{AtNumber, InObject, definition_target, home_target, linker_number, linker_numbers, name_definition, name_target, number_target, role_target}
use Rattle.psabi_sym.specs.declared.section_row.SectionRole.{SectionRole}
use Rattle.psabi_sym.specs.declared.section_row.SectionRole.TheVariants as role
use Rattle.psabi_sym.specs.declared.target.Target.TheVariants.{Code, Nowhere}
use Rattle.psabi_sym.proofs.PlaceLaws.{code_is}
use Rattle.block_cut.specs.Items.{all_places, is_target_at}
use Rattle.block_cut.specs.Leaders.{is_leader_at, item_leads, section_leads, symbol_leads}
use Rattle.moved_runs.proofs.Elements.{any_found, found_passes}

module _ (p : ParsedInputs) (q : Place) where
  -- a symbol leads into code: it is defined there, in a section of code
  module _ (l : IndexedSymbol) where
    abbrev place : Place
    place = record { object = l.object; section = l.symbol.home; offset = l.symbol.value }

    -- the symbol's section is code, and its offset is the place's
    record IsInCode (s : SectionParts) : Type 0 where
      same : place ≡ q
      code : is_code_section s ≡ true

    in_code :
        (s : SectionParts) (r : SectionRole) → role_of s ≡ r → role_target p l.object l.symbol.home l.symbol.value (pos 0) s r ≡ Code q → IsInCode s
    in_code s role.Code is h = record { same = offset (nat_le (l.symbol.value + 0) s.size) h; code = sym (code_is s) ∙ ap is_code_role is }
      where
        offset :
            (b : Bool)
            → option_map_or (λ n. Code (record { object = l.object; section = l.symbol.home; offset = n })) (cond b (Some (l.symbol.value + 0)) None) Nowhere ≡ Code q
            → place ≡ q
        offset true e =
            let sum : l.symbol.value ≡ l.symbol.value + 0 = omega arith in
            let there : record { object = l.object; section = l.symbol.home; offset = l.symbol.value + 0 } ≡ q = cc in
            ap (λ n. record { object = l.object; section = l.symbol.home; offset = n }) sum ∙ there
        offset false e = absurd cc
    in_code s (role.InClass class) is h = absurd cc
    in_code s role.Dropped is h = absurd cc

    home_there :
        home_target p l.object l.symbol (pos 0) ≡ Code q
        → (same_place place q && option_map_or is_code_section (section_at p.objects l.object l.symbol.home) false) ≡ true
    home_there leads = by (eqb l.symbol.home 0xFFF1) leads
      where
        found :
            (o : Option SectionParts) → section_at p.objects l.object l.symbol.home ≡ o
            → option_map_or (λ s. role_target p l.object l.symbol.home l.symbol.value (pos 0) s (role_of s)) o Nowhere ≡ Code q
            → (same_place place q && option_map_or is_code_section (section_at p.objects l.object l.symbol.home) false) ≡ true
        found None at h = absurd cc
        found (Some s) at h =
            let is = in_code s (role_of s) refl h in
            and_from (same_place place q) (option_map_or is_code_section (section_at p.objects l.object l.symbol.home) false)
            (ap (same_place place) (sym is.same) ∙ same_place-refl place)
            (ap (λ o. option_map_or is_code_section o false) at ∙ is.code)

        by :
            (b : Bool)
            → cond b (number_target l.symbol.value (pos 0))
            (option_map_or (λ s. role_target p l.object l.symbol.home l.symbol.value (pos 0) s (role_of s)) (section_at p.objects l.object l.symbol.home) Nowhere) ≡ Code q
            → (same_place place q && option_map_or is_code_section (section_at p.objects l.object l.symbol.home) false) ≡ true
        by true h = absurd cc
        by false h = found (section_at p.objects l.object l.symbol.home) refl h

  -- a name's first definition with a binding, global (1) or weak (2)
  defined_leader :
      (bind : ℕ) (name : List ℕ) (l : IndexedSymbol) → (eqb bind 1 || eqb bind 2) ≡ true → first_definition bind p.objects name ≡ Some l
      → home_target p l.object l.symbol (pos 0) ≡ Code q → is_leader_at p q ≡ true
  unfolding is_leader_at
  defined_leader bind name l global found leads =
      let s = l.symbol in
      let passes = and_parts (is_definition bind s) (same_name s.name name) (found_passes _ (all_symbols p.objects) l found) in
      let parts = and_parts (eqb s.bind bind && not (eqb s.home 0)) (not (is_common s)) passes.0 in
      let two = and_parts (eqb s.bind bind) (not (eqb s.home 0)) parts.0 in
      let bound : (eqb s.bind 1 || (eqb s.bind 2 || eqb s.kind 2)) ≡ true = binding (eqb-true s.bind bind two.0) in
      let defined = and_from (not (eqb s.home 0)) (eqb s.bind 1 || (eqb s.bind 2 || eqb s.kind 2)) two.1 bound in
      let one : symbol_leads p.objects q l ≡ true = and_from (not (eqb s.home 0) && (eqb s.bind 1 || (eqb s.bind 2 || eqb s.kind 2))) _ defined (home_there l leads) in
      let some : list_any (symbol_leads p.objects q) (all_symbols p.objects) ≡ true = any_found _ (symbol_leads p.objects q) (all_symbols p.objects) l found one in
      or_right (eqb q.offset 0 && is_target_at p.objects q) _
      (or_right (list_any (section_leads p q) (all_sections p.objects)) _ (or_right (list_any (item_leads p q) (all_places p.objects)) _ some))
    where
      binding : l.symbol.bind ≡ bind → (eqb l.symbol.bind 1 || (eqb l.symbol.bind 2 || eqb l.symbol.kind 2)) ≡ true
      binding same = by (or_cases (eqb bind 1) (eqb bind 2) global)
        where
          by : (eqb bind 1 ≡ true) ⊎ (eqb bind 2 ≡ true) → (eqb l.symbol.bind 1 || (eqb l.symbol.bind 2 || eqb l.symbol.kind 2)) ≡ true
          by (inl strong) = or_left (eqb l.symbol.bind 1) _ (ap (λ b. eqb b 1) same ∙ strong)
          by (inr weak) = or_right (eqb l.symbol.bind 1) _ (or_left (eqb l.symbol.bind 2) _ (ap (λ b. eqb b 2) same ∙ weak))

  -- what a name leads to in code
  pub name_leader : (name : List ℕ) → name_target p name ≡ Code q → is_leader_at p q ≡ true
  unfolding name_definition
  name_leader name leads =
      by (strong_definition p.objects name) refl (common_address p name) (weak_definition p.objects name) refl (linker_number (linker_numbers p) name) leads
    where
      by :
          (strong : Option IndexedSymbol) → strong_definition p.objects name ≡ strong → (common : Option ℕ)
          → (weak : Option IndexedSymbol) → weak_definition p.objects name ≡ weak → (number : Option ℕ)
          → option_map_or (definition_target p (pos 0))
          (option_or (option_map InObject strong) (option_or (option_map AtNumber common) (option_or (option_map InObject weak) (option_map AtNumber number)))) Nowhere ≡ Code q
          → is_leader_at p q ≡ true
      by (Some l) is common weak other number h = defined_leader 1 name l refl is h
      by None is (Some n) weak other number h = absurd cc
      by None is None (Some l) other number h = defined_leader 2 name l refl other h
      by None is None None other (Some n) h = absurd cc
      by None is None None other None h = absurd cc
