-- The generated objects: the code of each is made of fragments, and each relocation leads somewhere.
use Rattle.std.proofs.Common.{◌≡◌, ℕ, suc, ◌+◌, ◌-◌, ◌*◌, ◌<◌, ◌≤◌, ◌⊎◌, inl, inr, pos, ◌+ℤ◌, List, [], ◌∷◌, ◌++◌, length, map, drop, Bool, true, false, cond, Some, None, slice_get, refl, sym, ap, subst, ◌∙◌, arith, eqb, eq-eqb, get_or}
use Rattle.std.specs.Prelude.{All, ◌||◌}
use Rattle.std.specs.List.{flat_map, range_with_len}
use Rattle.std.specs.Option.{option_and_then, option_map, option_map_or}
use Rattle.std.proofs.Math.IntN.{+ℤ_idr}
use Rattle.std.proofs.lemmas.Bool.{and_left, and_right, cases_lt, le-leb, not_from_true, or_left, or_right}
use Rattle.std.proofs.lemmas.List.{get_or_append_left, map-append}
use Rattle.std.proofs.lemmas.List.Concat.{flat_map-append}
use Rattle.std.proofs.lemmas.List.Elements.{All-head, All-tail}
use Rattle.std.proofs.lemmas.List.FromFn.{get_or-range_with_len, length-range_with_len}
use Rattle.std.proofs.lemmas.List.Sums.{sum_by-append}
use Rattle.std.proofs.lemmas.Option.{get_or_from_slice_get, slice_get-map}
use Rattle.zc_base.specs.MemMap.{standard_map}
use Rattle.zc_base.specs.declared.place.Place.{Place}
use Rattle.zc_base.proofs.ListLaws.{get_map}
use Rattle.elf32_read.specs.Parts.{ObjectParts, SectionParts, SymbolParts}
use Rattle.psabi_sym.specs.Data.{role_of}
use Rattle.psabi_sym.specs.Indexed.{IndexedSection, IndexedSymbol, section_at, symbol_at}
use Rattle.psabi_sym.specs.Inputs.{ParsedInputs}
use Rattle.psabi_sym.specs.Names.{strong_definition}
use Rattle.psabi_sym.specs.Resolve.{definition_target, home_target, name_definition, offset_within, resolved, role_target, symbol_target}
use Rattle.psabi_sym.specs.declared.section_row.SectionRole.TheVariants as role
use Rattle.psabi_sym.specs.declared.target.Target.{Target}
use Rattle.psabi_sym.specs.declared.target.Target.TheVariants.{Code, Nowhere}
use Rattle.psabi_reloc.specs.Kinds.{kind_of}
use Rattle.block_cut.specs.Faults.{is_bad_target}
use Rattle.block_cut.specs.Items.{is_target_at, starts_on}
use Rattle.block_cut.specs.Relocs.{is_transfer}
use Rattle.block_cut.specs.Whole.{IsWhole}
use Rattle.block_cut.proofs.PlainLaws.{target_on}
use Rattle.block_cut.proofs.WholeLaws.{code_at_is}
use Rattle.sound_objects.specs.Parts.{objects_of, read_of}
use Rattle.sound_objects.specs.Fragments.{IsMadeOf, Fragment, FragmentReloc, fragments_size, fragment_reloc_at}
use Rattle.sound_objects.specs.WellFormed.{RelocsAreRight}
use Rattle.sound_objects.proofs.NameLaws.{defined_strong, strong_found}
use Rattle.sound_objects.proofs.PartsLaws.{written_whole}
use Rattle.sound_objects.proofs.FragmentLaws.{edge_after, relocs_right}
use Rattle.sound_objects.proofs.RelocLaws.{LeadsRight}
use Rattle.load_maker.specs.Functions.{functions_from}
use Rattle.load_maker.specs.Objects.{function_name, function_symbols, group_count, group_object, made_parts, start_object, start_statements, symbol_of, code_parts, undefined_symbol}
use Rattle.load_maker.specs.Statements.{named_by, fragment_of, reloc_to}
use Rattle.load_maker.specs.declared.make_objects.TheConstants.{FUNCTION_LIMIT}
use Rattle.load_maker.specs.declared.statement.Statement.{Statement}
use Rattle.load_maker.specs.declared.statement.Statement.TheVariants.{Plain, Call, WithAddress}
use Rattle.load_maker.proofs.BodyLaws.{IsInner, bodies_of, code_of, group_inner}
use Rattle.load_maker.proofs.CodeLaws.{IsRight, TakesPart, code_made, code_sized, fragment_from}
use Rattle.load_maker.proofs.MadeLaws.{IsDefined, function_defined, later_there, not_start, objects, slice_drop, slice_left, slice_right, strong_is, symbol_there}
use Rattle.load_maker.proofs.MadeLaws.IsDefined.{AtStart, AtFunction}
use Rattle.load_maker.proofs.NamedLaws.{HasNumber, called_has}
use Rattle.load_maker.proofs.SymbolLaws.{function_at, function_there, length-function_symbols}
use Rattle.load_maker.proofs.StartLaws.{start_right}
use Rattle.load_maker.proofs.WrittenLaws.{group_right, group_written, names_more, start_written}

-- a statement that stands among others with a property has it
at_split : (P : Statement → Type 0) (statements before after : List Statement) (s : Statement) → statements ≡ before ++ s ∷ after → All P statements → P s
at_split P statements [] after s split all = All-head P s after (subst (All P) split all)
at_split P [] (b ∷ before) after s split all = absurd cc
at_split P (x ∷ rest) (b ∷ before) after s split all = at_split P rest before after s (cc) (All-tail P x rest all)

-- ---- targets

resolved_there : (inputs : ParsedInputs) (o k : ℕ) (s : SymbolParts) → symbol_at inputs.objects o (suc k) ≡ Some s → resolved inputs o (suc k) (pos 0) ≡ symbol_target inputs o s (pos 0)
unfolding resolved
resolved_there inputs o k s at = ap (λ x. option_map_or (λ symbol. symbol_target inputs o symbol (pos 0)) x Nowhere) at

text_role : (fragments : List Fragment) → role_of (code_parts fragments) ≡ role.Code
unfolding role_of
text_role fragments = refl

within_size : (size v : ℕ) → v ≤ size → offset_within size (pos v +ℤ pos 0) ≡ Some v
within_size size v le = ap (offset_within size) (+ℤ_idr (pos v)) ∙ ap (λ b. cond b (Some v) None) (le-leb v size le)

module _ (number n : ℕ) (few : n ≤ FUNCTION_LIMIT) where
  abbrev pub made : ParsedInputs
  made = objects_of standard_map (made_parts number n)

  -- ---- the code of objects

  abbrev pub start_named : List ℕ
  start_named = named_by [] (start_statements number n)

  abbrev pub start_fragments : List Fragment
  start_fragments = map (fragment_of (symbol_of 2 start_named)) (start_statements number n)

  abbrev pub named_in : ℕ → List ℕ
  named_in k = named_by (range_with_len (8 * k) (length (bodies_of number n k))) (code_of number n k)

  abbrev pub fragments_in : ℕ → List Fragment
  fragments_in k = map (fragment_of (symbol_of 0 (named_in k))) (code_of number n k)

  pub start_made : IsMadeOf start_fragments (code_parts start_fragments)
  start_made = code_made n (symbol_of 2 start_named) (start_statements number n) (start_right number n)

  pub start_whole : IsWhole (code_parts start_fragments)
  start_whole = written_whole (start_object number n) (start_written number n few) 1 (code_parts start_fragments) refl refl

  module _ (k : ℕ) (within : k < group_count n) where
    pub text_there : section_at made.objects (suc k) 1 ≡ Some (code_parts (fragments_in k))
    text_there =
        ap (option_and_then (λ (object : ObjectParts). slice_get object.sections 1))
        (slice_get-map read_of (made_parts number n) (suc k) ∙ ap (option_map read_of) (later_there number n k within))

    pub group_made : IsMadeOf (fragments_in k) (code_parts (fragments_in k))
    group_made = code_made n (symbol_of 0 (named_in k)) (code_of number n k) (group_right number n k few within)

    pub group_whole : IsWhole (code_parts (fragments_in k))
    group_whole = written_whole (group_object (functions_from n 0 number) k) (group_written number n k few within) 1 (code_parts (fragments_in k)) refl refl

  -- ---- where a name leads

  -- a place in code of an object
  abbrev place_in : ℕ → ℕ → Place
  place_in o v = record { object = o; section = 1; offset = v }

  pub home_is : (o v : ℕ) (s : SymbolParts) (fragments : List Fragment) → section_at made.objects o 1 ≡ Some (code_parts fragments) → v ≤ fragments_size fragments → s.home ≡ 1 → s.value ≡ v
      → home_target made o s (pos 0) ≡ Code (place_in o v)
  home_is o v s fragments at le home value =
      (λ j. cond (eqb (home j) 0xFFF1) (Rattle.psabi_sym.specs.Resolve.number_target (value j) (pos 0)) (option_map_or (λ section. role_target made o (home j) (value j) (pos 0) section (role_of section)) (section_at made.objects o (home j)) Nowhere))
      ∙ ap (λ x. option_map_or (λ section. role_target made o 1 v (pos 0) section (role_of section)) x Nowhere) at
      ∙ ap (role_target made o 1 v (pos 0) (code_parts fragments)) (text_role fragments)
      ∙ ap (λ x. option_map_or (λ m. Code (place_in o m)) x Nowhere) (within_size (fragments_size fragments) v le)

  -- what a call leads to
  record Lands (i : ℕ) : Type 0 where
    pub place : Place
    pub leads : (other : Target) → option_map_or (definition_target made (pos 0)) (name_definition made (function_name i)) other ≡ Code place
    pub lands : is_target_at made.objects place ≡ true

  lands_on : (i : ℕ) → i < n → Lands i
  lands_on i lt = by own.0 own.1 (strong_is number n few own.0 found.0)
    where
      own : (l : IndexedSymbol) × (strong_definition (objects number n) (function_name i) ≡ Some l)
      own = function_defined number n few i lt

      found : Rattle.sound_objects.specs.WellFormed.HasStrong (objects number n) own.0 × (own.0.symbol.name ≡ function_name i)
      found = strong_found (objects number n) (function_name i) own.0 own.1

      by : (l : IndexedSymbol) → strong_definition (objects number n) (function_name i) ≡ Some l → IsDefined number n few l → Lands i
      by l defined (AtStart object index is) =
          absurd (not_start number n few i (sym (ap (λ (x : SymbolParts). x.name) is) ∙ (strong_found (objects number n) (function_name i) l defined).1))
      by l defined (AtFunction k j within object index small number_lt at) =
          let fragment = fragment_of (symbol_of 0 (named_in k)) in
          let before = flat_map (λ b. b) at.front in
          let after = flat_map (λ b. b) (at.body ∷ at.back) in
          let flat : code_of number n k ≡ before ++ after = ap (flat_map (λ b. b)) at.split ∙ flat_map-append (λ b. b) at.front (at.body ∷ at.back) in
          let split : fragments_in k ≡ map fragment before ++ map fragment after = ap (map fragment) flat ∙ map-append fragment before after in
          let v : ℕ = fragments_size (map fragment before) in
          let le : v ≤ fragments_size (fragments_in k) = omega (arith, ap fragments_size split, sum_by-append Rattle.sound_objects.specs.Fragments.fragment_size (map fragment before) (map fragment after)) in
          let q = place_in (suc k) v in
          let text = code_parts (fragments_in k) in
          let value : l.symbol.value ≡ v = omega (arith, ap (λ (x : SymbolParts). x.value) at.is, code_sized (symbol_of 0 (named_in k)) before) in
          let home : home_target made (suc k) l.symbol (pos 0) ≡ Code q = home_is (suc k) v l.symbol (fragments_in k) (text_there k within) le (ap (λ (x : SymbolParts). x.home) at.is) value in
          let code = code_at_is made.objects q text (text_there k within) refl in
          record {
            place = q;
            leads = λ other.
                ap (λ x. option_map_or (definition_target made (pos 0)) x other) (defined_strong made (function_name i) l defined)
                ∙ ap (λ o. home_target made o l.symbol (pos 0)) object ∙ home;
            lands = target_on made.objects q text code ∙ edge text v (edge_after (fragments_in k) text (group_made k within) (group_whole k within) (map fragment before) (map fragment after) split);
          }
        where
          edge : (s : SectionParts) (v : ℕ) → (starts_on s v ≡ true) ⊎ (v ≡ length s.bytes) → (starts_on s v || eqb v (length s.bytes)) ≡ true
          edge s v (inl start) = or_left (starts_on s v) (eqb v (length s.bytes)) start
          edge s v (inr end) = or_right (starts_on s v) (eqb v (length s.bytes)) (eq-eqb v (length s.bytes) end)

  -- ---- where relocations lead

  call_target : (o i m : ℕ) (s : SymbolParts) → i < n → symbol_at made.objects o (suc m) ≡ Some s
      → symbol_target made o s (pos 0) ≡ option_map_or (definition_target made (pos 0)) (name_definition made (function_name i)) Nowhere
      → (index : ℕ) → index ≡ suc m → is_bad_target made.objects true (resolved made o index (pos 0)) ≡ false
  call_target o i m s lt at named index e =
      let there = lands_on i lt in
      ap (λ x. is_bad_target made.objects true (resolved made o x (pos 0))) e
      ∙ ap (is_bad_target made.objects true) (resolved_there made o m s at ∙ named ∙ there.leads Nowhere)
      ∙ not_from_true (is_target_at made.objects there.place) there.lands

  -- the calls of the first object lead somewhere
  start_call : (i : ℕ) → i < n → HasNumber start_named i → is_bad_target made.objects true (resolved made 0 (symbol_of 2 start_named i) (pos 0)) ≡ false
  start_call i lt has =
      call_target 0 i (suc (suc has.0)) (undefined_symbol i) lt (get_map undefined_symbol start_named has.0 i has.1) refl (symbol_of 2 start_named i) (omega (arith, has.2))

  -- `result` is a number
  result_target : (transfers : Bool) → transfers ≡ false → is_bad_target made.objects transfers (resolved made 0 1 (pos 0)) ≡ false
  unfolding resolved role_of
  result_target transfers stays = ap (λ b. is_bad_target made.objects b (resolved made 0 1 (pos 0))) stays

  -- an object other than the first
  module _ (k : ℕ) (within : k < group_count n) where
    abbrev own : List SymbolParts
    own = function_symbols (8 * k) 0 (bodies_of number n k)

    abbrev called : List SymbolParts
    called = map undefined_symbol (drop (length (bodies_of number n k)) (named_in k))

    -- the symbol with the number of a function that is named
    record IsNamedSymbol (i m : ℕ) : Type 0 where
      pub symbol : SymbolParts
      pub at : symbol_at made.objects (suc k) (suc m) ≡ Some symbol
      pub leads : symbol_target made (suc k) symbol (pos 0) ≡ option_map_or (definition_target made (pos 0)) (name_definition made (function_name i)) Nowhere

    in_group : (m : ℕ) (s : SymbolParts) → slice_get (own ++ called) m ≡ Some s → symbol_at made.objects (suc k) (suc m) ≡ Some s
    in_group m s at = symbol_there number n (suc k) m (group_object (functions_from n 0 number) k) s (later_there number n k within) at

    named_symbol : (i m : ℕ) → slice_get (named_in k) m ≡ Some i → IsNamedSymbol i m
    named_symbol i m has = elim (cases_lt m (length (bodies_of number n k))) [
      | inl lt ↦
          let there = function_there (8 * k) 0 (bodies_of number n k) m lt in
          let is = function_at (8 * k) 0 (bodies_of number n k) m there.0 there.1 in
          let range = range_with_len (8 * k) (length (bodies_of number n k)) in
          let more = names_more n range (code_of number n k) (group_right number n k few within) in
          let small : m < length range = omega (arith, length-range_with_len (8 * k) (length (bodies_of number n k)), lt) in
          let same : i ≡ 8 * k + m =
          sym (get_or_from_slice_get (named_in k) m i 0 has) ∙ ap (λ l. get_or l m 0) more.are ∙ get_or_append_left range more.rest 0 m small
          ∙ get_or-range_with_len (8 * k) (length (bodies_of number n k)) m 0 lt in
          record {
            symbol = there.0;
            at = in_group m there.0 (slice_left own called m there.0 there.1);
            leads = ap (λ s. symbol_target made (suc k) s (pos 0)) is.is ∙ ap (λ x. option_map_or (definition_target made (pos 0)) (name_definition made (function_name x)) Nowhere) (sym same);
          }
      | inr le ↦
          let j : ℕ = m - length (bodies_of number n k) in
          let e : m ≡ length (bodies_of number n k) + j = omega arith in
          record {
            symbol = undefined_symbol i;
            at = in_group m (undefined_symbol i)
                (slice_right own called m j (undefined_symbol i) (omega (arith, e, length-function_symbols (8 * k) 0 (bodies_of number n k)))
                (get_map undefined_symbol (drop (length (bodies_of number n k)) (named_in k)) j i (slice_drop (length (bodies_of number n k)) (named_in k) m j i e has)));
            leads = refl;
          }
    ]

    group_call : (i : ℕ) → i < n → HasNumber (named_in k) i → is_bad_target made.objects true (resolved made (suc k) (symbol_of 0 (named_in k) i) (pos 0)) ≡ false
    group_call i lt has =
        let is = named_symbol i has.0 has.1 in
        call_target (suc k) i has.0 is.symbol lt is.at is.leads (symbol_of 0 (named_in k) i) (omega (arith, has.2))

  -- ---- relocations

  -- the relocations of code whose calls and parts of addresses lead somewhere
  text_right : (o : ℕ) (symbol : ℕ → ℕ) (statements : List Statement) → IsMadeOf (map (fragment_of symbol) statements) (code_parts (map (fragment_of symbol) statements))
      → IsWhole (code_parts (map (fragment_of symbol) statements))
      → ((before after : List Statement) (i : ℕ) → statements ≡ before ++ Call i ∷ after → is_bad_target made.objects true (resolved made o (symbol i) (pos 0)) ≡ false)
      → ((before after : List Statement) (kind : ℕ) (i : Rattle.rv_decode.specs.declared.instr.Instr.Instr) → statements ≡ before ++ WithAddress kind i ∷ after
      → TakesPart kind i × (is_bad_target made.objects (is_transfer (kind_of kind)) (resolved made o 1 (pos 0)) ≡ false))
      → RelocsAreRight made (record { object = o; index = 1; section = code_parts (map (fragment_of symbol) statements) })
  text_right o symbol statements is_made whole calls parts = relocs_right made l fragments is_made whole each
    where
      fragments : List Fragment
      fragments = map (fragment_of symbol) statements

      l : IndexedSection
      l = record { object = o; index = 1; section = code_parts (map (fragment_of symbol) statements) }

      of_statement : (before after : List Statement) (s : Statement) → statements ≡ before ++ s ∷ after → (at : ℕ) (r : FragmentReloc) → (fragment_of symbol s).reloc ≡ Some r → LeadsRight made l (fragment_reloc_at at r)
      of_statement before after (Plain i) split at r is = absurd cc
      of_statement before after (Call i) split at r is =
          let same : reloc_to 18 (symbol i) ≡ r = cc in
          subst (λ x. LeadsRight made l (fragment_reloc_at at x)) same (record { paired = refl; leads = calls before after i split })
      of_statement before after (WithAddress kind i) split at r is =
          let same : reloc_to kind 1 ≡ r = cc in
          let two = parts before after kind i split in
          subst (λ x. LeadsRight made l (fragment_reloc_at at x)) same (record { paired = and_left _ _ two.0.lone; leads = and_right _ _ two.1 })

      each : (front : List Fragment) (p : Fragment) (back : List Fragment) (r : FragmentReloc) → fragments ≡ front ++ p ∷ back → p.reloc ≡ Some r → LeadsRight made l (fragment_reloc_at (fragments_size front) r)
      each front p back r split is =
          let own = fragment_from symbol statements front p back split in
          of_statement own.before own.after own.statement own.split (fragments_size front) r (ap (λ (q : Fragment). q.reloc) (sym own.is) ∙ is)

  pub start_relocs : RelocsAreRight made (record { object = 0; index = 1; section = code_parts start_fragments })
  start_relocs =
      text_right 0 (symbol_of 2 start_named) (start_statements number n) start_made start_whole
      (λ before after i split.
      start_call i (at_split (IsRight n) (start_statements number n) before after (Call i) split (start_right number n)) (called_has [] (start_statements number n) before after i split))
      (λ before after kind i split.
      let takes : TakesPart kind i = at_split (IsRight n) (start_statements number n) before after (WithAddress kind i) split (start_right number n) in
      (takes, result_target (is_transfer (kind_of kind)) takes.stays))

  pub group_relocs : (k : ℕ) → k < group_count n → RelocsAreRight made (record { object = suc k; index = 1; section = code_parts (fragments_in k) })
  group_relocs k within =
      text_right (suc k) (symbol_of 0 (named_in k)) (code_of number n k) (group_made k within) (group_whole k within)
      (λ before after i split.
      group_call k within i (at_split (IsRight n) (code_of number n k) before after (Call i) split (group_right number n k few within))
      (called_has (range_with_len (8 * k) (length (bodies_of number n k))) (code_of number n k) before after i split))
      (λ before after kind i split. absurd (at_split (IsInner n) (code_of number n k) before after (WithAddress kind i) split (group_inner number n k)))
