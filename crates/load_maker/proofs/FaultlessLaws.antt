-- The generated objects have no fault.
use Rattle.std.proofs.Common.{◌≡◌, ℕ, zero, suc, ◌+◌, ◌*◌, ◌<◌, ◌≤◌, pos, List, [], ◌∷◌, map, true, false, cond, Some, None, slice_get, refl, sym, ap, subst, ◌∙◌, arith}
use Rattle.std.specs.List.{range_with_len, sum_by}
use Rattle.std.specs.Option.{option_map_or}
use Rattle.std.proofs.lemmas.Bool.{and_left}
use Rattle.std.proofs.lemmas.List.Elements.{All-same, All-nil}
use Rattle.std.proofs.lemmas.List.Sums.{sum_by-cons}
use Rattle.zc_base.specs.MemMap.{IsMap, standard_map}
use Rattle.zc_base.specs.Options.{options_in}
use Rattle.zc_base.specs.declared.place.Place.{Place}
use Rattle.elf32_read.specs.Parts.{ObjectParts, SectionParts, is_code_section, is_kept_section}
use Rattle.elf32_read.specs.declared.reloc.Reloc.{Reloc}
use Rattle.psabi_sym.specs.Data.{role_of}
use Rattle.psabi_sym.specs.Faults.{code_room, common_room, data_room, gather_fault}
use Rattle.psabi_sym.specs.Indexed.{IndexedSection, IndexedSymbol}
use Rattle.psabi_sym.specs.Inputs.{ParsedInputs, inputs_in}
use Rattle.psabi_sym.specs.Names.{strong_definition}
use Rattle.psabi_sym.specs.Resolve.{definition_target, home_target, name_target}
use Rattle.psabi_sym.specs.Start.{start_name}
use Rattle.psabi_sym.specs.declared.target.Target.TheVariants.{Code, Nowhere}
use Rattle.block_cut.specs.Faults.{first_fault, reloc_fault}
use Rattle.block_cut.specs.Items.{entry_in, start_only, starts_on}
use Rattle.block_cut.proofs.RoomLaws.{code_room_is}
use Rattle.elf32_write.specs.Writable.{in_object}
use Rattle.sound_objects.specs.Parts.{AreWellFormed, inputs_of_parts, parts_code, parts_data}
use Rattle.sound_objects.specs.Fragments.{Fragment, IsMadeOf, fragments_size}
use Rattle.sound_objects.specs.Reach.{HaveNoBranchOrAlign}
use Rattle.sound_objects.specs.WellFormed.{BranchesReach, HasSection, HasStrong, RelocsAreRight}
use Rattle.sound_objects.proofs.NameLaws.{defined_strong, strong_found, strong_there}
use Rattle.sound_objects.proofs.NearLaws.{branchless_reach, parts_short_reach}
use Rattle.sound_objects.proofs.PartsLaws.{IsSectionIn, are_faultless, parts_end, section_in}
use Rattle.sound_objects.proofs.PartsLaws.IsSectionIn.{Given, Bare}
use Rattle.sound_objects.proofs.FragmentLaws.{start_at}
use Rattle.sound_objects.proofs.ReachLaws.{made_branchless, made_roomless, made_short as short_fragments}
use Rattle.load_maker.specs.Functions.{functions_from}
use Rattle.load_maker.specs.Objects.{group_count, group_object, made_objects, made_parts, result_section, result_symbol, start_object, start_statements, start_symbol, symbol_of, code_parts, undefined_symbol}
use Rattle.load_maker.specs.Statements.{code_size}
use Rattle.load_maker.specs.declared.make_objects.TheConstants.{FUNCTION_LIMIT}
use Rattle.load_maker.proofs.BodyLaws.{code_of, group_short}
use Rattle.load_maker.proofs.CodeLaws.{code_sized, code_no_branch}
use Rattle.load_maker.proofs.MadeLaws.{IsDefined, IsObject, all_defined, function_named, not_start, object_at, objects, single, strong_is}
use Rattle.load_maker.proofs.MadeLaws.IsDefined.{AtStart, AtFunction}
use Rattle.load_maker.proofs.MadeLaws.IsObject.{First, Later}
use Rattle.load_maker.proofs.RelocLaws.{group_made, group_relocs, home_is, made, named_in, fragments_in, start_made, start_named, start_fragments, start_relocs, start_whole}
use Rattle.load_maker.proofs.StartLaws.{start_no_bare_branch, start_right, start_size}
use Rattle.load_maker.proofs.SymbolLaws.{none_common}
use Rattle.load_maker.proofs.WrittenLaws.{all_groups, group_right, group_symbols, made_count, made_short, made_written, start_others, sum_most}

map_is : IsMap standard_map
map_is = record {
  text_page = refl;
  data_step = refl;
  low_step = refl;
  high_step = refl;
  above = omega arith;
  code = omega arith;
  room = omega arith;
  below = omega arith;
  stack = omega arith;
  top = omega arith;
}

-- ---- the room of sections

-- code without ALIGN
text_room : (fragments : List Fragment) → IsMadeOf fragments (code_parts fragments) → HaveNoBranchOrAlign fragments → code_room (code_parts fragments) ≡ fragments_size fragments + 4
text_room fragments is_made no_branch = omega (arith, code_room_is (code_parts fragments) refl, made_roomless fragments (code_parts fragments) is_made no_branch)

text_data : (fragments : List Fragment) → data_room (code_parts fragments) ≡ 0
unfolding role_of
text_data fragments = refl

result_code : code_room result_section ≡ 0
unfolding role_of
result_code = refl

result_data : data_room result_section ≡ 8
unfolding role_of
result_data = refl

module _ (number n : ℕ) (few : n ≤ FUNCTION_LIMIT) where
  abbrev all : ParsedInputs
  all = made number n few

  start_no_branch : HaveNoBranchOrAlign (start_fragments number n few)
  start_no_branch = code_no_branch n (symbol_of 2 (start_named number n few)) (start_statements number n) (start_right number n)

  group_no_branch : (k : ℕ) → k < group_count n → HaveNoBranchOrAlign (fragments_in number n few k)
  group_no_branch k within = code_no_branch n (symbol_of 0 (named_in number n few k)) (code_of number n k) (group_right number n k few within)

  group_size : (k : ℕ) → fragments_size (fragments_in number n few k) ≤ 1120
  group_size k = omega (arith, code_sized (symbol_of 0 (named_in number n few k)) (code_of number n k), group_short number n k)

  -- ---- sections

  -- a section without code and relocations, or the code of an object
  data IsMadeSection (l : IndexedSection) : Type 0 where
    Other : is_code_section l.section ≡ false → l.section.relocs ≡ [] → IsMadeSection l
    OfStart : l ≡ record { object = 0; index = 1; section = code_parts (start_fragments number n few) } → IsMadeSection l
    OfGroup : (k : ℕ) → k < group_count n → l ≡ record { object = suc k; index = 1; section = code_parts (fragments_in number n few k) } → IsMadeSection l

  -- the given sections of an object, as they are read
  abbrev sections_read : ObjectParts → List SectionParts
  sections_read p = map (in_object p.flags) p.sections

  section_made : (l : IndexedSection) → HasSection all.objects l → IsMadeSection l
  section_made l has = by (section_in (made_parts number n) (made_written number n few) l has)
    where
      of_start : (j : ℕ) → l.object ≡ 0 → l.index ≡ suc j → slice_get (sections_read (start_object number n)) j ≡ Some l.section → IsMadeSection l
      of_start zero object index at =
          let same : code_parts (start_fragments number n few) ≡ l.section = cc in
          OfStart (λ i. record { object = object i; index = index i; section = sym same i })
      of_start (suc zero) object index at =
          let same : result_section ≡ l.section = cc in
          Other (ap is_code_section (sym same)) (ap (λ (s : SectionParts). s.relocs) (sym same))
      of_start (suc (suc j)) object index at = absurd cc

      of_group : (k j : ℕ) → k < group_count n → l.object ≡ suc k → l.index ≡ suc j → slice_get (sections_read (group_object (functions_from n 0 number) k)) j ≡ Some l.section → IsMadeSection l
      of_group k zero within object index at =
          let same : code_parts (fragments_in number n few k) ≡ l.section = cc in
          OfGroup k within (λ i. record { object = object i; index = index i; section = sym same i })
      of_group k (suc j) within object index at = absurd cc

      of_object : (p : ObjectParts) (j : ℕ) → l.index ≡ suc j → slice_get (sections_read p) j ≡ Some l.section → IsObject number n l.object p → IsMadeSection l
      of_object p j index at (First object is) = of_start j object index (ap (λ (q : ObjectParts). slice_get (sections_read q) j) (sym is) ∙ at)
      of_object p j index at (Later k within object is) = of_group k j within object index (ap (λ (q : ObjectParts). slice_get (sections_read q) j) (sym is) ∙ at)

      by : IsSectionIn (made_parts number n) l → IsMadeSection l
      by (Given p j object index at) = of_object p j index at (object_at number n l.object p object)
      by (Bare dropped none) = Other (and_left (is_kept_section l.section) _ dropped) none

  -- ---- relocations

  all_relocs : (l : IndexedSection) → HasSection all.objects l → RelocsAreRight all l
  all_relocs l has = by (section_made l has)
    where
      by : IsMadeSection l → RelocsAreRight all l
      by (Other other none) = All-same (λ (r : Reloc). reloc_fault all l r ≡ None) l.section.relocs [] none (All-nil (λ (r : Reloc). reloc_fault all l r ≡ None))
      by (OfStart is) = subst (RelocsAreRight all) (sym is) (start_relocs number n few)
      by (OfGroup k within is) = subst (RelocsAreRight all) (sym is) (group_relocs number n few k within)

  -- ---- branches

  all_near : gather_fault (inputs_of_parts standard_map (made_parts number n)) ≡ None → (l : IndexedSection) → HasSection all.objects l → is_code_section l.section ≡ true → BranchesReach all l
  all_near none l has code = by (section_made l has)
    where
      by : IsMadeSection l → BranchesReach all l
      by (Other other bare) = absurd (cc (code, other))
      by (OfStart is) =
          let start : IndexedSection = record { object = 0; index = 1; section = code_parts (start_fragments number n few) } in
          subst (BranchesReach all) (sym is)
          (branchless_reach all start (subst (HasSection all.objects) is has) refl refl
          (made_branchless start (start_fragments number n few) (start_made number n few) start_no_branch (start_whole number n few) (start_no_bare_branch (symbol_of 2 (start_named number n few)) number n)))
      by (OfGroup k within is) =
          let group : IndexedSection = record { object = suc k; index = 1; section = code_parts (fragments_in number n few k) } in
          subst (BranchesReach all) (sym is)
          (parts_short_reach standard_map (made_parts number n) (made_written number n few) none map_is group (subst (HasSection all.objects) is has) refl refl
          (short_fragments group (fragments_in number n few k) (group_made number n few k within) (group_no_branch k within) all (omega (arith, group_size k))))

  -- ---- the start

  abbrev start_place : Place
  start_place = record { object = 0; section = 1; offset = 0 }

  start_leads : name_target all start_name ≡ Code start_place
  start_leads = by own.0 own.1 found.1 (strong_is number n few own.0 found.0)
    where
      first : IndexedSymbol
      first = record { object = 0; index = 2; symbol = start_symbol }

      has : HasStrong (objects number n) first
      has = record { has = record { some = omega arith; there = refl }; strong = refl }

      own : (l : IndexedSymbol) × (strong_definition (objects number n) start_name ≡ Some l)
      own = strong_there (objects number n) first has

      found : HasStrong (objects number n) own.0 × (own.0.symbol.name ≡ start_name)
      found = strong_found (objects number n) start_name own.0 own.1

      by : (l : IndexedSymbol) → strong_definition (objects number n) start_name ≡ Some l → l.symbol.name ≡ start_name → IsDefined number n few l → name_target all start_name ≡ Code start_place
      by l defined named (AtStart object index is) =
          ap (λ x. option_map_or (definition_target all (pos 0)) x Nowhere) (defined_strong all start_name l defined)
          ∙ (λ i. home_target all (object i) (is i) (pos 0)) ∙ home_is number n few 0 0 start_symbol (start_fragments number n few) refl (omega arith) refl refl
      by l defined named (AtFunction k j within object index small lt at) =
          absurd (not_start number n few (8 * k + j) (sym named ∙ function_named number n few k j l.symbol at))

  start_starts : starts_on (code_parts (start_fragments number n few)) 0 ≡ true
  start_starts = start_at (start_fragments number n few) (code_parts (start_fragments number n few)) (start_made number n few) (start_whole number n few) [] _ _ refl

  start_found : entry_in all ≡ Some start_place
  start_found = ap (start_only all.objects) start_leads ∙ ap (λ b. cond b (Some start_place) None) start_starts

  -- ---- sums

  abbrev groups : List ObjectParts
  groups = map (group_object (functions_from n 0 number)) (range_with_len 0 (group_count n))

  group_code : (k : ℕ) → k < group_count n → parts_code (group_object (functions_from n 0 number) k) ≤ 1124
  group_code k within =
      omega (
        arith,
        sum_by-cons code_room (code_parts (fragments_in number n few k)) [],
        text_room (fragments_in number n few k) (group_made number n few k within) (group_no_branch k within),
        group_size k,
      )

  group_data : (k : ℕ) → k < group_count n → parts_data (group_object (functions_from n 0 number) k) ≤ 0
  group_data k within =
      omega (
        arith,
        sum_by-cons data_room (code_parts (fragments_in number n few k)) [],
        text_data (fragments_in number n few k),
        none_common (code_size (code_of number n k)) (group_object (functions_from n 0 number) k).symbols (group_symbols number n k few within),
      )

  code_small : sum_by parts_code (made_parts number n) ≤ 0x4_0000
  code_small =
      omega (
        arith,
        few,
        sum_by-cons parts_code (start_object number n) groups,
        sum_by-cons code_room (code_parts (start_fragments number n few)) (result_section ∷ []),
        sum_by-cons code_room result_section [],
        result_code,
        text_room (start_fragments number n few) (start_made number n few) start_no_branch,
        code_sized (symbol_of 2 (start_named number n few)) (start_statements number n),
        start_size number n,
        sum_most parts_code 1124 groups (all_groups (λ p. parts_code p ≤ 1124) number n group_code 0 (group_count n) (omega arith)),
        made_count number n,
      )

  data_small : sum_by parts_data (made_parts number n) + 96 ≤ 0x40_0000
  data_small =
      let others = map undefined_symbol (start_named number n few) in
      omega (
        arith,
        few,
        sum_by-cons parts_data (start_object number n) groups,
        sum_by-cons data_room (code_parts (start_fragments number n few)) (result_section ∷ []),
        sum_by-cons data_room result_section [],
        result_data,
        text_data (start_fragments number n few),
        sum_by-cons common_room result_symbol (start_symbol ∷ others),
        sum_by-cons common_room start_symbol others,
        none_common (code_size (start_statements number n)) others (start_others number n few),
        sum_most parts_data 0 groups (all_groups (λ p. parts_data p ≤ 0) number n group_data 0 (group_count n) (omega arith)),
        made_count number n,
      )

  -- ---- the whole

  made_sound : AreWellFormed standard_map (made_parts number n)
  made_sound = record {
    written = made_written number n few;
    few = omega (arith, made_count number n, few);
    small = record { file_bytes = made_short number n few; code_room = code_small; data_room = data_small };
    single = single number n few;
    defined = all_defined number n few standard_map;
    room = omega (arith, parts_end standard_map (made_parts number n) (made_written number n few), data_small);
    relocs = all_relocs;
    entry = start_place;
    entry_found = start_found;
    near = all_near;
  }

pub files_faultless : (number n : ℕ) (files : List (List ℕ)) → n ≤ FUNCTION_LIMIT → files ≡ made_objects number n → first_fault (inputs_in (options_in standard_map) files) ≡ None
unfolding made_objects
files_faultless number n files few are = ap (λ l. first_fault (inputs_in (options_in standard_map) l)) are ∙ are_faultless standard_map (made_parts number n) (made_sound number n few)
