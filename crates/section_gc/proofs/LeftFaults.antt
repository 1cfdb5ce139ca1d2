-- Which faults the result can have at all, where the given objects have none: an object or a sum of files that is too large, and a
-- branch that doesn't reach.
use Rattle.std.proofs.Common.{◌≡◌, ℕ, suc, ◌+◌, ◌≤◌, List, [], ◌∷◌, length, take, map, refl, sym, ap, ap₂, ◌∙◌, arith, Bool, false, cond, Option, Some, None, subst, take_all}
use Rattle.std.specs.Prelude.{All, nat_lt}
use Rattle.std.specs.List.{AllZip, enumerate_from, find, range_with_len, sum_by}
use Rattle.std.specs.Option.{option_map, option_map_or, option_or}
use Rattle.std.proofs.lemmas.Bool.{le-ltb, ltb-false}
use Rattle.std.proofs.lemmas.List.{length-map}
use Rattle.std.proofs.lemmas.List.Elements.{All-cons, All-nil}
use Rattle.std.proofs.lemmas.List.FromFn.{length-enumerate_from}
use Rattle.std.proofs.lemmas.List.Sums.{sum_by-cons}
use Rattle.zc_base.specs.declared.place.Place.{Place}
use Rattle.elf32_read.specs.Parts.{ObjectParts, object_parts}
use Rattle.elf32_read.specs.declared.fault.Fault.{Fault}
use Rattle.elf32_read.specs.declared.fault.Fault.TheVariants.{Range, TooLarge}
use Rattle.elf32_write.specs.ObjectFile.{object_bytes, object_size}
use Rattle.elf32_write.specs.Writable.{IsObjectOf}
use Rattle.elf32_write.proofs.FileHeaderBack.{length-object_bytes}
use Rattle.psabi_sym.specs.declared.data_class.DataClass.TheVariants.{Common}
use Rattle.psabi_sym.specs.Faults.{count_fault, duplicate_fault, fault_from, first_some, gather_fault, most_objects, room_fault, undefined_fault}
use Rattle.psabi_sym.specs.Inputs.{Inputs, parsed}
use Rattle.psabi_sym.proofs.Gathered.{all_none, data_below, has_room}
use Rattle.psabi_sym.proofs.RangeLaws.{none_found_in_range}
use Rattle.block_cut.specs.Faults.{first_fault, is_out_of_reach, range_fault}
use Rattle.block_cut.specs.Items.{all_places}
use Rattle.block_cut.proofs.FaultLaws.{faultless}
use Rattle.moved_runs.specs.Passes.{renumbered, with_files}
use Rattle.moved_runs.proofs.PassData.{class_end-same}
use Rattle.object_passes.specs.Sizes.{first_large, first_oversized, passes_sum}
use Rattle.object_passes.specs.Written.{without_marks}
use Rattle.section_gc.specs.Cleaned.{cleaned, cleaned_object}
use Rattle.section_gc.specs.Collected.{IsBreakage, collected_files}
use Rattle.section_gc.specs.Kept.{AreNeeded}
use Rattle.section_gc.proofs.CleaningLaws.{cleaning_of}
use Rattle.section_gc.proofs.LeftFaultsNames.{duplicate-none, undefined-none}
use Rattle.section_gc.proofs.LeftFaultsRelocs.{AreBare, IsBarePart, bare-file, entry-none, relocs-none}
use Rattle.section_gc.proofs.LeftFaultsSums.{sums-none}
use Rattle.section_gc.proofs.Theorem.{inputs-clean, inputs-closed}

-- ---- files that read back

read-none : (i : ℕ) (parts : List ObjectParts) (files : List (List ℕ)) → AllZip IsObjectOf parts files → fault_from i files ≡ None
read-none i [] [] zip = refl
read-none i [] (file ∷ files) zip = absurd zip
read-none i (p ∷ parts) [] zip = absurd zip
read-none i (p ∷ parts) (file ∷ files) zip = ap₂ (λ f r. option_or (option_map (λ fault. (i, fault)) f) r) zip.0.faultless (read-none (suc i) parts files zip.1)

bare-files : (parts : List ObjectParts) (files : List (List ℕ)) → AllZip IsObjectOf parts files → AreBare (map object_parts files)
bare-files [] [] zip = All-nil (λ (g : ObjectParts). All IsBarePart g.sections)
bare-files [] (file ∷ files) zip = absurd zip
bare-files (p ∷ parts) [] zip = absurd zip
bare-files (p ∷ parts) (file ∷ files) zip =
    All-cons (λ (g : ObjectParts). All IsBarePart g.sections) (object_parts file) (map object_parts files) (bare-file file zip.0.faultless) (bare-files parts files zip.1)

zip-length : (parts : List ObjectParts) (files : List (List ℕ)) → AllZip IsObjectOf parts files → length files ≡ length parts
zip-length [] [] zip = refl
zip-length [] (file ∷ files) zip = absurd zip
zip-length (p ∷ parts) [] zip = absurd zip
zip-length (p ∷ parts) (file ∷ files) zip = ap suc (zip-length parts files zip.1)

no-names : (a b : Option (ℕ × Fault)) → first_some (a ∷ b ∷ []) ≡ None → (a ≡ None) × (b ≡ None)
no-names None None h = (refl, refl)
no-names None (Some x) h = absurd cc
no-names (Some x) b h = absurd cc

module _ (inputs : Inputs) (needed : ℕ → ℕ → Bool) (files : List (List ℕ)) (none : first_fault inputs ≡ None) (are : AreNeeded (parsed inputs) needed)
    (read : AllZip IsObjectOf (map without_marks (cleaned needed (parsed inputs).objects)) files) (short : sum_by length files ≤ 0x200_0000) where
  pub same-length : length files ≡ length inputs.files
  same-length =
      let objects = map object_parts inputs.files in
      zip-length (map without_marks (cleaned needed objects)) files read ∙ length-map (cleaned needed objects) without_marks
      ∙ length-map (enumerate_from 0 objects) (λ e. cleaned_object (needed e.0) e.1) ∙ length-enumerate_from 0 objects ∙ length-map inputs.files object_parts

  few : count_fault files ≡ None
  few =
      let all = faultless inputs none in
      let most = (all_none inputs all.gathered).few in
      ap (λ b. cond b (Some (most_objects, TooLarge)) None) (le-ltb most_objects (length files) (omega (arith, most, same-length)))

  bare : AreBare (parsed (with_files inputs files)).objects
  bare = bare-files (map without_marks (cleaned needed (parsed inputs).objects)) files read

  names-fine : (duplicate_fault (parsed (with_files inputs files)).objects ≡ None) × (undefined_fault (parsed (with_files inputs files)) ≡ None)
  names-fine =
      let all = faultless inputs none in
      let two = no-names (duplicate_fault (parsed inputs).objects) (undefined_fault (parsed inputs)) (all_none inputs all.gathered).names in
      let c = inputs-clean inputs needed files none are read in (
        duplicate-none needed (renumbered (parsed inputs).objects) (parsed inputs) (parsed (with_files inputs files)) c bare two.0,
        undefined-none needed (renumbered (parsed inputs).objects) (parsed inputs) (parsed (with_files inputs files)) c bare two.1,
      )

  -- data end where they did, below the stack
  room-fine : room_fault (parsed (with_files inputs files)) ≡ None
  room-fine =
      let all = faultless inputs none in
      let end = class_end-same (cleaning_of inputs needed) (parsed inputs) (parsed (with_files inputs files)) (inputs-clean inputs needed files none are read) Common in
      has_room (parsed (with_files inputs files)) (omega (arith, end, data_below (parsed inputs) (all_none inputs all.gathered).room))

  -- the result has no fault between objects
  gather-none : gather_fault (with_files inputs files) ≡ None
  unfolding gather_fault
  gather-none =
      let sums = sums-none inputs needed files none are read same-length short in
      let fine = read-none 0 (map without_marks (cleaned needed (parsed inputs).objects)) files read in
      λ i. option_or (few i) (option_or (fine i) (option_or (sums i) (option_or (option_or (names-fine.0 i) (option_or (names-fine.1 i) None))
      (option_or (room-fine i) None))))

  -- so a branch that doesn't reach is all that is left
  pub only-range : first_fault (with_files inputs files) ≡ option_or (range_fault (parsed (with_files inputs files))) None
  unfolding first_fault
  only-range =
      let c = inputs-clean inputs needed files none are read in
      let k = inputs-closed inputs needed files none are read in
      let all = faultless inputs none in
      let r = relocs-none needed (renumbered (parsed inputs).objects) (parsed inputs) (parsed (with_files inputs files)) c k all.relocs bare in
      let e = entry-none needed (renumbered (parsed inputs).objects) (parsed inputs) (parsed (with_files inputs files)) c k all.relocs bare in
      λ i. option_or (gather-none i) (option_or (r i) (option_or (e i) (option_or (range_fault (parsed (with_files inputs files))) None)))

-- ---- a branch that doesn't reach

found-range : (inputs : Inputs) (i : ℕ) (fault : Fault) → option_or (range_fault (parsed inputs)) None ≡ Some (i, fault) → IsBreakage fault
unfolding range_fault
found-range inputs i fault is = by (find (is_out_of_reach (parsed inputs)) (all_places (parsed inputs).objects)) is
  where
    by : (o : Option Place) → option_or {T = ℕ × Fault} (option_map (λ (q : Place). (q.object, Range q.section q.offset)) o) None ≡ Some (i, fault) → IsBreakage fault
    by None h = absurd cc
    by (Some q) h = subst IsBreakage (ap (λ o. option_map_or (λ (e : ℕ × Fault). e.1) o (Range q.section q.offset)) h) tt

-- ---- files that aren't too large

file-bytes : (parts : List ObjectParts) → sum_by length (map object_bytes parts) ≡ sum_by object_size parts
file-bytes [] = refl
file-bytes (p ∷ parts) = omega (arith, file-bytes parts, sum_by-cons length (object_bytes p) (map object_bytes parts), sum_by-cons object_size p parts, length-object_bytes p)

no-sum : (objects : List ObjectParts) → first_oversized objects ≡ None → sum_by object_size objects ≤ 0x200_0000
no-sum [] none = omega arith
no-sum (p ∷ parts) none =
    let objects = p ∷ parts in
    let n : ℕ = length parts in
    let fine : passes_sum objects n ≡ false = none_found_in_range (passes_sum objects) 0 (length objects) n (second (first_large objects) none) (omega arith) (omega arith) in
    let all : take (n + 1) objects ≡ objects = take_all (n + 1) objects (omega arith) in
    ltb-false 0x200_0000 (sum_by object_size objects) (sym (ap (λ l. nat_lt 0x200_0000 (sum_by object_size l)) all) ∙ fine)
  where
    second : (o : Option ℕ) → option_or o (find (passes_sum (p ∷ parts)) (range_with_len 0 (length (p ∷ parts)))) ≡ None → find (passes_sum (p ∷ parts)) (range_with_len 0 (length (p ∷ parts))) ≡ None
    second None h = h
    second (Some i) h = absurd cc

-- of files that aren't too large and read back, a branch that doesn't reach is the only fault
pub range-left : (inputs : Inputs) (needed : ℕ → ℕ → Bool) (i : ℕ) (fault : Fault) → first_fault inputs ≡ None → AreNeeded (parsed inputs) needed
    → AllZip IsObjectOf (map without_marks (cleaned needed (parsed inputs).objects)) (collected_files inputs needed)
    → first_oversized (cleaned needed (parsed inputs).objects) ≡ None
    → first_fault (with_files inputs (collected_files inputs needed)) ≡ Some (i, fault) → IsBreakage fault
range-left inputs needed i fault none are read small is =
    let objects = cleaned needed (parsed inputs).objects in
    let files = collected_files inputs needed in
    let short : sum_by length files ≤ 0x200_0000 = omega (arith, file-bytes objects, no-sum objects small) in
    found-range (with_files inputs files) i fault (sym (only-range inputs needed files none are read short) ∙ is)
