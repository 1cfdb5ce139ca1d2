-- The files of a pass's result read back as what becomes of the given objects.
use Rattle.std.proofs.Common.{◌≡◌, ℕ, suc, ◌+◌, List, [], ◌∷◌, ◌++◌, refl, sym, ap, ap₂, ◌∙◌, arith, map, filter, Bool, true, false, cond, Some, None, slice_get}
use Rattle.std.specs.Prelude.{◌||◌}
use Rattle.std.specs.List.{AllZip, enumerate_from, list_any, range_with_len}
use Rattle.std.specs.Option.{option_map_or}
use Rattle.std.proofs.lemmas.List.{map-append}
use Rattle.elf32_read.specs.Compressed.{has_rvc}
use Rattle.elf32_read.specs.Header.{file_flags, section_count}
use Rattle.elf32_read.specs.Object.{object_fault}
use Rattle.elf32_read.specs.Parts.{ObjectParts, SectionParts, is_kept_section, object_parts, section_parts}
use Rattle.elf32_write.specs.Writable.{IsObjectOf, added_parts, in_object, null_part, null_symbol_part}
use Rattle.psabi_sym.specs.Inputs.{Inputs, parsed}
use Rattle.psabi_sym.proofs.Gathered.{readable}
use Rattle.block_cut.specs.Faults.{first_fault}
use Rattle.block_cut.proofs.FaultLaws.{faultless}
use Rattle.moved_runs.specs.Passes.{ArePassed, ArePassesFrom, IsOrderly, IsPassOf, Pass, new_number, passed_from, passed_object, passed_objects, renumbered, with_files}
use Rattle.object_passes.specs.Written.{without_mark, without_marks}
use Rattle.object_passes.proofs.OrderlyLaws.{orderly}

-- ---- compressed objects stay compressed

-- a pass leaves each section's mark, which says whether its object is compressed
abbrev pub KeepsMarks : Pass → Type 0
KeepsMarks pass = (o i : ℕ) (s : SectionParts) → (pass.section o i s).compressed ≡ s.compressed

-- each section has the mark of its object
abbrev pub AreMarked : ℕ → List SectionParts → Type 0
AreMarked flags [] = Unit {0}
AreMarked flags (s ∷ ss) = (s.compressed ≡ has_rvc flags) × AreMarked flags ss

pub marked-file : (file : List ℕ) → AreMarked (object_parts file).flags (object_parts file).sections
unfolding object_parts
marked-file file = by (range_with_len 0 (section_count file))
  where
    by : (is : List ℕ) → AreMarked (file_flags file) (map (section_parts file) is)
    by [] = tt
    by (i ∷ is) = (refl, by is)

mark-same : (flags : ℕ) (s : SectionParts) → s.compressed ≡ has_rvc flags → in_object flags (without_mark s) ≡ s
mark-same flags s is = λ i. record s { compressed = sym is i }

marks-same : (section : ℕ → SectionParts → SectionParts) → ((i : ℕ) (s : SectionParts) → (section i s).compressed ≡ s.compressed) → (flags j : ℕ) (ss : List SectionParts) → AreMarked flags ss
    → map (in_object flags) (map without_mark (passed_from section j ss)) ≡ passed_from section j ss
marks-same section keeps flags j [] marked = refl
marks-same section keeps flags j (s ∷ ss) marked = by (is_kept_section s) (marks-same section keeps flags (j + 1) ss marked.1)
  where
    rest : List (ℕ × SectionParts)
    rest = filter (λ e. is_kept_section e.1) (enumerate_from (j + 1) ss)

    by : (b : Bool)
        → map (in_object flags) (map without_mark (map (λ e. section e.0 e.1) rest)) ≡ map (λ e. section e.0 e.1) rest
        → map (in_object flags) (map without_mark (map (λ e. section e.0 e.1) (cond b ((j, s) ∷ rest) rest))) ≡ map (λ e. section e.0 e.1) (cond b ((j, s) ∷ rest) rest)
    by true same = ap₂ (λ t ts. t ∷ ts) (mark-same flags (section j s) (keeps j s ∙ marked.0)) same
    by false same = same

-- ---- reading back

-- a section that is added is dropped, in whatever object
still-dropped : (flags : ℕ) (ss : List SectionParts) → list_any is_kept_section ss ≡ false → list_any is_kept_section (map (in_object flags) ss) ≡ false
still-dropped flags ss none = same ss ∙ none
  where
    same : (ss : List SectionParts) → list_any is_kept_section (map (in_object flags) ss) ≡ list_any is_kept_section ss
    same [] = refl
    same (s ∷ ss) = ap (λ b. is_kept_section s || b) (same ss)

module _ (pass : Pass) (marks : KeepsMarks pass) where
  pass-of : (n : ℕ) (given file : List ℕ) → IsOrderly (object_parts given) → ((i : ℕ) → pass.number n i ≡ new_number (object_parts given).sections i)
      → IsObjectOf (without_marks (passed_object pass n (object_parts given))) file → IsPassOf pass n (object_parts given) (object_parts file)
  pass-of n given file order numbers is =
      let object = object_parts given in
      let parts = without_marks (passed_object pass n object) in
      record {
        orderly = order;
        numbers = numbers;
        null = in_object object.flags null_part;
        null_dropped = refl;
        added = map (in_object object.flags) (added_parts parts);
        added_dropped = still-dropped object.flags (added_parts parts) is.dropped;
        sections =
            is.sections
            ∙ ap (λ ss. in_object object.flags null_part ∷ ss) (map-append (in_object object.flags) parts.sections (added_parts parts))
            ∙ ap (λ ss. in_object object.flags null_part ∷ (ss ++ map (in_object object.flags) (added_parts parts)))
            (marks-same (pass.section n) (marks n) object.flags 0 object.sections (marked-file given));
        null_symbol = null_symbol_part;
        symbols = is.symbols;
      }

  -- what becomes of objects that have no fault is read so, from an index on
  passes-from : (n : ℕ) (given files : List (List ℕ)) → ((k : ℕ) (file : List ℕ) → slice_get given k ≡ Some file → object_fault file ≡ None)
      → ((k i : ℕ) → pass.number (n + k) i ≡ option_map_or (λ (object : ObjectParts). new_number object.sections i) (slice_get (map object_parts given) k) 0)
      → AllZip IsObjectOf (map without_marks (map (λ e. passed_object pass e.0 e.1) (enumerate_from n (map object_parts given)))) files
      → ArePassesFrom pass n (map object_parts given) (map object_parts files)
  passes-from n [] [] fine numbers zip = tt
  passes-from n [] (file ∷ files) fine numbers zip = absurd zip
  passes-from n (g ∷ gs) [] fine numbers zip = absurd zip
  passes-from n (g ∷ gs) (file ∷ files) fine numbers zip =
      let none : n ≡ n + 0 = omega arith in (
        pass-of n g file (orderly g (fine 0 g refl)) (λ i. ap (λ m. pass.number m i) none ∙ numbers 0 i) zip.0,
        passes-from (n + 1) gs files (λ k file at. fine (suc k) file at)
            (λ k i. let next : n + 1 + k ≡ n + suc k = omega arith in ap (λ m. pass.number m i) next ∙ numbers (suc k) i) zip.1,
      )

-- the objects of files that read back are the pass's result, if it numbers sections as they are written
pub passed-of : (pass : Pass) → KeepsMarks pass → (inputs : Inputs) → ((o i : ℕ) → pass.number o i ≡ renumbered (parsed inputs).objects o i) → (files : List (List ℕ)) → first_fault inputs ≡ None
    → AllZip IsObjectOf (map without_marks (passed_objects pass (parsed inputs).objects)) files → ArePassed pass (parsed inputs) (parsed (with_files inputs files))
passed-of pass marks inputs numbers files none read =
    let all = faultless inputs none in
    record {
      objects = passes-from pass marks 0 inputs.files files (λ k file at. readable inputs k file all.gathered at)
          (λ k i. let zero : 0 + k ≡ k = omega arith in ap (λ m. pass.number m i) zero ∙ numbers k i) read;
      map = refl;
      fixed = refl;
    }
