-- What becomes of objects without a fault can be written, if it isn't too large: it is sound, and the numbers that a file without a fault
-- gives have room where they are written.
use Rattle.std.proofs.Common.{◌≡◌, ℕ, zero, suc, ◌+◌, ◌/◌, ◌^◌, ◌<◌, ◌≤◌, List, [], ◌∷◌, length, max, refl, sym, ap, ap₂, ◌∙◌, arith, Bool, true, false, cond, eqb, leb, ltb, Option, Some, None, slice_get, get_or, subst}
use Rattle.std.specs.Prelude.{◌&&◌, ◌||◌, not, All}
use Rattle.std.specs.Int.{is_power_of_two}
use Rattle.std.specs.List.{enumerate_from, find, flat_map, range_with_len, sum_by}
use Rattle.std.specs.Option.{option_map, option_or}
use Rattle.std.proofs.lemmas.Bool.{and_parts, eqb-true, leb-true, ltb-false, or_parts}
use Rattle.std.proofs.lemmas.List.Elements.{All-append, All-map, All-nil}
use Rattle.std.proofs.lemmas.List.Sums.{sum_by-take-le}
use Rattle.std.proofs.lemmas.Option.{slice_get-map, slice_get_within}
use Rattle.elf32_read.specs.Header.{content_of, file_flags, header_of, section_count}
use Rattle.elf32_read.specs.Kept.{has_flags, is_kept}
use Rattle.elf32_read.specs.Object.{is_bad_alignment, object_fault}
use Rattle.elf32_read.specs.Parts.{ObjectParts, SectionParts, is_code_section, is_kept_section, object_parts, relocs_held, section_parts}
use Rattle.elf32_read.specs.Relocs.{relas_for, reloc_at, relocs_in}
use Rattle.elf32_read.specs.declared.header.SectionHeader.{SectionHeader}
use Rattle.elf32_read.specs.declared.reloc.Reloc.{Reloc}
use Rattle.elf32_read.proofs.Faultless.{IsKept, content_short, content_whole, faultless_whole, is_kept_section-parts, is_memory_kind, kept_code, kept_section, no_fault}
use Rattle.elf32_read.proofs.PartsLaws.{length-sections, section_at}
use Rattle.elf32_write.specs.ObjectFile.{object_size, section_total}
use Rattle.elf32_write.specs.Writable.{IsWritable}
use Rattle.elf32_write.proofs.SoundParts.{AreSoundParts}
use Rattle.elf32_write.proofs.SoundWords.{HasRoom, sound_in_words}
use Rattle.psabi_sym.specs.Data.{class_of, role_of}
use Rattle.psabi_sym.specs.Faults.{data_room, object_data, room_in_data}
use Rattle.psabi_sym.specs.Inputs.{Inputs, parsed}
use Rattle.psabi_sym.specs.declared.section_row.SectionRole.TheVariants.{Code, InClass, Dropped}
use Rattle.psabi_sym.proofs.DefinedLaws.{data_fits}
use Rattle.psabi_sym.proofs.Gathered.{all_none, readable}
use Rattle.psabi_sym.proofs.SumLaws.{sum_next}
use Rattle.block_cut.specs.Faults.{first_fault}
use Rattle.block_cut.proofs.FaultLaws.{faultless}
use Rattle.moved_runs.specs.Passes.{KeepsSection, Pass, passed_object, passed_objects}
use Rattle.object_passes.specs.Sizes.{first_large, first_oversized, is_small_object, passes_sum}
use Rattle.object_passes.specs.Written.{without_marks}
use Rattle.object_passes.proofs.FitPass.{IsFitObject, IsFitPass, IsFitSection}
use Rattle.object_passes.proofs.MarkLaws.{without_marks-writable}
use Rattle.object_passes.proofs.RoomLaws.{passed-at, passed-there}
use Rattle.object_passes.proofs.SoundLaws.{all-passed, flags-are, given-whole, sound-parts}

-- ---- numbers of a file

-- the type of a relocation is a byte
types-low : (content : List ℕ) (k : ℕ) → (reloc_at content k).kind < 2 ^ 8
unfolding reloc_at
types-low content k = omega arith

memory-low : (k : ℕ) → is_memory_kind k ≡ true → k < 2 ^ 32
memory-low k is = by (eqb k 1) (eqb k 8) (eqb k 14) (eqb k 15) (eqb k 16) refl refl refl refl refl is
  where
    by : (a b c d e : Bool) → eqb k 1 ≡ a → eqb k 8 ≡ b → eqb k 14 ≡ c → eqb k 15 ≡ d → eqb k 16 ≡ e → (a || b || c || d || e) ≡ true → k < 2 ^ 32
    by true b c d e is _ _ _ _ h = omega (arith, eqb-true k 1 is)
    by false true c d e _ is _ _ _ h = omega (arith, eqb-true k 8 is)
    by false false true d e _ _ is _ _ h = omega (arith, eqb-true k 14 is)
    by false false false true e _ _ _ is _ h = omega (arith, eqb-true k 15 is)
    by false false false false true _ _ _ _ is h = omega (arith, eqb-true k 16 is)
    by false false false false false _ _ _ _ _ h = absurd cc

module _ (file : List ℕ) (fine : object_fault file ≡ None) where
  relocs-low : (i : ℕ) → All (λ r. r.kind < 2 ^ 8) (section_parts file i).relocs
  relocs-low i = by (is_kept file (header_of file i))
    where
      one : (content : List ℕ) → All (λ r. r.kind < 2 ^ 8) (relocs_in content)
      one content =
          let places = range_with_len 0 (length content / 12) in
          All-map (λ r. r.kind < 2 ^ 8) (reloc_at content) places (λ k d lt. types-low content (get_or places k d))

      held : (hs : List SectionHeader) → All (λ r. r.kind < 2 ^ 8) (flat_map (relocs_held file) hs)
      held [] = All-nil (λ (r : Reloc). r.kind < 2 ^ 8)
      held (h ∷ hs) = All-append (λ r. r.kind < 2 ^ 8) (relocs_held file h) (flat_map (relocs_held file) hs) (one (content_of file h)) (held hs)

      by : (b : Bool) → All (λ r. r.kind < 2 ^ 8) (cond b (flat_map (relocs_held file) (relas_for file i)) [])
      by true = held (relas_for file i)
      by false = All-nil (λ (r : Reloc). r.kind < 2 ^ 8)

  kept-header : (i : ℕ) → i < section_count file → is_kept_section (section_parts file i) ≡ true → IsKept (header_of file i)
  kept-header i lt kept = kept_section file fine i lt (sym (is_kept_section-parts file fine i lt) ∙ kept)

  -- code is no longer than its file
  code-size : (i : ℕ) → i < section_count file → is_code_section (section_parts file i) ≡ true → (section_parts file i).size ≤ 0x40_0000
  code-size i lt code =
      let h = header_of file i in
      let is = kept_code file fine i lt (ap (λ b. b && has_flags 4 h.flags) (sym (is_kept_section-parts file fine i lt)) ∙ code) in
      let short = ltb-false 0x40_0000 (length file) (no_fault file fine).short in
      let kind = is.kind in
      let whole = content_whole file h ((faultless_whole file fine).contents i lt) (λ e. absurd (omega (arith, e, kind))) (λ e. absurd (omega (arith, e, kind))) in
      omega (arith, whole, short, content_short file h)

-- ---- sizes of data

element-le : {X : Type 0} (f : X → ℕ) (xs : List X) (k : ℕ) (x : X) → slice_get xs k ≡ Some x → f x ≤ sum_by f xs
element-le f xs k x at = omega (arith, sum_next f xs k x at, sum_by-take-le f xs (k + 1))

data-room : (s : SectionParts) → is_kept_section s ≡ true → is_code_section s ≡ false → s.size ≤ data_room s
unfolding role_of
data-room s kept plain =
    let room : data_room s ≡ s.size + max 1 s.align = ap₂ (λ c k. room_in_data s (cond c Code (cond k (InClass (class_of s)) Dropped))) plain kept in
    omega (arith, room)

data-size : (inputs : Inputs) (o k : ℕ) (file : List ℕ) (s : SectionParts) → first_fault inputs ≡ None → slice_get inputs.files o ≡ Some file → slice_get (object_parts file).sections k ≡ Some s
    → is_kept_section s ≡ true → is_code_section s ≡ false → s.size ≤ 0x40_0000
data-size inputs o k file s none at there kept plain =
    let all = faultless inputs none in
    let most = data_fits inputs.files (all_none inputs all.gathered).sums in
    let mine : object_data (object_parts file) ≤ sum_by (λ f. object_data (object_parts f)) inputs.files = element-le (λ f. object_data (object_parts f)) inputs.files o file at in
    let here = element-le data_room (object_parts file).sections k s there in
    omega (arith, most, mine, here, data-room s kept plain)

-- ---- what becomes of sections has room

-- an alignment that isn't bad is low
alignment-low : (v : ℕ) → is_bad_alignment 256 v ≡ false → v ≤ 256
alignment-low v fine = by (eqb v 0) refl fine
  where
    by : (b : Bool) → eqb v 0 ≡ b → (not b && (not (is_power_of_two v) || ltb 256 v)) ≡ false → v ≤ 256
    by true is h = omega (arith, eqb-true v 0 is)
    by false is h = ltb-false 256 v (or_parts (not (is_power_of_two v)) (ltb 256 v) h).1

module _ (inputs : Inputs) (pass : Pass) (o : ℕ) (file : List ℕ) (none : first_fault inputs ≡ None) (at : slice_get inputs.files o ≡ Some file) (fit : IsFitObject pass o (object_parts file)) where
  fine : object_fault file ≡ None
  fine = let all = faultless inputs none in readable inputs o file all.gathered at

  made-room : (k : ℕ) → k < section_count file → is_kept_section (section_parts file k) ≡ true → (t : SectionParts) → KeepsSection (section_parts file k) t → IsFitSection (file_flags file) (section_parts file k) t → HasRoom t
  made-room k lt kept t keeps fits = record {
    kind = subst (λ n. n < 2 ^ 32) (sym keeps.kind) (memory-low (section_parts file k).kind header.kind);
    align = aligned (is_code_section (section_parts file k)) refl;
    size = sized (is_code_section (section_parts file k)) refl;
    relocs = fits.kinds (2 ^ 8) (relocs-low file fine k);
  }
    where
      header : IsKept (header_of file k)
      header = kept-header file fine k lt kept

      aligned : (b : Bool) → is_code_section (section_parts file k) ≡ b → t.align < 2 ^ 32
      aligned true code = omega (arith, alignment-low t.align (fits.whole code (given-whole file fine k lt code)).align)
      aligned false plain = let low = header.aligned.low in let same = keeps.align plain in omega (arith, low, same)

      sized : (b : Bool) → is_code_section (section_parts file k) ≡ b → t.size < 2 ^ 32
      sized true code = omega (arith, code-size file fine k lt code, fits.less code)
      sized false plain = let same = keeps.size plain in omega (arith, same, data-size inputs o k file (section_parts file k) none at (section_at file k lt) kept plain)

  pub all-room : All HasRoom (passed_object pass o (object_parts file)).sections
  all-room =
      all-passed HasRoom (pass.section o) 0 (object_parts file).sections
      (λ k s there kept.
      let inside = slice_get_within (object_parts file).sections k s there in
      let lt : k < section_count file = omega (arith, inside, length-sections file) in
      one k s lt (sym (section_at file k lt) ∙ there) kept)
    where
      one : (k : ℕ) (s : SectionParts) → k < section_count file → Some (section_parts file k) ≡ Some s → is_kept_section s ≡ true → HasRoom (pass.section o (0 + k) s)
      one k s lt is kept =
          let same : section_parts file k ≡ s = cc in
          let zero : k ≡ 0 + k = omega arith in
          let here = ap is_kept_section same ∙ kept in
          let fits = subst (λ f. IsFitSection f (section_parts file k) (pass.section o k (section_parts file k))) (flags-are file fine) (fit.sections k (section_parts file k) (section_at file k lt) here) in
          subst (λ m. HasRoom (pass.section o m s)) zero
          (subst (λ u. HasRoom (pass.section o k u)) same (made-room k lt here (pass.section o k (section_parts file k)) (pass.keeps_sections o k (section_parts file k)) fits))

  -- what becomes of an object is sound, if it isn't too large
  pub sound-small : is_small_object (passed_object pass o (object_parts file)) ≡ true → AreSoundParts (passed_object pass o (object_parts file))
  sound-small small =
      let parts = passed_object pass o (object_parts file) in
      let two = and_parts (leb (section_total parts) 4096) (leb (object_size parts) 0x40_0000) small in
      sound-parts file fine pass o fit (leb-true (section_total parts) 4096 two.0) (leb-true (object_size parts) 0x40_0000 two.1)

  -- so it can be written
  pub can-be : is_small_object (passed_object pass o (object_parts file)) ≡ true → IsWritable (passed_object pass o (object_parts file))
  can-be small = sound_in_words (passed_object pass o (object_parts file)) (sound-small small) all-room

-- ---- all objects

-- none is too large by itself
each-small : (n : ℕ) (objects : List ObjectParts) (k : ℕ) (p : ObjectParts) → option_map (λ e. e.0) (find (λ e. not (is_small_object e.1)) (enumerate_from n objects)) ≡ None
    → slice_get objects k ≡ Some p → is_small_object p ≡ true
each-small n [] k p none at = absurd cc
each-small n (x ∷ xs) k p none at = by (λ k h at. each-small (n + 1) xs k p h at) k (is_small_object x) refl none at
  where
    by : ((k : ℕ) → option_map (λ e. e.0) (find (λ e. not (is_small_object e.1)) (enumerate_from (n + 1) xs)) ≡ None → slice_get xs k ≡ Some p → is_small_object p ≡ true) → (k : ℕ) (b : Bool) → is_small_object x ≡ b → option_map (λ e. e.0) (cond (not b) (Some (n, x)) (find (λ e. not (is_small_object e.1)) (enumerate_from (n + 1) xs))) ≡ None → slice_get (x ∷ xs) k ≡ Some p → is_small_object p ≡ true
    by rest k false is h at = absurd cc
    by rest zero true is h at = let same : x ≡ p = cc in ap is_small_object (sym same) ∙ is
    by rest (suc k) true is h at = rest k h at

pub small-each : (objects : List ObjectParts) → first_large objects ≡ None → (k : ℕ) (p : ObjectParts) → slice_get objects k ≡ Some p → is_small_object p ≡ true
small-each objects none k p at = each-small 0 objects k p none at

pub no-large : (objects : List ObjectParts) → first_oversized objects ≡ None → first_large objects ≡ None
no-large objects none = by (first_large objects) refl none
  where
    by : (o : Option ℕ) → first_large objects ≡ o → option_or o (find (passes_sum objects) (range_with_len 0 (length objects))) ≡ None → first_large objects ≡ None
    by None is h = is
    by (Some i) is h = absurd cc

-- an object among those that a pass is fit for
pub fit-at : (inputs : Inputs) (pass : Pass) (o : ℕ) (file : List ℕ) → IsFitPass pass (parsed inputs).objects → slice_get inputs.files o ≡ Some file → IsFitObject pass o (object_parts file)
fit-at inputs pass o file fit at = fit.each o (object_parts file) (slice_get-map object_parts inputs.files o ∙ ap (option_map object_parts) at)

-- what becomes of each object can be written
pub writable : (inputs : Inputs) (pass : Pass) → first_fault inputs ≡ None → IsFitPass pass (parsed inputs).objects → first_oversized (passed_objects pass (parsed inputs).objects) ≡ None
    → (o : ℕ) (p : ObjectParts) → slice_get (passed_objects pass (parsed inputs).objects) o ≡ Some p → IsWritable p
writable inputs pass none fit small o p at =
    let objects = passed_objects pass (parsed inputs).objects in
    let fits = small-each objects (no-large objects small) o p at in
    let own = passed-at pass inputs.files o p at in
    subst IsWritable (sym own.is) (can-be inputs pass o own.file none own.at (fit-at inputs pass o own.file fit own.at) (ap is_small_object (sym own.is) ∙ fits))

-- so it can be as the code makes it
pub can-be-written : (inputs : Inputs) (pass : Pass) (o : ℕ) → o < length inputs.files → first_fault inputs ≡ None → IsFitPass pass (parsed inputs).objects
    → first_oversized (passed_objects pass (parsed inputs).objects) ≡ None → IsWritable (without_marks (passed_object pass o (object_parts (get_or inputs.files o []))))
can-be-written inputs pass o within none fit small =
    let parts = passed_object pass o (object_parts (get_or inputs.files o [])) in
    without_marks-writable parts (writable inputs pass none fit small o parts (passed-there pass inputs.files o within))
