-- What is read of a written file needs no more room in code and in data than the given object: of each number it has what is left of
-- it in a word.
use Rattle.std.proofs.Common.{◌≡◌, ℕ, zero, suc, ℤ, pos, negsuc, ◌+◌, ◌%◌, ◌^◌, ◌≤◌, List, [], ◌∷◌, ◌++◌, drop, map, max, filter, codes, refl, sym, ap, ◌∙◌, arith, Bool, true, false, cond, eqb, ltb, Some, slice_get, subst}
use Rattle.std.specs.Prelude.{◌&&◌, ◌||◌, not}
use Rattle.std.specs.Int.{w32, cast_signed, cast_unsigned}
use Rattle.std.specs.List.{enumerate_from, list_any, sum_by}
use Rattle.std.proofs.lemmas.Bool.{ltb-true}
use Rattle.std.proofs.lemmas.Int.{to_z_pos}
use Rattle.std.proofs.lemmas.List.{map-append}
use Rattle.std.proofs.lemmas.List.Sums.{sum_by-append, sum_by-cons}
use Rattle.elf32_read.specs.Compressed.{has_rvc}
use Rattle.elf32_read.specs.Parts.{ObjectParts, SectionParts, SymbolParts, is_code_section, is_kept_section, object_parts}
use Rattle.elf32_read.specs.declared.reloc.Reloc.{Reloc}
use Rattle.elf32_write.specs.Writable.{IsObjectOf, added_parts, in_object, null_part}
use Rattle.elf32_write.proofs.SoundWords.{code_same, kept_same, write_same}
use Rattle.elf32_write.proofs.WordsWritten.{word_parts, word_reloc, word_section, word_symbol}
use Rattle.psabi_sym.specs.Data.{is_of_kin, role_of}
use Rattle.psabi_sym.specs.Faults.{align_room, code_room, common_room, counted_bytes, data_room, object_code, object_data, power_above, reloc_room, room_in_code, room_in_data}
use Rattle.psabi_sym.specs.declared.data_class.DataClass.TheVariants.{ReadOnly, Data, SmallData, SmallZero, Zero}
use Rattle.psabi_sym.specs.declared.section_row.SectionRole.{SectionRole}
use Rattle.psabi_sym.specs.declared.section_row.SectionRole.TheVariants.{Code, InClass, Dropped}
use Rattle.block_cut.specs.Resolved.{asks}
use Rattle.moved_runs.specs.Passes.{IsOrderly, KeepsSection, KeepsSymbol, Pass, passed_from, passed_object}
use Rattle.moved_runs.proofs.PassContents.{code-role}
use Rattle.moved_runs.proofs.PassData.{dropped-role, role-same}
use Rattle.object_passes.proofs.FitPass.{IsFitObject, IsFitSection}
use Rattle.object_passes.proofs.ReadBack.{AreMarked, KeepsMarks, marked-file}

-- ---- relocations

align-most : (a : ℤ) → align_room a ≤ 256
align-most (pos zero) = omega arith
align-most (negsuc n) = omega arith
align-most (pos (suc n)) = by (ltb n 255)
  where
    power : (a b c d e f g : Bool) → cond a 2 (cond b 4 (cond c 8 (cond d 16 (cond e 32 (cond f 64 (cond g 128 256)))))) ≤ 256
    power true b c d e f g = omega arith
    power false true c d e f g = omega arith
    power false false true d e f g = omega arith
    power false false false true e f g = omega arith
    power false false false false true f g = omega arith
    power false false false false false true g = omega arith
    power false false false false false false true = omega arith
    power false false false false false false false = omega arith

    by : (b : Bool) → cond b (power_above (suc n)) 256 ≤ 256
    by true = power (ltb (suc n) 2) (ltb (suc n) 4) (ltb (suc n) 8) (ltb (suc n) 16) (ltb (suc n) 32) (ltb (suc n) 64) (ltb (suc n) 128)
    by false = omega arith

align-word : (a : ℤ) → align_room (cast_signed w32 (cast_unsigned w32 a % 2 ^ 32)) ≤ align_room a
align-word (pos zero) = align-most (cast_signed w32 (cast_unsigned w32 (pos zero) % 2 ^ 32))
align-word (negsuc n) = align-most (cast_signed w32 (cast_unsigned w32 (negsuc n) % 2 ^ 32))
align-word (pos (suc n)) = by (ltb n 255) refl
  where
    by : (b : Bool) → ltb n 255 ≡ b → align_room (cast_signed w32 (suc n % 2 ^ 32)) ≤ cond b (power_above (suc n)) 256
    by false is = align-most (cast_signed w32 (suc n % 2 ^ 32))
    by true is =
        let low = ltb-true n 255 is in
        let left : suc n % 2 ^ 32 ≡ suc n = omega (arith, low) in
        let same : align_room (cast_signed w32 (suc n % 2 ^ 32)) ≡ cond (ltb n 255) (power_above (suc n)) 256 = ap (λ m. align_room (cast_signed w32 m)) left ∙ ap align_room (to_z_pos w32 (suc n) (omega (arith, low))) in
        let here : cond (ltb n 255) (power_above (suc n)) 256 ≡ power_above (suc n) = ap (λ b. cond b (power_above (suc n)) 256) is in
        omega (arith, same, here)

relocs-word : (rs : List Reloc) → sum_by reloc_room (map word_reloc rs) ≤ sum_by reloc_room rs
unfolding reloc_room
relocs-word [] = omega arith
relocs-word (r ∷ rs) = omega (arith, sum_by-cons reloc_room (word_reloc r) (map word_reloc rs), sum_by-cons reloc_room r rs, by (eqb r.kind 43), relocs-word rs)
  where
    by : (b : Bool) → cond b (align_room (word_reloc r).addend) 0 ≤ cond b (align_room r.addend) 0
    by true = align-word r.addend
    by false = omega arith

-- those that ask for something take no more room
pub asking-room : (rs : List Reloc) → sum_by reloc_room (filter asks rs) ≤ sum_by reloc_room rs
asking-room [] = omega arith
asking-room (r ∷ rs) = by (asking-room rs) (asks r)
  where
    by : sum_by reloc_room (filter asks rs) ≤ sum_by reloc_room rs → (b : Bool) → sum_by reloc_room (cond b (r ∷ filter asks rs) (filter asks rs)) ≤ sum_by reloc_room (r ∷ rs)
    by le true = omega (arith, le, sum_by-cons reloc_room r rs, sum_by-cons reloc_room r (filter asks rs))
    by le false = omega (arith, le, sum_by-cons reloc_room r rs)

-- ---- a section

role-word : (flags : ℕ) (s : SectionParts) → role_of (in_object flags (word_section s)) ≡ role_of s
unfolding role_of
role-word flags s =
    let kept = kept_same s in
    let code = code_same s.flags in
    let write = write_same s.flags in
    λ i. cond (kept i && code i) Code
    (cond (kept i) (InClass (cond (eqb s.kind 8) (cond (is_of_kin (codes ".sbss") s.name) SmallZero Zero) (cond (not (write i)) ReadOnly (cond (is_of_kin (codes ".sdata") s.name) SmallData Data)))) Dropped)

code-word : (flags : ℕ) (s : SectionParts) → s.compressed ≡ has_rvc flags → code_room (in_object flags (word_section s)) ≤ code_room s
code-word flags s is = subst (λ r. room_in_code (in_object flags (word_section s)) r ≤ code_room s) (sym (role-word flags s)) (by (role_of s))
  where
    by : (r : SectionRole) → room_in_code (in_object flags (word_section s)) r ≤ room_in_code s r
    by Code = let same = ap (λ b. counted_bytes b s.size) is in omega (arith, same, relocs-word s.relocs)
    by (InClass class) = omega arith
    by Dropped = omega arith

data-word : (flags : ℕ) (s : SectionParts) → data_room (in_object flags (word_section s)) ≤ data_room s
data-word flags s = subst (λ r. room_in_data (in_object flags (word_section s)) r ≤ data_room s) (sym (role-word flags s)) (by (role_of s))
  where
    by : (r : SectionRole) → room_in_data (in_object flags (word_section s)) r ≤ room_in_data s r
    by Code = omega arith
    by (InClass class) = omega arith
    by Dropped = omega arith

-- data take as much room as they did
pub data-kept : (s t : SectionParts) → KeepsSection s t → data_room t ≡ data_room s
data-kept s t keeps = ap (room_in_data t) (role-same s t keeps) ∙ by (is_code_section s) refl
  where
    plain : is_code_section s ≡ false → (r : SectionRole) → room_in_data t r ≡ room_in_data s r
    plain is Code = refl
    plain is Dropped = refl
    plain is (InClass class) =
        let size = keeps.size is in
        let align = keeps.align is in
        λ i. size i + max 1 (align i)

    by : (c : Bool) → is_code_section s ≡ c → room_in_data t (role_of s) ≡ room_in_data s (role_of s)
    by true code = ap (room_in_data t) (code-role s code) ∙ sym (ap (room_in_data s) (code-role s code))
    by false is = plain is (role_of s)

-- ---- the sections of an object

-- a room of sections that each need no more, and that are nothing if they are dropped
module _ (f : SectionParts → ℕ) (flags : ℕ) (dropped : (s : SectionParts) → is_kept_section s ≡ false → f s ≡ 0) where
  kept-sum : (section : ℕ → SectionParts → SectionParts) (j : ℕ) (ss : List SectionParts)
      → ((k : ℕ) (s : SectionParts) → slice_get ss k ≡ Some s → is_kept_section s ≡ true → f (in_object flags (word_section (section (j + k) s))) ≤ f s)
      → sum_by f (map (in_object flags) (map word_section (passed_from section j ss))) ≤ sum_by f ss
  kept-sum section j [] each = omega arith
  kept-sum section j (s ∷ ss) each =
      by
      (kept-sum section (j + 1) ss (λ k t at kept.
      let next : j + suc k ≡ j + 1 + k = omega arith in
      subst (λ m. f (in_object flags (word_section (section m t))) ≤ f t) next (each (suc k) t at kept)))
      (is_kept_section s) refl
    where
      rest : List (ℕ × SectionParts)
      rest = filter (λ e. is_kept_section e.1) (enumerate_from (j + 1) ss)

      written : List SectionParts
      written = map (in_object flags) (map word_section (passed_from section (j + 1) ss))

      by : sum_by f (map (in_object flags) (map word_section (passed_from section (j + 1) ss))) ≤ sum_by f ss → (b : Bool) → is_kept_section s ≡ b
          → sum_by f (map (in_object flags) (map word_section (map (λ e. section e.0 e.1) (cond b ((j, s) ∷ rest) rest)))) ≤ sum_by f (s ∷ ss)
      by le true is =
          let none : j + 0 ≡ j = omega arith in
          let own = subst (λ m. f (in_object flags (word_section (section m s))) ≤ f s) none (each 0 s refl is) in
          omega (arith, le, sum_by-cons f s ss, sum_by-cons f (in_object flags (word_section (section j s))) written, own)
      by le false is = omega (arith, le, sum_by-cons f s ss)

  none-sum : (xs : List SectionParts) → list_any is_kept_section xs ≡ false → sum_by f (map (in_object flags) xs) ≡ 0
  none-sum [] none = refl
  none-sum (x ∷ xs) none = by (is_kept_section x) refl (λ h. none-sum xs h) none
    where
      by : (b : Bool) → is_kept_section x ≡ b → (list_any is_kept_section xs ≡ false → sum_by f (map (in_object flags) xs) ≡ 0) → (b || list_any is_kept_section xs) ≡ false → sum_by f (map (in_object flags) (x ∷ xs)) ≡ 0
      by true is rest h = absurd cc
      by false is rest h = omega (arith, sum_by-cons f (in_object flags x) (map (in_object flags) xs), dropped (in_object flags x) is, rest h)

  whole-sum : (section : ℕ → SectionParts → SectionParts) (ss added : List SectionParts)
      → ((k : ℕ) (s : SectionParts) → slice_get ss k ≡ Some s → is_kept_section s ≡ true → f (in_object flags (word_section (section (0 + k) s))) ≤ f s)
      → list_any is_kept_section added ≡ false → sum_by f (map (in_object flags) (null_part ∷ map word_section (passed_from section 0 ss) ++ added)) ≤ sum_by f ss
  whole-sum section ss added each none =
      let written = map word_section (passed_from section 0 ss) in
      omega (
        arith,
        sum_by-cons f (in_object flags null_part) (map (in_object flags) (written ++ added)),
        dropped (in_object flags null_part) refl,
        ap (sum_by f) (map-append (in_object flags) written added),
        sum_by-append f (map (in_object flags) written) (map (in_object flags) added),
        kept-sum section 0 ss each,
        none-sum added none,
      )

-- ---- the symbols of an object

common-word : (s : SymbolParts) → common_room (word_symbol s) ≤ common_room s
common-word s = by (eqb s.home 0xFFF2)
  where
    by : (b : Bool) → cond b (s.size % 2 ^ 32 + max 1 (s.value % 2 ^ 32)) 0 ≤ cond b (s.size + max 1 s.value) 0
    by true = omega arith
    by false = omega arith

pub common-kept : (s t : SymbolParts) → KeepsSymbol s t → common_room t ≡ common_room s
common-kept s t keeps = ap (λ b. cond b (t.size + max 1 t.value) 0) keeps.common ∙ by (eqb s.home 0xFFF2) refl
  where
    by : (b : Bool) → eqb s.home 0xFFF2 ≡ b → cond b (t.size + max 1 t.value) 0 ≡ cond b (s.size + max 1 s.value) 0
    by true is = ap (λ (t : SymbolParts). t.size + max 1 t.value) (keeps.whole is)
    by false is = refl

common-sum : (pass : Pass) (o : ℕ) (g : ObjectParts) → IsOrderly g → (ss : List SymbolParts) → sum_by common_room (map word_symbol (map (pass.symbol o g) ss)) ≤ sum_by common_room ss
common-sum pass o g order [] = omega arith
common-sum pass o g order (s ∷ ss) =
    omega (
      arith,
      sum_by-cons common_room s ss,
      sum_by-cons common_room (word_symbol (pass.symbol o g s)) (map word_symbol (map (pass.symbol o g) ss)),
      common-word (pass.symbol o g s),
      common-kept s (pass.symbol o g s) (pass.keeps_symbols o g s order),
      common-sum pass o g order ss,
    )

-- ---- the object

-- an object needs no more room than another
pub record NeedsLess (r g : ObjectParts) : Type 0 where
  pub code : object_code r ≤ object_code g
  pub held : object_data r ≤ object_data g

-- the marks of a file's sections are what its e_flags say
pub mark-of-file : (file : List ℕ) (i : ℕ) (s : SectionParts) → slice_get (object_parts file).sections i ≡ Some s → s.compressed ≡ has_rvc (object_parts file).flags
mark-of-file file i s at = by (object_parts file).sections (marked-file file) i at
  where
    by : (ss : List SectionParts) → AreMarked (object_parts file).flags ss → (i : ℕ) → slice_get ss i ≡ Some s → s.compressed ≡ has_rvc (object_parts file).flags
    by [] marked i at = absurd cc
    by (t ∷ ts) marked zero at = let same : t ≡ s = cc in ap (λ (u : SectionParts). u.compressed) (sym same) ∙ marked.0
    by (t ∷ ts) marked (suc i) at = by ts marked.1 i at

pub needs-less : (pass : Pass) (o : ℕ) (file written : List ℕ) → KeepsMarks pass → IsFitObject pass o (object_parts file) → IsOrderly (object_parts file)
    → IsObjectOf (word_parts (passed_object pass o (object_parts file))) written → NeedsLess (object_parts written) (object_parts file)
needs-less pass o file written marks fit order is =
    let g = object_parts file in
    let parts = word_parts (passed_object pass o g) in
    let codes_less = whole-sum code_room g.flags (λ s none. ap (room_in_code s) (dropped-role s none)) (pass.section o) g.sections (added_parts parts)
    (λ k s at kept.
    let zero : k ≡ 0 + k = omega arith in
    let mark = marks o (0 + k) s ∙ mark-of-file file k s at in
    let fits = subst (λ m. IsFitSection g.flags s (pass.section o m s)) zero (fit.sections k s at kept) in
    let room = fits.room in
    omega (arith, code-word g.flags (pass.section o (0 + k) s) mark, room)) is.dropped in
    let data_less = whole-sum data_room g.flags (λ s none. ap (room_in_data s) (dropped-role s none)) (pass.section o) g.sections (added_parts parts)
    (λ k s at kept. omega (arith, data-word g.flags (pass.section o (0 + k) s), data-kept s (pass.section o (0 + k) s) (pass.keeps_sections o (0 + k) s))) is.dropped in
    record {
      code = omega (arith, ap (sum_by code_room) is.sections, codes_less);
      held = omega (arith, ap (sum_by data_room) is.sections, data_less, ap (λ ts. sum_by common_room (drop 1 ts)) is.symbols, common-sum pass o g order (drop 1 g.symbols));
    }
