-- What the code finds of sections and symbols one by one is what is summed.
use Rattle.std.proofs.Common.{◌≡◌, ℕ, suc, zero, ◌+◌, ◌*◌, ◌<◌, ◌≤◌, ◌⊎◌, inl, inr, List, [], ◌∷◌, length, map, drop, max, refl, sym, ap, ap₂, ◌∙◌, arith, subst, Bool, true, false, cond, leb, Some, None, slice_get, get_or}
use Rattle.std.specs.Prelude.{◌&&◌}
use Rattle.std.specs.List.{enumerate_from}
use Rattle.std.specs.Option.{option_and_then, option_map}
use Rattle.std.proofs.lemmas.Bool.{le-leb, lt-leb}
use Rattle.std.proofs.lemmas.List.{drop_all, length-drop, length-map}
use Rattle.std.proofs.lemmas.List.FromFn.{length-enumerate_from}
use Rattle.std.proofs.lemmas.List.Sums.{sum_by-cons}
use Rattle.std.proofs.lemmas.Option.{slice_get-get_or, slice_get-map, slice_get_within}
use Rattle.elf32_read.specs.Header.{section_count}
use Rattle.elf32_read.specs.Object.{object_fault}
use Rattle.elf32_read.specs.Parts.{ObjectParts, SectionParts, SymbolParts, is_kept_section, object_parts, section_parts}
use Rattle.elf32_write.specs.Image.{padded_length}
use Rattle.elf32_write.specs.ObjectFile.{object_size, section_total}
use Rattle.psabi_sym.specs.Indexed.{IndexedSection, all_sections, section_at}
use Rattle.psabi_sym.proofs.PartLaws.{section_got}
use Rattle.psabi_sym.proofs.SectionNumbers.{of_file}
use Rattle.moved_runs.specs.Passes.{IsOrderly, Pass, passed_from, passed_object, passed_objects}
use Rattle.object_passes.specs.Rooms.{counts_of, left_section, left_sections, name_size, part_room, parts_room, passed_room, symbols_room, with_room}
use Rattle.object_passes.specs.Sizes.{is_small_object}
use Rattle.object_passes.specs.declared.section_room.LeftSection.{LeftSection}
use Rattle.object_passes.specs.declared.section_room.SectionRoom.{SectionRoom}
use Rattle.object_passes.proofs.ListLaws.{drop-next, entry-at}
use Rattle.object_passes.proofs.OrderlyLaws.{orderly}
use Rattle.object_passes.proofs.SizeLaws.{IsRoomBefore, names-within, room-next, room-within, section-bytes-short, section-name-short, size-is, total-is}

-- ---- a section by its number among all

-- the section is that of its file
pub own-section : (files : List (List ℕ)) (k o i : ℕ) (l : IndexedSection) (file : List ℕ) → slice_get (all_sections (map object_parts files)) k ≡ Some l → o ≡ l.object → i ≡ l.index → slice_get files o ≡ Some file
    → (i < section_count file) × (section_parts file i ≡ l.section)
own-section files k o i l file at object index there =
    let own = of_file files k l at in
    let same : own.file ≡ file = cc (own.at, ap (slice_get files) object, there) in (
      subst (λ f. i < section_count f) same (omega (arith, own.within, index)),
      ap (section_parts file) index ∙ ap (λ f. section_parts f l.index) (sym same) ∙ sym own.is,
    )

pub own-object : (files : List (List ℕ)) (k o : ℕ) (l : IndexedSection) → slice_get (all_sections (map object_parts files)) k ≡ Some l → o ≡ l.object → o < length files
own-object files k o l at object =
    let own = of_file files k l at in
    omega (arith, object, slice_get_within files l.object own.file own.at)

pub own-name : (file : List ℕ) (i : ℕ) (s : SectionParts) → object_fault file ≡ None → section_parts file i ≡ s → length s.name ≤ 0x40_0000
own-name file i s fine is = subst (λ (t : SectionParts). length t.name ≤ 0x40_0000) is (section-name-short file fine i)

pub own-bytes : (file : List ℕ) (i : ℕ) (s : SectionParts) → object_fault file ≡ None → section_parts file i ≡ s → length s.bytes ≤ 0x40_0000
own-bytes file i s fine is = subst (λ (t : SectionParts). length t.bytes ≤ 0x40_0000) is (section-bytes-short file fine i)

-- what is left of it
left-at : (pass : Pass) (objects : List ObjectParts) (left : List LeftSection) (k : ℕ) (l : IndexedSection) (x : LeftSection) → left ≡ left_sections pass objects → slice_get (all_sections objects) k ≡ Some l
    → slice_get left k ≡ Some x → x ≡ left_section pass l
left-at pass objects left k l x is at got =
    cc (got, ap (λ ls. slice_get ls k) is, slice_get-map (left_section pass) (all_sections objects) k, ap (option_map (left_section pass)) at)

pub kept-left : (pass : Pass) (objects : List ObjectParts) (left : List LeftSection) (k : ℕ) (l : IndexedSection) (x : LeftSection) → left ≡ left_sections pass objects → slice_get (all_sections objects) k ≡ Some l
    → slice_get left k ≡ Some x → is_kept_section l.section ≡ true → x ≡ counts_of (pass.section l.object l.index l.section)
kept-left pass objects left k l x is at got kept =
    left-at pass objects left k l x is at got ∙ ap (λ b. cond b (counts_of (pass.section l.object l.index l.section)) (record { bytes = 0; relocs = 0 })) kept

pub kept-room : (pass : Pass) (l : IndexedSection) (room : SectionRoom) → is_kept_section l.section ≡ true → room ≡ part_room (pass.section l.object l.index l.section) → room ≡ passed_room pass l
kept-room pass l room kept is = is ∙ ap (λ b. cond b (part_room (pass.section l.object l.index l.section)) (parts_room [])) (sym kept)

-- ---- the sections of an object

there : (files : List (List ℕ)) (o i : ℕ) (file : List ℕ) → slice_get files o ≡ Some file → section_at (map object_parts files) o i ≡ slice_get (object_parts file).sections i
there files o i file at = ap (option_and_then (λ (object : ObjectParts). slice_get object.sections i)) (slice_get-map object_parts files o ∙ ap (option_map object_parts) at)

pub section-found : (files : List (List ℕ)) (o i : ℕ) (file : List ℕ) → slice_get files o ≡ Some file → i < section_count file → section_at (map object_parts files) o i ≡ None → ⊥
section-found files o i file at within none = absurd (let got = section_got file i within in let is = there files o i file at in cc (got, is, none))

pub next-room : (pass : Pass) (files : List (List ℕ)) (o i : ℕ) (s : SectionParts) (file : List ℕ) (room more next : SectionRoom) → slice_get files o ≡ Some file → section_at (map object_parts files) o i ≡ Some s
    → more ≡ passed_room pass (record { object = o; index = i; section = s }) → next ≡ with_room room more
    → IsRoomBefore (pass.section o) (object_parts file) i room → IsRoomBefore (pass.section o) (object_parts file) (i + 1) next
next-room pass files o i s file room more next at found is sum so_far =
    subst (IsRoomBefore (pass.section o) (object_parts file) (i + 1)) (sym sum)
    (room-next (pass.section o) (object_parts file) i s room more (sym (there files o i file at) ∙ found) is so_far)

-- ---- the symbols of an object

pub names-next : (symbols : List SymbolParts) (i : ℕ) (s : SymbolParts) (size more total : ℕ) → slice_get symbols i ≡ Some s → more ≡ name_size s.name → size + symbols_room (drop i symbols) ≡ total
    → size + more + symbols_room (drop (i + 1) symbols) ≡ total
names-next symbols i s size more total at is so_far =
    let rest = ap symbols_room (drop-next symbols i s at) in
    omega (arith, rest, sum_by-cons (λ (s : SymbolParts). name_size s.name) s (drop (i + 1) symbols), is, so_far)

pub names-end : (symbols : List SymbolParts) (i size total : ℕ) → length symbols ≤ i → size + symbols_room (drop i symbols) ≡ total → size ≡ total
names-end symbols i size total past so_far = let none = ap symbols_room (drop_all i symbols past) in omega (arith, none, so_far)

-- what becomes of a symbol has its name
names-stay : (pass : Pass) (o : ℕ) (object : ObjectParts) → IsOrderly object → (ss : List SymbolParts) → symbols_room (map (pass.symbol o object) ss) ≡ symbols_room ss
names-stay pass o object orderly [] = refl
names-stay pass o object orderly (s ∷ ss) =
    omega (
      arith,
      sum_by-cons (λ (s : SymbolParts). name_size s.name) (pass.symbol o object s) (map (pass.symbol o object) ss),
      sum_by-cons (λ (s : SymbolParts). name_size s.name) s ss,
      ap name_size (pass.keeps_symbols o object s orderly).name,
      names-stay pass o object orderly ss,
    )

-- ---- the file of an object

-- the parts are what becomes of the object of a file
pub record IsPassedFile (pass : Pass) (files : List (List ℕ)) (n o : ℕ) (parts : ObjectParts) : Type 0 where
  pub file : List ℕ
  pub at : slice_get files o ≡ Some file
  pub is : parts ≡ passed_object pass n (object_parts file)

passed-from : (pass : Pass) (n : ℕ) (files : List (List ℕ)) (o : ℕ) (parts : ObjectParts) → slice_get (map (λ e. passed_object pass e.0 e.1) (enumerate_from n (map object_parts files))) o ≡ Some parts
    → IsPassedFile pass files (n + o) o parts
passed-from pass n [] o parts at = absurd cc
passed-from pass n (f ∷ fs) zero parts at =
    let none : n ≡ n + 0 = omega arith in
    let same : passed_object pass n (object_parts f) ≡ parts = cc in
    record { file = f; at = refl; is = sym same ∙ ap (λ m. passed_object pass m (object_parts f)) none }
passed-from pass n (f ∷ fs) (suc o) parts at =
    let rest = passed-from pass (n + 1) fs o parts at in
    let next : n + 1 + o ≡ n + suc o = omega arith in
    record { file = rest.file; at = rest.at; is = rest.is ∙ ap (λ m. passed_object pass m (object_parts rest.file)) next }

pub passed-at : (pass : Pass) (files : List (List ℕ)) (o : ℕ) (parts : ObjectParts) → slice_get (passed_objects pass (map object_parts files)) o ≡ Some parts → IsPassedFile pass files o o parts
passed-at pass files o parts at =
    let zero : 0 + o ≡ o = omega arith in
    subst (λ m. IsPassedFile pass files m o parts) zero (passed-from pass 0 files o parts at)

-- what becomes of the object with an index
pub passed-got : (pass : Pass) (objects : List ObjectParts) (o : ℕ) (object : ObjectParts) → slice_get objects o ≡ Some object → slice_get (passed_objects pass objects) o ≡ Some (passed_object pass o object)
passed-got pass objects o object at =
    slice_get-map f (enumerate_from 0 objects) o ∙ ap (option_map f) (entry-at objects o object at)
  where
    f : ℕ × ObjectParts → ObjectParts
    f e = passed_object pass e.0 e.1

pub passed-there : (pass : Pass) (files : List (List ℕ)) (o : ℕ) → o < length files → slice_get (passed_objects pass (map object_parts files)) o ≡ Some (passed_object pass o (object_parts (get_or files o [])))
passed-there pass files o within =
    passed-got pass (map object_parts files) o (object_parts (get_or files o []))
    (slice_get-map object_parts files o ∙ ap (option_map object_parts) (slice_get-get_or files o [] within))

pub length-passed : (pass : Pass) (files : List (List ℕ)) → length (passed_objects pass (map object_parts files)) ≡ length files
length-passed pass files =
    length-map (enumerate_from 0 (map object_parts files)) (λ e. passed_object pass e.0 e.1) ∙ length-enumerate_from 0 (map object_parts files) ∙ length-map files object_parts

-- ---- whether it is too large

large-size : (parts : ObjectParts) → 0x40_0000 < object_size parts → is_small_object parts ≡ false
large-size parts many = ap (λ b. leb (section_total parts) 4096 && b) (lt-leb (object_size parts) 0x40_0000 many) ∙ by (leb (section_total parts) 4096)
  where
    by : (b : Bool) → (b && false) ≡ false
    by true = refl
    by false = refl

large-total : (parts : ObjectParts) → 4096 < section_total parts → is_small_object parts ≡ false
large-total parts many = ap (λ b. b && leb (object_size parts) 0x40_0000) (lt-leb (section_total parts) 4096 many)

small-both : (parts : ObjectParts) → section_total parts ≤ 4096 → object_size parts ≤ 0x40_0000 → is_small_object parts ≡ true
small-both parts few short = ap₂ (λ a b. a && b) (le-leb (section_total parts) 4096 few) (le-leb (object_size parts) 0x40_0000 short)

-- the parts of an object, by what was found of its file
module _ (pass : Pass) (files : List (List ℕ)) (o : ℕ) (parts : ObjectParts) (at : slice_get (passed_objects pass (map object_parts files)) o ≡ Some parts) where
  own : IsPassedFile pass files o o parts
  own = passed-at pass files o parts at

  -- its sections alone have too many bytes
  pub sections-large : ((file : List ℕ) → slice_get files o ≡ Some file → 0x40_0000 < (parts_room (passed_from (pass.section o) 0 (object_parts file).sections)).content + (parts_room (passed_from (pass.section o) 0 (object_parts file).sections)).names)
      → is_small_object parts ≡ false
  sections-large many =
      ap is_small_object own.is ∙ large-size (passed_object pass o (object_parts own.file)) (let few = room-within (passed_object pass o (object_parts own.file)) in let own_many = many own.file own.at in omega (arith, few, own_many))

  module _ (file : List ℕ) (is : slice_get files o ≡ Some file) (fine : object_fault file ≡ None) where
    same : parts ≡ passed_object pass o (object_parts file)
    same = let files_same : own.file ≡ file = cc (own.at, is) in own.is ∙ ap (λ f. passed_object pass o (object_parts f)) files_same

    names-are : symbols_room parts.symbols ≡ symbols_room (drop 1 (object_parts file).symbols)
    names-are = ap (λ (p : ObjectParts). symbols_room p.symbols) same ∙ names-stay pass o (object_parts file) (orderly file fine) (drop 1 (object_parts file).symbols)

    -- the names of its symbols alone have too many bytes
    pub names-large : 0x40_0000 < symbols_room (drop 1 (object_parts file).symbols) → is_small_object parts ≡ false
    names-large many = large-size parts (let few = names-within parts in omega (arith, few, names-are, many))

    module _ (room : SectionRoom) (names symbols : ℕ) (room_is : room ≡ parts_room (passed_from (pass.section o) 0 (object_parts file).sections)) (names_is : names ≡ symbols_room (drop 1 (object_parts file).symbols))
        (symbols_is : symbols ≡ max (length (object_parts file).symbols) 1) where
      room-of : parts_room parts.sections ≡ room
      room-of = ap (λ (p : ObjectParts). parts_room p.sections) same ∙ sym room_is

      pub total-found : 4 + room.headers ≡ section_total parts
      total-found = ap (λ (r : SectionRoom). 4 + r.headers) (sym room-of) ∙ sym (total-is parts)

      symbols-of : 1 + length parts.symbols ≡ symbols
      symbols-of =
          let many = ap (λ (p : ObjectParts). length p.symbols) same ∙ length-map (drop 1 (object_parts file).symbols) (pass.symbol o (object_parts file)) ∙ length-drop 1 (object_parts file).symbols in
          omega (arith, many, symbols_is)

      pub size-found : 52 + room.content + 16 * symbols + padded_length (1 + names) + padded_length (27 + room.names) + 40 * (4 + room.headers) ≡ object_size parts
      size-found =
          let names_same = names_is ∙ sym names-are in
          (λ i. 52 + (sym room-of i).content + 16 * sym symbols-of i + padded_length (1 + names_same i) + padded_length (27 + (sym room-of i).names) + 40 * (4 + (sym room-of i).headers))
          ∙ sym (size-is parts)

      pub found-large : (size : ℕ) → size ≡ object_size parts → (4096 < 4 + room.headers) ⊎ (0x40_0000 < size) → is_small_object parts ≡ false
      found-large size is (inl many) = large-total parts (omega (arith, many, total-found))
      found-large size is (inr many) = large-size parts (omega (arith, many, is))

      pub found-small : (size : ℕ) → size ≡ object_size parts → 4 + room.headers ≤ 4096 → size ≤ 0x40_0000 → is_small_object parts ≡ true
      found-small size is few short = small-both parts (omega (arith, few, total-found)) (omega (arith, short, is))
