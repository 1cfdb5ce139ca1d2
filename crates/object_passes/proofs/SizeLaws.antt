-- The size of a file is what is summed: of sections, and of names.
use Rattle.std.proofs.Common.{◌≡◌, ℕ, suc, ◌-◌, take, Option, None, eqb, ◌+◌, ◌*◌, ◌%◌, List, [], ◌∷◌, ◌++◌, length, map, filter, replicate, codes, refl, sym, ap, ap₂, ◌∙◌, arith, append_assoc, drop, Some, slice_get, ◌≤◌, Bool, true, false, cond, ltb, length-append}
use Rattle.std.specs.Prelude.{not, ◌&&◌}
use Rattle.std.specs.List.{enumerate_from, find, flat_map, prefix_len, range_with_len, sum_by}
use Rattle.std.specs.Option.{option_map, option_or}
use Rattle.std.proofs.lemmas.Bool.{ltb-false}
use Rattle.std.proofs.lemmas.List.{drop_all, length-drop, length-take, length-replicate}
use Rattle.std.proofs.lemmas.List.Concat.{length-flat_map}
use Rattle.std.proofs.lemmas.List.Sums.{sum_by-append, sum_by-cons}
use Rattle.std.proofs.lemmas.Option.{slice_get_within}
use Rattle.elf32_read.specs.Parts.{ObjectParts, SectionParts, SymbolParts, is_kept_section, section_parts}
use Rattle.elf32_read.specs.Header.{content_of, header_of, name_section}
use Rattle.elf32_read.specs.Names.{lacks_strings, name_at, section_names, strings_of}
use Rattle.elf32_read.specs.Object.{object_fault}
use Rattle.elf32_read.proofs.Faultless.{content_short, no_fault}
use Rattle.psabi_sym.specs.Data.{class_of, role_of}
use Rattle.psabi_sym.specs.declared.section_row.SectionRole.{SectionRole}
use Rattle.psabi_sym.specs.declared.section_row.SectionRole.TheVariants.{Code, InClass, Dropped}
use Rattle.psabi_sym.proofs.SumLaws.{sum_next}
use Rattle.elf32_read.specs.Kept.{has_flags}
use Rattle.elf32_read.specs.declared.reloc.Reloc.{Reloc}
use Rattle.elf32_write.specs.Entries.{reloc_bytes, strtab_names}
use Rattle.elf32_write.specs.FileSections.{FileSection, added_sections, file_sections, given_section, given_sections, names_of_sections, rela_section, rela_sections, shstrtab_names, strtab_section, symtab_index, symtab_section}
use Rattle.elf32_write.specs.Image.{pad, padded, padded_length}
use Rattle.elf32_write.specs.NameTable.{name_bytes, name_table}
use Rattle.elf32_write.specs.ObjectFile.{contents, object_size, section_total}
use Rattle.elf32_write.proofs.RelocsBack.{length-reloc_bytes}
use Rattle.elf32_write.proofs.Room.{contents_within}
use Rattle.elf32_write.proofs.Stages.{length-symbols}
use Rattle.moved_runs.specs.Passes.{passed_from}
use Rattle.object_passes.specs.Rooms.{has_relas, name_size, part_content, part_headers, part_names, part_room, parts_room, room_size, room_total, symbols_room, with_room}
use Rattle.object_passes.specs.Sizes.{first_large, first_oversized, is_small_object, passes_sum}
use Rattle.object_passes.specs.declared.section_room.SectionRoom.{SectionRoom}
use Rattle.object_passes.proofs.ListLaws.{drop-next, sum-map, sum-one}

-- ---- the given sections, and those of their relocations

module _ (f : FileSection → ℕ) (g h : SectionParts → ℕ) (own : (s : SectionParts) → f (given_section s) ≡ g s) (rela : (t : ℕ) (e : ℕ × SectionParts) → f (rela_section t e) ≡ h e.1) where
  given-sum : (ss : List SectionParts) → sum_by f (given_sections ss) ≡ sum_by g ss
  given-sum [] = refl
  given-sum (s ∷ ss) = omega (arith, sum_by-cons f (given_section s) (given_sections ss), sum_by-cons g s ss, own s, given-sum ss)

  rela-sum : (t n : ℕ) (ss : List SectionParts) → sum_by f (map (rela_section t) (filter (λ e. ltb 0 (length e.1.relocs)) (enumerate_from n ss))) ≡ sum_by (λ s. cond (has_relas s) (h s) 0) ss
  rela-sum t n [] = refl
  rela-sum t n (s ∷ ss) = by (has_relas s) (rela-sum t (n + 1) ss) ∙ sym (sum_by-cons (λ s. cond (has_relas s) (h s) 0) s ss)
    where
      rest : List (ℕ × SectionParts)
      rest = filter (λ e. ltb 0 (length e.1.relocs)) (enumerate_from (n + 1) ss)

      by : (b : Bool) → sum_by f (map (rela_section t) rest) ≡ sum_by (λ s. cond (has_relas s) (h s) 0) ss
          → sum_by f (map (rela_section t) (cond b ((n, s) ∷ rest) rest)) ≡ cond b (h s) 0 + sum_by (λ s. cond (has_relas s) (h s) 0) ss
      by true more = omega (arith, sum_by-cons f (rela_section t (n, s)) (map (rela_section t) rest), rela t (n, s), more)
      by false more = omega (arith, more)

  both-sum : (k : SectionParts → ℕ) → ((s : SectionParts) → g s + cond (has_relas s) (h s) 0 ≡ k s) → (ss : List SectionParts) → sum_by f (given_sections ss ++ rela_sections ss) ≡ sum_by k ss
  both-sum k is ss =
      sum_by-append f (given_sections ss) (rela_sections ss) ∙ ap₂ (λ a b. a + b) (given-sum ss) (rela-sum (symtab_index ss) 1 ss) ∙ added ss
    where
      added : (ss : List SectionParts) → sum_by g ss + sum_by (λ s. cond (has_relas s) (h s) 0) ss ≡ sum_by k ss
      added [] = refl
      added (s ∷ ss) = omega (arith, sum_by-cons g s ss, sum_by-cons (λ s. cond (has_relas s) (h s) 0) s ss, sum_by-cons k s ss, is s, added ss)

-- ---- headers, contents and names

length-padded : (xs : List ℕ) → length (padded xs) ≡ padded_length (length xs)
length-padded xs = length-append xs (replicate (pad (length xs)) 0) ∙ ap (λ n. length xs + n) (length-replicate {A = ℕ} (pad (length xs)) 0)

length-contents : (fs : List FileSection) → length (contents fs) ≡ sum_by (λ f. padded_length (length f.content)) fs
length-contents [] = refl
length-contents (f ∷ fs) =
    omega (arith, length-append (padded f.content) (contents fs), length-padded f.content, length-contents fs, sum_by-cons (λ (f : FileSection). padded_length (length f.content)) f fs)

length-names : (names : List (List ℕ)) → length (name_table names) ≡ 1 + sum_by name_size names
length-names names = omega (arith, length-flat_map name_bytes names)

-- relocations need no padding
rela-content : (rs : List Reloc) → padded_length (length (flat_map reloc_bytes rs)) ≡ 12 * length rs
rela-content rs = ap padded_length (length-reloc_bytes rs) ∙ none (length rs)
  where
    none : (n : ℕ) → padded_length (12 * n) ≡ 12 * n
    none n = let whole : 12 * n % 4 ≡ 0 = omega arith in omega (arith, whole)

rela-name : (name : List ℕ) → name_size (codes ".rela" ++ name) ≡ 6 + length name
rela-name name = omega (arith, length-append name (0 ∷ []))

header-sum : (ss : List SectionParts) → length (given_sections ss ++ rela_sections ss) ≡ sum_by part_headers ss
header-sum ss = sum-one (given_sections ss ++ rela_sections ss) ∙ both-sum (λ f. 1) (λ s. 1) (λ s. 1) (λ s. refl) (λ t e. refl) part_headers (λ s. refl) ss

content-sum : (ss : List SectionParts) → length (contents (given_sections ss ++ rela_sections ss)) ≡ sum_by part_content ss
content-sum ss =
    length-contents (given_sections ss ++ rela_sections ss)
    ∙ both-sum (λ f. padded_length (length f.content)) (λ s. padded_length (length s.bytes)) (λ s. 12 * length s.relocs) (λ s. refl) (λ t e. rela-content e.1.relocs) part_content
    (λ s. ap (λ n. padded_length (length s.bytes) + n) (none (length s.relocs))) ss
  where
    none : (n : ℕ) → cond (ltb 0 n) (12 * n) 0 ≡ 12 * n
    none n = by (ltb 0 n) refl
      where
        by : (b : Bool) → ltb 0 n ≡ b → cond b (12 * n) 0 ≡ 12 * n
        by true is = refl
        by false is = omega (arith, ltb-false 0 n is)

name-sum : (ss : List SectionParts) → sum_by name_size (names_of_sections (given_sections ss ++ rela_sections ss)) ≡ sum_by part_names ss
name-sum ss =
    sum-map name_size (λ (f : FileSection). f.name) (given_sections ss ++ rela_sections ss)
    ∙ both-sum (λ f. name_size f.name) (λ s. name_size s.name) (λ s. 6 + length s.name) (λ s. refl) (λ t e. rela-name e.1.name) part_names (λ s. refl) ss

-- ---- the file

length-shstrtab : (ss : List SectionParts) → length (name_table (shstrtab_names ss)) ≡ 27 + sum_by part_names ss
length-shstrtab ss =
    let front = names_of_sections (given_sections ss ++ rela_sections ss) in
    let added = codes ".symtab" ∷ codes ".strtab" ∷ codes ".shstrtab" ∷ [] in
    let tables : sum_by name_size added ≡ 26 = refl in
    omega (arith, length-names (shstrtab_names ss), sum_by-append name_size front added, tables, name-sum ss)

length-strtab : (ys : List SymbolParts) → length (name_table (strtab_names ys)) ≡ 1 + symbols_room ys
length-strtab ys = length-names (strtab_names ys) ∙ ap (λ n. 1 + n) (sum-map name_size (λ (s : SymbolParts). s.name) ys)

abbrev tables : List SectionParts → List SymbolParts → List FileSection
tables ss ys =
    symtab_section (symtab_index ss) ys ∷ strtab_section (codes ".strtab") (strtab_names ys) ∷ strtab_section (codes ".shstrtab") (shstrtab_names ss) ∷ []

-- the sections of the file: those with contents of the parts, and the three tables
in-turn : (ss : List SectionParts) (ys : List SymbolParts) → file_sections ss ys ≡ (given_sections ss ++ rela_sections ss) ++ tables ss ys
unfolding file_sections added_sections
in-turn ss ys = sym (append_assoc (given_sections ss) (rela_sections ss) (tables ss ys))

length-tables : (ss : List SectionParts) (ys : List SymbolParts) → length (contents (tables ss ys)) ≡ 16 * (1 + length ys) + padded_length (1 + symbols_room ys) + padded_length (27 + sum_by part_names ss)
length-tables ss ys =
    length-contents (tables ss ys)
    ∙ (λ i. 0 + symtab i + padded_length (length-strtab ys i) + padded_length (length-shstrtab ss i))
    ∙ sum (16 * (1 + length ys)) (padded_length (1 + symbols_room ys)) (padded_length (27 + sum_by part_names ss))
  where
    symtab : padded_length (length (symtab_section (symtab_index ss) ys).content) ≡ 16 * (1 + length ys)
    symtab = ap padded_length (length-symbols ys) ∙ whole (length ys)
      where
        whole : (n : ℕ) → padded_length (16 * (1 + n)) ≡ 16 * (1 + n)
        whole n = let none : 16 * (1 + n) % 4 ≡ 0 = omega arith in omega (arith, none)

    sum : (a b c : ℕ) → 0 + a + b + c ≡ a + b + c
    sum a b c = omega arith

whole-contents : (ss : List SectionParts) (ys : List SymbolParts)
    → length (contents (file_sections ss ys)) ≡ sum_by part_content ss + (16 * (1 + length ys) + padded_length (1 + symbols_room ys) + padded_length (27 + sum_by part_names ss))
whole-contents ss ys =
    ap (λ l. length (contents l)) (in-turn ss ys) ∙ contents_within (given_sections ss ++ rela_sections ss) (tables ss ys)
    ∙ ap₂ (λ a b. a + b) (content-sum ss) (length-tables ss ys)

-- the number of headers, with that of section 0
pub total-is : (parts : ObjectParts) → section_total parts ≡ room_total (parts_room parts.sections)
total-is parts =
    let front = given_sections parts.sections ++ rela_sections parts.sections in
    omega (arith, ap length (in-turn parts.sections parts.symbols), length-append front (tables parts.sections parts.symbols), header-sum parts.sections)

-- the length of the file
pub size-is : (parts : ObjectParts) → object_size parts ≡ room_size (parts_room parts.sections) (length parts.symbols) (symbols_room parts.symbols)
size-is parts =
    (λ i. 52 + whole-contents parts.sections parts.symbols i + 40 * total-is parts i)
    ∙ sum (sum_by part_content parts.sections) (16 * (1 + length parts.symbols)) (padded_length (1 + symbols_room parts.symbols)) (padded_length (27 + sum_by part_names parts.sections)) (40 * (4 + sum_by part_headers parts.sections))
  where
    sum : (a b c d e : ℕ) → 52 + (a + (b + c + d)) + e ≡ 52 + a + b + c + d + e
    sum a b c d e = omega arith

-- a file has no fewer bytes than its sections' contents and names
pub room-within : (parts : ObjectParts) → (parts_room parts.sections).content + (parts_room parts.sections).names ≤ object_size parts
room-within parts = let size = size-is parts in omega (arith, size)

-- a file has no fewer bytes than the names of its symbols
pub names-within : (parts : ObjectParts) → symbols_room parts.symbols ≤ object_size parts
names-within parts = let size = size-is parts in omega (arith, size)

-- ---- sections by their roles

-- whether a section of a role is kept
abbrev pub is_kept_role : SectionRole → Bool
is_kept_role Code = true
is_kept_role (InClass class) = true
is_kept_role Dropped = false

pub kept-by-role : (s : SectionParts) (r : SectionRole) → r ≡ role_of s → is_kept_role r ≡ is_kept_section s
unfolding role_of
kept-by-role s r is = ap is_kept_role is ∙ by (is_kept_section s) (has_flags 4 s.flags)
  where
    by : (k f : Bool) → is_kept_role (cond (k && f) Code (cond k (InClass (class_of s)) Dropped)) ≡ k
    by true true = refl
    by true false = refl
    by false f = refl

-- ---- rooms one after the other

-- the room of a section in the result
abbrev pub room_at : (ℕ → SectionParts → SectionParts) → ℕ → SectionParts → SectionRoom
room_at section i s = cond (is_kept_section s) (part_room (section i s)) (parts_room [])

none-with : (a : SectionRoom) → with_room (parts_room []) a ≡ a
none-with a =
    let headers : 0 + a.headers ≡ a.headers = omega arith in
    let content : 0 + a.content ≡ a.content = omega arith in
    let names : 0 + a.names ≡ a.names = omega arith in
    λ j. record { headers = headers j; content = content j; names = names j }

left-cons : (section : ℕ → SectionParts → SectionParts) (i : ℕ) (s : SectionParts) (ss : List SectionParts) → parts_room (passed_from section i (s ∷ ss)) ≡ with_room (room_at section i s) (parts_room (passed_from section (i + 1) ss))
left-cons section i s ss = by (is_kept_section s)
  where
    rest : List (ℕ × SectionParts)
    rest = filter (λ e. is_kept_section e.1) (enumerate_from (i + 1) ss)

    by : (b : Bool) → parts_room (map (λ e. section e.0 e.1) (cond b ((i, s) ∷ rest) rest)) ≡ with_room (cond b (part_room (section i s)) (parts_room [])) (parts_room (passed_from section (i + 1) ss))
    by false = sym (none-with (parts_room (passed_from section (i + 1) ss)))
    by true =
        let headers = sum_by-cons part_headers (section i s) (passed_from section (i + 1) ss) in
        let content = sum_by-cons part_content (section i s) (passed_from section (i + 1) ss) in
        let names = sum_by-cons part_names (section i s) (passed_from section (i + 1) ss) in
        λ j. record { headers = headers j; content = content j; names = names j }

with-assoc : (a b c : SectionRoom) → with_room a (with_room b c) ≡ with_room (with_room a b) c
with-assoc a b c =
    let headers : a.headers + (b.headers + c.headers) ≡ a.headers + b.headers + c.headers = omega arith in
    let content : a.content + (b.content + c.content) ≡ a.content + b.content + c.content = omega arith in
    let names : a.names + (b.names + c.names) ≡ a.names + b.names + c.names = omega arith in
    λ j. record { headers = headers j; content = content j; names = names j }

with-none : (a : SectionRoom) → with_room a (parts_room []) ≡ a
with-none a =
    let headers : a.headers + 0 ≡ a.headers = omega arith in
    let content : a.content + 0 ≡ a.content = omega arith in
    let names : a.names + 0 ≡ a.names = omega arith in
    λ j. record { headers = headers j; content = content j; names = names j }

-- the room so far, with that of all from this index on, is that of all
abbrev pub IsRoomBefore : (ℕ → SectionParts → SectionParts) → ObjectParts → ℕ → SectionRoom → Type 0
IsRoomBefore section object i room = with_room room (parts_room (passed_from section i (drop i object.sections))) ≡ parts_room (passed_from section 0 object.sections)

pub room-next : (section : ℕ → SectionParts → SectionParts) (object : ObjectParts) (i : ℕ) (s : SectionParts) (room more : SectionRoom) → slice_get object.sections i ≡ Some s → more ≡ room_at section i s
    → IsRoomBefore section object i room → IsRoomBefore section object (i + 1) (with_room room more)
room-next section object i s room more at is so_far =
    ap (λ m. with_room (with_room room m) (parts_room (passed_from section (i + 1) (drop (i + 1) object.sections)))) is
    ∙ sym (with-assoc room (room_at section i s) (parts_room (passed_from section (i + 1) (drop (i + 1) object.sections))))
    ∙ ap (with_room room) (sym (left-cons section i s (drop (i + 1) object.sections)))
    ∙ ap (λ ss. with_room room (parts_room (passed_from section i ss))) (sym (drop-next object.sections i s at))
    ∙ so_far

pub room-end : (section : ℕ → SectionParts → SectionParts) (object : ObjectParts) (i : ℕ) (room : SectionRoom) → length object.sections ≤ i → IsRoomBefore section object i room → room ≡ parts_room (passed_from section 0 object.sections)
room-end section object i room past so_far =
    sym (with-none room) ∙ ap (λ ss. with_room room (parts_room (passed_from section i ss))) (sym (drop_all i object.sections past)) ∙ so_far

-- what is summed so far is no more than all
pub room-below : (section : ℕ → SectionParts → SectionParts) (object : ObjectParts) (i : ℕ) (room : SectionRoom) → IsRoomBefore section object i room
    → room.content + room.names ≤ (parts_room (passed_from section 0 object.sections)).content + (parts_room (passed_from section 0 object.sections)).names
room-below section object i room so_far =
    let content = ap (λ (r : SectionRoom). r.content) so_far in
    let names = ap (λ (r : SectionRoom). r.names) so_far in
    omega (arith, content, names)

-- ---- names and contents of a file

name-short : (table : List ℕ) (at : ℕ) → length (name_at table at) ≤ length table
name-short table at =
    let rest = drop at table in
    omega (arith, length-take (prefix_len (λ byte. not (eqb byte 0)) rest) rest, length-drop at table)

module _ (file : List ℕ) (fine : object_fault file ≡ None) where
  short : length file ≤ 0x40_0000
  short = ltb-false 0x40_0000 (length file) (no_fault file fine).short

  pub section-name-short : (i : ℕ) → length (section_parts file i).name ≤ 0x40_0000
  section-name-short i = omega (arith, short, name-short (section_names file) (header_of file i).name, strings (name_section file))
    where
      strings : (i : ℕ) → length (strings_of file i) ≤ length file
      strings i = by (lacks_strings file i)
        where
          by : (b : Bool) → length (cond b [] (content_of file (header_of file i))) ≤ length file
          by true = omega arith
          by false = content_short file (header_of file i)

  pub section-bytes-short : (i : ℕ) → length (section_parts file i).bytes ≤ 0x40_0000
  section-bytes-short i = omega (arith, short, content_short file (header_of file i))

-- ---- the search

-- no object before this one is too large by itself, the sum is theirs, and the first with which the sum is too large is known
pub record IsSearchedBefore (objects : List ObjectParts) (i sum : ℕ) (passing : Option ℕ) : Type 0 where
  pub none : find (λ e. not (is_small_object e.1)) (enumerate_from 0 objects) ≡ find (λ e. not (is_small_object e.1)) (enumerate_from i (drop i objects))
  pub sum_is : sum ≡ sum_by object_size (take i objects)
  pub found : find (passes_sum objects) (range_with_len 0 (length objects)) ≡ option_or passing (find (passes_sum objects) (range_with_len i (length objects - i)))

-- a file that isn't too large is passed
pub search-next : (objects : List ObjectParts) (i sum : ℕ) (passing next : Option ℕ) (parts : ObjectParts) → slice_get objects i ≡ Some parts → is_small_object parts ≡ true
    → next ≡ option_or passing (cond (ltb 0x200_0000 (sum + object_size parts)) (Some i) None) → IsSearchedBefore objects i sum passing → IsSearchedBefore objects (i + 1) (sum + object_size parts) next
search-next objects i sum passing next parts at small is so_far =
    let within = slice_get_within objects i parts at in
    let some : length objects - i ≡ suc (length objects - (i + 1)) = omega (arith, within) in
    let total : sum + object_size parts ≡ sum_by object_size (take (i + 1) objects) = omega (arith, so_far.sum_is, sum_next object_size objects i parts at) in
    let rest = find (passes_sum objects) (range_with_len (i + 1) (length objects - (i + 1))) in
    record {
      none =
          so_far.none ∙ ap (λ ps. find (λ e. not (is_small_object e.1)) (enumerate_from i ps)) (drop-next objects i parts at)
          ∙ ap (λ b. cond (not b) (Some (i, parts)) (find (λ e. not (is_small_object e.1)) (enumerate_from (i + 1) (drop (i + 1) objects)))) small;
      sum_is = total;
      found =
          so_far.found ∙ ap (λ n. option_or passing (find (passes_sum objects) (range_with_len i n))) some
          ∙ by passing (ltb 0x200_0000 (sum_by object_size (take (i + 1) objects))) rest
          ∙ ap (λ n. option_or (option_or passing (cond (ltb 0x200_0000 n) (Some i) None)) rest) (sym total)
          ∙ ap (λ o. option_or o rest) (sym is);
    }
  where
    by : (o : Option ℕ) (b : Bool) (rest : Option ℕ) → option_or o (cond b (Some i) rest) ≡ option_or (option_or o (cond b (Some i) None)) rest
    by None true rest = refl
    by None false rest = refl
    by (Some x) b rest = refl

-- one that is too large is the answer
pub search-large : (objects : List ObjectParts) (i sum : ℕ) (passing : Option ℕ) (parts : ObjectParts) → slice_get objects i ≡ Some parts → is_small_object parts ≡ false
    → IsSearchedBefore objects i sum passing → Some i ≡ first_oversized objects
search-large objects i sum passing parts at large so_far =
    let first : first_large objects ≡ Some i =
    ap (option_map (λ (e : ℕ × ObjectParts). e.0))
    (so_far.none ∙ ap (λ ps. find (λ e. not (is_small_object e.1)) (enumerate_from i ps)) (drop-next objects i parts at)
    ∙ ap (λ b. cond (not b) (Some (i, parts)) (find (λ e. not (is_small_object e.1)) (enumerate_from (i + 1) (drop (i + 1) objects)))) large) in
    sym (ap (λ o. option_or o (find (passes_sum objects) (range_with_len 0 (length objects)))) first)

-- at the end the sum alone is the answer
pub search-end : (objects : List ObjectParts) (i sum : ℕ) (passing : Option ℕ) → length objects ≤ i → IsSearchedBefore objects i sum passing → passing ≡ first_oversized objects
search-end objects i sum passing past so_far =
    let first : first_large objects ≡ None =
    ap (option_map (λ (e : ℕ × ObjectParts). e.0)) (so_far.none ∙ ap (λ ps. find (λ e. not (is_small_object e.1)) (enumerate_from i ps)) (drop_all i objects past)) in
    let none : length objects - i ≡ 0 = omega (arith, past) in
    by passing ∙ ap (λ n. option_or passing (find (passes_sum objects) (range_with_len i n))) (sym none) ∙ sym so_far.found
    ∙ sym (ap (λ o. option_or o (find (passes_sum objects) (range_with_len 0 (length objects)))) first)
  where
    by : (o : Option ℕ) → o ≡ option_or o None
    by None = refl
    by (Some x) = refl
