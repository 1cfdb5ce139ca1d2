-- The table holds the sections of each stage, which are the first of all sections.
use Rattle.std.proofs.Common.{◌≡◌, ℕ, ◌+◌, ◌++◌, [], ◌∷◌, List, length, map, codes, sym, ap, ◌∙◌, arith, rules}
use Rattle.std.specs.List.{flat_map}
use Rattle.elf32_read.specs.Parts.{SectionParts, SymbolParts}
use Rattle.elf32_write.specs.Entries.{after_locals, strtab_names, symbol_bytes, written_entries}
use Rattle.elf32_write.specs.FileSections.{FileSection, given_sections, rela_section, relocated, strtab_section, symtab_index, symtab_section}
use Rattle.elf32_write.specs.NameTable.{name_table}
use Rattle.elf32_write.specs.SectionTable.{HoldsSections, with_names, with_relas, with_symbols}
use Rattle.elf32_write.specs.declared.section_table.SectionTable.{SectionTable}
use Rattle.elf32_write.proofs.Room.{room_offsets}
use Rattle.elf32_write.proofs.Stages.{length-file_sections, length-symbols, room_given_stage, room_relas_stage, room_strtab_names, room_symbols, room_symbols_stage}
use Rattle.elf32_write.proofs.write_object.sections_before_names.Goals as goal

pub overflow_cast-symtab : goal.overflow_cast-symtab
overflow_cast-symtab c = omega (arith, c.requires.count, length-file_sections c.args.sections.now c.args.symbols.now)

pub overflow_add-symtab : goal.overflow_add-symtab
overflow_add-symtab c = omega (arith, c.requires.count, length-file_sections c.args.sections.now c.args.symbols.now)

pub overflow_cast-symtab-2 : goal.overflow_cast-symtab-2
overflow_cast-symtab-2 c = omega (arith, c.requires.count, c.relocated_count.ensures.count, length-file_sections c.args.sections.now c.args.symbols.now)

pub overflow_add-symtab-2 : goal.overflow_add-symtab-2
overflow_add-symtab-2 c = omega (arith, c.requires.count, c.relocated_count.ensures.count, length-file_sections c.args.sections.now c.args.symbols.now)

pub add_given-requires-clause-room : goal.add_given-requires-clause-room
add_given-requires-clause-room c = room_given_stage c.args.sections.now c.args.symbols.now c.requires.room

pub add_relas-requires-clause-count : goal.add_relas-requires-clause-count
add_relas-requires-clause-count c = omega (arith, c.requires.count, length-file_sections c.args.sections.now c.args.symbols.now)

pub add_relas-requires-clause-room : goal.add_relas-requires-clause-room
unfolding with_relas
add_relas-requires-clause-room c = rw c.relocated_count.ensures.count (room_relas_stage c.args.sections.now c.args.symbols.now c.requires.room)

pub symbol_table-requires-clause-names : goal.symbol_table-requires-clause-names
symbol_table-requires-clause-names c = room_strtab_names c.args.sections.now c.args.symbols.now c.requires.room

pub overflow_cast-symtab_header : goal.overflow_cast-symtab_header
overflow_cast-symtab_header c =
    let long : c.len.result ≡ length c.in_ok-written.written.entries.items = search rules in
    omega (arith, long, ap length c.in_ok-written.ensures.entries, room_symbols c.args.sections.now c.args.symbols.now c.requires.room)

pub overflow_add-symtab_header : goal.overflow_add-symtab_header
overflow_add-symtab_header c = omega (arith, c.requires.count, c.relocated_count.ensures.count, length-file_sections c.args.sections.now c.args.symbols.now)

pub overflow_cast-symtab_header-2 : goal.overflow_cast-symtab_header-2
overflow_cast-symtab_header-2 c =
    omega (arith, c.after_locals.ensures.most, length-symbols c.args.symbols.now, room_symbols c.args.sections.now c.args.symbols.now c.requires.room)

-- ---- the stages

relas_held : (xs : List SectionParts) (count : ℕ) (table : SectionTable) → count ≡ length (relocated xs) → HoldsSections (given_sections xs ++ map (rela_section (1 + length xs + count)) (relocated xs)) table → HoldsSections (with_relas xs) table
unfolding with_relas
relas_held xs count table e held = rw (sym e) held

-- the symbols, with a header whose numbers are theirs
symbols_held : (xs : List SectionParts) (ys : List SymbolParts) (count size info : ℕ) (content : List ℕ) (table : SectionTable) → count ≡ length (relocated xs) → size ≡ length content → info ≡ after_locals ys → content ≡ flat_map symbol_bytes (written_entries ys) → HoldsSections (with_relas xs ++ record { name = codes ".symtab"; kind = 2; flags = 0; size = size; link = 1 + length xs + count + 1; info = info; align = 4; entry_size = 16; content = content } ∷ []) table → HoldsSections (with_symbols xs ys) table
unfolding with_symbols
symbols_held xs ys count size info content table counted sized last whole held =
    let section : (record { name = codes ".symtab"; kind = 2; flags = 0; size = size; link = 1 + length xs + count + 1; info = info; align = 4; entry_size = 16; content = content }) ≡ symtab_section (symtab_index xs) ys =
    λ i. record { name = codes ".symtab"; kind = 2; flags = 0; size = (sized ∙ ap length whole) i; link = 1 + length xs + counted i + 1; info = last i; align = 4; entry_size = 16; content = whole i } in
    rw (sym section) held

-- a table of names, with a header whose size is its own
names_held : (before : List FileSection) (name : List ℕ) (names : List (List ℕ)) (size : ℕ) (content : List ℕ) (table : SectionTable) → size ≡ length content → content ≡ name_table names → HoldsSections (before ++ record { name = name; kind = 3; flags = 0; size = size; link = 0; info = 0; align = 1; entry_size = 0; content = content } ∷ []) table → HoldsSections (before ++ strtab_section name names ∷ []) table
names_held before name names size content table sized whole held =
    let section : (record { name = name; kind = 3; flags = 0; size = size; link = 0; info = 0; align = 1; entry_size = 0; content = content }) ≡ strtab_section name names =
    λ i. record { name = name; kind = 3; flags = 0; size = (sized ∙ ap length whole) i; link = 0; info = 0; align = 1; entry_size = 0; content = whole i } in
    rw (sym section) held

pub add-requires-clause-room : goal.add-requires-clause-room
add-requires-clause-room c =
    let xs = c.args.sections.now in
    room_offsets (with_relas xs) _ (relas_held xs c.relocated_count.result _ c.relocated_count.ensures.count c.in_ok-add_relas.ensures.held) (room_relas_stage xs c.args.symbols.now c.requires.room)

pub overflow_cast-strtab_header : goal.overflow_cast-strtab_header
overflow_cast-strtab_header c =
    let long : c.len-2.result ≡ length c.in_ok-written.written.names.items = search rules in
    omega (arith, long, ap length c.in_ok-written.ensures.names, room_strtab_names c.args.sections.now c.args.symbols.now c.requires.room)

pub add-requires-2-clause-room : goal.add-requires-2-clause-room
add-requires-2-clause-room c =
    let xs = c.args.sections.now in
    let ys = c.args.symbols.now in
    let relas = relas_held xs c.relocated_count.result _ c.relocated_count.ensures.count c.in_ok-add_relas.ensures.held in
    let content = c.deref.ensures.value ∙ c.in_ok-written.ensures.entries in
    let long : c.len.result ≡ length c.deref.result.now = search rules in
    let symbols = symbols_held xs ys c.relocated_count.result c.len.result c.after_locals.result c.deref.result.now _ c.relocated_count.ensures.count long c.after_locals.ensures.index content (c.in_ok-add.ensures.held (with_relas xs) relas) in
    room_offsets (with_symbols xs ys) _ symbols (room_symbols_stage xs ys c.requires.room)

pub returns-clause-held : goal.returns-clause-held
unfolding with_names
returns-clause-held c =
    let xs = c.args.sections.now in
    let ys = c.args.symbols.now in
    let relas = relas_held xs c.relocated_count.result _ c.relocated_count.ensures.count c.in_ok-add_relas.ensures.held in
    let content = c.deref.ensures.value ∙ c.in_ok-written.ensures.entries in
    let long : c.len.result ≡ length c.deref.result.now = search rules in
    let symbols = symbols_held xs ys c.relocated_count.result c.len.result c.after_locals.result c.deref.result.now _ c.relocated_count.ensures.count long c.after_locals.ensures.index content (c.in_ok-add.ensures.held (with_relas xs) relas) in
    let content-2 = c.deref-2.ensures.value ∙ c.in_ok-written.ensures.names in
    let long-2 : c.len-2.result ≡ length c.deref-2.result.now = search rules in
    names_held (with_symbols xs ys) (codes ".strtab") (strtab_names ys) c.len-2.result c.deref-2.result.now _ long-2 content-2 (c.in_ok-add-2.ensures.held (with_symbols xs ys) symbols)
