-- The pieces of code: the padding before each section of it, and what is written for its items, each with the forms that
-- it has (RISC-V unprivileged manual, "C Extension for Compressed Instructions"; RISC-V Zc specification 1.0, "Zcb",
-- "Zcmp" and "Zcmt").
use Rattle.std.specs.Prelude.{ℕ, pos, ◌+◌, Bool, true, false, ◌==◌, ◌||◌, nat_lt, nat_le, if◌then◌else◌, List, [], ◌∷◌, length, map, max, not, slice_index, ◌&&◌, Option, Some, None}
use Rattle.std.specs.List.{flat_map, list_any, sum_by}
use Rattle.std.specs.Option.{is_some, option_and_then, option_map_or}
use Rattle.zc_base.specs.declared.extensions.Extensions.{Extensions}
use Rattle.zc_base.specs.declared.place.Place.{Place}
use Rattle.elf32_read.specs.Parts.{ObjectParts, SectionParts, is_code_section}
use Rattle.psabi_reloc.specs.Parts.{hi20_of, lo12_of}
use Rattle.psabi_reloc.specs.Patched.{with_imm, with_upper}
use Rattle.psabi_sym.specs.Faults.{power_above}
use Rattle.psabi_sym.specs.Fixed.{is_fixed_at}
use Rattle.psabi_sym.specs.Inputs.{ParsedInputs}
use Rattle.psabi_sym.specs.Indexed.{IndexedSection, all_sections, sections_before}
use Rattle.psabi_sym.specs.declared.target.Target.{Target}
use Rattle.psabi_sym.specs.declared.target.Target.TheVariants.{Code, Number, Absent, Nowhere}
use Rattle.rv_decode.specs.declared.instr.BranchOp.{BranchOp}
use Rattle.rv_decode.specs.declared.instr.Instr.{Instr}
use Rattle.rv_decode.specs.declared.instr.Instr.TheVariants as instr
use Rattle.zc_decode.specs.Extensions.{has_half}
use Rattle.zc_decode.specs.declared.short.Short.TheVariants.{Base}
use Rattle.zc_encode.specs.Halves.{encoded16}
use Rattle.block_cut.specs.Items.{all_items, code_at, index_on, is_target_at, item_at, places_of, size_at, starts_in}
use Rattle.block_cut.specs.declared.item.Item.{Item}
use Rattle.block_cut.specs.declared.item.Item.TheVariants as item
use Rattle.frame_match.specs.declared.group.Group.{Group}
use Rattle.shrink_layout.specs.Layout.{sizes_of}
use Rattle.shrink_layout.specs.Units.{CodeUnit, OneGroup, OneItem, OneSite, front_size, jump_of, no_slot, rest_instr, slot_for, unit_by}
use Rattle.shrink_layout.specs.declared.piece.Piece.{Piece}
use Rattle.shrink_layout.specs.declared.piece.Piece.TheVariants.{Fixed, WithOthers, Align, Branch, Jump}

-- ---- where places stand in the list

-- a section's pieces: its padding and its items; what isn't code has none
abbrev pub piece_count : IndexedSection → ℕ
piece_count l = if is_code_section l.section then 1 + length (starts_in l.section) else 0

-- the number of pieces before an offset of a section, which is given by its object's index and its own: the table with its stub,
-- the sections before it, its padding, and the items before the offset
abbrev pub pieces_before : List ObjectParts → ℕ → ℕ → SectionParts → ℕ → ℕ
pieces_before objects o i s n = 1 + sum_by piece_count (sections_before objects o i) + 1 + index_on s n

-- the number of pieces before a place where an item starts or a section of code ends; 0 for any other place
abbrev pub piece_number_at : List ObjectParts → Place → ℕ
piece_number_at objects q =
    if is_target_at objects q
    then option_map_or (λ s. pieces_before objects q.object q.section s q.offset) (code_at objects q) 0
    else 0

-- ---- forms

-- an instruction has a short form
abbrev pub is_short : Instr → Bool
is_short i = is_some (encoded16 (Base i))

-- a branch on two registers, and a `jal`, has a short form if its target isn't too far
abbrev pub is_short_branch : BranchOp → ℕ → ℕ → Bool
is_short_branch op first second = is_short (instr.Branch op first second (pos 0))

abbrev pub is_short_jump : ℕ → Bool
is_short_jump rd = is_short (instr.Jal rd (pos 0))

-- an instruction has a short form that a chip with these extensions has
abbrev pub is_short_on : Extensions → Instr → Bool
is_short_on extensions i = option_map_or (has_half extensions) (encoded16 (Base i)) false

-- the size of an instruction whose immediate doesn't depend on the layout, on a chip with these extensions
abbrev pub instr_size_on : Extensions → Instr → ℕ
instr_size_on extensions i = if is_short_on extensions i then 2 else 4

-- the same for an instruction whose short form every chip has, such as one that moves sp
abbrev pub instr_size : Instr → ℕ
instr_size i = if is_short i then 2 else 4

-- the size of an instruction with a part of an address; the addresses of code aren't known before the layout
abbrev pub part_size : Extensions → Target → (ℕ → Instr) → ℕ
part_size extensions (Code q) patched = 4
part_size extensions (Number n) patched = instr_size_on extensions (patched n)
part_size extensions (Absent n) patched = instr_size_on extensions (patched n)
part_size extensions Nowhere patched = 4

-- the piece of a jump to a place, by whether it has a short form
abbrev pub jump_piece : List ObjectParts → Place → Bool → Piece
jump_piece objects to true = Jump (piece_number_at objects to)
jump_piece objects to false = Fixed 4

-- the piece of an item; a call is one jump
abbrev pub piece_of : ParsedInputs → Item → Piece
piece_of inputs (item.Op i) = Fixed (instr_size_on inputs.map.extensions i)
piece_of inputs (item.Hi i t) = Fixed (part_size inputs.map.extensions t (λ x. with_upper i (hi20_of x)))
piece_of inputs (item.Lo i t) = Fixed (part_size inputs.map.extensions t (λ x. with_imm i (lo12_of x)))
piece_of inputs (item.PcHi i t) = Fixed 4
piece_of inputs (item.PcLo i q) = Fixed 4
piece_of inputs (item.Branch op first second to) =
    Branch (piece_number_at inputs.objects to) (is_short_branch op first second)
piece_of inputs (item.Jump rd to) = jump_piece inputs.objects to (is_short_jump rd)
piece_of inputs (item.Call rd temp to) = jump_piece inputs.objects to (is_short_jump rd)
piece_of inputs (item.Align bytes) = Align (power_above bytes)
piece_of inputs (item.Word t) = Fixed 4
piece_of inputs (item.Raw word) = Fixed 4
piece_of inputs (item.RawShort half) = Fixed 2
piece_of inputs (item.RawPair first second) = Fixed 8

-- the piece of an item of a fixed section that has `own` bytes in its object: it keeps them. A branch or a jump is still a
-- piece that leads somewhere, but begins with the form that it has in the object
abbrev pub kept_piece : ParsedInputs → ℕ → Item → Piece
kept_piece inputs own (item.Op i) = Fixed own
kept_piece inputs own (item.Hi i t) = Fixed 4
kept_piece inputs own (item.Lo i t) = Fixed 4
kept_piece inputs own (item.PcHi i t) = Fixed 4
kept_piece inputs own (item.PcLo i q) = Fixed 4
kept_piece inputs own (item.Branch op first second to) =
    Branch (piece_number_at inputs.objects to) (own == 2 && is_short_branch op first second)
kept_piece inputs own (item.Jump rd to) = jump_piece inputs.objects to (own == 2 && is_short_jump rd)
kept_piece inputs own (item.Call rd temp to) = Fixed 8
kept_piece inputs own (item.Align bytes) = Align (power_above bytes)
kept_piece inputs own (item.Word t) = Fixed 4
kept_piece inputs own (item.Raw word) = Fixed 4
kept_piece inputs own (item.RawShort half) = Fixed 2
kept_piece inputs own (item.RawPair first second) = Fixed 8

-- the piece of the item at a place
abbrev pub item_piece_at : ParsedInputs → Place → Item → Piece
item_piece_at inputs q i =
    if is_fixed_at inputs q.object q.section then kept_piece inputs (size_at inputs.objects q) i else piece_of inputs i

-- the size of a group: a halfword, and the instruction that moves sp by the rest of its frame
abbrev pub group_size : Group → ℕ
group_size g = if g.rest == 0 then 2 else 2 + instr_size (rest_instr g)

-- the piece of what is written at a place; inside a group nothing is, and the piece takes no bytes
abbrev pub unit_piece : ParsedInputs → Place → Option CodeUnit → Piece
unit_piece inputs q None = WithOthers 0
unit_piece inputs q (Some (OneItem i)) = item_piece_at inputs q i
unit_piece inputs q (Some (OneGroup g)) = WithOthers (group_size g)
unit_piece inputs q (Some (OneSite slot)) = WithOthers 2

-- the piece at a place, if jumps and calls have these slots
abbrev pub piece_at : ParsedInputs → (Place → Option ℕ) → Place → Piece
piece_at inputs slot q = unit_piece inputs q (unit_by inputs slot q)

-- ---- all pieces

-- the alignment of what has this one in its object: up to 4 it is that of instructions, which may take 2 bytes now; a fixed
-- section keeps its own, and is aligned to 4 at least
abbrev pub alignment_of : Bool → ℕ → ℕ
alignment_of true align = max 4 align
alignment_of false align = if nat_le align 4 then 2 else align

-- the alignment of the padding before a section
abbrev pub section_alignment : ParsedInputs → IndexedSection → ℕ
section_alignment inputs l = alignment_of (is_fixed_at inputs l.object l.index) l.section.align

-- a section's pieces
abbrev pub section_pieces : ParsedInputs → (Place → Option ℕ) → IndexedSection → List Piece
section_pieces inputs slot l =
    if is_code_section l.section
    then Align (section_alignment inputs l) ∷ map (piece_at inputs slot) (places_of l)
    else []

-- the pieces of sections, one after another
abbrev pub pieces_in : ParsedInputs → (Place → Option ℕ) → List IndexedSection → List Piece
pieces_in inputs slot sections = flat_map (section_pieces inputs slot) sections

-- the pieces of all code, by object, section and offset, after `front` bytes for the table and its stub
unfoldable pub pieces_by : ParsedInputs → ℕ → (Place → Option ℕ) → List Piece
pieces_by inputs front slot = Fixed front ∷ pieces_in inputs slot (all_sections inputs.objects)

-- ---- slots

-- the sizes of the layout without a table
unfoldable pub first_sizes : ParsedInputs → List ℕ
first_sizes inputs = sizes_of inputs.map.text (pieces_by inputs 0 no_slot)

-- a jump or call that the table could serve: it takes four bytes without one, and links no register or ra
abbrev pub site_only : ℕ → ℕ × Place → Option (ℕ × Place)
site_only size jump = if size == 4 && nat_lt jump.0 2 then Some jump else None

-- the jump or call at a place that a table could serve; a fixed section has none
unfoldable pub site_at : ParsedInputs → Place → Option (ℕ × Place)
site_at inputs q =
    if is_fixed_at inputs q.object q.section
    then None
    else option_and_then (site_only (slice_index (first_sizes inputs) (piece_number_at inputs.objects q)))
    (option_and_then jump_of (item_at inputs q))

-- the slot of the jump or call at a place; without slots none has one
unfoldable pub slot_at : ParsedInputs → List (Option Place) → Place → Option ℕ
slot_at inputs [] q = None
slot_at inputs (slot ∷ slots) q = option_and_then (slot_for (slot ∷ slots)) (site_at inputs q)

-- ---- a layout

-- what is written at a place with a table of these slots
abbrev pub unit_at : ParsedInputs → List (Option Place) → Place → Option CodeUnit
unit_at inputs slots q = unit_by inputs (slot_at inputs slots) q

-- all pieces with a table of these slots: first the table and its stub
unfoldable pub pieces_of : ParsedInputs → List (Option Place) → List Piece
pieces_of inputs slots = pieces_by inputs (front_size slots) (slot_at inputs slots)

-- ---- alignments

-- an item is padding
abbrev pub is_align : Item → Bool
is_align (item.Op i) = false
is_align (item.Hi i t) = false
is_align (item.Lo i t) = false
is_align (item.PcHi i t) = false
is_align (item.PcLo i q) = false
is_align (item.Branch op first second to) = false
is_align (item.Jump rd to) = false
is_align (item.Call rd temp to) = false
is_align (item.Align bytes) = true
is_align (item.Word t) = false
is_align (item.Raw word) = false
is_align (item.RawShort half) = false
is_align (item.RawPair first second) = false

-- a section is code that is aligned above 4 bytes, or fixed
abbrev pub is_aligned_code : ParsedInputs → IndexedSection → Bool
is_aligned_code inputs l =
    is_code_section l.section && nat_lt 4 l.section.align || is_fixed_at inputs l.object l.index

-- there is no ALIGN, no section of code is aligned above 4 bytes, and none is fixed
abbrev pub is_unaligned : ParsedInputs → Bool
is_unaligned inputs =
    not (list_any is_align (all_items inputs)) && not (list_any (is_aligned_code inputs) (all_sections inputs.objects))
