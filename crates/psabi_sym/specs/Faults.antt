-- Faults of objects, in the order in which they are looked for: too many objects, one that can't be read, sums that are too
-- large, names that are defined twice or not at all, and data that reach into the stack.
use Rattle.std.specs.Prelude.{ℕ, zero, suc, ◌+◌, ◌*◌, ◌≤◌, ℤ, pos, negsuc, Bool, false, not, ◌&&◌, ◌||◌, ◌==◌, nat_lt, max, if◌then◌else◌, is_none, List, [], ◌∷◌, length, drop, take, Option, Some, None, slice_get}
use Rattle.std.specs.List.{find, list_any, range_with_len, sum_by}
use Rattle.std.specs.Option.{option_map, option_map_or, option_or}
use Rattle.elf32_read.specs.declared.fault.Fault.{Fault}
use Rattle.elf32_read.specs.declared.fault.Fault.TheVariants.{TooLarge, Duplicate, Undefined}
use Rattle.elf32_read.specs.declared.reloc.Reloc.{Reloc}
use Rattle.elf32_read.specs.Object.{object_fault}
use Rattle.elf32_read.specs.Parts.{ObjectParts, SectionParts, SymbolParts, object_parts}
use Rattle.psabi_sym.specs.Data.{data_end, role_of}
use Rattle.psabi_sym.specs.Inputs.{Inputs, ParsedInputs, parsed}
use Rattle.psabi_sym.specs.Indexed.{IndexedSymbol, all_symbols}
use Rattle.psabi_sym.specs.Names.{is_common, is_strong, strong_definition}
use Rattle.psabi_sym.specs.Resolve.{name_definition}
use Rattle.psabi_sym.specs.declared.section_row.SectionRole.{SectionRole}
use Rattle.psabi_sym.specs.declared.section_row.SectionRole.TheVariants.{Code, InClass, Dropped}
use Rattle.psabi_sym.specs.declared.sums.Sums.{Sums}

-- ---- files

-- the most objects that one link takes
abbrev pub most_objects : ℕ
most_objects = 256

-- the fault of too many objects, if there are more
abbrev pub count_fault : List (List ℕ) → Option (ℕ × Fault)
count_fault files = if nat_lt most_objects (length files) then Some (most_objects, TooLarge) else None

-- the first object that can't be read, from the one with this index on, and its first fault
abbrev pub fault_from : ℕ → List (List ℕ) → Option (ℕ × Fault)
fault_from i [] = None
fault_from i (file ∷ files) = option_or (option_map (λ fault. (i, fault)) (object_fault file)) (fault_from (suc i) files)

-- ---- sums

-- the least power of two above a number from 1 to 255
abbrev pub power_above : ℕ → ℕ
power_above n =
    if nat_lt n 2 then 2 else (if nat_lt n 4 then 4 else (if nat_lt n 8 then 8 else (if nat_lt n 16 then 16 else
    (if nat_lt n 32 then 32 else (if nat_lt n 64 then 64 else (if nat_lt n 128 then 128 else 256))))))

-- the room that an ALIGN with this addend may take: it aligns to the power of two above its addend, 256 at most
abbrev pub align_room : ℤ → ℕ
align_room (pos zero) = 256
align_room (pos (suc n)) = if nat_lt n 255 then power_above (suc n) else 256
align_room (negsuc n) = 256

-- the room that a relocation may take in code: that of an ALIGN (43) (RISC-V ELF psABI, "Alignment")
unfoldable pub reloc_room : Reloc → ℕ
reloc_room r = if r.kind == 43 then align_room r.addend else 0

-- the room that n bytes of code count as: those of a compressed object count twice, since an instruction of 2 bytes there may
-- take 4
abbrev pub counted_bytes : Bool → ℕ → ℕ
counted_bytes compressed n = if compressed then 2 * n else n

-- the room that a section may take in code by what it is: its bytes as they count, its alignment of at least 4, and its
-- ALIGNs
abbrev pub room_in_code : SectionParts → SectionRole → ℕ
room_in_code s Code = counted_bytes s.compressed s.size + max 4 s.align + sum_by reloc_room s.relocs
room_in_code s (InClass class) = 0
room_in_code s Dropped = 0

-- the room that a section may take in data by what it is: its bytes, and its alignment, of which 0 counts as 1
abbrev pub room_in_data : SectionParts → SectionRole → ℕ
room_in_data s Code = 0
room_in_data s (InClass class) = s.size + max 1 s.align
room_in_data s Dropped = 0

-- the room that a section may take in code, and in data
abbrev pub code_room : SectionParts → ℕ
code_room s = room_in_code s (role_of s)

abbrev pub data_room : SectionParts → ℕ
data_room s = room_in_data s (role_of s)

-- the room that a symbol may take in data: a common one's size, and its alignment, which is its value
abbrev pub common_room : SymbolParts → ℕ
common_room s = if is_common s then s.size + max 1 s.value else 0

-- the room of an object in code, and in data; symbol 0 stands for none
abbrev pub object_code : ObjectParts → ℕ
object_code object = sum_by code_room object.sections

abbrev pub object_data : ObjectParts → ℕ
object_data object = sum_by data_room object.sections + sum_by common_room (drop 1 object.symbols)

-- the sums over files
abbrev pub sums_of : List (List ℕ) → Sums
sums_of files = record {
  file_bytes = sum_by length files;
  code_room = sum_by (λ f. object_code (object_parts f)) files;
  data_room = sum_by (λ f. object_data (object_parts f)) files;
}

-- sums with one more file
abbrev pub with_object : Sums → List ℕ → Sums
with_object s file = record {
  file_bytes = s.file_bytes + length file;
  code_room = s.code_room + object_code (object_parts file);
  data_room = s.data_room + object_data (object_parts file);
}

-- each of them is at most a number
pub record AreAtMost (most : ℕ) (s : Sums) : Type 0 where
  pub file_bytes : s.file_bytes ≤ most
  pub code_room : s.code_room ≤ most
  pub data_room : s.data_room ≤ most

-- the files have more than 32 MiB, or their code has room of more than 256 KiB, or their data, with 16 bytes for each of six
-- classes, of more than 4 MiB
abbrev pub are_too_large : Sums → Bool
are_too_large s = nat_lt 0x200_0000 s.file_bytes || nat_lt 0x4_0000 s.code_room || nat_lt 0x40_0000 (s.data_room + 96)

-- the first object with which the sums are too large
unfoldable pub sum_fault : List (List ℕ) → Option (ℕ × Fault)
sum_fault files =
    option_map (λ i. (i, TooLarge)) (find (λ i. are_too_large (sums_of (take (i + 1) files))) (range_with_len 0 (length files)))

-- ---- names

-- two symbols stand at one place
abbrev pub same_symbol : IndexedSymbol → IndexedSymbol → Bool
same_symbol first second = first.object == second.object && first.index == second.index

-- a strong definition of a name that an earlier symbol defines strongly
abbrev pub is_second : List ObjectParts → IndexedSymbol → Bool
is_second objects l =
    is_strong l.symbol && option_map_or (λ first. not (same_symbol first l)) (strong_definition objects l.symbol.name) false

-- the fault of the first such symbol
unfoldable pub duplicate_fault : List ObjectParts → Option (ℕ × Fault)
duplicate_fault objects = option_map (λ l. (l.object, Duplicate l.index)) (find (is_second objects) (all_symbols objects))

-- a relocation names the symbol with this index
abbrev pub names : ℕ → List Reloc → Bool
names symbol relocs = list_any (λ r. r.symbol == symbol) relocs

-- a relocation of the object names the symbol with this index
abbrev pub is_used_in : ObjectParts → ℕ → Bool
is_used_in object symbol = list_any (λ s. names symbol s.relocs) object.sections

-- a relocation of the symbol's object names the symbol
unfoldable pub is_used : List ObjectParts → IndexedSymbol → Bool
is_used objects l = option_map_or (λ object. is_used_in object l.index) (slice_get objects l.object) false

-- a global (1) symbol that is undefined (0), is used, and that nothing defines
abbrev pub is_missing : ParsedInputs → IndexedSymbol → Bool
is_missing inputs l =
    l.symbol.bind == 1 && l.symbol.home == 0 && is_used inputs.objects l && is_none (name_definition inputs l.symbol.name)

-- the fault of the first such symbol
unfoldable pub undefined_fault : ParsedInputs → Option (ℕ × Fault)
undefined_fault inputs = option_map (λ l. (l.object, Undefined l.index)) (find (is_missing inputs) (all_symbols inputs.objects))

-- ---- room

-- data that end above the stack's low end are too large, whichever object they are of
unfoldable pub room_fault : ParsedInputs → Option (ℕ × Fault)
room_fault inputs = if nat_lt inputs.map.stack_low (data_end inputs) then Some (0, TooLarge) else None

-- ---- the first fault

-- the first `Some` of a list
abbrev pub first_some : {A : Type 0} → List (Option A) → Option A
first_some [] = None
first_some (o ∷ os) = option_or o (first_some os)

-- the first fault of names
abbrev pub name_fault : ParsedInputs → Option (ℕ × Fault)
name_fault inputs = first_some (duplicate_fault inputs.objects ∷ undefined_fault inputs ∷ [])

-- the first fault of inputs, with its object's index, or none
unfoldable pub gather_fault : Inputs → Option (ℕ × Fault)
gather_fault inputs = first_some (
    count_fault inputs.files ∷ fault_from 0 inputs.files ∷ sum_fault inputs.files ∷ name_fault (parsed inputs)
    ∷ room_fault (parsed inputs) ∷ [])
