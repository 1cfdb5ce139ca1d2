-- Where data lies in memory: sections by class, then common symbols. Code has no part in it.
use Rattle.std.specs.Prelude.{ℕ, Bool, true, false, not, ◌&&◌, ◌||◌, ◌==◌, nat_eq, max, if◌then◌else◌, is_none, List, ◌++◌, map, filter, codes, Option, Some, None}
use Rattle.std.specs.List.{find, fold, starts_with}
use Rattle.std.specs.Option.{option_and_then, option_map, option_map_or}
use Rattle.elf32_read.specs.Kept.{has_flags}
use Rattle.elf32_read.specs.Parts.{ObjectParts, SectionParts, is_code_section, is_kept_section}
use Rattle.psabi_sym.specs.Blocks.{aligned_up, end_from, placed_from}
use Rattle.psabi_sym.specs.Classes.{classes_before, same_class}
use Rattle.psabi_sym.specs.Inputs.{ParsedInputs}
use Rattle.psabi_sym.specs.Indexed.{IndexedSection, IndexedSymbol, all_sections, all_symbols, section_at, sections_before}
use Rattle.psabi_sym.specs.Names.{firsts, is_common, same_name, strong_definition}
use Rattle.psabi_sym.specs.declared.block.Block.{Block}
use Rattle.psabi_sym.specs.declared.data_class.DataClass.{DataClass}
use Rattle.psabi_sym.specs.declared.data_class.DataClass.TheVariants.{ReadOnly, Data, SmallData, SmallZero, Zero, Common}
use Rattle.psabi_sym.specs.declared.section_row.SectionRole.{SectionRole}
use Rattle.psabi_sym.specs.declared.section_row.SectionRole.TheVariants.{Code, InClass, Dropped}

-- ---- classes

-- the name of a section is this one, or begins with it and a dot
abbrev pub is_of_kin : List ℕ → List ℕ → Bool
is_of_kin base name = same_name name base || starts_with nat_eq name (base ++ codes ".")

-- the class of a section of data: NOBITS (8) is zero, and without WRITE (1) the rest is read only
abbrev pub class_of : SectionParts → DataClass
class_of s =
    if s.kind == 8 then (if is_of_kin (codes ".sbss") s.name then SmallZero else Zero)
    else (if not (has_flags 1 s.flags) then ReadOnly else (if is_of_kin (codes ".sdata") s.name then SmallData else Data))

-- what a section is: code, or else data if it is kept, and dropped if it isn't
unfoldable pub role_of : SectionParts → SectionRole
role_of s = if is_code_section s then Code else (if is_kept_section s then InClass (class_of s) else Dropped)

-- data of this class
abbrev pub has_class : DataClass → SectionRole → Bool
has_class class Code = false
has_class class (InClass own) = same_class own class
has_class class Dropped = false

-- code
abbrev pub is_code_role : SectionRole → Bool
is_code_role Code = true
is_code_role (InClass class) = false
is_code_role Dropped = false

-- ---- what takes room

-- what these sections of a class take, in order
abbrev pub blocks_in : DataClass → List IndexedSection → List Block
blocks_in class sections =
    map (λ l. record { align = l.section.align; size = l.section.size }) (filter (λ l. has_class class (role_of l.section)) sections)

-- the common symbols that take room, the first of each name in order: no strong definition has its name
unfoldable pub commons_placed : List ObjectParts → List IndexedSymbol
commons_placed objects =
    firsts (filter (λ l. is_common l.symbol && is_none (strong_definition objects l.symbol.name)) (all_symbols objects))

-- the room of a symbol's name: the greatest alignment, which is the value, and the greatest size of the name's common symbols
abbrev pub common_block : List ObjectParts → IndexedSymbol → Block
common_block objects l = let same = filter (λ m. is_common m.symbol && same_name m.symbol.name l.symbol.name) (all_symbols objects) in record {
  align = fold max 0 (map (λ m. max 1 m.symbol.value) same);
  size = fold max 0 (map (λ m. m.symbol.size) same);
}

-- all that a class has
abbrev pub blocks_of : List ObjectParts → DataClass → List Block
blocks_of objects ReadOnly = blocks_in ReadOnly (all_sections objects)
blocks_of objects Data = blocks_in Data (all_sections objects)
blocks_of objects SmallData = blocks_in SmallData (all_sections objects)
blocks_of objects SmallZero = blocks_in SmallZero (all_sections objects)
blocks_of objects Zero = blocks_in Zero (all_sections objects)
blocks_of objects Common = map (common_block objects) (commons_placed objects)

-- ---- addresses

-- where a class begins: at a multiple of 16, as do those before it
unfoldable pub class_start : ParsedInputs → DataClass → ℕ
class_start inputs class =
    aligned_up 16 (fold (λ at before. end_from (aligned_up 16 at) (blocks_of inputs.objects before)) inputs.map.data_low (classes_before class))

-- where a class ends
unfoldable pub class_end : ParsedInputs → DataClass → ℕ
class_end inputs class = end_from (class_start inputs class) (blocks_of inputs.objects class)

-- where a section of a class begins: after those of its class that come before it
abbrev pub address_in : ParsedInputs → ℕ → ℕ → SectionParts → DataClass → ℕ
address_in inputs o i s class =
    aligned_up s.align (end_from (class_start inputs class) (blocks_in class (sections_before inputs.objects o i)))

-- the address of a section, by its role: code and what is dropped have none
abbrev pub role_address : ParsedInputs → ℕ → ℕ → SectionParts → SectionRole → Option ℕ
role_address inputs o i s Code = None
role_address inputs o i s (InClass class) = Some (address_in inputs o i s class)
role_address inputs o i s Dropped = None

-- the address of a section of data, by its object's index and its own
unfoldable pub data_address : ParsedInputs → ℕ → ℕ → Option ℕ
data_address inputs o i = option_and_then (λ s. role_address inputs o i s (role_of s)) (section_at inputs.objects o i)

-- the address of a name that is common: that of the symbol of this name that takes room
unfoldable pub common_address : ParsedInputs → List ℕ → Option ℕ
common_address inputs name =
    let placed = placed_from (common_block inputs.objects) (class_start inputs Common) (commons_placed inputs.objects) in
    option_map (λ e. e.1) (find (λ e. same_name e.0.symbol.name name) placed)

-- a section is code, by its object's index and its own
abbrev pub is_code_at : List ObjectParts → ℕ → ℕ → Bool
is_code_at objects o i = option_map_or is_code_section (section_at objects o i) false

-- where the data ends whose bytes a file holds
abbrev pub data_file_end : ParsedInputs → ℕ
data_file_end inputs = class_end inputs SmallData

-- where all data ends
abbrev pub data_end : ParsedInputs → ℕ
data_end inputs = class_end inputs Common
