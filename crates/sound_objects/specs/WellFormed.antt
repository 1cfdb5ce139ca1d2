-- What it takes for objects to have none of the faults, said file by file, section by section and symbol by symbol.
use Rattle.std.specs.Prelude.{◌≡◌, ◌≤◌, ◌+◌, ℕ, true, false, List, length, All, Some, None}
use Rattle.zc_base.specs.declared.place.Place.{Place}
use Rattle.elf32_read.specs.Object.{object_fault}
use Rattle.elf32_read.specs.Parts.{ObjectParts, is_code_section}
use Rattle.psabi_sym.specs.Data.{data_end}
use Rattle.psabi_sym.specs.Faults.{gather_fault, is_used, most_objects, sums_of}
use Rattle.psabi_sym.specs.Indexed.{IndexedSection, IndexedSymbol, section_at, symbol_at}
use Rattle.psabi_sym.specs.Inputs.{Inputs, ParsedInputs, parsed}
use Rattle.psabi_sym.specs.Names.{is_strong}
use Rattle.psabi_sym.specs.Resolve.{Definition, name_definition}
use Rattle.psabi_sym.specs.declared.sums.Sums.{Sums}
use Rattle.block_cut.specs.Faults.{is_out_of_reach, reloc_fault}
use Rattle.block_cut.specs.Items.{entry_in, place_of, starts_on}

-- ---- sums

-- files of at most 32 MiB, code of at most 256 KiB, and data of at most 4 MiB with 16 bytes for each of six classes
pub record AreSmall (sums : Sums) : Type 0 where
  pub file_bytes : sums.file_bytes ≤ 0x200_0000
  pub code_room : sums.code_room ≤ 0x4_0000
  pub data_room : sums.data_room + 96 ≤ 0x40_0000

-- ---- names

-- objects have this symbol; symbol 0 stands for none
pub record HasSymbol (objects : List ObjectParts) (l : IndexedSymbol) : Type 0 where
  pub some : 1 ≤ l.index
  pub there : symbol_at objects l.object l.index ≡ Some l.symbol

-- objects have this symbol, and it is a strong definition
pub record HasStrong (objects : List ObjectParts) (l : IndexedSymbol) : Type 0 where
  pub has : HasSymbol objects l
  pub strong : is_strong l.symbol ≡ true

-- objects have this symbol, and it needs a definition: it is global (1) and undefined (0), and a relocation names it
pub record HasNeeded (objects : List ObjectParts) (l : IndexedSymbol) : Type 0 where
  pub has : HasSymbol objects l
  pub global : l.symbol.bind ≡ 1
  pub undefined : l.symbol.home ≡ 0
  pub used : is_used objects l ≡ true

-- strong definitions of one name are one symbol
abbrev pub AreSingle : List ObjectParts → Type 0
AreSingle objects = (l m : IndexedSymbol) → HasStrong objects l → HasStrong objects m → l.symbol.name ≡ m.symbol.name
    → (l.object ≡ m.object) × (l.index ≡ m.index)

-- each symbol that needs a definition has one
abbrev pub HaveDefinitions : ParsedInputs → Type 0
HaveDefinitions inputs =
    (l : IndexedSymbol) → HasNeeded inputs.objects l
    → (d : Definition) × (name_definition inputs l.symbol.name ≡ Some d)

-- ---- sections

-- objects have this section
abbrev pub HasSection : List ObjectParts → IndexedSection → Type 0
HasSection objects l = section_at objects l.object l.index ≡ Some l.section

-- no relocation of a section has a fault, or of any section
abbrev pub RelocsAreRight : ParsedInputs → IndexedSection → Type 0
RelocsAreRight inputs l = All (λ r. reloc_fault inputs l r ≡ None) l.section.relocs

abbrev pub AllRelocsAreRight : ParsedInputs → Type 0
AllRelocsAreRight inputs = (l : IndexedSection) → HasSection inputs.objects l → RelocsAreRight inputs l

-- each branch of a section reaches in the plain layout, and that of any section of code
abbrev pub BranchesReach : ParsedInputs → IndexedSection → Type 0
BranchesReach inputs l = (n : ℕ) → starts_on l.section n ≡ true → is_out_of_reach inputs (place_of l n) ≡ false

abbrev pub AllBranchesReach : ParsedInputs → Type 0
AllBranchesReach inputs =
    (l : IndexedSection) → HasSection inputs.objects l → is_code_section l.section ≡ true → BranchesReach inputs l

-- ---- the whole

-- inputs without a fault. The objects are few, each can be read, and together they are small. No name has two strong
-- definitions, and each that is needed has a definition. Data end below the stack. Relocations are right, and the
-- program starts where an item does. Branches reach; here it may be assumed that the objects can be gathered, as the
-- laws of addresses do
pub record IsWellFormed (inputs : Inputs) : Type 0 where
  pub few : length inputs.files ≤ most_objects
  pub readable : All (λ file. object_fault file ≡ None) inputs.files
  pub small : AreSmall (sums_of inputs.files)
  pub single : AreSingle (parsed inputs).objects
  pub defined : HaveDefinitions (parsed inputs)
  pub room : data_end (parsed inputs) ≤ inputs.map.stack_low
  pub relocs : AllRelocsAreRight (parsed inputs)
  pub entry : Place
  pub entry_found : entry_in (parsed inputs) ≡ Some entry
  pub near : gather_fault inputs ≡ None → AllBranchesReach (parsed inputs)
