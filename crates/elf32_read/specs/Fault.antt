-- The faults of an object, by number and by name.
use Rattle.std.specs.Prelude.{ℕ, List, codes, Option, Some, None}
use Rattle.elf32_read.specs.declared.fault.Fault.{Fault}
use Rattle.elf32_read.specs.declared.fault.Fault.TheVariants.{NotElf, Truncated, Flags, SectionKind, Alignment, CodeSize, BadName, BadSymbol, Duplicate, Undefined, RelocKind, RelocPlace, LoPair, BadTarget, Range, NoEntry, TooLarge}

-- the number that a report gives for a fault
abbrev pub fault_number : Fault → ℕ
fault_number NotElf = 1
fault_number Truncated = 2
fault_number Flags = 3
fault_number SectionKind = 4
fault_number Alignment = 5
fault_number CodeSize = 6
fault_number BadName = 7
fault_number BadSymbol = 8
fault_number (Duplicate symbol) = 9
fault_number (Undefined symbol) = 10
fault_number (RelocKind section at) = 11
fault_number (RelocPlace section at) = 12
fault_number (LoPair section at) = 13
fault_number (BadTarget section at) = 14
fault_number (Range section at) = 15
fault_number NoEntry = 16
fault_number TooLarge = 17

-- the name that a report gives for a fault
abbrev pub fault_name : Fault → List ℕ
fault_name NotElf = codes "NotElf"
fault_name Truncated = codes "Truncated"
fault_name Flags = codes "Flags"
fault_name SectionKind = codes "SectionKind"
fault_name Alignment = codes "Alignment"
fault_name CodeSize = codes "CodeSize"
fault_name BadName = codes "BadName"
fault_name BadSymbol = codes "BadSymbol"
fault_name (Duplicate symbol) = codes "Duplicate"
fault_name (Undefined symbol) = codes "Undefined"
fault_name (RelocKind section at) = codes "RelocKind"
fault_name (RelocPlace section at) = codes "RelocPlace"
fault_name (LoPair section at) = codes "LoPair"
fault_name (BadTarget section at) = codes "BadTarget"
fault_name (Range section at) = codes "Range"
fault_name NoEntry = codes "NoEntry"
fault_name TooLarge = codes "TooLarge"

-- the index, in the object, of the symbol that a fault names
abbrev pub fault_symbol : Fault → Option ℕ
fault_symbol NotElf = None
fault_symbol Truncated = None
fault_symbol Flags = None
fault_symbol SectionKind = None
fault_symbol Alignment = None
fault_symbol CodeSize = None
fault_symbol BadName = None
fault_symbol BadSymbol = None
fault_symbol (Duplicate symbol) = Some symbol
fault_symbol (Undefined symbol) = Some symbol
fault_symbol (RelocKind section at) = None
fault_symbol (RelocPlace section at) = None
fault_symbol (LoPair section at) = None
fault_symbol (BadTarget section at) = None
fault_symbol (Range section at) = None
fault_symbol NoEntry = None
fault_symbol TooLarge = None
