-- Why objects aren't linked.
use Rattle.std.specs.Prelude.{◌≡◌, ℕ, Option, Some, None}
use Rattle.elf32_read.specs.Fault.{fault_symbol}
use Rattle.elf32_read.specs.declared.fault.Fault.{Fault}
use Rattle.psabi_sym.specs.declared.link_fault.LinkFault.{LinkFault}
use Rattle.psabi_sym.specs.declared.link_fault.LinkFault.TheVariants.{Object, OutOfMemory}

-- a refusal names the first fault, with its object's index; when memory ran out nothing is said
abbrev pub IsRefusal : Option (ℕ × Fault) → LinkFault → Type 0
IsRefusal first (Object index fault) = first ≡ Some (index, fault)
IsRefusal first OutOfMemory = Unit {0}

-- the fault names no symbol
abbrev pub IsNameless : LinkFault → Type 0
IsNameless (Object index fault) = fault_symbol fault ≡ None
IsNameless OutOfMemory = Unit {0}
