use Rattle.std.proofs.Common.{◌≡◌, false, take}
use Rattle.std.specs.List.{list_any}
use Rattle.elf32_read.specs.Lent.{IsSectionEntry}
use Rattle.elf32_read.specs.Parts.{SectionParts}
use Rattle.psabi_sym.specs.Data.{is_of_kin}
use Rattle.psabi_sym.specs.Objects.{contents_of}
use Rattle.psabi_sym.proofs.read_sections.has_name_of.Given as goal

abbrev pub invariant-loop-name : goal.invariant-loop-name
invariant-loop-name l =
    (parts : SectionParts) → IsSectionEntry l.section parts → list_any (λ name. is_of_kin name parts.name) (take l.name-index (contents_of l.names)) ≡ false
