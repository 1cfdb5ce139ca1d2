-- Which sections a program needs: the one that it starts in, all data, those that are fixed, and what these refer to.
use Rattle.std.specs.Prelude.{◌≡◌, ℕ, Bool, true, false, Contains, Some}
use Rattle.zc_base.specs.declared.place.Place.{Place}
use Rattle.elf32_read.specs.Parts.{SectionParts, is_code_section, is_kept_section}
use Rattle.elf32_read.specs.declared.reloc.Reloc.{Reloc}
use Rattle.psabi_sym.specs.Fixed.{is_fixed_at}
use Rattle.psabi_sym.specs.Inputs.{ParsedInputs}
use Rattle.psabi_sym.specs.Indexed.{section_at}
use Rattle.psabi_sym.specs.declared.target.Target.TheVariants.{Code}
use Rattle.psabi_reloc.specs.Kinds.{kind_of}
use Rattle.block_cut.specs.Items.{entry_in, target_of}
use Rattle.block_cut.specs.Relocs.{is_ignored}

-- a kept section refers to the section of code that a place lies in: one of its relocations that ask for something leads to the
-- place
pub record Refers (inputs : ParsedInputs) (object index : ℕ) (to : Place) : Type 0 where
  pub section : SectionParts
  pub section_is : section_at inputs.objects object index ≡ Some section
  pub kept : is_kept_section section ≡ true
  pub reloc : Reloc
  pub its : Contains section.relocs reloc
  pub asks : is_ignored (kind_of reloc.kind) ≡ false
  pub leads : target_of inputs object reloc ≡ Code to

-- the sections that are needed, by their object's index and their own
pub data Needed (inputs : ParsedInputs) : ℕ → ℕ → Type 0 where
  Start : (p : Place) → entry_in inputs ≡ Some p → Needed inputs p.object p.section
  Data : (o i : ℕ) (s : SectionParts) → section_at inputs.objects o i ≡ Some s → is_kept_section s ≡ true → is_code_section s ≡ false → Needed inputs o i
  Fixed : (o i : ℕ) → is_fixed_at inputs o i ≡ true → Needed inputs o i
  Referred : (o i : ℕ) (to : Place) → Needed inputs o i → Refers inputs o i to → Needed inputs to.object to.section

-- the sections that pass a test are those that are needed
pub record AreNeeded (inputs : ParsedInputs) (needed : ℕ → ℕ → Bool) : Type 0 where
  pub all : (o i : ℕ) → Needed inputs o i → needed o i ≡ true
  pub only : (o i : ℕ) → needed o i ≡ true → Needed inputs o i
