-- What a test of sections must be closed under, so that runs stay among the sections that pass it.
use Rattle.std.specs.Prelude.{◌≡◌, ℕ, Bool, true, false, All, Some}
use Rattle.zc_base.specs.declared.place.Place.{Place}
use Rattle.elf32_read.specs.Parts.{SectionParts, is_code_section, is_kept_section}
use Rattle.psabi_sym.specs.Inputs.{ParsedInputs}
use Rattle.psabi_sym.specs.Indexed.{section_at}
use Rattle.psabi_sym.specs.Resolve.{name_target}
use Rattle.psabi_sym.specs.Start.{start_name}
use Rattle.block_cut.specs.Items.{entry_in, target_of}
use Rattle.block_cut.specs.Resolved.{asks}
use Rattle.section_gc.proofs.ResolveLaws.{IsNeededTarget}

-- a section that passes is there
pub record IsKeptThere (inputs : ParsedInputs) (o i : ℕ) : Type 0 where
  pub section : SectionParts
  pub at : section_at inputs.objects o i ≡ Some section
  pub kept : is_kept_section section ≡ true

pub record IsClosed (inputs : ParsedInputs) (needed : ℕ → ℕ → Bool) : Type 0 where
  pub there : (o i : ℕ) → needed o i ≡ true → IsKeptThere inputs o i
  pub data_needed : (o i : ℕ) (s : SectionParts) → section_at inputs.objects o i ≡ Some s → is_kept_section s ≡ true → is_code_section s ≡ false → needed o i ≡ true
  pub leads : (o i : ℕ) (s : SectionParts) → section_at inputs.objects o i ≡ Some s → needed o i ≡ true → All (λ r. asks r ≡ true → IsNeededTarget needed (target_of inputs o r)) s.relocs
  pub entry : Place
  pub entry_is : entry_in inputs ≡ Some entry
  pub starts : IsNeededTarget needed (name_target inputs start_name)
