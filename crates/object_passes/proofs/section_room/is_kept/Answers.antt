use Rattle.std.proofs.Common.{◌≡◌, ◌∙◌, ◌⊎◌, inl, inr, sym, true}
use Rattle.elf32_read.specs.Parts.{is_kept_section}
use Rattle.psabi_sym.specs.declared.data_class.DataClass.{DataClass}
use Rattle.psabi_sym.specs.declared.section_row.SectionRole.TheVariants.{Code, InClass, Dropped}
use Rattle.object_passes.proofs.SizeLaws.{kept-by-role}
use Rattle.object_passes.proofs.section_room.is_kept.Goals as goal

pub returns-in-Dropped : goal.returns-in-Dropped
returns-in-Dropped c = kept-by-role c.args.section.now.section Dropped (sym c.in-Dropped.is ∙ c.role.ensures)

pub returns-in-Code : goal.returns-in-Code
returns-in-Code c = by c.in-Code.is
  where
    by : (c.role.result ≡ Code) ⊎ ((class : DataClass) × (c.role.result ≡ InClass class)) → true ≡ is_kept_section c.args.section.now.section
    by (inl is) = kept-by-role c.args.section.now.section Code (sym is ∙ c.role.ensures)
    by (inr is) = kept-by-role c.args.section.now.section (InClass is.0) (sym is.1 ∙ c.role.ensures)
