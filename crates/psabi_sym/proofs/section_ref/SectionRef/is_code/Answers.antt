use Rattle.std.proofs.Common.{ap, ◌∙◌}
use Rattle.elf32_read.specs.Parts.{is_code_section}
use Rattle.psabi_sym.specs.Data.{is_code_role}
use Rattle.psabi_sym.specs.SectionRef.{lent_section}
use Rattle.psabi_sym.proofs.PlaceLaws.{code_is}
use Rattle.psabi_sym.proofs.section_ref.SectionRef.is_code.Goals as goal

pub returns : goal.returns
returns c =
    let s = c.self.inside in
    c.is_code.ensures ∙ ap is_code_role c.self.invariant.role_is ∙ code_is (lent_section s.entry s.relocs s.compressed)
    ∙ ap (λ l. is_code_section l.section) c.self.view_is
