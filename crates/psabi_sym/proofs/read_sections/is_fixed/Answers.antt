use Rattle.std.proofs.Common.{◌≡◌, Bool, sym, ap, ◌∙◌}
use Rattle.std.specs.Prelude.{◌&&◌}
use Rattle.std.specs.List.{list_any}
use Rattle.elf32_read.specs.Parts.{SectionParts, is_code_section}
use Rattle.psabi_sym.specs.Data.{is_code_role, is_of_kin, role_of}
use Rattle.psabi_sym.specs.Objects.{contents_of}
use Rattle.psabi_sym.specs.declared.section_row.SectionRole.{SectionRole}
use Rattle.psabi_sym.proofs.PlaceLaws.{code_is}
use Rattle.psabi_sym.proofs.read_sections.is_fixed.Goals as goal

-- what it is to a link says whether it is code
code : (parts : SectionParts) (role : SectionRole) (b : Bool) → b ≡ is_code_role role → role ≡ role_of parts → is_code_section parts ≡ b
code parts role b tested is = sym (tested ∙ ap is_code_role is ∙ code_is parts)

pub returns-then-is_code : goal.returns-then-is_code
returns-then-is_code c = λ parts is role.
    c.has_name_of.ensures parts is
    ∙ sym (ap (λ b. b && list_any (λ name. is_of_kin name parts.name) (contents_of c.args.names.now)) (code parts c.args.role c.is_code.result c.is_code.ensures role ∙ c.if-is_code.true))

pub returns-else-is_code : goal.returns-else-is_code
returns-else-is_code c = λ parts is role.
    c.if-is_code.false
    ∙ sym (ap (λ b. b && list_any (λ name. is_of_kin name parts.name) (contents_of c.args.names.now)) (code parts c.args.role c.is_code.result c.is_code.ensures role ∙ c.if-is_code.false))
