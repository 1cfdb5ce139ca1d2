use Rattle.std.proofs.Common.{codes, refl, sym, ap, ◌∙◌}
use Rattle.std.specs.Prelude.{◌||◌, nat_eq}
use Rattle.std.specs.List.{starts_with}
use Rattle.psabi_sym.proofs.read_sections.is_small_data.Goals as goal

-- the section doesn't have the name itself
pub returns-else-is_named : goal.returns-else-is_named
returns-else-is_named c = λ parts is.
    let other = sym (c.is_named.ensures parts (codes ".sdata") is refl refl) ∙ c.if-is_named.false in
    c.name_starts_with.ensures parts is refl ∙ sym (ap (λ b. b || starts_with nat_eq parts.name (codes ".sdata.")) other)
