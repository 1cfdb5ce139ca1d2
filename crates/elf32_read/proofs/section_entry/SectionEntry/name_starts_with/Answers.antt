use Rattle.std.proofs.Common.{sym, ap, ◌∙◌}
use Rattle.std.specs.Prelude.{nat_eq}
use Rattle.std.specs.List.{starts_with}
use Rattle.elf32_read.proofs.Strings.{begun}
use Rattle.elf32_read.proofs.section_entry.SectionEntry.name_starts_with.Goals as goal

pub returns : goal.returns
returns c = λ parts is whole.
    let names = c.args.self.now.names.now in
    let start = c.args.start.now in
    c.starts_with.ensures.value ∙ sym (begun names start whole) ∙ ap (λ n. starts_with nat_eq n start) is.name
