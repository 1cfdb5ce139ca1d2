use Rattle.std.proofs.Common.{sym, ap, ◌∙◌}
use Rattle.std.specs.Prelude.{nat_eq}
use Rattle.std.specs.Cmp.Lexicographic.{pointwise}
use Rattle.std.specs.List.{starts_with}
use Rattle.elf32_read.proofs.Strings.{named}
use Rattle.elf32_read.proofs.section_entry.SectionEntry.is_named.Goals as goal

pub returns : goal.returns
returns c = λ parts name is whole ended.
    let names = c.args.self.now.names.now in
    c.starts_with.ensures.value ∙ ap (starts_with nat_eq names) ended
    ∙ sym (named names name is.ends whole) ∙ ap (λ n. pointwise nat_eq n name) is.name
