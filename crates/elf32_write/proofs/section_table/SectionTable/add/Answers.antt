use Rattle.std.proofs.Common.{◌≡◌, ◌+◌, ◌∷◌, [], ◌++◌, ◌∙◌, length, rules}
use Rattle.std.proofs.lemmas.Result.{on_ok_weaker}
use Rattle.elf32_write.specs.SectionTable.{file_section}
use Rattle.elf32_write.proofs.EachAfter.{holds_more}
use Rattle.elf32_write.proofs.section_table.SectionTable.add.Goals as goal

pub returns-clause-held : goal.returns-clause-held
returns-clause-held c = λ before held.
    let h = c.args.header in
    let offset : 52 + c.len.result ≡ 52 + length c.args.self.now.contents.items = search rules in
    let headers = c.in_ok-push.ensures.items
    ∙ (λ i. c.args.self.now.headers.items ++ record { name = c.in_ok-name.name; kind = h.kind; flags = h.flags; address = c.requires.address i; offset = 52 + c.len.result; size = h.size; link = h.link; info = h.info; align = h.align; entry_size = h.entry_size } ∷ []) in
    on_ok_weaker c.push_padded.result
    (λ e. holds_more before (file_section c.args.name.now h c.args.content.now) c.args.self.now _ c.in_ok-name.name (52 + c.len.result) held e c.in_ok-name.ensures.table headers c.in_ok-name.ensures.start offset)
    c.push_padded.ensures
