use Rattle.std.proofs.Common.{◌≡◌, ◌+◌, ◌∷◌, [], ◌++◌, ◌∙◌, length, ap, sym, codes, rules}
use Rattle.std.proofs.lemmas.Result.{on_ok_weaker}
use Rattle.elf32_write.specs.Image.{padded}
use Rattle.elf32_write.specs.NameTable.{name_bytes}
use Rattle.elf32_write.specs.FileSections.{names_of_sections}
use Rattle.elf32_write.specs.SectionTable.{last_section}
use Rattle.elf32_write.proofs.EachAfter.{holds_more, name_table_push}
use Rattle.elf32_write.proofs.section_table.SectionTable.add_names.Goals as goal

pub returns : goal.returns
returns c = λ before held.
    let old = c.args.self.now in
    let own = codes ".shstrtab" in
    let section = last_section before in
    let offset : 52 + c.len.result ≡ 52 + length old.contents.items = search rules in
    let names : c.push_name.new.table.items ≡ section.content =
    c.in_ok-name.ensures.table ∙ ap (λ l. l ++ name_bytes own) held.names_held ∙ sym (name_table_push (names_of_sections before) own) in
    let long : c.len-2.result ≡ length c.push_name.new.table.items = search rules in
    let size : c.len-2.result ≡ section.size = long ∙ ap length names in
    let headers = c.in_ok-push.ensures.items
    ∙ (λ i. old.headers.items ++ record { name = c.in_ok-name.name; kind = 3; flags = 0; address = 0; offset = 52 + c.len.result; size = size i; link = 0; info = 0; align = 1; entry_size = 0 } ∷ []) in
    let content = c.deref.ensures.value ∙ names in
    on_ok_weaker c.push_padded.result
    (λ e. holds_more before section old _ c.in_ok-name.name (52 + c.len.result) held (e ∙ ap (λ l. old.contents.items ++ padded l) content) c.in_ok-name.ensures.table headers c.in_ok-name.ensures.start offset)
    c.push_padded.ensures
