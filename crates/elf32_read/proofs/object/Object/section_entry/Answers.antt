use Rattle.std.proofs.Common.{◌≡◌, ◌∙◌, ap, sym, drop, not}
use Rattle.std.specs.Prelude.{◌==◌}
use Rattle.std.specs.List.{list_any, take_while}
use Rattle.elf32_read.specs.Header.{header_of}
use Rattle.elf32_read.specs.Names.{section_names}
use Rattle.elf32_read.specs.Object.{object_fault}
use Rattle.elf32_read.proofs.Faultless.{section_named}
use Rattle.elf32_read.proofs.Held.{is_content}
use Rattle.elf32_read.proofs.object.Object.section_entry.Goals as goal

pub returns : goal.returns
returns c =
    let bytes = c.args.self.now in
    let i = c.args.i in
    let content = c.content.result.now in
    let h = header_of bytes i in
    let header : c.header-header.result ≡ h = c.header-header.ensures.header ∙ ap (λ b. header_of b i) c.self.view_is in
    let names : c.names_from.result.now ≡ drop h.name (section_names bytes) =
    c.names_from.ensures ∙ (λ j. drop (header j).name ((c.names.ensures ∙ ap section_names c.self.view_is) j)) in
    record {
      ends = ap (list_any (λ byte. byte == 0)) names ∙ section_named bytes (ap object_fault (sym c.self.view_is) ∙ c.self.invariant.faultless) i c.requires;
      name = ap (take_while (λ byte. not (byte == 0))) names;
      kind = ap (λ x. x.kind) header;
      flags = ap (λ x. x.flags) header;
      size = ap (λ x. x.size) header;
      align = ap (λ x. x.align) header;
      bytes = is_content _ bytes i c.header-header.result content c.self.view_is c.header-header.ensures.header c.content.ensures.content;
    }
