use Rattle.std.proofs.Common.{◌++◌, [], ◌∷◌, ◌∙◌}
use Rattle.std.specs.List.{flat_map}
use Rattle.std.proofs.lemmas.Result.{on_ok_weaker}
use Rattle.elf32_write.specs.Image.{null_section, section_bytes, section_headers}
use Rattle.elf32_write.proofs.headers.push_section_headers.Goals as goal

pub returns : goal.returns
unfolding section_headers
returns c =
    let start = c.args.out.now.items in
    on_ok_weaker c.push_headers.result
    (λ e. e ∙ (λ i. start ++ flat_map section_bytes (null_section ∷ c.text_header.ensures i ∷ c.data_header.ensures i ∷ c.bss_header.ensures i ∷ c.places_header.ensures i ∷ c.names_header.ensures i ∷ [])))
    c.push_headers.ensures
