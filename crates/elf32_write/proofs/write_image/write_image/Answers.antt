-- The file is the definition's bytes, which read back.
use Rattle.std.proofs.Common.{◌≡◌, ◌++◌, List, ℕ, sym, ap, ◌∙◌, subst}
use Rattle.std.specs.List.{flat_map}
use Rattle.elf32_write.specs.Image.{file_header, program_headers, padded, place_bytes, shstrtab_content, section_headers, image_bytes}
use Rattle.elf32_write.specs.Loadable.{ReadsBack}
use Rattle.elf32_write.proofs.ImageBack.{image_back}
use Rattle.elf32_write.proofs.write_image.write_image.Goals as goal

pub returns-clause-reads_back : goal.returns-clause-reads_back
unfolding image_bytes
returns-clause-reads_back c = λ memory loadable.
    let parts = c.args.parts.now in
    let text_is = c.deref.ensures.value ∙ ap (λ p. p.text) c.parts.view_is in
    let data_is = c.deref-2.ensures.value ∙ ap (λ p. p.data_bytes) c.parts.view_is in
    let places_are = c.deref-3.ensures.value ∙ ap (λ p. p.places) c.parts.view_is in
    let header = c.in_ok-push_file_header.ensures ∙ (λ i. c.in_ok-file.ensures.items i ++ file_header parts) in
    let programs = c.in_ok-push_program_headers.ensures ∙ (λ i. header i ++ program_headers parts) in
    let text = c.in_ok-push_padded.ensures ∙ (λ i. programs i ++ padded (text_is i)) in
    let data_part = c.in_ok-push_padded-2.ensures ∙ (λ i. text i ++ padded (data_is i)) in
    let places = c.in_ok-push_places.ensures ∙ (λ i. data_part i ++ flat_map place_bytes (places_are i)) in
    let named = c.in_ok-push_padded-3.ensures ∙ (λ i. places i ++ padded shstrtab_content) in
    let written : c.push_section_headers.new.out.items ≡ image_bytes parts = c.in_ok-push_section_headers.ensures ∙ (λ i. named i ++ section_headers parts) in
    let IsRead : List ℕ → Type 0 = λ file. ReadsBack parts memory file in
    subst IsRead (sym written) (image_back parts memory c.requires loadable)
