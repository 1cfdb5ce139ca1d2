-- The file's header is appended in four pieces: the identification, halves, words, halves.
use Rattle.std.proofs.Common.{◌++◌, List, ℕ, [], ◌∷◌, ◌∙◌}
use Rattle.std.specs.List.{flat_map}
use Rattle.std.proofs.lemmas.Result.{on_ok_weaker}
use Rattle.zc_base.specs.Fields.{half_bytes, word_bytes}
use Rattle.elf32_write.specs.Image.{identification, file_header, sections_offset}
use Rattle.elf32_write.specs.Parts.{Parts}
use Rattle.elf32_write.proofs.Appends.{appended}
use Rattle.elf32_write.proofs.headers.push_file_header.Goals as goal

pub returns : goal.returns
unfolding file_header
returns c =
    let start = c.args.out.now.items in
    let parts = c.args.parts.now in
    let kind : List ℕ = flat_map half_bytes (2 ∷ 243 ∷ []) in
    let words : Parts → ℕ → List ℕ = λ p sections. flat_map word_bytes (1 ∷ p.entry ∷ 52 ∷ sections ∷ p.flags ∷ []) in
    let sizes : List ℕ = flat_map half_bytes (52 ∷ 32 ∷ 2 ∷ 40 ∷ 6 ∷ 5 ∷ []) in
    let all_words = words parts (sections_offset parts) in
    let two = appended start identification kind _ _ c.in_ok-extend_from_slice.ensures.items c.in_ok-push_halves.ensures in
    let three = appended start (identification ++ kind) all_words _ _ two
    (c.in_ok-push_words.ensures ∙ (λ i. c.push_halves.new.out.items ++ words (c.parts.view_is i) (c.requires.sections i))) in
    on_ok_weaker c.push_halves-2.result (λ e. appended start (identification ++ kind ++ all_words) sizes _ _ three e) c.push_halves-2.ensures
