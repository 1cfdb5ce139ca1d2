use Rattle.std.proofs.Common.{◌∙◌, ap, ◌++◌, ◌∷◌, []}
use Rattle.std.proofs.lemmas.Result.{IfOk-equal}
use Rattle.elf32_read.specs.Segment.{segment_data}
use Rattle.text_lines.specs.Hex.{hex_word}
use Rattle.zc_list.specs.Listing.{kind_word, segment_line}
use Rattle.zc_list.proofs.TextLaws.{segment_line_added}
use Rattle.zc_list.proofs.line.push_segment_line.Goals as goal

pub returns : goal.returns
returns c =
    let s = segment_data c.args.segment.now in
    let one = c.extend_from_slice.new.self.items in
    let two = c.push_address.new.text.items in
    let three = c.extend_from_slice-2.new.self.items in
    IfOk-equal c.push_kind.result c.push_kind.new.text.items (three ++ (32 ∷ (kind_word s.code ++ (10 ∷ [])))) (c.args.text.now.items ++ (segment_line s ++ (10 ∷ []))) c.push_kind.ensures
    (segment_line_added s c.args.text.now.items one two three
    c.in_ok-extend_from_slice.ensures.items
    (c.in_ok-push_address.ensures ∙ ap (λ a. one ++ (hex_word a ++ (32 ∷ []))) c.from.ensures)
    (c.in_ok-extend_from_slice-2.ensures.items ∙ ap (λ t. two ++ t) (c.as_bytes.ensures.value ∙ c.format.ensures.text)))
