use Rattle.std.proofs.Common.{◌∙◌, ap₂, ◌+◌, ◌*◌, ◌/◌, ◌++◌, ◌∷◌, [], length}
use Rattle.zc_list.specs.Listing.{Bytes, content_line, content_lines, sixteens, text_of_lines}
use Rattle.zc_list.proofs.ListLaws.{first_bytes, sixteen_added}
use Rattle.zc_list.proofs.list.push_data_lines.Goals as goal

pub loop-i-preserved : goal.loop-i-preserved
loop-i-preserved c =
    let bytes = c.args.bytes.now in
    let i = c.loop-i.i in
    let before = c.loop-i.text.items in
    let made = c.in_ok-push_bytes_line.ensures ∙ ap₂ (λ a bs. before ++ (content_line (a + 16 * i) (Bytes bs) ++ (10 ∷ []))) c.from.ensures (first_bytes (16 * i) bytes c.min-size.result c.min-size.ensures) in
    record {
      lines = sixteen_added c.div_ceil-count.result i c.args.at bytes c.args.text.now.items before c.push_bytes_line.new.text.items (text_of_lines (content_lines c.args.at (sixteens ((length bytes + 15) / 16) bytes))) c.loop-i-test.true c.loop-i.invariant.count c.loop-i.invariant.lines made;
      count = c.loop-i.invariant.count;
    }
