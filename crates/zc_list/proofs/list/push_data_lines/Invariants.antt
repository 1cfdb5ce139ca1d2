use Rattle.std.proofs.Common.{◌≡◌, ◌++◌, ◌+◌, ◌*◌, ◌-◌, ◌/◌, length, drop}
use Rattle.zc_list.specs.Listing.{content_lines, sixteens, text_of_lines}
use Rattle.zc_list.proofs.list.push_data_lines.Given as goal

abbrev pub invariant-loop-i : goal.invariant-loop-i
invariant-loop-i l = record {
  lines : l.text.items ++ text_of_lines (content_lines (l.at + 16 * l.i) (sixteens (l.count - l.i) (drop (16 * l.i) l.bytes))) ≡ l.fn.text.items ++ text_of_lines (content_lines l.at (sixteens ((length l.bytes + 15) / 16) l.bytes));
  count : l.count ≡ (length l.bytes + 15) / 16;
}
