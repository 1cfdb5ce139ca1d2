use Rattle.std.proofs.Common.{◌≡◌, ◌++◌, ◌+◌, ◌≤◌, ◌-◌, length, drop}
use Rattle.zc_list.specs.Listing.{code_contents, content_lines, text_of_lines}
use Rattle.zc_list.proofs.list.push_code_lines.Given as goal

abbrev pub invariant-loop-done : goal.invariant-loop-done
invariant-loop-done l = record {
  lines : l.text.items ++ text_of_lines (content_lines (l.at + l.done) (code_contents (drop l.done l.bytes))) ≡ l.fn.text.items ++ text_of_lines (content_lines l.at (code_contents l.bytes));
  within : l.done ≤ length l.bytes;
}

abbrev pub decreases-loop-done : goal.decreases-loop-done
decreases-loop-done l = length l.bytes - l.done
