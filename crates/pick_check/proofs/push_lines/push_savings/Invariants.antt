use Rattle.std.proofs.Common.{◌≡◌, ◌++◌, map, take}
use Rattle.std.specs.Prelude.{All}
use Rattle.std.specs.String.{string_bytes}
use Rattle.pick_check.specs.Text.{FitsSaving, saving_line, text_of}
use Rattle.pick_check.proofs.push_lines.push_savings.Given as goal

abbrev pub invariant-loop-saving : goal.invariant-loop-saving
invariant-loop-saving l = record {
  lines : string_bytes l.text ≡ string_bytes l.initial.text ++ text_of (map saving_line (take l.saving-index l.savings));
  fits : All FitsSaving (take l.saving-index l.savings);
}
