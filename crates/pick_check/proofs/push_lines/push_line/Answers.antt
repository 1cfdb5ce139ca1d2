use Rattle.std.proofs.Common.{◌++◌, ◌∙◌, ap, append-nil, append_assoc, arith, sym, take}
use Rattle.std.specs.Prelude.{flat_map}
use Rattle.std.specs.String.{string_bytes}
use Rattle.std.proofs.lemmas.List.{take_all}
use Rattle.pick_check.proofs.WriteLaws.{line_pushed, spaced}
use Rattle.pick_check.proofs.push_lines.push_line.Goals as goal

pub loop-number-init : goal.loop-number-init
loop-number-init c = sym (append-nil (string_bytes c.push_str.new.self))

pub returns : goal.returns
returns c =
    let pushed = take c.loop-number.number-index c.args.numbers.now in
    c.in_ok-push_str-2.ensures.bytes
    ∙ line_pushed (string_bytes c.args.text.now) c.args.name.now (string_bytes c.loop-number.text) c.args.numbers.now pushed
    (c.loop-number.invariant ∙ ap (λ t. t ++ flat_map spaced pushed) c.in_ok-push_str.ensures.bytes ∙ append_assoc (string_bytes c.args.text.now) c.args.name.now (flat_map spaced pushed))
    (take_all c.loop-number.number-index c.args.numbers.now (omega arith))
