use Rattle.std.proofs.Common.{◌≡◌, List, ◌∷◌, ◌++◌, [], map, ap, subst, sym, ◌∙◌}
use Rattle.std.proofs.lemmas.List.{map-append}
use Rattle.std.specs.BTreeMap.{get}
use Rattle.std.specs.BTreeSet.{contains}
use Rattle.std.specs.List.{list_any}
use Rattle.std.specs.Ordering.{nat_cmp}
use Rattle.devices.specs.Lines.{DevicesLine, answer_in, answers_of, is_answer, is_registers, is_reset, is_then, outputs_of, ranges_of, then_in, then_of}
use Rattle.devices.specs.Invariants.Kept.{CanFollow, IsSet, IsTable, shown}
use Rattle.devices.proofs.KeptLaws.{any_more, bytes_more}
use Rattle.devices.proofs.device_list.Devices.with_line.Goals as goal

pub invariant_of-result : goal.invariant_of-result
invariant_of-result c =
    let lines = c.self.inside.lines.items in
    let line = shown c.args.line in
    let before : List DevicesLine = map shown lines in
    let kept = c.self.invariant in
    let same : map shown c.in_ok-all.all.items ≡ before ++ (line ∷ []) = ap (map shown) c.in_ok-all.ensures ∙ map-append shown lines (c.args.line ∷ []) in
    let may : CanFollow before line = subst (λ ls. CanFollow ls line) (sym c.self.view_is) c.requires in (
      subst (λ ls. IsTable (get nat_cmp c.in_ok-more.more) (ranges_of ls)) (sym same) (c.in_ok-more.ensures before kept.0 may),
      subst (λ ls. IsSet (contains nat_cmp c.in_ok-addresses.addresses) (outputs_of ls)) (sym same) (c.in_ok-addresses.ensures before kept.1),
      bytes_more answer_in before line c.self.inside.first.items c.in_ok-bytes.bytes.items kept.2 c.in_ok-bytes.ensures ∙ ap answers_of (sym same),
      bytes_more then_in before line c.self.inside.again.items c.in_ok-copied.copied.items kept.3 c.in_ok-copied.ensures ∙ ap then_of (sym same),
      any_more is_answer before line c.self.inside.answering c.is_answering-answers.result kept.4 c.is_answering-answers.ensures ∙ ap (list_any is_answer) (sym same),
      any_more is_then before line c.self.inside.ended c.is_ended-is_last.result kept.5 c.is_ended-is_last.ensures ∙ ap (list_any is_then) (sym same),
      any_more is_registers before line c.self.inside.registers c.with_registers-has_registers.result kept.6 c.with_registers-has_registers.ensures ∙ ap (list_any is_registers) (sym same),
      any_more is_reset before line c.self.inside.reset c.with_reset-has_reset.result kept.7 c.with_reset-has_reset.ensures ∙ ap (list_any is_reset) (sym same),
    )
