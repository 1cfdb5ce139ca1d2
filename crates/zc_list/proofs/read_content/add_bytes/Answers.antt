use Rattle.std.proofs.Common.{◌≡◌, ◌∙◌, ◌-◌, ap, ap₂, sym, arith, rules, cond, leb, length, take, drop, Some, None, true}
use Rattle.std.specs.Option.{option_and_then, option_copied, option_map}
use Rattle.std.proofs.lemmas.Bool.{cond-true, not-false}
use Rattle.text_lines.specs.Lines.{words_in}
use Rattle.zc_list.specs.Reader.{segment_with, stage_after, state_at}
use Rattle.zc_list.specs.Spelled.{after_content, some_bytes}
use Rattle.zc_list.proofs.ReadLaws.{bytes_law}
use Rattle.zc_list.proofs.read_content.add_bytes.Goals as goal

pub returns-clause-step : goal.returns-clause-step
returns-clause-step c = λ done.
    let head = c.args.segment.head in
    let old = c.args.bytes.now.items in
    let new = c.push_words.new.bytes.items in
    let stage = c.in-Some-stage_after.stage in
    let start : length old ≡ c.len-start.result = omega (arith, c.len-start.ensures) in
    let all : c.in_ok-push_words.field-0 ≡ true = first_of (search (rules, c.if-not-branch.false), search (rules, not-false, c.if-not-branch.false), grind (arith, c.if-not-branch.false)) in
    ap (λ o. option_and_then (after_content done (segment_with head old) c.args.segment.last) (some_bytes (words_in (option_copied o)))) c.in-Some.is
    ∙ bytes_law done head old new c.in-Some.line.now c.args.segment.last stage
    (c.in_ok-push_words.ensures ∙ cond-true c.in_ok-push_words.field-0 (Some new) None all)
    c.if-segment.false
    (ap₂ (λ bs k. stage_after head.code (take (length bs - k) (drop k bs))) (sym c.deref.ensures.value) start ∙ sym c.in-Some-stage_after.ensures)
    ∙ ap (option_map (state_at done (segment_with head new))) (sym (c.fits_in_room.ensures ∙ ap (λ bs. cond (leb (length bs) head.size) (Some stage) None) c.deref-2.ensures.value))
