use Rattle.std.proofs.Common.{◌∙◌, ap, inr, rules, sym}
use Rattle.std.proofs.lemmas.Result.{err_from_is_err_and}
use Rattle.text_lines.specs.Lines.{lines_of}
use Rattle.pick_check.specs.Text.{certified}
use Rattle.pick_check.proofs.ReadLaws.{lines_read, no_title}
use Rattle.pick_check.proofs.read_certificate.read_lines.Goals as goal

pub returns-in_default-clause-err : goal.returns-in_default-clause-err
returns-in_default-clause-err c = inr (no_title (lines_of c.args.text.now) (sym c.in_default.ensures.read))

pub returns-clause-ok : goal.returns-clause-ok
returns-clause-ok c =
    lines_read (lines_of c.args.text.now) _ c.in-Some.lines.now c.in_ok-savings.behind.now c.in_ok-slots.rest.now c.in_ok-savings.savings.items c.in_ok-slots.slots.items c.len.result c.len-2.result (sym c.in-Some.ensures.read) c.in-Some.ensures.rest c.in_ok-savings.ensures.savings c.in_ok-savings.ensures.rest c.in_ok-slots.ensures.slots c.in_ok-slots.ensures.few c.in_ok-slots.ensures.last c.in_ok-slots.ensures.rest (search rules) (search rules)
    ∙ ap (certified c.in_ok-savings.savings.items c.in_ok-slots.slots.items) (sym c.in_ok-last.ensures)

pub returns-in_err-last-clause-err : goal.returns-in_err-last-clause-err
returns-in_err-last-clause-err c =
    let p = err_from_is_err_and c.from_residual-in_err-last.result c.from_residual-in_err-last.ensures.1 in
    rw (p.1, p.2) (inr (lines_read (lines_of c.args.text.now) _ c.in-Some.lines.now c.in_ok-savings.behind.now c.in_ok-slots.rest.now c.in_ok-savings.savings.items c.in_ok-slots.slots.items c.len.result c.len-2.result (sym c.in-Some.ensures.read) c.in-Some.ensures.rest c.in_ok-savings.ensures.savings c.in_ok-savings.ensures.rest c.in_ok-slots.ensures.slots c.in_ok-slots.ensures.few c.in_ok-slots.ensures.last c.in_ok-slots.ensures.rest (search rules) (search rules)
    ∙ ap (certified c.in_ok-savings.savings.items c.in_ok-slots.slots.items) (sym c.in_err-last.ensures)))
