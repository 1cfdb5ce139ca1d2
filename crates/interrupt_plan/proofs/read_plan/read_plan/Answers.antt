use Rattle.std.proofs.Common.{◌≡◌, Ok, map, ap, inl, sym, ◌∙◌}
use Rattle.std.proofs.lemmas.Result.{err_from_is_err_and}
use Rattle.interrupt_plan.specs.SharedPlan.{without_cells}
use Rattle.interrupt_plan.specs.Text.{IsPlanText, entries_by, plan_grammar}
use Rattle.interrupt_plan.proofs.FaultLaws.{fault_read}
use Rattle.interrupt_plan.proofs.OrderLaws.{plain_in_order}
use Rattle.interrupt_plan.proofs.ReadLaws.{plan_bytes, plan_fault, plan_found, plan_title, refused, same_plan}
use Rattle.interrupt_plan.proofs.TextLaws.{text_read}
use Rattle.interrupt_plan.proofs.read_plan.read_plan.Goals as goal

pub returns-in_err-cuts-clause-err : goal.returns-in_err-cuts-clause-err
returns-in_err-cuts-clause-err c =
    let p = err_from_is_err_and c.from_residual.result c.from_residual.ensures.1 in
    rw (p.1, p.2) (plan_fault c.args.text.now c.in_err-cuts.field-0.0 c.in_err-cuts.ensures.err)

pub returns-in_err-cuts-clause-fault : goal.returns-in_err-cuts-clause-fault
returns-in_err-cuts-clause-fault c =
    let p = err_from_is_err_and c.from_residual.result c.from_residual.ensures.1 in
    rw (p.1, p.2) (fault_read plan_grammar plan_title c.args.text.now c.in_err-cuts.field-0.0 c.in_err-cuts.ensures.err)

pub returns-in_err-cuts-clause-complete : goal.returns-in_err-cuts-clause-complete
returns-in_err-cuts-clause-complete c = λ plan is small.
    let p = err_from_is_err_and c.from_residual.result c.from_residual.ensures.1 in
    rw (p.1, p.2) (refused plan_grammar plan_title c.args.text.now (map without_cells plan) c.in_err-cuts.field-0.0 plan c.in_err-cuts.ensures.err is small)

pub new-requires-clause-in_order : goal.new-requires-clause-in_order
new-requires-clause-in_order c = plain_in_order c.in_ok-cuts.cuts.items (text_read plan_grammar c.args.text.now (map without_cells c.in_ok-cuts.cuts.items) c.in_ok-cuts.ensures.ok).in_order

read : (c : goal.After-new) → entries_by plan_grammar c.args.text.now ≡ Ok (map without_cells c.new.result)
read c = c.in_ok-cuts.ensures.ok ∙ ap (λ l. Ok (map without_cells l)) (sym c.new.ensures)

spelled : (c : goal.After-new) → IsPlanText c.args.text.now c.new.result
spelled c = text_read plan_grammar c.args.text.now (map without_cells c.new.result) (read c)

pub returns-clause-ok : goal.returns-clause-ok
returns-clause-ok c = plan_found c.args.text.now c.new.result (read c)

pub returns-clause-spells : goal.returns-clause-spells
returns-clause-spells c = spelled c

pub returns-clause-bytes : goal.returns-clause-bytes
returns-clause-bytes c = plan_bytes c.new.result (spelled c).fits

pub returns-clause-complete : goal.returns-clause-complete
returns-clause-complete c = λ plan is small. inl (ap Ok (same_plan c.args.text.now c.new.result plan (read c) is small))
