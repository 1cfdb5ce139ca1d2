use Rattle.std.proofs.Common.{◌≡◌, Ok, ap, inl, sym, ◌∙◌}
use Rattle.std.proofs.lemmas.List.{map-id}
use Rattle.std.proofs.lemmas.Result.{err_from_is_err_and}
use Rattle.interrupt_plan.specs.Text.{IsSharedText, entries_by, shared_grammar}
use Rattle.interrupt_plan.proofs.FaultLaws.{fault_read}
use Rattle.interrupt_plan.proofs.ReadLaws.{refused, same_entries, shared_bytes, shared_title}
use Rattle.interrupt_plan.proofs.TextLaws.{text_read}
use Rattle.interrupt_plan.proofs.read_shared.read_shared.Goals as goal

pub returns-in_err-cuts-clause-err : goal.returns-in_err-cuts-clause-err
returns-in_err-cuts-clause-err c =
    let p = err_from_is_err_and c.from_residual.result c.from_residual.ensures.1 in
    rw (p.1, p.2) c.in_err-cuts.ensures.err

pub returns-in_err-cuts-clause-fault : goal.returns-in_err-cuts-clause-fault
returns-in_err-cuts-clause-fault c =
    let p = err_from_is_err_and c.from_residual.result c.from_residual.ensures.1 in
    rw (p.1, p.2) (fault_read shared_grammar shared_title c.args.text.now c.in_err-cuts.field-0.0 c.in_err-cuts.ensures.err)

pub returns-in_err-cuts-clause-complete : goal.returns-in_err-cuts-clause-complete
returns-in_err-cuts-clause-complete c = λ plan is small.
    let p = err_from_is_err_and c.from_residual.result c.from_residual.ensures.1 in
    rw (p.1, p.2) (refused shared_grammar shared_title c.args.text.now plan c.in_err-cuts.field-0.0 plan c.in_err-cuts.ensures.err is small)

pub new-requires-clause-in_order : goal.new-requires-clause-in_order
new-requires-clause-in_order c =
    (text_read shared_grammar c.args.text.now c.in_ok-cuts.cuts.items (c.in_ok-cuts.ensures.ok ∙ ap Ok (map-id c.in_ok-cuts.cuts.items))).in_order

read : (c : goal.After-new) → entries_by shared_grammar c.args.text.now ≡ Ok c.new.result
read c = c.in_ok-cuts.ensures.ok ∙ ap Ok (map-id c.in_ok-cuts.cuts.items) ∙ ap Ok (sym c.new.ensures)

spelled : (c : goal.After-new) → IsSharedText c.args.text.now c.new.result
spelled c = text_read shared_grammar c.args.text.now c.new.result (read c)

pub returns-clause-ok : goal.returns-clause-ok
returns-clause-ok c = read c

pub returns-clause-spells : goal.returns-clause-spells
returns-clause-spells c = spelled c

pub returns-clause-bytes : goal.returns-clause-bytes
returns-clause-bytes c = shared_bytes shared_grammar c.new.result (spelled c).fits

pub returns-clause-complete : goal.returns-clause-complete
returns-clause-complete c = λ plan is small. inl (ap Ok (same_entries shared_grammar shared_title c.args.text.now c.new.result plan (read c) is small))
