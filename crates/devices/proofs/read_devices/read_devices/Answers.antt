use Rattle.std.proofs.Common.{Ok, [], ap, inl}
use Rattle.std.proofs.lemmas.Result.{err_from_is_err_and}
use Rattle.devices.proofs.FaultLaws.{fault_read}
use Rattle.devices.proofs.KeptLaws.{are_outside}
use Rattle.devices.proofs.TextLaws.{refused, same_lines, text_read}
use Rattle.devices.proofs.read_devices.read_devices.Goals as goal

pub returns-in_err-devices-clause-err : goal.returns-in_err-devices-clause-err
returns-in_err-devices-clause-err c =
    let p = err_from_is_err_and c.from_residual.result c.from_residual.ensures.1 in
    rw (p.1, p.2) c.in_err-devices.ensures.err

pub returns-in_err-devices-clause-fault : goal.returns-in_err-devices-clause-fault
returns-in_err-devices-clause-fault c =
    let p = err_from_is_err_and c.from_residual.result c.from_residual.ensures.1 in
    rw (p.1, p.2) (fault_read c.args.map c.args.text.now c.in_err-devices.field-0.0 c.in_err-devices.ensures.err)

pub returns-in_err-devices-clause-complete : goal.returns-in_err-devices-clause-complete
returns-in_err-devices-clause-complete c = λ lines is small.
    let p = err_from_is_err_and c.from_residual.result c.from_residual.ensures.1 in
    rw (p.1, p.2) (refused c.args.map c.args.text.now c.in_err-devices.field-0.0 lines c.in_err-devices.ensures.err is small)

pub returns-clause-spells : goal.returns-clause-spells
returns-clause-spells c = text_read c.args.map c.args.text.now c.in_ok-devices.devices c.in_ok-devices.ensures.ok

pub returns-clause-outside : goal.returns-clause-outside
returns-clause-outside c = are_outside c.args.map [] c.in_ok-devices.devices (text_read c.args.map c.args.text.now c.in_ok-devices.devices c.in_ok-devices.ensures.ok).follow

pub returns-clause-complete : goal.returns-clause-complete
returns-clause-complete c = λ lines is small. inl (ap Ok (same_lines c.args.map c.args.text.now c.in_ok-devices.devices lines c.in_ok-devices.ensures.ok is small))
