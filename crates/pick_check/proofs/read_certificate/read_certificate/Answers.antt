use Rattle.std.proofs.Common.{inr}
use Rattle.pick_check.specs.declared.fault.CertFault.TheVariants.{TooLarge}
use Rattle.pick_check.proofs.FaultLaws.{fault_read}
use Rattle.pick_check.proofs.ReadLaws.{reads_each, reads_err, reads_fault, reads_ok, reads_spelled}
use Rattle.pick_check.proofs.TextLaws.{too_large}
use Rattle.pick_check.proofs.read_certificate.read_certificate.Goals as goal

pub returns-then-text-gt-CERTIFICATE_LIMIT-clause-err : goal.returns-then-text-gt-CERTIFICATE_LIMIT-clause-err
returns-then-text-gt-CERTIFICATE_LIMIT-clause-err c = inr (too_large c.args.text.now c.if-text-gt-CERTIFICATE_LIMIT.true)

pub returns-then-text-gt-CERTIFICATE_LIMIT-clause-fault : goal.returns-then-text-gt-CERTIFICATE_LIMIT-clause-fault
returns-then-text-gt-CERTIFICATE_LIMIT-clause-fault c = fault_read c.args.text.now TooLarge (inr (too_large c.args.text.now c.if-text-gt-CERTIFICATE_LIMIT.true))

pub returns-clause-ok : goal.returns-clause-ok
returns-clause-ok c = reads_ok c.args.text.now c.read_lines.result (λ r. (r.0.items, r.1)) c.if-text-gt-CERTIFICATE_LIMIT.false c.read_lines.ensures.ok

pub returns-clause-err : goal.returns-clause-err
returns-clause-err c = reads_err c.args.text.now c.read_lines.result c.if-text-gt-CERTIFICATE_LIMIT.false c.read_lines.ensures.err

pub returns-clause-fault : goal.returns-clause-fault
returns-clause-fault c =
    reads_fault c.args.text.now c.read_lines.result (reads_err c.args.text.now c.read_lines.result c.if-text-gt-CERTIFICATE_LIMIT.false c.read_lines.ensures.err)

pub returns-clause-spells : goal.returns-clause-spells
returns-clause-spells c =
    reads_spelled c.args.text.now c.read_lines.result (λ r. (r.0.items, r.1))
    (reads_ok c.args.text.now c.read_lines.result (λ r. (r.0.items, r.1)) c.if-text-gt-CERTIFICATE_LIMIT.false c.read_lines.ensures.ok)

pub returns-clause-complete : goal.returns-clause-complete
returns-clause-complete c =
    reads_each c.args.text.now c.read_lines.result (λ r. (r.0.items, r.1))
    (reads_ok c.args.text.now c.read_lines.result (λ r. (r.0.items, r.1)) c.if-text-gt-CERTIFICATE_LIMIT.false c.read_lines.ensures.ok)
    (reads_err c.args.text.now c.read_lines.result c.if-text-gt-CERTIFICATE_LIMIT.false c.read_lines.ensures.err)
