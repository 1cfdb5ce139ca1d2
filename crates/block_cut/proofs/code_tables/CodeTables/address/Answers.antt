use Rattle.std.proofs.Common.{Some, sym, ap, ◌∙◌}
use Rattle.psabi_sym.specs.Inputs.{parsed}
use Rattle.block_cut.proofs.TextLaws.{target_address}
use Rattle.block_cut.proofs.WordLaws.{no_address}
use Rattle.block_cut.proofs.code_tables.CodeTables.address.Goals as goal

pub returns-in_err-place : goal.returns-in_err-place
returns-in_err-place c = c.from_residual.ensures ∙ sym (no_address (parsed c.args.objects.now) c.args.p c.in_err-place.ensures)

pub returns : goal.returns
returns c = ap (λ p. Some p.address) c.in_ok-place.ensures.1 ∙ target_address (parsed c.args.objects.now) c.args.p c.in_ok-place.ensures.0
