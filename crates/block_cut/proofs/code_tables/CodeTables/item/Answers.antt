use Rattle.std.proofs.Common.{sym, ◌∙◌}
use Rattle.psabi_sym.specs.Inputs.{parsed}
use Rattle.block_cut.proofs.WordLaws.{no_item}
use Rattle.block_cut.proofs.code_tables.CodeTables.item.Goals as goal

pub returns-in_err-place : goal.returns-in_err-place
returns-in_err-place c = c.from_residual.ensures ∙ sym (no_item (parsed c.args.objects.now) c.args.p c.in_err-place.ensures)
