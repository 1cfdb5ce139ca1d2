use Rattle.std.proofs.Common.{sym, ◌∙◌}
use Rattle.shrink_layout.proofs.ChipLaws.{zcb_half}
use Rattle.shrink_layout.proofs.instr_piece.has_short.Goals as goal

-- src/instr_piece.rt: a chip with Zcb
pub returns-then-extensions : goal.returns-then-extensions
returns-then-extensions c = c.if-extensions.true ∙ sym (zcb_half c.args.extensions c.args._i c.args.half c.if-extensions.true c.requires)
