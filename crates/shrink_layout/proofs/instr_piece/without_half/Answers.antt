use Rattle.shrink_layout.proofs.HalfLaws.{no_table_half}
use Rattle.shrink_layout.proofs.instr_piece.without_half.Goals as goal

pub returns-clause-half : goal.returns-clause-half
returns-clause-half c = no_table_half
