use Rattle.std.proofs.Common.{arith, sym}
use Rattle.instruction_text.proofs.ReadLaws.{too_short}
use Rattle.instruction_text.proofs.read.read_hex_half.Goals as goal

pub returns-then-word-lt2 : goal.returns-then-word-lt2
returns-then-word-lt2 c = sym (too_short c.args.word.now (omega arith))
