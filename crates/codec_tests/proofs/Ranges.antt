-- What decodes has an immediate with room in a word.
use Rattle.std.proofs.Common.{sym, ◌∙◌}
use Rattle.std.specs.Prelude.{◌≡◌, ℕ, Option, Some}
use Rattle.rv_decode.specs.declared.instr.Instr.{Instr}
use Rattle.rv_decode.specs.Decode.{decoded}
use Rattle.rv_decode.specs.Immediates.{InRange}
use Rattle.rv_decode.proofs.DecodeLaws.{decoded-in_range}

pub in_range : (word : ℕ) (i : Instr) (o : Option Instr) → o ≡ decoded word → o ≡ Some i → InRange i
in_range word i o is found = decoded-in_range word i (sym is ∙ found)
