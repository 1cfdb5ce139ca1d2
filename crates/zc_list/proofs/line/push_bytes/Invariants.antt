use Rattle.std.proofs.Common.{◌≡◌, ◌++◌, ◌∷◌, drop}
use Rattle.std.specs.Prelude.{codes, flat_map}
use Rattle.text_lines.specs.Hex.{hex_byte}
use Rattle.zc_list.proofs.line.push_bytes.Given as goal

abbrev pub invariant-loop-byte : goal.invariant-loop-byte
invariant-loop-byte l = l.text.items ++ flat_map (λ b. 32 ∷ hex_byte b) (drop l.byte-index l.bytes) ≡ l.fn.text.items ++ (codes ".byte" ++ flat_map (λ b. 32 ∷ hex_byte b) l.bytes)
