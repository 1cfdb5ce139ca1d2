use Rattle.std.proofs.Common.{◌≡◌, ◌*◌, map}
use Rattle.std.specs.List.{range_with_len}
use Rattle.block_cut.specs.Relocs.{instr_in}
use Rattle.block_cut.proofs.section_words.decode_words.Given as goal

abbrev pub invariant-loop-k : goal.invariant-loop-k
invariant-loop-k l = l.words.items ≡ map (λ k. instr_in 4 l.bytes (4 * k)) (range_with_len 0 l.k)
