use Rattle.std.proofs.Common.{◌≡◌, ◌++◌, filter, map, take}
use Rattle.block_cut.specs.DataWords.{resolved_word}
use Rattle.block_cut.specs.Relocs.{is_word}
use Rattle.block_cut.proofs.data_words.add_words.Given as goal

abbrev pub invariant-loop-reloc : goal.invariant-loop-reloc
invariant-loop-reloc l = l.words.items ≡ l.fn.words.items ++ map (resolved_word l.at) (filter (λ d. is_word d.kind) (take l.reloc-index l.relocs))
