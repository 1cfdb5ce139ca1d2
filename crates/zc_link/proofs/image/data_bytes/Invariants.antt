-- The words so far lie over the objects' bytes.
use Rattle.std.proofs.Common.{◌≡◌, take}
use Rattle.std.specs.List.{fold}
use Rattle.psabi_sym.specs.Contents.{data_contents}
use Rattle.psabi_sym.specs.Inputs.{parsed}
use Rattle.block_cut.specs.DataWords.{data_words}
use Rattle.zc_link.specs.ImageParts.{with_data_word}
use Rattle.zc_link.proofs.image.data_bytes.Given as goal

abbrev pub invariant-loop-word : goal.invariant-loop-word
invariant-loop-word g l =
    l.bytes.items ≡ fold (with_data_word (parsed (g.L.Layout.layout l.layout).inputs) (g.L.Layout.layout l.layout).address) (data_contents (parsed (g.L.Layout.layout l.layout).inputs)) (take l.word-index (data_words (parsed (g.L.Layout.layout l.layout).inputs)))
