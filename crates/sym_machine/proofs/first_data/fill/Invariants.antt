use Rattle.std.specs.Prelude.{◌≡◌, ◌-◌, length, take}
use Rattle.std.specs.List.{fold}
use Rattle.psabi_sym.specs.Contents.{overlaid}
use Rattle.psabi_sym.specs.Inputs.{parsed}
use Rattle.block_cut.specs.DataWords.{data_words}
use Rattle.sym_machine.specs.AddressParts.{bytes_of, target_word}
use Rattle.sym_machine.proofs.first_data.fill.Given as goal

abbrev pub invariant-loop-word : goal.invariant-loop-word
invariant-loop-word l =
    let inputs = parsed l.cut in
    (length l.bytes ≡ length l.fn.bytes) × (l.bytes ≡ fold (λ bytes w. overlaid (w.at - inputs.map.data_low) (bytes_of (target_word w.target)) bytes) l.fn.bytes (take l.word-index (data_words inputs)))
