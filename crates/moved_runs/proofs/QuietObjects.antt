-- The program of objects starts quiet: their data end at the stack's low end at the latest.
use Rattle.std.proofs.Common.{◌≡◌, ℕ, ◌+◌, ◌-◌, ◌≤◌, List, [], ◌∷◌, ◌++◌, length, map, replicate, refl, ◌∙◌, arith, length-append}
use Rattle.std.specs.List.{fold}
use Rattle.std.proofs.lemmas.List.{length-map, length-replicate}
use Rattle.zc_base.specs.MemMap.{IsMap, data_limit}
use Rattle.psabi_sym.specs.Contents.{data_contents}
use Rattle.psabi_sym.specs.Data.{data_end, data_file_end}
use Rattle.psabi_sym.specs.Inputs.{ParsedInputs}
use Rattle.psabi_sym.proofs.ContentLaws.{data_file_end-le, data_low-le, length-data_contents, length-overlaid}
use Rattle.block_cut.specs.DataWords.{data_words}
use Rattle.block_cut.specs.declared.data_word.DataWord.{DataWord}
use Rattle.sym_machine.specs.AddressParts.{bytes_of, target_word}
use Rattle.sym_machine.specs.Objects.{data_bytes, program_of}
use Rattle.sym_machine.specs.declared.word.SymByte.{SymByte}
use Rattle.sym_machine.specs.declared.word.SymByte.TheVariants.{Num}
use Rattle.moved_runs.specs.Moves.{StartsQuiet}
use Rattle.moved_runs.proofs.PassBytes.{with_word}
use Rattle.moved_runs.proofs.PassContents.{unfilled_bytes}
use Rattle.moved_runs.proofs.Quiet.{starts-quiet}

module _ (inputs : ParsedInputs) where
  length-words : (bytes : List SymByte) (ws : List DataWord) → length (fold (with_word inputs) bytes ws) ≡ length bytes
  length-words bytes [] = refl
  length-words bytes (w ∷ ws) = length-words (with_word inputs bytes w) ws ∙ length-overlaid (w.at - inputs.map.data_low) (bytes_of (target_word w.target)) bytes

  zeros : List ℕ
  zeros = replicate (data_end inputs - data_file_end inputs) 0

  length-unfilled : length (unfilled_bytes inputs) ≡ data_end inputs - inputs.map.data_low
  unfolding zeros
  length-unfilled =
      let all : length (data_contents inputs ++ zeros) ≡ length (data_contents inputs) + length zeros = length-append (data_contents inputs) zeros in
      let more : length zeros ≡ data_end inputs - data_file_end inputs = length-replicate (data_end inputs - data_file_end inputs) 0 in
      let same : length (map Num (data_contents inputs ++ zeros)) ≡ length (data_contents inputs ++ zeros) = length-map (data_contents inputs ++ zeros) Num in
      omega (arith, same, all, more, length-data_contents inputs, data_low-le inputs, data_file_end-le inputs)

  -- data have as many bytes as lie between their start and their end
  pub length-data_bytes : length (data_bytes inputs) ≡ data_end inputs - inputs.map.data_low
  unfolding data_bytes
  length-data_bytes = length-words (unfilled_bytes inputs) (data_words inputs) ∙ length-unfilled

  pub objects-quiet : IsMap inputs.map → data_end inputs ≤ inputs.map.data_low + data_limit inputs.map → StartsQuiet (program_of inputs)
  unfolding program_of
  objects-quiet is room =
      let size = length-data_bytes in
      let below = is.below in
      let stack = is.stack in
      let top = is.top in
      starts-quiet (program_of inputs) (omega (arith, stack)) (omega (arith, top)) (omega (arith, size, below, stack, room, data_low-le inputs, data_file_end-le inputs))
