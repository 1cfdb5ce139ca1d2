-- The program that objects are.
use Rattle.std.specs.Prelude.{◌-◌, List, ◌++◌, map, replicate}
use Rattle.std.specs.List.{fold}
use Rattle.psabi_sym.specs.Contents.{data_contents, overlaid}
use Rattle.psabi_sym.specs.Data.{data_end, data_file_end}
use Rattle.psabi_sym.specs.Inputs.{ParsedInputs}
use Rattle.block_cut.specs.DataWords.{data_words}
use Rattle.block_cut.specs.Items.{entry_of, item_at, next_at}
use Rattle.sym_machine.specs.declared.word.SymByte.{SymByte}
use Rattle.sym_machine.specs.declared.word.SymByte.TheVariants.{Num}
use Rattle.sym_machine.specs.AddressParts.{bytes_of, target_word}
use Rattle.sym_machine.specs.Program.{Program}

-- the bytes of data: as files hold them, with zeros from there to the data's end, and then each word that holds an address over them
unfoldable pub data_bytes : ParsedInputs → List SymByte
data_bytes inputs =
    fold (λ bytes w. overlaid (w.at - inputs.map.data_low) (bytes_of (target_word w.target)) bytes)
    (map Num (data_contents inputs ++ replicate (data_end inputs - data_file_end inputs) 0)) (data_words inputs)

-- the objects' own items, one after another, and their data
unfoldable pub program_of : ParsedInputs → Program
program_of inputs = record {
  item = item_at inputs;
  next = next_at inputs.objects;
  entry = entry_of inputs;
  map = inputs.map;
  bytes = data_bytes inputs;
}
