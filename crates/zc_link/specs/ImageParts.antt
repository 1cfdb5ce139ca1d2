-- The image of a link: its places, its bytes of data (if A gives the addresses of places), and its parts around the text.
use Rattle.std.specs.Prelude.{ℕ, ◌-◌, if◌then◌else◌, List, Option}
use Rattle.std.specs.List.{flat_map, fold, list_any}
use Rattle.std.specs.Option.{option_map, option_to_list, unwrap_or}
use Rattle.zc_base.specs.Fields.{word_bytes}
use Rattle.zc_base.specs.declared.place.Place.{Place}
use Rattle.elf32_read.specs.Compressed.{has_rvc}
use Rattle.elf32_write.specs.Parts.{Parts}
use Rattle.psabi_sym.specs.Contents.{data_contents, overlaid}
use Rattle.psabi_sym.specs.Data.{data_end, data_file_end}
use Rattle.psabi_sym.specs.Inputs.{ParsedInputs, parsed}
use Rattle.block_cut.specs.DataWords.{data_words}
use Rattle.block_cut.specs.Items.{all_targets}
use Rattle.block_cut.specs.declared.data_word.DataWord.{DataWord}
use Rattle.zc_link.specs.Front.{image_entry}
use Rattle.zc_link.specs.TextLayout.{TextLayout}
use Rattle.zc_link.specs.Values.{target_value}

-- ---- places

-- a place with its address, if it has one
abbrev pub with_address : TextLayout → Place → List (Place × ℕ)
with_address L q = option_to_list (option_map (λ a. (q, a)) (L.address q))

-- the places that an image lists: of those that code may lead to, all that have an address
unfoldable pub listed_places : TextLayout → List (Place × ℕ)
listed_places L = flat_map (with_address L) (all_targets (parsed L.inputs).objects)

-- ---- data

-- the value of a word that holds a target's address
abbrev pub data_value : (Place → Option ℕ) → DataWord → ℕ
data_value A w = unwrap_or (target_value A w.target) 0

-- the bytes of data, from the map's start of data on, with this word written over those at its address
abbrev pub with_data_word : ParsedInputs → (Place → Option ℕ) → List ℕ → DataWord → List ℕ
with_data_word inputs A bytes w = overlaid (w.at - inputs.map.data_low) (word_bytes (data_value A w)) bytes

-- the bytes of data that the image holds: those of the objects, with each word that a relocation fills in
unfoldable pub image_data : ParsedInputs → (Place → Option ℕ) → List ℕ
image_data inputs A = fold (with_data_word inputs A) (data_contents inputs) (data_words inputs)

-- ---- parts

-- e_flags of an image that holds code as it is: RVC (1) if some object is compressed, since its code may have instructions of
-- 2 bytes, and else none (RISC-V ELF psABI, "File Header")
abbrev pub plain_flags : ParsedInputs → ℕ
plain_flags inputs = if list_any (λ object. has_rvc object.flags) inputs.objects then 1 else 0

-- the parts of an image with this text; e_flags says whether there are 16-bit instructions (RISC-V ELF psABI, "File Header")
abbrev pub parts_of : TextLayout → ℕ → List ℕ → Parts
parts_of L flags text = record {
  entry = image_entry L;
  flags = flags;
  text_at = L.inputs.map.text;
  text = text;
  data_at = L.inputs.map.data_low;
  data_bytes = image_data (parsed L.inputs) L.address;
  zero = data_end (parsed L.inputs) - data_file_end (parsed L.inputs);
  places = listed_places L;
}
