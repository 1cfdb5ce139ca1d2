-- That an image needs no extension that the chip lacks (RISC-V unprivileged manual, "Expanded Instruction-Length Encoding"; RISC-V Zc
-- specification 1.0). What is copied unread, words that hold addresses, and fixed sections may be anything.
use Rattle.std.specs.Prelude.{◌≡◌, ℕ, ◌+◌, ◌-◌, ◌*◌, ◌%◌, ◌==◌, ◌&&◌, ◌⊎◌, if◌then◌else◌, Bool, true, false, List, [], ◌∷◌, Some}
use Rattle.zc_base.specs.declared.extensions.Extensions.{Extensions}
use Rattle.zc_base.specs.declared.place.Place.{Place}
use Rattle.zc_decode.specs.Extensions.{has_half}
use Rattle.psabi_sym.specs.Fixed.{is_fixed_at}
use Rattle.psabi_sym.specs.Inputs.{parsed}
use Rattle.block_cut.specs.declared.item.Item.TheVariants.{Word, Raw, RawShort, RawPair}
use Rattle.shrink_layout.specs.Units.{CodeUnit, OneItem}
use Rattle.zc_link.specs.Copied.{bytes_from}
use Rattle.zc_link.specs.TextLayout.{TextLayout, behind}

-- these bytes are words and halfwords, read on from the first, and a chip with these extensions has each of the halfwords; a word
-- begins where the low two bits are 11
abbrev pub is_supported : Extensions → List ℕ → Bool
is_supported extensions [] = true
is_supported extensions (a ∷ []) = false
is_supported extensions (a ∷ b ∷ []) = has_half extensions (a + 256 * b)
is_supported extensions (a ∷ b ∷ c ∷ []) = false
is_supported extensions (a ∷ b ∷ c ∷ d ∷ rest) =
    if a % 4 == 3 then is_supported extensions rest else has_half extensions (a + 256 * b) && is_supported extensions (c ∷ d ∷ rest)

-- what is copied unread, or is a word that holds an address
abbrev pub is_opaque : CodeUnit → Bool
is_opaque (OneItem (Word t)) = true
is_opaque (OneItem (Raw word)) = true
is_opaque (OneItem (RawShort half)) = true
is_opaque (OneItem (RawPair first second)) = true
is_opaque other = false

-- a text in a layout needs no extension that the chip of the layout's map lacks
pub record FitsChip (L : TextLayout) (text : List ℕ) : Type 0 where
  -- what is written at a place is words and halfwords that the chip has, up to the address of the place after it, unless it is
  -- copied unread, or holds an address, or its section is fixed
  pub units :
      (q : Place) (a end : ℕ) (u : CodeUnit) → L.unit q ≡ Some u → is_opaque u ≡ false
      → is_fixed_at (parsed L.inputs) q.object q.section ≡ false → L.address q ≡ Some a → L.address (behind L q) ≡ Some end
      → is_supported L.inputs.map.extensions (bytes_from text (a - L.inputs.map.text) (end - a)) ≡ true
  -- there is no table, or the chip has Zcmt
  pub front : (L.slots ≡ []) ⊎ (L.inputs.map.extensions.zcmt ≡ true)
