-- What an image holds of code that isn't an instruction: the objects' own bytes, or an address.
use Rattle.std.specs.Prelude.{◌≡◌, ℕ, ◌-◌, List, drop, take, Option, Some}
use Rattle.zc_base.specs.Fields.{word_bytes}
use Rattle.zc_base.specs.declared.place.Place.{Place}
use Rattle.elf32_read.specs.Parts.{SectionParts}
use Rattle.elf32_read.specs.Segments.{SegmentData}
use Rattle.psabi_sym.specs.Inputs.{ParsedInputs}
use Rattle.block_cut.specs.Items.{code_at, item_at}
use Rattle.block_cut.specs.declared.item.Item.{Item}
use Rattle.block_cut.specs.declared.item.Item.TheVariants.{Op, Hi, Lo, PcHi, PcLo, Branch, Jump, Call, Align, Word, Raw, RawShort, RawPair}
use Rattle.zc_link.specs.Values.{target_value}

-- n bytes from an offset on
abbrev pub bytes_from : List ℕ → ℕ → ℕ → List ℕ
bytes_from bytes at n = take n (drop at bytes)

-- what these bytes hold of an item, if A gives the addresses of places: an item that is copied unread has the object's own bytes,
-- and a word in code its target's address; of other items nothing is said here
abbrev pub ItemCopied : (Place → Option ℕ) → (ℕ → List ℕ) → (ℕ → List ℕ) → Item → Type 0
ItemCopied A own bytes (Op i) = Unit {0}
ItemCopied A own bytes (Hi i t) = Unit {0}
ItemCopied A own bytes (Lo i t) = Unit {0}
ItemCopied A own bytes (PcHi i t) = Unit {0}
ItemCopied A own bytes (PcLo i from) = Unit {0}
ItemCopied A own bytes (Branch op first second to) = Unit {0}
ItemCopied A own bytes (Jump rd to) = Unit {0}
ItemCopied A own bytes (Call rd temp to) = Unit {0}
ItemCopied A own bytes (Align n) = Unit {0}
ItemCopied A own bytes (Word t) = (value : ℕ) × (target_value A t ≡ Some value) × (bytes 4 ≡ word_bytes value)
ItemCopied A own bytes (Raw word) = bytes 4 ≡ own 4
ItemCopied A own bytes (RawShort half) = bytes 2 ≡ own 2
ItemCopied A own bytes (RawPair first second) = bytes 8 ≡ own 8

-- a segment of code holds each item in this way, at the address that is listed for its place
abbrev pub IsCopiedTo : ParsedInputs → (Place → Option ℕ) → SegmentData → Type 0
IsCopiedTo inputs A text =
    (q : Place) (a : ℕ) (s : SectionParts) (item : Item) → A q ≡ Some a → code_at inputs.objects q ≡ Some s → item_at inputs q ≡ Some item
    → ItemCopied A (bytes_from s.bytes q.offset) (bytes_from text.bytes (a - text.at)) item
