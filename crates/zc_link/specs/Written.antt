-- What is written in a layout: each item in the number of bytes that the layout gives it, with the value that its relocation asks
-- for (RISC-V ELF psABI, "Relocations"); a group of items as a push, a pop or two moves; or a jump or call through the table
-- (RISC-V Zc specification 1.0, "Zcmp" and "Zcmt").
use Rattle.std.specs.Prelude.{◌≡◌, ℕ, ℤ, pos, ◌-ℤ◌, ◌+◌, ◌-◌, ◌/◌, ◌%◌, ◌^◌, ◌<◌, ◌≤◌, ◌⊎◌, ◌==◌, if◌then◌else◌, List, [], ◌++◌, Bool, true, false, length, replicate, slice_index, take, All, Option, Some}
use Rattle.std.specs.List.{flat_map}
use Rattle.zc_base.specs.Fields.{half_bytes, word_bytes}
use Rattle.zc_base.specs.declared.place.Place.{Place}
use Rattle.elf32_read.specs.Parts.{SectionParts}
use Rattle.psabi_reloc.specs.Parts.{hi20_of, lo12_of}
use Rattle.psabi_sym.specs.Inputs.{parsed}
use Rattle.psabi_sym.specs.Indexed.{IndexedSection}
use Rattle.rv_decode.specs.declared.instr.Instr.{Instr}
use Rattle.rv_decode.specs.declared.instr.Instr.TheVariants as instr
use Rattle.rv_decode.specs.declared.instr.BranchOp.{BranchOp}
use Rattle.rv_decode.specs.declared.instr.UpperOp.TheVariants.{Auipc}
use Rattle.rv_decode.specs.Bits.{as_signed}
use Rattle.rv_decode.specs.Decode.{decoded}
use Rattle.rv_decode.specs.Normal.{normal_of}
use Rattle.zc_decode.specs.Halfwords.{decoded16}
use Rattle.zc_decode.specs.declared.short.Short.{Short}
use Rattle.zc_decode.specs.declared.short.Short.TheVariants.{Base, TableJump}
use Rattle.zc_encode.specs.Halves.{encoded16}
use Rattle.zca_zcb_pass.specs.Forms.{HasEffectOf, IsOpposite}
use Rattle.block_cut.specs.Items.{code_at, item_at, targets_of}
use Rattle.block_cut.specs.declared.item.Item.{Item}
use Rattle.block_cut.specs.declared.item.Item.TheVariants.{Op, Branch, Call, Align, Word, Raw, RawShort, RawPair}
use Rattle.frame_match.specs.declared.group.Group.{Group}
use Rattle.shrink_layout.specs.Units.{CodeUnit, OneGroup, OneItem, OneSite, front_size, is_push, rest_instr}
use Rattle.zc_link.specs.Copied.{bytes_from}
use Rattle.zc_link.specs.Front.{IsFront}
use Rattle.zc_link.specs.ImageParts.{with_address}
use Rattle.zc_link.specs.LaidOut.{code_end_after}
use Rattle.zc_link.specs.Meant.{meant}
use Rattle.zc_link.specs.TextLayout.{TextLayout, behind, front_end}
use Rattle.zc_link.specs.Values.{target_value, way}

-- ---- words and halfwords

-- the four bytes of a 32-bit instruction
pub record SpellsWord (bytes : List ℕ) (i : Instr) : Type 0 where
  pub word : ℕ
  pub small : word < 2 ^ 32
  pub are : bytes ≡ word_bytes word
  pub spells : decoded word ≡ Some i

-- the two bytes of an instruction's short form, which has its effect
pub record SpellsShort (bytes : List ℕ) (i : Instr) : Type 0 where
  pub half : ℕ
  pub small : half < 2 ^ 16
  pub are : bytes ≡ half_bytes half
  pub first : encoded16 (Base i) ≡ Some half
  pub same : HasEffectOf i half

-- the two bytes of a short instruction, in the first of its encodings
pub record SpellsHalf (bytes : List ℕ) (short : Short) : Type 0 where
  pub half : ℕ
  pub small : half < 2 ^ 16
  pub are : bytes ≡ half_bytes half
  pub first : encoded16 short ≡ Some half
  pub spells : decoded16 half ≡ Some short

-- the two bytes that the object has for an instruction, whose normal form is this one
pub record IsCopied (own : ℕ → List ℕ) (bytes : List ℕ) (i : Instr) : Type 0 where
  pub copies : bytes ≡ own 2
  pub half : ℕ
  pub small : half < 2 ^ 16
  pub are : bytes ≡ half_bytes half
  pub spelled : Instr
  pub spells : decoded16 half ≡ Some (Base spelled)
  pub normal : normal_of spelled ≡ i

-- an instruction in n bytes: its word or its short form
abbrev pub IsSpelled : ℕ → List ℕ → Instr → Type 0
IsSpelled n bytes i = ((n ≡ 4) × SpellsWord bytes i) ⊎ ((n ≡ 2) × SpellsShort bytes i)

-- `addi x0,x0,0` as a word, and as a halfword
abbrev pub nop : ℕ
nop = 0x13

abbrev pub short_nop : ℕ
short_nop = 0x1

-- `count` copies of a word
abbrev pub copies : ℕ → ℕ → List ℕ
copies word count = flat_map word_bytes (replicate count word)

-- n bytes of instructions that do nothing: a halfword if words alone don't fill them, and then words
abbrev pub padding : ℕ → List ℕ
padding n = (if n % 4 == 2 then half_bytes short_nop else []) ++ copies nop (n / 4)

-- ---- items

-- these n bytes are the instruction that an item is at an address
pub record SpellsMeant (L : TextLayout) (a n : ℕ) (item : Item) (bytes : List ℕ) : Type 0 where
  pub instr : Instr
  pub is : meant L.address (item_at (parsed L.inputs)) a item ≡ Some instr
  pub spelled : IsSpelled n bytes instr

-- the n bytes of an instruction without relocation: a word; or two bytes, which are the object's own if the layout keeps those,
-- or else the short form
abbrev pub IsOpWritten : Bool → (ℕ → List ℕ) → ℕ → Instr → List ℕ → Type 0
IsOpWritten true own n i bytes = ((n ≡ 4) × SpellsWord bytes i) ⊎ ((n ≡ 2) × IsCopied own bytes i)
IsOpWritten false own n i bytes = IsSpelled n bytes i

-- a branch of the opposite condition over eight bytes, and a jump whose distance is less by the four bytes before it
pub record IsLongBranch (op : BranchOp) (one two : ℕ) (distance : ℤ) (bytes : List ℕ) : Type 0 where
  pub other : BranchOp
  pub opposite : IsOpposite op other
  pub first : List ℕ
  pub second : List ℕ
  pub both : bytes ≡ first ++ second
  pub over : SpellsWord first (instr.Branch other one two (pos 8))
  pub jump : SpellsWord second (instr.Jal 0 (distance -ℤ pos 4))

-- an `auipc` and a `jalr` with the two parts of a distance
pub record IsLongCall (rd temp w : ℕ) (bytes : List ℕ) : Type 0 where
  pub first : List ℕ
  pub second : List ℕ
  pub both : bytes ≡ first ++ second
  pub upper : SpellsWord first (instr.Upper Auipc temp (hi20_of w))
  pub lower : SpellsWord second (instr.Jalr rd temp (lo12_of w))

-- P holds of the distance from an address to a place, which has an address
abbrev pub WithWay : (Place → Option ℕ) → ℕ → Place → (ℕ → Type 0) → Type 0
WithWay A a to P = (b : ℕ) × (A to ≡ Some b) × P (way a b)

-- these n bytes are what is written for an item of a place at an address; `own` gives the first bytes that the object has for it
abbrev pub IsWritten : TextLayout → Place → (own : ℕ → List ℕ) → (a n : ℕ) → Item → List ℕ → Type 0
IsWritten L q own a n (Op i) bytes = IsOpWritten (L.keeps_halfwords q) own n i bytes
IsWritten L q own a n (Branch op one two to) bytes =
    SpellsMeant L a n (Branch op one two to) bytes ⊎ ((n ≡ 8) × WithWay L.address a to (λ w. IsLongBranch op one two (as_signed w) bytes))
IsWritten L q own a n (Call rd temp to) bytes =
    SpellsMeant L a n (Call rd temp to) bytes ⊎ ((n ≡ 8) × WithWay L.address a to (λ w. IsLongCall rd temp w bytes))
IsWritten L q own a n (Align k) bytes = bytes ≡ padding n
IsWritten L q own a n (Word t) bytes = (x : ℕ) × (target_value L.address t ≡ Some x) × (bytes ≡ word_bytes x)
IsWritten L q own a n (Raw word) bytes = bytes ≡ own 4
IsWritten L q own a n (RawShort half) bytes = bytes ≡ own 2
IsWritten L q own a n (RawPair first second) bytes = bytes ≡ own 8
IsWritten L q own a n item bytes = SpellsMeant L a n item bytes

-- ---- groups

-- the n bytes of a push or pop in two instructions: its halfword, and what moves sp by the rest of its frame, after a push and
-- before a pop
pub record IsSplit (n : ℕ) (g : Group) (bytes : List ℕ) : Type 0 where
  pub half : List ℕ
  pub other : List ℕ
  pub both : bytes ≡ (if is_push g.kind then half ++ other else other ++ half)
  pub spells : SpellsHalf half g.kind
  pub rest : IsSpelled (n - 2) other (rest_instr g)

-- the n bytes of a group: its halfword, which moves sp by all of its frame, or two instructions
abbrev pub IsGroupWritten : ℕ → Group → List ℕ → Type 0
IsGroupWritten n g bytes = ((g.rest ≡ 0) × SpellsHalf bytes g.kind) ⊎ ((0 < g.rest) × IsSplit n g bytes)

-- ---- units

-- what is written at a place in n bytes
abbrev pub UnitWritten : TextLayout → Place → (own : ℕ → List ℕ) → (a n : ℕ) → CodeUnit → List ℕ → Type 0
UnitWritten L q own a n (OneItem i) bytes = IsWritten L q own a n i bytes
UnitWritten L q own a n (OneGroup g) bytes = IsGroupWritten n g bytes
UnitWritten L q own a n (OneSite slot) bytes = SpellsHalf bytes (TableJump slot)

-- ---- text

-- what the text holds of a unit: it is written at its place's address, up to that of the place after it
pub record HoldsUnit (L : TextLayout) (text : List ℕ) (e : Place × ℕ) (u : CodeUnit) : Type 0 where
  pub size : ℕ
  pub next : L.address (behind L e.0) ≡ Some (e.1 + size)
  pub low : front_end L ≤ e.1
  pub within : e.1 + size ≤ L.inputs.map.text + length text
  pub section : SectionParts
  pub here : code_at (parsed L.inputs).objects e.0 ≡ Some section
  pub written :
      UnitWritten L e.0 (bytes_from section.bytes e.0.offset) e.1 size u (bytes_from text (e.1 - L.inputs.map.text) size)

abbrev pub HoldsPlace : TextLayout → List ℕ → Place × ℕ → Type 0
HoldsPlace L text e = (u : CodeUnit) → L.unit e.0 ≡ Some u → HoldsUnit L text e u

-- the text begins with the table and its stub, if there is a table
abbrev pub HoldsFront : TextLayout → List ℕ → Type 0
HoldsFront L text = IsFront L (take (front_size L.slots) text)

-- nothing is written over the byte at an address
abbrev pub IsGap : TextLayout → ℕ → Type 0
IsGap L a =
    (q : Place) (u : CodeUnit) (b n : ℕ) → L.unit q ≡ Some u → L.address q ≡ Some b → L.address (behind L q) ≡ Some (b + n)
    → (a < b) ⊎ (b + n ≤ a)

-- all bytes of a text after the table and its stub that nothing is written over are 0
abbrev pub GapsAreZero : TextLayout → List ℕ → Type 0
GapsAreZero L text =
    (k : ℕ) → front_size L.slots ≤ k → k < length text → IsGap L (L.inputs.map.text + k) → slice_index text k ≡ 0

-- the text up to an address: it lists these places, it ends there, it begins with the table and its stub, it holds what is
-- written at the places, and all other bytes are 0
pub record IsSoFar (L : TextLayout) (targets : List Place) (end : ℕ) (text : List ℕ) (places : List (Place × ℕ)) : Type 0 where
  pub listed : places ≡ flat_map (with_address L) targets
  pub ends : L.inputs.map.text + length text ≡ end
  pub front : HoldsFront L text
  pub holds : All (HoldsPlace L text) places
  pub gaps : GapsAreZero L text
  pub octets : (k : ℕ) → slice_index text k < 256

-- the text of these sections, one after another, with their places
abbrev pub IsTextOf : TextLayout → List IndexedSection → List ℕ → List (Place × ℕ) → Type 0
IsTextOf L sections text places = IsSoFar L (flat_map targets_of sections) (code_end_after L sections) text places
