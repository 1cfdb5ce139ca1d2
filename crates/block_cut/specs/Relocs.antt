-- Relocations of a section: which field each has, which ones decide an item, and which ones are wrong (RISC-V ELF psABI,
-- "Relocations").
use Rattle.std.specs.Prelude.{ℕ, ℤ, pos, negsuc, ◌+◌, ◌%◌, Bool, true, false, not, ◌&&◌, ◌||◌, ◌==◌, if◌then◌else◌, nat_lt, nat_le, max, min, List, length, filter, Option, Some, None}
use Rattle.std.specs.List.{find, list_any}
use Rattle.zc_base.specs.Fields.{half_in, word_in}
use Rattle.elf32_read.specs.Parts.{SectionParts, is_code_section}
use Rattle.elf32_read.specs.declared.reloc.Reloc.{Reloc}
use Rattle.psabi_reloc.specs.Kinds.{field_length, fits, is_auipc, kind_of}
use Rattle.psabi_reloc.specs.declared.kind.RelocKind.{RelocKind}
use Rattle.psabi_reloc.specs.declared.kind.RelocKind.TheVariants.{Ignored, Word, Branch, Jal, Call, PcrelHi20, PcrelLo12I, PcrelLo12S, RvcBranch, RvcJump, Align}
use Rattle.rv_decode.specs.Decode.{decoded}
use Rattle.rv_decode.specs.Normal.{normal_of}
use Rattle.rv_decode.specs.declared.instr.Instr.{Instr}
use Rattle.zc_decode.specs.Halfwords.{decoded16}
use Rattle.zc_decode.specs.declared.short.Short.{Short}
use Rattle.zc_decode.specs.declared.short.Short.TheVariants.{Base}
use Rattle.block_cut.specs.CodeSizes.{code_step}

-- ---- fields

-- the number of bytes that a relocation changes, and where they end; they begin at its offset
abbrev pub field_of : Reloc → ℕ
field_of r = field_length (kind_of r.kind) r.addend

abbrev pub field_end : Reloc → ℕ
field_end r = r.offset + field_of r

-- both relocations change one byte
abbrev pub overlap : Reloc → Reloc → Bool
overlap r s = nat_lt (max r.offset s.offset) (min (field_end r) (field_end s))

-- a byte is changed by this relocation and by another one; each relocation that changes a byte overlaps itself
abbrev pub overlaps_another : List Reloc → Reloc → Bool
overlaps_another relocs r = nat_lt 1 (length (filter (overlap r) relocs))

-- ---- kinds

-- a kind that the linker ignores
abbrev pub is_ignored : Option RelocKind → Bool
is_ignored (Some Ignored) = true
is_ignored other = false

-- a kind that fills in a word, which may be in data as well
abbrev pub is_word : Option RelocKind → Bool
is_word (Some Word) = true
is_word other = false

-- the kinds of the upper part and of the lower parts of a PC-relative pair
abbrev pub is_pcrel_hi : Option RelocKind → Bool
is_pcrel_hi (Some PcrelHi20) = true
is_pcrel_hi other = false

abbrev pub is_pcrel_lo : Option RelocKind → Bool
is_pcrel_lo (Some PcrelLo12I) = true
is_pcrel_lo (Some PcrelLo12S) = true
is_pcrel_lo other = false

-- a kind that makes its instruction go to its target
abbrev pub is_transfer : Option RelocKind → Bool
is_transfer (Some Branch) = true
is_transfer (Some Jal) = true
is_transfer (Some Call) = true
is_transfer (Some RvcBranch) = true
is_transfer (Some RvcJump) = true
is_transfer other = false

-- a kind that changes an instruction of 2 bytes
abbrev pub is_rvc : Option RelocKind → Bool
is_rvc (Some RvcBranch) = true
is_rvc (Some RvcJump) = true
is_rvc other = false

-- ---- what can't stand

-- a kind that isn't known, that can't be in data, or that changes an instruction of 2 bytes where all have 4
abbrev pub is_bad_kind : SectionParts → Option RelocKind → Bool
is_bad_kind s None = true
is_bad_kind s (Some k) =
    not (is_code_section s) && (not (is_ignored (Some k)) && not (is_word (Some k))) || is_rvc (Some k) && not s.compressed

-- padding of n bytes, in whole steps
abbrev pub is_padding : Bool → ℤ → Bool
is_padding compressed (pos n) = nat_lt 0 n && (nat_lt n 256 && (n % code_step compressed == 0))
is_padding compressed (negsuc n) = false

-- the 32-bit instruction that a short one stands for, in its normal form; those of Zcmp and Zcmt have none
abbrev pub normal_base : Option Short → Option Instr
normal_base (Some (Base i)) = Some (normal_of i)
normal_base other = None

-- the instruction of `size` bytes at an offset
abbrev pub instr_in : ℕ → List ℕ → ℕ → Option Instr
instr_in size bytes n = if size == 2 then normal_base (decoded16 (half_in bytes n)) else decoded (word_in bytes n)

-- what a kind asks of the addend and of the instructions at an offset
abbrev pub fits_at : SectionParts → ℕ → ℤ → Option RelocKind → Bool
fits_at s n addend None = true
fits_at s n addend (Some Align) = is_padding s.compressed addend
fits_at s n addend (Some RvcBranch) = fits RvcBranch (instr_in 2 s.bytes n) None
fits_at s n addend (Some RvcJump) = fits RvcJump (instr_in 2 s.bytes n) None
fits_at s n addend (Some k) = fits k (instr_in 4 s.bytes n) (instr_in 4 s.bytes (n + 4))

-- in code a relocation begins at a step, and changes what is of its kind
abbrev pub is_placed : SectionParts → Reloc → Bool
is_placed s r = not (is_code_section s) || ((r.offset % code_step s.compressed == 0) && fits_at s r.offset r.addend (kind_of r.kind))

-- a field that goes beyond the section's end, isn't placed as its kind asks, or is changed by another relocation as well
abbrev pub is_bad_place : SectionParts → Reloc → Bool
is_bad_place s r =
    not (is_ignored (kind_of r.kind)) && (nat_lt s.size (field_end r) || (not (is_placed s r) || overlaps_another s.relocs r))

-- ---- what says what an item is

-- a relocation that changes something, whose kind and place are right
abbrev pub is_sound : SectionParts → Reloc → Bool
is_sound s r = not (is_ignored (kind_of r.kind)) && (not (is_bad_kind s (kind_of r.kind)) && not (is_bad_place s r))

-- the relocation that decides the item at an offset of a section
unfoldable pub reloc_on : SectionParts → ℕ → Option Reloc
reloc_on s n = find (λ r. is_sound s r && r.offset == n) s.relocs

-- the upper part of a PC-relative pair stands at an offset: an `auipc` with its relocation, whatever else is wrong with that
abbrev pub has_pcrel_hi_at : SectionParts → ℕ → Bool
has_pcrel_hi_at s n =
    nat_le (n + 4) (length s.bytes) && (is_auipc (instr_in 4 s.bytes n) && list_any (λ r. is_pcrel_hi (kind_of r.kind) && r.offset == n) s.relocs)
