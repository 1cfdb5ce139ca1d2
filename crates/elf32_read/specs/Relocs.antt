-- The relocations of an object (System V gABI, "Relocation").
use Rattle.std.specs.Prelude.{ℕ, ◌+◌, ◌*◌, ◌/◌, ◌%◌, ◌&&◌, ◌==◌, List, length, map, filter}
use Rattle.std.specs.Int.{w32, cast_signed}
use Rattle.std.specs.List.{range_with_len}
use Rattle.zc_base.specs.Fields.{word_in}
use Rattle.elf32_read.specs.Header.{headers_of}
use Rattle.elf32_read.specs.declared.header.SectionHeader.{SectionHeader}
use Rattle.elf32_read.specs.declared.reloc.Reloc.{Reloc}

-- an entry of 12 bytes: the words r_offset, r_info (the symbol, and the type in the lowest byte) and r_addend
unfoldable pub reloc_at : List ℕ → ℕ → Reloc
reloc_at content k = let at = 12 * k in record {
  offset = word_in content at;
  symbol = word_in content (at + 4) / 256;
  kind = word_in content (at + 4) % 256;
  addend = cast_signed w32 (word_in content (at + 8));
}

-- all entries, in order
abbrev pub relocs_in : List ℕ → List Reloc
relocs_in content = map (reloc_at content) (range_with_len 0 (length content / 12))

-- the sections with relocations, RELA (4), of the section with this index, in order: sh_info names it
abbrev pub relas_for : List ℕ → ℕ → List SectionHeader
relas_for bytes i = filter (λ h. h.kind == 4 && h.info == i) (headers_of bytes)
