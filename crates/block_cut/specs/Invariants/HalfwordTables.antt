-- Tables with an entry for each halfword of a section of code: which relocation says what stands there, and which place it is.
use Rattle.std.specs.Prelude.{◌≡◌, ℕ, ◌+◌, ◌-◌, ◌*◌, ◌/◌, ◌<◌, ◌||◌, ◌==◌, if◌then◌else◌, List, [], length, map, slice_get, slice_index_or, ◌≤◌, Option, Some, None}
use Rattle.std.specs.List.{find, range_with_len}
use Rattle.std.specs.Option.{option_map_or}
use Rattle.elf32_read.specs.Parts.{SectionParts, is_code_section}
use Rattle.psabi_reloc.specs.declared.kind.RelocKind.{RelocKind}
use Rattle.psabi_reloc.specs.declared.kind.RelocKind.TheVariants.{Align, Call, RvcBranch, RvcJump}
use Rattle.block_cut.specs.CodeSizes.{own_size}
use Rattle.block_cut.specs.Instrs.{CodeBytes}
use Rattle.block_cut.specs.Items.{starts_on}
use Rattle.block_cut.specs.PlainLayout.{starts_before}
use Rattle.block_cut.specs.Resolved.{is_right_at}
use Rattle.block_cut.specs.declared.resolved_reloc.ResolvedReloc.{ResolvedReloc}

-- f of the offset of each halfword of a section, and of its end
abbrev pub by_halfword : {W : Type 0} → (ℕ → W) → SectionParts → List W
by_halfword f s = map (λ k. f (2 * k)) (range_with_len 0 (length s.bytes / 2 + 1))

-- a relocation by its number in a list, from 1 on; 0 stands for none
abbrev pub numbered : List ResolvedReloc → ℕ → Option ResolvedReloc
numbered relocs n = if n == 0 then None else slice_get relocs (n - 1)

-- a table with `count` entries: for each halfword the number of the relocation that decides its item, or 0
pub record IsRelocTable (relocs : List ResolvedReloc) (count : ℕ) (table : List ℕ) : Type 0 where
  pub count_is : length table ≡ count
  pub each : (k : ℕ) → k < count → numbered relocs (slice_index_or table k 0) ≡ find (is_right_at (2 * k)) relocs

-- the number of the place at an offset of a section of code, from 1 on; 0 if no item starts there and the section doesn't end there
abbrev pub number_on : SectionParts → ℕ → ℕ
number_on s n = if starts_on s n || n == length s.bytes then length (starts_before s n) + 1 else 0

-- the place numbers of a section, by halfwords; what isn't code has none
abbrev pub numbers_of_section : SectionParts → List ℕ
numbers_of_section s = if is_code_section s then by_halfword (number_on s) s else []

-- the number of bytes that decide which item a relocation of this kind makes; for padding none do
abbrev pub read_length : Option RelocKind → ℕ
read_length (Some Call) = 8
read_length (Some RvcBranch) = 2
read_length (Some RvcJump) = 2
read_length (Some Align) = 0
read_length other = 4

-- a section has the bytes that say which item stands at an offset, by its relocation
abbrev pub HasRoom : CodeBytes → ℕ → Option ResolvedReloc → Type 0
HasRoom content n reloc =
    n + option_map_or (λ d. read_length d.kind) reloc (own_size content.compressed content.bytes n) ≤ length content.bytes
