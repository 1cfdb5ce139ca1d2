-- Sizes of files of small objects, and which object is the first that is too large.
use Rattle.std.proofs.Common.{◌≡◌, ℕ, ◌+◌, pos, List, [], ◌∷◌, refl, ap, Bool, true, false, cond, ltb, Some, None}
use Rattle.std.specs.Prelude.{codes, not}
use Rattle.std.specs.Option.{option_map, option_or}
use Rattle.elf32_read.specs.Parts.{ObjectParts, SectionParts, SymbolParts}
use Rattle.elf32_write.specs.ObjectFile.{object_size, section_total}
use Rattle.object_passes.specs.Rooms.{parts_room, room_size, room_total, symbols_room}
use Rattle.object_passes.specs.Sizes.{first_oversized, is_small_object, passes_sum}

-- ---- the objects

-- `ecall`, `ret`, and a byte that is filled up to a multiple of 4
text : SectionParts
text = record { name = codes ".text"; kind = 1; flags = 6; align = 4; size = 9; bytes = 0x73 ∷ 0 ∷ 0 ∷ 0 ∷ 0x67 ∷ 0x80 ∷ 0 ∷ 0 ∷ 7 ∷ []; relocs = []; compressed = false }

-- a word of data with the address of symbol 1
words : SectionParts
words = record { name = codes ".data"; kind = 1; flags = 3; align = 4; size = 4; bytes = 0 ∷ 0 ∷ 0 ∷ 0 ∷ []; relocs = (record { offset = 0; symbol = 1; kind = 1; addend = pos 0 }) ∷ []; compressed = false }

-- a section without a name
nameless : SectionParts
nameless = record { name = []; kind = 1; flags = 2; align = 1; size = 0; bytes = []; relocs = []; compressed = false }

symbol : List ℕ → SymbolParts
symbol name = record { name = name; value = 0; size = 0; bind = 1; kind = 0; home = 1 }

empty : ObjectParts
empty = record { flags = 0; sections = []; symbols = [] }

small : ObjectParts
small = record { flags = 0; sections = text ∷ words ∷ nameless ∷ []; symbols = symbol (codes "_start") ∷ symbol [] ∷ [] }

-- ---- their sizes

-- of no sections the file has its header of 52 bytes, symbol 0, two tables of names of 4 and of 28 bytes, and 4 headers
size-empty : (object_size empty ≡ 260) × (section_total empty ≡ 4)
unfolding Rattle.elf32_write.specs.FileSections.file_sections Rattle.elf32_write.specs.FileSections.added_sections empty
size-empty = (refl, refl)

-- 52, contents of 12, 4 and 12 bytes, 3 symbols, names of 8 and of 27 + 6 + 6 + 11 bytes, filled up, and 8 headers
size-small : (object_size small ≡ 508) × (section_total small ≡ 8)
unfolding Rattle.elf32_write.specs.FileSections.file_sections Rattle.elf32_write.specs.FileSections.added_sections small text words nameless symbol
size-small = (refl, refl)

-- the sums are these sizes
sums-small : (room_size (parts_room small.sections) 2 (symbols_room small.symbols) ≡ 508) × (room_total (parts_room small.sections) ≡ 8)
unfolding small text words nameless symbol
sums-small = (refl, refl)

none-small : first_oversized (empty ∷ small ∷ []) ≡ None
unfolding Rattle.elf32_write.specs.FileSections.file_sections Rattle.elf32_write.specs.FileSections.added_sections empty small text words nameless symbol
none-small = refl

-- ---- what is too large

-- an object that is too large by itself comes before a sum that is
second-large : (p : ObjectParts) → is_small_object p ≡ false → first_oversized (empty ∷ p ∷ []) ≡ Some 1
unfolding Rattle.elf32_write.specs.FileSections.file_sections Rattle.elf32_write.specs.FileSections.added_sections empty
second-large p large =
    ap (λ (b : Bool). option_or (option_map (λ (e : ℕ × ObjectParts). e.0) (cond (not b) (Some (1, p)) None)) (cond (passes_sum (empty ∷ p ∷ []) 1) (Some 1) None)) large

-- files of 4 MiB: eight of them have 32 MiB, which isn't too much, and with the ninth they have more
full : ObjectParts → List ObjectParts
full p = p ∷ p ∷ p ∷ p ∷ p ∷ p ∷ p ∷ p ∷ p ∷ []

full-sums : (p : ObjectParts) → object_size p ≡ 0x40_0000 → (passes_sum (full p) 7 ≡ false) × (passes_sum (full p) 8 ≡ true)
unfolding full
full-sums p is = (ap (λ n. ltb 0x200_0000 (0 + n + n + n + n + n + n + n + n)) is, ap (λ n. ltb 0x200_0000 (0 + n + n + n + n + n + n + n + n + n)) is)
