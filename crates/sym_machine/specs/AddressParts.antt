-- Words that relocations give: a target's word, its upper part, and the sum of an upper and a lower part
-- (RISC-V ELF psABI, "Absolute Addresses" and "PC-Relative Symbol Addresses").
use Rattle.std.specs.Prelude.{◌*◌, ◌^◌, if◌then◌else◌, List, [], ◌∷◌, Option, Some, None}
use Rattle.std.specs.Option.{option_map_or}
use Rattle.zc_base.specs.declared.place.Place.{Place}
use Rattle.psabi_sym.specs.declared.target.Target.{Target}
use Rattle.psabi_sym.specs.declared.target.Target.TheVariants as target
use Rattle.psabi_reloc.specs.Parts.{hi20_of, lo12_of}
use Rattle.block_cut.specs.declared.item.Item.{Item}
use Rattle.block_cut.specs.declared.item.Item.TheVariants.{PcHi}
use Rattle.sym_machine.specs.declared.word.SymByte.{SymByte}
use Rattle.sym_machine.specs.declared.word.SymWord.{SymWord}
use Rattle.sym_machine.specs.declared.word.Value.TheVariants as value
use Rattle.sym_machine.specs.Words.{code_word, is_value, number_word, sum_word, undef_word, value_word}

-- ---- targets

-- the word of what a symbol resolves to: the address of a place in code, or a number; what is nowhere has none
abbrev pub target_word : Target → SymWord
target_word (target.Code q) = code_word q
target_word (target.Number n) = number_word n
target_word (target.Absent n) = number_word n
target_word target.Nowhere = undef_word

-- a word's bytes, the lowest first
abbrev pub bytes_of : SymWord → List SymByte
bytes_of w = w.b0 ∷ w.b1 ∷ w.b2 ∷ w.b3 ∷ []

-- ---- absolute addresses

-- the word of an address's upper part
abbrev pub high_word : Target → SymWord
high_word (target.Code q) = value_word (value.AbsHi q)
high_word (target.Number n) = number_word (hi20_of n * 2 ^ 12)
high_word (target.Absent n) = number_word (hi20_of n * 2 ^ 12)
high_word target.Nowhere = undef_word

-- the sum of a base's word and the lower part: with a number it is the sum with that immediate, and with a place its address if
-- the base is its upper part
abbrev pub low_sum : Target → SymWord → SymWord
low_sum (target.Code q) base = if is_value (value.AbsHi q) base then code_word q else undef_word
low_sum (target.Number n) base = sum_word base (lo12_of n)
low_sum (target.Absent n) base = sum_word base (lo12_of n)
low_sum target.Nowhere base = undef_word

-- ---- addresses by the way to them

-- what the relocation of an `auipc` resolves to
abbrev pub pc_target : Option Item → Option Target
pc_target (Some (PcHi i t)) = Some t
pc_target other = None

-- the sum of a base's word and the lower part that goes with the `auipc` at a place, by what its relocation resolves to: the word of
-- that, if the base is what the `auipc` gives
abbrev pub pc_low_sum : Place → Option Target → SymWord → SymWord
pc_low_sum q t base = if is_value (value.PcHi q) base then option_map_or target_word t undef_word else undef_word
