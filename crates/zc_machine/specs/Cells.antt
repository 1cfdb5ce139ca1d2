-- What the cells at an address begin with, if there are enough of them.
use Rattle.std.specs.Prelude.{ℕ, ◌+◌, ◌*◌, ◌==◌, if◌then◌else◌, List, [], ◌∷◌, Option, Some, None}
use Rattle.std.specs.Option.{option_map}
use Rattle.rv_decode.specs.Bits.{field}
use Rattle.rv_decode.specs.Decode.{decoded}
use Rattle.rv_decode.specs.Effect.{extended}
use Rattle.rv_decode.specs.declared.instr.LoadOp.{LoadOp}
use Rattle.rv_decode.specs.declared.instr.LoadOp.TheVariants.{Lb, Lh, Lw, Lbu, Lhu}
use Rattle.zc_decode.specs.Halfwords.{decoded16}
use Rattle.zc_decode.specs.declared.short.Short.TheVariants.{Base}
use Rattle.zc_machine.specs.Fetch.{Fetched, Missing, found}
use Rattle.zc_machine.specs.declared.reason.Reason.TheVariants.{BadAccess}

-- a byte
abbrev pub first_byte : List ℕ → Option ℕ
first_byte [] = None
first_byte (a ∷ rest) = Some a

-- a halfword, its low byte first
abbrev pub first_half : List ℕ → Option ℕ
first_half [] = None
first_half (a ∷ []) = None
first_half (a ∷ b ∷ rest) = Some (a + 256 * b)

-- a word
abbrev pub first_word : List ℕ → Option ℕ
first_word [] = None
first_word (a ∷ []) = None
first_word (a ∷ b ∷ []) = None
first_word (a ∷ b ∷ c ∷ []) = None
first_word (a ∷ b ∷ c ∷ d ∷ rest) = Some (a + 256 * b + 65536 * c + 16777216 * d)

-- what a load gives
abbrev pub loaded : LoadOp → List ℕ → Option ℕ
loaded Lb cells = option_map (extended 8) (first_byte cells)
loaded Lh cells = option_map (extended 16) (first_half cells)
loaded Lw cells = first_word cells
loaded Lbu cells = first_byte cells
loaded Lhu cells = first_half cells

-- an instruction of four bytes
abbrev pub word_spells : Option ℕ → Fetched
word_spells None = Missing BadAccess
word_spells (Some word) = found (option_map Base (decoded word)) 4

-- an instruction, by its first halfword
abbrev pub half_spells : Option ℕ → List ℕ → Fetched
half_spells None cells = Missing BadAccess
half_spells (Some half) cells = if field half 0 2 == 0b11 then word_spells (first_word cells) else found (decoded16 half) 2

abbrev pub instruction : List ℕ → Fetched
instruction cells = half_spells (first_half cells) cells
