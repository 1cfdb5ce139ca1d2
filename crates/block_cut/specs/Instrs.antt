-- The bytes of code, and its words as instructions.
use Rattle.std.specs.Prelude.{ℕ, ◌*◌, ◌/◌, Bool, List, length, map, Option}
use Rattle.std.specs.List.{range_with_len}
use Rattle.zc_base.specs.Fields.{word_in}
use Rattle.rv_decode.specs.Decode.{decoded}
use Rattle.rv_decode.specs.declared.instr.Instr.{Instr}

-- the instruction that each word of some bytes spells, by the offset / 4
abbrev pub instrs_in : List ℕ → List (Option Instr)
instrs_in bytes = map (λ k. decoded (word_in bytes (4 * k))) (range_with_len 0 (length bytes / 4))

-- the bytes of a section of code, and whether its object is compressed
pub record CodeBytes : Type 0 where
  pub bytes : List ℕ
  pub compressed : Bool
