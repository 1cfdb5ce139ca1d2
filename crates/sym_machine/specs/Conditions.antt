-- Whether a branch is taken, if that is known.
use Rattle.std.specs.Prelude.{ℕ, Bool, true, false, not, ◌&&◌, ◌==◌, if◌then◌else◌, Option, Some, None}
use Rattle.std.specs.Option.{option_map, option_map_or}
use Rattle.zc_base.specs.Places.{same_place}
use Rattle.rv_decode.specs.declared.instr.BranchOp.{BranchOp}
use Rattle.rv_decode.specs.declared.instr.BranchOp.TheVariants.{Beq, Bne, Blt, Bge, Bltu, Bgeu}
use Rattle.rv_decode.specs.Results.{is_taken}
use Rattle.block_cut.specs.declared.item.Item.{Item}
use Rattle.block_cut.specs.declared.item.Item.TheVariants.{Op, Hi, Lo, PcHi, PcLo, Branch, Jump, Call, Align, Word, Raw, RawShort, RawPair}
use Rattle.sym_machine.specs.declared.known.Known.{Known}
use Rattle.sym_machine.specs.declared.known.Known.TheVariants.{Number, Code, Unknown}
use Rattle.sym_machine.specs.declared.word.SymWord.{SymWord}
use Rattle.sym_machine.specs.Program.{Program}
use Rattle.sym_machine.specs.Words.{code_of, number_of}

-- what a word is known to be: a number, or else the address of a place, or else neither
abbrev pub known_of : SymWord → Known
known_of w = option_map_or Number (number_of w) (option_map_or Code (code_of w) Unknown)

-- whether what stands at a place takes up room in every image: the end of a section doesn't, and padding may not
abbrev pub is_solid : Option Item → Bool
is_solid None = false
is_solid (Some (Op i)) = true
is_solid (Some (Hi i t)) = true
is_solid (Some (Lo i t)) = true
is_solid (Some (PcHi i t)) = true
is_solid (Some (PcLo i q)) = true
is_solid (Some (Branch op first second to)) = true
is_solid (Some (Jump rd to)) = true
is_solid (Some (Call rd temp to)) = true
is_solid (Some (Align bytes)) = false
is_solid (Some (Word t)) = true
is_solid (Some (Raw word)) = true
is_solid (Some (RawShort half)) = true
is_solid (Some (RawPair first second)) = true

-- whether two words are equal; no code address is 0, and two places that have room of their own have two addresses
abbrev pub equal_words : Program → Known → Known → Option Bool
equal_words p (Number m) (Number n) = Some (m == n)
equal_words p (Number m) (Code q) = if m == 0 then Some false else None
equal_words p (Code q) (Number n) = if n == 0 then Some false else None
equal_words p (Code q) (Code r) =
    if same_place q r then Some true else (if is_solid (p.item q) && is_solid (p.item r) then Some false else None)
equal_words p a b = None

-- a condition on two words, if both are numbers
abbrev pub numeric_condition : BranchOp → Option ℕ → Option ℕ → Option Bool
numeric_condition op (Some m) (Some n) = Some (is_taken op m n)
numeric_condition op a b = None

-- whether a branch is taken, by the words of its two registers
abbrev pub condition : Program → BranchOp → SymWord → SymWord → Option Bool
condition p Beq a b = equal_words p (known_of a) (known_of b)
condition p Bne a b = option_map not (equal_words p (known_of a) (known_of b))
condition p Blt a b = numeric_condition Blt (number_of a) (number_of b)
condition p Bge a b = numeric_condition Bge (number_of a) (number_of b)
condition p Bltu a b = numeric_condition Bltu (number_of a) (number_of b)
condition p Bgeu a b = numeric_condition Bgeu (number_of a) (number_of b)
