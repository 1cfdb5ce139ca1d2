-- Statements of assembly, and the code that they become.
use Rattle.std.specs.Prelude.{ℕ, pos, ◌==◌, if◌then◌else◌, List, [], ◌∷◌, ◌++◌}
use Rattle.std.specs.List.{flat_map, fold, list_any, sum_by}
use Rattle.rv_decode.specs.Immediates.{InRange}
use Rattle.rv_encode.specs.Words.{encoded}
use Rattle.sound_objects.specs.Fragments.{Fragment, FragmentReloc, pair_under, word_fragment, word_under}
use Rattle.load_maker.specs.Instructions.{auipc, jalr}
use Rattle.load_maker.specs.declared.register.Register.TheVariants.{Ra}
use Rattle.load_maker.specs.declared.statement.Statement.{Statement}
use Rattle.load_maker.specs.declared.statement.Statement.TheVariants.{Plain, Call, WithAddress}

-- the relocation of a type to a symbol
abbrev pub reloc_to : ℕ → ℕ → FragmentReloc
reloc_to kind symbol = record { kind = kind; symbol = symbol; addend = pos 0 }

-- what a statement becomes, by the symbol of each function: a call has the type CALL (18), and `result` is symbol 1
-- (RISC-V ELF psABI, "Relocations")
abbrev pub fragment_of : (ℕ → ℕ) → Statement → Fragment
fragment_of symbol (Plain i) = word_fragment (encoded i)
fragment_of symbol (Call function) =
    pair_under (reloc_to 18 (symbol function)) (encoded (auipc Ra 0)) (encoded (jalr Ra (pos 0) Ra))
fragment_of symbol (WithAddress kind i) = word_under (reloc_to kind 1) (encoded i)

-- the number of bytes of a statement's code
abbrev pub size_of : Statement → ℕ
size_of (Plain i) = 4
size_of (Call function) = 8
size_of (WithAddress kind i) = 4

abbrev pub code_size : List Statement → ℕ
code_size statements = sum_by size_of statements

-- the functions that a statement calls
abbrev pub called_by : Statement → List ℕ
called_by (Plain i) = []
called_by (Call function) = function ∷ []
called_by (WithAddress kind i) = []

abbrev pub all_called : List Statement → List ℕ
all_called statements = flat_map called_by statements

-- numbers with one more, which goes last if it is new
abbrev pub with_number : List ℕ → ℕ → List ℕ
with_number numbers i = if list_any (λ j. i == j) numbers then numbers else numbers ++ i ∷ []

-- these numbers, and then those of the functions that statements call, in order of first use
abbrev pub named_by : List ℕ → List Statement → List ℕ
named_by numbers statements = fold with_number numbers (all_called statements)

-- the immediate of a statement fits in its word
abbrev pub IsInRange : Statement → Type 0
IsInRange (Plain i) = InRange i
IsInRange (Call function) = Unit {0}
IsInRange (WithAddress kind i) = InRange i
