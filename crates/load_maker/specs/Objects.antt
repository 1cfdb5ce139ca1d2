-- The generated objects: the first has `_start` and `result`, and each of the others eight functions, the last maybe
-- fewer (System V gABI, "Sections" and "Symbol Table").
use Rattle.std.specs.Prelude.{ℕ, pos, ◌+◌, ◌*◌, ◌/◌, ◌%◌, ◌==◌, false, List, [], ◌∷◌, ◌++◌, length, map, drop, take, codes, decimal}
use Rattle.std.specs.List.{flat_map, position_or_len, range_with_len}
use Rattle.elf32_read.specs.Parts.{ObjectParts, SectionParts, SymbolParts}
use Rattle.elf32_write.specs.ObjectFile.{object_bytes}
use Rattle.rv_decode.specs.declared.instr.Instr.TheVariants.{Ecall}
use Rattle.sound_objects.specs.Fragments.{Fragment, fragments_bytes, fragments_size, relocs_from}
use Rattle.load_maker.specs.Functions.{functions_from}
use Rattle.load_maker.specs.Instructions.{addi, lui, sw}
use Rattle.load_maker.specs.Statements.{code_size, named_by, fragment_of}
use Rattle.load_maker.specs.declared.register.Register.TheVariants.{Zero, Temp1, A0, A1, A2, A7}
use Rattle.load_maker.specs.declared.statement.Statement.{Statement}
use Rattle.load_maker.specs.declared.statement.Statement.TheVariants.{Plain, Call, WithAddress}

-- ---- symbols

-- `f` and the number in decimal
abbrev pub function_name : ℕ → List ℕ
function_name i = codes "f" ++ decimal i

-- `result`, local (0), an object (1) of 4 bytes at the start of section 2
abbrev pub result_symbol : SymbolParts
result_symbol = record { name = codes "result"; value = 0; size = 4; bind = 0; kind = 1; home = 2 }

-- `_start`, global (1), at the start of section 1
abbrev pub start_symbol : SymbolParts
start_symbol = record { name = codes "_start"; value = 0; size = 0; bind = 1; kind = 0; home = 1 }

-- a function (2), global, at an offset of section 1
abbrev pub function_symbol : ℕ → ℕ → List Statement → SymbolParts
function_symbol i at body =
    record { name = function_name i; value = at; size = code_size body; bind = 1; kind = 2; home = 1 }

-- functions one after another, from a number and an offset on
abbrev pub function_symbols : ℕ → ℕ → List (List Statement) → List SymbolParts
function_symbols i at [] = []
function_symbols i at (body ∷ bodies) =
    function_symbol i at body ∷ function_symbols (i + 1) (at + code_size body) bodies

-- a function of another object, global and undefined (0)
abbrev pub undefined_symbol : ℕ → SymbolParts
undefined_symbol i = record { name = function_name i; value = 0; size = 0; bind = 1; kind = 0; home = 0 }

-- ---- sections

-- the code: PROGBITS (1), with ALLOC (2) and EXECINSTR (4)
abbrev pub code_parts : List Fragment → SectionParts
code_parts fragments = record {
  name = codes ".text";
  kind = 1;
  flags = 6;
  align = 4;
  size = fragments_size fragments;
  bytes = fragments_bytes fragments;
  relocs = relocs_from 0 fragments;
  compressed = false;
}

-- room for `result`: NOBITS (8), with WRITE (1) and ALLOC (2)
abbrev pub result_section : SectionParts
result_section = record {
  name = codes ".bss";
  kind = 8;
  flags = 3;
  align = 4;
  size = 4;
  bytes = [];
  relocs = [];
  compressed = false;
}

-- ---- an object

-- the symbol of a function, if `others` symbols come before those of the named functions; symbol 0 is none
abbrev pub symbol_of : ℕ → List ℕ → ℕ → ℕ
symbol_of others named i = 1 + others + position_or_len (λ j. i == j) named

-- the code of an object that names these functions
abbrev pub text_section_of : ℕ → List ℕ → List Statement → SectionParts
text_section_of others named statements = code_parts (map (fragment_of (symbol_of others named)) statements)

-- ---- the first object

-- how `_start` ends: `result` gets what the last function gave, by its address's parts HI20 (26), LO12_S (28) and
-- LO12_I (27); its 4 bytes are written to stream 1, and the program exits with 0
abbrev pub start_end : List Statement
start_end =
    WithAddress 26 (lui Temp1 0) ∷
    WithAddress 28 (sw A0 (pos 0) Temp1) ∷
    WithAddress 26 (lui A1 0) ∷
    WithAddress 27 (addi A1 A1 (pos 0)) ∷
    Plain (addi A0 Zero (pos 1)) ∷
    Plain (addi A2 Zero (pos 4)) ∷
    Plain (addi A7 Zero (pos 64)) ∷
    Plain Ecall ∷
    Plain (addi A0 Zero (pos 0)) ∷
    Plain (addi A7 Zero (pos 93)) ∷
    Plain Ecall ∷
    []

-- `_start`: each function in order gets what the one before it gave, and the first gets a number
abbrev pub start_statements : ℕ → ℕ → List Statement
start_statements number functions =
    Plain (addi A0 Zero (pos (number % 2048))) ∷ map Call (range_with_len 0 functions) ++ start_end

abbrev pub start_object : ℕ → ℕ → ObjectParts
start_object number functions =
    let statements = start_statements number functions in
    let named = named_by [] statements in record {
      flags = 0;
      sections = text_section_of 2 named statements ∷ result_section ∷ [];
      symbols = result_symbol ∷ start_symbol ∷ map undefined_symbol named;
    }

-- ---- the others

-- an object of functions, from a number on: their symbols, and then those of the others that they call
abbrev pub function_object : ℕ → List (List Statement) → ObjectParts
function_object first bodies =
    let statements = flat_map (λ body. body) bodies in
    let named = named_by (range_with_len first (length bodies)) statements in record {
      flags = 0;
      sections = text_section_of 0 named statements ∷ [];
      symbols = function_symbols first 0 bodies ++ map undefined_symbol (drop (length bodies) named);
    }

-- the functions of one object: eight, or fewer
abbrev pub group : List (List Statement) → ℕ → List (List Statement)
group bodies k = take 8 (drop (8 * k) bodies)

abbrev pub group_object : List (List Statement) → ℕ → ObjectParts
group_object bodies k = function_object (8 * k) (group bodies k)

-- ---- all objects

abbrev pub group_count : ℕ → ℕ
group_count functions = (functions + 7) / 8

-- what they are made of
abbrev pub made_parts : ℕ → ℕ → List ObjectParts
made_parts number functions =
    start_object number functions
    ∷ map (group_object (functions_from functions 0 number)) (range_with_len 0 (group_count functions))

-- the files of the objects
unfoldable pub made_objects : ℕ → ℕ → List (List ℕ)
made_objects number functions = map object_bytes (made_parts number functions)
