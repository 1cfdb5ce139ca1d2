-- What a symbol with an addend resolves to (System V gABI, "Symbol Table").
use Rattle.std.specs.Prelude.{ℕ, zero, suc, ◌+◌, ◌%◌, ◌^◌, ℤ, pos, negsuc, ◌+ℤ◌, not, ◌||◌, ◌==◌, nat_le, if◌then◌else◌, List, [], ◌∷◌, codes, Option, Some, None}
use Rattle.std.specs.Int.{w32, cast_unsigned}
use Rattle.std.specs.List.{find}
use Rattle.std.specs.Option.{option_map, option_map_or, option_or}
use Rattle.elf32_read.specs.Parts.{SectionParts, SymbolParts}
use Rattle.psabi_sym.specs.Data.{address_in, class_end, class_start, common_address, role_of}
use Rattle.psabi_sym.specs.Inputs.{ParsedInputs}
use Rattle.psabi_sym.specs.Indexed.{IndexedSymbol, section_at, symbol_at}
use Rattle.psabi_sym.specs.Names.{is_common, same_name, strong_definition, weak_definition}
use Rattle.psabi_sym.specs.declared.data_class.DataClass.TheVariants.{SmallData, SmallZero, Common}
use Rattle.psabi_sym.specs.declared.meaning.LinkerNumbers.{LinkerNumbers}
use Rattle.psabi_sym.specs.declared.section_row.SectionRole.{SectionRole}
use Rattle.psabi_sym.specs.declared.section_row.SectionRole.TheVariants as role
use Rattle.psabi_sym.specs.declared.target.Target.{Target}
use Rattle.psabi_sym.specs.declared.target.Target.TheVariants.{Code, Number, Absent, Nowhere}

-- ---- names that the linker defines

-- the global pointer, the start of zeroed data, the end of data, and the top of the stack
abbrev pub linker_numbers : ParsedInputs → LinkerNumbers
linker_numbers inputs = record {
  global_pointer = class_start inputs SmallData + 0x800;
  bss_start = class_start inputs SmallZero;
  end = class_end inputs Common;
  stack_top = inputs.map.stack_high;
}

-- the number of a name that stands for one of them, if no object defines it
unfoldable pub linker_number : LinkerNumbers → List ℕ → Option ℕ
linker_number numbers name =
    let named : List (List ℕ × ℕ) = (codes "__global_pointer$", numbers.global_pointer) ∷ (codes "__bss_start", numbers.bss_start)
    ∷ (codes "_end", numbers.end) ∷ (codes "__stack_top", numbers.stack_top) ∷ [] in
    option_map (λ e. e.1) (find (λ e. same_name name e.0) named)

-- ---- what defines a name

-- a symbol of an object, or a number of the linker's: an address of data, or a value
pub data Definition : Type 0 where
  InObject : IndexedSymbol → Definition
  AtNumber : ℕ → Definition

-- a name is its strong definition, else common, else its first weak definition, else the linker's; none if nothing defines it
unfoldable pub name_definition : ParsedInputs → List ℕ → Option Definition
name_definition inputs name =
    option_or (option_map InObject (strong_definition inputs.objects name))
    (option_or (option_map AtNumber (common_address inputs name))
    (option_or (option_map InObject (weak_definition inputs.objects name))
    (option_map AtNumber (linker_number (linker_numbers inputs) name))))

-- ---- where a definition leads

-- a number and an addend, modulo 2^32
abbrev pub number_target : ℕ → ℤ → Target
number_target n addend = Number ((n + cast_unsigned w32 addend) % 2 ^ 32)

-- an offset in a section of this size, or its end; none outside
abbrev pub offset_within : ℕ → ℤ → Option ℕ
offset_within size (pos n) = if nat_le n size then Some n else None
offset_within size (negsuc n) = None

-- a place in a section of code, or its end
abbrev pub code_target : ℕ → ℕ → SectionParts → ℤ → Target
code_target o i section offset =
    option_map_or (λ n. Code (record { object = o; section = i; offset = n })) (offset_within section.size offset) Nowhere

-- in a section by its object's index and its own, by what it is: a place in code, an address in data, nowhere if it is dropped
abbrev pub role_target : ParsedInputs → ℕ → ℕ → ℕ → ℤ → SectionParts → SectionRole → Target
role_target inputs o i value addend section role.Code = code_target o i section (pos value +ℤ addend)
role_target inputs o i value addend section (role.InClass class) = number_target (address_in inputs o i section class + value) addend
role_target inputs o i value addend section role.Dropped = Nowhere

-- where a symbol that is defined in a section leads; if it is ABS (0xFFF1), it is a number by itself
abbrev pub home_target : ParsedInputs → ℕ → SymbolParts → ℤ → Target
home_target inputs o s addend =
    if s.home == 0xFFF1 then number_target s.value addend
    else option_map_or (λ section. role_target inputs o s.home s.value addend section (role_of section))
    (section_at inputs.objects o s.home) Nowhere

-- where a definition leads
abbrev pub definition_target : ParsedInputs → ℤ → Definition → Target
definition_target inputs addend (InObject l) = home_target inputs l.object l.symbol addend
definition_target inputs addend (AtNumber n) = number_target n addend

-- ---- names

-- where a name leads by itself, whichever symbol refers to it: nowhere if nothing defines it
abbrev pub name_target : ParsedInputs → List ℕ → Target
name_target inputs name = option_map_or (definition_target inputs (pos 0)) (name_definition inputs name) Nowhere

-- ---- symbols

-- what nothing defines: a weak (2) symbol is absent, which is no error
abbrev pub undefined_target : SymbolParts → ℤ → Target
undefined_target s addend = if s.bind == 2 then Absent (cast_unsigned w32 addend) else Nowhere

-- a symbol: a local one (0) that isn't common is its own definition, and all others go by their names
abbrev pub symbol_target : ParsedInputs → ℕ → SymbolParts → ℤ → Target
symbol_target inputs o s addend =
    if is_common s || not (s.bind == 0)
    then option_map_or (definition_target inputs addend) (name_definition inputs s.name) (undefined_target s addend)
    else home_target inputs o s addend

-- a symbol by its object's index and its own: symbol 0 is the number 0
unfoldable pub resolved : ParsedInputs → ℕ → ℕ → ℤ → Target
resolved inputs o zero addend = number_target 0 addend
resolved inputs o (suc s) addend =
    option_map_or (λ symbol. symbol_target inputs o symbol addend) (symbol_at inputs.objects o (suc s)) Nowhere
