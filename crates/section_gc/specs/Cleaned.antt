-- Objects without the code that isn't needed: what becomes of each section and symbol, and so of each place.
use Rattle.std.specs.Prelude.{ℕ, Bool, not, ◌&&◌, if◌then◌else◌, List, [], filter, map, drop}
use Rattle.std.specs.List.{enumerate_from}
use Rattle.std.specs.Option.{option_map_or}
use Rattle.zc_base.specs.declared.place.Place.{Place}
use Rattle.elf32_read.specs.Parts.{ObjectParts, SectionParts, SymbolParts, is_code_section, is_kept_section}
use Rattle.block_cut.specs.Resolved.{asks}
use Rattle.moved_runs.specs.Passes.{home_of, new_number}

-- ---- sections

-- code that isn't needed is left as an empty section, and any other section as it is, without the relocations that ask for nothing
abbrev pub cleaned_section : Bool → SectionParts → SectionParts
cleaned_section needed s =
    if is_code_section s && not needed then record s { align = 1; size = 0; bytes = []; relocs = [] }
    else record s { relocs = filter asks s.relocs }

-- the kept sections of an object, in order
abbrev pub cleaned_sections : (ℕ → Bool) → ObjectParts → List SectionParts
cleaned_sections needed object =
    map (λ e. cleaned_section (needed e.0) e.1) (filter (λ e. is_kept_section e.1) (enumerate_from 0 object.sections))

-- ---- symbols

-- a symbol in a section gets the section's new number. If the section is dropped, the symbol becomes the number 0 (ABS, 0xFFF1), and
-- in code that isn't needed it comes to stand at the start, with no size
abbrev pub cleaned_in : Bool → ℕ → SymbolParts → SectionParts → SymbolParts
cleaned_in needed number s home =
    if not (is_kept_section home) then record s { value = 0; home = 0xFFF1 }
    else (if is_code_section home && not needed then record s { value = 0; size = 0; home = number } else record s { home = number })

-- any symbol: one that is in no section stays as it is
abbrev pub cleaned_symbol : (ℕ → Bool) → ObjectParts → SymbolParts → SymbolParts
cleaned_symbol needed object s =
    option_map_or (cleaned_in (needed s.home) (new_number object.sections s.home) s) (home_of object s) s

-- ---- objects

-- the parts of an object's result, with the same e_flags; symbol 0 is no part
abbrev pub cleaned_object : (ℕ → Bool) → ObjectParts → ObjectParts
cleaned_object needed object = record {
  flags = object.flags;
  sections = cleaned_sections needed object;
  symbols = map (cleaned_symbol needed object) (drop 1 object.symbols);
}

-- those of all objects
abbrev pub cleaned : (ℕ → ℕ → Bool) → List ObjectParts → List ObjectParts
cleaned needed objects = map (λ e. cleaned_object (needed e.0) e.1) (enumerate_from 0 objects)

-- ---- places

-- a place is where it was in its section, under the section's new number
abbrev pub moved_by : (ℕ → ℕ → ℕ) → Place → Place
moved_by number q = record q { section = number q.object q.section }
