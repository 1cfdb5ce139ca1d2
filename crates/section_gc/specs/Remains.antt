-- What is left of each section of an object, as a table.
use Rattle.std.specs.Prelude.{ℕ, Bool, true, false, not, ◌&&◌, if◌then◌else◌, List, map}
use Rattle.std.specs.List.{enumerate_from}
use Rattle.elf32_read.specs.Parts.{ObjectParts, SectionParts, is_code_section, is_kept_section}
use Rattle.moved_runs.specs.Passes.{new_number}
use Rattle.section_gc.specs.declared.remains.Remains.{Remains}
use Rattle.section_gc.specs.declared.remains.Remains.TheVariants.{Nothing, Empty, Whole}

-- nothing is left of a section that isn't kept, an empty section of code that isn't needed, and all of any other
abbrev pub remains_of : Bool → ℕ → SectionParts → Remains
remains_of needed number s =
    if not (is_kept_section s) then Nothing else (if is_code_section s && not needed then Empty number else Whole number)

-- what is left of each section of an object, with its new number
abbrev pub remains_in : (ℕ → Bool) → ObjectParts → List Remains
remains_in needed object =
    map (λ e. remains_of (needed e.0) (new_number object.sections e.0) e.1) (enumerate_from 0 object.sections)

-- a section is left, empty or not
abbrev pub is_something : Remains → Bool
is_something Nothing = false
is_something (Empty number) = true
is_something (Whole number) = true

-- a section is left that isn't emptied
abbrev pub is_whole : Remains → Bool
is_whole Nothing = false
is_whole (Empty number) = false
is_whole (Whole number) = true
