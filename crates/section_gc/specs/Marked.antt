-- The given objects by the marks of their sections: what is left of each object without the code that isn't marked.
use Rattle.std.specs.Prelude.{ℕ, Bool, List, [], slice_index_or}
use Rattle.elf32_read.specs.Parts.{ObjectParts, object_parts}
use Rattle.psabi_sym.specs.Inputs.{Inputs, parsed}
use Rattle.section_gc.specs.Cleaned.{cleaned_object}
use Rattle.section_gc.specs.Graph.{has_mark}

-- whether a section is kept and marked, and so needed, by its object's index and its own
abbrev pub needed_by : Inputs → List Bool → ℕ → ℕ → Bool
needed_by inputs marks = has_mark (parsed inputs).objects marks

-- what an object reads as, by its index
abbrev pub given_object : Inputs → ℕ → ObjectParts
given_object inputs o = object_parts (slice_index_or inputs.files o [])

-- an object without the code that isn't marked
abbrev pub marked_object : Inputs → List Bool → ℕ → ObjectParts
marked_object inputs marks o = cleaned_object (needed_by inputs marks o) (given_object inputs o)
