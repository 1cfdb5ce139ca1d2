-- How much code is kept, of how much: sections, and their bytes.
use Rattle.std.specs.Prelude.{ℕ, ◌+◌, Bool, if◌then◌else◌, List, filter, length}
use Rattle.std.specs.List.{sum_by}
use Rattle.elf32_read.specs.Parts.{ObjectParts, is_code_section}
use Rattle.psabi_sym.specs.Indexed.{IndexedSection, all_sections}
use Rattle.section_gc.specs.declared.counts.CodeCounts.{CodeCounts}

-- the sections of code among some, and those that are needed
abbrev pub code_among : List IndexedSection → List IndexedSection
code_among sections = filter (λ l. is_code_section l.section) sections

abbrev pub needed_among : (ℕ → ℕ → Bool) → List IndexedSection → List IndexedSection
needed_among needed sections = filter (λ l. needed l.object l.index) (code_among sections)

-- all sections of code, and those that are needed
abbrev pub all_code : List ObjectParts → List IndexedSection
all_code objects = code_among (all_sections objects)

abbrev pub needed_code : (ℕ → ℕ → Bool) → List ObjectParts → List IndexedSection
needed_code needed objects = needed_among needed (all_sections objects)

-- how many bytes sections have
abbrev pub listed_bytes : List IndexedSection → ℕ
listed_bytes sections = sum_by (λ l. l.section.size) sections

-- how many sections of code among some are needed of how many, and how many bytes these have of how many
abbrev pub code_counts : (ℕ → ℕ → Bool) → List IndexedSection → CodeCounts
code_counts needed sections = record {
  kept = length (needed_among needed sections);
  all = length (code_among sections);
  bytes = listed_bytes (needed_among needed sections);
  from = listed_bytes (code_among sections);
}

-- counts with one section of code more, of this size, by whether it is needed
abbrev pub with_code : CodeCounts → ℕ → Bool → CodeCounts
with_code counts size needed = record {
  kept = counts.kept + (if needed then 1 else 0);
  all = counts.all + 1;
  bytes = counts.bytes + (if needed then size else 0);
  from = counts.from + size;
}
