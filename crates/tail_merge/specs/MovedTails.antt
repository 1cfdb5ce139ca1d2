-- Where offsets go in a section whose tails are removed: a table of the tails, in which an offset is searched.
use Rattle.std.specs.Prelude.{◌≡◌, ℕ, ◌+◌, ◌-◌, ◌==◌, nat_le, nat_lt, if◌then◌else◌, List, [], ◌∷◌, length, map, slice_get, slice_index_or, Option, Some, None, MatchOption, Vec}
use Rattle.std.specs.declared.alloc.Global.{Global}
use Rattle.std.specs.List.{enumerate_from}
use Rattle.std.specs.Option.{option_and_then, unwrap_or}
use Rattle.elf32_read.specs.Parts.{ObjectParts, SectionParts, is_kept_section}
use Rattle.moved_runs.specs.Passes.{new_number}
use Rattle.block_cut.specs.declared.code_place.CodePlace.{CodePlace}
use Rattle.psabi_sym.specs.Indexed.{IndexedSection, all_sections, section_at}
use Rattle.psabi_sym.specs.Inputs.{ParsedInputs}
use Rattle.tail_merge.specs.Merged.{indexed}
use Rattle.tail_merge.specs.RemovedTails.{AreRemovedFrom, tail_among}
use Rattle.tail_merge.specs.Tails.{CodeItem, code_items, first_offset, bytes_saved_by, tail_end, tail_start}
use Rattle.tail_merge.specs.declared.moved_tail.MovedTail.{MovedTail}
use Rattle.tail_merge.specs.declared.removed_tail.RemovedTail.{RemovedTail}

-- ---- the table

-- an entry, by how many bytes fewer stand before the tail
abbrev pub moved_tail : List CodeItem → ℕ → RemovedTail → MovedTail
moved_tail items saved t = let r = tail_among items t in record {
  tail = t;
  start = tail_start r;
  stop = tail_end r;
  host = first_offset r.host;
  jump = tail_start r - saved;
  after = tail_start r - saved + 4;
  saved = saved + bytes_saved_by r;
}

-- the entries of tails, in order
abbrev pub moved_tails : List CodeItem → ℕ → List RemovedTail → List MovedTail
moved_tails items saved [] = []
moved_tails items saved (t ∷ ts) = moved_tail items saved t ∷ moved_tails items (saved + bytes_saved_by (tail_among items t)) ts

-- the same entry, by where the item with each number begins
abbrev pub entry_by : (ℕ → ℕ) → ℕ → RemovedTail → MovedTail
entry_by edge saved t = record {
  tail = t;
  start = edge (t.end + 1 - t.count);
  stop = edge (t.end + 1);
  host = edge (t.host + 1 - t.count);
  jump = edge (t.end + 1 - t.count) - saved;
  after = edge (t.end + 1 - t.count) - saved + 4;
  saved = saved + (edge (t.end + 1) - edge (t.end + 1 - t.count) - 4);
}

-- the offset of the place with a number
abbrev pub offset_at : List CodePlace → ℕ → ℕ
offset_at places k = (slice_index_or places k (record { item = None; address = 0; offset = 0; size = 0 })).offset

-- the table of the tails that are removed from a section
pub record AreMovedTails (inputs : ParsedInputs) (l : IndexedSection) (tails : List MovedTail) : Type 0 where
  pub list : List RemovedTail
  pub removed : AreRemovedFrom inputs l list
  pub are : tails ≡ moved_tails (code_items inputs l) 0 list

-- the table of a section, by its object's index and its own; nothing is removed where there is no section
abbrev pub AreMovedAt : ParsedInputs → ℕ → ℕ → List MovedTail → Type 0
AreMovedAt inputs o i tails = MatchOption (section_at inputs.objects o i) (tails ≡ []) (λ s. AreMovedTails inputs (indexed o i s) tails)

-- the tables of all sections, by their numbers
pub record AreAllMoved (inputs : ParsedInputs) (tables : List (List MovedTail)) : Type 0 where
  pub count : length tables ≡ length (all_sections inputs.objects)
  pub moved :
      (k : ℕ) (l : IndexedSection) → slice_get (all_sections inputs.objects) k ≡ Some l
      → AreMovedTails inputs l (slice_index_or tables k [])

-- tables that are kept as such
abbrev pub tables_of : List (Vec MovedTail Global) → List (List MovedTail)
tables_of tables = map (λ t. t.items) tables

-- ---- look-ups

-- the last tail that begins at an offset or before it, of tails in order
abbrev pub last_before : List MovedTail → ℕ → Option MovedTail
last_before [] n = None
last_before (t ∷ ts) n = if nat_le t.start n then Some (unwrap_or (last_before ts n) t) else None

-- where an offset goes at or behind the start of a tail, up to the start of the next
abbrev pub down_from_tail : MovedTail → ℕ → ℕ
down_from_tail t n = if n == t.start then t.jump else (if nat_lt n t.stop then t.after else n - t.saved)

-- the tail that an offset lies in
abbrev pub tail_over : List MovedTail → ℕ → Option MovedTail
tail_over tails n = option_and_then (λ t. if nat_lt n t.stop then Some t else None) (last_before tails n)

-- ---- numbers of sections

-- the new number of a section; none if it is dropped
abbrev pub kept_number : List SectionParts → ℕ × SectionParts → Option ℕ
kept_number sections e = if is_kept_section e.1 then Some (new_number sections e.0) else None

-- those of an object's sections, in order
abbrev pub kept_numbers : ObjectParts → List (Option ℕ)
kept_numbers object = map (kept_number object.sections) (enumerate_from 0 object.sections)
