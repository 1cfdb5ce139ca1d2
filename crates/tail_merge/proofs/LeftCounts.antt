-- How much is left of each section: its bytes, less those that its removed tails save, and its relocations that ask for something.
use Rattle.std.proofs.Common.{◌≡◌, ◌≤◌, ◌<◌, ◌+◌, ◌-◌, ◌∙◌, ℕ, List, [], Bool, true, false, cond, Some, None, length, filter, refl, sym, ap, subst, arith, slice_get, get_or}
use Rattle.std.specs.Prelude.{Vec}
use Rattle.std.specs.declared.alloc.Global.{Global}
use Rattle.std.proofs.lemmas.List.{get_or-map, length-map}
use Rattle.std.proofs.lemmas.Option.{slice_get_within}
use Rattle.elf32_read.specs.Parts.{SectionParts, is_code_section, is_kept_section}
use Rattle.psabi_sym.specs.Faults.{gather_fault}
use Rattle.psabi_sym.specs.Indexed.{IndexedSection, all_sections}
use Rattle.psabi_sym.specs.Inputs.{Inputs, ParsedInputs, parsed}
use Rattle.psabi_sym.proofs.Gathered.{readable}
use Rattle.psabi_sym.proofs.SectionNumbers.{listed_at, of_file}
use Rattle.block_cut.specs.Resolved.{asks}
use Rattle.block_cut.proofs.WholeLaws.{inputs_whole}
use Rattle.object_passes.specs.Rooms.{counts_of}
use Rattle.object_passes.specs.declared.section_room.LeftSection.{LeftSection}
use Rattle.object_passes.proofs.RoomLaws.{own-bytes}
use Rattle.tail_merge.specs.Left.{merged_left}
use Rattle.tail_merge.specs.Merged.{merged_bytes, merged_reloc, merged_relocs, merged_section, removed_at, removed_in}
use Rattle.tail_merge.specs.MovedTails.{AreAllMoved, AreMovedTails, tables_of}
use Rattle.tail_merge.specs.Tails.{removed_tails, saved_bytes}
use Rattle.tail_merge.specs.declared.moved_tail.MovedTail.{MovedTail}
use Rattle.tail_merge.proofs.HeldLaws.{bytes-saved}

-- no content is longer than a file
pub content-short : (inputs : Inputs) (k : ℕ) (l : IndexedSection) → gather_fault inputs ≡ None → slice_get (all_sections (parsed inputs).objects) k ≡ Some l → length l.section.bytes ≤ 0x40_0000
content-short inputs k l none at =
    let own = of_file inputs.files k l at in
    own-bytes own.file l.index l.section (readable inputs l.object own.file none own.at) (sym own.is)

-- the table of a section by its number
pub table-moved : (inputs : ParsedInputs) (tables : List (Vec MovedTail Global)) (k : ℕ) (v : Vec MovedTail Global) (l : IndexedSection) → AreAllMoved inputs (tables_of tables) → get_or tables k v ≡ v
    → slice_get (all_sections inputs.objects) k ≡ Some l → AreMovedTails inputs l v.items
table-moved inputs tables k v l all is at =
    let items = λ (v : Vec MovedTail Global). v.items in
    let within = slice_get_within (all_sections inputs.objects) k l at in
    let lt : k < length tables = omega (arith, within, all.count, length-map tables items) in
    subst (AreMovedTails inputs l) (get_or-map items tables k v [] lt ∙ ap items is) (all.moved k l at)

abbrev with_code : ParsedInputs → IndexedSection → Bool → SectionParts
with_code inputs l c =
    let moved : SectionParts = record l.section { relocs = merged_relocs inputs l } in
    cond c (record moved { size = length (merged_bytes inputs l); bytes = merged_bytes inputs l }) moved

module _ (inputs : Inputs) (none : gather_fault inputs ≡ None) (k : ℕ) (l : IndexedSection) (at : slice_get (all_sections (parsed inputs).objects) k ≡ Some l) where
  abbrev given : ParsedInputs
  given = parsed inputs

  saved-less : (c : Bool) → is_code_section l.section ≡ c → length (with_code given l c).bytes + saved_bytes (cond c (removed_tails given l) []) ≡ length l.section.bytes
  saved-less true code = bytes-saved given l code (inputs_whole inputs l.object l.index l.section none (listed_at given.objects k l at) code)
  saved-less false plain = omega arith

  -- removed tails save no more than their section's bytes
  pub saved-within : saved_bytes (removed_in given l) ≤ length l.section.bytes
  saved-within = let all = saved-less (is_code_section l.section) refl in omega (arith, all)

  bytes-left : length (merged_section given l.object l.index l.section).bytes ≡ length l.section.bytes - saved_bytes (removed_in given l)
  bytes-left = let all = saved-less (is_code_section l.section) refl in omega (arith, all)

  relocs-left : length (merged_section given l.object l.index l.section).relocs ≡ length (filter asks l.section.relocs)
  relocs-left = by (is_code_section l.section) ∙ length-map (filter asks l.section.relocs) (merged_reloc given l.object (removed_at given l.object l.index))
    where
      by : (c : Bool) → length (with_code given l c).relocs ≡ length (merged_relocs given l)
      by true = refl
      by false = refl

  pub left-is : (bytes saved relocs : ℕ) → is_kept_section l.section ≡ true → bytes ≡ length l.section.bytes → saved ≡ saved_bytes (removed_in given l) → relocs ≡ length (filter asks l.section.relocs)
      → record { bytes = bytes - saved; relocs = relocs } ≡ merged_left given l
  left-is bytes saved relocs kept bytes_are saved_are relocs_are =
      let all : bytes - saved ≡ length (merged_section given l.object l.index l.section).bytes = (λ i. bytes_are i - saved_are i) ∙ sym bytes-left in
      let asking = relocs_are ∙ sym relocs-left in
      let left : LeftSection = record { bytes = bytes - saved; relocs = relocs } in
      let same : left ≡ counts_of (merged_section given l.object l.index l.section) = λ i. record { bytes = all i; relocs = asking i } in
      same ∙ ap (λ b. cond b (counts_of (merged_section given l.object l.index l.section)) (record { bytes = 0; relocs = 0 })) (sym kept)

-- nothing of one that is dropped
pub none-left : (inputs : ParsedInputs) (l : IndexedSection) (left : LeftSection) → is_kept_section l.section ≡ false → left ≡ (record { bytes = 0; relocs = 0 }) → left ≡ merged_left inputs l
none-left inputs l left dropped is =
    is ∙ ap (λ b. cond b (counts_of (merged_section inputs l.object l.index l.section)) (record { bytes = 0; relocs = 0 })) (sym dropped)
