-- How much is left of each section, section after section.
use Rattle.std.proofs.Common.{◌≡◌, ◌≤◌, ◌∙◌, ℕ, List, Bool, true, false, cond, Some, None, length, sym, ap, slice_get}
use Rattle.std.specs.Prelude.{◌&&◌}
use Rattle.elf32_read.specs.Parts.{ObjectParts, is_kept_section}
use Rattle.psabi_sym.specs.Faults.{gather_fault}
use Rattle.psabi_sym.specs.Indexed.{IndexedSection, all_sections}
use Rattle.psabi_sym.specs.Inputs.{Inputs, parsed}
use Rattle.psabi_sym.proofs.Gathered.{readable}
use Rattle.psabi_sym.proofs.SectionNumbers.{of_file}
use Rattle.reach.specs.Reach.{mark_of}
use Rattle.object_passes.specs.Rooms.{counts_of}
use Rattle.object_passes.specs.declared.section_room.LeftSection.{LeftSection}
use Rattle.object_passes.proofs.RoomLaws.{own-bytes}
use Rattle.section_gc.specs.Cleaned.{cleaned_section}
use Rattle.section_gc.specs.Graph.{has_mark}
use Rattle.section_gc.specs.Left.{cleaned_left}
use Rattle.section_gc.proofs.RemainsLaws.{mark-at}

-- no content is longer than a file
pub bytes-short : (inputs : Inputs) (k : ℕ) (l : IndexedSection) → gather_fault inputs ≡ None → slice_get (all_sections (parsed inputs).objects) k ≡ Some l → length l.section.bytes ≤ 0x40_0000
bytes-short inputs k l none at =
    let own = of_file inputs.files k l at in
    own-bytes own.file l.index l.section (readable inputs l.object own.file none own.at) (sym own.is)

-- a kept section is needed if its node is marked
pub left-is : (objects : List ObjectParts) (marks : List Bool) (k : ℕ) (l : IndexedSection) (left : LeftSection) → slice_get (all_sections objects) k ≡ Some l → is_kept_section l.section ≡ true
    → left ≡ counts_of (cleaned_section (mark_of marks k) l.section) → left ≡ cleaned_left (has_mark objects marks) l
left-is objects marks k l left at kept is =
    let mark : has_mark objects marks l.object l.index ≡ mark_of marks k = mark-at objects marks k l at ∙ ap (λ b. b && mark_of marks k) kept in
    is ∙ ap (λ b. counts_of (cleaned_section b l.section)) (sym mark)
    ∙ ap (λ b. cond b (counts_of (cleaned_section (has_mark objects marks l.object l.index) l.section)) (record { bytes = 0; relocs = 0 })) (sym kept)

pub none-left : (needed : ℕ → ℕ → Bool) (l : IndexedSection) (left : LeftSection) → is_kept_section l.section ≡ false → left ≡ (record { bytes = 0; relocs = 0 }) → left ≡ cleaned_left needed l
none-left needed l left dropped is =
    is ∙ ap (λ b. cond b (counts_of (cleaned_section (needed l.object l.index) l.section)) (record { bytes = 0; relocs = 0 })) (sym dropped)
