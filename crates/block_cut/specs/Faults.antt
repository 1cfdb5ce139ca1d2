-- Why objects are refused: the first fault in them, with its object's index.
use Rattle.std.specs.Prelude.{ℕ, ℤ, pos, negsuc, ◌-ℤ◌, Bool, true, false, not, ◌&&◌, ◌||◌, ◌==◌, is_none, if◌then◌else◌, List, [], ◌∷◌, map, Option, Some, None}
use Rattle.std.specs.List.{find}
use Rattle.std.specs.Option.{option_map, option_map_or}
use Rattle.zc_base.specs.declared.place.Place.{Place}
use Rattle.elf32_read.specs.Parts.{ObjectParts, SectionParts, is_code_section}
use Rattle.elf32_read.specs.declared.fault.Fault.{Fault}
use Rattle.elf32_read.specs.declared.fault.Fault.TheVariants.{RelocKind, RelocPlace, LoPair, BadTarget, Range, NoEntry}
use Rattle.elf32_read.specs.declared.reloc.Reloc.{Reloc}
use Rattle.psabi_sym.specs.Faults.{first_some, gather_fault}
use Rattle.psabi_sym.specs.Fixed.{is_fixed_at}
use Rattle.psabi_sym.specs.Inputs.{Inputs, ParsedInputs, parsed}
use Rattle.psabi_sym.specs.Indexed.{IndexedSection, all_sections}
use Rattle.psabi_sym.specs.Resolve.{resolved}
use Rattle.psabi_sym.specs.declared.target.Target.{Target}
use Rattle.psabi_sym.specs.declared.target.Target.TheVariants.{Code, Number, Absent, Nowhere}
use Rattle.psabi_reloc.specs.Kinds.{kind_of}
use Rattle.psabi_reloc.specs.Reaches.{branch_reach, jal_reach, short_branch_reach, short_jump_reach}
use Rattle.block_cut.specs.Items.{all_places, entry_in, is_target_at, item_at, size_at, starts_on, target_of}
use Rattle.block_cut.specs.PlainLayout.{plain_address}
use Rattle.block_cut.specs.Relocs.{is_bad_kind, is_bad_place, is_ignored, is_pcrel_lo, is_transfer, has_pcrel_hi_at}
use Rattle.block_cut.specs.declared.item.Item.{Item}
use Rattle.block_cut.specs.declared.item.Item.TheVariants.{Branch, Jump}

-- ---- relocations

-- a lower part goes with an upper part: one stands in the same section where the lower part's symbol is
abbrev pub is_pair_at : IndexedSection → Target → Bool
is_pair_at l (Code q) = (q.object == l.object) && ((q.section == l.index) && has_pcrel_hi_at l.section q.offset)
is_pair_at l (Number n) = false
is_pair_at l (Absent n) = false
is_pair_at l Nowhere = false

-- the addend is 0
abbrev pub is_zero_addend : ℤ → Bool
is_zero_addend (pos n) = n == 0
is_zero_addend (negsuc n) = false

-- a lower part of a PC-relative pair has no upper part, or has an addend
abbrev pub lacks_pcrel_hi : ParsedInputs → IndexedSection → Reloc → Bool
lacks_pcrel_hi inputs l r =
    is_pcrel_lo (kind_of r.kind) && (not (is_zero_addend r.addend) || not (is_pair_at l (resolved inputs l.object r.symbol (pos 0))))

-- a target is wrong: a place that is neither an item's start nor a section's end, a number that an instruction would go to, or
-- nowhere
abbrev pub is_bad_target : List ObjectParts → Bool → Target → Bool
is_bad_target objects transfers (Code to) = not (is_target_at objects to)
is_bad_target objects transfers (Number n) = transfers
is_bad_target objects transfers (Absent n) = false
is_bad_target objects transfers Nowhere = true

-- a relocation's target is wrong
abbrev pub has_bad_target : ParsedInputs → IndexedSection → Reloc → Bool
has_bad_target inputs l r = not (is_ignored (kind_of r.kind)) && is_bad_target inputs.objects (is_transfer (kind_of r.kind)) (target_of inputs l.object r)

-- a fault, if there is one
abbrev pub if_so : Bool → Fault → Option Fault
if_so true fault = Some fault
if_so false fault = None

-- a relocation in code that asks for something stands where no item starts
abbrev pub is_stray : SectionParts → Reloc → Bool
is_stray s r = is_code_section s && (not (is_ignored (kind_of r.kind)) && not (starts_on s r.offset))

-- the first fault of a relocation
abbrev pub reloc_fault : ParsedInputs → IndexedSection → Reloc → Option Fault
reloc_fault inputs l r = first_some (
    if_so (is_bad_kind l.section (kind_of r.kind)) (RelocKind l.index r.offset)
    ∷ if_so (is_bad_place l.section r || is_stray l.section r) (RelocPlace l.index r.offset)
    ∷ if_so (lacks_pcrel_hi inputs l r) (LoPair l.index r.offset)
    ∷ if_so (has_bad_target inputs l r) (BadTarget l.index r.offset)
    ∷ [])

-- the first fault of a section's relocations, in their order, with its object's index
abbrev pub section_fault : ParsedInputs → IndexedSection → Option (ℕ × Fault)
section_fault inputs l = option_map (λ fault. (l.object, fault)) (first_some (map (reloc_fault inputs l) l.section.relocs))

-- the first fault of all relocations, by object, section and entry
unfoldable pub relocs_fault : ParsedInputs → Option (ℕ × Fault)
relocs_fault inputs = first_some (map (section_fault inputs) (all_sections inputs.objects))

-- ---- the start

-- `_start` isn't where an item of code starts
unfoldable pub entry_fault : ParsedInputs → Option (ℕ × Fault)
entry_fault inputs = if is_none (entry_in inputs) then Some (0, NoEntry) else None

-- ---- branches

-- the distance from an address to another, if both are known
abbrev pub distance_between : Option ℕ → Option ℕ → Option ℤ
distance_between None to = None
distance_between (Some from) None = None
distance_between (Some from) (Some to) = Some (pos to -ℤ pos from)

-- the distance from a place to another in the plain layout
abbrev pub plain_distance : ParsedInputs → Place → Place → Option ℤ
plain_distance inputs q to = distance_between (plain_address inputs q) (plain_address inputs to)

-- where an item of `size` bytes leads, if that may be out of its range: a branch, or a jump of 2 bytes; there is too little code
-- for any other to be out of range
abbrev pub way_place : ℕ → Item → Option Place
way_place size (Branch op first second to) = Some to
way_place size (Jump rd to) = if size == 2 then Some to else None
way_place size item = None

-- whether a branch or jump of `size` bytes reaches a distance
abbrev pub reaches : ℕ → Item → ℤ → Bool
reaches size (Branch op first second to) distance = if size == 2 then short_branch_reach distance else branch_reach distance
reaches size (Jump rd to) distance = if size == 2 then short_jump_reach distance else jal_reach distance
reaches size item distance = true

-- an item of `size` bytes at a place can't reach another place in the plain layout
abbrev pub is_far : ParsedInputs → Place → ℕ → Item → Place → Bool
is_far inputs q size i to = option_map_or (λ d. not (reaches size i d)) (plain_distance inputs q to) false

-- a place lies in another section than one in a section of code that stays as it was compiled
abbrev pub leaves_fixed : ParsedInputs → Place → Place → Bool
leaves_fixed inputs q to = is_fixed_at inputs q.object q.section && not (q.object == to.object && q.section == to.section)

-- the branch or jump at a place is out of range in the plain layout, or leads out of a section that stays as it was compiled
abbrev pub is_out_of_reach : ParsedInputs → Place → Bool
is_out_of_reach inputs q =
    let size = size_at inputs.objects q in
    option_map_or (λ i. option_map_or (λ to. is_far inputs q size i to || leaves_fixed inputs q to) (way_place size i) false) (item_at inputs q) false

-- the fault of the first branch or jump that is out of range
unfoldable pub range_fault : ParsedInputs → Option (ℕ × Fault)
range_fault inputs = option_map (λ q. (q.object, Range q.section q.offset)) (find (is_out_of_reach inputs) (all_places inputs.objects))

-- ---- the first fault

-- the first fault of the inputs, with its object's index: those between objects, of relocations, of the start, and of branches
unfoldable pub first_fault : Inputs → Option (ℕ × Fault)
first_fault inputs = first_some (
    gather_fault inputs ∷ relocs_fault (parsed inputs) ∷ entry_fault (parsed inputs) ∷ range_fault (parsed inputs) ∷ [])
