-- Where data lies is bounded by the map, and the contents of data have room from its start to the end of small data.
use Rattle.std.proofs.Common.{◌≡◌, ℕ, ◌+◌, ◌-◌, ◌≤◌, List, [], ◌∷◌, ◌++◌, Bool, true, false, cond, eqb, length, take, drop, replicate, refl, ap, ◌∙◌, arith, Option, Some, None}
use Rattle.std.specs.List.{fold}
use Rattle.std.specs.Option.{option_and_then, option_map_or}
use Rattle.std.proofs.lemmas.List.{length-append, length-drop, length-replicate, length-take}
use Rattle.elf32_read.specs.Parts.{ObjectParts, SectionParts}
use Rattle.psabi_sym.specs.declared.data_class.DataClass.{DataClass}
use Rattle.psabi_sym.specs.declared.data_class.DataClass.TheVariants.{ReadOnly, Data, SmallData, SmallZero, Zero, Common}
use Rattle.psabi_sym.specs.declared.section_row.SectionRole.TheVariants.{Code, InClass, Dropped}
use Rattle.psabi_sym.specs.Blocks.{aligned_up, end_from}
use Rattle.psabi_sym.specs.Classes.{classes_before}
use Rattle.psabi_sym.specs.Contents.{data_contents, overlaid, with_content}
use Rattle.psabi_sym.specs.Data.{address_in, blocks_in, blocks_of, class_end, class_start, data_address, data_end, data_file_end, role_address, role_of}
use Rattle.psabi_sym.specs.Inputs.{ParsedInputs}
use Rattle.psabi_sym.specs.Indexed.{IndexedSection, all_sections, section_at, sections_before}
use Rattle.psabi_sym.proofs.BlockLaws.{aligned_up-ge, end_from-ge}

-- ---- nothing lies below the map's start of data

-- where a class that is placed from an address on ends
abbrev pub end_after : List ObjectParts → ℕ → DataClass → ℕ
end_after objects at class = end_from (aligned_up 16 at) (blocks_of objects class)

-- classes end no earlier than they begin
pub ends-ge : (objects : List ObjectParts) (at : ℕ) (cs : List DataClass) → at ≤ fold (end_after objects) at cs
ends-ge objects at [] = omega arith
ends-ge objects at (c ∷ cs) =
    omega (arith, aligned_up-ge 16 at, end_from-ge (aligned_up 16 at) (blocks_of objects c), ends-ge objects (end_after objects at c) cs)

module _ (inputs : ParsedInputs) where
  class_start-ge : (class : DataClass) → inputs.map.data_low ≤ class_start inputs class
  unfolding class_start
  class_start-ge class =
      let before = fold (end_after inputs.objects) inputs.map.data_low (classes_before class) in
      omega (arith, ends-ge inputs.objects inputs.map.data_low (classes_before class), aligned_up-ge 16 before)

  -- the address of a section of data
  pub address_in-ge : (o i : ℕ) (s : SectionParts) (class : DataClass) → inputs.map.data_low ≤ address_in inputs o i s class
  address_in-ge o i s class =
      let before = blocks_in class (sections_before inputs.objects o i) in
      omega (arith, class_start-ge class, end_from-ge (class_start inputs class) before, aligned_up-ge s.align (end_from (class_start inputs class) before))

  -- small data ends above it
  pub data_low-le : inputs.map.data_low ≤ data_file_end inputs
  unfolding class_end
  data_low-le = omega (arith, class_start-ge SmallData, end_from-ge (class_start inputs SmallData) (blocks_of inputs.objects SmallData))

  -- the data of files end no later than all data
  pub data_file_end-le : data_file_end inputs ≤ data_end inputs
  unfolding class_end class_start
  data_file_end-le =
      let before = fold (end_after inputs.objects) inputs.map.data_low (ReadOnly ∷ Data ∷ SmallData ∷ []) in
      let rest = fold (end_after inputs.objects) before (SmallZero ∷ Zero ∷ []) in
      omega (arith, ends-ge inputs.objects before (SmallZero ∷ Zero ∷ []), aligned_up-ge 16 rest, end_from-ge (aligned_up 16 rest) (blocks_of inputs.objects Common))

-- ---- contents

pub length-overlaid : {X : Type 0} (at : ℕ) (new old : List X) → length (overlaid at new old) ≡ length old
length-overlaid at new old =
    omega (
      arith,
      length-append (take at old) (take (length old - at) new ++ drop (at + length new) old),
      length-append (take (length old - at) new) (drop (at + length new) old),
      length-take at old,
      length-take (length old - at) new,
      length-drop (at + length new) old,
    )

length-with_content : (inputs : ParsedInputs) (bytes : List ℕ) (l : IndexedSection) → length (with_content inputs bytes l) ≡ length bytes
length-with_content inputs bytes l = by (eqb l.section.kind 8) (data_address inputs l.object l.index)
  where
    by : (b : Bool) (o : Option ℕ) → length (cond b bytes (option_map_or (λ at. overlaid (at - inputs.map.data_low) l.section.bytes bytes) o bytes)) ≡ length bytes
    by true o = refl
    by false None = refl
    by false (Some at) = length-overlaid (at - inputs.map.data_low) l.section.bytes bytes

pub length-data_contents : (inputs : ParsedInputs) → length (data_contents inputs) ≡ data_file_end inputs - inputs.map.data_low
unfolding data_contents
length-data_contents inputs =
    let zeros = replicate (data_file_end inputs - inputs.map.data_low) 0 in
    all zeros (all_sections inputs.objects) ∙ length-replicate (data_file_end inputs - inputs.map.data_low) 0
  where
    all : (bytes : List ℕ) (ls : List IndexedSection) → length (fold (with_content inputs) bytes ls) ≡ length bytes
    all bytes [] = refl
    all bytes (l ∷ ls) = all (with_content inputs bytes l) ls ∙ length-with_content inputs bytes l

-- ---- a section of an object

-- the address of a section, by its object's index and its own as they were read
pub address_read : (inputs : ParsedInputs) (l : IndexedSection) (o i : ℕ) → o ≡ l.object → i ≡ l.index → data_address inputs o i ≡ data_address inputs l.object l.index
address_read inputs l o i object index = λ j. data_address inputs (object j) (index j)

module _ (inputs : ParsedInputs) (o i : ℕ) (s : SectionParts) (at : section_at inputs.objects o i ≡ Some s) where
  found : data_address inputs o i ≡ role_address inputs o i s (role_of s)
  unfolding data_address
  found = ap (option_and_then (λ (t : SectionParts). role_address inputs o i t (role_of t))) at

  -- a section of data has an address, and no other section has
  pub address_of_data : (class : DataClass) → role_of s ≡ InClass class → data_address inputs o i ≡ Some (address_in inputs o i s class)
  address_of_data class role = found ∙ ap (role_address inputs o i s) role

  pub none_of_code : role_of s ≡ Code → data_address inputs o i ≡ None
  none_of_code role = found ∙ ap (role_address inputs o i s) role

  pub none_of_dropped : role_of s ≡ Dropped → data_address inputs o i ≡ None
  none_of_dropped role = found ∙ ap (role_address inputs o i s) role

  here : IndexedSection
  here = record { object = o; index = i; section = s }

  -- a section that has no address adds no content
  pub content_none : (bytes : List ℕ) → data_address inputs o i ≡ None → with_content inputs bytes (record { object = o; index = i; section = s }) ≡ bytes
  content_none bytes none =
      ap (λ a. cond (eqb s.kind 8) bytes (option_map_or (λ at. overlaid (at - inputs.map.data_low) s.bytes bytes) a bytes)) none
      ∙ by (eqb s.kind 8)
    where
      by : (b : Bool) → cond b bytes bytes ≡ bytes
      by true = refl
      by false = refl
