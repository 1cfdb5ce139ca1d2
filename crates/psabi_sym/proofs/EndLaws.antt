-- Where data end: a section of data ends where all data end or before.
use Rattle.std.proofs.Common.{◌≡◌, ℕ, ◌+◌, ◌≤◌, List, [], ◌∷◌, ◌++◌, drop, take, map, filter, Bool, true, false, cond, Some, refl, sym, ap, ◌∙◌, arith}
use Rattle.std.specs.List.{fold}
use Rattle.std.proofs.lemmas.List.{drop_more, map-append, take-append-drop}
use Rattle.std.proofs.lemmas.List.Elements.{filter-append}
use Rattle.std.proofs.lemmas.List.Sums.{fold-append}
use Rattle.std.proofs.lemmas.Option.{get_or_from_slice_get, slice_get_within}
use Rattle.elf32_read.specs.Parts.{ObjectParts, SectionParts}
use Rattle.psabi_sym.specs.Blocks.{aligned_up, end_from}
use Rattle.psabi_sym.specs.Classes.{classes_before, same_class}
use Rattle.psabi_sym.specs.Data.{address_in, blocks_in, blocks_of, class_end, class_start, data_end, has_class, role_of}
use Rattle.psabi_sym.specs.Inputs.{ParsedInputs}
use Rattle.psabi_sym.specs.Indexed.{IndexedSection, all_sections, section_at, sections_before}
use Rattle.psabi_sym.specs.declared.block.Block.{Block}
use Rattle.psabi_sym.specs.declared.data_class.DataClass.{DataClass}
use Rattle.psabi_sym.specs.declared.data_class.DataClass.TheVariants.{ReadOnly, Data, SmallData, SmallZero, Zero, Common}
use Rattle.psabi_sym.specs.declared.section_row.SectionRole.TheVariants.{InClass}
use Rattle.psabi_sym.proofs.BlockLaws.{aligned_up-ge, end_from-ge}
use Rattle.psabi_sym.proofs.ContentLaws.{end_after, ends-ge}
use Rattle.psabi_sym.proofs.PlaceLaws.{not_common}
use Rattle.psabi_sym.proofs.SectionNumbers.{before_number, number_of_section}

end_from-append : (at : ℕ) (bs cs : List Block) → end_from at (bs ++ cs) ≡ end_from (end_from at bs) cs
end_from-append at [] cs = refl
end_from-append at (b ∷ bs) cs = end_from-append (aligned_up b.align at + b.size) bs cs

same_as_itself : (class : DataClass) → same_class class class ≡ true
same_as_itself ReadOnly = refl
same_as_itself Data = refl
same_as_itself SmallData = refl
same_as_itself SmallZero = refl
same_as_itself Zero = refl
same_as_itself Common = refl

-- the classes after one, before the common symbols
abbrev later : DataClass → List DataClass
later ReadOnly = Data ∷ SmallData ∷ SmallZero ∷ Zero ∷ []
later Data = SmallData ∷ SmallZero ∷ Zero ∷ []
later SmallData = SmallZero ∷ Zero ∷ []
later SmallZero = Zero ∷ []
later Zero = []
later Common = []

all_classes : (class : DataClass) → same_class class Common ≡ false → classes_before class ++ class ∷ later class ≡ classes_before Common
all_classes ReadOnly other = refl
all_classes Data other = refl
all_classes SmallData other = refl
all_classes SmallZero other = refl
all_classes Zero other = refl
all_classes Common other = absurd cc

-- the common symbols come last, so all data end no earlier than a class. What is said of any class says so at once: by each class,
-- the check would compare chains of ends
class_end-le : (inputs : ParsedInputs) (class : DataClass) → same_class class Common ≡ false → class_end inputs class ≤ data_end inputs
unfolding class_end class_start
class_end-le inputs class other =
    let after = end_after inputs.objects in
    let end = fold after inputs.map.data_low (classes_before Common) in
    let same : fold after (class_end inputs class) (later class) ≡ end =
    sym (fold-append after inputs.map.data_low (classes_before class) (class ∷ later class))
    ∙ ap (fold after inputs.map.data_low) (all_classes class other) in
    omega (
      arith,
      same,
      ends-ge inputs.objects (class_end inputs class) (later class),
      aligned_up-ge 16 end,
      end_from-ge (aligned_up 16 end) (blocks_of inputs.objects Common),
    )

-- a class of sections has their room
class_blocks : (objects : List ObjectParts) (class : DataClass) → same_class class Common ≡ false → blocks_of objects class ≡ blocks_in class (all_sections objects)
class_blocks objects ReadOnly other = refl
class_blocks objects Data other = refl
class_blocks objects SmallData other = refl
class_blocks objects SmallZero other = refl
class_blocks objects Zero other = refl
class_blocks objects Common other = absurd cc

-- the room of sections in two parts
blocks_in-append : (class : DataClass) (ls ms : List IndexedSection) → blocks_in class (ls ++ ms) ≡ blocks_in class ls ++ blocks_in class ms
blocks_in-append class ls ms = ap (map block) (filter-append own ls ms) ∙ map-append block (filter own ls) (filter own ms)
  where
    own : IndexedSection → Bool
    own l = has_class class (role_of l.section)

    block : IndexedSection → Block
    block l = record { align = l.section.align; size = l.section.size }

-- a section of a class has its room
blocks_in-own : (class : DataClass) (l : IndexedSection) (ls : List IndexedSection) → has_class class (role_of l.section) ≡ true
    → blocks_in class (l ∷ ls) ≡ record { align = l.section.align; size = l.section.size } ∷ blocks_in class ls
blocks_in-own class l ls own =
    ap (λ b. map (λ m. record { align = m.section.align; size = m.section.size }) (cond b (l ∷ filter (λ m. has_class class (role_of m.section)) ls) (filter (λ m. has_class class (role_of m.section)) ls)))
    own

module _ (inputs : ParsedInputs) (o i : ℕ) (s : SectionParts) (found : section_at inputs.objects o i ≡ Some s) where
  abbrev here : IndexedSection
  here = record { object = o; index = i; section = s }

  -- all sections are those before a section, the section, and some more
  cut_here : (rest : List IndexedSection) × (all_sections inputs.objects ≡ sections_before inputs.objects o i ++ here ∷ rest)
  cut_here =
      let all = all_sections inputs.objects in
      let there = number_of_section inputs.objects o i s found in
      let k = there.0 in
      let front : take k all ≡ sections_before inputs.objects o i = sym (before_number inputs.objects k here there.1) in
      let back : drop k all ≡ here ∷ drop (k + 1) all =
      drop_more all k here (slice_get_within all k here there.1) ∙ ap (λ l. l ∷ drop (k + 1) all) (get_or_from_slice_get all k here here there.1) in
      (drop (k + 1) all, sym (take-append-drop k all) ∙ (λ j. front j ++ back j))

  -- a section of a class lies in it
  pub in_class : (class : DataClass) → role_of s ≡ InClass class → address_in inputs o i s class + s.size ≤ class_end inputs class
  unfolding class_end
  in_class class role =
      let cut = cut_here in
      let own = blocks_in-own class here cut.0 (ap (has_class class) role ∙ same_as_itself class) in
      let start = class_start inputs class in
      let before = blocks_in class (sections_before inputs.objects o i) in
      let rest = blocks_in class cut.0 in
      let block : Block = record { align = s.align; size = s.size } in
      let blocks : blocks_of inputs.objects class ≡ before ++ block ∷ rest =
      class_blocks inputs.objects class (not_common s class role) ∙ ap (blocks_in class) cut.1
      ∙ blocks_in-append class (sections_before inputs.objects o i) (here ∷ cut.0) ∙ ap (λ bs. before ++ bs) own in
      omega (
        arith,
        ap (end_from start) blocks,
        end_from-append start before (block ∷ rest),
        end_from-ge (aligned_up s.align (end_from start before) + s.size) rest,
      )

  -- no data lie after the end of all data
  pub ends_in_data : (class : DataClass) → role_of s ≡ InClass class → address_in inputs o i s class + s.size ≤ data_end inputs
  ends_in_data class role = omega (arith, in_class class role, class_end-le inputs class (not_common s class role))
