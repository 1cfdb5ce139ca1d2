-- Items without relocation are the instructions that their bytes spell, so their words say which ones they are.
use Rattle.std.proofs.Common.{◌≡◌, ℕ, ◌-◌, ◌<◌, List, [], ◌∷◌, ◌++◌, length, map, take, true, cond, Option, Some, None, refl, ap, ap₂, ◌∙◌, arith, get_or, eqb}
use Rattle.std.specs.Prelude.{All, IfSome}
use Rattle.std.specs.Option.{option_and_then, option_map_or}
use Rattle.std.proofs.lemmas.Bool.{eq-eqb}
use Rattle.std.proofs.lemmas.List.{get_or-map, length-append, length-map, map-append, take_at}
use Rattle.std.proofs.lemmas.List.Elements.{All-map}
use Rattle.std.proofs.lemmas.List.Folds.{list_any_at}
use Rattle.zc_base.specs.declared.place.Place.{Place}
use Rattle.elf32_read.specs.Parts.{SectionParts, is_code_section}
use Rattle.psabi_sym.specs.Inputs.{ParsedInputs}
use Rattle.psabi_sym.specs.Indexed.{IndexedSection, section_at}
use Rattle.rv_decode.specs.Immediates.{InRange}
use Rattle.rv_decode.specs.declared.instr.Instr.{Instr}
use Rattle.rv_encode.proofs.EncodedLaws.{encoded-decodes}
use Rattle.block_cut.specs.Items.{code_at, item_at, item_in, place_of, size_at, size_on, starts_in, starts_on}
use Rattle.block_cut.specs.Places.{code_place, code_places}
use Rattle.block_cut.specs.Relocs.{instr_in}
use Rattle.block_cut.specs.declared.code_place.CodePlace.{CodePlace}
use Rattle.block_cut.specs.declared.item.Item.{Item}
use Rattle.block_cut.specs.declared.item.Item.TheVariants.{Op}
use Rattle.block_cut.proofs.InstrLaws.{in_range_in, registers_in}
use Rattle.block_cut.proofs.ItemLaws.{item_at-code}
use Rattle.tail_merge.specs.TailItems.{place_instr}
use Rattle.tail_merge.specs.TailSearch.{HasOwnWord}
use Rattle.tail_merge.specs.Tails.{code_item, code_items, op_in_item}
use Rattle.tail_merge.proofs.ItemOrigins.{OfItem, item-of}

-- an item without relocation that stands for itself is spelled by its bytes
op-spelled : (inputs : ParsedInputs) (s : SectionParts) (q : Place) (i : Instr) → op_in_item (item_in inputs s q) ≡ Some i → instr_in (size_on s q.offset) s.bytes q.offset ≡ Some i
op-spelled inputs s q i is = by (item_in inputs s q) (item-of (λ j. instr_in (size_on s q.offset) s.bytes q.offset ≡ Some j) (λ to. Unit {0}) inputs q s (λ none j spells. spells) (λ r on lower to leads. tt)) is
  where
    by : (x : Item) → OfItem (λ j. instr_in (size_on s q.offset) s.bytes q.offset ≡ Some j) (λ to. Unit {0}) x → op_in_item x ≡ Some i → instr_in (size_on s q.offset) s.bytes q.offset ≡ Some i
    by (Op j) spells e = spells ∙ e
    by x spells e = absurd cc

pub own-word : (inputs : ParsedInputs) (l : IndexedSection) (n : ℕ) → HasOwnWord (code_item inputs l n)
own-word inputs l n = λ i is.
    let spells = op-spelled inputs l.section (place_of l n) i is in
    encoded-decodes i (in_range_in (size_on l.section n) l.section.bytes n i spells) (registers_in (size_on l.section n) l.section.bytes n i spells)

pub own-words : (inputs : ParsedInputs) (l : IndexedSection) → All HasOwnWord (code_items inputs l)
own-words inputs l = All-map HasOwnWord (code_item inputs l) (starts_in l.section) (λ k d low. own-word inputs l (get_or (starts_in l.section) k d))

-- ---- the places of a section

module _ (inputs : ParsedInputs) (l : IndexedSection) (at : section_at inputs.objects l.object l.index ≡ Some l.section) (code : is_code_section l.section ≡ true) where
  code-there : (n : ℕ) → code_at inputs.objects (place_of l n) ≡ Some l.section
  code-there n = ap (option_and_then (λ s. cond (is_code_section s) (Some s) None)) at ∙ ap (λ b. cond b (Some l.section) None) code

  -- the item at a start, and its size
  item-there : (n : ℕ) → starts_on l.section n ≡ true → item_at inputs (place_of l n) ≡ Some (item_in inputs l.section (place_of l n))
  item-there n start = item_at-code inputs (place_of l n) l.section (code-there n) ∙ ap (λ b. cond b (Some (item_in inputs l.section (place_of l n))) None) start

  pub size-there : (n : ℕ) → size_at inputs.objects (place_of l n) ≡ size_on l.section n
  size-there n = ap (λ o. option_map_or (λ s. size_on s n) o 4) (code-there n)

  start-there : (k : ℕ) → k < length (starts_in l.section) → starts_on l.section (get_or (starts_in l.section) k 0) ≡ true
  start-there k low = list_any_at (λ m. eqb m (get_or (starts_in l.section) k 0)) (starts_in l.section) k 0 low (eq-eqb (get_or (starts_in l.section) k 0) (get_or (starts_in l.section) k 0) refl)

  -- all but the last place are those of items
  pub item-places : (places starts : List CodePlace) → places ≡ code_places inputs l → starts ≡ take (length places - 1) places → starts ≡ map (code_place inputs l) (starts_in l.section)
  item-places places starts are is =
      let split : code_places inputs l ≡ map (code_place inputs l) (starts_in l.section) ++ code_place inputs l (length l.section.bytes) ∷ [] =
      ap (λ b. cond b (map (code_place inputs l) (starts_in l.section ++ length l.section.bytes ∷ [])) []) code ∙ map-append (code_place inputs l) (starts_in l.section) (length l.section.bytes ∷ []) in
      let whole = are ∙ split in
      let count = ap length whole in
      let parts = length-append (map (code_place inputs l) (starts_in l.section)) (code_place inputs l (length l.section.bytes) ∷ []) in
      let less : length places - 1 ≡ length (map (code_place inputs l) (starts_in l.section)) = omega (arith, count, parts) in
      is ∙ ap₂ take less whole ∙ take_at (map (code_place inputs l) (starts_in l.section)) (code_place inputs l (length l.section.bytes) ∷ []) (length (map (code_place inputs l) (starts_in l.section))) refl

  -- one of them
  pub place-there : (places starts : List CodePlace) → places ≡ code_places inputs l → starts ≡ take (length places - 1) places → (k : ℕ) → k < length starts → (d : CodePlace)
      → get_or starts k d ≡ code_place inputs l (get_or (starts_in l.section) k 0)
  place-there places starts are is k low d =
      let same = item-places places starts are is in
      let count = ap length same ∙ length-map (starts_in l.section) (code_place inputs l) in
      ap (λ ps. get_or ps k d) same ∙ get_or-map (code_place inputs l) (starts_in l.section) k 0 d (omega (arith, low, count))

  -- its instruction, size and offset are those of the section's item with this number
  pub instr-there : (k : ℕ) → k < length (starts_in l.section) → place_instr (code_place inputs l (get_or (starts_in l.section) k 0)) ≡ op_in_item (code_item inputs l (get_or (starts_in l.section) k 0)).item
  instr-there k low = ap (option_and_then op_in_item) (item-there (get_or (starts_in l.section) k 0) (start-there k low))

pub instr-in_range : (inputs : ParsedInputs) (l : IndexedSection) (n : ℕ) (o : Option Instr) → op_in_item (code_item inputs l n).item ≡ o → IfSome o InRange
instr-in_range inputs l n None is = tt
instr-in_range inputs l n (Some i) is = in_range_in (size_on l.section n) l.section.bytes n i (op-spelled inputs l.section (place_of l n) i is)
