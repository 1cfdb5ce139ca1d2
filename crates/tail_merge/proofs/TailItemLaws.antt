-- What is kept of the items of a section, one place after another, and the tails that are found in it.
use Rattle.std.proofs.Common.{◌≡◌, ℕ, zero, suc, ◌+◌, ◌-◌, ◌<◌, ◌≤◌, List, [], ◌∷◌, ◌++◌, length, map, take, Bool, true, false, cond, Some, refl, sym, ap, ap₂, ◌∙◌, subst, arith, get_or, slice_get, inl, inr}
use Rattle.std.specs.Prelude.{◌⊎◌, All, IfSome}
use Rattle.std.proofs.Math.ListN.{get_or-append}
use Rattle.std.proofs.Math.Seq.{get_or-append_seam}
use Rattle.std.proofs.lemmas.Bool.{cases_lt}
use Rattle.std.proofs.lemmas.List.{get_or-map, length-map, take_all, take_more}
use Rattle.std.proofs.lemmas.List.Elements.{All-nil}
use Rattle.std.proofs.lemmas.List.Folds.{length-flat_map-take}
use Rattle.std.proofs.lemmas.Option.{get_or_from_slice_get, same_Some, slice_get_within}
use Rattle.elf32_read.specs.Parts.{is_code_section}
use Rattle.psabi_sym.specs.Fixed.{is_fixed}
use Rattle.psabi_sym.specs.Inputs.{Inputs, ParsedInputs, parsed}
use Rattle.psabi_sym.specs.Indexed.{IndexedSection, all_sections, section_at}
use Rattle.psabi_sym.specs.Invariants.Rows.{section_row}
use Rattle.psabi_sym.specs.declared.section_row.SectionRow.{SectionRow}
use Rattle.rv_decode.specs.Immediates.{InRange}
use Rattle.block_cut.specs.Items.{all_items, item_in, items_in, place_of, starts_in}
use Rattle.block_cut.specs.Leaders.{is_leader_at}
use Rattle.block_cut.specs.Places.{code_place, code_places}
use Rattle.block_cut.specs.declared.code_place.CodePlace.{CodePlace}
use Rattle.tail_merge.specs.RemovedTails.{AreRemovedFrom, IsAmong, tail_among}
use Rattle.tail_merge.specs.TailItems.{instr_tail_item, place_instr, tail_item, tail_items_of}
use Rattle.tail_merge.specs.TailSearch.{HasOwnWord}
use Rattle.tail_merge.specs.Tails.{CodeItem, code_item, code_items, op_in_item, removed_from, removed_tails}
use Rattle.tail_merge.specs.declared.removed_tail.RemovedTail.{RemovedTail}
use Rattle.tail_merge.specs.declared.tail_item.TailItem.{TailItem}
use Rattle.tail_merge.proofs.OpLaws.{instr-in_range, instr-there, item-places, own-words, place-there, size-there}

module _ (inputs : ParsedInputs) (l : IndexedSection) (at : section_at inputs.objects l.object l.index ≡ Some l.section) (places starts : List CodePlace)
    (are : places ≡ code_places inputs l) (is : starts ≡ take (length places - 1) places) where
  -- what isn't code has no places
  no-places : is_code_section l.section ≡ false → length starts ≡ 0
  no-places other = ap length (is ∙ ap (λ ps. take (length ps - 1) ps) (are ∙ ap (λ b. cond b (map (code_place inputs l) (starts_in l.section ++ length l.section.bytes ∷ [])) []) other))

  has-code : (k : ℕ) → k < length starts → is_code_section l.section ≡ true
  has-code k low = by (is_code_section l.section) refl
    where
      by : (b : Bool) → is_code_section l.section ≡ b → b ≡ true
      by true e = refl
      by false e = absurd (let none = no-places e in omega (arith, none, low))

  in-starts : (k : ℕ) → k < length starts → k < length (starts_in l.section)
  in-starts k low = let count = ap length (item-places inputs l at (has-code k low) places starts are is) ∙ length-map (starts_in l.section) (code_place inputs l) in omega (arith, low, count)

  module _ (k : ℕ) (low : k < length starts) (d : CodePlace) where
    here : get_or starts k d ≡ code_place inputs l (get_or (starts_in l.section) k 0)
    here = place-there inputs l at (has-code k low) places starts are is k low d

    instr-is : place_instr (get_or starts k d) ≡ op_in_item (code_item inputs l (get_or (starts_in l.section) k 0)).item
    instr-is = ap place_instr here ∙ instr-there inputs l at (has-code k low) k (in-starts k low)

    -- its instruction has a word
    pub place-in_range : IfSome (place_instr (get_or starts k d)) InRange
    place-in_range = instr-in_range inputs l (get_or (starts_in l.section) k 0) (place_instr (get_or starts k d)) (sym instr-is)

    all-items : tail_items_of inputs l ≡ map tail_item (code_items inputs l)
    all-items = ap (λ b. cond b (map tail_item (code_items inputs l)) []) (has-code k low)

    item-here : instr_tail_item (place_instr (get_or starts k d)) (get_or starts k d).size (is_leader_at inputs (place_of l (get_or starts k d).offset)) ≡ tail_item (code_item inputs l (get_or (starts_in l.section) k 0))
    item-here =
        ap (λ o. instr_tail_item o (get_or starts k d).size (is_leader_at inputs (place_of l (get_or starts k d).offset))) instr-is
        ∙ ap (λ (p : CodePlace). instr_tail_item (op_in_item (code_item inputs l (get_or (starts_in l.section) k 0)).item) p.size (is_leader_at inputs (place_of l p.offset))) here
        ∙ ap (λ n. instr_tail_item (op_in_item (code_item inputs l (get_or (starts_in l.section) k 0)).item) n (is_leader_at inputs (place_of l (get_or (starts_in l.section) k 0)))) (size-there inputs l at (has-code k low) (get_or (starts_in l.section) k 0))

    -- one more item
    pub items-more : (items : List TailItem) → items ≡ take k (tail_items_of inputs l)
        → items ++ instr_tail_item (place_instr (get_or starts k d)) (get_or starts k d).size (is_leader_at inputs (place_of l (get_or starts k d).offset)) ∷ [] ≡ take (k + 1) (tail_items_of inputs l)
    items-more items so_far =
        let count = ap length all-items ∙ length-map (code_items inputs l) tail_item ∙ length-map (starts_in l.section) (code_item inputs l) in
        let inside = in-starts k low in
        let item : TailItem = tail_item (code_item inputs l (get_or (starts_in l.section) k 0)) in
        let inner = get_or-map (code_item inputs l) (starts_in l.section) k 0 (code_item inputs l 0) inside in
        let size = length-map (starts_in l.section) (code_item inputs l) in
        let got : get_or (tail_items_of inputs l) k item ≡ item = ap (λ ts. get_or ts k item) all-items ∙ get_or-map tail_item (code_items inputs l) k (code_item inputs l 0) item (omega (arith, inside, size)) ∙ ap tail_item inner in
        ap₂ (λ ts t. ts ++ t ∷ []) so_far item-here
        ∙ sym (take_more (tail_items_of inputs l) k item (omega (arith, count, inside)) ∙ ap (λ t. take k (tail_items_of inputs l) ++ t ∷ []) got)

  -- all of them
  pub items-all : (k : ℕ) → length starts ≤ k → take k (tail_items_of inputs l) ≡ tail_items_of inputs l
  items-all k high = take_all k (tail_items_of inputs l) (let same = count in omega (arith, same, high))
    where
      by : (b : Bool) → is_code_section l.section ≡ b → length (tail_items_of inputs l) ≡ length starts
      by true e =
          ap (λ b. length (cond b (map tail_item (code_items inputs l)) [])) e ∙ length-map (code_items inputs l) tail_item ∙ length-map (starts_in l.section) (code_item inputs l)
          ∙ sym (ap length (item-places inputs l at e places starts are is) ∙ length-map (starts_in l.section) (code_place inputs l))
      by false e = ap (λ b. length (cond b (map tail_item (code_items inputs l)) [])) e ∙ sym (no-places e)

      count : length (tail_items_of inputs l) ≡ length starts
      count = by (is_code_section l.section) refl

-- ---- the tails of a section

-- there are no more of them than items of all code
pub items-few : (inputs : ParsedInputs) (k : ℕ) (l : IndexedSection) → slice_get (all_sections inputs.objects) k ≡ Some l → length (tail_items_of inputs l) ≤ length (all_items inputs)
items-few inputs k l is =
    let inside = slice_get_within (all_sections inputs.objects) k l is in
    let part = length-flat_map-take (items_in inputs) (all_sections inputs.objects) k l inside in
    let same = ap (λ m. length (items_in inputs m)) (get_or_from_slice_get (all_sections inputs.objects) k l l is) in
    let count = by (is_code_section l.section) in
    omega (arith, part, same, count)
  where
    by : (b : Bool) → length (cond b (map tail_item (code_items inputs l)) []) ≡ length (map (item_in inputs l.section) (cond b (map (place_of l) (starts_in l.section)) []))
    by true =
        length-map (code_items inputs l) tail_item ∙ length-map (starts_in l.section) (code_item inputs l)
        ∙ sym (length-map (map (place_of l) (starts_in l.section)) (item_in inputs l.section) ∙ length-map (starts_in l.section) (place_of l))
    by false = refl

no-list : {A B : Type 0} (f : A → B) (xs : List A) → map f xs ≡ [] → xs ≡ []
no-list f [] is = refl
no-list f (x ∷ xs) is = absurd cc

-- whether a section is fixed, by its row
pub row-fixed : (inputs given : Inputs) (k : ℕ) (l m : IndexedSection) (row : SectionRow) → given ≡ inputs → slice_get (all_sections (parsed given).objects) k ≡ Some m
    → row ≡ section_row given.fixed m → slice_get (all_sections (parsed inputs).objects) k ≡ Some l → is_fixed inputs.fixed l.section ≡ row.fixed
row-fixed inputs given k l m row same there is at =
    let also : l ≡ m = same_Some l m (sym at ∙ ap (λ i. slice_get (all_sections (parsed i).objects) k) (sym same) ∙ there) in
    ap₂ (λ (i : Inputs) (s : IndexedSection). is_fixed i.fixed s.section) (sym same) also ∙ ap (λ (r : SectionRow). r.fixed) (sym is)

-- none are removed from a fixed section
pub tails-fixed : (inputs : ParsedInputs) (l : IndexedSection) (tails : List RemovedTail) → is_fixed inputs.fixed l.section ≡ true → tails ≡ [] → AreRemovedFrom inputs l tails
unfolding removed_tails
tails-fixed inputs l tails fixed none = record {
  among = subst (All (IsAmong (code_items inputs l))) (sym none) (All-nil (IsAmong (code_items inputs l)));
  are = ap (map (tail_among (code_items inputs l))) none ∙ sym (by (is_code_section l.section));
}
  where
    by : (b : Bool) → cond b (removed_tails inputs l) [] ≡ []
    by true = ap (λ f. cond f [] (removed_from [] [] (code_items inputs l))) fixed
    by false = refl

pub tails-are : (inputs : ParsedInputs) (l : IndexedSection) (items : List TailItem) (tails : List RemovedTail) → is_fixed inputs.fixed l.section ≡ false → items ≡ tail_items_of inputs l
    → ((cs : List CodeItem) → items ≡ map tail_item cs → All HasOwnWord cs → All (IsAmong cs) tails)
    → ((cs : List CodeItem) → items ≡ map tail_item cs → All HasOwnWord cs → map (tail_among cs) tails ≡ removed_from [] [] cs) → AreRemovedFrom inputs l tails
unfolding removed_tails
tails-are inputs l items tails loose are among found = by (is_code_section l.section) refl are
  where
    by : (b : Bool) → is_code_section l.section ≡ b → items ≡ cond b (map tail_item (code_items inputs l)) [] → AreRemovedFrom inputs l tails
    by true code is = record {
      among = among (code_items inputs l) is (own-words inputs l);
      are =
          found (code_items inputs l) is (own-words inputs l)
          ∙ sym (ap₂ (λ b f. cond b (cond f [] (removed_from [] [] (code_items inputs l))) []) code loose);
    }
    by false code is =
        let none = no-list (tail_among []) tails (found [] is (All-nil HasOwnWord)) in
        record {
          among = subst (All (IsAmong (code_items inputs l))) (sym none) (All-nil (IsAmong (code_items inputs l)));
          are = ap (map (tail_among (code_items inputs l))) none ∙ sym (ap (λ b. cond b (removed_tails inputs l) []) code);
        }

-- one more section
pub lists-more : (inputs : ParsedInputs) (lists : List (List RemovedTail)) (tails : List RemovedTail) (n : ℕ) → length lists ≡ n
    → ((k : ℕ) → k < n → (l : IndexedSection) → slice_get (all_sections inputs.objects) k ≡ Some l → AreRemovedFrom inputs l (get_or lists k []))
    → ((l : IndexedSection) → slice_get (all_sections inputs.objects) n ≡ Some l → AreRemovedFrom inputs l tails)
    → (k : ℕ) → k < n + 1 → (l : IndexedSection) → slice_get (all_sections inputs.objects) k ≡ Some l → AreRemovedFrom inputs l (get_or (lists ++ tails ∷ []) k [])
lists-more inputs lists tails n count before last k low l is = by (cases_lt k n)
  where
    by : (k < n) ⊎ (n ≤ k) → AreRemovedFrom inputs l (get_or (lists ++ tails ∷ []) k [])
    by (inl less) = subst (AreRemovedFrom inputs l) (sym (get_or-append lists (tails ∷ []) [] k (omega (arith, less, count)))) (before k less l is)
    by (inr more) =
        let same : k ≡ length lists = omega (arith, more, low, count) in
        let same' : k ≡ n = omega (arith, more, low) in
        subst (AreRemovedFrom inputs l) (sym (ap (λ m. get_or (lists ++ tails ∷ []) m []) same ∙ get_or-append_seam lists tails [] [])) (last l (ap (slice_get (all_sections inputs.objects)) (sym same') ∙ is))

-- a section with this number
pub some-in : {A : Type 0} (xs : List A) (k : ℕ) → k < length xs → (x : A) × (slice_get xs k ≡ Some x)
some-in [] k low = absurd (omega (arith, low))
some-in (x ∷ xs) zero low = (x, refl)
some-in (x ∷ xs) (suc k) low = some-in xs k (omega (arith, low))
