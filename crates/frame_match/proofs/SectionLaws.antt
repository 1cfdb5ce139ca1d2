-- The places of a section where items start, and the roles of these items.
use Rattle.std.specs.List.{flat_map, slice_get}
use Rattle.std.proofs.Common.{◌≡◌, ◌∙◌, ℕ, ◌+◌, ◌-◌, ◌≤◌, Some, List, [], ◌∷◌, ◌++◌, Bool, true, false, cond, length, map, take, refl, sym, ap, arith, subst, length-append}
use Rattle.std.proofs.lemmas.List.{length-map, map-append, take_at}
use Rattle.std.proofs.lemmas.List.Folds.{length-flat_map-take}
use Rattle.std.proofs.lemmas.Option.{get_or_from_slice_get, slice_get_within}
use Rattle.elf32_read.specs.Parts.{is_code_section}
use Rattle.psabi_sym.specs.Inputs.{ParsedInputs}
use Rattle.psabi_sym.specs.Indexed.{IndexedSection, all_sections}
use Rattle.block_cut.specs.Items.{all_items, item_in, items_in, place_of, starts_in}
use Rattle.block_cut.specs.Places.{code_place, code_places}
use Rattle.block_cut.specs.declared.code_place.CodePlace.{CodePlace}
use Rattle.frame_match.specs.Groups.{roles_from, roles_in, spot_on}
use Rattle.frame_match.specs.Invariants.Runs.{spots_of, ArePlacesOf}
use Rattle.frame_match.proofs.RunLaws.{map_get}

-- the places of a section's code where items start
abbrev pub starts_at : ParsedInputs → IndexedSection → List CodePlace
starts_at inputs l = cond (is_code_section l.section) (map (code_place inputs l) (starts_in l.section)) []

but_last : {X : Type 0} (xs : List X) (x : X) → take (length (xs ++ x ∷ []) - 1) (xs ++ x ∷ []) ≡ xs
but_last xs x = take_at xs (x ∷ []) (length (xs ++ x ∷ []) - 1) (let e = length-append xs (x ∷ []) in omega (arith, e))

pub starts_is : (inputs : ParsedInputs) (l : IndexedSection) → take (length (code_places inputs l) - 1) (code_places inputs l) ≡ starts_at inputs l
starts_is inputs l = by (is_code_section l.section)
  where
    f : ℕ → CodePlace
    f = code_place inputs l

    all : List CodePlace
    all = map f (starts_in l.section ++ length l.section.bytes ∷ [])

    by : (b : Bool) → take (length (cond b all []) - 1) (cond b all []) ≡ cond b (map f (starts_in l.section)) []
    by true =
        let e = map-append f (starts_in l.section) (length l.section.bytes ∷ []) in
        ap (λ ps. take (length ps - 1) ps) e ∙ but_last (map f (starts_in l.section)) (f (length l.section.bytes))
    by false = refl

map_places : (inputs : ParsedInputs) (l : IndexedSection) (ns : List ℕ) → ArePlacesOf inputs l (map (code_place inputs l) ns)
map_places inputs l ns k p g =
    let w = map_get (code_place inputs l) ns k p g in
    sym w.2 ∙ ap (code_place inputs l) (ap (λ (q : CodePlace). q.offset) w.2)

pub starts_places : (inputs : ParsedInputs) (l : IndexedSection) → ArePlacesOf inputs l (starts_at inputs l)
starts_places inputs l = by (is_code_section l.section)
  where
    by : (b : Bool) → ArePlacesOf inputs l (cond b (map (code_place inputs l) (starts_in l.section)) [])
    by true = map_places inputs l (starts_in l.section)
    by false = map_places inputs l []

spots_are : (inputs : ParsedInputs) (l : IndexedSection) (ns : List ℕ) → spots_of inputs l (map (code_place inputs l) ns) ≡ map (spot_on inputs l) ns
spots_are inputs l [] = refl
spots_are inputs l (n ∷ ns) = ap (λ ss. spot_on inputs l n ∷ ss) (spots_are inputs l ns)

pub roles_are : (inputs : ParsedInputs) (l : IndexedSection) → roles_from 0 (spots_of inputs l (starts_at inputs l)) ≡ roles_in inputs l
unfolding roles_in
roles_are inputs l = by (is_code_section l.section)
  where
    by : (b : Bool) → roles_from 0 (spots_of inputs l (cond b (map (code_place inputs l) (starts_in l.section)) [])) ≡ cond b (roles_from 0 (map (spot_on inputs l) (starts_in l.section))) []
    by true = ap (roles_from 0) (spots_are inputs l (starts_in l.section))
    by false = refl

-- ---- in the code's words

pub walked_places : (inputs : ParsedInputs) (l s : IndexedSection) (ps starts : List CodePlace) → ps ≡ code_places inputs l → starts ≡ take (length ps - 1) ps
    → s ≡ l → ArePlacesOf inputs s starts
walked_places inputs l s ps starts places first same =
    let e = first ∙ ap (λ qs. take (length qs - 1) qs) places ∙ starts_is inputs l in
    subst (λ (k : IndexedSection). ArePlacesOf inputs k starts) (sym same) (subst (ArePlacesOf inputs l) (sym e) (starts_places inputs l))

pub walked_roles : (inputs : ParsedInputs) (l s : IndexedSection) (ps starts : List CodePlace) → ps ≡ code_places inputs l → starts ≡ take (length ps - 1) ps
    → s ≡ l → roles_from 0 (spots_of inputs s starts) ≡ roles_in inputs l
walked_roles inputs l s ps starts places first same =
    let e = first ∙ ap (λ qs. take (length qs - 1) qs) places ∙ starts_is inputs l in
    (λ i. roles_from 0 (spots_of inputs (same i) (e i))) ∙ roles_are inputs l

-- there are as many starts as items
starts_count : (inputs : ParsedInputs) (l : IndexedSection) → length (starts_at inputs l) ≡ length (items_in inputs l)
starts_count inputs l = by (is_code_section l.section)
  where
    by : (b : Bool) → length (cond b (map (code_place inputs l) (starts_in l.section)) []) ≡ length (map (item_in inputs l.section) (cond b (map (place_of l) (starts_in l.section)) []))
    by true =
        let a = length-map (starts_in l.section) (code_place inputs l) in
        let d = length-map (map (place_of l) (starts_in l.section)) (item_in inputs l.section) in
        let e = length-map (starts_in l.section) (place_of l) in
        omega (arith, a, d, e)
    by false = refl

-- with the groups of the sections before there are no more groups than items
pub walked_room : (inputs : ParsedInputs) (l : IndexedSection) (ps starts : List CodePlace) (k n : ℕ) → ps ≡ code_places inputs l → starts ≡ take (length ps - 1) ps
    → slice_get (all_sections inputs.objects) k ≡ Some l → n ≤ length (flat_map (items_in inputs) (take k (all_sections inputs.objects)))
    → n + length starts ≤ length (all_items inputs)
walked_room inputs l ps starts k n places first at few =
    let e = ap length (first ∙ ap (λ qs. take (length qs - 1) qs) places ∙ starts_is inputs l) in
    let c = starts_count inputs l in
    let within = slice_get_within (all_sections inputs.objects) k l at in
    let own = ap (λ m. length (items_in inputs m)) (get_or_from_slice_get (all_sections inputs.objects) k l l at) in
    let all = length-flat_map-take (items_in inputs) (all_sections inputs.objects) k l within in
    omega (arith, e, c, few, own, all)
