-- There are as many jumps and calls through the table as halfwords of such (`sites_counted`).
use Rattle.std.proofs.Common.{◌≡◌, ◌∙◌, ◌+◌, ◌<◌, ℕ, suc, drop, get_or, List, [], ◌∷◌, length, filter, map, Bool, true, false, cond, Option, Some, None, slice_index, refl, sym, ap, arith, eqb}
use Rattle.std.specs.List.{flat_map}
use Rattle.std.specs.Option.{option_and_then, option_map, option_map_or}
use Rattle.std.proofs.lemmas.Bool.{eqb-true}
use Rattle.std.proofs.lemmas.List.{drop_more}
use Rattle.zc_base.specs.declared.place.Place.{Place}
use Rattle.elf32_read.specs.Parts.{is_code_section}
use Rattle.psabi_sym.specs.Inputs.{ParsedInputs}
use Rattle.psabi_sym.specs.Indexed.{IndexedSection, all_sections}
use Rattle.block_cut.specs.Items.{all_places, item_at, place_of, places_of, starts_in}
use Rattle.block_cut.specs.declared.item.Item.{Item}
use Rattle.frame_match.specs.Groups.{role_at}
use Rattle.frame_match.specs.declared.role.Role.{Role}
use Rattle.frame_match.specs.declared.role.Role.TheVariants.{Alone, First, Inside}
use Rattle.shrink_layout.specs.Invariants.Made.{AreHalvesOf, all_owners, owners_in, section_owners}
use Rattle.shrink_layout.specs.Invariants.Numbers.{IsHalfAt, is_table_half}
use Rattle.shrink_layout.specs.Pieces.{piece_number_at, slot_at, unit_at}
use Rattle.shrink_layout.specs.Settled.{is_site, settled_sizes, units_with}
use Rattle.shrink_layout.specs.Units.{CodeUnit, OneGroup, OneItem, OneSite, item_unit, role_unit, unit_by}
use Rattle.shrink_layout.proofs.CountLaws.{passed_append}
use Rattle.shrink_layout.proofs.HalfLaws.{table_half_is}

-- what is written is a jump or call through the table
abbrev is_site_unit : Option CodeUnit → Bool
is_site_unit None = false
is_site_unit (Some (OneItem i)) = false
is_site_unit (Some (OneGroup g)) = false
is_site_unit (Some (OneSite slot)) = true

-- an element more counts in both lists if it passes both tests
one_more : {X Y : Type 0} (x : X) (y : Y) (b c : Bool) (xs : List X) (ys : List Y) → b ≡ c → length xs ≡ length ys → length (cond b (x ∷ xs) xs) ≡ length (cond c (y ∷ ys) ys)
one_more x y true true xs ys same rest = ap suc rest
one_more x y true false xs ys same rest = absurd cc
one_more x y false true xs ys same rest = absurd cc
one_more x y false false xs ys same rest = rest

-- what passes from an element on
pub passed_step : {X : Type 0} (test : X → Bool) (xs : List X) (k : ℕ) (d : X) → k < length xs
    → length (filter test (drop k xs)) ≡ cond {A = ℕ} (test (get_or xs k d)) 1 0 + length (filter test (drop (k + 1) xs))
passed_step {X = X} test xs k d lt = ap (λ ys. length (filter test ys)) (drop_more xs k d lt) ∙ by (test (get_or xs k d))
  where
    rest : List X
    rest = filter test (drop (k + 1) xs)

    by : (b : Bool) → length (cond b (get_or xs k d ∷ rest) rest) ≡ cond {A = ℕ} b 1 0 + length rest
    by true = omega arith
    by false = omega arith

-- ---- halfwords

half_counts : (o : Option CodeUnit) (half : ℕ) → IsHalfAt o half → is_table_half half ≡ is_site_unit o
half_counts None half is = is
half_counts (Some (OneItem i)) half is = is.1
half_counts (Some (OneGroup g)) half is = is
half_counts (Some (OneSite slot)) half is = table_half_is slot half is

halves_counted : (owners : List (Option CodeUnit)) (halves : List ℕ) → AreHalvesOf owners halves → length (filter is_table_half halves) ≡ length (filter is_site_unit owners)
halves_counted [] [] are = refl
halves_counted [] (h ∷ halves) are = absurd are
halves_counted (owner ∷ owners) [] are = absurd are
halves_counted (owner ∷ owners) (h ∷ halves) are =
    one_more h owner (is_table_half h) (is_site_unit owner) (filter is_table_half halves) (filter is_site_unit owners) (half_counts owner h are.0) (halves_counted owners halves are.1)

-- ---- places

module _ (inputs : ParsedInputs) (slot : Place → Option ℕ) (test : Place → Bool) (same : (q : Place) → is_site_unit (unit_by inputs slot q) ≡ test q) where
  places_counted : (qs : List Place) → length (filter is_site_unit (map (unit_by inputs slot) qs)) ≡ length (filter test qs)
  places_counted [] = refl
  places_counted (q ∷ qs) =
      one_more (unit_by inputs slot q) q (is_site_unit (unit_by inputs slot q)) (test q) (filter is_site_unit (map (unit_by inputs slot) qs)) (filter test qs) (same q) (places_counted qs)

  section_counted : (l : IndexedSection) → length (filter is_site_unit (section_owners inputs slot l)) ≡ length (filter test (places_of l))
  section_counted l = by (is_code_section l.section)
    where
      places : Bool → List Place
      places b = cond b (map (place_of l) (starts_in l.section)) []

      by : (b : Bool) → length (filter is_site_unit (cond b (None ∷ map (unit_by inputs slot) (places b)) [])) ≡ length (filter test (places b))
      by true = places_counted (places true)
      by false = refl

  sections_counted : (ls : List IndexedSection) → length (filter is_site_unit (owners_in inputs slot ls)) ≡ length (filter test (flat_map places_of ls))
  sections_counted [] = refl
  sections_counted (l ∷ ls) =
      omega (
        arith,
        passed_append is_site_unit (section_owners inputs slot l) (owners_in inputs slot ls),
        passed_append test (places_of l) (flat_map places_of ls),
        section_counted l,
        sections_counted ls,
      )

-- ---- all

pub sites_counted : (inputs : ParsedInputs) (slots : List (Option Place)) (halves : List ℕ) → AreHalvesOf (all_owners inputs slots) halves
    → length (filter is_table_half halves) ≡ units_with inputs slots is_site
sites_counted inputs slots halves are =
    halves_counted (all_owners inputs slots) halves are
    ∙ sections_counted inputs (slot_at inputs slots)
    (λ q. option_map_or (is_site (slice_index (settled_sizes inputs slots) (piece_number_at inputs.objects q))) (unit_at inputs slots q) false)
    (λ q. by (slice_index (settled_sizes inputs slots) (piece_number_at inputs.objects q)) (unit_at inputs slots q)) (all_sections inputs.objects)
  where
    by : (size : ℕ) (o : Option CodeUnit) → is_site_unit o ≡ option_map_or (is_site size) o false
    by size None = refl
    by size (Some (OneItem i)) = refl
    by size (Some (OneGroup g)) = refl
    by size (Some (OneSite slot)) = refl

-- without slots there are none
pub no_sites : (inputs : ParsedInputs) → units_with inputs [] is_site ≡ 0
unfolding slot_at
no_sites inputs = none_of (all_places inputs.objects)
  where
    test : Place → Bool
    test q = option_map_or (is_site (slice_index (settled_sizes inputs []) (piece_number_at inputs.objects q))) (unit_at inputs [] q) false

    alone : (size : ℕ) (o : Option Item) → option_map_or (is_site size) (option_map (item_unit None) o) false ≡ false
    alone size None = refl
    alone size (Some i) = refl

    by : (size : ℕ) (q : Place) (o : Option Role) → option_map_or (is_site size) (option_and_then (role_unit None (item_at inputs q)) o) false ≡ false
    by size q None = refl
    by size q (Some Alone) = alone size (item_at inputs q)
    by size q (Some (First g)) = refl
    by size q (Some Inside) = refl

    none_of : (qs : List Place) → length (filter test qs) ≡ 0
    none_of [] = refl
    none_of (q ∷ qs) =
        ap (λ b. length (cond b (q ∷ filter test qs) (filter test qs))) (by (slice_index (settled_sizes inputs []) (piece_number_at inputs.objects q)) q (role_at inputs q))
        ∙ none_of qs

pub empty_sites : (inputs : ParsedInputs) (slots : List (Option Place)) → eqb (length slots) 0 ≡ true → 0 ≡ units_with inputs slots is_site
empty_sites inputs [] is = sym (no_sites inputs)
empty_sites inputs (x ∷ xs) is = absurd (omega (arith, eqb-true (length (x ∷ xs)) 0 is))
