-- The branches of inputs without a fault reach in the plain layout, and the branches and jumps of 2 bytes do in these.
use Rattle.std.proofs.Common.{◌≡◌, ℕ, pos, ◌-ℤ◌, [], ◌∷◌, ◌++◌, map, Some, None, true, false, cond, refl, sym, ap, ◌∙◌, subst}
use Rattle.std.specs.Prelude.{not, ◌||◌}
use Rattle.std.specs.List.{find, flat_map}
use Rattle.std.specs.Option.{option_map_or}
use Rattle.std.proofs.lemmas.Bool.{not-false, or_parts}
use Rattle.zc_base.specs.declared.place.Place.{Place}
use Rattle.psabi_reloc.specs.Reaches.{branch_reach, short_branch_reach, short_jump_reach}
use Rattle.psabi_sym.specs.Inputs.{Inputs, ParsedInputs, parsed}
use Rattle.psabi_sym.specs.Indexed.{sections_before}
use Rattle.block_cut.specs.declared.item.Item.{Item}
use Rattle.block_cut.specs.declared.item.Item.TheVariants.{Branch, Jump}
use Rattle.block_cut.specs.Faults.{distance_between, first_fault, is_far, is_out_of_reach, leaves_fixed, range_fault, reaches, way_place}
use Rattle.block_cut.specs.Items.{all_places, item_at, place_of, places_of, size_at, starts_in}
use Rattle.block_cut.specs.PlainLayout.{plain_address}
use Rattle.rv_decode.specs.declared.instr.BranchOp.{BranchOp}
use Rattle.block_cut.proofs.ItemLaws.{item_found}
use Rattle.block_cut.proofs.ListedLaws.{cut_at, listed}
use Rattle.block_cut.proofs.WholeLaws.{code_is_section}
use Rattle.shrink_layout.proofs.TargetLaws.{mapped_none}
use Rattle.moved_runs.proofs.Faultless.{AreFaultless, all_none, find_among, find_flat}

module _ (inputs : Inputs) (none : first_fault inputs ≡ None) where
  abbrev p : ParsedInputs
  p = parsed inputs

  fine : AreFaultless inputs
  fine = all_none inputs none

  -- a branch or jump at a place is in range, if it may be out of range at all
  reached :
      (q : Place) (i : Item) (to : Place) (a b : ℕ) → item_at p q ≡ Some i → way_place (size_at p.objects q) i ≡ Some to
      → plain_address p q ≡ Some a → plain_address p to ≡ Some b → reaches (size_at p.objects q) i (pos b -ℤ pos a) ≡ true
  unfolding range_fault
  reached q i to a b is way from there =
      let found = item_found p q i is in
      let s = found.section in
      let two = code_is_section p.objects q s found.code in
      let l = listed q.object q.section s in
      let cut = cut_at p.objects q.object q.section s two.0 in
      let size = size_at p.objects q in
      let test = is_out_of_reach p in
      let all : find test (flat_map places_of (sections_before p.objects q.object q.section ++ l ∷ cut.rest)) ≡ None =
      ap (λ ls. find test (flat_map places_of ls)) (sym cut.all_are) ∙ mapped_none _ (find test (all_places p.objects)) fine.range in
      let own : find test (places_of l) ≡ None = find_flat test places_of (sections_before p.objects q.object q.section) cut.rest l all in
      let mine : find test (map (place_of l) (starts_in s)) ≡ None = ap (λ c. find test (cond c (map (place_of l) (starts_in s)) [])) (sym two.1) ∙ own in
      let here : is_out_of_reach p q ≡ false = find_among test (place_of l) (starts_in s) q.offset mine found.start in
      let both : (is_far p q size i to || leaves_fixed p q to) ≡ false =
      (λ j. option_map_or (λ t. is_far p q size i t || leaves_fixed p q t) (sym way j) false)
      ∙ (λ j. option_map_or (λ x. option_map_or (λ t. is_far p q size x t || leaves_fixed p q t) (way_place size x) false) (sym is j) false) ∙ here in
      let far : not (reaches size i (pos b -ℤ pos a)) ≡ false =
      (λ j. option_map_or (λ d. not (reaches size i d)) (distance_between (sym from j) (sym there j)) false)
      ∙ (or_parts (is_far p q size i to) (leaves_fixed p q to) both).0 in
      not-false (reaches size i (pos b -ℤ pos a)) far

  module _ (q to : Place) (a b : ℕ) (from : plain_address p q ≡ Some a) (there : plain_address p to ≡ Some b) where
    module _ (op : BranchOp) (first second : ℕ) (is : item_at p q ≡ Some (Branch op first second to)) where
      pub branch_reaches : size_at p.objects q ≡ 4 → branch_reach (pos b -ℤ pos a) ≡ true
      branch_reaches four =
          subst (λ m. reaches m (Branch op first second to) (pos b -ℤ pos a) ≡ true) four (reached q (Branch op first second to) to a b is refl from there)

      pub branch_near : size_at p.objects q ≡ 2 → short_branch_reach (pos b -ℤ pos a) ≡ true
      branch_near two =
          subst (λ m. reaches m (Branch op first second to) (pos b -ℤ pos a) ≡ true) two (reached q (Branch op first second to) to a b is refl from there)

    pub jump_near : (rd : ℕ) → item_at p q ≡ Some (Jump rd to) → size_at p.objects q ≡ 2 → short_jump_reach (pos b -ℤ pos a) ≡ true
    jump_near rd is two =
        let way : way_place (size_at p.objects q) (Jump rd to) ≡ Some to = ap (λ m. way_place m (Jump rd to)) two in
        subst (λ m. reaches m (Jump rd to) (pos b -ℤ pos a) ≡ true) two (reached q (Jump rd to) to a b is way from there)
