-- From section to section: one that isn't code changes nothing, and one that is begins after a gap.
use Rattle.std.proofs.Common.{◌≡◌, ℕ, ◌+◌, ◌-◌, ◌≤◌, List, [], ◌∷◌, ◌++◌, length, map, Some, Bool, true, false, cond, refl, sym, ap, ◌∙◌, subst, arith, slice_get}
use Rattle.std.specs.Prelude.{replicate}
use Rattle.std.specs.List.{flat_map}
use Rattle.std.specs.Option.{unwrap_or}
use Rattle.std.proofs.lemmas.List.{append-nil, length-append, length-map}
use Rattle.std.proofs.lemmas.List.Concat.{flat_map-append}
use Rattle.std.proofs.lemmas.List.Sums.{fold-append}
use Rattle.std.proofs.lemmas.List.Elements.{All-nil}
use Rattle.zc_base.specs.declared.place.Place.{Place}
use Rattle.elf32_read.specs.Parts.{is_code_section}
use Rattle.psabi_sym.specs.Inputs.{ParsedInputs, parsed}
use Rattle.psabi_sym.specs.Indexed.{IndexedSection, all_sections}
use Rattle.psabi_sym.proofs.SectionNumbers.{before_number, listed_at}
use Rattle.block_cut.specs.Items.{place_of, starts_in, targets_in, targets_of}
use Rattle.block_cut.specs.Places.{code_place, code_places}
use Rattle.block_cut.specs.declared.code_place.CodePlace.{CodePlace}
use Rattle.block_cut.proofs.TakeLaws.{take_next}
use Rattle.zc_link.specs.Front.{IsFront}
use Rattle.zc_link.specs.LaidOut.{IsLaidOut, code_end_after, laid_section_end}
use Rattle.zc_link.specs.Standing.{BeginsSection}
use Rattle.zc_link.specs.TextLayout.{TextLayout, front_end}
use Rattle.zc_link.specs.Written.{HoldsPlace, IsSoFar, IsTextOf}
use Rattle.zc_link.proofs.FrontLaws.{front_held, front_long, front_octets}
use Rattle.zc_link.proofs.Grows.{so_far_gap}
use Rattle.zc_link.proofs.Walk.{before}

-- what isn't code has no places, and what is has some
pub no_places : (p : ParsedInputs) (l : IndexedSection) (own : List CodePlace) → own ≡ code_places p l → length own ≡ 0 → is_code_section l.section ≡ false
no_places p l own are few = by (is_code_section l.section) refl
  where
    by : (b : Bool) → is_code_section l.section ≡ b → is_code_section l.section ≡ false
    by false is = is
    by true is =
        absurd (omega (
          arith,
          few,
          ap length (are ∙ ap (λ b. cond b (map (code_place p l) (targets_in l.section)) []) is),
          length-map (targets_in l.section) (code_place p l),
          length-append (starts_in l.section) (length l.section.bytes ∷ []),
        ))

pub some_places : (p : ParsedInputs) (l : IndexedSection) (own : List CodePlace) → own ≡ code_places p l → (length own ≡ 0 → ⊥) → is_code_section l.section ≡ true
some_places p l own are some = by (is_code_section l.section) refl
  where
    by : (b : Bool) → is_code_section l.section ≡ b → is_code_section l.section ≡ true
    by true is = is
    by false is = absurd (some (ap length (are ∙ ap (λ b. cond b (map (code_place p l) (targets_in l.section)) []) is)))

-- before the first section the text is what stands in front
pub front_alone : (L : TextLayout) (text : List ℕ) (places : List (Place × ℕ)) → IsFront L text → places ≡ [] → IsTextOf L (before L 0) text places
front_alone L text places is no_places =
    let long = front_long L text is in
    subst (λ l. IsTextOf L [] text l) (sym no_places)
    (record {
      listed = refl;
      ends = ap (λ n. L.inputs.map.text + n) long;
      front = front_held L text is;
      holds = All-nil (HoldsPlace L text);
      gaps = λ k past lt gap. absurd (omega (arith, past, lt, long));
      octets = front_octets L text is;
    })

module _ (L : TextLayout) (k : ℕ) (l : IndexedSection) (at : slice_get (all_sections (parsed L.inputs).objects) k ≡ Some l) where
  abbrev p : ParsedInputs
  p = parsed L.inputs

  -- a section that isn't code adds nothing
  pub other_section :
      (text : List ℕ) (places : List (Place × ℕ)) → is_code_section l.section ≡ false → IsTextOf L (before L k) text places
      → IsTextOf L (before L (k + 1)) text places
  other_section text places other so_far =
      let end = code_end_after L (before L k) in
      let later : before L (k + 1) ≡ before L k ++ l ∷ [] = take_next (all_sections p.objects) k l at in
      let nothing : targets_of l ≡ [] = ap (λ b. cond b (map (place_of l) (targets_in l.section)) []) other in
      let targets : flat_map targets_of (before L k) ≡ flat_map targets_of (before L (k + 1)) =
      sym (ap (flat_map targets_of) later ∙ flat_map-append targets_of (before L k) (l ∷ []) ∙ ap (λ t. flat_map targets_of (before L k) ++ (t ++ [])) nothing
      ∙ append-nil (flat_map targets_of (before L k))) in
      let ends : end ≡ code_end_after L (before L (k + 1)) =
      sym (ap (code_end_after L) later ∙ fold-append (laid_section_end L) (front_end L) (before L k) (l ∷ [])
      ∙ ap (λ b. cond b (unwrap_or (L.address (place_of l (length l.section.bytes))) end) end) other) in
      subst (λ ts. IsSoFar L ts (code_end_after L (before L (k + 1))) text places) targets
      (subst (λ e. IsSoFar L (flat_map targets_of (before L k)) e text places) ends so_far)

  -- a section of code begins no earlier than the text ends
  module _ (laid : IsLaidOut L) (code : is_code_section l.section ≡ true) (begin : ℕ) (listed : L.address (place_of l 0) ≡ Some begin) where
    pub begins_late : code_end_after L (before L k) ≤ begin
    begins_late =
        let late = laid.begins l.object l.index l.section (listed_at p.objects k l at) code in
        omega (arith, late, ap (code_end_after L) (before_number p.objects k l at), ap (λ o. unwrap_or o 0) listed)

    -- after a gap
    pub begins_section :
        (text : List ℕ) (places : List (Place × ℕ)) (n : ℕ) → n ≡ begin - code_end_after L (before L k) → IsTextOf L (before L k) text places
        → BeginsSection L k (text ++ replicate n 0) places
    begins_section text places n gap so_far =
        let end = code_end_after L (before L k) in
        let far : end + n ≡ begin = omega (arith, gap, begins_late) in
        record {
          section = l;
          at = at;
          code = code;
          address = begin;
          listed = listed;
          so_far = subst (λ e. IsSoFar L (flat_map targets_of (before L k)) e (text ++ replicate n 0) places) far
              (so_far_gap L (flat_map targets_of (before L k)) end n text places so_far);
        }
