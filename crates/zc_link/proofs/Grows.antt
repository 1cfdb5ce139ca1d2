-- A text that grows: it keeps what it holds, and with one unit, one place inside a group, a gap, or a section's end more it is
-- again the text up to its end.
use Rattle.std.proofs.Common.{◌≡◌, ℕ, ◌+◌, ◌-◌, ◌<◌, ◌≤◌, List, [], ◌∷◌, ◌++◌, length, take, drop, Some, None, refl, sym, ap, ◌∙◌, subst, arith, length-append, ⊎_elim}
use Rattle.std.specs.Prelude.{All, replicate}
use Rattle.std.specs.List.{flat_map}
use Rattle.std.specs.Option.{option_map, option_to_list}
use Rattle.std.proofs.Math.Seq.{drop-append_seam, take-length}
use Rattle.std.proofs.lemmas.Bool.{cases_lt}
use Rattle.std.proofs.lemmas.List.{append-nil, get_or-append_right, get_or-replicate, get_or_append_left, length-replicate, take-append-le}
use Rattle.std.proofs.lemmas.List.Concat.{flat_map-append}
use Rattle.std.proofs.lemmas.List.Elements.{All-append, All-cons, All-nil, All-weaker}
use Rattle.zc_base.specs.declared.place.Place.{Place}
use Rattle.elf32_read.specs.Parts.{SectionParts}
use Rattle.psabi_sym.specs.Inputs.{ParsedInputs, parsed}
use Rattle.block_cut.specs.Items.{code_at}
use Rattle.shrink_layout.specs.Units.{CodeUnit, front_size}
use Rattle.zc_link.specs.Copied.{bytes_from}
use Rattle.zc_link.specs.Front.{IsFront}
use Rattle.zc_link.specs.ImageParts.{with_address}
use Rattle.zc_link.specs.Standing.{WrittenHere}
use Rattle.zc_link.specs.TextLayout.{TextLayout, behind, front_end}
use Rattle.zc_link.specs.Written.{GapsAreZero, HoldsFront, HoldsPlace, HoldsUnit, IsSoFar, UnitWritten}
use Rattle.zc_link.proofs.Adds.{bytes_append, first_bytes, zeros_are}
use Rattle.zc_link.proofs.FrontLaws.{front_within}

-- ---- bytes

-- what is added stands after what was there
added_there : (text bytes : List ℕ) (at n : ℕ) → at ≡ length text → n ≡ length bytes → bytes_from (text ++ bytes) at n ≡ bytes
added_there text bytes at n is_at is_n =
    (λ j. take (is_n j) (drop (is_at j) (text ++ bytes))) ∙ ap (take (length bytes)) (drop-append_seam text bytes) ∙ take-length bytes

-- what a text begins with stays
begins_still : (L : TextLayout) (text more : List ℕ) → HoldsFront L text → HoldsFront L (text ++ more)
begins_still L text more is = subst (IsFront L) (sym (take-append-le (front_size L.slots) text more (front_within L text is))) is

module _ (L : TextLayout) where
  abbrev p : ParsedInputs
  p = parsed L.inputs

  abbrev start : ℕ
  start = L.inputs.map.text

  -- ---- what a text holds

  -- a longer text holds what the shorter one held
  holds_more : (text more : List ℕ) (e : Place × ℕ) → HoldsPlace L text e → HoldsPlace L (text ++ more) e
  holds_more text more e holds u is =
      let h = holds u is in
      record {
        size = h.size;
        next = h.next;
        low = h.low;
        within = omega (arith, h.within, length-append text more);
        section = h.section;
        here = h.here;
        written = subst (UnitWritten L e.0 (bytes_from h.section.bytes e.0.offset) e.1 h.size u)
            (sym (first_bytes text more (e.1 - start) h.size (omega (arith, h.low, h.within)))) h.written;
      }

  all_more : (text more : List ℕ) (places : List (Place × ℕ)) → All (HoldsPlace L text) places → All (HoldsPlace L (text ++ more)) places
  all_more text more places all = All-weaker (HoldsPlace L text) (HoldsPlace L (text ++ more)) (λ e h. holds_more text more e h) places all

  -- what is added for a unit it holds
  unit_held :
      (s : SectionParts) (q : Place) (v : CodeUnit) (n : ℕ) (text bytes : List ℕ) → code_at p.objects q ≡ Some s → L.unit q ≡ Some v
      → L.address (behind L q) ≡ Some (start + length text + n) → front_end L ≤ start + length text
      → WrittenHere L s.bytes q v (start + length text) n bytes → HoldsPlace L (text ++ bytes) (q, start + length text)
  unit_held s q v n text bytes at is next low adds u is' =
      let same : v ≡ u = cc in
      let a = start + length text in
      subst (HoldsUnit L (text ++ bytes) (q, a)) same
      (record {
        size = n;
        next = next;
        low = low;
        within = omega (arith, adds.long, length-append text bytes);
        section = s;
        here = at;
        written = subst (UnitWritten L q (bytes_from s.bytes q.offset) a n v)
            (sym (added_there text bytes (a - start) n (omega arith) (sym adds.long))) adds.written;
      })

  -- ---- gaps

  -- bytes of a unit are no gap
  unit_gaps :
      (q : Place) (v : CodeUnit) (text bytes : List ℕ) → L.unit q ≡ Some v → L.address q ≡ Some (start + length text)
      → L.address (behind L q) ≡ Some (start + length text + length bytes) → GapsAreZero L text → GapsAreZero L (text ++ bytes)
  unit_gaps q v text bytes is address next before k past lt gap = ⊎_elim
      (λ (early : start + k < start + length text).
      get_or_append_left text bytes 0 k (omega (arith, early)) ∙ before k past (omega (arith, early)) gap)
      (λ (late : start + length text + length bytes ≤ start + k). absurd (omega (arith, late, lt, length-append text bytes)))
      (gap q v (start + length text) (length bytes) is address next)

  -- zeros that are added are 0
  zero_gaps : (text : List ℕ) (n : ℕ) → GapsAreZero L text → GapsAreZero L (text ++ replicate n 0)
  zero_gaps text n before k past lt gap = ⊎_elim
      (λ (front : k < length text). get_or_append_left text (replicate n 0) 0 k front ∙ before k past front gap)
      (λ (later : length text ≤ k).
      get_or-append_right text (replicate n 0) (length text) k 0 refl later
      ∙ get_or-replicate n (k - length text) 0 0 (omega (arith, later, lt, length-append text (replicate n 0), length-replicate {A = ℕ} n 0)))
      (cases_lt k (length text))

  -- ---- the text so far

  -- the list of places with one place more
  listed_more :
      (targets : List Place) (q : Place) (a : ℕ) (places : List (Place × ℕ)) → places ≡ flat_map (with_address L) targets
      → L.address q ≡ Some a → places ++ (q, a) ∷ [] ≡ flat_map (with_address L) (targets ++ q ∷ [])
  listed_more targets q a places listed address =
      (λ j. listed j ++ (option_to_list (option_map (λ x. (q, x)) (sym address j)) ++ []))
      ∙ sym (flat_map-append (with_address L) targets (q ∷ []))

  -- a unit
  pub so_far_unit :
      (s : SectionParts) (q : Place) (v : CodeUnit) (n : ℕ) (targets : List Place) (end : ℕ) (text bytes : List ℕ) (places : List (Place × ℕ))
      → code_at p.objects q ≡ Some s → L.unit q ≡ Some v → L.address q ≡ Some (start + length text)
      → L.address (behind L q) ≡ Some (start + length text + n) → front_end L ≤ start + length text
      → WrittenHere L s.bytes q v (start + length text) n bytes → IsSoFar L targets end text places
      → IsSoFar L (targets ++ q ∷ []) (start + length (text ++ bytes)) (text ++ bytes) (places ++ (q, start + length text) ∷ [])
  so_far_unit s q v n targets end text bytes places at is address next low adds before =
      let a = start + length text in
      record {
        listed = listed_more targets q a places before.listed address;
        ends = refl;
        front = begins_still L text bytes before.front;
        holds = All-append (HoldsPlace L (text ++ bytes)) places ((q, a) ∷ []) (all_more text bytes places before.holds)
            (All-cons (HoldsPlace L (text ++ bytes)) (q, a) [] (unit_held s q v n text bytes at is next low adds) (All-nil (HoldsPlace L (text ++ bytes))));
        gaps = unit_gaps q v text bytes is address (next ∙ ap (λ m. Some (start + length text + m)) (sym adds.long)) before.gaps;
        octets = bytes_append text bytes before.octets adds.octets;
      }

  -- a place inside a group
  pub so_far_inside :
      (q : Place) (targets : List Place) (end : ℕ) (text : List ℕ) (places : List (Place × ℕ)) → L.address q ≡ None
      → IsSoFar L targets end text places → IsSoFar L (targets ++ q ∷ []) end text places
  so_far_inside q targets end text places address before = record {
    listed = before.listed ∙ sym (append-nil (flat_map (with_address L) targets))
        ∙ (λ j. flat_map (with_address L) targets ++ (option_to_list (option_map (λ x. (q, x)) (sym address j)) ++ []))
        ∙ sym (flat_map-append (with_address L) targets (q ∷ []));
    ends = before.ends;
    front = before.front;
    holds = before.holds;
    gaps = before.gaps;
    octets = before.octets;
  }

  -- a section's end
  pub so_far_end :
      (q : Place) (targets : List Place) (end : ℕ) (text : List ℕ) (places : List (Place × ℕ)) → L.unit q ≡ None → L.address q ≡ Some end
      → IsSoFar L targets end text places → IsSoFar L (targets ++ q ∷ []) end text (places ++ (q, end) ∷ [])
  so_far_end q targets end text places none address before = record {
    listed = listed_more targets q end places before.listed address;
    ends = before.ends;
    front = before.front;
    holds = All-append (HoldsPlace L text) places ((q, end) ∷ []) before.holds
        (All-cons (HoldsPlace L text) (q, end) [] (λ u is. absurd (cc (none, is))) (All-nil (HoldsPlace L text)));
    gaps = before.gaps;
    octets = before.octets;
  }

  -- a gap of zeros
  pub so_far_gap :
      (targets : List Place) (end n : ℕ) (text : List ℕ) (places : List (Place × ℕ)) → IsSoFar L targets end text places
      → IsSoFar L targets (end + n) (text ++ replicate n 0) places
  so_far_gap targets end n text places before = record {
    listed = before.listed;
    ends = omega (arith, before.ends, length-append text (replicate n 0), length-replicate {A = ℕ} n 0);
    front = begins_still L text (replicate n 0) before.front;
    holds = all_more text (replicate n 0) places before.holds;
    gaps = zero_gaps text n before.gaps;
    octets = bytes_append text (replicate n 0) before.octets (zeros_are n);
  }
