-- The plain layout is one that a link may have, if no fault stands: its addresses are those of its places, each item has its longest
-- form, and branches reach.
use Rattle.std.proofs.Common.{◌≡◌, ℕ, ℤ, pos, ◌-ℤ◌, ◌+◌, ◌-◌, ◌<◌, ◌≤◌, length, max, Bool, true, false, cond, Option, Some, None, refl, sym, ap, ◌∙◌, subst, inl, inr, arith, eqb}
use Rattle.std.specs.Prelude.{◌||◌}
use Rattle.std.specs.Option.{is_some, option_map, option_map_or, unwrap_or}
use Rattle.std.proofs.lemmas.Option.{none-some, same_Some}
use Rattle.zc_base.specs.declared.place.Place.{Place}
use Rattle.elf32_read.specs.Parts.{SectionParts, is_code_section}
use Rattle.psabi_reloc.specs.Reaches.{branch_reach, jal_reach, short_branch_reach, short_jump_reach}
use Rattle.psabi_sym.proofs.BlockLaws.{aligned_up-ge}
use Rattle.psabi_sym.specs.Blocks.{aligned_up}
use Rattle.psabi_sym.specs.Faults.{gather_fault, power_above}
use Rattle.psabi_sym.specs.Inputs.{Inputs, ParsedInputs, parsed}
use Rattle.psabi_sym.specs.Indexed.{section_at, sections_before}
use Rattle.rv_decode.specs.declared.instr.BranchOp.{BranchOp}
use Rattle.rv_decode.specs.declared.instr.Instr.{Instr}
use Rattle.rv_decode.specs.declared.instr.Instr.TheVariants as instr
use Rattle.rv_decode.specs.Bits.{as_signed}
use Rattle.block_cut.specs.Invariants.Cut.{place_at}
use Rattle.block_cut.specs.Items.{code_at, is_target_at, item_at, next_at, size_at, size_on, starts_on}
use Rattle.block_cut.specs.PlainLayout.{address_on, after_item, starts_before, plain_address, plain_end, plain_end_of, plain_start}
use Rattle.block_cut.specs.Relocs.{instr_in}
use Rattle.block_cut.specs.declared.item.Item.{Item}
use Rattle.block_cut.specs.declared.item.Item.TheVariants.{Op, Hi, Lo, PcHi, PcLo, Branch, Jump, Call, Align, Word, Raw, RawShort, RawPair}
use Rattle.block_cut.proofs.PlainLaws.{AreBounds, AtEnd, Coincide, FirstFlat, InPadding, IsFlat, Same, SecondFlat, address_bounds, apart, item_here, next_address, place_address, spot}
use Rattle.block_cut.proofs.RoomLaws.{after_starts-ge, plain_end-fits}
use Rattle.block_cut.proofs.StartLaws.{start_first}
use Rattle.block_cut.proofs.WholeLaws.{code_whole}
use Rattle.sym_machine.specs.Conditions.{is_solid}
use Rattle.shrink_layout.specs.Halves.{fixed_instr}
use Rattle.shrink_layout.specs.Pieces.{is_short}
use Rattle.shrink_layout.specs.Units.{CodeUnit, OneGroup, OneItem, OneSite}
use Rattle.zc_link.specs.LaidOut.{HasOwnHalf, IsLaidOut, LiesAt, ListsLeaders, code_end_after, text_end}
use Rattle.zc_link.specs.Pace.{bytes_between}
use Rattle.zc_link.specs.Standing.{HasOwnSize, IsReady}
use Rattle.zc_link.specs.TextLayout.{TextLayout, behind, plain_layout, size_in}
use Rattle.zc_link.specs.Values.{way}
use Rattle.moved_runs.proofs.Faultless.{all_none}
use Rattle.zc_link.proofs.Faultless.{start_listed}
use Rattle.zc_link.proofs.ItemUnits.{item_behind, item_unit, item_written, no_group, no_site, single_inside}
use Rattle.zc_link.proofs.SizedPieces.{size_is}
use Rattle.zc_link.proofs.PlainEnds as ends
use Rattle.zc_link.proofs.PlainEnds.{code_found}
use Rattle.zca_zcb_pass.proofs.HalfNormals.{IsHalfNormal}
use Rattle.zca_zcb_pass.proofs.ShortDistances.{link_short, zero_short}
use Rattle.zc_link.proofs.HalfNormals.{normal_there}
use Rattle.zc_link.proofs.PlainReach.{branch_near, branch_reaches, jump_near}
use Rattle.zc_link.proofs.ShortWays.{way_distance, way_jumps}
use Rattle.zc_link.proofs.Standing.{item_own, item_stands}

-- a place has an address just if code may lead there
pub plain_listed : (p : ParsedInputs) (q : Place) → is_some (plain_address p q) ≡ is_target_at p.objects q
unfolding plain_address
plain_listed p q = by (code_at p.objects q) refl
  where
    tested : (s : SectionParts) (b : Bool) → is_some (cond b (Some (address_on p q s)) None) ≡ b
    tested s true = refl
    tested s false = refl

    by : (o : Option SectionParts) → code_at p.objects q ≡ o → is_some (plain_address p q) ≡ is_target_at p.objects q
    by None at =
        let no : is_target_at p.objects q ≡ false = (λ j. option_map_or (λ s. starts_on s q.offset) (at j) false || option_map_or (λ s. eqb q.offset (length s.bytes)) (at j) false) in
        (λ j. is_some (cond (no j) (option_map (address_on p q) (code_at p.objects q)) None)) ∙ sym no
    by (Some s) at = (λ j. is_some (cond (is_target_at p.objects q) (option_map (address_on p q) (at j)) None)) ∙ tested s (is_target_at p.objects q)

module _ (inputs : Inputs) (ready : IsReady inputs) where
  abbrev p : ParsedInputs
  p = parsed inputs

  abbrev L : TextLayout
  L = plain_layout inputs

  abbrev A : Place → Option ℕ
  A = plain_address p

  none : gather_fault inputs ≡ None
  none = (all_none inputs ready.faultless).gathered

  leaders : ListsLeaders p A
  leaders q target leader = plain_listed p q ∙ target

  bounds : (q : Place) (a : ℕ) → A q ≡ Some a → AreBounds inputs none a
  bounds q a at = address_bounds inputs none ready.is_map q a at

  -- where all code ends
  pub plain_end_is : text_end L ≡ plain_end p
  plain_end_is = ends.text_end_is inputs none

  -- ---- items

  -- a jump reaches, since all code is near
  jumps : (q to : Place) (a b : ℕ) → A q ≡ Some a → A to ≡ Some b → jal_reach (as_signed (way a b)) ≡ true
  jumps q to a b from there =
      let one = bounds q a from in
      let two = bounds to b there in
      let map = ready.is_map in
      way_jumps a b (omega (arith, one.few, map.code, map.room)) (omega (arith, two.few, map.code, map.room))
      (omega (arith, two.few, one.low)) (omega (arith, one.few, two.low)) (omega (arith, one.words)) (omega (arith, two.words))

  -- a branch is in range, since otherwise there would be a fault; so are branches and jumps of two bytes
  module _ (q to : Place) (a b : ℕ) (from : A q ≡ Some a) (there : A to ≡ Some b) where
    way_is : as_signed (way a b) ≡ pos b -ℤ pos a
    way_is =
        let one = bounds q a from in
        let two = bounds to b there in
        let map = ready.is_map in
        way_distance a b (omega (arith, one.few, map.code, map.room)) (omega (arith, two.few, map.code, map.room))
        (omega (arith, two.few, one.low)) (omega (arith, one.few, two.low))

    -- the instruction of two bytes at the place
    spelled_there : (item : Item) (is : item_at p q ≡ Some item) (i : ℤ → Instr) (d : ℤ) → size_at p.objects q ≡ 2
        → instr_in (size_on (item_here inputs none q item is).section q.offset) (item_here inputs none q item is).section.bytes q.offset ≡ Some (i d) → IsHalfNormal (i d)
    spelled_there item is i d two spells =
        let here = item_here inputs none q item is in
        normal_there here.section.bytes q.offset (i d) (subst (λ m. instr_in m here.section.bytes q.offset ≡ Some (i d)) (sym here.size ∙ two) spells)

    module _ (op : BranchOp) (first second : ℕ) (is : item_at p q ≡ Some (Branch op first second to)) where
      branches : size_at p.objects q ≡ 4 → branch_reach (as_signed (way a b)) ≡ true
      branches four = ap branch_reach way_is ∙ branch_reaches inputs ready.faultless q to a b from there op first second is four

      short_branches : size_at p.objects q ≡ 2 → is_short (instr.Branch op first second (as_signed (way a b))) ≡ true
      short_branches two =
          let here = item_here inputs none q (Branch op first second to) is in
          let stands = (item_stands inputs none ready A leaders q here.section here.code (Branch op first second to) is).0 in
          zero_short op first second (as_signed (way a b)) (spelled_there (Branch op first second to) is (instr.Branch op first second) stands.distance two stands.spells).0
          (ap short_branch_reach way_is ∙ branch_near inputs ready.faultless q to a b from there op first second is two)

    module _ (rd : ℕ) (is : item_at p q ≡ Some (Jump rd to)) where
      short_jumps : size_at p.objects q ≡ 2 → is_short (instr.Jal rd (as_signed (way a b))) ≡ true
      short_jumps two =
          let here = item_here inputs none q (Jump rd to) is in
          let stands = (item_stands inputs none ready A leaders q here.section here.code (Jump rd to) is).0 in
          link_short rd (as_signed (way a b)) (spelled_there (Jump rd to) is (instr.Jal rd) stands.distance two stands.spells).0
          (ap short_jump_reach way_is ∙ jump_near inputs ready.faultless q to a b from there rd is two)

  -- the place behind what is written is the one after the item
  behind_is : (q : Place) → behind L q ≡ next_at p.objects q
  behind_is q = item_behind L q refl

  -- each item has its longest form, its bytes in the object, except padding
  lies_item : (q : Place) (a : ℕ) (item : Item) → item_at p q ≡ Some item → A q ≡ Some a → LiesAt L q a (OneItem item)
  lies_item q a item is at =
      by item (size_at p.objects q) refl is (ap A (behind_is q) ∙ next_address inputs none q item a is at)
      (item_own inputs none ready A leaders q item is)
    where
      by : (i : Item) (own : ℕ) → own ≡ size_at p.objects q → item_at p q ≡ Some i → A (behind L q) ≡ Some (after_item a own i) → HasOwnSize i own → LiesAt L q a (OneItem i)
      by (Op i) own same h next size = record { inside = single_inside L q; is = h; size = own; next = next; form = inl same }
      by (Hi i t) own same h next size = record { inside = single_inside L q; is = h; size = own; next = next; form = inl size }
      by (Lo i t) own same h next size = record { inside = single_inside L q; is = h; size = own; next = next; form = inl size }
      by (PcHi i t) own same h next size = record { inside = single_inside L q; is = h; size = own; next = next; form = size }
      by (PcLo i from) own same h next size = record { inside = single_inside L q; is = h; size = own; next = next; form = size }
      by (Branch op first second to) own same h next (inl two) =
          record {
            inside = single_inside L q;
            is = h;
            size = own;
            next = next;
            form = λ b there. inr (inl (two, short_branches q to a b at there op first second h (sym same ∙ two)));
          }
      by (Branch op first second to) own same h next (inr four) =
          record { inside = single_inside L q; is = h; size = own; next = next; form = λ b there. inl (four, branches q to a b at there op first second h (sym same ∙ four)) }
      by (Jump rd to) own same h next (inl two) =
          record { inside = single_inside L q; is = h; size = own; next = next; form = λ b there. inr (two, short_jumps q to a b at there rd h (sym same ∙ two)) }
      by (Jump rd to) own same h next (inr four) =
          record { inside = single_inside L q; is = h; size = own; next = next; form = λ b there. inl (four, jumps q to a b at there) }
      by (Call rd temp to) own same h next size = record { inside = single_inside L q; is = h; size = own; next = next; form = λ b there. inl size }
      by (Align n) own same h next size =
          let up : a + (aligned_up (power_above n) a - a) ≡ aligned_up (power_above n) a = omega (arith, aligned_up-ge (power_above n) a) in
          record { inside = single_inside L q; is = h; size = aligned_up (power_above n) a - a; next = next ∙ ap Some (sym up); form = up }
      by (Word t) own same h next size = record { inside = single_inside L q; is = h; size = own; next = next; form = size }
      by (Raw word) own same h next size = record { inside = single_inside L q; is = h; size = own; next = next; form = size }
      by (RawShort half) own same h next size = record { inside = single_inside L q; is = h; size = own; next = next; form = size }
      by (RawPair first second) own same h next size = record { inside = single_inside L q; is = h; size = own; next = next; form = size }

  lies : (q : Place) (a : ℕ) (u : CodeUnit) → L.unit q ≡ Some u → A q ≡ Some a → LiesAt L q a u
  lies q a (OneItem item) unit at = lies_item q a item (item_unit p q item unit) at
  lies q a (OneGroup g) unit at = absurd (no_group (item_at p q) g unit)
  lies q a (OneSite slot) unit at = absurd (no_site (item_at p q) slot unit)

  -- an item in two bytes whose instruction is known before the layout has two bytes of its own
  copied_alone : (q : Place) (item : Item) → item_at p q ≡ Some item → size_in L q ≡ 2 → HasOwnHalf (size_at p.objects q) item
  copied_alone q item is two = by (A q) refl
    where
      -- what has another size of its own takes another
      other : {X : Type 0} (a own m : ℕ) → A q ≡ Some a → A (behind L q) ≡ Some (a + own) → own ≡ m → 2 < m → X
      other a own m at next size more = absurd (omega (arith, size, more, two, size_is L q a own at next))

      of :
          (a : ℕ) → A q ≡ Some a → (x : Item) (own : ℕ) → A (behind L q) ≡ Some (after_item a own x) → HasOwnSize x own → (i : Instr) → fixed_instr x ≡ Some i
          → (own ≡ 2) × (x ≡ Op i)
      of a at (Op j) own next size i fixed = (sym (size_is L q a own at next) ∙ two, ap Op (same_Some j i fixed))
      of a at (Hi j t) own next size i fixed = other a own 4 at next size (omega arith)
      of a at (Lo j t) own next size i fixed = other a own 4 at next size (omega arith)
      of a at (PcHi j t) own next size i fixed = absurd (none-some i fixed)
      of a at (PcLo j from) own next size i fixed = absurd (none-some i fixed)
      of a at (Branch op first second to) own next size i fixed = absurd (none-some i fixed)
      of a at (Jump rd to) own next size i fixed = absurd (none-some i fixed)
      of a at (Call rd temp to) own next size i fixed = absurd (none-some i fixed)
      of a at (Align n) own next size i fixed = absurd (none-some i fixed)
      of a at (Word t) own next size i fixed = absurd (none-some i fixed)
      of a at (Raw word) own next size i fixed = absurd (none-some i fixed)
      of a at (RawShort half) own next size i fixed = absurd (none-some i fixed)
      of a at (RawPair first second) own next size i fixed = absurd (none-some i fixed)

      by : (o : Option ℕ) → A q ≡ o → HasOwnHalf (size_at p.objects q) item
      by None at = absurd (cc (ap (λ o. bytes_between o (A (behind L q))) at, two))
      by (Some a) at =
          of a at item (size_at p.objects q) (ap A (behind_is q) ∙ next_address inputs none q item a is at)
          (item_own inputs none ready A leaders q item is)

  -- ---- sections

  -- a section begins after those before it
  begins :
      (o i : ℕ) (s : SectionParts) → section_at p.objects o i ≡ Some s → is_code_section s ≡ true
      → code_end_after L (sections_before p.objects o i) ≤ unwrap_or (A (place_at o i 0)) 0
  begins o i s found code =
      let q = place_at o i 0 in
      let at = code_found p o i 0 s found code in
      let here = place_address p q s at (start_first s code (code_whole inputs q s none at)) in
      let end = plain_end_of p (sections_before p.objects o i) in
      omega (
        arith,
        ends.ends_before inputs none o i s found,
        ap (λ x. unwrap_or x 0) here,
        aligned_up-ge (max 4 s.align) end,
        after_starts-ge p (spot q s) (plain_start p o i s) (starts_before s 0),
      )

  -- ---- places of their own

  solid_room : (q : Place) → is_solid (item_at p q) ≡ true → IsFlat p q → ⊥
  solid_room q solid (AtEnd nothing) = let no : is_solid (item_at p q) ≡ false = ap is_solid nothing in absurd (cc (solid, no))
  solid_room q solid (InPadding n padding) = let no : is_solid (item_at p q) ≡ false = ap is_solid padding in absurd (cc (solid, no))

  distinct : (q r : Place) (a : ℕ) → is_solid (item_at p q) ≡ true → is_solid (item_at p r) ≡ true → A q ≡ Some a → A r ≡ Some a → q ≡ r
  distinct q r a solid_q solid_r at_q at_r = by (apart inputs none q r a at_q at_r)
    where
      by : Coincide p q r → q ≡ r
      by (Same is) = is
      by (FirstFlat flat) = absurd (solid_room q solid_q flat)
      by (SecondFlat flat) = absurd (solid_room r solid_r flat)

  -- ---- all

  pub plain_is_laid_out : IsLaidOut L
  plain_is_laid_out =
      let start = start_listed inputs A ready.faultless leaders in
      record {
        only = λ q some. sym (plain_listed p q) ∙ some;
        leaders = leaders;
        written = item_written p A (plain_listed p);
        start = start.1 ∙ ap Some (sym (ap (λ o. unwrap_or o inputs.map.text) start.1));
        few = omega arith;
        even = λ q a at. let b = bounds q a at in omega (arith, b.words);
        low = λ q a at. omega (arith, (bounds q a at).low);
        high = λ q a at. let b = bounds q a at in omega (arith, b.high, plain_end_is);
        short = omega (arith, plain_end_is, plain_end-fits inputs none);
        each = lies;
        kept = λ q item keeps unit two. copied_alone q item (item_unit p q item unit) two;
        begins = begins;
        distinct = distinct;
      }
