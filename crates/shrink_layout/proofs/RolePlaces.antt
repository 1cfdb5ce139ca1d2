-- Roles of items by their places: images list the place after what is written at a place (`behind_unit`), and each place where a
-- basic block begins (`leader_listed`).
use Rattle.std.proofs.Common.{◌≡◌, ◌∙◌, ℕ, zero, suc, ◌+◌, ◌-◌, ◌<◌, ◌≤◌, ◌⊎◌, inl, inr, List, [], ◌∷◌, length, filter, map, Bool, true, false, cond, Option, Some, None, slice_get, refl, sym, ap, subst, arith, eqb, ltb}
use Rattle.std.specs.Prelude.{◌||◌}
use Rattle.std.specs.Option.{is_some, option_and_then, option_map, option_map_or}
use Rattle.std.proofs.lemmas.Bool.{eqb-true, false_from_ne_true}
use Rattle.std.proofs.lemmas.List.{length-append, length-map}
use Rattle.std.proofs.lemmas.Option.{slice_get_within}
use Rattle.zc_base.specs.declared.place.Place.{Place}
use Rattle.elf32_read.specs.Parts.{SectionParts}
use Rattle.psabi_sym.specs.Faults.{gather_fault}
use Rattle.psabi_sym.specs.Inputs.{Inputs, ParsedInputs, parsed}
use Rattle.psabi_sym.specs.Indexed.{IndexedSection}
use Rattle.block_cut.specs.Items.{after_items, code_at, index_on, is_end_at, is_start_at, is_target_at, item_at, next_at, size_on, starts_in, starts_on}
use Rattle.block_cut.specs.Leaders.{is_leader_at}
use Rattle.block_cut.specs.declared.item.Item.{Item}
use Rattle.block_cut.proofs.ItemLaws.{item_found}
use Rattle.block_cut.proofs.PlainLaws.{next_start}
use Rattle.block_cut.proofs.StartLaws.{before_end_all, before_next_start, start_is}
use Rattle.block_cut.proofs.WholeLaws.{code_is_section, code_whole}
use Rattle.frame_match.specs.Groups.{Spot, items_behind, role_at, role_on, roles_from, roles_in, spot_on}
use Rattle.frame_match.specs.declared.group.Group.{Group}
use Rattle.frame_match.specs.declared.role.Role.{Role}
use Rattle.frame_match.specs.declared.role.Role.TheVariants.{Alone, First, Inside}
use Rattle.frame_match.proofs.GroupLaws.{inside_no_leader, roles_count}
use Rattle.shrink_layout.specs.Pieces.{piece_number_at, pieces_of, slot_at, unit_at, unit_piece}
use Rattle.shrink_layout.specs.Units.{CodeUnit, OneGroup, OneItem, OneSite, is_inside, is_listed_at, is_within, item_unit, no_slot, unit_by, unit_items}
use Rattle.shrink_layout.specs.declared.piece.Piece.TheVariants.{WithOthers}
use Rattle.shrink_layout.proofs.NumberLaws.{behind, below_more, filter_few, number_next, place_piece, starts_cut}
use Rattle.shrink_layout.proofs.RoleLaws.{AreInside, first_some, role_next}
use Rattle.shrink_layout.proofs.SectionLaws.{some_at}
use Rattle.shrink_layout.proofs.UnitLaws.{found_item, found_start, role_found, start_item, unit-alone, unit-first, unit-inside, unit-some, unit_found, unit_group, unit_item, unit_site}

-- ---- roles of a section's items

-- the section of a place, as it is listed
abbrev pub own : Place → SectionParts → IndexedSection
own q s = record { object = q.object; index = q.section; section = s }

-- an offset where an item starts has fewer before it than there are
index_less : (s : SectionParts) (n : ℕ) → starts_on s n ≡ true → index_on s n < length (starts_in s)
index_less s n start =
    omega (arith, below_more n (n + 1) (starts_in s) (omega arith) start, filter_few (λ m. ltb m (n + 1)) (starts_in s))

module _ (inputs : ParsedInputs) (q : Place) (s : SectionParts) (here : code_at inputs.objects q ≡ Some s) where
  abbrev spots : List Spot
  spots = map (spot_on inputs (own q s)) (starts_in s)

  -- the role of an item is one of its section's
  pub role-code : starts_on s q.offset ≡ true → role_at inputs q ≡ slice_get (roles_in inputs (own q s)) (index_on s q.offset)
  unfolding role_at
  role-code start = ap (option_and_then (role_on inputs q)) here ∙ ap (λ b. cond b (slice_get (roles_in inputs (own q s)) (index_on s q.offset)) None) start

  pub roles-code : roles_in inputs (own q s) ≡ roles_from 0 spots
  unfolding roles_in
  roles-code = ap (λ b. cond b (roles_from 0 spots) []) (code_is_section inputs.objects q s here).1

  pub roles_many : length (roles_in inputs (own q s)) ≡ length (starts_in s)
  roles_many = ap length roles-code ∙ roles_count 0 spots ∙ length-map (starts_in s) (spot_on inputs (own q s))

  -- what stands behind an item that isn't inside a group
  roles_next : starts_on s q.offset ≡ true → (r : Role) → role_at inputs q ≡ Some r → is_within (Some r) ≡ false
      → AreInside (roles_in inputs (own q s)) (suc (index_on s q.offset)) (items_behind r)
  roles_next start r is outside =
      subst (λ (rs : List Role). AreInside rs (suc (index_on s q.offset)) (items_behind r)) (sym roles-code)
      (role_next 0 spots (index_on s q.offset) r (ap (λ (rs : List Role). slice_get rs (index_on s q.offset)) (sym roles-code) ∙ sym (role-code start) ∙ is) outside)

-- each item has one
pub role_there : (inputs : ParsedInputs) (q : Place) (i : Item) → item_at inputs q ≡ Some i → (r : Role) × (role_at inputs q ≡ Some r)
role_there inputs q i is =
    let found = item_found inputs q i is in
    let s = found.section in
    let at = some_at (roles_in inputs (own q s)) (index_on s q.offset) (omega (arith, index_less s q.offset found.start, roles_many inputs q s found.code)) in
    (at.0, role-code inputs q s found.code found.start ∙ at.1)

-- something is written where an item starts that isn't inside a group
pub unit_outside : (inputs : ParsedInputs) (slot : Place → Option ℕ) (q : Place) (i : Item) → item_at inputs q ≡ Some i → is_inside inputs q ≡ false
    → (u : CodeUnit) × (unit_by inputs slot q ≡ Some u)
unit_outside inputs slot q i is outside = let r = role_there inputs q i is in by r.0 r.1
  where
    by : (r : Role) → role_at inputs q ≡ Some r → (u : CodeUnit) × (unit_by inputs slot q ≡ Some u)
    by Alone at = (item_unit (slot q) i, unit-alone inputs slot q at ∙ ap (option_map (item_unit (slot q))) is)
    by (First g) at = (OneGroup g, unit-first inputs slot q g at)
    by Inside at = absurd (cc (outside, ap is_within at))

-- a group has an item
pub group_some : (inputs : ParsedInputs) (q : Place) (g : Group) → role_at inputs q ≡ Some (First g) → 1 ≤ g.items
group_some inputs q g is =
    let found = role_found inputs q (First g) is in
    let s = found.section in
    let k = index_on s q.offset in
    let at = ap (λ (rs : List Role). slice_get rs k) (sym (roles-code inputs q s found.code)) ∙ sym (role-code inputs q s found.code found.start) ∙ is in
    first_some 0 (map (spot_on inputs (own q s)) (starts_in s)) k (First g) at

-- ---- places that images list

or_true : (b : Bool) → (b || true) ≡ true
or_true true = refl
or_true false = refl

module _ (inputs : ParsedInputs) (q : Place) where
  pub unit_listed : (slot : Place → Option ℕ) (u : CodeUnit) → unit_by inputs slot q ≡ Some u → is_listed_at inputs q ≡ true
  unfolding is_listed_at
  unit_listed slot u is = ap (λ b. b || is_end_at inputs.objects q) (unit-some inputs no_slot slot q ∙ ap is_some is)

  pub end_listed : is_end_at inputs.objects q ≡ true → is_listed_at inputs q ≡ true
  unfolding is_listed_at
  end_listed is = ap (λ b. is_some (unit_by inputs no_slot q) || b) is ∙ or_true (is_some (unit_by inputs no_slot q))

  -- code may lead there
  pub listed_target : is_listed_at inputs q ≡ true → is_target_at inputs.objects q ≡ true
  unfolding is_listed_at
  listed_target is = by (unit_by inputs no_slot q) refl is
    where
      by : (o : Option CodeUnit) → unit_by inputs no_slot q ≡ o → (is_some o || is_end_at inputs.objects q) ≡ true → is_target_at inputs.objects q ≡ true
      by None at h = ap (λ b. is_start_at inputs.objects q || b) h ∙ or_true (is_start_at inputs.objects q)
      by (Some u) at h = ap (λ b. b || is_end_at inputs.objects q) (found_start inputs q (unit_found inputs no_slot q u at))

  -- a place that code may lead to and that isn't inside a group is listed
  pub target_listed : is_target_at inputs.objects q ≡ true → is_inside inputs q ≡ false → is_listed_at inputs q ≡ true
  target_listed target outside = by (is_start_at inputs.objects q) refl target
    where
      by : (b : Bool) → is_start_at inputs.objects q ≡ b → (b || is_end_at inputs.objects q) ≡ true → is_listed_at inputs q ≡ true
      by true start h = let i = start_item inputs q start in let u = unit_outside inputs no_slot q i.0 i.1 outside in unit_listed no_slot u.0 u.1
      by false other h = end_listed h

-- ---- behind what is written

-- n items after a place comes one that images list, whose number is n more; nothing is written between
pub record IsBehind (inputs : ParsedInputs) (slots : List (Option Place)) (q r : Place) (n : ℕ) : Type 0 where
  pub listed : is_listed_at inputs r ≡ true
  pub number : piece_number_at inputs.objects r ≡ piece_number_at inputs.objects q + n
  pub between : (j : ℕ) → 0 < j → j < n → slice_get (pieces_of inputs slots) (piece_number_at inputs.objects q + j) ≡ Some (WithOthers 0)

module _ (inputs : Inputs) (none : gather_fault inputs ≡ None) where
  abbrev given : ParsedInputs
  given = parsed inputs

  module _ (q : Place) (s : SectionParts) (here : code_at given.objects q ≡ Some s) where
    -- the next place has one more item before it
    index_next : starts_on s q.offset ≡ true → index_on s (next_at given.objects q).offset ≡ index_on s q.offset + 1
    index_next start =
        let two = code_is_section given.objects q s here in
        let whole = code_whole inputs q s none here in
        ap (λ o. index_on s (q.offset + option_map_or (λ t. size_on t q.offset) o 4)) here
        ∙ ap length (before_next_start s two.1 whole q.offset start)
        ∙ length-append (filter (λ m. ltb m q.offset) (starts_in s)) (q.offset ∷ [])

    -- an end has all before it
    index_end : is_end_at given.objects q ≡ true → index_on s q.offset ≡ length (starts_in s)
    index_end end =
        let two = code_is_section given.objects q s here in
        let whole = code_whole inputs q s none here in
        let at : q.offset ≡ length s.bytes = eqb-true _ _ (ap (λ o. option_map_or (λ t. eqb q.offset (length t.bytes)) o false) (sym here) ∙ end) in
        ap (index_on s) at ∙ ap length (before_end_all s two.1 whole)

    start_here : is_start_at given.objects q ≡ true → starts_on s q.offset ≡ true
    start_here start = ap (λ o. option_map_or (λ t. starts_on t q.offset) o false) (sym here) ∙ start

  -- one item more before it, if nothing is written at the next place
  one_before : (slots : List (Option Place)) (q next : Place) (left : ℕ) (r : Place) → piece_number_at given.objects next ≡ piece_number_at given.objects q + 1
      → slice_get (pieces_of given slots) (piece_number_at given.objects next) ≡ Some (WithOthers 0)
      → IsBehind given slots next r (suc left) → IsBehind given slots q r (suc (suc left))
  one_before slots q next left r number nothing rest = record {
    listed = rest.listed;
    number = omega (arith, rest.number, number);
    between = by;
  }
    where
      by : (j : ℕ) → 0 < j → j < suc (suc left) → slice_get (pieces_of given slots) (piece_number_at given.objects q + j) ≡ Some (WithOthers 0)
      by zero some few = absurd (omega (arith, some))
      by (suc zero) some few = ap (slice_get (pieces_of given slots)) (sym number) ∙ nothing
      by (suc (suc j)) some few =
          let e : piece_number_at given.objects q + suc (suc j) ≡ piece_number_at given.objects next + suc j = omega (arith, number) in
          ap (slice_get (pieces_of given slots)) e ∙ rest.between (suc j) (omega arith) (omega (arith, few))

  -- from an item on that `left` items inside a group follow
  behind_from : (slots : List (Option Place)) (left : ℕ) (q : Place) (i : Item) (s : SectionParts) → item_at given q ≡ Some i → code_at given.objects q ≡ Some s → starts_on s q.offset ≡ true
      → AreInside (roles_in given (own q s)) (suc (index_on s q.offset)) left
      → IsBehind given slots q (after_items given.objects (suc left) q) (suc left)
  behind_from slots zero q i s is here start are = record {
    listed = by (next_start inputs none q i is);
    number = number_next inputs none q i is;
    between = λ j some few. absurd (omega (arith, some, few));
  }
    where
      next : Place
      next = next_at given.objects q

      by : (is_start_at given.objects next ≡ true) ⊎ (is_end_at given.objects next ≡ true) → is_listed_at given next ≡ true
      by (inr end) = end_listed given next end
      by (inl begins) =
          let j = start_item given next begins in
          let same : index_on s next.offset ≡ suc (index_on s q.offset) + 0 = omega (arith, index_next q s here start) in
          let role = role-code given next s here (start_here next s here begins) in
          let outside : is_inside given next ≡ false = ap is_within (role ∙ ap (slice_get (roles_in given (own q s))) same) ∙ are.next in
          let u = unit_outside given no_slot next j.0 j.1 outside in
          unit_listed given next no_slot u.0 u.1
  behind_from slots (suc left) q i s is here start are = by (next_start inputs none q i is) (λ j at starts more. behind_from slots left (next_at given.objects q) j s at here starts more)
    where
      next : Place
      next = next_at given.objects q

      index : index_on s next.offset ≡ suc (index_on s q.offset)
      index = omega (arith, index_next q s here start)

      first : slice_get (roles_in given (own q s)) (index_on s next.offset) ≡ Some Inside
      first =
          let same : index_on s next.offset ≡ suc (index_on s q.offset) + 0 = omega (arith, index) in
          ap (slice_get (roles_in given (own q s))) same ∙ are.inside 0 (omega arith)

      more : AreInside (roles_in given (own next s)) (suc (index_on s next.offset)) left
      more = record {
        inside = λ j lt.
            let e : suc (index_on s next.offset) + j ≡ suc (index_on s q.offset) + suc j = omega (arith, index) in
            ap (slice_get (roles_in given (own q s))) e ∙ are.inside (suc j) (omega (arith, lt));
        next =
            let e : suc (index_on s next.offset) + left ≡ suc (index_on s q.offset) + suc left = omega (arith, index) in
            ap (λ n. is_within (slice_get (roles_in given (own q s)) n)) e ∙ are.next;
      }

      by : (is_start_at given.objects next ≡ true) ⊎ (is_end_at given.objects next ≡ true)
          → ((j : Item) → item_at given next ≡ Some j → starts_on s next.offset ≡ true → AreInside (roles_in given (own next s)) (suc (index_on s next.offset)) left
          → IsBehind given slots next (after_items given.objects (suc left) next) (suc left))
          → IsBehind given slots q (after_items given.objects (suc (suc left)) q) (suc (suc left))
      by (inr end) rest =
          absurd (omega (arith, slice_get_within (roles_in given (own q s)) (index_on s next.offset) Inside first, roles_many given q s here, index_end next s here end))
      by (inl begins) rest =
          let j = start_item given next begins in
          let starts = start_here next s here begins in
          let behind_it = rest j.0 j.1 starts more in
          let nothing : unit_at given slots next ≡ None = unit-inside given (slot_at given slots) next (role-code given next s here starts ∙ first) in
          one_before slots q next left (after_items given.objects (suc left) next) (number_next inputs none q i is)
          (place_piece inputs none slots next j.0 j.1 ∙ ap (λ o. Some (unit_piece given next o)) nothing) behind_it

  -- from where something is written on
  pub behind_unit : (slots : List (Option Place)) (q : Place) (u : CodeUnit) → unit_at given slots q ≡ Some u → IsBehind given slots q (after_items given.objects (unit_items u) q) (unit_items u)
  behind_unit slots q (OneItem i) is =
      let two = unit_item given (slot_at given slots) q i is in
      let found = item_found given q i two.1 in
      behind_from slots 0 q i found.section two.1 found.code found.start (roles_next given q found.section found.code found.start Alone two.0 refl)
  behind_unit slots q (OneGroup g) is =
      let role = unit_group given (slot_at given slots) q g is in
      let found = role_found given q (First g) role in
      let s = found.section in
      let item = found_item given q found in
      let e : suc (g.items - 1) ≡ g.items = omega (arith, group_some given q g role) in
      subst (λ n. IsBehind given slots q (after_items given.objects n q) n) e
      (behind_from slots (g.items - 1) q item.0 s item.1 found.code found.start (roles_next given q s found.code found.start (First g) role refl))
  behind_unit slots q (OneSite n) is =
      let role = (unit_site given (slot_at given slots) q n is).0 in
      let found = role_found given q Alone role in
      let item = found_item given q found in
      behind_from slots 0 q item.0 found.section item.1 found.code found.start (roles_next given q found.section found.code found.start Alone role refl)

  -- ---- places inside groups

  -- images don't list them: no section ends where an item starts
  pub inside_unlisted : (q : Place) → is_inside given q ≡ true → is_listed_at given q ≡ false
  unfolding is_listed_at
  inside_unlisted q inside = by (role_at given q) refl inside
    where
      no_end : (r : Role) → role_at given q ≡ Some r → is_end_at given.objects q ≡ false
      no_end r is =
          let found = role_found given q r is in
          let s = found.section in
          let two = code_is_section given.objects q s found.code in
          let below = (start_is s two.1 (code_whole inputs q s none found.code) q.offset found.start).inside in
          ap (λ o. option_map_or (λ t. eqb q.offset (length t.bytes)) o false) found.code
          ∙ false_from_ne_true (eqb q.offset (length s.bytes)) (λ e. omega (arith, eqb-true q.offset (length s.bytes) e, below))

      by : (o : Option Role) → role_at given q ≡ o → is_within o ≡ true → (is_some (unit_by given no_slot q) || is_end_at given.objects q) ≡ false
      by None at h = absurd cc
      by (Some Alone) at h = absurd cc
      by (Some (First g)) at h = absurd cc
      by (Some Inside) at h = ap (λ o. is_some o || is_end_at given.objects q) (unit-inside given no_slot q at) ∙ no_end Inside at

  -- no basic block begins there
  pub inside_leads : (q : Place) → role_at given q ≡ Some Inside → is_leader_at given q ≡ false
  inside_leads q is =
      let found = role_found given q Inside is in
      let s = found.section in
      let two = code_is_section given.objects q s found.code in
      let cut = starts_cut s two.1 (code_whole inputs q s none found.code) q.offset found.start in
      let k = index_on s q.offset in
      let here : slice_get (starts_in s) k ≡ Some q.offset = ap (λ ns. slice_get ns k) cut.are ∙ behind (filter (λ m. ltb m q.offset) (starts_in s)) q.offset cut.rest in
      inside_no_leader given (own q s) k q.offset two.1 (sym (role-code given q s found.code found.start) ∙ is) here

  -- each place where a basic block begins is listed
  pub leader_listed : (q : Place) → is_target_at given.objects q ≡ true → is_leader_at given q ≡ true → is_listed_at given q ≡ true
  leader_listed q target leads = target_listed given q target (by (role_at given q) refl)
    where
      by : (o : Option Role) → role_at given q ≡ o → is_within o ≡ false
      by None at = refl
      by (Some Alone) at = refl
      by (Some (First g)) at = refl
      by (Some Inside) at = absurd (cc (inside_leads q at, leads))
