-- Jumps and calls that a table could serve, and the slots that they have: what it means that there is one at a place, and when it is written there.
use Rattle.std.proofs.Common.{◌≡◌, ◌∙◌, ℕ, zero, suc, ◌+◌, ◌-◌, ◌<◌, List, [], ◌∷◌, Bool, true, false, cond, drop, filter, length, map, Option, Some, None, slice_get, slice_index, refl, sym, ap, subst, arith, eqb, ltb}
use Rattle.std.specs.Prelude.{◌&&◌}
use Rattle.std.specs.Option.{option_and_then, option_map}
use Rattle.std.proofs.lemmas.Bool.{and_parts, eqb-true, ltb-true}
use Rattle.std.proofs.lemmas.Option.{none-some, same_Some, slice_get-map}
use Rattle.zc_base.specs.declared.place.Place.{Place}
use Rattle.psabi_sym.specs.Faults.{gather_fault}
use Rattle.psabi_sym.specs.Fixed.{is_fixed_at}
use Rattle.psabi_sym.specs.Inputs.{Inputs, ParsedInputs, parsed}
use Rattle.elf32_read.specs.Parts.{ObjectParts}
use Rattle.rv_decode.specs.declared.instr.Instr.{Instr}
use Rattle.block_cut.specs.Items.{index_on, is_target_at, item_at, starts_in}
use Rattle.block_cut.specs.declared.item.Item.{Item}
use Rattle.block_cut.specs.declared.item.Item.TheVariants as item
use Rattle.block_cut.proofs.WholeLaws.{code_is_section, code_whole}
use Rattle.frame_match.specs.Groups.{Spot, may_have_groups, op_then, ops_behind, role_at, spot_on}
use Rattle.frame_match.specs.Read.{op_of}
use Rattle.frame_match.specs.declared.group.Group.{Group}
use Rattle.frame_match.specs.declared.role.Role.{Role}
use Rattle.frame_match.specs.declared.role.Role.TheVariants.{Alone, First, Inside}
use Rattle.frame_match.proofs.GroupLaws.{group_starts}
use Rattle.shrink_layout.specs.Forms.{IsForm, width}
use Rattle.shrink_layout.specs.Invariants.Sites.{is_four}
use Rattle.shrink_layout.specs.Pieces.{first_sizes, item_piece_at, piece_number_at, pieces_by, pieces_of, site_at, site_only, slot_at, unit_at, unit_piece}
use Rattle.shrink_layout.specs.Settled.{settled_addresses, settled_size, settled_sizes}
use Rattle.shrink_layout.specs.Units.{CodeUnit, OneGroup, OneItem, OneSite, item_unit, jump_of, slot_for, unit_by}
use Rattle.shrink_layout.specs.declared.piece.Piece.TheVariants.{WithOthers}
use Rattle.shrink_layout.proofs.GroupAddresses.{piece_form, unit_ends}
use Rattle.shrink_layout.proofs.NumberLaws.{behind, place_piece, starts_cut}
use Rattle.shrink_layout.proofs.PlaceAddressLaws.{size_nowhere, size_there}
use Rattle.shrink_layout.proofs.PremiseLaws.{here_case}
use Rattle.shrink_layout.proofs.RolePlaces.{own, role-code, role_there}
use Rattle.shrink_layout.proofs.TargetLaws.{LeadsWell}
use Rattle.shrink_layout.proofs.UnitLaws.{role_found, unit-alone, unit-first, unit-inside, unit_item}

-- ---- what a site is

-- the sizes without a table are those of the layout without slots
pub first_settled : (inputs : ParsedInputs) → first_sizes inputs ≡ settled_sizes inputs []
unfolding first_sizes settled_sizes pieces_by pieces_of slot_at
first_settled inputs = refl

-- the jump at a place takes 4 bytes without a table, and links no register or ra
pub record IsSite (inputs : ParsedInputs) (q : Place) (jump : ℕ × Place) : Type 0 where
  pub item : Item
  pub is : item_at inputs q ≡ Some item
  pub leads : jump_of item ≡ Some jump
  pub size : slice_index (first_sizes inputs) (piece_number_at inputs.objects q) ≡ 4
  pub links : jump.0 < 2

pub site_found : (inputs : ParsedInputs) (q : Place) (jump : ℕ × Place) → site_at inputs q ≡ Some jump → IsSite inputs q jump
unfolding site_at
site_found inputs q jump h = fixed (is_fixed_at inputs q.object q.section) refl h
  where
    size : ℕ
    size = slice_index (first_sizes inputs) (piece_number_at inputs.objects q)

    tested : (i : Item) → item_at inputs q ≡ Some i → (j : ℕ × Place) → jump_of i ≡ Some j → (b : Bool) → (eqb size 4 && ltb j.0 2) ≡ b
        → cond b (Some j) None ≡ Some jump → IsSite inputs q jump
    tested i is j leads true test h =
        let two = and_parts (eqb size 4) (ltb j.0 2) test in
        let same = same_Some j jump h in
        record {
          item = i;
          is = is;
          leads = leads ∙ ap Some same;
          size = eqb-true size 4 two.0;
          links = subst (λ (x : ℕ × Place). x.0 < 2) same (ltb-true j.0 2 two.1);
        }
    tested i is j leads false test h = absurd (none-some jump h)

    jumps : (i : Item) → item_at inputs q ≡ Some i → (o : Option (ℕ × Place)) → jump_of i ≡ o → option_and_then (site_only size) o ≡ Some jump → IsSite inputs q jump
    jumps i is None leads h = absurd (none-some jump h)
    jumps i is (Some j) leads h = tested i is j leads (eqb size 4 && ltb j.0 2) refl h

    items : (o : Option Item) → item_at inputs q ≡ o → option_and_then (site_only size) (option_and_then jump_of o) ≡ Some jump → IsSite inputs q jump
    items None is h = absurd (none-some jump h)
    items (Some i) is h = jumps i is (jump_of i) refl h

    fixed : (b : Bool) → is_fixed_at inputs q.object q.section ≡ b → cond b None (option_and_then (site_only size) (option_and_then jump_of (item_at inputs q))) ≡ Some jump → IsSite inputs q jump
    fixed true at h = absurd (none-some jump h)
    fixed false at h = items (item_at inputs q) refl h

-- a slot at a place is that of a site there
pub record HasSlot (inputs : ParsedInputs) (slots : List (Option Place)) (q : Place) (n : ℕ) : Type 0 where
  pub jump : ℕ × Place
  pub site : site_at inputs q ≡ Some jump
  pub slot : slot_for slots jump ≡ Some n

pub slot_found : (inputs : ParsedInputs) (slots : List (Option Place)) (q : Place) (n : ℕ) → slot_at inputs slots q ≡ Some n → HasSlot inputs slots q n
unfolding slot_at
slot_found inputs [] q n h = absurd (none-some n h)
slot_found inputs (slot ∷ slots) q n h = by (site_at inputs q) refl h
  where
    by : (o : Option (ℕ × Place)) → site_at inputs q ≡ o → option_and_then (slot_for (slot ∷ slots)) o ≡ Some n → HasSlot inputs (slot ∷ slots) q n
    by None at h = absurd (none-some n h)
    by (Some jump) at h = record { jump = jump; site = at; slot = h }

-- a site whose target has a slot has that slot
pub slot_there : (inputs : ParsedInputs) (slots : List (Option Place)) (q : Place) (jump : ℕ × Place) → site_at inputs q ≡ Some jump → slot_at inputs slots q ≡ slot_for slots jump
unfolding slot_at
slot_there inputs [] q jump is = by (eqb jump.0 0)
  where
    by : (b : Bool) → None ≡ cond {A = Option ℕ} b None None
    by true = refl
    by false = refl
slot_there inputs (slot ∷ slots) q jump is = ap (option_and_then (slot_for (slot ∷ slots))) is

pub slot_nowhere : (inputs : ParsedInputs) (slots : List (Option Place)) (q : Place) → site_at inputs q ≡ None → slot_at inputs slots q ≡ None
unfolding slot_at
slot_nowhere inputs [] q is = refl
slot_nowhere inputs (slot ∷ slots) q is = ap (option_and_then (slot_for (slot ∷ slots))) is

-- ---- where it is written

-- what is left when all before an element is dropped begins with it
pub drop_got : {X : Type 0} (xs : List X) (k : ℕ) (y : X) (ys : List X) → drop k xs ≡ y ∷ ys → slice_get xs k ≡ Some y
drop_got [] zero y ys is = absurd cc
drop_got [] (suc k) y ys is = absurd cc
drop_got (x ∷ xs) zero y ys is = cc
drop_got (x ∷ xs) (suc k) y ys is = drop_got xs k y ys is

module _ (inputs : Inputs) (none : gather_fault inputs ≡ None) (q : Place) (jump : ℕ × Place) (is : IsSite (parsed inputs) q jump) where
  abbrev given : ParsedInputs
  given = parsed inputs

  -- a jump is no such instruction
  no_op : op_of is.item ≡ None
  no_op = by is.item is.leads
    where
      by : (i : Item) → jump_of i ≡ Some jump → op_of i ≡ None
      by (item.Op i) h = absurd (none-some jump h)
      by (item.Hi i t) h = refl
      by (item.Lo i t) h = refl
      by (item.PcHi i t) h = refl
      by (item.PcLo i q) h = refl
      by (item.Branch op first second to) h = refl
      by (item.Jump rd to) h = refl
      by (item.Call rd temp to) h = refl
      by (item.Align bytes) h = refl
      by (item.Word t) h = refl
      by (item.Raw word) h = refl
      by (item.RawShort half) h = refl
      by (item.RawPair first second) h = refl

  -- a site isn't inside a group, where pieces have no bytes
  not_inside : role_at given q ≡ Some Inside → ⊥
  not_inside inside =
      let piece : slice_get (pieces_of given []) (piece_number_at given.objects q) ≡ Some (WithOthers 0) =
      place_piece inputs none [] q is.item is.is ∙ ap (λ o. Some (unit_piece given q o)) (unit-inside given (slot_at given []) q inside) in
      let size : IsForm (WithOthers 0) (slice_index (settled_sizes given []) (piece_number_at given.objects q)) = piece_form given [] (piece_number_at given.objects q) (WithOthers 0) piece in
      omega (arith, size, is.size, ap (λ sizes. slice_index sizes (piece_number_at given.objects q)) (first_settled given))

  either_none : (b : Bool) → cond {A = Option Instr} b None None ≡ None
  either_none true = refl
  either_none false = refl

  -- nor the first of one, whose first item is an instruction without relocation
  not_first : (g : Group) → role_at given q ≡ Some (First g) → ⊥
  not_first g first =
      let found = role_found given q (First g) first in
      let s = found.section in
      let two = code_is_section given.objects q s found.code in
      let n = index_on s q.offset in
      let spots = map (spot_on given (own q s)) (starts_in s) in
      let starts = group_starts given (own q s) n g two.1 (sym (role-code given q s found.code found.start) ∙ first) in
      let cut = starts_cut s two.1 (code_whole inputs q s none found.code) q.offset found.start in
      let got : slice_get (starts_in s) n ≡ Some q.offset = ap (λ ns. slice_get ns n) cut.are ∙ behind (filter (λ m. ltb m q.offset) (starts_in s)) q.offset cut.rest in
      let there : slice_get spots n ≡ Some (spot_on given (own q s) q.offset) = slice_get-map (spot_on given (own q s)) (starts_in s) n ∙ ap (option_map (spot_on given (own q s))) got in
      let same : spot_on given (own q s) q.offset ≡ starts.spot = same_Some _ starts.spot (sym there ∙ drop_got spots n starts.spot starts.rest starts.here) in
      let may = may_have_groups given q.object q.section in
      let op : starts.spot.op ≡ None = ap (λ (x : Spot). x.op) (sym same) ∙ ap (λ o. cond may o None) (ap (option_and_then op_of) is.is ∙ no_op) ∙ either_none may in
      omega (arith, starts.sized.least, starts.sized.within, ap (λ o. length (op_then o (ops_behind starts.rest))) op)

  -- a site is written by itself, or through the table if it has a slot
  pub site_alone : role_at given q ≡ Some Alone
  site_alone = let r = role_there given q is.item is.is in by r.0 r.1
    where
      by : (r : Role) → role_at given q ≡ Some r → role_at given q ≡ Some Alone
      by Alone at = at
      by (First g) at = absurd (not_first g at)
      by Inside at = absurd (not_inside at)

  pub site_unit : (slot : Place → Option ℕ) → unit_by given slot q ≡ Some (item_unit (slot q) is.item)
  site_unit slot = unit-alone given slot q site_alone ∙ ap (option_map (item_unit (slot q))) is.is

-- ---- by what is found

module _ (inputs : ParsedInputs) (q : Place) where
  -- in a fixed section there is none
  pub site-fixed : is_fixed_at inputs q.object q.section ≡ true → site_at inputs q ≡ None
  unfolding site_at
  site-fixed fixed =
      ap (λ b. cond b None (option_and_then (site_only (slice_index (first_sizes inputs) (piece_number_at inputs.objects q))) (option_and_then jump_of (item_at inputs q)))) fixed

  -- in another it goes by the jump or call there
  abbrev by_jump : Option (ℕ × Place) → Option (ℕ × Place)
  by_jump o = cond (is_fixed_at inputs q.object q.section) None (option_and_then (site_only (slice_index (first_sizes inputs) (piece_number_at inputs.objects q))) o)

  pub site-by : (o : Option (ℕ × Place)) → option_and_then jump_of (item_at inputs q) ≡ o → site_at inputs q ≡ by_jump o
  unfolding site_at
  site-by o is = ap by_jump is

  -- where there is no jump or call there is none
  pub site-no_jump_there : option_and_then jump_of (item_at inputs q) ≡ None → site_at inputs q ≡ None
  site-no_jump_there other = site-by None other ∙ by (is_fixed_at inputs q.object q.section)
    where
      by : (b : Bool) → cond {A = Option (ℕ × Place)} b None None ≡ None
      by true = refl
      by false = refl

  -- nor where no item starts
  pub site-no_item : item_at inputs q ≡ None → site_at inputs q ≡ None
  site-no_item is = site-no_jump_there (ap (option_and_then jump_of) is)

  -- nor at an item that is no jump or call
  pub site-no_jump : (i : Item) → item_at inputs q ≡ Some i → jump_of i ≡ None → site_at inputs q ≡ None
  site-no_jump i is other = site-no_jump_there (ap (option_and_then jump_of) is ∙ other)

  -- else it goes by its size and its register
  site-jump : (i : Item) (jump : ℕ × Place) → item_at inputs q ≡ Some i → jump_of i ≡ Some jump → site_at inputs q ≡ by_jump (Some jump)
  site-jump i jump is leads = site-by (Some jump) (ap (option_and_then jump_of) is ∙ leads)

-- where a jump or call leads
pub jump_target : (objects : List ObjectParts) (i : Item) (jump : ℕ × Place) → jump_of i ≡ Some jump → LeadsWell objects i → is_target_at objects jump.1 ≡ true
jump_target objects (item.Op i) jump h well = absurd (none-some jump h)
jump_target objects (item.Hi i t) jump h well = absurd (none-some jump h)
jump_target objects (item.Lo i t) jump h well = absurd (none-some jump h)
jump_target objects (item.PcHi i t) jump h well = absurd (none-some jump h)
jump_target objects (item.PcLo i q) jump h well = absurd (none-some jump h)
jump_target objects (item.Branch op first second to) jump h well = absurd (none-some jump h)
jump_target objects (item.Jump rd to) jump h well = ap (λ (x : ℕ × Place). is_target_at objects x.1) (sym (same_Some (rd, to) jump h)) ∙ well
jump_target objects (item.Call rd temp to) jump h well = ap (λ (x : ℕ × Place). is_target_at objects x.1) (sym (same_Some (rd, to) jump h)) ∙ well
jump_target objects (item.Align bytes) jump h well = absurd (none-some jump h)
jump_target objects (item.Word t) jump h well = absurd (none-some jump h)
jump_target objects (item.Raw word) jump h well = absurd (none-some jump h)
jump_target objects (item.RawShort half) jump h well = absurd (none-some jump h)
jump_target objects (item.RawPair first second) jump h well = absurd (none-some jump h)

module _ (inputs : Inputs) (none : gather_fault inputs ≡ None) (q : Place) (i : Item) (is : item_at (parsed inputs) q ≡ Some i) (jump : ℕ × Place) (leads : jump_of i ≡ Some jump) where
  abbrev own_inputs : ParsedInputs
  own_inputs = parsed inputs

  abbrev number : ℕ
  number = piece_number_at own_inputs.objects q

  -- a jump is never padding, so it takes its size
  item_width : (j : Item) → item_at own_inputs q ≡ Some j → (size at : ℕ) → jump_of j ≡ Some jump → width (item_piece_at own_inputs q j) size at ≡ size
  item_width j there size at h =
      here_case own_inputs [] q j there (λ p. width p size at ≡ size) refl refl refl (λ to b. refl) (λ to. refl)
      (λ bytes e. absurd (none-some jump (ap jump_of (sym e) ∙ h)))

  unit_width : (u : CodeUnit) (size at : ℕ) → unit_at own_inputs [] q ≡ Some u → width (unit_piece own_inputs q (Some u)) size at ≡ size
  unit_width (OneItem j) size at here =
      let there = (unit_item own_inputs (slot_at own_inputs []) q j here).1 in
      item_width j there size at (ap jump_of (sym (same_Some i j (sym is ∙ there))) ∙ leads)
  unit_width (OneGroup g) size at here = refl
  unit_width (OneSite n) size at here = refl

  -- what is inside a group has no size, and a piece without bytes
  inside_size : unit_at own_inputs [] q ≡ None → slice_index (settled_sizes own_inputs []) number ≡ 0
  inside_size nothing = let r = role_there own_inputs q i is in by r.0 r.1
    where
      by : (r : Role) → role_at own_inputs q ≡ Some r → slice_index (settled_sizes own_inputs []) number ≡ 0
      by Alone at = absurd (none-some _ (sym nothing ∙ unit-alone own_inputs (slot_at own_inputs []) q at ∙ ap (option_map (item_unit (slot_at own_inputs [] q))) is))
      by (First g) at = absurd (none-some _ (sym nothing ∙ unit-first own_inputs (slot_at own_inputs []) q g at))
      by Inside at =
          let piece : slice_get (pieces_of own_inputs []) number ≡ Some (WithOthers 0) =
          place_piece inputs none [] q i is ∙ ap (λ o. Some (unit_piece own_inputs q o)) (unit-inside own_inputs (slot_at own_inputs []) q at) in
          piece_form own_inputs [] number (WithOthers 0) piece

  -- the jump takes four bytes without a table just where the layout says so
  jump_four : eqb (slice_index (first_sizes own_inputs) number) 4 ≡ is_four (settled_size own_inputs [] q)
  jump_four = ap (λ l. eqb (slice_index l number) 4) (first_settled own_inputs) ∙ by (unit_at own_inputs [] q) refl
    where
      by : (o : Option CodeUnit) → unit_at own_inputs [] q ≡ o → eqb (slice_index (settled_sizes own_inputs []) number) 4 ≡ is_four (settled_size own_inputs [] q)
      by None at = ap (λ n. eqb n 4) (inside_size at) ∙ sym (ap is_four (size_nowhere own_inputs [] q at))
      by (Some u) at =
          let ends = unit_ends inputs none [] q u at in
          let w = unit_width u (slice_index (settled_sizes own_inputs []) number) (slice_index (settled_addresses own_inputs []) number) at in
          let size : slice_index (settled_sizes own_inputs []) number ≡ slice_index (settled_addresses own_inputs []) (number + 1) - slice_index (settled_addresses own_inputs []) number = omega (arith, ends, w) in
          ap (λ n. eqb n 4) size ∙ sym (ap is_four (size_there own_inputs [] q u at))

  -- there is a site by the jump's size and register, unless the section is fixed
  pub site_by_size : site_at own_inputs q ≡ cond (is_fixed_at own_inputs q.object q.section) None (cond (is_four (settled_size own_inputs [] q) && ltb jump.0 2) (Some jump) None)
  site_by_size =
      site-jump own_inputs q i jump is leads
      ∙ ap (λ b. cond (is_fixed_at own_inputs q.object q.section) None (cond (b && ltb jump.0 2) (Some jump) None)) jump_four
