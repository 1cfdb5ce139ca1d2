-- The items of a group: they stand one after another in its section (`along`), a basic block begins at none behind the first, and they are the
-- instructions of some kind of group, which its halfword and its rest are those of (`group_known`).
use Rattle.std.proofs.Common.{◌≡◌, ◌∙◌, ℕ, zero, suc, ◌+◌, ◌<◌, ◌≤◌, ◌⊎◌, inl, inr, List, [], ◌∷◌, ◌++◌, length, filter, map, Bool, true, false, cond, Option, Some, None, slice_get, refl, sym, ap, subst, arith, eqb, ltb, drop}
use Rattle.std.specs.Prelude.{not}
use Rattle.std.specs.Option.{option_and_then, option_map_or}
use Rattle.std.proofs.lemmas.Bool.{and_parts, eqb-true, false_from_ne_true}
use Rattle.std.proofs.lemmas.List.{length-append, length-map}
use Rattle.std.proofs.lemmas.Option.{none-some, same_Some, slice_get-map, slice_get_within}
use Rattle.zc_base.specs.declared.place.Place.{Place}
use Rattle.elf32_read.specs.Parts.{SectionParts}
use Rattle.psabi_sym.specs.Faults.{gather_fault}
use Rattle.psabi_sym.specs.Fixed.{is_fixed_at}
use Rattle.psabi_sym.specs.Inputs.{Inputs, ParsedInputs, parsed}
use Rattle.rv_decode.specs.declared.instr.Instr.{Instr}
use Rattle.block_cut.specs.Items.{after_items, code_at, index_on, is_end_at, is_start_at, item_at, next_at, size_on, starts_in, starts_on}
use Rattle.block_cut.specs.declared.item.Item.{Item}
use Rattle.block_cut.specs.declared.item.Item.TheVariants.{Op, Hi, Lo, PcHi, PcLo, Branch, Jump, Call, Align, Word, Raw, RawShort, RawPair}
use Rattle.block_cut.proofs.ItemLaws.{item_found, item_there}
use Rattle.block_cut.proofs.PlainLaws.{next_start}
use Rattle.block_cut.proofs.StartLaws.{before_end_all, before_next_start, start_is}
use Rattle.block_cut.proofs.WholeLaws.{code_is_section, code_whole}
use Rattle.frame_match.specs.Groups.{Spot, groupable_op, may_have_groups, op_then, ops_behind, ops_from, role_at, roles_in, spot_on}
use Rattle.frame_match.specs.Read.{op_of}
use Rattle.frame_match.specs.declared.group.Group.{Group}
use Rattle.frame_match.specs.declared.role.Role.TheVariants.{First, Inside}
use Rattle.frame_match.proofs.GroupLaws.{StartsGroup, group_starts}
use Rattle.shrink_layout.proofs.NumberLaws.{behind, starts_cut}
use Rattle.shrink_layout.proofs.RolePlaces.{own, role-code, roles_many}
use Rattle.shrink_layout.proofs.SiteLaws.{drop_got}
use Rattle.shrink_layout.proofs.UnitLaws.{role_found}
use Rattle.sym_machine.specs.Program.{Program}
use Rattle.zc_link.specs.Invariants.Groups.{GroupKind, IsGroup, group_half, group_ops, group_rest}
use Rattle.zc_link.specs.Invariants.Stretches.{AreOps}
use Rattle.zc_link.proofs.GroupsFound.{longest_is}

-- ---- lists

-- what a list has from an index on goes on with what it has from the next one on
drop_next : {X : Type 0} (xs : List X) (k : ℕ) (x : X) (rest : List X) → drop k xs ≡ x ∷ rest → drop (suc k) xs ≡ rest
drop_next [] zero x rest is = absurd cc
drop_next [] (suc k) x rest is = absurd cc
drop_next (y ∷ ys) zero x rest is = cc
drop_next (y ∷ ys) (suc k) x rest is = drop_next ys k x rest is

-- ---- one item after another

-- k items after q, an item of the same section starts, which has k items more before it
pub record IsAlong (inputs : ParsedInputs) (q : Place) (s : SectionParts) (k : ℕ) : Type 0 where
  pub here : code_at inputs.objects (after_items inputs.objects k q) ≡ Some s
  pub start : starts_on s (after_items inputs.objects k q).offset ≡ true
  pub index : index_on s (after_items inputs.objects k q).offset ≡ index_on s q.offset + k
  pub owner : own (after_items inputs.objects k q) s ≡ own q s

module _ (inputs : Inputs) (none : gather_fault inputs ≡ None) where
  abbrev given : ParsedInputs
  given = parsed inputs

  -- no section ends where an item starts
  pub start_no_end : (q : Place) (i : Item) → item_at given q ≡ Some i → is_end_at given.objects q ≡ false
  start_no_end q i is =
      let found = item_found given q i is in
      let two = code_is_section given.objects q found.section found.code in
      let below = (start_is found.section two.1 (code_whole inputs q found.section none found.code) q.offset found.start).inside in
      ap (λ o. option_map_or (λ t. eqb q.offset (length t.bytes)) o false) found.code
      ∙ false_from_ne_true (eqb q.offset (length found.section.bytes)) (λ e. omega (arith, eqb-true q.offset (length found.section.bytes) e, below))

  -- the next place has one more item before it
  index_next : (q : Place) (s : SectionParts) → code_at given.objects q ≡ Some s → starts_on s q.offset ≡ true
      → index_on s (next_at given.objects q).offset ≡ suc (index_on s q.offset)
  index_next q s here start =
      let two = code_is_section given.objects q s here in
      let whole = code_whole inputs q s none here in
      let more = ap length (before_next_start s two.1 whole q.offset start) ∙ length-append (filter (λ m. ltb m q.offset) (starts_in s)) (q.offset ∷ []) in
      ap (λ o. index_on s (q.offset + option_map_or (λ t. size_on t q.offset) o 4)) here ∙ more ∙ omega arith

  -- an item starts there, if the section has one more
  next_starts : (q : Place) (s : SectionParts) → code_at given.objects q ≡ Some s → starts_on s q.offset ≡ true
      → suc (index_on s q.offset) < length (starts_in s) → starts_on s (next_at given.objects q).offset ≡ true
  next_starts q s here start less = by (next_start inputs none q _ (item_there given q s here start))
    where
      next : Place
      next = next_at given.objects q

      by : (is_start_at given.objects next ≡ true) ⊎ (is_end_at given.objects next ≡ true) → starts_on s next.offset ≡ true
      by (inl begins) = ap (λ o. option_map_or (λ t. starts_on t next.offset) o false) (sym here) ∙ begins
      by (inr end) =
          let two = code_is_section given.objects q s here in
          let whole = code_whole inputs q s none here in
          let at : next.offset ≡ length s.bytes = eqb-true _ _ (ap (λ o. option_map_or (λ t. eqb next.offset (length t.bytes)) o false) (sym here) ∙ end) in
          let all : index_on s next.offset ≡ length (starts_in s) = ap (index_on s) at ∙ ap length (before_end_all s two.1 whole) in
          absurd (omega (arith, less, all, index_next q s here start))

  pub along : (k : ℕ) (q : Place) (s : SectionParts) → code_at given.objects q ≡ Some s → starts_on s q.offset ≡ true
      → index_on s q.offset + k < length (starts_in s) → IsAlong given q s k
  along zero q s here start less = record { here = here; start = start; index = omega arith; owner = refl }
  along (suc k) q s here start less =
      let next = next_at given.objects q in
      let index = index_next q s here start in
      let begins = next_starts q s here start (omega (arith, less)) in
      let rest = along k next s here begins (omega (arith, less, index)) in
      record { here = rest.here; start = rest.start; index = omega (arith, rest.index, index); owner = rest.owner }

  -- ---- instructions

  -- the item of a spot that is an instruction
  op_there : (q : Place) (i : Instr) → option_and_then op_of (item_at given q) ≡ Some i → item_at given q ≡ Some (Op i)
  op_there q i is = by (item_at given q) refl is
    where
      by : (o : Option Item) → item_at given q ≡ o → option_and_then op_of o ≡ Some i → item_at given q ≡ Some (Op i)
      by None at h = absurd (none-some i h)
      by (Some (Op j)) at h = at ∙ ap (λ x. Some (Op x)) (same_Some j i h)
      by (Some (Hi j t)) at h = absurd cc
      by (Some (Lo j t)) at h = absurd cc
      by (Some (PcHi j t)) at h = absurd cc
      by (Some (PcLo j from)) at h = absurd cc
      by (Some (Branch op first second to)) at h = absurd cc
      by (Some (Jump rd to)) at h = absurd cc
      by (Some (Call rd temp to)) at h = absurd cc
      by (Some (Align n)) at h = absurd cc
      by (Some (Word t)) at h = absurd cc
      by (Some (Raw w)) at h = absurd cc
      by (Some (RawShort w)) at h = absurd cc
      by (Some (RawPair v w)) at h = absurd cc

  -- and it has none else
  op_some : (q : Place) (i : Instr) → groupable_op given q ≡ Some i → option_and_then op_of (item_at given q) ≡ Some i
  op_some q i = by (may_have_groups given q.object q.section)
    where
      by : (b : Bool) → cond b (option_and_then op_of (item_at given q)) None ≡ Some i → option_and_then op_of (item_at given q) ≡ Some i
      by true h = h
      by false h = absurd cc

  -- the spot of a place where an item starts
  spot_there : (q : Place) (s : SectionParts) → code_at given.objects q ≡ Some s → starts_on s q.offset ≡ true
      → slice_get (map (spot_on given (own q s)) (starts_in s)) (index_on s q.offset) ≡ Some (spot_on given (own q s) q.offset)
  spot_there q s here start =
      let two = code_is_section given.objects q s here in
      let cut = starts_cut s two.1 (code_whole inputs q s none here) q.offset start in
      let got : slice_get (starts_in s) (index_on s q.offset) ≡ Some q.offset =
      ap (λ ns. slice_get ns (index_on s q.offset)) cut.are ∙ behind (filter (λ m. ltb m q.offset) (starts_in s)) q.offset cut.rest in
      slice_get-map (spot_on given (own q s)) (starts_in s) (index_on s q.offset) ∙ ap (option_map_spot q s) got
    where
      option_map_spot : (q : Place) (s : SectionParts) → Option ℕ → Option Spot
      option_map_spot q s None = None
      option_map_spot q s (Some n) = Some (spot_on given (own q s) n)

  -- what instructions from a spot on begin with
  first_op : (o : Option Instr) (i : Instr) (is js : List Instr) → op_then o js ≡ i ∷ is → (o ≡ Some i) × (js ≡ is)
  first_op None i is js h = absurd cc
  first_op (Some j) i is js h = (cc, cc)

  -- and behind it
  record GoesOn (ss : List Spot) (is : List Instr) : Type 0 where
    pub spot : Spot
    pub rest : List Spot
    pub are : ss ≡ spot ∷ rest
    pub ops : ops_from spot rest ≡ is

  more_behind : (ss : List Spot) (i : Instr) (is : List Instr) → ops_behind ss ≡ i ∷ is → GoesOn ss (i ∷ is)
  more_behind [] i is h = absurd cc
  more_behind (s ∷ ss) i is h = by s.leader h
    where
      by : (b : Bool) → cond b [] (op_then s.op (ops_behind ss)) ≡ i ∷ is → GoesOn (s ∷ ss) (i ∷ is)
      by true g = absurd cc
      by false g = record { spot = s; rest = ss; are = refl; ops = g }

  -- the items from a place on are these instructions
  module _ (program : Program) (item : program.item ≡ item_at given) (next : program.next ≡ next_at given.objects) where
    ops_along : (is tail : List Instr) (q : Place) (s : SectionParts) (spot : Spot) (rest : List Spot) → code_at given.objects q ≡ Some s
        → starts_on s q.offset ≡ true → drop (index_on s q.offset) (map (spot_on given (own q s)) (starts_in s)) ≡ spot ∷ rest
        → ops_from spot rest ≡ is ++ tail → AreOps program q is
    ops_along [] tail q s spot rest here start at ops = tt
    ops_along (i ∷ is) tail q s spot rest here start at ops =
        let spots = map (spot_on given (own q s)) (starts_in s) in
        let n = index_on s q.offset in
        let first = first_op spot.op i (is ++ tail) (ops_behind rest) ops in
        let same : spot_on given (own q s) q.offset ≡ spot = same_Some _ spot (sym (spot_there q s here start) ∙ drop_got spots n spot rest at) in
        let own_item = op_there q i (op_some q i (ap (λ (x : Spot). x.op) same ∙ first.0)) in (
          (λ j. item j q) ∙ own_item,
          subst (λ (f : Place → Place). AreOps program (f q) is) (sym next)
              (by is first.1 (λ t ts begins on more. ops_along is tail (next_at given.objects q) s t ts here begins on more)),
        )
      where
        by : (js : List Instr) → ops_behind rest ≡ js ++ tail
            → ((t : Spot) (ts : List Spot) → starts_on s (next_at given.objects q).offset ≡ true
            → drop (index_on s (next_at given.objects q).offset) (map (spot_on given (own q s)) (starts_in s)) ≡ t ∷ ts → ops_from t ts ≡ js ++ tail
            → AreOps program (next_at given.objects q) js)
            → AreOps program (next_at given.objects q) js
        by [] more rec = tt
        by (j ∷ js) more rec =
            let spots = map (spot_on given (own q s)) (starts_in s) in
            let n = index_on s q.offset in
            let on = more_behind rest j (js ++ tail) more in
            let from_next : drop (suc n) spots ≡ on.spot ∷ on.rest = drop_next spots n spot rest at ∙ on.are in
            let within = slice_get_within spots (suc n) on.spot (drop_got spots (suc n) on.spot on.rest from_next) in
            let begins = next_starts q s here start (omega (arith, within, length-map (starts_in s) (spot_on given (own q s)))) in
            let index = index_next q s here start in
            rec on.spot on.rest begins (ap (λ m. drop m spots) index ∙ from_next) on.ops

  -- ---- groups

  module _ (q : Place) (g : Group) (role : role_at given q ≡ Some (First g)) where
    abbrev s : SectionParts
    s = (role_found given q (First g) role).section

    abbrev here : code_at given.objects q ≡ Some s
    here = (role_found given q (First g) role).code

    abbrev start : starts_on s q.offset ≡ true
    start = (role_found given q (First g) role).start

    starts : StartsGroup (map (spot_on given (own q s)) (starts_in s)) (roles_in given (own q s)) (index_on s q.offset) g
    starts =
        let two = code_is_section given.objects q s here in
        group_starts given (own q s) (index_on s q.offset) g two.1 (sym (role-code given q s here start) ∙ role)

    -- its section may have groups
    may_have : may_have_groups given q.object q.section ≡ true
    may_have = by (may_have_groups given q.object q.section) refl
      where
        by : (b : Bool) → may_have_groups given q.object q.section ≡ b → may_have_groups given q.object q.section ≡ true
        by true is = is
        by false is =
            let spots = map (spot_on given (own q s)) (starts_in s) in
            let same : spot_on given (own q s) q.offset ≡ starts.spot =
            same_Some _ starts.spot (sym (spot_there q s here start) ∙ drop_got spots (index_on s q.offset) starts.spot starts.rest starts.here) in
            let op : starts.spot.op ≡ None = ap (λ (x : Spot). x.op) (sym same) ∙ ap (λ b. cond b (option_and_then op_of (item_at given q)) None) is in
            absurd (omega (arith, starts.sized.least, starts.sized.within, ap (λ o. length (op_then o (ops_behind starts.rest))) op))

    -- so the chip has Zcmp
    pub needs_zcmp : given.map.extensions.zcmp ≡ true
    needs_zcmp = (and_parts given.map.extensions.zcmp (not (is_fixed_at given q.object q.section)) may_have).0

    -- an item inside it starts at each place but the first
    pub inside_role : (k : ℕ) → 0 < k → k < g.items → role_at given (after_items given.objects k q) ≡ Some Inside
    inside_role k some few =
        let there = starts.inside k some few in
        let within = slice_get_within (roles_in given (own q s)) (index_on s q.offset + k) Inside there in
        let on = along k q s here start (omega (arith, within, roles_many given q s here)) in
        let same : roles_in given (own (after_items given.objects k q) s) ≡ roles_in given (own q s) = ap (roles_in given) on.owner in
        role-code given (after_items given.objects k q) s on.here on.start ∙ (λ j. slice_get (same j) (on.index j)) ∙ there

    -- the kind of group that it is
    pub record IsKnown : Type 0 where
      pub kind : GroupKind
      pub is : IsGroup kind
      pub items : g.items ≡ length (group_ops kind)
      pub half : g.kind ≡ group_half kind
      pub rest : g.rest ≡ group_rest kind
      pub some : 2 ≤ g.items
      pub most : g.items ≤ 16
      pub ops : (program : Program) → program.item ≡ item_at given → program.next ≡ next_at given.objects → AreOps program q (group_ops kind)

    pub group_known : IsKnown
    group_known =
        let found = longest_is (ops_from starts.spot starts.rest) starts.found starts.longest in
        let items = ap (λ (x : Group). x.items) starts.group in
        record {
          kind = found.kind;
          is = found.group;
          items = items ∙ found.items;
          half = ap (λ (x : Group). x.kind) starts.group ∙ found.half;
          rest = ap (λ (x : Group). x.rest) starts.group ∙ found.rest;
          some = omega (arith, starts.sized.least, items);
          most = omega (arith, starts.sized.most, items);
          ops = λ program item next. ops_along program item next (group_ops found.kind) found.tail q s starts.spot starts.rest here start starts.here found.first;
        }

    -- the first item of a group is an instruction without relocation
    pub group_op : (i : Instr) × (item_at given q ≡ Some (Op i))
    group_op =
        let known = group_known in
        by (group_ops known.kind) (let some = known.some in let items = known.items in omega (arith, some, items)) (known.ops shown refl refl)
      where
        shown : Program
        shown = record {
          item = item_at given;
          next = next_at given.objects;
          entry = q;
          map = inputs.map;
          bytes = [];
        }

        by : (is : List Instr) → 0 < length is → AreOps shown q is → (i : Instr) × (item_at given q ≡ Some (Op i))
        by [] some ops = absurd (omega (arith, some))
        by (i ∷ is) some ops = (i, ops.0)
