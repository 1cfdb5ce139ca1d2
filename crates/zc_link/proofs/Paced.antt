-- A layout's stretches go on: each is 16 steps at most and takes a commit, but an ALIGN without padding, behind which fewer ALIGNs
-- lie ahead in its section.
use Rattle.std.proofs.Common.{◌≡◌, ℕ, ◌+◌, ◌<◌, ◌≤◌, ◌⊎◌, List, [], ◌∷◌, Option, Some, None, Ok, Bool, true, false, cond, eqb, filter, inl, inr, leb, length, map, refl, sym, ap, ◌∙◌, subst, ⊎_elim, arith}
use Rattle.std.specs.Prelude.{◌&&◌, ◌||◌, not}
use Rattle.std.specs.List.{flat_map, list_any}
use Rattle.std.specs.Option.{option_map_or}
use Rattle.std.proofs.lemmas.Bool.{and_from, and_parts, eq-eqb, false≢true, le-leb, leb-true, lt-leb}
use Rattle.zc_base.specs.declared.place.Place.{Place}
use Rattle.rv_decode.specs.Run.{iterate}
use Rattle.psabi_sym.specs.Faults.{gather_fault}
use Rattle.psabi_sym.specs.Indexed.{sections_before}
use Rattle.psabi_sym.specs.Inputs.{Inputs, ParsedInputs, parsed}
use Rattle.block_cut.specs.Items.{all_places, item_at, next_at, place_of, places_of, size_at, size_on, starts_in}
use Rattle.block_cut.specs.declared.item.Item.{Item}
use Rattle.block_cut.specs.declared.item.Item.TheVariants.{Op, Hi, Lo, PcHi, PcLo, Branch, Jump, Call, Align, Word, Raw, RawShort, RawPair}
use Rattle.block_cut.proofs.ItemLaws.{item_found}
use Rattle.block_cut.proofs.ListedLaws.{cut_at, listed}
use Rattle.block_cut.proofs.StartLaws.{start_is, step}
use Rattle.block_cut.proofs.WholeLaws.{code_is_section, code_whole}
use Rattle.frame_match.specs.declared.group.Group.{Group}
use Rattle.shrink_layout.specs.Pieces.{is_align}
use Rattle.shrink_layout.specs.Units.{CodeUnit, OneGroup, OneItem, OneSite}
use Rattle.sym_machine.specs.Change.{Change, Goes, continues, item_does}
use Rattle.sym_machine.specs.Conditions.{condition}
use Rattle.sym_machine.specs.Devices.{device_does}
use Rattle.sym_machine.specs.Expansions.{item_expansion}
use Rattle.sym_machine.specs.Objects.{program_of}
use Rattle.sym_machine.specs.Program.{Program}
use Rattle.sym_machine.specs.Run.{plain_turn}
use Rattle.sym_machine.specs.State.{PlainCore, PlainState, reg_of}
use Rattle.sym_machine.proofs.RunLaws.{stepped}
use Rattle.zc_link.specs.IsSimulation.{IsPaced}
use Rattle.zc_link.specs.LaidOut.{IsLaidOut}
use Rattle.zc_link.specs.Pace.{Alone, CallOf, LongOf, commits_in, commits_of, long_commits, pace_of, span_of, stretch_of}
use Rattle.zc_link.specs.Preserves.{aligns_of}
use Rattle.zc_link.specs.TextLayout.{TextLayout, size_in, stretch_in}
use Rattle.moved_runs.proofs.Elements.{any_flat, any_offset}
use Rattle.zc_link.proofs.GroupItems.{group_known}
use Rattle.zc_link.proofs.LaidLaws.{unit_address}
use Rattle.zc_link.proofs.Straight.{one_turn}

-- ---- counts

-- fewer pass a narrower test, and fewer still if one passes the wider alone
module _ {X : Type 0} (f g : X → Bool) (narrow : (x : X) → g x ≡ true → f x ≡ true) where
  pass_most : (xs : List X) → length (filter g xs) ≤ length (filter f xs)
  pass_most [] = omega arith
  pass_most (x ∷ xs) = by (f x) (g x) refl refl (pass_most xs)
    where
      by :
          (b c : Bool) → f x ≡ b → g x ≡ c → length (filter g xs) ≤ length (filter f xs)
          → length (cond c (x ∷ filter g xs) (filter g xs)) ≤ length (cond b (x ∷ filter f xs) (filter f xs))
      by true true a b le = omega (arith, le)
      by true false a b le = omega (arith, le)
      by false true a b le = absurd (false≢true (sym a ∙ narrow x b))
      by false false a b le = le

  pass_fewer : (xs : List X) → list_any (λ x. f x && not (g x)) xs ≡ true → length (filter g xs) < length (filter f xs)
  pass_fewer [] some = absurd (false≢true some)
  pass_fewer (x ∷ xs) some = by (f x) (g x) refl refl (λ h. pass_fewer xs h) some
    where
      by :
          (b c : Bool) → f x ≡ b → g x ≡ c → (list_any (λ x. f x && not (g x)) xs ≡ true → length (filter g xs) < length (filter f xs))
          → ((b && not c) || list_any (λ x. f x && not (g x)) xs) ≡ true
          → length (cond c (x ∷ filter g xs) (filter g xs)) < length (cond b (x ∷ filter f xs) (filter f xs))
      by true true a b later h = let lt = later h in omega (arith, lt)
      by true false a b later h = let le = pass_most xs in omega (arith, le)
      by false true a b later h = absurd (false≢true (sym a ∙ narrow x b))
      by false false a b later h = later h

-- ---- ALIGNs ahead

-- whether the item at a place is one
abbrev is_align_at : ParsedInputs → Place → Bool
is_align_at p q = option_map_or is_align (item_at p q) false

-- one that stands at a place or behind it in its section
abbrev is_ahead : ParsedInputs → Place → Place → Bool
is_ahead p q r = is_align_at p r && (eqb r.object q.object && (eqb r.section q.section && leb q.offset r.offset))

abbrev ahead_of : ParsedInputs → Place → ℕ
ahead_of p q = length (filter (is_ahead p q) (all_places p.objects))

ahead_few : (p : ParsedInputs) (q : Place) → ahead_of p q ≤ aligns_of p
unfolding aligns_of
ahead_few p q = pass_most (is_align_at p) (is_ahead p q) (λ r h. (and_parts (is_align_at p r) _ h).0) (all_places p.objects)

module _ (inputs : Inputs) (none : gather_fault inputs ≡ None) where
  abbrev p : ParsedInputs
  p = parsed inputs

  -- an ALIGN isn't ahead of the place behind it
  fewer_ahead : (q : Place) (bytes : ℕ) → item_at p q ≡ Some (Align bytes) → ahead_of p (next_at p.objects q) < ahead_of p q
  fewer_ahead q bytes is =
      let found = item_found p q (Align bytes) is in
      let s = found.section in
      let section = code_is_section p.objects q s found.code in
      let whole = code_whole inputs q s none found.code in
      let cut = cut_at p.objects q.object q.section s section.0 in
      let l = listed q.object q.section s in
      let begins = start_is s section.1 whole q.offset found.start in
      let size : size_at p.objects q ≡ size_on s q.offset = ap (λ o. option_map_or (λ t. size_on t q.offset) o 4) found.code in
      let some = (step s section.1 whole q.offset begins.words begins.inside).some in
      let test : Place → Bool = λ r. is_ahead p q r && not (is_ahead p (next_at p.objects q) r) in
      let align : is_align_at p q ≡ true = ap (λ o. option_map_or is_align o false) is in
      let past : leb (q.offset + size_at p.objects q) q.offset ≡ false = lt-leb (q.offset + size_at p.objects q) q.offset (omega (arith, size, some)) in
      let one : test q ≡ true = rw (align, eq-eqb q.object q.object refl, eq-eqb q.section q.section refl, le-leb q.offset q.offset (omega arith), past) refl in
      let among : list_any test (map (place_of l) (starts_in s)) ≡ true = any_offset test (place_of l) (starts_in s) q.offset found.start one in
      let here : list_any test (places_of l) ≡ true = ap (λ b. list_any test (cond b (map (place_of l) (starts_in s)) [])) section.1 ∙ among in
      let all : list_any test (all_places p.objects) ≡ true =
      ap (λ ls. list_any test (flat_map places_of ls)) cut.all_are ∙ any_flat test places_of (sections_before p.objects q.object q.section) cut.rest l here in
      pass_fewer (is_ahead p q) (is_ahead p (next_at p.objects q)) narrow (all_places p.objects) all
    where
      narrow : (r : Place) → is_ahead p (next_at p.objects q) r ≡ true → is_ahead p q r ≡ true
      narrow r h =
          let a = and_parts (is_align_at p r) _ h in
          let b = and_parts (eqb r.object q.object) _ a.1 in
          let c = and_parts (eqb r.section q.section) _ b.1 in
          let low = leb-true (q.offset + size_at p.objects q) r.offset c.1 in
          and_from (is_align_at p r) _ a.0 (and_from (eqb r.object q.object) _ b.0 (and_from (eqb r.section q.section) _ c.0 (le-leb q.offset r.offset (omega (arith, low)))))

-- ---- steps and commits

-- what is written for an item takes a commit, or is an ALIGN
item_commits : (p : Program) (s : PlainCore) (n : ℕ) (i : Item) → (0 < commits_of p s (stretch_of n (Some (OneItem i)))) ⊎ ((bytes : ℕ) × (i ≡ Align bytes))
item_commits p s n (Op i) = inl (omega arith)
item_commits p s n (Hi i t) = inl (omega arith)
item_commits p s n (Lo i t) = inl (omega arith)
item_commits p s n (PcHi i t) = inl (omega arith)
item_commits p s n (PcLo i from) = inl (omega arith)
item_commits p s n (Branch op first second to) = inl (by (eqb n 8))
  where
    long : (taken : Option Bool) → 0 < long_commits taken
    long None = omega arith
    long (Some false) = omega arith
    long (Some true) = omega arith

    by : (b : Bool) → 0 < commits_of p s (cond b (LongOf op first second) Alone)
    by true = long (condition p op (reg_of s first) (reg_of s second))
    by false = omega arith
item_commits p s n (Jump rd to) = inl (omega arith)
item_commits p s n (Call rd temp to) = inl (by (eqb n 8))
  where
    by : (b : Bool) → 0 < commits_of p s (cond b CallOf Alone)
    by true = omega arith
    by false = omega arith
item_commits p s n (Align bytes) = inr (bytes, refl)
item_commits p s n (Word t) = inl (omega arith)
item_commits p s n (Raw word) = inl (omega arith)
item_commits p s n (RawShort half) = inl (omega arith)
item_commits p s n (RawPair first second) = inl (omega arith)

group_takes : (g : Group) → 0 < commits_in g
group_takes g = by (eqb g.rest 0)
  where
    by : (b : Bool) → 0 < cond b 1 2
    by true = omega arith
    by false = omega arith

-- an item is one step
item_short : (n : ℕ) (i : Item) → span_of (stretch_of n (Some (OneItem i))) ≤ 16
item_short n (Op i) = omega arith
item_short n (Hi i t) = omega arith
item_short n (Lo i t) = omega arith
item_short n (PcHi i t) = omega arith
item_short n (PcLo i from) = omega arith
item_short n (Branch op first second to) = by (eqb n 8)
  where
    by : (b : Bool) → span_of (cond b (LongOf op first second) Alone) ≤ 16
    by true = omega arith
    by false = omega arith
item_short n (Jump rd to) = omega arith
item_short n (Call rd temp to) = by (eqb n 8)
  where
    by : (b : Bool) → span_of (cond b CallOf Alone) ≤ 16
    by true = omega arith
    by false = omega arith
item_short n (Align bytes) = omega arith
item_short n (Word t) = omega arith
item_short n (Raw word) = omega arith
item_short n (RawShort half) = omega arith
item_short n (RawPair first second) = omega arith

-- an ALIGN goes to the place behind it
align_goes :
    (p : Program) (r r' : PlainState) (bytes : ℕ) → r.core.exit ≡ None → p.item r.core.place ≡ Some (Align bytes) → iterate (plain_turn p) 1 r ≡ Ok r'
    → r'.core.place ≡ p.next r.core.place
align_goes p r r' bytes running is h =
    let next = p.next r.core.place in
    let unasked : device_does r.devices p (p.item r.core.place) r.core next ≡ None = ap (λ o. device_does r.devices p o r.core next) is in
    let s = stepped p r r' running (ap item_expansion is) unasked (one_turn p r r' h) in
    let does : item_does p (p.item r.core.place) r.core next ≡ Goes (continues next) = ap (λ o. item_does p o r.core next) is in
    let same : Goes (continues next) ≡ Goes s.change = sym does ∙ s.does in
    let change : continues next ≡ s.change = cc in
    ap (λ x. x.place) s.end.state ∙ ap (λ (c : Change). c.place) (sym change)

module _ (L : TextLayout) (none : gather_fault L.inputs ≡ None) (laid : IsLaidOut L) where
  abbrev program : Program
  program = program_of (parsed L.inputs)

  short : (q : Place) → span_of (stretch_in L q) ≤ 16
  short q = by (L.unit q) refl
    where
      by : (u : Option CodeUnit) → L.unit q ≡ u → span_of (stretch_of (size_in L q) u) ≤ 16
      by None unit = omega arith
      by (Some (OneItem i)) unit = item_short (size_in L q) i
      by (Some (OneGroup g)) unit =
          let at = unit_address L laid q (OneGroup g) unit in
          (group_known L.inputs none q g (laid.each q at.0 (OneGroup g) unit at.1).is).most
      by (Some (OneSite slot)) unit = omega arith

  moves :
      (r r' : PlainState) → r.core.exit ≡ None → iterate (plain_turn program) (span_of (stretch_in L r.core.place)) r ≡ Ok r'
      → (0 < commits_of program r.core (stretch_in L r.core.place))
      ⊎ ((span_of (stretch_in L r.core.place) ≡ 1) × (ahead_of (parsed L.inputs) r'.core.place < ahead_of (parsed L.inputs) r.core.place))
  unfolding program_of
  moves r r' running = by (L.unit r.core.place) refl
    where
      q : Place
      q = r.core.place

      by :
          (u : Option CodeUnit) → L.unit q ≡ u → iterate (plain_turn program) (span_of (stretch_of (size_in L q) u)) r ≡ Ok r'
          → (0 < commits_of program r.core (stretch_of (size_in L q) u))
          ⊎ ((span_of (stretch_of (size_in L q) u) ≡ 1) × (ahead_of (parsed L.inputs) r'.core.place < ahead_of (parsed L.inputs) q))
      by None unit h = inl (omega arith)
      by (Some (OneItem i)) unit h = ⊎_elim (λ some. inl some) (λ align. inr (at_align i unit align.0 align.1 h)) (item_commits program r.core (size_in L q) i)
        where
          at_align :
              (i : Item) → L.unit q ≡ Some (OneItem i) → (bytes : ℕ) → i ≡ Align bytes
              → iterate (plain_turn program) (span_of (stretch_of (size_in L q) (Some (OneItem i)))) r ≡ Ok r'
              → (span_of (stretch_of (size_in L q) (Some (OneItem i))) ≡ 1) × (ahead_of (parsed L.inputs) r'.core.place < ahead_of (parsed L.inputs) q)
          at_align i unit bytes align h =
              let at = unit_address L laid q (OneItem i) unit in
              let is : item_at (parsed L.inputs) q ≡ Some (Align bytes) = (laid.each q at.0 (OneItem i) unit at.1).is ∙ ap Some align in
              let one : span_of (stretch_of (size_in L q) (Some (OneItem i))) ≡ 1 = ap (λ x. span_of (stretch_of (size_in L q) (Some (OneItem x)))) align in
              let goes = align_goes program r r' bytes running is (ap (λ k. iterate (plain_turn program) k r) (sym one) ∙ h) in
              (one, subst (λ x. ahead_of (parsed L.inputs) x < ahead_of (parsed L.inputs) q) (sym goes) (fewer_ahead L.inputs none q bytes is))
      by (Some (OneGroup g)) unit h = inl (group_takes g)
      by (Some (OneSite slot)) unit h = inl (omega arith)

  pub is_paced : IsPaced program (pace_of program (stretch_in L)) (aligns_of (parsed L.inputs))
  is_paced = record {
    short = short;
    ahead = ahead_of (parsed L.inputs);
    few = ahead_few (parsed L.inputs);
    moves = moves;
  }
