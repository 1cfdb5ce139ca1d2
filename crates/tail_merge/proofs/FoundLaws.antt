-- Where the offsets of a section are found lies within what is left of it, and a leader is found where it moves down to.
use Rattle.std.proofs.Common.{◌≡◌, ℕ, ◌+◌, ◌≤◌, ◌<◌, List, [], ◌∷◌, ◌++◌, length, map, Bool, true, false, cond, eqb, ltb, refl, sym, ap, ◌∙◌, subst, arith, inl, inr, Option, Some, None}
use Rattle.std.specs.Prelude.{not, All}
use Rattle.std.specs.List.{find, flat_map, fold}
use Rattle.std.specs.Option.{option_map_or}
use Rattle.std.proofs.lemmas.Bool.{cases_lt, eqb-true}
use Rattle.std.proofs.lemmas.List.Elements.{All-append, All-cons, All-head, All-map, All-nil, All-push, All-tail, All-take}
use Rattle.elf32_read.specs.Parts.{SectionParts, is_code_section}
use Rattle.psabi_sym.specs.Inputs.{ParsedInputs}
use Rattle.psabi_sym.specs.Indexed.{IndexedSection, section_at}
use Rattle.block_cut.specs.Items.{place_of, starts_in}
use Rattle.block_cut.specs.Leaders.{is_leader_at}
use Rattle.block_cut.specs.Whole.{IsWhole}
use Rattle.tail_merge.specs.Merged.{indexed, merged_bytes, removed_at, removed_in}
use Rattle.tail_merge.specs.Tails.{CodeItem, Removed, bytes_of_all, code_item, code_items, ends_tail, host_offset, longer_tail, longest_tail, merged_offset, moved_down, removed_from, removed_tails, shared_tail, tail_end, tail_start, zipped}
use Rattle.tail_merge.proofs.HeldLaws.{items-held, new-length}
use Rattle.tail_merge.proofs.ItemsLaws.{removed-apart}
use Rattle.tail_merge.proofs.OffsetLaws.{ApartFrom}
use Rattle.tail_merge.proofs.PlacedLaws.{down-at, down-in, down-past, floor}
use Rattle.tail_merge.proofs.TailLaws.{IsRemovedTail, NoInnerLeader, removed-are, removed-cases}

-- ---- where any offset moves

-- offsets inside of removed tails too keep their order, or come to stand at one place
pub down-keeps : (m : ℕ) (rs : List Removed) (x y : ℕ) → ApartFrom m rs → x ≤ y → moved_down rs x ≤ moved_down rs y
down-keeps m [] x y a le = le
down-keeps m (r ∷ rs) x y a le =
    elim (cases_lt (tail_start r) x) [
      | inl later ↦ elim (cases_lt x (tail_end r)) [
        | inl inside ↦ from-inside (down-in r rs x later inside) (omega (arith, later, le))
        | inr past ↦
            let e = down-past r rs x later past in
            let f = down-past r rs y (omega (arith, later, le)) (omega (arith, past, le)) in
            let rest = down-keeps (tail_end r) rs x y a.2 le in
            omega (arith, e, f, rest)
      ]
      | inr before ↦ elim (cases_lt (tail_start r) y) [
        | inl later ↦ from-before (down-at r rs x before) before later
        | inr also ↦ (let e = down-at r rs x before in let f = down-at r rs y also in omega (arith, e, f, le))
      ]
    ]
  where
    behind : tail_start r < y → tail_start r + 4 ≤ moved_down (r ∷ rs) y
    behind later = elim (cases_lt y (tail_end r)) [
      | inl inside ↦ (let e = down-in r rs y later inside in omega (arith, e))
      | inr past ↦
          let e = down-past r rs y later past in
          let low = floor (tail_end r) rs y a.2 past in
          let some = a.1 in
          omega (arith, e, low, some)
    ]

    from-inside : moved_down (r ∷ rs) x ≡ tail_start r + 4 → tail_start r < y → moved_down (r ∷ rs) x ≤ moved_down (r ∷ rs) y
    from-inside e later = let low = behind later in omega (arith, e, low)

    from-before : moved_down (r ∷ rs) x ≡ x → x ≤ tail_start r → tail_start r < y → moved_down (r ∷ rs) x ≤ moved_down (r ∷ rs) y
    from-before e before later = let low = behind later in omega (arith, e, low, before)

-- ---- the items of removed tails and of their hosts are the section's

module _ (P : CodeItem → Type 0) where
  abbrev pub HasItems : Removed → Type 0
  HasItems r = All P r.tail × All P r.host

  longest-items : (cs : List CodeItem) → All P cs → (best : Removed) → HasItems best → (hosts : List (List CodeItem)) → All (All P) hosts → HasItems (fold longer_tail best (map (shared_tail cs) hosts))
  longest-items cs items best is [] all = is
  longest-items cs items best is (h ∷ hosts) all =
      longest-items cs items (longer_tail best (shared_tail cs h)) (by (ltb (length best.tail) (length (shared_tail cs h).tail))) hosts (All-tail (All P) h hosts all)
    where
      by : (b : Bool) → HasItems (cond b (shared_tail cs h) best)
      by true = (All-take P _ cs items, All-take P _ h (All-head (All P) h hosts all))
      by false = is

  pub from-items : (hosts : List (List CodeItem)) (before cs : List CodeItem) → All (All P) hosts → All P before → All P cs → All HasItems (removed_from hosts before cs)
  from-items hosts before [] all done items = All-nil HasItems
  from-items hosts before (c ∷ cs) all done items =
      let more = All-cons P c before (All-head P c cs items) done in
      let rest = All-tail P c cs items in
      by (longest-items (c ∷ before) more (record { tail = []; host = [] }) (All-nil P, All-nil P) hosts all)
      (from-items hosts (c ∷ before) cs all more rest)
      (from-items (hosts ++ (c ∷ before) ∷ []) (c ∷ before) cs (All-push (All P) hosts (c ∷ before) all more) more rest)
      (ends_tail c) (ltb 4 (bytes_of_all (longest_tail (c ∷ before) hosts).tail))
    where
      by : HasItems (longest_tail (c ∷ before) hosts) → All HasItems (removed_from hosts (c ∷ before) cs) → All HasItems (removed_from (hosts ++ (c ∷ before) ∷ []) (c ∷ before) cs) → (b long : Bool)
          → All HasItems (cond (not b) (removed_from hosts (c ∷ before) cs) (cond long (longest_tail (c ∷ before) hosts ∷ removed_from hosts (c ∷ before) cs) (removed_from (hosts ++ (c ∷ before) ∷ []) (c ∷ before) cs)))
      by best on also false long = on
      by best on also true true = All-cons HasItems (longest_tail (c ∷ before) hosts) (removed_from hosts (c ∷ before) cs) best on
      by best on also true false = also

  pub removed-items : (inputs : ParsedInputs) (l : IndexedSection) → All P (code_items inputs l) → All HasItems (removed_tails inputs l)
  removed-items inputs l items = removed-cases (All HasItems) inputs l (All-nil HasItems) (from-items [] [] (code_items inputs l) (All-nil (All P)) (All-nil P) items)

-- ---- what is found

-- what holds of each holds of the one that is found, and so does the test
found-has : {X : Type 0} (P : X → Type 0) (test : X → Bool) (xs : List X) (x : X) → All P xs → find test xs ≡ Some x → P x × (test x ≡ true)
found-has P test [] x all is = absurd cc
found-has P test (y ∷ ys) x all is = by (λ h. found-has P test ys x (All-tail P y ys all) h) (test y) refl is
  where
    by : (find test ys ≡ Some x → P x × (test x ≡ true)) → (b : Bool) → test y ≡ b → cond b (Some y) (find test ys) ≡ Some x → P x × (test x ≡ true)
    by rest true passes h = let same : y ≡ x = cc in (subst P same (All-head P y ys all), ap test (sym same) ∙ passes)
    by rest false passes h = rest h

module _ (inputs : ParsedInputs) (l : IndexedSection) where
  -- it is the section's item at its offset
  abbrev pub IsOwnItem : CodeItem → Type 0
  IsOwnItem c = c ≡ code_item inputs l c.offset

  pub items-own : All IsOwnItem (code_items inputs l)
  items-own = All-map IsOwnItem (code_item inputs l) (starts_in l.section) (each (starts_in l.section))
    where
      each : (ns : List ℕ) → All (λ n. IsOwnItem (code_item inputs l n)) ns
      each [] = All-nil (λ n. IsOwnItem (code_item inputs l n))
      each (n ∷ ns) = All-cons (λ n. IsOwnItem (code_item inputs l n)) n ns refl (each ns)

  -- a later item of a removed tail, and the host's
  record IsZipped (m : ℕ) (e : ℕ × ℕ) : Type 0 where
    later : is_leader_at inputs (place_of l e.0) ≡ false
    host : e.1 ≤ m

  zipped-are : (m : ℕ) (cs ds : List CodeItem) → NoInnerLeader cs → All IsOwnItem cs → All (λ (d : CodeItem). d.offset ≤ m) ds → All (IsZipped m) (zipped cs ds)
  zipped-are m [] ds plain own within = All-nil (IsZipped m)
  zipped-are m (c ∷ cs) [] plain own within = none cs
    where
      none : (cs : List CodeItem) → All (IsZipped m) (zipped (c ∷ cs) [])
      none [] = All-nil (IsZipped m)
      none (b ∷ bs) = All-nil (IsZipped m)
  zipped-are m (c ∷ []) (d ∷ ds) plain own within = All-nil (IsZipped m)
  zipped-are m (c ∷ b ∷ bs) (d ∷ ds) plain own within =
      All-cons (IsZipped m) (c.offset, d.offset) (zipped (b ∷ bs) ds)
      (record { later = ap (λ (x : CodeItem). x.leader) (sym (All-head IsOwnItem c (b ∷ bs) own)) ∙ plain.0; host = All-head (λ (d : CodeItem). d.offset ≤ m) d ds within })
      (zipped-are m (b ∷ bs) ds plain.1 (All-tail IsOwnItem c (b ∷ bs) own) (All-tail (λ (d : CodeItem). d.offset ≤ m) d ds within))

  all-zipped : (m : ℕ) (rs : List Removed) → All IsRemovedTail rs → All (HasItems IsOwnItem) rs → All (HasItems (λ (d : CodeItem). d.offset ≤ m)) rs → All (IsZipped m) (flat_map (λ (r : Removed). zipped r.tail r.host) rs)
  all-zipped m [] are own within = All-nil (IsZipped m)
  all-zipped m (r ∷ rs) are own within =
      All-append (IsZipped m) (zipped r.tail r.host) (flat_map (λ (r : Removed). zipped r.tail r.host) rs)
      (zipped-are m r.tail r.host (All-head IsRemovedTail r rs are).0.leaders (All-head (HasItems IsOwnItem) r rs own).0 (All-head (HasItems (λ (d : CodeItem). d.offset ≤ m)) r rs within).1)
      (all-zipped m rs (All-tail IsRemovedTail r rs are) (All-tail (HasItems IsOwnItem) r rs own) (All-tail (HasItems (λ (d : CodeItem). d.offset ≤ m)) r rs within))

  module _ (code : is_code_section l.section ≡ true) (whole : IsWhole l.section) where
    zipped-tails : All (IsZipped (length l.section.bytes)) (flat_map (λ (r : Removed). zipped r.tail r.host) (removed_tails inputs l))
    zipped-tails =
        let m = length l.section.bytes in
        all-zipped m (removed_tails inputs l) (removed-are inputs l) (removed-items IsOwnItem inputs l items-own)
        (removed-items (λ (d : CodeItem). d.offset ≤ m) inputs l (λ k d lt. let held = (items-held inputs l code whole k d lt).within in omega (arith, held)))

    -- what has a host isn't a leader, and the host lies in the section
    pub hosted : (n h : ℕ) → host_offset (removed_tails inputs l) n ≡ Some h → (is_leader_at inputs (place_of l n) ≡ false) × (h ≤ length l.section.bytes)
    hosted n h is = by (find (λ e. eqb e.0 n) (flat_map (λ (r : Removed). zipped r.tail r.host) (removed_tails inputs l))) refl is
      where
        by : (o : Option (ℕ × ℕ)) → find (λ e. eqb e.0 n) (flat_map (λ (r : Removed). zipped r.tail r.host) (removed_tails inputs l)) ≡ o → option_map_or (λ (e : ℕ × ℕ). Some e.1) o None ≡ Some h
            → (is_leader_at inputs (place_of l n) ≡ false) × (h ≤ length l.section.bytes)
        by None found e = absurd cc
        by (Some e) found same =
            let has = found-has (IsZipped (length l.section.bytes)) (λ e. eqb e.0 n) (flat_map (λ (r : Removed). zipped r.tail r.host) (removed_tails inputs l)) e zipped-tails found in
            let host : e.1 ≡ h = cc in
            let within = has.0.host in
            (ap (λ m. is_leader_at inputs (place_of l m)) (sym (eqb-true e.0 n has.1)) ∙ has.0.later, omega (arith, within, host))

    pub leader-found : (n : ℕ) → is_leader_at inputs (place_of l n) ≡ true → merged_offset (removed_tails inputs l) n ≡ moved_down (removed_tails inputs l) n
    leader-found n leader = by (host_offset (removed_tails inputs l) n) refl
      where
        by : (o : Option ℕ) → host_offset (removed_tails inputs l) n ≡ o → option_map_or (moved_down (removed_tails inputs l)) o (moved_down (removed_tails inputs l) n) ≡ moved_down (removed_tails inputs l) n
        by None is = refl
        by (Some h) is = absurd (let plain = (hosted n h is).0 in cc)

    -- what moves down stays within what is left
    pub down-within : (n : ℕ) → n ≤ length l.section.bytes → moved_down (removed_tails inputs l) n ≤ length (merged_bytes inputs l)
    down-within n le = let order = down-keeps 0 (removed_tails inputs l) n (length l.section.bytes) (removed-apart inputs l) le in let end = new-length inputs l code whole in omega (arith, order, end)

    pub found-within : (n : ℕ) → n ≤ length l.section.bytes → merged_offset (removed_tails inputs l) n ≤ length (merged_bytes inputs l)
    found-within n le = by (host_offset (removed_tails inputs l) n) refl
      where
        by : (o : Option ℕ) → host_offset (removed_tails inputs l) n ≡ o → option_map_or (moved_down (removed_tails inputs l)) o (moved_down (removed_tails inputs l) n) ≤ length (merged_bytes inputs l)
        by None is = down-within n le
        by (Some h) is = down-within h (hosted n h is).1

-- ---- by places

-- the tails that are removed from a section of code
pub removed-here : (inputs : ParsedInputs) (o i : ℕ) (s : SectionParts) → section_at inputs.objects o i ≡ Some s → is_code_section s ≡ true → removed_at inputs o i ≡ removed_tails inputs (indexed o i s)
removed-here inputs o i s at code =
    ap (λ x. option_map_or (λ s. removed_in inputs (indexed o i s)) x []) at ∙ ap (λ c. cond c (removed_tails inputs (indexed o i s)) []) code

-- and from one of data none
pub none-removed : (inputs : ParsedInputs) (o i : ℕ) (s : SectionParts) → section_at inputs.objects o i ≡ Some s → is_code_section s ≡ false → removed_at inputs o i ≡ []
none-removed inputs o i s at plain =
    ap (λ x. option_map_or (λ s. removed_in inputs (indexed o i s)) x []) at ∙ ap (λ c. cond c (removed_tails inputs (indexed o i s)) []) plain
