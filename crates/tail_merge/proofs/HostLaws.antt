-- The host's item in place of a later item of a removed tail, found by the item's number.
use Rattle.std.proofs.Common.{◌≡◌, ℕ, zero, suc, ◌+◌, ◌-◌, ◌≤◌, ◌<◌, List, [], ◌∷◌, length, map, filter, get_or, Bool, true, false, cond, refl, sym, ap, ◌∙◌, subst, arith, eqb, ltb, leb, inl, inr, Option, Some, None}
use Rattle.std.specs.Prelude.{◌||◌, All, MatchOption, slice_get}
use Rattle.std.specs.List.{find, flat_map, list_any}
use Rattle.std.specs.Option.{option_and_then, option_map, option_map_or, option_or, unwrap_or}
use Rattle.std.proofs.lemmas.Bool.{and_parts, cases_lt, ltb-true, ne_eqb}
use Rattle.std.proofs.lemmas.List.{get_or-map, length-append, length-map, take_all}
use Rattle.std.proofs.Math.ListN.{get_or-append}
use Rattle.std.proofs.lemmas.List.Concat.{flat_map-cons}
use Rattle.std.proofs.lemmas.List.Elements.{All-cons, All-head, All-tail, All-weaker}
use Rattle.std.proofs.lemmas.List.Folds.{find-append}
use Rattle.zc_base.specs.declared.place.Place.{Place}
use Rattle.elf32_read.specs.Parts.{SectionParts, is_code_section}
use Rattle.psabi_sym.specs.Faults.{gather_fault}
use Rattle.psabi_sym.specs.Indexed.{IndexedSection, IsSectionNumber, all_sections, section_at}
use Rattle.psabi_sym.specs.Inputs.{Inputs, ParsedInputs, parsed}
use Rattle.block_cut.specs.Items.{code_at, index_on, is_target_at, starts_in, starts_on, targets_in}
use Rattle.block_cut.specs.Places.{IsPlaceNumber, code_place, code_places}
use Rattle.block_cut.specs.Whole.{IsWhole}
use Rattle.block_cut.specs.declared.code_place.CodePlace.{CodePlace}
use Rattle.block_cut.specs.declared.place_number.PlaceNumber.{PlaceNumber}
use Rattle.block_cut.proofs.SoundLaws.{found_passes}
use Rattle.block_cut.proofs.WholeLaws.{code_at_is, inputs_whole}
use Rattle.tail_merge.specs.Merged.{indexed, removed_at, removed_in}
use Rattle.tail_merge.specs.MovedTails.{AreMovedAt, AreMovedTails, last_before, moved_tail, moved_tails, tail_over}
use Rattle.tail_merge.specs.RemovedTails.{IsAmong, backwards, tail_among}
use Rattle.tail_merge.specs.Tails.{CodeItem, Removed, bytes_of_all, code_item, code_items, covers, host_offset, removed_tails, bytes_saved_by, tail_end, tail_start, zipped}
use Rattle.tail_merge.specs.declared.moved_tail.MovedTail.{MovedTail}
use Rattle.tail_merge.specs.declared.removed_tail.RemovedTail.{RemovedTail}
use Rattle.tail_merge.proofs.HeldLaws.{items-bytes, items-held}
use Rattle.tail_merge.proofs.ItemsLaws.{items-forward}
use Rattle.tail_merge.proofs.MovedTailLaws.{in-apart, table-over}
use Rattle.tail_merge.proofs.OffsetLaws.{ApartFrom, Backward, Forward, backward-take}
use Rattle.tail_merge.proofs.PlacedLaws.{covers-before, covers-behind, covers-in}
use Rattle.tail_merge.proofs.RunLaws.{HasBytes, IsNumbered, back-backward, edge-apart, edge-less, edge-offset, edge-order, edge_of, no_item, number-of, run-at, run-count, run-item, zipped-item, zipped-nothing, zipped-outside}
use Rattle.tail_merge.proofs.WrittenLaws.{IsHeld}

-- ---- which tail has the item

abbrev pub zips : Removed → List (ℕ × ℕ)
zips r = zipped r.tail r.host

abbrev pub is_at : ℕ → ℕ × ℕ → Bool
is_at n e = eqb e.0 n

abbrev pub AreRuns : List Removed → Type 0
AreRuns [] = Unit {0}
AreRuns (r ∷ rs) = (Backward (tail_end r) r.tail × All HasBytes r.tail) × AreRuns rs

or-none : {X : Type 0} (o : Option X) → option_or o None ≡ o
or-none None = refl
or-none (Some x) = refl

-- a tail without the item, before others
skips : (n : ℕ) (r : Removed) (rs : List Removed) → find (is_at n) (zips r) ≡ None → find (is_at n) (flat_map zips (r ∷ rs)) ≡ find (is_at n) (flat_map zips rs)
skips n r rs none =
    ap (find (is_at n)) (flat_map-cons zips r rs)
    ∙ find-append (is_at n) (zips r) (flat_map zips rs)
    ∙ ap (λ o. option_or o (find (is_at n) (flat_map zips rs))) none

hosts-low : (m n : ℕ) (rs : List Removed) → ApartFrom m rs → AreRuns rs → n ≤ m → find (is_at n) (flat_map zips rs) ≡ None
hosts-low m n [] a runs le = refl
hosts-low m n (r ∷ rs) a runs le =
    let low = a.0 in
    skips n r rs (zipped-outside r.tail r.host (tail_end r) n runs.0.0 runs.0.1 (inl (omega (arith, low, le))))
    ∙ hosts-low (tail_end r) n rs a.2 runs.1 (omega (arith, low, le))

-- it is the one that covers the offset
pub hosts-covered : (m n : ℕ) (rs : List Removed) → ApartFrom m rs → AreRuns rs → find (is_at n) (flat_map zips rs) ≡ option_map_or (λ r. find (is_at n) (zips r)) (find (covers n) rs) None
hosts-covered m n [] a runs = refl
hosts-covered m n (r ∷ rs) a runs =
    elim (cases_lt n (tail_start r)) [
      | inl under ↦
          skips n r rs (zipped-outside r.tail r.host (tail_end r) n runs.0.0 runs.0.1 (inl (omega (arith, under))))
          ∙ hosts-covered (tail_end r) n rs a.2 runs.1
          ∙ sym (passed (covers-before n r under))
      | inr begun ↦ elim (cases_lt n (tail_end r)) [
        | inl high ↦
            ap (find (is_at n)) (flat_map-cons zips r rs)
            ∙ find-append (is_at n) (zips r) (flat_map zips rs)
            ∙ ap (option_or (find (is_at n) (zips r))) (hosts-low (tail_end r) n rs a.2 runs.1 (omega (arith, high)))
            ∙ or-none (find (is_at n) (zips r))
            ∙ sym (ap (λ b. option_map_or (λ r. find (is_at n) (zips r)) (cond b (Some r) (find (covers n) rs)) None) (covers-in n r begun high))
        | inr behind ↦
            skips n r rs (zipped-outside r.tail r.host (tail_end r) n runs.0.0 runs.0.1 (inr behind))
            ∙ hosts-covered (tail_end r) n rs a.2 runs.1
            ∙ sym (passed (covers-behind n r behind))
      ]
    ]
  where
    passed : covers n r ≡ false → option_map_or (λ r. find (is_at n) (zips r)) (find (covers n) (r ∷ rs)) None ≡ option_map_or (λ r. find (is_at n) (zips r)) (find (covers n) rs) None
    passed not_in = ap (λ b. option_map_or (λ r. find (is_at n) (zips r)) (cond b (Some r) (find (covers n) rs)) None) not_in

-- ---- tails by numbers

module _ (items : List CodeItem) (forward : Forward 0 items) (some : All HasBytes items) where
  -- a removed tail has items
  pub among-some : (t : RemovedTail) → 4 < bytes_of_all (tail_among items t).tail → 0 < t.count
  among-some t long = by t.count refl
    where
      by : (k : ℕ) → t.count ≡ k → 0 < t.count
      by zero is = absurd (let none : bytes_of_all (tail_among items t).tail ≡ 0 = ap (λ k. bytes_of_all (backwards items t.end k)) is in omega (arith, none, long))
      by (suc k) is = omega (arith, is)

  run-all : (P : CodeItem → Type 0) (e k : ℕ) → All P items → e < length items → k ≤ e + 1 → All P (backwards items e k)
  run-all P e k all lt le = λ i d less.
      let count = run-count items e k lt le in
      subst P (sym (run-item items e k i d lt le (omega (arith, less, count)))) (all (e - i) d (omega (arith, lt)))

  run-bytes : (e k : ℕ) → e < length items → k ≤ e + 1 → All HasBytes (backwards items e k)
  run-bytes e k lt le = run-all HasBytes e k some lt le

  pub among-runs : (m : ℕ) (list : List RemovedTail) → ApartFrom m (map (tail_among items) list) → All (IsAmong items) list → AreRuns (map (tail_among items) list)
  among-runs m [] a all = tt
  among-runs m (t ∷ ts) a all =
      let is = All-head (IsAmong items) t ts all in
      let end = is.end in
      let host = is.host in
      let few = is.count in
      let at = run-at items t.end t.count forward end (among-some t a.1) (omega (arith, few, host)) in
      let back = backward-take (edge_of items (t.end + 1)) t.count _ (back-backward items (t.end + 1) forward (omega (arith, end))) in (
        (subst (λ n. Backward n (tail_among items t).tail) (sym at.stop) back, run-bytes t.end t.count end (omega (arith, few, host))),
        among-runs (tail_end (tail_among items t)) ts a.2 (All-tail (IsAmong items) t ts all),
      )

  -- the tail of an entry is one of the list
  pub before-holds : (P : RemovedTail → Type 0) (s : ℕ) (list : List RemovedTail) (n : ℕ) (t : MovedTail) → All P list → last_before (moved_tails items s list) n ≡ Some t → P t.tail
  before-holds P s [] n t all is = absurd cc
  before-holds P s (x ∷ xs) n t all is = by (leb (moved_tail items s x).start n) (last_before (moved_tails items (s + bytes_saved_by (tail_among items x)) xs) n) (λ h. before-holds P (s + bytes_saved_by (tail_among items x)) xs n t (All-tail P x xs all) h) is
    where
      by : (b : Bool) (o : Option MovedTail) → (o ≡ Some t → P t.tail) → cond b (Some (unwrap_or o (moved_tail items s x))) None ≡ Some t → P t.tail
      by false o rest h = absurd cc
      by true None rest h = let same : x ≡ t.tail = ap (λ (o : Option MovedTail). option_map_or (λ (u : MovedTail). u.tail) o x) h in subst P same (All-head P x xs all)
      by true (Some u) rest h = rest h

  -- the host's item of an item of the tail by their numbers, counted backwards from the ends
  pub host-later : (t : RemovedTail) (n j : ℕ) → IsAmong items t → IsNumbered items n j → j ≤ t.end → t.end - j + 1 < t.count
      → find (is_at n) (zips (tail_among items t)) ≡ Some (n, (get_or items (t.host - (t.end - j)) no_item).offset)
  host-later t n j is number le less =
      let end = is.end in
      let host = is.host in
      let few = is.count in
      let i = t.end - j in
      let count = run-count items t.end t.count end (omega (arith, few, host)) in
      let other = run-count items t.host t.count (omega (arith, host, end)) (omega (arith, few)) in
      let back : t.end - i ≡ j = omega (arith, le) in
      let own : (get_or (backwards items t.end t.count) i no_item).offset ≡ n =
      ap (λ (c : CodeItem). c.offset) (run-item items t.end t.count i no_item end (omega (arith, few, host)) (omega (arith, less)) ∙ ap (λ k. get_or items k no_item) back)
      ∙ number.at no_item in
      let theirs = ap (λ (c : CodeItem). c.offset) (run-item items t.host t.count i no_item (omega (arith, host, end)) (omega (arith, few)) (omega (arith, less))) in
      let backward = backward-take (edge_of items (t.end + 1)) t.count _ (back-backward items (t.end + 1) forward (omega (arith, end))) in
      ap (λ k. find (is_at k) (zips (tail_among items t))) (sym own)
      ∙ zipped-item (backwards items t.end t.count) (backwards items t.host t.count) (edge_of items (t.end + 1)) i no_item backward (run-bytes t.end t.count end (omega (arith, few, host))) (omega (arith, count, other)) (omega (arith, count, less))
      ∙ (λ k. Some (own k, theirs k))

  -- none for the first
  pub host-first : (t : RemovedTail) (n j : ℕ) → IsAmong items t → 0 < t.count → IsNumbered items n j → j ≤ t.end → t.count ≤ t.end - j + 1 → find (is_at n) (zips (tail_among items t)) ≡ None
  host-first t n j is more number le past =
      let end = is.end in
      let host = is.host in
      let few = is.count in
      let within = number.within in
      let at = run-at items t.end t.count forward end more (omega (arith, few, host)) in
      let backward = backward-take (edge_of items (t.end + 1)) t.count _ (back-backward items (t.end + 1) forward (omega (arith, end))) in
      let offset = edge-offset 0 items j no_item forward within in
      let here = number.at no_item in
      let order = edge-order items j (t.end + 1 - t.count) some (omega (arith, past, few, host, le)) (omega (arith, end)) in
      let start = at.start in
      zipped-outside (backwards items t.end t.count) (backwards items t.host t.count) (edge_of items (t.end + 1)) n backward (run-bytes t.end t.count end (omega (arith, few, host)))
      (inl (omega (arith, offset, here, order, start)))

  -- and none where no item stands
  pub host-nothing : (t : RemovedTail) (n : ℕ) → IsAmong items t → All (λ (c : CodeItem). eqb c.offset n ≡ false) items → find (is_at n) (zips (tail_among items t)) ≡ None
  host-nothing t n is all =
      let end = is.end in
      let host = is.host in
      let few = is.count in
      zipped-nothing (backwards items t.end t.count) (backwards items t.host t.count) n (run-all (λ (c : CodeItem). eqb c.offset n ≡ false) t.end t.count all end (omega (arith, few, host)))

-- ---- in a section

starts-any : (inputs : ParsedInputs) (l : IndexedSection) (n : ℕ) (ns : List ℕ) → list_any (λ (c : CodeItem). eqb c.offset n) (map (code_item inputs l) ns) ≡ list_any (λ m. eqb m n) ns
starts-any inputs l n [] = refl
starts-any inputs l n (m ∷ ns) = ap (λ b. eqb m n || b) (starts-any inputs l n ns)

starts-before : (inputs : ParsedInputs) (l : IndexedSection) (n : ℕ) (ns : List ℕ) → length (filter (λ (c : CodeItem). ltb c.offset n) (map (code_item inputs l) ns)) ≡ length (filter (λ m. ltb m n) ns)
starts-before inputs l n [] = refl
starts-before inputs l n (m ∷ ns) = by (ltb m n) (starts-before inputs l n ns)
  where
    by : (b : Bool) → length (filter (λ (c : CodeItem). ltb c.offset n) (map (code_item inputs l) ns)) ≡ length (filter (λ m. ltb m n) ns)
        → length (cond b (code_item inputs l m ∷ filter (λ (c : CodeItem). ltb c.offset n) (map (code_item inputs l) ns)) (filter (λ (c : CodeItem). ltb c.offset n) (map (code_item inputs l) ns))) ≡ length (cond b (m ∷ filter (λ m. ltb m n) ns) (filter (λ m. ltb m n) ns))
    by true is = ap suc is
    by false is = is

none-any : (n : ℕ) (cs : List CodeItem) → list_any (λ (c : CodeItem). eqb c.offset n) cs ≡ false → All (λ (c : CodeItem). eqb c.offset n ≡ false) cs
none-any n [] none = λ k d lt. absurd (omega (arith, lt))
none-any n (c ∷ cs) none = by (eqb c.offset n) refl (λ h. none-any n cs h) none
  where
    by : (b : Bool) → eqb c.offset n ≡ b → (list_any (λ (c : CodeItem). eqb c.offset n) cs ≡ false → All (λ (c : CodeItem). eqb c.offset n ≡ false) cs) → (b || list_any (λ (c : CodeItem). eqb c.offset n) cs) ≡ false
        → All (λ (c : CodeItem). eqb c.offset n ≡ false) (c ∷ cs)
    by true e rest h = absurd cc
    by false e rest h = All-cons (λ (c : CodeItem). eqb c.offset n ≡ false) c cs e (rest h)

-- ---- by the table

pub over-before : (n : ℕ) (t : MovedTail) (o : Option MovedTail) → option_and_then (λ (t : MovedTail). cond (ltb n t.stop) (Some t) None) o ≡ Some t → o ≡ Some t
over-before n t None is = absurd cc
over-before n t (Some u) is = by (ltb n u.stop) is
  where
    by : (b : Bool) → cond b (Some u) None ≡ Some t → Some u ≡ Some t
    by true h = h
    by false h = absurd cc

-- the items of a section of code, which have bytes, and end where the section does
pub record AreItems (inputs : ParsedInputs) (l : IndexedSection) : Type 0 where
  pub forward : Forward 0 (code_items inputs l)
  pub some : All HasBytes (code_items inputs l)
  pub end : edge_of (code_items inputs l) (length (code_items inputs l)) ≡ length l.section.bytes
  pub few : length (code_items inputs l) ≤ 0x40_0000
  pub short : length l.section.bytes ≤ 0x40_0000

pub section-items : (inputs : ParsedInputs) (l : IndexedSection) → is_code_section l.section ≡ true → IsWhole l.section → AreItems inputs l
section-items inputs l code whole =
    let items = code_items inputs l in
    let some = All-weaker (IsHeld l.section) HasBytes (λ c held. held.some) items (items-held inputs l code whole) in
    let end : edge_of items (length items) ≡ length l.section.bytes = ap bytes_of_all (take_all (length items) items (omega arith)) ∙ items-bytes inputs l code whole in
    let apart = edge-apart items 0 (length items) some (omega arith) in
    let none : 0 + length items ≡ length items = omega arith in
    let short = whole.short in
    record {
      forward = items-forward inputs l;
      some = some;
      end = end;
      few = omega (arith, apart, ap (edge_of items) none, end, short);
      short = short;
    }

-- what is known of an offset in a removed tail
pub record IsCovered (inputs : ParsedInputs) (o i n : ℕ) (t : MovedTail) : Type 0 where
  pub section : SectionParts
  pub section_is : section_at inputs.objects o i ≡ Some section
  pub code : is_code_section section ≡ true
  pub items : AreItems inputs (indexed o i section)
  pub among : IsAmong (code_items inputs (indexed o i section)) t.tail
  pub some : 0 < t.tail.count
  pub below : n < edge_of (code_items inputs (indexed o i section)) (t.tail.end + 1)
  pub host : (f : Option (ℕ × ℕ)) → find (is_at n) (zips (tail_among (code_items inputs (indexed o i section)) t.tail)) ≡ f
      → host_offset (removed_at inputs o i) n ≡ option_map_or (λ e. Some e.1) f None

found-long : (m : ℕ) (rs : List Removed) (r : Removed) (n : ℕ) → ApartFrom m rs → find (covers n) rs ≡ Some r → 4 < bytes_of_all r.tail
found-long m [] r n a is = absurd cc
found-long m (x ∷ rs) r n a is = by (covers n x) (λ h. found-long (tail_end x) rs r n a.2 h) is
  where
    by : (b : Bool) → (find (covers n) rs ≡ Some r → 4 < bytes_of_all r.tail) → cond b (Some x) (find (covers n) rs) ≡ Some r → 4 < bytes_of_all r.tail
    by true rest h = let same : x ≡ r = ap (λ (o : Option Removed). option_map_or (λ (u : Removed). u) o x) h in subst (λ (r : Removed). 4 < bytes_of_all r.tail) same a.1
    by false rest h = rest h

module _ (inputs : Inputs) (none : gather_fault inputs ≡ None) (o i n : ℕ) (tails : List MovedTail) where
  covered-in : (s : SectionParts) (t : MovedTail) → section_at (parsed inputs).objects o i ≡ Some s → AreMovedTails (parsed inputs) (indexed o i s) tails → tail_over tails n ≡ Some t → IsCovered (parsed inputs) o i n t
  covered-in s t at are over =
      let l = indexed o i s in
      let items = code_items (parsed inputs) l in
      let removed = removed_in (parsed inputs) l in
      let apart = in-apart (parsed inputs) l in
      let own = subst (ApartFrom 0) (sym are.removed.are) apart in
      let searched : tail_over (moved_tails items 0 are.list) n ≡ Some t = ap (λ ts. tail_over ts n) (sym are.are) ∙ over in
      let found : find (covers n) removed ≡ Some (tail_among items t.tail) =
      ap (find (covers n)) (sym are.removed.are) ∙ table-over items 0 0 are.list n own ∙ ap (option_map (λ (u : MovedTail). tail_among items u.tail)) searched in
      let code = code_of found in
      let of = section-items (parsed inputs) l code (inputs_whole inputs o i s none at code) in
      let among = before-holds items of.forward of.some (IsAmong items) 0 are.list n t are.removed.among (over-before n t (last_before (moved_tails items 0 are.list) n) searched) in
      let some = among-some items of.forward of.some t.tail (found-long 0 removed (tail_among items t.tail) n apart found) in
      let end = among.end in
      let host = among.host in
      let few = among.count in
      let run = run-at items t.tail.end t.tail.count of.forward end some (omega (arith, few, host)) in
      let covered = found_passes (covers n) removed (tail_among items t.tail) found in
      let high = ltb-true n (tail_end (tail_among items t.tail)) (and_parts (leb (tail_start (tail_among items t.tail)) n) (ltb n (tail_end (tail_among items t.tail))) covered).1 in
      let stop = run.stop in
      let runs = subst AreRuns are.removed.are (among-runs items of.forward of.some 0 are.list own are.removed.among) in
      let same : removed_at (parsed inputs) o i ≡ removed = ap (λ x. option_map_or (λ s. removed_in (parsed inputs) (indexed o i s)) x []) at in
      record {
        section = s;
        section_is = at;
        code = code;
        items = of;
        among = among;
        some = some;
        below = omega (arith, high, stop);
        host = λ f is. ap (λ rs. host_offset rs n) same
            ∙ ap (λ f. option_map_or (λ e. Some e.1) f None) (
            hosts-covered 0 n removed apart runs
            ∙ ap (λ x. option_map_or (λ r. find (is_at n) (zips r)) x None) found
            ∙ is
            );
      }
    where
      code_of : find (covers n) (removed_in (parsed inputs) (indexed o i s)) ≡ Some (tail_among (code_items (parsed inputs) (indexed o i s)) t.tail) → is_code_section s ≡ true
      code_of found = by (is_code_section s) refl found
        where
          by : (b : Bool) → is_code_section s ≡ b → find (covers n) (cond b (removed_tails (parsed inputs) (indexed o i s)) []) ≡ Some (tail_among (code_items (parsed inputs) (indexed o i s)) t.tail) → is_code_section s ≡ true
          by true is h = is
          by false is h = absurd cc

  pub covered-at : (t : MovedTail) → AreMovedAt (parsed inputs) o i tails → tail_over tails n ≡ Some t → IsCovered (parsed inputs) o i n t
  covered-at t at over = by (section_at (parsed inputs).objects o i) refl at
    where
      by : (x : Option SectionParts) → section_at (parsed inputs).objects o i ≡ x → MatchOption x (tails ≡ []) (λ s. AreMovedTails (parsed inputs) (indexed o i s) tails) → IsCovered (parsed inputs) o i n t
      by None is empty = absurd (let missing = ap (λ ts. tail_over ts n) empty in cc (missing, over))
      by (Some s) is are = covered-in s t is are over

  -- where no tail is, none has a host
  pub uncovered-at : AreMovedAt (parsed inputs) o i tails → tail_over tails n ≡ None → host_offset (removed_at (parsed inputs) o i) n ≡ None
  uncovered-at at over = by (section_at (parsed inputs).objects o i) refl at
    where
      by : (x : Option SectionParts) → section_at (parsed inputs).objects o i ≡ x → MatchOption x (tails ≡ []) (λ s. AreMovedTails (parsed inputs) (indexed o i s) tails) → host_offset (option_map_or (λ s. removed_in (parsed inputs) (indexed o i s)) x []) n ≡ None
      by None is empty = refl
      by (Some s) is are = either (is_code_section s) refl
        where
          either : (b : Bool) → is_code_section s ≡ b → host_offset (cond b (removed_tails (parsed inputs) (indexed o i s)) []) n ≡ None
          either false code = refl
          either true code =
              let l = indexed o i s in
              let items = code_items (parsed inputs) l in
              let here : removed_in (parsed inputs) l ≡ removed_tails (parsed inputs) l = ap (λ b. cond b (removed_tails (parsed inputs) l) []) code in
              let listed = are.removed.are ∙ here in
              let apart = subst (ApartFrom 0) here (in-apart (parsed inputs) l) in
              let own = subst (ApartFrom 0) (sym listed) apart in
              let of = section-items (parsed inputs) l code (inputs_whole inputs o i s none is code) in
              let runs = subst AreRuns listed (among-runs items of.forward of.some 0 are.list own are.removed.among) in
              let searched : find (covers n) (removed_tails (parsed inputs) l) ≡ None =
              ap (find (covers n)) (sym listed) ∙ table-over items 0 0 are.list n own
              ∙ ap (λ ts. option_map (λ (u : MovedTail). tail_among items u.tail) (tail_over ts n)) (sym are.are)
              ∙ ap (option_map (λ (u : MovedTail). tail_among items u.tail)) over in
              ap (λ f. option_map_or (λ e. Some e.1) f None) (
              hosts-covered 0 n (removed_tails (parsed inputs) l) apart runs
              ∙ ap (λ x. option_map_or (λ r. find (is_at n) (zips r)) x None) searched
              )

-- ---- by numbers

module _ (inputs : ParsedInputs) (q : Place) (t : MovedTail) (c : IsCovered inputs q.object q.section q.offset t) where
  abbrev its : IndexedSection
  its = indexed q.object q.section c.section

  abbrev pub its_items : List CodeItem
  its_items = code_items inputs its

  code-here : code_at inputs.objects q ≡ Some c.section
  code-here = code_at_is inputs.objects q c.section c.section_is c.code

  inside : q.offset < length c.section.bytes
  inside =
      let end = c.among.end in
      let order = edge-order its_items (t.tail.end + 1) (length its_items) c.items.some (omega (arith, end)) (omega arith) in
      let all = c.items.end in
      let below = c.below in
      omega (arith, below, order, all)

  start-here : is_target_at inputs.objects q ≡ starts_on c.section q.offset
  start-here =
      ap (λ x. option_map_or (λ s. starts_on s q.offset) x false || option_map_or (λ s. eqb q.offset (length s.bytes)) x false) code-here
      ∙ ap (λ b. starts_on c.section q.offset || b) (ne_eqb q.offset (length c.section.bytes) (λ e. let lt = inside in omega (arith, e, lt)))
      ∙ either (starts_on c.section q.offset)
    where
      either : (b : Bool) → (b || false) ≡ b
      either true = refl
      either false = refl

  pub numbered-at : (number : PlaceNumber) → is_target_at inputs.objects q ≡ true → IsPlaceNumber inputs.objects q number → IsNumbered its_items q.offset number.index × (number.index ≤ t.tail.end)
  numbered-at number there is =
      let same : is.section ≡ c.section = ap (λ (x : Option SectionParts). option_map_or (λ s. s) x is.section) (sym is.here ∙ code-here) in
      let any : list_any (λ (d : CodeItem). eqb d.offset q.offset) its_items ≡ true = starts-any inputs its q.offset (starts_in c.section) ∙ sym start-here ∙ there in
      let found = number-of 0 q.offset its_items c.items.forward c.items.some any in
      let index : length (filter (λ (d : CodeItem). ltb d.offset q.offset) its_items) ≡ number.index =
      starts-before inputs its q.offset (starts_in c.section) ∙ sym (is.index_is ∙ ap (λ s. index_on s q.offset) same) in
      let numbered = subst (IsNumbered its_items q.offset) index found in
      let within = numbered.within in
      let offset = edge-offset 0 its_items number.index no_item c.items.forward within in
      let at = numbered.at no_item in
      let below = c.below in
      let less = edge-less its_items number.index (t.tail.end + 1) c.items.some (omega (arith, within)) (omega (arith, offset, at, below)) in
      (numbered, omega (arith, less))

  pub strange-at : is_target_at inputs.objects q ≡ false → host_offset (removed_at inputs q.object q.section) q.offset ≡ None
  strange-at none =
      let any : list_any (λ (d : CodeItem). eqb d.offset q.offset) its_items ≡ false = starts-any inputs its q.offset (starts_in c.section) ∙ sym start-here ∙ none in
      c.host None (host-nothing its_items c.items.forward c.items.some t.tail q.offset c.among (none-any q.offset its_items any))

  pub first-at : (j : ℕ) → IsNumbered its_items q.offset j → j ≤ t.tail.end → t.tail.count ≤ t.tail.end - j + 1 → host_offset (removed_at inputs q.object q.section) q.offset ≡ None
  first-at j is le past = c.host None (host-first its_items c.items.forward c.items.some t.tail q.offset j c.among c.some is le past)

  pub later-at : (j : ℕ) → IsNumbered its_items q.offset j → j ≤ t.tail.end → t.tail.end - j + 1 < t.tail.count
      → host_offset (removed_at inputs q.object q.section) q.offset ≡ Some (get_or its_items (t.tail.host - (t.tail.end - j)) no_item).offset
  later-at j is le less = c.host _ (host-later its_items c.items.forward c.items.some t.tail q.offset j c.among is le less)

-- ---- places by numbers

pub place-item : (inputs : ParsedInputs) (l : IndexedSection) (k : ℕ) (p : CodePlace) → is_code_section l.section ≡ true → k < length (code_items inputs l)
    → (get_or (code_places inputs l) k p).offset ≡ (get_or (code_items inputs l) k no_item).offset
place-item inputs l k p code lt =
    let starts = starts_in l.section in
    let count : length (code_items inputs l) ≡ length starts = length-map starts (code_item inputs l) in
    let all : length (targets_in l.section) ≡ length starts + 1 = length-append starts (length l.section.bytes ∷ []) in
    ap (λ b. (get_or (cond b (map (code_place inputs l) (targets_in l.section)) []) k p).offset) code
    ∙ ap (λ (x : CodePlace). x.offset) (get_or-map (code_place inputs l) (targets_in l.section) k 0 p (omega (arith, lt, count, all)))
    ∙ get_or-append starts (length l.section.bytes ∷ []) 0 k (omega (arith, lt, count))
    ∙ sym (ap (λ (x : CodeItem). x.offset) (get_or-map (code_item inputs l) starts k 0 no_item (omega (arith, lt, count))))

pub place-small : (inputs : ParsedInputs) (l : IndexedSection) (k : ℕ) (p : CodePlace) → is_code_section l.section ≡ true → AreItems inputs l → k < length (code_items inputs l) → (get_or (code_places inputs l) k p).offset ≤ 0x40_0000
place-small inputs l k p code of lt =
    let items = code_items inputs l in
    let at = place-item inputs l k p code lt in
    let offset = edge-offset 0 items k no_item of.forward lt in
    let order = edge-order items k (length items) of.some (omega (arith, lt)) (omega arith) in
    let end = of.end in
    let short = of.short in
    omega (arith, at, offset, order, end, short)

pub length-places : (inputs : ParsedInputs) (l : IndexedSection) → is_code_section l.section ≡ true → length (code_places inputs l) ≡ length (code_items inputs l) + 1
length-places inputs l code =
    let starts = starts_in l.section in
    ap (λ b. length (cond b (map (code_place inputs l) (targets_in l.section)) [])) code
    ∙ length-map (targets_in l.section) (code_place inputs l)
    ∙ length-append starts (length l.section.bytes ∷ [])
    ∙ ap (λ n. n + 1) (sym (length-map starts (code_item inputs l)))

-- the section's number
pub section-here : (inputs : ParsedInputs) (q : Place) (t : MovedTail) (c : IsCovered inputs q.object q.section q.offset t) (k : ℕ) → IsSectionNumber inputs.objects q.object q.section (Some k)
    → slice_get (all_sections inputs.objects) k ≡ Some (indexed q.object q.section c.section)
section-here inputs q t c k is =
    let same : is.0 ≡ c.section = ap (λ (x : Option SectionParts). option_map_or (λ s. s) x is.0) (sym is.1 ∙ c.section_is) in
    is.2 ∙ ap (λ s. Some (indexed q.object q.section s)) same
