-- The table of a section's tails, entry after entry, by the offsets of its places.
use Rattle.std.proofs.Common.{◌≡◌, ℕ, zero, suc, ◌+◌, ◌-◌, ◌≤◌, ◌<◌, List, [], ◌∷◌, ◌++◌, length, map, take, get_or, Bool, true, false, cond, refl, sym, ap, ◌∙◌, subst, arith, inl, inr, Some, None, slice_get}
use Rattle.std.specs.Prelude.{Vec}
use Rattle.std.specs.declared.alloc.Global.{Global}
use Rattle.std.proofs.lemmas.Bool.{cases_lt}
use Rattle.std.proofs.Math.ListN.{get_or-append}
use Rattle.std.proofs.Math.Seq.{get_or-append_seam}
use Rattle.std.proofs.lemmas.List.{get_or-map, length-append, length-map, map-append}
use Rattle.std.proofs.lemmas.List.Sums.{sum_by-append, sum_by-cons}
use Rattle.std.proofs.lemmas.Option.{get_or_from_slice_get, slice_get-get_or, slice_get_within}
use Rattle.elf32_read.specs.Parts.{is_code_section}
use Rattle.psabi_sym.specs.Faults.{gather_fault}
use Rattle.psabi_sym.specs.Indexed.{IndexedSection, all_sections}
use Rattle.psabi_sym.specs.Inputs.{Inputs, ParsedInputs, parsed}
use Rattle.psabi_sym.proofs.SectionNumbers.{listed_at}
use Rattle.block_cut.specs.Items.{starts_in, targets_in}
use Rattle.block_cut.specs.Places.{code_place, code_places}
use Rattle.block_cut.specs.declared.code_place.CodePlace.{CodePlace}
use Rattle.block_cut.proofs.TakeLaws.{take_next}
use Rattle.block_cut.proofs.WholeLaws.{inputs_whole}
use Rattle.tail_merge.specs.MovedTails.{AreMovedTails, entry_by, moved_tail, moved_tails, offset_at, tables_of}
use Rattle.tail_merge.specs.RemovedTails.{AreRemovedFrom, IsAmong, tail_among}
use Rattle.tail_merge.specs.Tails.{CodeItem, bytes_of_all, code_item, code_items, removed_tails, bytes_saved_by, saved_bytes, tail_end, tail_start}
use Rattle.tail_merge.specs.declared.moved_tail.MovedTail.{MovedTail}
use Rattle.tail_merge.specs.declared.removed_tail.RemovedTail.{RemovedTail}
use Rattle.tail_merge.proofs.HostLaws.{AreItems, among-some, length-places, place-item, section-items}
use Rattle.tail_merge.proofs.MovedTailLaws.{in-apart}
use Rattle.tail_merge.proofs.OffsetLaws.{ApartFrom}
use Rattle.tail_merge.proofs.RunLaws.{edge-offset, edge_of, no_item, run-at}

-- ---- lists

pub tails-more : (items : List CodeItem) (s : ℕ) (list : List RemovedTail) (k : ℕ) (t : RemovedTail) → slice_get list k ≡ Some t
    → moved_tails items s (take (k + 1) list) ≡ moved_tails items s (take k list) ++ moved_tail items (s + saved_bytes (map (tail_among items) (take k list))) t ∷ []
tails-more items s [] k t at = absurd cc
tails-more items s (x ∷ xs) zero t at =
    let same : x ≡ t = cc in
    let none : s + 0 ≡ s = omega arith in
    λ i. moved_tail items (sym none i) (same i) ∷ []
tails-more items s (x ∷ xs) (suc k) t at =
    let own = bytes_saved_by (tail_among items x) in
    let rest = tails-more items (s + own) xs k t at in
    let sum : s + own + saved_bytes (map (tail_among items) (take k xs)) ≡ s + saved_bytes (map (tail_among items) (take (suc k) (x ∷ xs))) =
    omega (arith, sum_by-cons bytes_saved_by (tail_among items x) (map (tail_among items) (take k xs))) in
    let next : suc k + 1 ≡ suc (k + 1) = omega arith in
    ap (λ j. moved_tails items s (take j (x ∷ xs))) next
    ∙ ap (λ ts. moved_tail items s x ∷ ts) (rest ∙ ap (λ n. moved_tails items (s + own) (take k xs) ++ moved_tail items n t ∷ []) sum)

pub saved-more : (items : List CodeItem) (list : List RemovedTail) (k : ℕ) (t : RemovedTail) → slice_get list k ≡ Some t
    → saved_bytes (map (tail_among items) (take (k + 1) list)) ≡ saved_bytes (map (tail_among items) (take k list)) + bytes_saved_by (tail_among items t)
saved-more items list k t at =
    let more = ap (λ ts. saved_bytes (map (tail_among items) ts)) (take_next list k t at) in
    let both = ap saved_bytes (map-append (tail_among items) (take k list) (t ∷ [])) in
    let sum = sum_by-append bytes_saved_by (map (tail_among items) (take k list)) (tail_among items t ∷ []) in
    let one = sum_by-cons bytes_saved_by (tail_among items t) [] in
    omega (arith, more, both, sum, one)

-- what is saved before a tail is no more than what stands before it
pub saved-low : (items : List CodeItem) (m : ℕ) (list : List RemovedTail) (k : ℕ) (t : RemovedTail) → ApartFrom m (map (tail_among items) list) → slice_get list k ≡ Some t
    → (m + saved_bytes (map (tail_among items) (take k list)) ≤ tail_start (tail_among items t)) × (4 < bytes_of_all (tail_among items t).tail)
saved-low items m [] k t a at = absurd cc
saved-low items m (x ∷ xs) zero t a at =
    let same : x ≡ t = cc in
    let low = a.0 in
    subst (λ t. (m + 0 ≤ tail_start (tail_among items t)) × (4 < bytes_of_all (tail_among items t).tail)) same (omega (arith, low), a.1)
saved-low items m (x ∷ xs) (suc k) t a at =
    let rest = saved-low items (tail_end (tail_among items x)) xs k t a.2 at in
    let low = a.0 in
    let long = a.1 in
    let first = rest.0 in
    (omega (arith, low, long, first, sum_by-cons bytes_saved_by (tail_among items x) (map (tail_among items) (take k xs))), rest.1)

-- ---- entries

module _ (inputs : ParsedInputs) (l : IndexedSection) (code : is_code_section l.section ≡ true) (of : AreItems inputs l) where
  abbrev own_items : List CodeItem
  own_items = code_items inputs l

  pub offset-edge : (k : ℕ) → k ≤ length own_items → offset_at (code_places inputs l) k ≡ edge_of own_items k
  offset-edge k le = elim (cases_lt k (length own_items)) [
    | inl lt ↦ (let at = place-item inputs l k (record { item = None; address = 0; offset = 0; size = 0 }) code lt in let edge = edge-offset 0 own_items k no_item of.forward lt in omega (arith, at, edge))
    | inr ge ↦
        let end : k ≡ length own_items = omega (arith, ge, le) in
        let count : length own_items ≡ length (starts_in l.section) = length-map (starts_in l.section) (code_item inputs l) in
        ap (λ k. offset_at (code_places inputs l) k) (end ∙ count)
        ∙ ap (λ b. offset_at (cond b (map (code_place inputs l) (targets_in l.section)) []) (length (starts_in l.section))) code
        ∙ ap (λ (p : CodePlace). p.offset) (get_or-map (code_place inputs l) (targets_in l.section) (length (starts_in l.section)) 0 (record { item = None; address = 0; offset = 0; size = 0 }) (omega (arith, length-append (starts_in l.section) (length l.section.bytes ∷ []))))
        ∙ get_or-append_seam (starts_in l.section) (length l.section.bytes) [] 0
        ∙ sym of.end
        ∙ ap (edge_of own_items) (sym end)
  ]

  pub entry-edge : (saved : ℕ) (t : RemovedTail) → IsAmong own_items t → entry_by (offset_at (code_places inputs l)) saved t ≡ entry_by (edge_of own_items) saved t
  entry-edge saved t is =
      let end = is.end in
      let host = is.host in
      let start-is = offset-edge (t.end + 1 - t.count) (omega (arith, end)) in
      let stop-is = offset-edge (t.end + 1) (omega (arith, end)) in
      let host-is = offset-edge (t.host + 1 - t.count) (omega (arith, end, host)) in
      λ i. record {
        tail = t;
        start = start-is i;
        stop = stop-is i;
        host = host-is i;
        jump = start-is i - saved;
        after = start-is i - saved + 4;
        saved = saved + (stop-is i - start-is i - 4);
      }

  pub entry-moved : (saved : ℕ) (t : RemovedTail) → IsAmong own_items t → 4 < bytes_of_all (tail_among own_items t).tail → moved_tail own_items saved t ≡ entry_by (edge_of own_items) saved t
  entry-moved saved t is long =
      let end = is.end in
      let host = is.host in
      let few = is.count in
      let some = among-some own_items of.forward of.some t long in
      let run = run-at own_items t.end t.count of.forward end some (omega (arith, few, host)) in
      let other = run-at own_items t.host t.count of.forward (omega (arith, host, end)) some few in
      let start = run.start in
      let stop = run.stop in
      let saves : bytes_saved_by (tail_among own_items t) ≡ edge_of own_items (t.end + 1) - edge_of own_items (t.end + 1 - t.count) - 4 = omega (arith, start, stop) in
      let host-is = other.start in
      λ i. record {
        tail = t;
        start = start i;
        stop = stop i;
        host = host-is i;
        jump = start i - saved;
        after = start i - saved + 4;
        saved = saved + saves i;
      }

-- ---- one more entry

-- what the entry of a tail needs
pub record IsFit (places : List CodePlace) (t : RemovedTail) (saved : ℕ) : Type 0 where
  pub end : t.end + 1 < length places
  pub few : t.end < 0x40_0000
  pub host : t.host < t.end
  pub some : 0 < t.count
  pub count : t.count ≤ t.host + 1
  pub long : offset_at places (t.end + 1 - t.count) + 4 < offset_at places (t.end + 1)
  pub saved_low : saved ≤ offset_at places (t.end + 1 - t.count)

-- the table so far
pub record IsTableSoFar (inputs : ParsedInputs) (l : IndexedSection) (list : List RemovedTail) (k : ℕ) (table : List MovedTail) (saved : ℕ) : Type 0 where
  pub table_is : table ≡ moved_tails (code_items inputs l) 0 (take k list)
  pub saved_is : saved ≡ saved_bytes (map (tail_among (code_items inputs l)) (take k list))

module _ (inputs : Inputs) (none : gather_fault inputs ≡ None) (n : ℕ) (l : IndexedSection) (at : slice_get (all_sections (parsed inputs).objects) n ≡ Some l)
    (list : List RemovedTail) (removed : AreRemovedFrom (parsed inputs) l list) (k : ℕ) (t : RemovedTail) (here : slice_get list k ≡ Some t) where
  abbrev its_code : List CodeItem
  its_code = code_items (parsed inputs) l

  code-of : is_code_section l.section ≡ true
  code-of = by (is_code_section l.section) refl removed.are
    where
      by : (b : Bool) → is_code_section l.section ≡ b → map (tail_among its_code) list ≡ cond b (removed_tails (parsed inputs) l) [] → is_code_section l.section ≡ true
      by true is h = is
      by false is h = absurd (
          let within = slice_get_within list k t here in
          let count : length list ≡ 0 = sym (length-map list (tail_among its_code)) ∙ ap length h in
          omega (arith, within, count)
          )

  of-items : AreItems (parsed inputs) l
  of-items = section-items (parsed inputs) l code-of (inputs_whole inputs l.object l.index l.section none (listed_at (parsed inputs).objects n l at) code-of)

  among-here : IsAmong its_code t
  among-here = subst (IsAmong its_code) (get_or_from_slice_get list k t t here) (removed.among k t (slice_get_within list k t here))

  low-here : (0 + saved_bytes (map (tail_among its_code) (take k list)) ≤ tail_start (tail_among its_code t)) × (4 < bytes_of_all (tail_among its_code t).tail)
  low-here = saved-low its_code 0 list k t (subst (ApartFrom 0) (sym removed.are) (in-apart (parsed inputs) l)) here

  pub fit-here : (table : List MovedTail) (saved : ℕ) → IsTableSoFar (parsed inputs) l list k table saved → IsFit (code_places (parsed inputs) l) t saved
  fit-here table saved so =
      let is = among-here in
      let end = is.end in
      let host = is.host in
      let few = is.count in
      let low = low-here.0 in
      let long = low-here.1 in
      let some = among-some its_code of-items.forward of-items.some t long in
      let run = run-at its_code t.end t.count of-items.forward end some (omega (arith, few, host)) in
      let start = run.start in
      let stop = run.stop in
      let start-is = offset-edge (parsed inputs) l code-of of-items (t.end + 1 - t.count) (omega (arith, end)) in
      let stop-is = offset-edge (parsed inputs) l code-of of-items (t.end + 1) (omega (arith, end)) in
      let saved-is = so.saved_is in
      record {
        end = omega (arith, end, length-places (parsed inputs) l code-of);
        few = (let most = of-items.few in omega (arith, end, most));
        host = host;
        some = some;
        count = few;
        long = omega (arith, start, stop, start-is, stop-is, long);
        saved_low = omega (arith, start, start-is, low, saved-is);
      }

  pub table-turn : (table : List MovedTail) (saved : ℕ) (e : MovedTail) → IsTableSoFar (parsed inputs) l list k table saved → e ≡ entry_by (offset_at (code_places (parsed inputs) l)) saved t
      → IsTableSoFar (parsed inputs) l list (k + 1) (table ++ e ∷ []) e.saved
  table-turn table saved e so is =
      let low = low-here.0 in
      let long = low-here.1 in
      let sum = saved_bytes (map (tail_among its_code) (take k list)) in
      let none : 0 + sum ≡ sum = omega arith in
      let own : e ≡ moved_tail its_code sum t =
      is ∙ entry-edge (parsed inputs) l code-of of-items saved t among-here ∙ sym (entry-moved (parsed inputs) l code-of of-items saved t among-here long)
      ∙ ap (λ s. moved_tail its_code s t) so.saved_is in
      record {
        table_is =
            (λ i. so.table_is i ++ own i ∷ [])
            ∙ ap (λ s. moved_tails its_code 0 (take k list) ++ moved_tail its_code s t ∷ []) (sym none)
            ∙ sym (tails-more its_code 0 list k t here);
        saved_is = ap (λ (e : MovedTail). e.saved) own ∙ sym (saved-more its_code list k t here);
      }

-- ---- a section by its number

pub element-there : {X : Type 0} (xs : List X) (k : ℕ) → k < length xs → (x : X) × (slice_get xs k ≡ Some x)
element-there [] k lt = absurd (omega (arith, lt))
element-there (x ∷ xs) zero lt = (x, refl)
element-there (x ∷ xs) (suc k) lt = element-there xs k (omega (arith, lt))

module _ (inputs : Inputs) (none : gather_fault inputs ≡ None) (n : ℕ) (within : n < length (all_sections (parsed inputs).objects)) (list : List RemovedTail)
    (removed : (l : IndexedSection) → slice_get (all_sections (parsed inputs).objects) n ≡ Some l → AreRemovedFrom (parsed inputs) l list)
    (places : List CodePlace) (are : (l : IndexedSection) → slice_get (all_sections (parsed inputs).objects) n ≡ Some l → places ≡ code_places (parsed inputs) l)
    (k : ℕ) (lt : k < length list) (table : List MovedTail) (saved : ℕ)
    (so : (l : IndexedSection) → slice_get (all_sections (parsed inputs).objects) n ≡ Some l → IsTableSoFar (parsed inputs) l list k table saved) where
  pub fit-of : (d : RemovedTail) → IsFit places (get_or list k d) saved
  fit-of d =
      let there = element-there (all_sections (parsed inputs).objects) n within in
      let l = there.0 in
      let at = there.1 in
      subst (λ ps. IsFit ps (get_or list k d) saved) (sym (are l at))
      (fit-here inputs none n l at list (removed l at) k (get_or list k d) (slice_get-get_or list k d lt) table saved (so l at))

  pub turn-of : (d : RemovedTail) (e : MovedTail) → e ≡ entry_by (offset_at places) saved (get_or list k d) → (l : IndexedSection) → slice_get (all_sections (parsed inputs).objects) n ≡ Some l
      → IsTableSoFar (parsed inputs) l list (k + 1) (table ++ e ∷ []) e.saved
  turn-of d e is l at =
      table-turn inputs none n l at list (removed l at) k (get_or list k d) (slice_get-get_or list k d lt) table saved e (so l at)
      (is ∙ ap (λ ps. entry_by (offset_at ps) saved (get_or list k d)) (are l at))

-- ---- all tables

abbrev items_of : Vec MovedTail Global → List MovedTail
items_of v = v.items

-- one table more
pub tables-turn : (inputs : ParsedInputs) (tables : List (Vec MovedTail Global)) (v : Vec MovedTail Global) (k : ℕ) → length tables ≡ k
    → ((j : ℕ) (m : IndexedSection) → j < k → slice_get (all_sections inputs.objects) j ≡ Some m → AreMovedTails inputs m (get_or (tables_of tables) j []))
    → ((m : IndexedSection) → slice_get (all_sections inputs.objects) k ≡ Some m → AreMovedTails inputs m v.items)
    → (j : ℕ) (m : IndexedSection) → j < k + 1 → slice_get (all_sections inputs.objects) j ≡ Some m → AreMovedTails inputs m (get_or (tables_of (tables ++ v ∷ [])) j [])
tables-turn inputs tables v k count before own j m lt at =
    let both : tables_of (tables ++ v ∷ []) ≡ tables_of tables ++ v.items ∷ [] = map-append items_of tables (v ∷ []) in
    let size : length (tables_of tables) ≡ k = length-map tables items_of ∙ count in
    subst (λ ts. AreMovedTails inputs m (get_or ts j [])) (sym both) (elim (cases_lt j k) [
      | inl less ↦ subst (AreMovedTails inputs m) (sym (get_or-append (tables_of tables) (v.items ∷ []) [] j (omega (arith, less, size)))) (before j m less at)
      | inr ge ↦
          let here : j ≡ length (tables_of tables) = omega (arith, ge, lt, size) in
          let same : j ≡ k = omega (arith, ge, lt) in
          subst (AreMovedTails inputs m) (sym (ap (λ i. get_or (tables_of tables ++ v.items ∷ []) i []) here ∙ get_or-append_seam (tables_of tables) v.items [] []))
          (own m (subst (λ i. slice_get (all_sections inputs.objects) i ≡ Some m) same at))
    ])
