-- Regions without a common address: what spans an access is the one region there, and a write changes no other.
use Rattle.std.proofs.Common.{◌≡◌, ℕ, zero, suc, ◌+◌, ◌-◌, ◌^◌, ◌<◌, ◌≤◌, List, [], ◌∷◌, Bool, true, false, cond, length, min, get_or, set, take, drop, refl, sym, subst, ap, ap₂, ◌∙◌, arith, leb, ltb, length-drop, ⊎_elim}
use Rattle.std.specs.Prelude.{◌&&◌, ◌||◌, All}
use Rattle.std.proofs.lemmas.Bool.{and_from, and_parts, and_right, both_ways, cond-false, cond-true, false_from_ne_true, false≢true, le-leb, leb-true, lt-leb, ltb-true, or_cases, or_from}
use Rattle.std.proofs.lemmas.List.{get_or-drop, get_or-take, length-take, take_all}
use Rattle.std.proofs.lemmas.List.Elements.{All-head, All-tail}
use Rattle.rv_decode.specs.Memory.{Extent, Kind, Region, Text, Data, Stack, cell_at, cells_changed, changed, extent_of, extents_of, is_data, is_text, lies_in, spans, written}
use Rattle.rv_decode.proofs.MemoryLaws.{extents-changed, is_covered, lies_covered, lies_inside, spans_inside, untouched}
use Rattle.zc_decode.specs.declared.short.Short.{Short}
use Rattle.zc_machine.specs.Cells.{instruction}
use Rattle.zc_machine.specs.Fetch.{Fetched, Found, Missing}
use Rattle.zc_machine.specs.Invariants.Kept.{IsEntry}
use Rattle.zc_machine.specs.Memory.{Apart, AreApart, Fetches, Reaches, most_at_once}
use Rattle.zc_machine.specs.Region.{allowed, cells_by, has_code, kind_of_region, part_from}
use Rattle.zc_machine.specs.declared.reason.Reason.TheVariants.{BadAccess}
use Rattle.zc_machine.specs.declared.code.Kept.{Kept}
use Rattle.zc_machine.specs.declared.code.Kept.TheVariants.{Known}
use Rattle.zc_machine.specs.declared.region.AccessKind.{AccessKind}
use Rattle.zc_machine.specs.declared.region.AccessKind.TheVariants as access
use Rattle.zc_machine.specs.declared.region.RegionKind.{RegionKind}
use Rattle.zc_machine.specs.declared.region.RegionKind.TheVariants as region
use Rattle.zc_machine.proofs.WriteLaws.{cells_written_at, cells_written_none}

-- two tests agree if each holds where the other does
pub same_tests : (b c : Bool) → (b ≡ true → c ≡ true) → (c ≡ true → b ≡ true) → b ≡ c
same_tests true c to from = sym (to refl)
same_tests false true to from = from refl
same_tests false false to from = refl

-- ---- where a region lies

spans_bounds : (e : Extent) (a n : ℕ) → spans e a n ≡ true → (e.at ≤ a) × (a + n ≤ e.at + e.size)
spans_bounds e a n h =
    let q = and_parts (leb e.at a) (leb (a + n) (e.at + e.size)) h in
    (leb-true e.at a q.0, leb-true (a + n) (e.at + e.size) q.1)

spans_from : (e : Extent) (a n : ℕ) → e.at ≤ a → a + n ≤ e.at + e.size → spans e a n ≡ true
spans_from e a n low high = and_from (leb e.at a) (leb (a + n) (e.at + e.size)) (le-leb e.at a low) (le-leb (a + n) (e.at + e.size) high)

-- what is no byte of a region is no larger part of it
spans_none : (e : Extent) (a n : ℕ) → 0 < n → spans e a 1 ≡ false → spans e a n ≡ false
spans_none e a n some out = false_from_ne_true (spans e a n) (λ h. false≢true (sym out ∙ spans_inside e a n a 1 h (omega arith) (omega arith)))

lies_none : (fits : Kind → Bool) (es : List Extent) (a n : ℕ) → 0 < n → is_covered es a ≡ false → lies_in fits es a n ≡ false
lies_none fits es a n some out =
    false_from_ne_true (lies_in fits es a n) (λ h. false≢true (sym out ∙ lies_covered fits es a (lies_inside fits es a n a 1 h (omega arith) (omega arith))))

-- ---- regions apart

-- no address is in both
apart_no : (e f : Extent) → Apart e f → (x : ℕ) → e.at ≤ x → x < e.at + e.size → f.at ≤ x → x < f.at + f.size → ⊥
apart_no e f apart x a b c d = omega (arith, apart, a, b, c, d)

apart_out : (e f : Extent) (x : ℕ) → Apart e f → spans e x 1 ≡ true → spans f x 1 ≡ false
apart_out e f x apart here = false_from_ne_true (spans f x 1) (λ there. let p = spans_bounds e x 1 here in let q = spans_bounds f x 1 there in apart_no e f apart x p.0 (omega (arith, p)) q.0 (omega (arith, q)))

apart_before : (e f : Extent) (x : ℕ) → Apart e f → spans f x 1 ≡ true → spans e x 1 ≡ false
apart_before e f x apart there = false_from_ne_true (spans e x 1) (λ here. both_ways (spans f x 1) (apart_out e f x apart here) there)

apart_uncovered : (e : Extent) (es : List Extent) (x : ℕ) → All (Apart e) es → spans e x 1 ≡ true → is_covered es x ≡ false
apart_uncovered e [] x apart here = refl
apart_uncovered e (f ∷ fs) x apart here = or_from (spans f x 1) (is_covered fs x) (apart_out e f x (All-head (Apart e) f fs apart) here) (apart_uncovered e fs x (All-tail (Apart e) f fs apart) here)

-- the first is apart from the one at an index of the rest
apart_at : (r : Region ℕ) (rs : List (Region ℕ)) (i : ℕ) (d : Region ℕ) → All (Apart (extent_of r)) (extents_of rs) → i < length rs → Apart (extent_of r) (extent_of (get_or rs i d))
apart_at r [] i d apart lt = absurd (omega arith)
apart_at r (s ∷ ss) zero d apart lt = All-head (Apart (extent_of r)) (extent_of s) (extents_of ss) apart
apart_at r (s ∷ ss) (suc i) d apart lt = apart_at r ss i d (All-tail (Apart (extent_of r)) (extent_of s) (extents_of ss) apart) (omega arith)

-- each ends at 2^32 or before
below_at : (rs : List (Region ℕ)) (i : ℕ) (d : Region ℕ) → AreApart (extents_of rs) → i < length rs → (get_or rs i d).at + length (get_or rs i d).cells ≤ 2 ^ 32
below_at [] i d apart lt = absurd (omega arith)
below_at (r ∷ rs) zero d apart lt = apart.0
below_at (r ∷ rs) (suc i) d apart lt = below_at rs i d apart.2 (omega arith)

-- what lies in one of them ends there too
pub lies_below : (fits : Kind → Bool) (es : List Extent) (a n : ℕ) → AreApart es → lies_in fits es a n ≡ true → a + n ≤ 2 ^ 32
lies_below fits [] a n apart lies = absurd cc
lies_below fits (e ∷ es) a n apart lies = ⊎_elim
    (λ here. let p = spans_bounds e a n (and_parts (fits e.kind) (spans e a n) here).1 in omega (arith, p, apart.0))
    (λ later. lies_below fits es a n apart.2 later)
    (or_cases (fits e.kind && spans e a n) (lies_in fits es a n) lies)

-- ---- the one region at an address

-- an access from there lies in memory if it lies in that region
lies_at :
    (fits : Kind → Bool) (rs : List (Region ℕ)) (i : ℕ) (d : Region ℕ) (a n : ℕ) → AreApart (extents_of rs) → i < length rs → fits (get_or rs i d).kind ≡ true
    → spans (extent_of (get_or rs i d)) a 1 ≡ true → 0 < n → lies_in fits (extents_of rs) a n ≡ spans (extent_of (get_or rs i d)) a n
lies_at fits [] i d a n apart lt fit here some = absurd (omega arith)
lies_at fits (r ∷ rs) zero d a n apart lt fit here some =
    let none = lies_none fits (extents_of rs) a n some (apart_uncovered (extent_of r) (extents_of rs) a apart.1 here) in
    ap₂ (λ b c. (b && spans (extent_of r) a n) || c) fit none ∙ either (spans (extent_of r) a n)
  where
    either : (b : Bool) → (b || false) ≡ b
    either true = refl
    either false = refl
lies_at fits (r ∷ rs) (suc i) d a n apart lt fit here some =
    let out = spans_none (extent_of r) a n some (apart_before (extent_of r) (extent_of (get_or rs i d)) a (apart_at r rs i d apart.1 (omega arith)) here) in
    ap (λ b. b || lies_in fits (extents_of rs) a n) (and_right (fits r.kind) (spans (extent_of r) a n) out) ∙ lies_at fits rs i d a n apart.2 (omega arith) fit here some

-- a cell there is that region's
cell_at_at :
    (rs : List (Region ℕ)) (i : ℕ) (d : Region ℕ) (x : ℕ) → AreApart (extents_of rs) → i < length rs → spans (extent_of (get_or rs i d)) x 1 ≡ true
    → cell_at 0 rs x ≡ get_or (get_or rs i d).cells (x - (get_or rs i d).at) 0
cell_at_at [] i d x apart lt here = absurd (omega arith)
cell_at_at (r ∷ rs) zero d x apart lt here = cond-true (spans (extent_of r) x 1) (get_or r.cells (x - r.at) 0) (cell_at 0 rs x) here
cell_at_at (r ∷ rs) (suc i) d x apart lt here =
    cond-false (spans (extent_of r) x 1) (get_or r.cells (x - r.at) 0) (cell_at 0 rs x) (apart_before (extent_of r) (extent_of (get_or rs i d)) x (apart_at r rs i d apart.1 (omega arith)) here)
    ∙ cell_at_at rs i d x apart.2 (omega arith) here

-- ---- what an access reaches

-- what can be looked at in one piece is what such an access reaches at most
part_reached : (way : AccessKind) (kind : Kind) (a : ℕ) (cells : List ℕ) → allowed way kind ≡ true → length cells ≤ 2 ^ 32 → part_from kind a cells ≡ take (most_at_once way a) cells
part_reached access.Fetch Text a cells fits small = sym (take_all (2 ^ 32) cells small)
part_reached access.Fetch Data a cells fits small = absurd cc
part_reached access.Fetch Stack a cells fits small = absurd cc
part_reached access.Data Text a cells fits small = absurd cc
part_reached access.Data Data a cells fits small = refl
part_reached access.Data Stack a cells fits small = refl
part_reached access.Interrupt Text a cells fits small = absurd cc
part_reached access.Interrupt Data a cells fits small = absurd cc
part_reached access.Interrupt Stack a cells fits small = refl
part_reached access.Poke Text a cells fits small = absurd cc
part_reached access.Poke Data a cells fits small = refl
part_reached access.Poke Stack a cells fits small = absurd cc

-- an access reaches the rest of the region, as far as it may reach at once
reached :
    (way : AccessKind) (rs : List (Region ℕ)) (i : ℕ) (d : Region ℕ) (a : ℕ) → AreApart (extents_of rs) → i < length rs → (allowed way (get_or rs i d).kind && spans (extent_of (get_or rs i d)) a 1) ≡ true
    → Reaches way rs a (part_from (get_or rs i d).kind a (drop (a - (get_or rs i d).at) (get_or rs i d).cells))
reached way rs i d a apart lt holds = subst (Reaches way rs a) (sym (part_reached way r.kind a rest q.0 (omega (arith, whole, p, end)))) record {
  lies = λ n some few. lies_at (allowed way) rs i d a n apart lt q.0 q.1 some ∙ same_tests (spans (extent_of r) a n) (leb n (length (take most rest)))
      (λ h. let s = spans_bounds (extent_of r) a n h in le-leb n (length (take most rest)) (omega (arith, size, whole, s, few)))
      (λ h. let s = leb-true n (length (take most rest)) h in spans_from (extent_of r) a n p.0 (omega (arith, size, whole, s, p)));
  within = omega (arith, size);
  holds = λ k less.
      let here = spans_from (extent_of r) (a + k) 1 (omega (arith, p)) (omega (arith, size, whole, less, p)) in
      let same : a + k - r.at ≡ a - r.at + k = omega (arith, p) in
      cell_at_at rs i d (a + k) apart lt here ∙ ap (λ j. get_or r.cells j 0) same ∙ sym (get_or-take most rest k 0 (omega (arith, size, less)) ∙ get_or-drop (a - r.at) r.cells k 0);
  below = omega (arith, size, whole, p, end);
}
  where
    r : Region ℕ
    r = get_or rs i d

    q : (allowed way r.kind ≡ true) × (spans (extent_of r) a 1 ≡ true)
    q = and_parts (allowed way r.kind) (spans (extent_of r) a 1) holds

    p : (r.at ≤ a) × (a + 1 ≤ r.at + length r.cells)
    p = spans_bounds (extent_of r) a 1 q.1

    end : r.at + length r.cells ≤ 2 ^ 32
    end = below_at rs i d apart lt

    rest : List ℕ
    rest = drop (a - r.at) r.cells

    most : ℕ
    most = most_at_once way a

    whole : length rest ≡ length r.cells - (a - r.at)
    whole = length-drop (a - r.at) r.cells

    size : length (take most rest) ≡ min most (length rest)
    size = length-take most rest

pub item_reached :
    (way : AccessKind) (rs : List (Region ℕ)) (i : ℕ) (r : Region ℕ) (a : ℕ) → AreApart (extents_of rs) → i < length rs → r ≡ get_or rs i r → (allowed way r.kind && spans (extent_of r) a 1) ≡ true
    → Reaches way rs a (part_from r.kind a (drop (a - r.at) r.cells))
item_reached way rs i r a apart lt is holds =
    subst (λ (x : Region ℕ). Reaches way rs a (part_from x.kind a (drop (a - x.at) x.cells))) (sym is)
    (reached way rs i r a apart lt (ap (λ (x : Region ℕ). allowed way x.kind && spans (extent_of x) a 1) (sym is) ∙ holds))

-- nothing, if no region has such a byte there
pub unreached : (way : AccessKind) (rs : List (Region ℕ)) (a : ℕ) → a < 2 ^ 32 → lies_in (allowed way) (extents_of rs) a 1 ≡ false → Reaches way rs a []
unreached way rs a small none = record {
  lies = λ n some few.
      false_from_ne_true (lies_in (allowed way) (extents_of rs) a n) (λ h. false≢true (sym none ∙ lies_inside (allowed way) (extents_of rs) a n a 1 h (omega arith) (omega arith)))
      ∙ sym (lt-leb n 0 some);
  within = omega arith;
  holds = λ i less. absurd (omega arith);
  below = omega arith;
}

-- ---- what is fetched

-- each region ends at 2^32 or before
pub item_below : (rs : List (Region ℕ)) (i : ℕ) (r : Region ℕ) → AreApart (extents_of rs) → i < length rs → r ≡ get_or rs i r → r.at + length r.cells ≤ 2 ^ 32
item_below rs i r apart lt is = subst (λ (x : Region ℕ). x.at + length x.cells ≤ 2 ^ 32) (sym is) (below_at rs i r apart lt)

-- the cells of code are kept in one piece
text_whole : (kind : Kind) (a : ℕ) (cells : List ℕ) → is_text kind ≡ true → part_from kind a cells ≡ cells
text_whole Text a cells is = refl
text_whole Data a cells is = absurd cc
text_whole Stack a cells is = absurd cc

-- what the region there has
pub item_fetched :
    (rs : List (Region ℕ)) (i : ℕ) (r : Region ℕ) (a : ℕ) (found : Fetched) → AreApart (extents_of rs) → i < length rs → r ≡ get_or rs i r → has_code r a ≡ true
    → found ≡ instruction (drop (a - r.at) r.cells) → Fetches rs a found
item_fetched rs i r a found apart lt is has stands =
    let text = (and_parts (is_text r.kind) (spans (extent_of r) a 1) has).0 in
    (drop (a - r.at) r.cells, subst (Reaches access.Fetch rs a) (text_whole r.kind a (drop (a - r.at) r.cells) text) (item_reached access.Fetch rs i r a apart lt is has), stands)

pub known_fetched :
    (rs : List (Region ℕ)) (i : ℕ) (r : Region ℕ) (a size : ℕ) (short : Short) (entry : Kept) → AreApart (extents_of rs) → i < length rs → r ≡ get_or rs i r
    → IsEntry r a entry → entry ≡ Known size short → Fetches rs a (Found short size)
known_fetched rs i r a size short entry apart lt is stands known =
    let it : IsEntry r a (Known size short) = subst (IsEntry r a) known stands in
    item_fetched rs i r a (Found short size) apart lt is it.0 (sym it.1)

-- nothing, if no region has code there
pub none_fetched : (rs : List (Region ℕ)) (a : ℕ) → a < 2 ^ 32 → lies_in is_text (extents_of rs) a 1 ≡ false → Fetches rs a (Missing BadAccess)
none_fetched rs a small none = ([], unreached access.Fetch rs a small none, refl)

-- ---- a write

module _ (a n : ℕ) (given : ℕ → ℕ) where
  abbrev pub written_region : Region ℕ → Region ℕ
  written_region r = record r { cells = cells_changed (written a n given) r.at r.cells }

  -- a region that has none of the addresses stays
  cells_kept : (at : ℕ) (cs : List ℕ) → ((x : ℕ) → at ≤ x → x < at + length cs → a ≤ x → x < a + n → ⊥) → cells_changed (written a n given) at cs ≡ cs
  cells_kept at [] out = refl
  cells_kept at (c ∷ cs) out =
      ap₂ (λ x xs. x ∷ xs) (untouched a n given at c (λ low high. out at (omega arith) (omega arith) low high))
      (cells_kept (suc at) cs (λ x l h low high. out x (omega arith) (omega arith) low high))

  kept : (r : Region ℕ) (e : Extent) → spans e a n ≡ true → ((x : ℕ) → e.at ≤ x → x < e.at + e.size → r.at ≤ x → x < r.at + length r.cells → ⊥) → written_region r ≡ r
  kept r e here out =
      let p = spans_bounds e a n here in
      ap (λ cs. record r { cells = cs }) (cells_kept r.at r.cells (λ x l h low high. out x (omega (arith, p, low)) (omega (arith, p, high)) l h))

  all_kept : (rs : List (Region ℕ)) (e : Extent) → spans e a n ≡ true → All (Apart e) (extents_of rs) → changed (written a n given) rs ≡ rs
  all_kept [] e here apart = refl
  all_kept (r ∷ rs) e here apart =
      ap₂ (λ x xs. x ∷ xs) (kept r e here (apart_no e (extent_of r) (All-head (Apart e) (extent_of r) (extents_of rs) apart)))
      (all_kept rs e here (All-tail (Apart e) (extent_of r) (extents_of rs) apart))

  -- only the region that spans them changes
  changed_at :
      (rs : List (Region ℕ)) (i : ℕ) (d : Region ℕ) → AreApart (extents_of rs) → i < length rs → spans (extent_of (get_or rs i d)) a n ≡ true
      → set rs i (written_region (get_or rs i d)) ≡ changed (written a n given) rs
  changed_at [] i d apart lt here = absurd (omega arith)
  changed_at (r ∷ rs) zero d apart lt here = sym (ap (λ xs. written_region r ∷ xs) (all_kept rs (extent_of r) here apart.1))
  changed_at (r ∷ rs) (suc i) d apart lt here =
      let e = extent_of (get_or rs i d) in
      let no = apart_no (extent_of r) e (apart_at r rs i d apart.1 (omega arith)) in
      ap₂ (λ x xs. x ∷ xs) (sym (kept r e here (λ x l h low high. no x low high l h))) (changed_at rs i d apart.2 (omega arith) here)

  pub item_changed :
      (rs : List (Region ℕ)) (i : ℕ) (r : Region ℕ) → AreApart (extents_of rs) → i < length rs → r ≡ get_or rs i r → spans (extent_of r) a n ≡ true
      → set rs i (written_region r) ≡ changed (written a n given) rs
  item_changed rs i r apart lt is here =
      ap (λ x. set rs i (written_region x)) is ∙ changed_at rs i r apart lt (ap (λ (x : Region ℕ). spans (extent_of x) a n) (sym is) ∙ here)

-- a region that keeps its cells by its kind, after bytes were written to those that it has
pub region_written :
    (kind : RegionKind) (at a n : ℕ) (given : ℕ → ℕ) (code pages code' pages' : List ℕ) (r : Region ℕ)
    → record { kind = kind_of_region kind; at = at; cells = cells_by kind code pages } ≡ r → spans (extent_of r) a n ≡ true
    → cells_by kind code' pages' ≡ cells_changed (written (a - at) n given) 0 (cells_by kind code pages)
    → record { kind = kind_of_region kind; at = at; cells = cells_by kind code' pages' } ≡ written_region a n given r
region_written kind at a n given code pages code' pages' r seen here change =
    let low : at ≤ a = omega (arith, (spans_bounds (extent_of r) a n here).0, ap (λ (x : Region ℕ). x.at) seen) in
    let cells = change ∙ cells_written_at at a n given (cells_by kind code pages) low in
    (λ i. record { kind = kind_of_region kind; at = at; cells = cells i }) ∙ ap (written_region a n given) seen

-- the cells of a region of data or of the stack are those in pages
pub cells_in_pages : (kind : RegionKind) (code pages : List ℕ) → is_data (kind_of_region kind) ≡ true → cells_by kind code pages ≡ pages
cells_in_pages region.Text code pages is = absurd cc
cells_in_pages region.Data code pages is = refl
cells_in_pages region.Stack code pages is = refl

-- a write never reaches code
pub writes_data : (way : AccessKind) (kind : Kind) → allowed way Text ≡ false → allowed way kind ≡ true → is_data kind ≡ true
writes_data access.Fetch kind none is = absurd cc
writes_data access.Data kind none is = is
writes_data access.Interrupt Text none is = absurd cc
writes_data access.Interrupt Data none is = absurd cc
writes_data access.Interrupt Stack none is = refl
writes_data access.Poke Text none is = absurd cc
writes_data access.Poke Data none is = refl
writes_data access.Poke Stack none is = absurd cc

-- ---- changes that are the same

-- bytes that are given alike at each address that is written
pub written-same : (a n : ℕ) (f g : ℕ → ℕ) → ((i : ℕ) → i < n → f i ≡ g i) → (x c : ℕ) → written a n f x c ≡ written a n g x c
written-same a n f g same x c = either (leb a x && ltb x (a + n)) refl
  where
    either : (b : Bool) → (leb a x && ltb x (a + n)) ≡ b → cond b (f (x - a)) c ≡ cond b (g (x - a)) c
    either true h =
        let q = and_parts (leb a x) (ltb x (a + n)) h in
        same (x - a) (omega (arith, leb-true a x q.0, ltb-true x (a + n) q.1))
    either false h = refl

-- where regions lie stays, if a change is made or not
pub extents-either : (f : ℕ → ℕ → ℕ) (rs : List (Region ℕ)) (b : Bool) → extents_of (cond b (changed f rs) rs) ≡ extents_of rs
extents-either f rs true = extents-changed f rs
extents-either f rs false = refl

-- no byte is written
pub changed-written_none : (a : ℕ) (given : ℕ → ℕ) (rs : List (Region ℕ)) → changed (written a 0 given) rs ≡ rs
changed-written_none a given [] = refl
changed-written_none a given (r ∷ rs) = ap₂ (λ cs xs. record r { cells = cs } ∷ xs) (cells_written_none a given r.at r.cells) (changed-written_none a given rs)

-- a write that is made if any byte is written
pub changed-made : (a n : ℕ) (given : ℕ → ℕ) (rs : List (Region ℕ)) (b : Bool) → (0 < n → b ≡ true) → cond b (changed (written a n given) rs) rs ≡ changed (written a n given) rs
changed-made a n given rs true made = refl
changed-made a zero given rs false made = sym (changed-written_none a given rs)
changed-made a (suc n) given rs false made = absurd (false≢true (made (omega arith)))
