-- How much is removed, section after section.
use Rattle.std.proofs.Common.{◌≡◌, ℕ, zero, suc, ◌+◌, ◌-◌, ◌≤◌, ◌<◌, List, [], ◌∷◌, ◌++◌, length, map, take, drop, get_or, Bool, true, false, cond, refl, sym, ap, ◌∙◌, append-nil, subst, arith, None, Some, slice_get}
use Rattle.std.specs.Prelude.{Vec}
use Rattle.std.specs.declared.alloc.Global.{Global}
use Rattle.std.specs.List.{flat_map}
use Rattle.std.proofs.lemmas.Grind.{flat_map-append}
use Rattle.std.proofs.lemmas.List.{get_or-map, length-append, length-map, take-append-drop}
use Rattle.std.proofs.lemmas.List.Concat.{flat_map-cons}
use Rattle.std.proofs.lemmas.List.Sums.{sum_by-append, sum_by-cons}
use Rattle.elf32_read.specs.Parts.{is_code_section}
use Rattle.psabi_sym.specs.Faults.{code_room, gather_fault}
use Rattle.psabi_sym.specs.Indexed.{IndexedSection, all_sections}
use Rattle.psabi_sym.specs.Inputs.{Inputs, ParsedInputs, parsed}
use Rattle.psabi_sym.proofs.SectionNumbers.{listed_at}
use Rattle.block_cut.proofs.CodeSizeLaws.{counted_least}
use Rattle.block_cut.proofs.RoomLaws.{code_room_is, rooms, rooms_few}
use Rattle.block_cut.proofs.TakeLaws.{take_next}
use Rattle.block_cut.proofs.WholeLaws.{inputs_whole}
use Rattle.tail_merge.specs.Merged.{removed_in}
use Rattle.tail_merge.specs.MovedTails.{AreAllMoved, AreMovedTails, moved_tails, tables_of}
use Rattle.tail_merge.specs.RemovedTails.{tail_among}
use Rattle.tail_merge.specs.Tails.{CodeItem, Removed, code_items, removed_tails, bytes_saved_by, saved_bytes, tail_end}
use Rattle.tail_merge.specs.declared.moved_tail.MovedTail.{MovedTail}
use Rattle.tail_merge.specs.declared.removed_tail.RemovedTail.{RemovedTail}
use Rattle.tail_merge.proofs.HeldLaws.{bytes-saved}
use Rattle.tail_merge.proofs.MovedTailLaws.{in-apart}
use Rattle.tail_merge.proofs.OffsetLaws.{ApartFrom}
use Rattle.tail_merge.proofs.TailTableLaws.{element-there}

-- ---- one section

pub length-moved : (items : List CodeItem) (s : ℕ) (list : List RemovedTail) → length (moved_tails items s list) ≡ length list
length-moved items s [] = refl
length-moved items s (t ∷ ts) = ap suc (length-moved items (s + bytes_saved_by (tail_among items t)) ts)

-- the last entry says how much all save
last-saved : (items : List CodeItem) (s : ℕ) (list : List RemovedTail) (d : MovedTail) (k : ℕ) → length list ≡ suc k → (get_or (moved_tails items s list) k d).saved ≡ s + saved_bytes (map (tail_among items) list)
last-saved items s [] d k is = absurd cc
last-saved items s (t ∷ []) d zero is = omega (arith, sum_by-cons bytes_saved_by (tail_among items t) [])
last-saved items s (t ∷ []) d (suc k) is = absurd (omega (arith, is))
last-saved items s (t ∷ u ∷ us) d zero is = absurd (omega (arith, is))
last-saved items s (t ∷ u ∷ us) d (suc k) is =
    let rest = last-saved items (s + bytes_saved_by (tail_among items t)) (u ∷ us) d k (omega (arith, is)) in
    omega (arith, rest, sum_by-cons bytes_saved_by (tail_among items t) (map (tail_among items) (u ∷ us)))

pub record CountsTable (removed : List Removed) (table : List MovedTail) : Type 0 where
  pub tails : length table ≡ length removed
  pub none : length table ≡ 0 → saved_bytes removed ≡ 0
  pub last : (d : MovedTail) → 0 < length table → (get_or table (length table - 1) d).saved ≡ saved_bytes removed

pub table-counts : (inputs : ParsedInputs) (l : IndexedSection) (table : List MovedTail) → AreMovedTails inputs l table → CountsTable (removed_in inputs l) table
table-counts inputs l table are =
    let items = code_items inputs l in
    let count = length-moved items 0 are.list in
    let mapped = length-map are.list (tail_among items) in
    subst (CountsTable (removed_in inputs l)) (sym are.are) (subst (λ rs. CountsTable rs (moved_tails items 0 are.list)) are.removed.are (record {
      tails = count ∙ sym mapped;
      none = λ empty. nothing items are.list (sym count ∙ empty);
      last = λ d some.
          let before : length are.list ≡ suc (length (moved_tails items 0 are.list) - 1) = omega (arith, count, some) in
          let saved = last-saved items 0 are.list d (length (moved_tails items 0 are.list) - 1) before in
          omega (arith, saved);
    }))
  where
    nothing : (items : List CodeItem) (list : List RemovedTail) → length list ≡ 0 → saved_bytes (map (tail_among items) list) ≡ 0
    nothing items [] is = refl
    nothing items (t ∷ ts) is = absurd (omega (arith, is))

-- ---- how much that is

each-saves : (m : ℕ) (rs : List Removed) → ApartFrom m rs → length rs ≤ saved_bytes rs
each-saves m [] a = omega arith
each-saves m (r ∷ rs) a =
    let long = a.1 in
    let rest = each-saves (tail_end r) rs a.2 in
    omega (arith, long, rest, sum_by-cons bytes_saved_by r rs)

-- a section saves no more than its room
section-saves : (inputs : Inputs) → gather_fault inputs ≡ None → (n : ℕ) (l : IndexedSection) → slice_get (all_sections (parsed inputs).objects) n ≡ Some l → saved_bytes (removed_in (parsed inputs) l) ≤ code_room l.section
section-saves inputs none n l at = by (is_code_section l.section) refl
  where
    by : (b : Bool) → is_code_section l.section ≡ b → saved_bytes (cond b (removed_tails (parsed inputs) l) []) ≤ code_room l.section
    by false code = omega arith
    by true code =
        let whole = inputs_whole inputs l.object l.index l.section none (listed_at (parsed inputs).objects n l at) code in
        let saved = bytes-saved (parsed inputs) l code whole in
        let bytes = whole.bytes in
        omega (arith, saved, bytes, code_room_is l.section code, counted_least l.section.compressed l.section.size)

-- ---- all sections

-- the tails of the first sections
abbrev pub removed_upto : ParsedInputs → ℕ → List Removed
removed_upto inputs k = flat_map (removed_in inputs) (take k (all_sections inputs.objects))

-- the counts of these
pub record AreCountsUpto (inputs : ParsedInputs) (k tails bytes : ℕ) : Type 0 where
  pub tails_are : tails ≡ length (removed_upto inputs k)
  pub bytes_are : bytes ≡ saved_bytes (removed_upto inputs k)
  pub fewer : tails ≤ bytes
  pub few : bytes ≤ rooms (take k (all_sections inputs.objects))

module _ (inputs : Inputs) (none : gather_fault inputs ≡ None) (k : ℕ) (l : IndexedSection) (at : slice_get (all_sections (parsed inputs).objects) k ≡ Some l) (tails bytes : ℕ) (so : AreCountsUpto (parsed inputs) k tails bytes) where
  abbrev pub own : List Removed
  own = removed_in (parsed inputs) l

  more : removed_upto (parsed inputs) (k + 1) ≡ removed_upto (parsed inputs) k ++ own
  more =
      ap (flat_map (removed_in (parsed inputs))) (take_next (all_sections (parsed inputs).objects) k l at)
      ∙ flat_map-append (removed_in (parsed inputs)) (take k (all_sections (parsed inputs).objects)) (l ∷ [])
      ∙ ap (λ rs. removed_upto (parsed inputs) k ++ rs) (flat_map-cons (removed_in (parsed inputs)) l [] ∙ append-nil own)

  pub counts-turn : AreCountsUpto (parsed inputs) (k + 1) (tails + length own) (bytes + saved_bytes own)
  counts-turn =
      let room = λ (l : IndexedSection). code_room l.section in
      let tails_before = so.tails_are in
      let bytes_before = so.bytes_are in
      let fewer = so.fewer in
      let few = so.few in
      record {
        tails_are = omega (arith, tails_before, ap length more, length-append (removed_upto (parsed inputs) k) own);
        bytes_are = omega (arith, bytes_before, ap saved_bytes more, sum_by-append bytes_saved_by (removed_upto (parsed inputs) k) own);
        fewer = omega (arith, fewer, each-saves 0 own (in-apart (parsed inputs) l));
        few = omega (
          arith,
          few,
          section-saves inputs none k l at,
          ap rooms (take_next (all_sections (parsed inputs).objects) k l at),
          sum_by-append room (take k (all_sections (parsed inputs).objects)) (l ∷ []),
          sum_by-cons room l [],
        );
      }

-- they have room
pub counts-low : (inputs : Inputs) → gather_fault inputs ≡ None → (k tails bytes : ℕ) → AreCountsUpto (parsed inputs) k tails bytes → (tails ≤ 0x4_0000) × (bytes ≤ 0x4_0000)
counts-low inputs none k tails bytes so =
    let all = all_sections (parsed inputs).objects in
    let taken = sum_by-append (λ (l : IndexedSection). code_room l.section) (take k all) (drop k all) in
    let both = ap rooms (take-append-drop k all) in
    let fewer = so.fewer in
    let few = so.few in
    (omega (arith, fewer, few, taken, both, rooms_few inputs none), omega (arith, few, taken, both, rooms_few inputs none))

-- what one table more makes of the counts
pub record IsCounted (inputs : ParsedInputs) (k tails bytes : ℕ) (table : List MovedTail) : Type 0 where
  pub section : IndexedSection
  pub are : AreMovedTails inputs section table
  pub next : AreCountsUpto inputs (k + 1) (tails + length table) (bytes + saved_bytes (removed_in inputs section))

pub one-counted : (inputs : Inputs) → gather_fault inputs ≡ None → (tables : List (Vec MovedTail Global)) → AreAllMoved (parsed inputs) (tables_of tables) → (k : ℕ) → k < length (all_sections (parsed inputs).objects) → (v : Vec MovedTail Global) → v ≡ get_or tables k v
    → (tails bytes : ℕ) → AreCountsUpto (parsed inputs) k tails bytes → IsCounted (parsed inputs) k tails bytes v.items
one-counted inputs none tables all k lt v is tails bytes so =
    let there = element-there (all_sections (parsed inputs).objects) k lt in
    let l = there.0 in
    let items = λ (v : Vec MovedTail Global). v.items in
    let count = all.count in
    let within : k < length tables = omega (arith, lt, count, length-map tables items) in
    let same = get_or-map items tables k v [] within ∙ ap items (sym is) in
    let are = subst (AreMovedTails (parsed inputs) l) same (all.moved k l there.1) in
    let counts = table-counts (parsed inputs) l v.items are in
    record {
      section = l;
      are = are;
      next = subst (λ n. AreCountsUpto (parsed inputs) (k + 1) (tails + n) (bytes + saved_bytes (removed_in (parsed inputs) l))) (sym counts.tails) (counts-turn inputs none k l there.1 tails bytes so);
    }
