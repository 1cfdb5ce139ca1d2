-- Where an offset goes, looked up in the table of a section's tails.
use Rattle.std.proofs.Common.{◌≡◌, ℕ, zero, suc, ◌+◌, ◌-◌, ◌≤◌, ◌<◌, List, [], ◌∷◌, length, map, get_or, Bool, true, false, cond, refl, sym, ap, ◌∙◌, subst, arith, ltb, leb, inl, inr, Option, Some, None}
use Rattle.std.specs.Prelude.{MatchOption}
use Rattle.std.specs.List.{find}
use Rattle.std.specs.List.Sorted.{IsNonDecreasingBy, IsPartitionPoint}
use Rattle.std.specs.Option.{option_and_then, option_map, option_map_or, unwrap_or}
use Rattle.std.proofs.lemmas.Bool.{cases_lt, eq-eqb, le-leb, le-ltb, lt-leb, lt-ltb, ne_eqb}
use Rattle.elf32_read.specs.Parts.{SectionParts, is_code_section}
use Rattle.psabi_sym.specs.Indexed.{IndexedSection, section_at}
use Rattle.psabi_sym.specs.Inputs.{ParsedInputs}
use Rattle.tail_merge.specs.Merged.{indexed, removed_at, removed_in}
use Rattle.tail_merge.specs.MovedTails.{AreMovedAt, AreMovedTails, last_before, down_from_tail, moved_tail, moved_tails, tail_over}
use Rattle.tail_merge.specs.RemovedTails.{tail_among}
use Rattle.tail_merge.specs.Tails.{CodeItem, Removed, bytes_of_all, code_items, covers, moved_down, removed_tails, bytes_saved_by, tail_end, tail_start}
use Rattle.tail_merge.specs.declared.moved_tail.MovedTail.{MovedTail}
use Rattle.tail_merge.specs.declared.removed_tail.RemovedTail.{RemovedTail}
use Rattle.tail_merge.proofs.ItemsLaws.{removed-apart}
use Rattle.tail_merge.proofs.OffsetLaws.{ApartFrom}
use Rattle.tail_merge.proofs.PlacedLaws.{covers-before, covers-behind, covers-in, down-at, down-in, down-past}

-- ---- the search

abbrev pub IsPoint : List MovedTail → ℕ → ℕ → Type 0
IsPoint tails n k = IsPartitionPoint (λ (t : MovedTail). leb t.start n ≡ true) (λ (t : MovedTail). leb t.start n ≡ false) tails k

pub point-none : (tails : List MovedTail) (n : ℕ) → IsPoint tails n 0 → last_before tails n ≡ None
point-none [] n point = refl
point-none (t ∷ ts) n point = ap (λ b. cond b (Some (unwrap_or (last_before ts n) t)) None) (point.1 0 t (omega arith) (omega arith))

pub point-some : (tails : List MovedTail) (n k : ℕ) (d : MovedTail) → k < length tails → IsPoint tails n (suc k) → last_before tails n ≡ Some (get_or tails k d)
point-some [] n k d lt point = absurd (omega (arith, lt))
point-some (t ∷ ts) n zero d lt point =
    let rest = point-none ts n ((λ k d low high. absurd (omega (arith, high))), (λ k d low high. point.1 (suc k) d (omega (arith, low)) (omega (arith, high)))) in
    ap (λ b. cond b (Some (unwrap_or (last_before ts n) t)) None) (point.0 0 t (omega arith) (omega arith))
    ∙ ap (λ o. Some (unwrap_or o t)) rest
point-some (t ∷ ts) n (suc k) d lt point =
    let rest = point-some ts n k d (omega (arith, lt)) ((λ j d low high. point.0 (suc j) d (omega (arith, low)) (omega (arith, high))), (λ j d low high. point.1 (suc j) d (omega (arith, low)) (omega (arith, high)))) in
    ap (λ b. cond b (Some (unwrap_or (last_before ts n) t)) None) (point.0 0 t (omega arith) (omega arith))
    ∙ ap (λ o. Some (unwrap_or o t)) rest

-- ---- one tail

-- what is before the start of a tail isn't in its part of the table
passes : (t : MovedTail) (ts : List MovedTail) (n : ℕ) → n < t.start → last_before (t ∷ ts) n ≡ None
passes t ts n lt = ap (λ b. cond b (Some (unwrap_or (last_before ts n) t)) None) (lt-leb t.start n lt)

holds : (t : MovedTail) (ts : List MovedTail) (n : ℕ) → t.start ≤ n → last_before (t ∷ ts) n ≡ Some (unwrap_or (last_before ts n) t)
holds t ts n le = ap (λ b. cond b (Some (unwrap_or (last_before ts n) t)) None) (le-leb t.start n le)

by-start : (t : MovedTail) (n : ℕ) → n ≡ t.start → down_from_tail t n ≡ t.jump
by-start t n is = ap (λ b. cond b t.jump (cond (ltb n t.stop) t.after (n - t.saved))) (eq-eqb n t.start is)

by-inside : (t : MovedTail) (n : ℕ) → t.start < n → n < t.stop → down_from_tail t n ≡ t.after
by-inside t n low high =
    ap (λ b. cond b t.jump (cond (ltb n t.stop) t.after (n - t.saved))) (ne_eqb n t.start (λ e. omega (arith, e, low)))
    ∙ ap (λ b. cond b t.after (n - t.saved)) (lt-ltb n t.stop high)

by-behind : (t : MovedTail) (n : ℕ) → t.start < n → t.stop ≤ n → down_from_tail t n ≡ n - t.saved
by-behind t n low past =
    ap (λ b. cond b t.jump (cond (ltb n t.stop) t.after (n - t.saved))) (ne_eqb n t.start (λ e. omega (arith, e, low)))
    ∙ ap (λ b. cond b t.after (n - t.saved)) (le-ltb n t.stop past)

-- ---- all tails

module _ (items : List CodeItem) where
  abbrev tails_in : List RemovedTail → List Removed
  tails_in list = map (tail_among items) list

  pub before-none : (s m : ℕ) (list : List RemovedTail) (n : ℕ) → ApartFrom m (tails_in list) → n < m → last_before (moved_tails items s list) n ≡ None
  before-none s m [] n a lt = refl
  before-none s m (t ∷ ts) n a lt =
      let low = a.0 in
      passes (moved_tail items s t) (moved_tails items (s + bytes_saved_by (tail_among items t)) ts) n (omega (arith, low, lt))

  -- the table's offset, less what is saved before the table
  pub table-down : (m s : ℕ) (list : List RemovedTail) (n : ℕ) → ApartFrom m (tails_in list) → s ≤ m
      → option_map_or (λ t. down_from_tail t n) (last_before (moved_tails items s list) n) (n - s) ≡ moved_down (tails_in list) n - s
  table-down m s [] n a le = refl
  table-down m s (t ∷ ts) n a le = at (table-down (tail_end r) (s + bytes_saved_by r) ts n a.2 (omega (arith, low, long, le)))
    where
      r : Removed
      r = tail_among items t

      own : MovedTail
      own = moved_tail items s t

      rest : List MovedTail
      rest = moved_tails items (s + bytes_saved_by (tail_among items t)) ts

      low : m ≤ tail_start (tail_among items t)
      low = a.0

      long : 4 < bytes_of_all (tail_among items t).tail
      long = a.1

      past : (o : Option MovedTail) → tail_end (tail_among items t) ≤ n
          → option_map_or (λ t. down_from_tail t n) o (n - (s + bytes_saved_by (tail_among items t))) ≡ moved_down (map (tail_among items) ts) n - (s + bytes_saved_by (tail_among items t))
          → down_from_tail (unwrap_or o (moved_tail items s t)) n ≡ moved_down (map (tail_among items) (t ∷ ts)) n - s
      past None behind is =
          let here = by-behind (moved_tail items s t) n (omega (arith, behind, long)) behind in
          let down = down-past (tail_among items t) (map (tail_among items) ts) n (omega (arith, behind, long)) behind in
          omega (arith, here, down, is)
      past (Some u) behind is =
          let down = down-past (tail_among items t) (map (tail_among items) ts) n (omega (arith, behind, long)) behind in
          omega (arith, down, is)

      in_table : tail_start (tail_among items t) ≤ n → n < tail_end (tail_among items t)
          → down_from_tail (moved_tail items s t) n ≡ moved_down (map (tail_among items) (t ∷ ts)) n - s
      in_table begun high =
          elim (cases_lt (tail_start (tail_among items t)) n) [
            | inl later ↦
                let here = by-inside (moved_tail items s t) n later high in
                let down = down-in (tail_among items t) (map (tail_among items) ts) n later high in
                omega (arith, here, down, low, le)
            | inr first ↦
                let is : n ≡ tail_start (tail_among items t) = omega (arith, first, begun) in
                let here = by-start (moved_tail items s t) n is in
                let down = down-at (tail_among items t) (map (tail_among items) ts) n first in
                omega (arith, here, down, is)
          ]

      at : option_map_or (λ t. down_from_tail t n) (last_before (moved_tails items (s + bytes_saved_by (tail_among items t)) ts) n) (n - (s + bytes_saved_by (tail_among items t))) ≡ moved_down (map (tail_among items) ts) n - (s + bytes_saved_by (tail_among items t))
          → option_map_or (λ t. down_from_tail t n) (last_before (moved_tail items s t ∷ moved_tails items (s + bytes_saved_by (tail_among items t)) ts) n) (n - s) ≡ moved_down (map (tail_among items) (t ∷ ts)) n - s
      at is =
          elim (cases_lt n (tail_start (tail_among items t))) [
            | inl under ↦
                ap (λ o. option_map_or (λ t. down_from_tail t n) o (n - s)) (passes own rest n under)
                ∙ sym (ap (λ d. d - s) (down-at (tail_among items t) (map (tail_among items) ts) n (omega (arith, under))))
            | inr begun ↦ ap (λ o. option_map_or (λ t. down_from_tail t n) o (n - s)) (holds own rest n begun) ∙ elim (cases_lt n (tail_end (tail_among items t))) [
              | inl high ↦
                  ap (λ o. down_from_tail (unwrap_or o own) n) (before-none (s + bytes_saved_by (tail_among items t)) (tail_end (tail_among items t)) ts n a.2 high)
                  ∙ in_table begun high
              | inr behind ↦ past (last_before rest n) behind is
            ]
          ]

  find-none : (m : ℕ) (rs : List Removed) (n : ℕ) → ApartFrom m rs → n < m → find (covers n) rs ≡ None
  find-none m [] n a lt = refl
  find-none m (r ∷ rs) n a lt =
      let low = a.0 in
      let long = a.1 in
      ap (λ b. cond b (Some r) (find (covers n) rs)) (covers-before n r (omega (arith, low, lt)))
      ∙ find-none (tail_end r) rs n a.2 (omega (arith, low, long, lt))

  -- the tail that covers an offset
  pub table-over : (m s : ℕ) (list : List RemovedTail) (n : ℕ) → ApartFrom m (tails_in list)
      → find (covers n) (tails_in list) ≡ option_map (λ (t : MovedTail). tail_among items t.tail) (tail_over (moved_tails items s list) n)
  table-over m s [] n a = refl
  table-over m s (t ∷ ts) n a = at (table-over (tail_end (tail_among items t)) (s + bytes_saved_by (tail_among items t)) ts n a.2)
    where
      own : MovedTail
      own = moved_tail items s t

      rest : List MovedTail
      rest = moved_tails items (s + bytes_saved_by (tail_among items t)) ts

      among : MovedTail → Removed
      among u = tail_among items u.tail

      inside : MovedTail → Option MovedTail
      inside u = cond (ltb n u.stop) (Some u) None

      past : (o : Option MovedTail) (f : Option Removed) → tail_end (tail_among items t) ≤ n → f ≡ option_map (λ (u : MovedTail). tail_among items u.tail) (option_and_then (λ (u : MovedTail). cond (ltb n u.stop) (Some u) None) o)
          → f ≡ option_map (λ (u : MovedTail). tail_among items u.tail) (option_and_then (λ (u : MovedTail). cond (ltb n u.stop) (Some u) None) (Some (unwrap_or o (moved_tail items s t))))
      past None f behind is = is ∙ sym (ap (λ b. option_map (λ (u : MovedTail). tail_among items u.tail) (cond b (Some (moved_tail items s t)) None)) (le-ltb n (tail_end (tail_among items t)) behind))
      past (Some u) f behind is = is

      at : find (covers n) (map (tail_among items) ts) ≡ option_map (λ (u : MovedTail). tail_among items u.tail) (tail_over (moved_tails items (s + bytes_saved_by (tail_among items t)) ts) n)
          → find (covers n) (map (tail_among items) (t ∷ ts)) ≡ option_map (λ (u : MovedTail). tail_among items u.tail) (tail_over (moved_tails items s (t ∷ ts)) n)
      at is =
          elim (cases_lt n (tail_start (tail_among items t))) [
            | inl under ↦
                find-none (tail_start (tail_among items t)) (map (tail_among items) (t ∷ ts)) n (omega arith, a.1, a.2) under
                ∙ sym (ap (λ o. option_map among (option_and_then inside o)) (passes own rest n under))
            | inr begun ↦ elim (cases_lt n (tail_end (tail_among items t))) [
              | inl high ↦
                  ap (λ b. cond b (Some (tail_among items t)) (find (covers n) (map (tail_among items) ts))) (covers-in n (tail_among items t) begun high)
                  ∙ sym (
                  ap (λ o. option_map among (option_and_then inside o)) (holds own rest n begun)
                  ∙ ap (λ o. option_map among (inside (unwrap_or o own))) (before-none (s + bytes_saved_by (tail_among items t)) (tail_end (tail_among items t)) ts n a.2 high)
                  ∙ ap (λ b. option_map among (cond b (Some own) None)) (lt-ltb n (tail_end (tail_among items t)) high)
                  )
              | inr behind ↦
                  ap (λ b. cond b (Some (tail_among items t)) (find (covers n) (map (tail_among items) ts))) (covers-behind n (tail_among items t) behind)
                  ∙ past (last_before rest n) (find (covers n) (map (tail_among items) ts)) behind is
                  ∙ sym (ap (λ o. option_map among (option_and_then inside o)) (holds own rest n begun))
            ]
          ]

  -- the table is in order
  starts-above : (s m : ℕ) (list : List RemovedTail) → ApartFrom m (tails_in list) → (k : ℕ) (d : MovedTail) → k < length (moved_tails items s list) → m ≤ (get_or (moved_tails items s list) k d).start
  starts-above s m [] a k d lt = absurd (omega (arith, lt))
  starts-above s m (t ∷ ts) a zero d lt = a.0
  starts-above s m (t ∷ ts) a (suc k) d lt =
      let rest = starts-above (s + bytes_saved_by (tail_among items t)) (tail_end (tail_among items t)) ts a.2 k d (omega (arith, lt)) in
      let low = a.0 in
      omega (arith, rest, low)

  pub table-rises : (s m : ℕ) (list : List RemovedTail) → ApartFrom m (tails_in list) → IsNonDecreasingBy (λ (t : MovedTail). t.start) (moved_tails items s list)
  table-rises s m [] a = λ i j d le lt. absurd (omega (arith, lt))
  table-rises s m (t ∷ ts) a = by (table-rises (s + bytes_saved_by (tail_among items t)) (tail_end (tail_among items t)) ts a.2)
    where
      rest : List MovedTail
      rest = moved_tails items (s + bytes_saved_by (tail_among items t)) ts

      by : IsNonDecreasingBy (λ (t : MovedTail). t.start) (moved_tails items (s + bytes_saved_by (tail_among items t)) ts) → (i j : ℕ) (d : MovedTail) → i ≤ j → j < length (moved_tails items s (t ∷ ts))
          → (get_or (moved_tails items s (t ∷ ts)) i d).start ≤ (get_or (moved_tails items s (t ∷ ts)) j d).start
      by rises zero zero d le lt = omega arith
      by rises zero (suc j) d le lt =
          let above = starts-above (s + bytes_saved_by (tail_among items t)) (tail_end (tail_among items t)) ts a.2 j d (omega (arith, lt)) in
          omega (arith, above)
      by rises (suc i) zero d le lt = absurd (omega (arith, le))
      by rises (suc i) (suc j) d le lt = rises i j d (omega (arith, le)) (omega (arith, lt))

-- an offset goes at most behind a jump
pub down-most : (rs : List Removed) (n : ℕ) → moved_down rs n ≤ n + 4
down-most [] n = omega arith
down-most (r ∷ rs) n =
    let rest = down-most rs n in
    elim (cases_lt (tail_start r) n) [
      | inl later ↦ elim (cases_lt n (tail_end r)) [
        | inl high ↦ (let down = down-in r rs n later high in omega (arith, down, later))
        | inr behind ↦ (let down = down-past r rs n later behind in omega (arith, down, rest))
      ]
      | inr first ↦ (let down = down-at r rs n first in omega (arith, down))
    ]

-- ---- the table of a section

-- the tails that are removed from any section lie one after another
pub in-apart : (inputs : ParsedInputs) (l : IndexedSection) → ApartFrom 0 (removed_in inputs l)
in-apart inputs l = by (is_code_section l.section)
  where
    by : (b : Bool) → ApartFrom 0 (cond b (removed_tails inputs l) [])
    by true = removed-apart inputs l
    by false = tt

pub record IsTable (removed : List Removed) (tails : List MovedTail) : Type 0 where
  pub rises : IsNonDecreasingBy (λ (t : MovedTail). t.start) tails
  pub down : (n : ℕ) → option_map_or (λ t. down_from_tail t n) (last_before tails n) n ≡ moved_down removed n

less-none : (n : ℕ) → n - 0 ≡ n
less-none n = omega arith

pub section-table : (inputs : ParsedInputs) (l : IndexedSection) (tails : List MovedTail) → AreMovedTails inputs l tails → IsTable (removed_in inputs l) tails
section-table inputs l tails are =
    let items = code_items inputs l in
    let apart = subst (ApartFrom 0) (sym are.removed.are) (in-apart inputs l) in
    subst (IsTable (removed_in inputs l)) (sym are.are) (record {
      rises = table-rises items 0 0 are.list apart;
      down = λ n. ap (option_map_or (λ t. down_from_tail t n) (last_before (moved_tails items 0 are.list) n)) (sym (less-none n))
          ∙ table-down items 0 0 are.list n apart (omega arith)
          ∙ less-none (moved_down (map (tail_among items) are.list) n)
          ∙ ap (λ rs. moved_down rs n) are.removed.are;
    })

pub table-at : (inputs : ParsedInputs) (o i : ℕ) (tails : List MovedTail) → AreMovedAt inputs o i tails → IsTable (removed_at inputs o i) tails
table-at inputs o i tails at = by (section_at inputs.objects o i) at
  where
    by : (s : Option SectionParts) → MatchOption s (tails ≡ []) (λ s. AreMovedTails inputs (indexed o i s) tails) → IsTable (option_map_or (λ s. removed_in inputs (indexed o i s)) s []) tails
    by None none = subst (IsTable []) (sym none) (record { rises = λ i j d le lt. absurd (omega (arith, lt)); down = λ n. refl })
    by (Some s) are = section-table inputs (indexed o i s) tails are
