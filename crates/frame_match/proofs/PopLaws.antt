-- A pop as the code finds it: by the number of its loads, and by the instructions after them.
use Rattle.std.proofs.Common.{◌≡◌, ◌∙◌, ℕ, ◌+◌, ◌<◌, List, Option, Some, Bool, true, false, cond, refl, sym, ap, arith, subst, inl, inr}
use Rattle.std.specs.Prelude.{◌⊎◌}
use Rattle.std.specs.List.{slice_get}
use Rattle.std.specs.Option.{is_some}
use Rattle.std.proofs.lemmas.Bool.{both_ways, false_from_ne_true}
use Rattle.rv_decode.specs.declared.instr.Instr.{Instr}
use Rattle.frame_match.specs.declared.found.Ending.{Ending}
use Rattle.frame_match.specs.declared.found.Ending.TheVariants.{GoesOn, Returns, ZeroFirst, ZeroBeforeRaise, ZeroBeforeReturn}
use Rattle.frame_match.specs.declared.found.Found.{Found}
use Rattle.frame_match.specs.declared.pops.Tail.{Tail}
use Rattle.frame_match.specs.declared.slot.Access.TheVariants.{Restores}
use Rattle.frame_match.specs.Matches.{before, ending_items, frame_at, is_begun, pop_of}
use Rattle.frame_match.specs.Read.{slot_accessed, is_zero}
use Rattle.frame_match.specs.Invariants.Frames.{list_leaving_out, IsKnown}
use Rattle.frame_match.specs.Invariants.Kinds.{tail_at, Beats, IsFramed, IsPop}
use Rattle.frame_match.proofs.ReadLaws.{zero_no_load}
use Rattle.frame_match.proofs.TailLaws.{before_is, begun_is, frame_no_load, tail_best, tail_known, zeroes_first, BestTail}

-- a load at an index
abbrev pub is_load : List Instr → ℕ → Bool
is_load run n = is_some (slot_accessed Restores (slice_get run n))

-- what the code knows of `count` loads from an index on
pub record Loads (run : List Instr) (from count : ℕ) : Type 0 where
  pub loads : (m : ℕ) → m < count → is_load run (from + m) ≡ true
  pub stops : count < 14 → is_load run (from + count) ≡ false

abbrev pub start : Bool → ℕ
start zeroed = cond zeroed 1 0

pub record PopFound (run : List Instr) (g : Found) (count : ℕ) : Type 0 where
  pub ending : Ending
  pub left_out : ℕ
  pub known : IsKnown left_out
  pub size : count + left_out ≡ 13
  pub bytes : ℕ
  pub first : zeroes_first ending ≡ is_zero (slice_get run 0)
  pub raises : frame_at ending run (start (is_zero (slice_get run 0)) + count) ≡ Some bytes
  pub framed : IsFramed Restores bytes left_out run (start (is_zero (slice_get run 0)))
  pub found_is : g ≡ pop_of ending (list_leaving_out left_out) bytes

-- the loads of a pop
own_loads : (run : List Instr) (g : Found) (p : IsPop run g) (m : ℕ) → m < p.count → is_load run (before p.ending + m) ≡ true
own_loads run g p m h = let w = p.framed.there.each m (omega (arith, p.size, h)) in ap is_some w.1.1

-- the first instruction decides whether the pop sets a0 before its loads
first_is : (run : List Instr) (g : Found) (p : IsPop run g) → zeroes_first p.ending ≡ is_zero (slice_get run 0)
first_is run g p = by p.ending (own_loads run g p 0 (omega (arith, p.size, p.known.small))) p.begun
  where
    plain : is_load run (0 + 0) ≡ true → false ≡ is_zero (slice_get run 0)
    plain load = sym (false_from_ne_true (is_zero (slice_get run 0)) (λ z. both_ways _ (zero_no_load (slice_get run 0) z) load))

    by : (e : Ending) → is_load run (before e + 0) ≡ true → is_begun e run ≡ true → zeroes_first e ≡ is_zero (slice_get run 0)
    by GoesOn load begun = plain load
    by Returns load begun = plain load
    by ZeroFirst load begun = sym begun
    by ZeroBeforeRaise load begun = plain load
    by ZeroBeforeReturn load begun = plain load

-- a run of loads has one length
count_is : (run : List Instr) (from n count : ℕ) → n < 14 → ((m : ℕ) → m < n → is_load run (from + m) ≡ true) → is_load run (from + n) ≡ false
    → Loads run from count → n ≡ count
count_is run from n count small all none l = grind (arith, less, more)
  where
    less : count < n → ⊥
    less h = both_ways _ (l.stops (omega arith)) (all count h)

    more : n < count → ⊥
    more h = both_ways _ none (l.loads n h)

pub pop_found : (run : List Instr) (g : Found) (count : ℕ) → IsPop run g → Loads run (start (is_zero (slice_get run 0))) count → PopFound run g count
pop_found run g count p l =
    let first = first_is run g p in
    let from : before p.ending ≡ start (is_zero (slice_get run 0)) = before_is p.ending ∙ ap start first in
    let none = frame_no_load p.ending (slice_get run (before p.ending + p.count)) _ _ p.bytes p.raises in
    let same : p.count ≡ count =
    count_is run (before p.ending) p.count count (omega (arith, p.size)) (own_loads run g p) none (subst (λ n. Loads run n count) (sym from) l) in
    record {
      ending = p.ending;
      left_out = p.left_out;
      known = p.known;
      size = omega (arith, p.size, same);
      bytes = p.bytes;
      first = first;
      raises = subst (λ n. frame_at p.ending run (n + count) ≡ Some p.bytes) from (subst (λ n. frame_at p.ending run (before p.ending + n) ≡ Some p.bytes) same p.raises);
      framed = subst (λ n. IsFramed Restores p.bytes p.left_out run n) from p.framed;
      found_is = p.found_is;
    }

-- the end that is found for a pop
pub found_best : (run : List Instr) (g : Found) (count : ℕ) (x : PopFound run g count)
    → BestTail (tail_at (is_zero (slice_get run 0)) run (start (is_zero (slice_get run 0)) + count)) x.ending x.bytes
found_best run g count x = tail_best (is_zero (slice_get run 0)) run _ x.ending x.bytes x.first x.raises

-- what is found is a pop that the instructions begin with
pub pop_made : (run : List Instr) (count left_out : ℕ) (t : Tail) → IsKnown left_out → count + left_out ≡ 13
    → Some t ≡ tail_at (is_zero (slice_get run 0)) run (start (is_zero (slice_get run 0)) + count)
    → IsFramed Restores t.bytes left_out run (start (is_zero (slice_get run 0))) → IsPop run (pop_of t.ending (list_leaving_out left_out) t.bytes)
pop_made run count left_out t known size is framed =
    let k = tail_known (is_zero (slice_get run 0)) run _ t (sym is) in
    let from : before t.ending ≡ start (is_zero (slice_get run 0)) = before_is t.ending ∙ ap start k.first in
    record {
      ending = t.ending;
      left_out = left_out;
      known = known;
      count = count;
      size = size;
      bytes = t.bytes;
      begun = begun_is t.ending run k.first;
      raises = subst (λ n. frame_at t.ending run (n + count) ≡ Some t.bytes) (sym from) k.raises;
      framed = subst (λ n. IsFramed Restores t.bytes left_out run n) (sym from) framed;
      found_is = refl;
    }

-- each pop that the instructions begin with has fewer items than what is found, or is what is found
pub pop_beats : (run : List Instr) (g : Found) (count left_out : ℕ) (t : Tail) (h : Found) → PopFound run g count → count + left_out ≡ 13
    → Some t ≡ tail_at (is_zero (slice_get run 0)) run (start (is_zero (slice_get run 0)) + count)
    → h ≡ pop_of t.ending (list_leaving_out left_out) t.bytes → Beats (Some h) g
pop_beats run g count left_out t h x size is h_is = record { best = h; is = refl; more = by b.more }
  where
    b : BestTail (tail_at (is_zero (slice_get run 0)) run (start (is_zero (slice_get run 0)) + count)) x.ending x.bytes
    b = found_best run g count x

    out : left_out ≡ x.left_out
    out = let s = x.size in omega (arith, size, s)

    same : t ≡ record { ending = b.best; bytes = x.bytes }
    same = let e : Some t ≡ Some (record { ending = b.best; bytes = x.bytes }) = is ∙ b.is in cc

    made : h ≡ pop_of b.best (list_leaving_out x.left_out) x.bytes
    made = h_is ∙ ap (λ (u : Tail). pop_of u.ending (list_leaving_out left_out) u.bytes) same ∙ ap (λ n. pop_of b.best (list_leaving_out n) x.bytes) out

    heads : before x.ending ≡ before b.best
    heads =
        let f : zeroes_first b.best ≡ is_zero (slice_get run 0) =
        ap zeroes_first (sym (ap (λ (u : Tail). u.ending) same)) ∙ (tail_known (is_zero (slice_get run 0)) run _ t (sym is)).first in
        before_is x.ending ∙ ap start (x.first ∙ sym f) ∙ sym (before_is b.best)

    by : (x.ending ≡ b.best) ⊎ (ending_items x.ending < ending_items b.best) → (g ≡ h) ⊎ (g.items < h.items)
    by (inl e) = inl (x.found_is ∙ ap (λ e. pop_of e (list_leaving_out x.left_out) x.bytes) e ∙ sym made)
    by (inr less) =
        let a = ap (λ (u : Found). u.items) made in
        let c = ap (λ (u : Found). u.items) x.found_is in
        inr (omega (arith, less, a, c, heads))

-- ---- in the code's words

-- whether a0 is set first, where the loads begin, and their number
pub record Told (run : List Instr) (zeroed : Bool) (from count : ℕ) : Type 0 where
  pub zeroed_is : zeroed ≡ is_zero (slice_get run 0)
  pub from_is : from ≡ start (is_zero (slice_get run 0))
  pub loads : Loads run from count

pub told : (run : List Instr) (i : Option Instr) (zeroed : Bool) (from count : ℕ) → i ≡ slice_get run 0 → zeroed ≡ is_zero i → from ≡ start zeroed
    → ((m : ℕ) → m < count → is_load run (from + m) ≡ true) → (count < 14 → is_load run (from + count) ≡ false) → Told run zeroed from count
told run i zeroed from count i_is zeroed_is from_is loads stops =
    let z = zeroed_is ∙ ap is_zero i_is in
    record { zeroed_is = z; from_is = from_is ∙ ap start z; loads = record { loads = loads; stops = stops } }

pub told_found : (run : List Instr) (g : Found) (zeroed : Bool) (from count : ℕ) → Told run zeroed from count → IsPop run g → PopFound run g count
told_found run g zeroed from count t p = pop_found run g count p (subst (λ n. Loads run n count) t.from_is t.loads)

pub told_tail : (run : List Instr) (zeroed : Bool) (from count n : ℕ) → Told run zeroed from count → n ≡ count
    → tail_at zeroed run (from + n) ≡ tail_at (is_zero (slice_get run 0)) run (start (is_zero (slice_get run 0)) + count)
told_tail run zeroed from count n t e =
    ap (λ z. tail_at z run (from + n)) t.zeroed_is
    ∙ ap (λ m. tail_at (is_zero (slice_get run 0)) run (m + n)) t.from_is
    ∙ ap (λ m. tail_at (is_zero (slice_get run 0)) run (start (is_zero (slice_get run 0)) + m)) e
