-- The ends of pops: the instructions after the loads fit the end that is found, and it is the longest that they fit.
use Rattle.std.proofs.Common.{◌≡◌, ◌∙◌, ℕ, ◌+◌, ◌<◌, List, Option, Some, None, Bool, true, false, cond, refl, sym, ap, arith, inl, inr}
use Rattle.std.specs.Prelude.{◌⊎◌, ◌&&◌}
use Rattle.std.specs.List.{slice_get}
use Rattle.std.specs.Option.{is_some, option_map, option_or}
use Rattle.std.proofs.lemmas.Bool.{and_parts}
use Rattle.rv_decode.specs.declared.instr.Instr.{Instr}
use Rattle.frame_match.specs.declared.found.Ending.{Ending}
use Rattle.frame_match.specs.declared.found.Ending.TheVariants.{GoesOn, Returns, ZeroFirst, ZeroBeforeRaise, ZeroBeforeReturn}
use Rattle.frame_match.specs.declared.pops.Tail.{Tail}
use Rattle.frame_match.specs.declared.slot.Access.TheVariants.{Restores}
use Rattle.frame_match.specs.Matches.{before, ending_items, frame_at, frame_by, is_begun}
use Rattle.frame_match.specs.Read.{slot_accessed, is_return, is_zero, raised}
use Rattle.frame_match.specs.Invariants.Kinds.{tail_as, tail_at}
use Rattle.frame_match.proofs.ReadLaws.{raised_no_load, raised_no_zero, zero_no_load}

-- a0 is set before the loads
abbrev pub zeroes_first : Ending → Bool
zeroes_first GoesOn = false
zeroes_first Returns = false
zeroes_first ZeroFirst = true
zeroes_first ZeroBeforeRaise = false
zeroes_first ZeroBeforeReturn = false

pub before_is : (e : Ending) → before e ≡ cond (zeroes_first e) 1 0
before_is GoesOn = refl
before_is Returns = refl
before_is ZeroFirst = refl
before_is ZeroBeforeRaise = refl
before_is ZeroBeforeReturn = refl

pub begun_is : (e : Ending) (is : List Instr) → zeroes_first e ≡ is_zero (slice_get is 0) → is_begun e is ≡ true
begun_is GoesOn is h = refl
begun_is Returns is h = refl
begun_is ZeroFirst is h = sym h
begun_is ZeroBeforeRaise is h = refl
begun_is ZeroBeforeReturn is h = refl

-- ---- what follows from a frame that an ending releases

pub if_known : (b : Bool) (o : Option ℕ) (f : ℕ) → cond b o None ≡ Some f → (b ≡ true) × (o ≡ Some f)
if_known true o f h = (refl, h)
if_known false o f h = absurd cc

-- the first instruction is no load
pub frame_no_load : (e : Ending) (i j k : Option Instr) (f : ℕ) → frame_by e i j k ≡ Some f → is_some (slot_accessed Restores i) ≡ false
frame_no_load GoesOn i j k f h = raised_no_load i f h
frame_no_load Returns i j k f h = raised_no_load i f (if_known (is_return j) (raised i) f h).1
frame_no_load ZeroFirst i j k f h = raised_no_load i f (if_known (is_return j) (raised i) f h).1
frame_no_load ZeroBeforeRaise i j k f h =
    zero_no_load i (and_parts (is_zero i) (is_return k) (if_known (is_zero i && is_return k) (raised j) f h).0).0
frame_no_load ZeroBeforeReturn i j k f h = raised_no_load i f (if_known (is_zero j && is_return k) (raised i) f h).1

-- ---- the end that is found

pub record TailKnown (zeroed : Bool) (is : List Instr) (n : ℕ) (t : Tail) : Type 0 where
  pub first : zeroes_first t.ending ≡ zeroed
  pub raises : frame_at t.ending is n ≡ Some t.bytes

as_known : (e : Ending) (is : List Instr) (n : ℕ) (t : Tail) → tail_as e is n ≡ Some t → TailKnown (zeroes_first e) is n t
as_known e is n t h = by (frame_at e is n) refl h
  where
    by : (o : Option ℕ) → frame_at e is n ≡ o → option_map (λ b. record { ending = e; bytes = b }) o ≡ Some t → TailKnown (zeroes_first e) is n t
    by None at g = absurd cc
    by (Some b) at g =
        let same : record { ending = e; bytes = b } ≡ t = cc in
        let ending : e ≡ t.ending = ap (λ (u : Tail). u.ending) same in
        let bytes : b ≡ t.bytes = ap (λ (u : Tail). u.bytes) same in
        record { first = ap zeroes_first (sym ending); raises = ap (λ x. frame_at x is n) (sym ending) ∙ at ∙ ap Some bytes }

or_known : (a b : Option Tail) (t : Tail) → option_or a b ≡ Some t → (a ≡ Some t) ⊎ (b ≡ Some t)
or_known None b t h = inr h
or_known (Some a) b t h = inl h

pub tail_known : (zeroed : Bool) (is : List Instr) (n : ℕ) (t : Tail) → tail_at zeroed is n ≡ Some t → TailKnown zeroed is n t
tail_known true is n t h = as_known ZeroFirst is n t h
tail_known false is n t h = by (or_known (tail_as ZeroBeforeRaise is n) _ t h)
  where
    last : (tail_as Returns is n ≡ Some t) ⊎ (tail_as GoesOn is n ≡ Some t) → TailKnown false is n t
    last (inl g) = as_known Returns is n t g
    last (inr g) = as_known GoesOn is n t g

    next : (tail_as ZeroBeforeReturn is n ≡ Some t) ⊎ (option_or (tail_as Returns is n) (tail_as GoesOn is n) ≡ Some t) → TailKnown false is n t
    next (inl g) = as_known ZeroBeforeReturn is n t g
    next (inr g) = last (or_known (tail_as Returns is n) (tail_as GoesOn is n) t g)

    by : (tail_as ZeroBeforeRaise is n ≡ Some t) ⊎ (option_or (tail_as ZeroBeforeReturn is n) (option_or (tail_as Returns is n) (tail_as GoesOn is n)) ≡ Some t) → TailKnown false is n t
    by (inl g) = as_known ZeroBeforeRaise is n t g
    by (inr g) = next (or_known (tail_as ZeroBeforeReturn is n) _ t g)

-- ---- the end that is found is the longest

pub record BestTail (found : Option Tail) (e : Ending) (f : ℕ) : Type 0 where
  pub best : Ending
  pub is : found ≡ Some (record { ending = best; bytes = f })
  pub more : (e ≡ best) ⊎ (ending_items e < ending_items best)

as_is : (e : Ending) (is : List Instr) (n f : ℕ) → frame_at e is n ≡ Some f → tail_as e is n ≡ Some (record { ending = e; bytes = f })
as_is e is n f h = ap (option_map (λ b. record { ending = e; bytes = b })) h

none_is : (e : Ending) (is : List Instr) (n : ℕ) → frame_at e is n ≡ None → tail_as e is n ≡ None
none_is e is n h = ap (option_map (λ b. record { ending = e; bytes = b })) h

-- where the first instruction raises sp, a0 is not set before that
raise_first : (is : List Instr) (n f : ℕ) → raised (slice_get is n) ≡ Some f → tail_as ZeroBeforeRaise is n ≡ None
raise_first is n f h =
    none_is ZeroBeforeRaise is n
    (ap (λ b. cond (b && is_return (slice_get is (n + 2))) (raised (slice_get is (n + 1))) None) (raised_no_zero (slice_get is n) f h))

-- the longest end by what the second and the third instruction are
abbrev ending_by : Bool → Bool → Ending
ending_by true r = ZeroBeforeReturn
ending_by false true = Returns
ending_by false false = GoesOn

raise_best : (is : List Instr) (n f : ℕ) (z r : Bool) → raised (slice_get is n) ≡ Some f
    → (is_zero (slice_get is (n + 1)) && is_return (slice_get is (n + 2))) ≡ z → is_return (slice_get is (n + 1)) ≡ r
    → tail_at false is n ≡ Some (record { ending = ending_by z r; bytes = f })
raise_best is n f z r h zero back =
    ap (λ o. option_or o (option_or (tail_as ZeroBeforeReturn is n) (option_or (tail_as Returns is n) (tail_as GoesOn is n)))) (raise_first is n f h) ∙ by z r zero back
  where
    by : (z r : Bool) → (is_zero (slice_get is (n + 1)) && is_return (slice_get is (n + 2))) ≡ z → is_return (slice_get is (n + 1)) ≡ r
        → option_or (tail_as ZeroBeforeReturn is n) (option_or (tail_as Returns is n) (tail_as GoesOn is n)) ≡ Some (record { ending = ending_by z r; bytes = f })
    by true r zero back =
        ap (λ o. option_or o (option_or (tail_as Returns is n) (tail_as GoesOn is n)))
        (as_is ZeroBeforeReturn is n f (ap (λ b. cond b (raised (slice_get is n)) None) zero ∙ h))
    by false true zero back =
        ap (λ o. option_or o (option_or (tail_as Returns is n) (tail_as GoesOn is n)))
        (none_is ZeroBeforeReturn is n (ap (λ b. cond b (raised (slice_get is n)) None) zero))
        ∙ ap (λ o. option_or o (tail_as GoesOn is n)) (as_is Returns is n f (ap (λ b. cond b (raised (slice_get is n)) None) back ∙ h))
    by false false zero back =
        ap (λ o. option_or o (option_or (tail_as Returns is n) (tail_as GoesOn is n)))
        (none_is ZeroBeforeReturn is n (ap (λ b. cond b (raised (slice_get is n)) None) zero))
        ∙ ap (λ o. option_or o (tail_as GoesOn is n)) (none_is Returns is n (ap (λ b. cond b (raised (slice_get is n)) None) back))
        ∙ as_is GoesOn is n f h

pub tail_best : (zeroed : Bool) (is : List Instr) (n : ℕ) (e : Ending) (f : ℕ) → zeroes_first e ≡ zeroed → frame_at e is n ≡ Some f
    → BestTail (tail_at zeroed is n) e f
tail_best true is n ZeroFirst f first h = record { best = ZeroFirst; is = as_is ZeroFirst is n f h; more = inl refl }
tail_best true is n GoesOn f first h = absurd cc
tail_best true is n Returns f first h = absurd cc
tail_best true is n ZeroBeforeRaise f first h = absurd cc
tail_best true is n ZeroBeforeReturn f first h = absurd cc
tail_best false is n ZeroFirst f first h = absurd cc
tail_best false is n ZeroBeforeRaise f first h =
    record {
      best = ZeroBeforeRaise;
      is = ap (λ o. option_or o (option_or (tail_as ZeroBeforeReturn is n) (option_or (tail_as Returns is n) (tail_as GoesOn is n)))) (as_is ZeroBeforeRaise is n f h);
      more = inl refl;
    }
tail_best false is n ZeroBeforeReturn f first h =
    let k = if_known _ (raised (slice_get is n)) f h in
    record { best = ZeroBeforeReturn; is = raise_best is n f true _ k.1 k.0 refl; more = inl refl }
tail_best false is n Returns f first h = by _ refl
  where
    known : (is_return (slice_get is (n + 1)) ≡ true) × (raised (slice_get is n) ≡ Some f)
    known = if_known (is_return (slice_get is (n + 1))) (raised (slice_get is n)) f h

    by : (z : Bool) → (is_zero (slice_get is (n + 1)) && is_return (slice_get is (n + 2))) ≡ z → BestTail (tail_at false is n) Returns f
    by true e = record { best = ZeroBeforeReturn; is = raise_best is n f true true known.1 e known.0; more = inr (omega arith) }
    by false e = record { best = Returns; is = raise_best is n f false true known.1 e known.0; more = inl refl }
tail_best false is n GoesOn f first h = by _ _ refl refl
  where
    by : (z r : Bool) → (is_zero (slice_get is (n + 1)) && is_return (slice_get is (n + 2))) ≡ z → is_return (slice_get is (n + 1)) ≡ r → BestTail (tail_at false is n) GoesOn f
    by true r e b = record { best = ZeroBeforeReturn; is = raise_best is n f true r h e b; more = inr (omega arith) }
    by false true e b = record { best = Returns; is = raise_best is n f false true h e b; more = inr (omega arith) }
    by false false e b = record { best = GoesOn; is = raise_best is n f false false h e b; more = inl refl }
