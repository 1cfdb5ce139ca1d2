-- Each kind of group has a halfword (`half_there`), and the rest of its frame is an immediate (`rest_low`).
use Rattle.std.proofs.Common.{◌≡◌, ◌∙◌, ℕ, ◌-◌, ◌<◌, ◌%◌, ◌^◌, inl, inr, List, Bool, Some, None, true, false, cond, eqb, leb, ltb, refl, sym, ap, arith, eq-eqb}
use Rattle.std.specs.Prelude.{◌&&◌}
use Rattle.std.proofs.lemmas.Bool.{and_from, eqb-true, false_from_ne_true, le-leb, le-ltb, lt-ltb}
use Rattle.std.specs.Option.{is_some}
use Rattle.zc_decode.specs.Lists.{stack_adjust_base}
use Rattle.zc_decode.specs.Operands.{IsMoved}
use Rattle.zc_encode.specs.Halves.{move_half, s_code}
use Rattle.zc_link.specs.Invariants.Groups.{GoesOn, GroupKind, IsFrame, IsGroup, MovesFromSaved, MovesToSaved, PopOf, PushOf, Returns, Slot, ZeroBeforeRaise, ZeroBeforeReturn, ZeroFirst, frame_adjust, group_half, group_rest}
use Rattle.zc_link.specs.Standing.{HasHalf}

-- a list's base is a multiple of 16
base_sixteens : (list : ℕ) → stack_adjust_base list % 16 ≡ 0
base_sixteens list = by (eqb list 15) (ltb list 8) (ltb list 12)
  where
    by : (a b c : Bool) → cond a 64 (cond b 16 (cond c 32 48)) % 16 ≡ 0
    by true b c = refl
    by false true c = refl
    by false false true = refl
    by false false false = refl

-- what one halfword moves sp by is what a list may have
module _ (list frame : ℕ) (order : List Slot) (is : IsFrame list frame order) where
  abbrev adjust : ℕ
  adjust = frame_adjust list frame

  abbrev more : ℕ
  more = adjust - stack_adjust_base list

  fits : (leb 4 list && (ltb list 16 && (leb (stack_adjust_base list) adjust && (eqb (more % 16) 0 && ltb more 64)))) ≡ true
  fits =
      let base = base_sixteens list in
      let whole = is.whole in
      let least = is.least in
      and_from (leb 4 list) _ (le-leb 4 list is.from)
      (and_from (ltb list 16) _ (lt-ltb list 16 (let to = is.to in omega (arith, to)))
      (and_from (leb (stack_adjust_base list) adjust) _ (le-leb (stack_adjust_base list) adjust (omega (arith, base, whole, least)))
      (and_from (eqb (more % 16) 0) _ (eq-eqb (more % 16) 0 (omega (arith, base, whole, least))) (lt-ltb more 64 (omega (arith, base, whole, least))))))

pub some_when : (b : Bool) (x : ℕ) → b ≡ true → is_some (cond b (Some x) None) ≡ true
some_when true x is = refl
some_when false x is = absurd cc

-- the number of a saved register is below 8
saved_code : (r : ℕ) → IsMoved r → ltb (s_code r) 8 ≡ true
saved_code r (inl low) =
    let first : (leb 8 r && ltb r 10) ≡ true = and_from (leb 8 r) (ltb r 10) (le-leb 8 r low.0) (lt-ltb r 10 (let to = low.1 in omega (arith, to))) in
    ap (λ b. ltb (cond b (r - 8) (cond (leb 18 r && ltb r 24) (r - 16) 8)) 8) first ∙ lt-ltb (r - 8) 8 (let to = low.1 in omega (arith, to))
saved_code r (inr high) =
    let other : (leb 8 r && ltb r 10) ≡ false = no_low (leb 8 r) (ltb r 10) (le-ltb r 10 (let from = high.0 in omega (arith, from))) in
    let second : (leb 18 r && ltb r 24) ≡ true = and_from (leb 18 r) (ltb r 24) (le-leb 18 r high.0) (lt-ltb r 24 (let to = high.1 in omega (arith, to))) in
    (λ j. ltb (cond (other j) (r - 8) (cond (second j) (r - 16) 8)) 8) ∙ lt-ltb (r - 16) 8 (let from = high.0 in let to = high.1 in omega (arith, from, to))
  where
    no_low : (a b : Bool) → b ≡ false → (a && b) ≡ false
    no_low true b is = is
    no_low false b is = refl

pub half_there : (kind : GroupKind) → IsGroup kind → HasHalf (group_half kind)
half_there (PushOf list frame order) is = (tt, some_when _ _ (fits list frame order is))
half_there (PopOf GoesOn list frame order) is = (tt, some_when _ _ (fits list frame order is))
half_there (PopOf Returns list frame order) is = (tt, some_when _ _ (fits list frame order is))
half_there (PopOf ZeroFirst list frame order) is = (tt, some_when _ _ (fits list frame order is))
half_there (PopOf ZeroBeforeRaise list frame order) is = (tt, some_when _ _ (fits list frame order is))
half_there (PopOf ZeroBeforeReturn list frame order) is = (tt, some_when _ _ (fits list frame order is))
half_there (MovesToSaved order first second) is =
    let other : eqb first second ≡ false = false_from_ne_true (eqb first second) (λ e. is.2 (sym (eqb-true first second e))) in
    let both = and_from (ltb (s_code first) 8) (ltb (s_code second) 8) (saved_code first is.0) (saved_code second is.1) in
    (tt, ap (λ b. is_some {T = ℕ} (cond b None (move_half 0b01 first second))) other ∙ some_when _ _ both)
half_there (MovesFromSaved order first second) is =
    let both = and_from (ltb (s_code first) 8) (ltb (s_code second) 8) (saved_code first is.0) (saved_code second is.1) in
    (tt, some_when _ _ both)

pub rest_low : (kind : GroupKind) → IsGroup kind → group_rest kind < 2 ^ 11
rest_low (PushOf list frame order) is = let most = is.most in omega (arith, most)
rest_low (PopOf ending list frame order) is = let most = is.most in omega (arith, most)
rest_low (MovesToSaved order first second) is = omega arith
rest_low (MovesFromSaved order first second) is = omega arith
