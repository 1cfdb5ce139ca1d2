-- A range is found by the last one that begins before an address.
use Rattle.std.proofs.Common.{◌≡◌, ◌⊎◌, ℕ, ◌+◌, ◌<◌, ◌≤◌, Some, None, Bool, true, false, cond, eqb, Option, List, [], ◌∷◌, ltb, leb, inl, inr, refl, ap, sym, ◌∙◌, arith}
use Rattle.std.specs.Prelude.{◌&&◌, ◌||◌, is_some, not}
use Rattle.std.specs.List.{list_any}
use Rattle.std.specs.Ordering.{is_lt, nat_cmp}
use Rattle.std.specs.declared.cmp.Ordering.TheVariants.{Less, Equal, Greater}
use Rattle.std.proofs.lemmas.Bool.{and_from, and_parts, cases_lt, cond-true, false_from_ne_true, le-leb, leb-true, lt-ltb, ltb-true}
use Rattle.rv_decode.specs.Devices.{DeviceRange, has_registers, in_devices}
use Rattle.devices.specs.Lines.{DevicesLine, Range, Registers, Reset, Output, Answer, Then, devices_of, names_registers, ranges_of}
use Rattle.devices.specs.Text.{have_common}
use Rattle.devices.specs.Invariants.Kept.{IsBegun, IsLastBegun, IsOne, IsTable}

-- ---- tests of one range

pub common_true : (d e : DeviceRange) → d.at < e.at + e.size → e.at < d.at + d.size → have_common d e ≡ true
common_true d e l r = and_from (ltb d.at (e.at + e.size)) (ltb e.at (d.at + d.size)) (lt-ltb _ _ l) (lt-ltb _ _ r)

pub common_false : (d e : DeviceRange) → (d.at < e.at + e.size → e.at < d.at + d.size → ⊥) → have_common d e ≡ false
common_false d e never =
    false_from_ne_true (have_common d e) (λ both.
    let parts = and_parts (ltb d.at (e.at + e.size)) (ltb e.at (d.at + d.size)) both in
    never (ltb-true _ _ parts.0) (ltb-true _ _ parts.1))

pub common_parts : (d e : DeviceRange) → have_common d e ≡ true → (d.at < e.at + e.size) × (e.at < d.at + d.size)
common_parts d e both =
    let parts = and_parts (ltb d.at (e.at + e.size)) (ltb e.at (d.at + d.size)) both in (ltb-true _ _ parts.0, ltb-true _ _ parts.1)

pub true_not_false : {A : Type 0} {b : Bool} → b ≡ true → b ≡ false → A
true_not_false is other = let wrong = sym is ∙ other in absurd cc

-- ---- tests of all ranges

pub any_one : (test : DeviceRange → Bool) (ds : List DeviceRange) (e : DeviceRange) → IsOne e ds → test e ≡ true → list_any test ds ≡ true
any_one test [] e one is = absurd one
any_one test (d ∷ ds) e (inl same) is = rw (sym (ap test same) ∙ is) refl
any_one test (d ∷ ds) e (inr one) is = or_second (test d) (any_one test ds e one is)
  where
    or_second : (b : Bool) {c : Bool} → c ≡ true → (b || c) ≡ true
    or_second true is = refl
    or_second false is = is

pub any_none : (test : DeviceRange → Bool) (ds : List DeviceRange) → ((e : DeviceRange) → IsOne e ds → test e ≡ false) → list_any test ds ≡ false
any_none test [] none = refl
any_none test (d ∷ ds) none = rw (none d (inl refl)) (any_none test ds (λ e one. none e (inr one)))

pub holds : ℕ → ℕ → DeviceRange → Bool
holds a n d = leb d.at a && leb (a + n) (d.at + d.size)

in_devices_any : (lines : List DevicesLine) (a n : ℕ) → in_devices (devices_of lines) a n ≡ list_any (holds a n) (ranges_of lines)
unfolding holds
in_devices_any [] a n = refl
in_devices_any (Range d ∷ lines) a n = ap (λ b. (leb d.at a && leb (a + n) (d.at + d.size)) || b) (in_devices_any lines a n)
in_devices_any (Registers ∷ lines) a n = in_devices_any lines a n
in_devices_any (Reset ∷ lines) a n = in_devices_any lines a n
in_devices_any (Output at ∷ lines) a n = in_devices_any lines a n
in_devices_any (Answer bytes ∷ lines) a n = in_devices_any lines a n
in_devices_any (Then bytes ∷ lines) a n = in_devices_any lines a n

-- the registers are among the devices if a line names them
pub registers_named : (lines : List DevicesLine) → has_registers (devices_of lines) ≡ names_registers lines
registers_named [] = refl
registers_named (Range d ∷ lines) = registers_named lines
registers_named (Registers ∷ lines) = refl
registers_named (Reset ∷ lines) = registers_named lines
registers_named (Output at ∷ lines) = registers_named lines
registers_named (Answer bytes ∷ lines) = registers_named lines
registers_named (Then bytes ∷ lines) = registers_named lines

pub holds_true : (a n : ℕ) (d : DeviceRange) → d.at ≤ a → a + n ≤ d.at + d.size → holds a n d ≡ true
unfolding holds
holds_true a n d l r = and_from (leb d.at a) (leb (a + n) (d.at + d.size)) (le-leb _ _ l) (le-leb _ _ r)

pub holds_false : (a n : ℕ) (d : DeviceRange) → (d.at ≤ a → a + n ≤ d.at + d.size → ⊥) → holds a n d ≡ false
unfolding holds
holds_false a n d never =
    false_from_ne_true (leb d.at a && leb (a + n) (d.at + d.size)) (λ both.
    let parts = and_parts (leb d.at a) (leb (a + n) (d.at + d.size)) both in
    never (leb-true _ _ parts.0) (leb-true _ _ parts.1))

-- ---- the last entry below an address

cmp_lt : (x y : ℕ) → is_lt (nat_cmp x y) ≡ ltb x y
cmp_lt x y = either (ltb x y) (eqb x y)
  where
    either : (b c : Bool) → is_lt (cond b Less (cond c Equal Greater)) ≡ b
    either true c = refl
    either false true = refl
    either false false = refl

less_is : (x y : ℕ) → nat_cmp x y ≡ Less → x < y
less_is x y is = ltb-true x y (sym (cmp_lt x y) ∙ ap is_lt is)

is_less : (x y : ℕ) → x < y → nat_cmp x y ≡ Less
is_less x y lt = cond-true (ltb x y) Less (cond (eqb x y) Equal Greater) (lt-ltb x y lt)

pub last_is : (ends : ℕ → Option ℕ) (below at end : ℕ) → nat_cmp at below ≡ Less → ends at ≡ Some end → ((q : ℕ) → nat_cmp q below ≡ Less → is_some (ends q) ≡ true → is_lt (nat_cmp at q) ≡ false) → IsLastBegun ends below (Some (at, end))
last_is ends below at end before is greatest = (less_is at below before, is, λ a after under. either a after under (ends a) refl)
  where
    either : (a : ℕ) → at < a → a < below → (o : Option ℕ) → ends a ≡ o → ends a ≡ None
    either a after under None here = here
    either a after under (Some e) here = true_not_false (cmp_lt at a ∙ lt-ltb at a after) (greatest a (is_less a below under) (ap is_some here))

pub le_not_lt : (a b : ℕ) → leb b a ≡ not (ltb a b)
le_not_lt a b = either (cases_lt a b)
  where
    either : (a < b) ⊎ (b ≤ a) → leb b a ≡ not (ltb a b)
    either (inl lt) = false_from_ne_true (leb b a) (λ le. let on = leb-true b a le in omega (arith, on, lt)) ∙ ap not (sym (lt-ltb a b lt))
    either (inr le) = le-leb b a le ∙ ap not (sym (false_from_ne_true (ltb a b) (λ lt. let under = ltb-true a b lt in omega (arith, le, under))))

-- ---- what it says

module _ (ends : ℕ → Option ℕ) (ds : List DeviceRange) (table : IsTable ends ds) where
  -- no device begins where the table has nothing
  none_begun : (e : DeviceRange) → IsOne e ds → ends e.at ≡ None → ⊥
  none_begun e one none = let is = table.each e one in let wrong = sym is ∙ none in absurd cc

  -- a device that begins below the address begins at the entry, or ends there or before
  before_last : (below at end : ℕ) → IsLastBegun ends below (Some (at, end)) → (e : DeviceRange) → IsOne e ds → e.at < below → ((e.at ≡ at) × (e.at + e.size ≡ end)) ⊎ (e.at + e.size ≤ at)
  before_last below at end last e one lt =
      let f = table.only at end last.1 in
      either f (table.apart e f.0 one f.1)
    where
      either : (f : IsBegun ds at end) → (e ≡ f.0) ⊎ (have_common e f.0 ≡ false) → ((e.at ≡ at) × (e.at + e.size ≡ end)) ⊎ (e.at + e.size ≤ at)
      either f (inl same) = inl (ap (λ d. d.at) same ∙ f.2, ap (λ d. d.at + d.size) same ∙ f.3)
      either f (inr other) = inr (ordered f other (cases_lt at e.at) (cases_lt at (e.at + e.size)))
        where
          ordered : (f : IsBegun ds at end) → have_common e f.0 ≡ false → (at < e.at) ⊎ (e.at ≤ at) → (at < e.at + e.size) ⊎ (e.at + e.size ≤ at) → e.at + e.size ≤ at
          ordered f other (inl above) far = absurd (none_begun e one (last.2 e.at above lt))
          ordered f other (inr on) (inr near) = near
          ordered f other (inr on) (inl far) =
              let some = table.some f.0 f.1 in
              true_not_false (common_true e f.0 (omega (arith, on, some, f.2)) (omega (arith, far, f.2))) other

  pub free_none : (d : DeviceRange) → IsLastBegun ends (d.at + d.size) None → list_any (have_common d) ds ≡ false
  free_none d none =
      any_none (have_common d) ds (λ e one. common_false d e (λ l r. none_begun e one (none e.at r)))

  pub free_some : (d : DeviceRange) (at end : ℕ) → IsLastBegun ends (d.at + d.size) (Some (at, end)) → list_any (have_common d) ds ≡ ltb d.at end
  free_some d at end last = either (cases_lt d.at end)
    where
      either : (d.at < end) ⊎ (end ≤ d.at) → list_any (have_common d) ds ≡ ltb d.at end
      either (inl over) =
          let f = table.only at end last.1 in
          any_one (have_common d) ds f.0 f.1 (common_true d f.0 (omega (arith, over, f.3)) (omega (arith, last.0, f.2)))
          ∙ sym (lt-ltb d.at end over)
      either (inr free) =
          any_none (have_common d) ds (λ e one. common_false d e (λ l r. before e (before_last (d.at + d.size) at end last e one r) l))
          ∙ sym (false_from_ne_true (ltb d.at end) (λ over. let lt = ltb-true d.at end over in absurd (omega (arith, lt, free))))
        where
          before : (e : DeviceRange) → ((e.at ≡ at) × (e.at + e.size ≡ end)) ⊎ (e.at + e.size ≤ at) → d.at < e.at + e.size → ⊥
          before e (inl same) l = omega (arith, same.1, free, l)
          before e (inr far) l =
              let f = table.only at end last.1 in
              let some = table.some f.0 f.1 in
              omega (arith, far, l, f.2, f.3, some, free)

  none_holds : (a n : ℕ) → IsLastBegun ends (a + 1) None → list_any (holds a n) ds ≡ false
  none_holds a n none =
      any_none (holds a n) ds (λ e one. holds_false a n e (λ l r. none_begun e one (none e.at (omega (arith, l)))))

  some_holds : (a n at end : ℕ) → 0 < n → IsLastBegun ends (a + 1) (Some (at, end)) → list_any (holds a n) ds ≡ leb (a + n) end
  some_holds a n at end many last = either (cases_lt end (a + n))
    where
      either : (end < a + n) ⊎ (a + n ≤ end) → list_any (holds a n) ds ≡ leb (a + n) end
      either (inr within) =
          let f = table.only at end last.1 in
          any_one (holds a n) ds f.0 f.1 (holds_true a n f.0 (omega (arith, last.0, f.2)) (omega (arith, within, f.3)))
          ∙ sym (le-leb (a + n) end within)
      either (inl over) =
          any_none (holds a n) ds (λ e one. holds_false a n e (λ l r. past e (before_last (a + 1) at end last e one (omega (arith, l))) r))
          ∙ sym (false_from_ne_true (leb (a + n) end) (λ on. let le = leb-true (a + n) end on in absurd (omega (arith, le, over))))
        where
          past : (e : DeviceRange) → ((e.at ≡ at) × (e.at + e.size ≡ end)) ⊎ (e.at + e.size ≤ at) → a + n ≤ e.at + e.size → ⊥
          past e (inl same) r = omega (arith, same.1, over, r)
          past e (inr far) r = omega (arith, far, r, last.0, many)

-- ---- the same of the devices of lines

module _ (ends : ℕ → Option ℕ) (lines : List DevicesLine) (table : IsTable ends (ranges_of lines)) where
  pub in_none : (a n : ℕ) → IsLastBegun ends (a + 1) None → in_devices (devices_of lines) a n ≡ false
  in_none a n none = in_devices_any lines a n ∙ none_holds ends (ranges_of lines) table a n none

  pub in_some : (a n at end : ℕ) → 0 < n → IsLastBegun ends (a + 1) (Some (at, end)) → in_devices (devices_of lines) a n ≡ leb (a + n) end
  in_some a n at end many last = in_devices_any lines a n ∙ some_holds ends (ranges_of lines) table a n at end many last
