-- One line more: its range in the table, its output in the set, its bytes; and that ranges lie outside the map.
use Rattle.std.proofs.Common.{◌≡◌, ◌⊎◌, ℕ, ◌+◌, ◌^◌, ◌<◌, ◌≤◌, Some, None, Bool, true, false, Option, List, [], ◌∷◌, ◌++◌, ltb, leb, eqb, inl, inr, refl, ap, sym, subst, ◌∙◌, append-nil, arith}
use Rattle.std.specs.Prelude.{◌&&◌, ◌||◌, not}
use Rattle.std.specs.List.{flat_map, list_any}
use Rattle.std.proofs.lemmas.Bool.{and_parts, eq-eqb, eqb-true, leb-true, ltb-true, not-true}
use Rattle.std.proofs.lemmas.Grind.{flat_map-append}
use Rattle.std.proofs.lemmas.List.Elements.{All-cons, All-nil}
use Rattle.std.proofs.lemmas.List.Folds.{list_any-append}
use Rattle.zc_base.specs.declared.mem_map.MemMap.{MemMap}
use Rattle.rv_decode.specs.Devices.{AreOutside, DeviceRange, IsOutside}
use Rattle.rv_decode.specs.Devices as device
use Rattle.devices.specs.Lines.{DevicesLine, Range, Registers, Reset, Output, Answer, Then, devices_of, is_then, output_in, outputs_of, range_in, ranges_of}
use Rattle.devices.specs.Text.{Follow, have_common, is_range, may_follow, may_stand}
use Rattle.devices.specs.Invariants.Kept.{CanFollow, IsBegun, IsOne, IsSet, IsTable}
use Rattle.devices.proofs.RangeLaws.{any_one, common_false, common_true, true_not_false}

or_none : (b : Bool) → (b || false) ≡ b
or_none true = refl
or_none false = refl

-- ---- one line more

ranges_more : (before : List DevicesLine) (l : DevicesLine) → ranges_of (before ++ l ∷ []) ≡ ranges_of before ++ range_in l
ranges_more before l = flat_map-append range_in before (l ∷ []) ∙ ap (λ ds. ranges_of before ++ ds) (append-nil (range_in l))

-- a range among some and one more
one_of_more : (ds : List DeviceRange) (d e : DeviceRange) → IsOne e (ds ++ d ∷ []) → IsOne e ds ⊎ (e ≡ d)
one_of_more [] d e (inl same) = inr same
one_of_more [] d e (inr one) = absurd one
one_of_more (x ∷ ds) d e (inl same) = inl (inl same)
one_of_more (x ∷ ds) d e (inr one) = either (one_of_more ds d e one)
  where
    either : IsOne e ds ⊎ (e ≡ d) → IsOne e (x ∷ ds) ⊎ (e ≡ d)
    either (inl here) = inl (inr here)
    either (inr last) = inr last

still_one : (ds : List DeviceRange) (d e : DeviceRange) → IsOne e ds → IsOne e (ds ++ d ∷ [])
still_one [] d e one = absurd one
still_one (x ∷ ds) d e (inl same) = inl same
still_one (x ∷ ds) d e (inr one) = inr (still_one ds d e one)

last_one : (ds : List DeviceRange) (d : DeviceRange) → IsOne d (ds ++ d ∷ [])
last_one [] d = inl refl
last_one (x ∷ ds) d = inr (last_one ds d)

module _ (ends more : ℕ → Option ℕ) (ds : List DeviceRange) (d : DeviceRange) (table : IsTable ends ds) (some : 0 < d.size) (free : list_any (have_common d) ds ≡ false)
    (puts : more d.at ≡ Some (d.at + d.size)) (keeps : (a : ℕ) → (a ≡ d.at → ⊥) → more a ≡ ends a) where
  -- the new range has no address in common with one of the others
  others_apart : (e : DeviceRange) → IsOne e ds → have_common d e ≡ false
  others_apart e one = either (have_common d e) refl
    where
      either : (b : Bool) → have_common d e ≡ b → have_common d e ≡ false
      either true is = true_not_false (any_one (have_common d) ds e one is) free
      either false is = is

  turned : (e : DeviceRange) → have_common d e ≡ false → have_common e d ≡ false
  turned e apart = common_false e d (λ l r. either (have_common d e) refl l r)
    where
      either : (b : Bool) → have_common d e ≡ b → e.at < d.at + d.size → d.at < e.at + e.size → ⊥
      either true is l r = true_not_false is apart
      either false is l r = let both = common_true d e r l in true_not_false both is

  other_start : (e : DeviceRange) → IsOne e ds → e.at ≡ d.at → ⊥
  other_start e one same =
      let filled = table.some e one in
      let both = common_true d e (omega (arith, same, filled)) (omega (arith, same, some)) in
      true_not_false both (others_apart e one)

  pub table_more : IsTable more (ds ++ d ∷ [])
  table_more = record {
    each = λ e one. each e (one_of_more ds d e one);
    only = λ a end is. only a end is (eqb a d.at) refl;
    some = λ e one. filled e (one_of_more ds d e one);
    apart = λ e f one two. apart e f (one_of_more ds d e one) (one_of_more ds d f two);
  }
    where
      each : (e : DeviceRange) → IsOne e ds ⊎ (e ≡ d) → more e.at ≡ Some (e.at + e.size)
      each e (inl one) = keeps e.at (other_start e one) ∙ table.each e one
      each e (inr same) = ap (λ x. more x.at) same ∙ puts ∙ ap (λ x. Some (x.at + x.size)) (sym same)

      only : (a end : ℕ) → more a ≡ Some end → (b : Bool) → eqb a d.at ≡ b → IsBegun (ds ++ d ∷ []) a end
      only a end is true here =
          let at : a ≡ d.at = eqb-true a d.at here in
          let same : Some (d.at + d.size) ≡ Some end = sym puts ∙ ap more (sym at) ∙ is in
          let ends_at : d.at + d.size ≡ end = cc in
          (d, last_one ds d, sym at, ends_at)
      only a end is false there =
          let old = table.only a end (sym (keeps a (λ same. let equal = eq-eqb a d.at same in true_not_false equal there)) ∙ is) in
          (old.0, still_one ds d old.0 old.1, old.2, old.3)

      filled : (e : DeviceRange) → IsOne e ds ⊎ (e ≡ d) → 0 < e.size
      filled e (inl one) = table.some e one
      filled e (inr same) = let size = ap (λ (x : DeviceRange). x.size) same in omega (arith, some, size)

      apart : (e f : DeviceRange) → IsOne e ds ⊎ (e ≡ d) → IsOne f ds ⊎ (f ≡ d) → (e ≡ f) ⊎ (have_common e f ≡ false)
      apart e f (inl one) (inl two) = table.apart e f one two
      apart e f (inl one) (inr last) = inr (ap (have_common e) last ∙ turned e (others_apart e one))
      apart e f (inr last) (inl two) = inr (ap (λ x. have_common x f) last ∙ others_apart f two)
      apart e f (inr last) (inr too) = inl (last ∙ sym too)

-- ---- what a line that may follow says

may_stand_of : (map : MemMap) (before : List DevicesLine) (l : DevicesLine) → may_follow map before l ≡ true → may_stand map before l ≡ true
may_stand_of map before l may = (and_parts (not (list_any is_then before)) (may_stand map before l) may).1

pub range_parts : (map : MemMap) (before : List DevicesLine) (d : DeviceRange) → may_follow map before (Range d) ≡ true → (is_range map d ≡ true) × (list_any (have_common d) (ranges_of before) ≡ false)
range_parts map before d may =
    let parts = and_parts (is_range map d) (not (list_any (have_common d) (ranges_of before))) (may_stand_of map before (Range d) may) in
    (parts.0, not-true (list_any (have_common d) (ranges_of before)) parts.1)

pub record IsOutsideRange (map : MemMap) (d : DeviceRange) : Type 0 where
  pub some : 0 < d.size
  pub outside : (d.at + d.size ≤ map.text) ⊎ (map.stack_high ≤ d.at)

pub range_is : (map : MemMap) (d : DeviceRange) → is_range map d ≡ true → IsOutsideRange map d
range_is map d is =
    let first = and_parts (ltb 0 d.size) (leb (d.at + d.size) (2 ^ 32) && (leb (d.at + d.size) map.text || leb map.stack_high d.at)) is in
    let second = and_parts (leb (d.at + d.size) (2 ^ 32)) (leb (d.at + d.size) map.text || leb map.stack_high d.at) first.1 in
    record { some = ltb-true 0 d.size first.0; outside = either (leb (d.at + d.size) map.text) refl second.1 }
  where
    either : (b : Bool) → leb (d.at + d.size) map.text ≡ b → (b || leb map.stack_high d.at) ≡ true → (d.at + d.size ≤ map.text) ⊎ (map.stack_high ≤ d.at)
    either true below h = inl (leb-true (d.at + d.size) map.text below)
    either false above h = inr (leb-true map.stack_high d.at h)

-- ---- the table with one line more

pub table_with : (ends more : ℕ → Option ℕ) (before : List DevicesLine) (d : DeviceRange) → IsTable ends (ranges_of before) → CanFollow before (Range d) → more d.at ≡ Some (d.at + d.size) → ((a : ℕ) → (a ≡ d.at → ⊥) → more a ≡ ends a) → IsTable more (ranges_of (before ++ Range d ∷ []))
table_with ends more before d table may puts keeps =
    let parts = range_parts may.0 before d may.1 in
    subst (IsTable more) (sym (ranges_more before (Range d)))
    (table_more ends more (ranges_of before) d table (range_is may.0 d parts.0).some parts.1 puts keeps)

pub table_same : (ends : ℕ → Option ℕ) (before : List DevicesLine) (l : DevicesLine) → range_in l ≡ [] → IsTable ends (ranges_of before) → IsTable ends (ranges_of (before ++ l ∷ []))
table_same ends before l none table =
    subst (IsTable ends) (sym (ranges_more before l ∙ ap (λ ds. ranges_of before ++ ds) none ∙ append-nil (ranges_of before))) table

pub table_none : (ends : ℕ → Option ℕ) → ((a : ℕ) → ends a ≡ None) → IsTable ends []
table_none ends none = record {
  each = λ e one. absurd one;
  only = λ a end is. let wrong = sym (none a) ∙ is in absurd cc;
  some = λ e one. absurd one;
  apart = λ e f one two. absurd one;
}

-- ---- ranges lie outside the map

pub are_outside : (map : MemMap) (before lines : List DevicesLine) → Follow map before lines → AreOutside map (devices_of lines)
are_outside map before [] follow = All-nil (IsOutside map)
are_outside map before (Range d ∷ lines) follow =
    All-cons (IsOutside map) (device.Range d) (devices_of lines)
    (range_is map d (range_parts map before d follow.0).0).outside (are_outside map (before ++ Range d ∷ []) lines follow.1)
are_outside map before (Registers ∷ lines) follow =
    All-cons (IsOutside map) device.Registers (devices_of lines) tt (are_outside map (before ++ Registers ∷ []) lines follow.1)
are_outside map before (Reset ∷ lines) follow = are_outside map (before ++ Reset ∷ []) lines follow.1
are_outside map before (Output a ∷ lines) follow = are_outside map (before ++ Output a ∷ []) lines follow.1
are_outside map before (Answer bytes ∷ lines) follow = are_outside map (before ++ Answer bytes ∷ []) lines follow.1
are_outside map before (Then bytes ∷ lines) follow = are_outside map (before ++ Then bytes ∷ []) lines follow.1

-- ---- the rest of what is kept, with one line more

-- a test that some line passes
pub any_more : (test : DevicesLine → Bool) (before : List DevicesLine) (l : DevicesLine) (some more : Bool) → some ≡ list_any test before → more ≡ (some || test l) → more ≡ list_any test (before ++ l ∷ [])
any_more test before l some more was is =
    is ∙ ap (λ b. b || test l) was ∙ ap (λ b. list_any test before || b) (sym (or_none (test l))) ∙ sym (list_any-append test before (l ∷ []))

-- what lines have, joined
pub bytes_more : (has : DevicesLine → List ℕ) (before : List DevicesLine) (l : DevicesLine) (bytes more : List ℕ) → bytes ≡ flat_map has before → more ≡ bytes ++ has l → more ≡ flat_map has (before ++ l ∷ [])
bytes_more has before l bytes more was is =
    is ∙ ap (λ b. b ++ has l) was ∙ ap (λ b. flat_map has before ++ b) (sym (append-nil (has l))) ∙ sym (flat_map-append has before (l ∷ []))

outputs_more : (before : List DevicesLine) (l : DevicesLine) → outputs_of (before ++ l ∷ []) ≡ outputs_of before ++ output_in l
outputs_more before l = sym (bytes_more output_in before l (outputs_of before) (outputs_of before ++ output_in l) refl refl)

-- the set of outputs
pub set_with : (has more : ℕ → Bool) (before : List DevicesLine) (at : ℕ) → IsSet has (outputs_of before) → ((a : ℕ) → more a ≡ (has a || eqb at a)) → IsSet more (outputs_of (before ++ Output at ∷ []))
set_with has more before at set is a =
    is a
    ∙ ap (λ b. b || eqb at a) (set a)
    ∙ ap (λ b. list_any (λ x. eqb x a) (outputs_of before) || b) (sym (or_none (eqb at a)))
    ∙ sym (list_any-append (λ x. eqb x a) (outputs_of before) (at ∷ []))
    ∙ ap (list_any (λ x. eqb x a)) (sym (outputs_more before (Output at)))

pub set_same : (has : ℕ → Bool) (before : List DevicesLine) (l : DevicesLine) → output_in l ≡ [] → IsSet has (outputs_of before) → IsSet has (outputs_of (before ++ l ∷ []))
set_same has before l none set =
    subst (IsSet has) (sym (outputs_more before l ∙ ap (λ xs. outputs_of before ++ xs) none ∙ append-nil (outputs_of before))) set
