-- What starts at a place of a layout, by what is written there and its size, and its number of commits: few, since padding is
-- short.
use Rattle.std.proofs.Common.{◌≡◌, ℕ, ◌+◌, ◌-◌, ◌*◌, ◌<◌, ◌≤◌, Option, Some, None, Bool, true, false, cond, eqb, ltb, refl, ap, ◌∙◌, arith}
use Rattle.std.specs.Option.{option_map_or}
use Rattle.zc_base.specs.declared.place.Place.{Place}
use Rattle.psabi_sym.specs.Faults.{power_above}
use Rattle.psabi_sym.specs.Inputs.{parsed}
use Rattle.psabi_sym.proofs.BlockLaws.{aligned_up-lt}
use Rattle.block_cut.specs.Items.{after_items, next_at}
use Rattle.block_cut.specs.declared.item.Item.{Item}
use Rattle.block_cut.specs.declared.item.Item.TheVariants.{Op, Hi, Lo, PcHi, PcLo, Branch, Jump, Call, Align, Word, Raw, RawShort, RawPair}
use Rattle.frame_match.specs.declared.group.Group.{Group}
use Rattle.shrink_layout.specs.Units.{CodeUnit, OneGroup, OneItem, OneSite, unit_items}
use Rattle.sym_machine.specs.Conditions.{condition}
use Rattle.sym_machine.specs.Program.{Program}
use Rattle.sym_machine.specs.State.{PlainCore, reg_of}
use Rattle.zc_link.specs.LaidOut.{IsLaidOut}
use Rattle.zc_link.specs.Pace.{Alone, CallOf, LongOf, Stretch, bytes_between, commits_in, commits_of, long_commits, span_of, stretch_of}
use Rattle.zc_link.specs.TextLayout.{TextLayout, behind, size_in, stretch_in}
use Rattle.zc_link.proofs.LaidLaws.{group_items}

-- ---- commits

-- a stretch has few commits for its items
abbrev IsFew : Program → PlainCore → Stretch → Type 0
IsFew p s x = commits_of p s x ≤ 64 * span_of x

-- a branch of two instructions has
long_few : (taken : Option Bool) → long_commits taken ≤ 64
long_few None = omega arith
long_few (Some false) = omega arith
long_few (Some true) = omega arith

-- what is written for an item in n bytes has few commits, if padding is short
item_few : (p : Program) (s : PlainCore) (n : ℕ) (i : Item) → ((bytes : ℕ) → i ≡ Align bytes → n < 256) → IsFew p s (stretch_of n (Some (OneItem i)))
item_few p s n (Op i) short = omega arith
item_few p s n (Hi i t) short = omega arith
item_few p s n (Lo i t) short = omega arith
item_few p s n (PcHi i t) short = omega arith
item_few p s n (PcLo i from) short = omega arith
item_few p s n (Branch op first second to) short = by (eqb n 8)
  where
    by : (b : Bool) → IsFew p s (cond b (LongOf op first second) Alone)
    by true = long_few (condition p op (reg_of s first) (reg_of s second))
    by false = omega arith
item_few p s n (Jump rd to) short = omega arith
item_few p s n (Call rd temp to) short = by (eqb n 8)
  where
    by : (b : Bool) → IsFew p s (cond b CallOf Alone)
    by true = omega arith
    by false = omega arith
item_few p s n (Align bytes) short = omega (arith, short bytes refl)
item_few p s n (Word t) short = omega arith
item_few p s n (Raw word) short = omega arith
item_few p s n (RawShort half) short = omega arith
item_few p s n (RawPair first second) short = omega arith

-- a group has few commits
group_few : (g : Group) → commits_in g ≤ 2
group_few g = by (eqb g.rest 0)
  where
    by : (b : Bool) → cond b 1 2 ≤ 2
    by true = omega arith
    by false = omega arith

-- what is written for an item has one
item_some : (n : ℕ) (i : Item) → 0 < span_of (stretch_of n (Some (OneItem i)))
item_some n (Op i) = omega arith
item_some n (Hi i t) = omega arith
item_some n (Lo i t) = omega arith
item_some n (PcHi i t) = omega arith
item_some n (PcLo i from) = omega arith
item_some n (Branch op first second to) = by (eqb n 8)
  where
    by : (b : Bool) → 0 < span_of (cond b (LongOf op first second) Alone)
    by true = omega arith
    by false = omega arith
item_some n (Jump rd to) = omega arith
item_some n (Call rd temp to) = by (eqb n 8)
  where
    by : (b : Bool) → 0 < span_of (cond b CallOf Alone)
    by true = omega arith
    by false = omega arith
item_some n (Align bytes) = omega arith
item_some n (Word t) = omega arith
item_some n (Raw word) = omega arith
item_some n (RawShort half) = omega arith
item_some n (RawPair first second) = omega arith

-- a power of two above a number is 256 at most
power_most : (n : ℕ) → power_above n ≤ 256
power_most n = by (ltb n 2) (ltb n 4) (ltb n 8) (ltb n 16) (ltb n 32) (ltb n 64) (ltb n 128)
  where
    by : (b2 b4 b8 b16 b32 b64 b128 : Bool) → cond b2 2 (cond b4 4 (cond b8 8 (cond b16 16 (cond b32 32 (cond b64 64 (cond b128 128 256)))))) ≤ 256
    by true b4 b8 b16 b32 b64 b128 = omega arith
    by false true b8 b16 b32 b64 b128 = omega arith
    by false false true b16 b32 b64 b128 = omega arith
    by false false false true b32 b64 b128 = omega arith
    by false false false false true b64 b128 = omega arith
    by false false false false false true b128 = omega arith
    by false false false false false false true = omega arith
    by false false false false false false false = omega arith

-- ---- in a layout

-- behind an item by itself stands the next one
pub behind_item : (L : TextLayout) (q : Place) (i : Item) → L.unit q ≡ Some (OneItem i) → behind L q ≡ next_at (parsed L.inputs).objects q
behind_item L q i is = ap (λ u. after_items (parsed L.inputs).objects (option_map_or unit_items u 1) q) is

-- the size of what is written is the distance to the place after it
pub size_is : (L : TextLayout) (q : Place) (a n : ℕ) → L.address q ≡ Some a → L.address (behind L q) ≡ Some (a + n) → size_in L q ≡ n
size_is L q a n at next = let less : a + n - a ≡ n = omega arith in (λ j. bytes_between (at j) (next j)) ∙ less

module _ (L : TextLayout) (laid : IsLaidOut L) where
  -- padding has fewer than 256 bytes
  padding_short : (q : Place) (k : ℕ) → L.unit q ≡ Some (OneItem (Align k)) → size_in L q < 256
  padding_short q k unit = by (L.address q) refl
    where
      by : (o : Option ℕ) → L.address q ≡ o → size_in L q < 256
      by None at = let none : size_in L q ≡ 0 = ap (λ o. bytes_between o (L.address (behind L q))) at in omega (arith, none)
      by (Some a) at =
          let lies = laid.each q a (OneItem (Align k)) unit at in
          let size = size_is L q a lies.size at lies.next in
          omega (arith, size, lies.form, aligned_up-lt (power_above k) a, power_most k)

  -- no stretch has many commits
  pub few : (p : Program) (s : PlainCore) → commits_of p s (stretch_in L s.place) ≤ 64 * span_of (stretch_in L s.place)
  few p s = by (L.unit s.place) refl
    where
      by : (u : Option CodeUnit) → L.unit s.place ≡ u → IsFew p s (stretch_of (size_in L s.place) u)
      by None unit = omega arith
      by (Some (OneItem i)) unit = item_few p s (size_in L s.place) i (λ k is. padding_short s.place k (unit ∙ ap (λ x. Some (OneItem x)) is))
      by (Some (OneGroup g)) unit = omega (arith, group_few g, group_items L laid s.place g unit)
      by (Some (OneSite slot)) unit = omega arith

  -- each stretch has an item
  pub some : (q : Place) → 0 < span_of (stretch_in L q)
  some q = by (L.unit q) refl
    where
      by : (u : Option CodeUnit) → L.unit q ≡ u → 0 < span_of (stretch_of (size_in L q) u)
      by None unit = omega arith
      by (Some (OneItem i)) unit = item_some (size_in L q) i
      by (Some (OneGroup g)) unit = omega (arith, group_items L laid q g unit)
      by (Some (OneSite slot)) unit = omega arith
