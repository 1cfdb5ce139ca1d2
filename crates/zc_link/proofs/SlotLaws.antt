-- The slot of a jump or call in a table: it leads where that does, and jumps through it link the same register (`slot_leads`).
use Rattle.std.proofs.Common.{◌≡◌, ◌∙◌, ℕ, zero, suc, ◌+◌, ◌<◌, List, [], ◌∷◌, take, drop, Bool, true, false, cond, eqb, Option, Some, None, refl, sym, ap, arith, slice_get}
use Rattle.std.proofs.lemmas.Bool.{eqb-true, eqb-false, le-ltb, lt-ltb}
use Rattle.std.proofs.lemmas.Option.{none-some, same_Some}
use Rattle.zc_base.specs.declared.place.Place.{Place}
use Rattle.psabi_sym.specs.Inputs.{ParsedInputs}
use Rattle.block_cut.specs.Items.{item_at}
use Rattle.block_cut.specs.declared.item.Item.{Item}
use Rattle.block_cut.proofs.LedLaws.{same_is}
use Rattle.shrink_layout.specs.Pieces.{slot_at}
use Rattle.shrink_layout.specs.Units.{is_slot_of, jump_of, slot_for, slot_from}
use Rattle.shrink_layout.proofs.SiteLaws.{site_found, slot_found}
use Rattle.zc_link.specs.LaidOut.{linked_by}

-- ---- lists

module _ {X : Type 0} where
  got_of_take : (n : ℕ) (xs : List X) (k : ℕ) (x : X) → slice_get (take n xs) k ≡ Some x → (k < n) × (slice_get xs k ≡ Some x)
  got_of_take zero xs k x is = absurd (none-some x is)
  got_of_take (suc n) [] k x is = absurd (none-some x is)
  got_of_take (suc n) (y ∷ ys) zero x is = (omega arith, is)
  got_of_take (suc n) (y ∷ ys) (suc k) x is = let rest = got_of_take n ys k x is in (omega (arith, rest.0), rest.1)

  got_of_drop : (n : ℕ) (xs : List X) (k : ℕ) → slice_get (drop n xs) k ≡ slice_get xs (n + k)
  got_of_drop zero xs k = let same : k ≡ 0 + k = omega arith in ap (slice_get xs) same
  got_of_drop (suc n) [] k = refl
  got_of_drop (suc n) (x ∷ xs) k = let same : suc (n + k) ≡ suc n + k = omega arith in got_of_drop n xs k ∙ ap (slice_get (x ∷ xs)) same

-- ---- slots

-- a slot that leads to a place is that place's
slot_same : (q : Place) (slot : Option Place) → is_slot_of q slot ≡ true → slot ≡ Some q
slot_same q None is = absurd cc
slot_same q (Some p) is =
    let same = same_is p q is in
    λ i. Some (record { object = same.0 i; section = same.1 i; offset = same.2 i })

-- the first from a number on
pub record IsFound (first n : ℕ) (q : Place) (slots : List (Option Place)) : Type 0 where
  pub index : ℕ
  pub number : n ≡ first + index
  pub leads : slice_get slots index ≡ Some (Some q)

first_found : (first : ℕ) (q : Place) (slots : List (Option Place)) (n : ℕ) → slot_from first q slots ≡ Some n → IsFound first n q slots
first_found first q [] n is = absurd (none-some n is)
first_found first q (slot ∷ slots) n is = by (is_slot_of q slot) refl is (first_found (first + 1) q slots n)
  where
    by :
        (b : Bool) → is_slot_of q slot ≡ b → cond b (Some first) (slot_from (first + 1) q slots) ≡ Some n
        → (slot_from (first + 1) q slots ≡ Some n → IsFound (first + 1) n q slots) → IsFound first n q (slot ∷ slots)
    by true here is rest = record {
      index = 0;
      number = omega (arith, same_Some first n is);
      leads = ap Some (slot_same q slot here);
    }
    by false other is rest =
        let found = rest is in
        record { index = suc found.index; number = omega (arith, found.number); leads = found.leads }

-- jumps, which link no register, have theirs below 32, and calls from 32 on
pub record LeadsTo (slots : List (Option Place)) (n rd : ℕ) (to : Place) : Type 0 where
  pub links : rd ≡ linked_by n
  pub leads : slice_get slots n ≡ Some (Some to)

for_found : (slots : List (Option Place)) (rd : ℕ) (to : Place) (n : ℕ) → rd < 2 → slot_for slots (rd, to) ≡ Some n → LeadsTo slots n rd to
for_found slots rd to n few is = by (eqb rd 0) refl is
  where
    by : (b : Bool) → eqb rd 0 ≡ b → cond b (slot_from 0 to (take 32 slots)) (slot_from 32 to (drop 32 slots)) ≡ Some n → LeadsTo slots n rd to
    by true first is =
        let found = first_found 0 to (take 32 slots) n is in
        let number : found.index ≡ n = omega (arith, found.number) in
        let got = got_of_take 32 slots found.index (Some to) found.leads in
        let none : rd ≡ 0 = eqb-true rd 0 first in
        record {
          links = none ∙ sym (ap (λ b. cond b 0 1) (lt-ltb n 32 (omega (arith, got.0, number))));
          leads = ap (slice_get slots) (sym number) ∙ got.1;
        }
    by false other is =
        let found = first_found 32 to (drop 32 slots) n is in
        let ra : rd ≡ 1 = omega (arith, few, eqb-false rd 0 other) in
        record {
          links = ra ∙ sym (ap (λ b. cond b 0 1) (le-ltb n 32 (omega (arith, found.number))));
          leads = ap (slice_get slots) found.number ∙ sym (got_of_drop 32 slots found.index) ∙ found.leads;
        }

-- what has a slot
pub record IsServed (inputs : ParsedInputs) (slots : List (Option Place)) (q : Place) (n : ℕ) : Type 0 where
  pub item : Item
  pub is : item_at inputs q ≡ Some item
  pub to : Place
  pub goes : jump_of item ≡ Some (linked_by n, to)
  pub leads : slice_get slots n ≡ Some (Some to)

pub slot_leads : (inputs : ParsedInputs) (slots : List (Option Place)) (q : Place) (n : ℕ) → slot_at inputs slots q ≡ Some n → IsServed inputs slots q n
slot_leads inputs slots q n is =
    let has = slot_found inputs slots q n is in
    let site = site_found inputs q has.jump has.site in
    let found = for_found slots has.jump.0 has.jump.1 n site.links has.slot in
    record {
      item = site.item;
      is = site.is;
      to = has.jump.1;
      goes = site.leads ∙ ap (λ (rd : ℕ). Some (rd, has.jump.1)) found.links;
      leads = found.leads;
    }
