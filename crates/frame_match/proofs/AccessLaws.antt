-- Instructions that use the slots of a frame in any order, by their indices.
use Prim.Native.Nat.{zero}
use Rattle.std.proofs.Common.{◌≡◌, ◌∙◌, ℕ, suc, ◌+◌, ◌-◌, ◌*◌, ◌<◌, List, [], ◌∷◌, Option, Some, None, true, false, cond, length, take, drop, get_or, eqb, refl, sym, ap, arith, min}
use Rattle.std.specs.Prelude.{◌&&◌}
use Rattle.std.specs.List.{list_all, list_any, slice_get}
use Rattle.std.specs.Option.{option_map_or}
use Rattle.std.proofs.lemmas.Bool.{and_from, and_parts, eq-eqb, eqb-true, ne_eqb}
use Rattle.std.proofs.lemmas.List.{get_or-drop, length-drop, length-take}
use Rattle.std.proofs.lemmas.Map.Keys.{any_passes_from_place}
use Rattle.std.proofs.lemmas.Option.{none-some, same_Some, slice_get_within}
use Rattle.rv_decode.specs.declared.instr.Instr.{Instr}
use Rattle.zc_decode.specs.Lists.{registers_of, saved_registers}
use Rattle.frame_match.specs.declared.slot.Access.{Access}
use Rattle.frame_match.specs.declared.slot.Slot.{Slot}
use Rattle.frame_match.specs.Matches.{has_accesses, is_access, slots_below}
use Rattle.frame_match.specs.Read.{slot_accessed}
use Rattle.frame_match.specs.Invariants.Frames.{list_leaving_out, frame_slot, Fills, IsKnown, IsSlot}
use Rattle.frame_match.proofs.ListLaws.{known_facts}
use Rattle.frame_match.proofs.MemberLaws.{all_from, all_get, any_get, get_drop, get_some, get_take}

-- ---- slots

-- the registers of the list without n registers
regs_is : (n : ℕ) → IsKnown n → registers_of (list_leaving_out n) ≡ drop n saved_registers
regs_is zero k = refl
regs_is (suc m) k =
    let other = k.other in
    let small = k.small in
    let e : 16 - (16 - suc m) ≡ suc m = omega (arith, small) in
    ap (λ b. registers_of (cond b 15 (16 - suc m))) (ne_eqb (suc m) 0 (λ f. omega (arith, f))) ∙
    ap (λ b. cond b saved_registers (drop (16 - (16 - suc m)) saved_registers))
    (ne_eqb (16 - suc m) 15 (λ f. other (omega (arith, f, small)))) ∙ ap (λ x. drop x saved_registers) e

slots_length : (top : ℕ) (rs : List ℕ) → length (slots_below top rs) ≡ length rs
slots_length top [] = refl
slots_length top (r ∷ rs) = ap suc (slots_length (top - 4) rs)

slots_get : (top : ℕ) (rs : List ℕ) (j : ℕ) → j < length rs → slice_get (slots_below top rs) j ≡ Some (record { offset = top - 4 * (j + 1); register = get_or rs j 0 })
slots_get top [] j h = absurd (omega (arith, h))
slots_get top (r ∷ rs) zero h = refl
slots_get top (r ∷ rs) (suc j) h =
    let e : (top - 4) - 4 * (j + 1) ≡ top - 4 * (suc j + 1) = omega arith in
    slots_get (top - 4) rs j (omega (arith, h)) ∙ ap (λ o. Some (record { offset = o; register = get_or rs j 0 })) e

-- slot j of a list
slot_is : (bytes n j : ℕ) → IsKnown n → j + n < 13 → slice_get (slots_below bytes (registers_of (list_leaving_out n))) j ≡ Some (frame_slot bytes n j)
slot_is bytes n j k small =
    let c = (known_facts n k).count in
    slots_get bytes (registers_of (list_leaving_out n)) j (omega (arith, c, small))
    ∙ ap (λ rs. Some (record { offset = bytes - 4 * (j + 1); register = get_or rs j 0 })) (regs_is n k)
    ∙ ap (λ r. Some (record { offset = bytes - 4 * (j + 1); register = r })) (get_or-drop n saved_registers j 0)

-- ---- accesses

access_known : (which : Access) (d : Slot) (i : Instr) → is_access which d i ≡ true → slot_accessed which (Some i) ≡ Some d
access_known which d i h = by (slot_accessed which (Some i)) refl h
  where
    by : (o : Option Slot) → slot_accessed which (Some i) ≡ o → option_map_or (λ e. eqb e.offset d.offset && eqb e.register d.register) o false ≡ true → slot_accessed which (Some i) ≡ Some d
    by None e g = absurd cc
    by (Some s) e g =
        let p = and_parts (eqb s.offset d.offset) (eqb s.register d.register) g in
        let o : s.offset ≡ d.offset = eqb-true _ _ p.0 in
        let r : s.register ≡ d.register = eqb-true _ _ p.1 in
        let same : s ≡ d = λ x. record { offset = o x; register = r x } in
        e ∙ ap Some same

access_from : (which : Access) (d : Slot) (i : Instr) → slot_accessed which (Some i) ≡ Some d → is_access which d i ≡ true
access_from which d i h =
    ap (λ o. option_map_or (λ (e : Slot). eqb e.offset d.offset && eqb e.register d.register) o false) h
    ∙ and_from (eqb d.offset d.offset) (eqb d.register d.register) (eq-eqb d.offset d.offset refl) (eq-eqb d.register d.register refl)

-- ---- the definition's test and `Fills` agree

-- the instructions from an index on, as many as the list has registers
abbrev part : ℕ → List Instr → ℕ → List Instr
part n is from = take (length (registers_of (list_leaving_out n))) (drop from is)

part_get : (n : ℕ) (is : List Instr) (from m : ℕ) → IsKnown n → m + n < 13 → slice_get (part n is from) m ≡ slice_get is (from + m)
part_get n is from m k small =
    let c = (known_facts n k).count in
    get_take (length (registers_of (list_leaving_out n))) (drop from is) m (omega (arith, c, small)) ∙ get_drop from is m

pub fills_known : (which : Access) (bytes n : ℕ) (is : List Instr) (from : ℕ) → IsKnown n → has_accesses which (list_leaving_out n) bytes is from ≡ true → Fills which bytes n is from
fills_known which bytes n is from k h = record { each = each; all = all }
  where
    slots : List Slot
    slots = slots_below bytes (registers_of (list_leaving_out n))

    parts : (length (part n is from) ≡ length slots) × (list_all (λ i. list_any (λ d. is_access which d i) slots) (part n is from) ≡ true) × (list_all (λ d. list_any (is_access which d) (part n is from)) slots ≡ true)
    parts =
        let p = and_parts (eqb (length (part n is from)) (length slots)) _ h in
        let q = and_parts (list_all (λ i. list_any (λ d. is_access which d i) slots) (part n is from)) _ p.1 in
        (eqb-true _ _ p.0, q.0, q.1)

    count : length slots + n ≡ 13
    count = let c = (known_facts n k).count in let l = slots_length bytes (registers_of (list_leaving_out n)) in omega (arith, c, l)

    each : (m : ℕ) → m + n < 13 → (j : ℕ) × IsSlot which bytes n j (slice_get is (from + m))
    each m small =
        let c = count in
        let p = parts in
        let x = get_some (part n is from) m (omega (arith, c, p.0, small)) in
        let w = any_get (λ d. is_access which d x.0) slots (all_get (λ i. list_any (λ d. is_access which d i) slots) (part n is from) m x.0 p.1 x.1) in
        let b : w.0 < length slots = slice_get_within slots w.0 w.1 w.2 in
        let at : w.0 + n < 13 = omega (arith, b, c) in
        let same : w.1 ≡ frame_slot bytes n w.0 = same_Some _ _ (sym w.2 ∙ slot_is bytes n w.0 k at) in
        (w.0, (at, ap (slot_accessed which) (sym (part_get n is from m k small) ∙ x.1) ∙ access_known which w.1 x.0 w.3 ∙ ap Some same))

    all : (j : ℕ) → j + n < 13 → (m : ℕ) × (m + n < 13) × IsSlot which bytes n j (slice_get is (from + m))
    all j small =
        let c = count in
        let p = parts in
        let w = any_get (is_access which (frame_slot bytes n j)) (part n is from) (all_get (λ d. list_any (is_access which d) (part n is from)) slots j (frame_slot bytes n j) p.2 (slot_is bytes n j k small)) in
        let b : w.0 < length (part n is from) = slice_get_within (part n is from) w.0 w.1 w.2 in
        let at : w.0 + n < 13 = omega (arith, b, c, p.0) in
        (w.0, at, (small, ap (slot_accessed which) (sym (part_get n is from w.0 k at) ∙ w.2) ∙ access_known which (frame_slot bytes n j) w.1 w.3))

-- if a slot is used at an index, there is an instruction at that index
there : (which : Access) (o : Option Instr) (d : Slot) → slot_accessed which o ≡ Some d → (i : Instr) × (o ≡ Some i)
there which None d h = absurd (none-some d h)
there which (Some i) d h = (i, refl)

pub fills_from : (which : Access) (bytes n : ℕ) (is : List Instr) (from : ℕ) → IsKnown n → Fills which bytes n is from → has_accesses which (list_leaving_out n) bytes is from ≡ true
fills_from which bytes n is from k f =
    and_from (eqb (length (part n is from)) (length slots)) _ (eq-eqb _ _ size)
    (and_from (list_all (λ i. list_any (λ d. is_access which d i) slots) (part n is from)) _ (all_from _ (part n is from) each) (all_from _ slots all))
  where
    slots : List Slot
    slots = slots_below bytes (registers_of (list_leaving_out n))

    count : length slots + n ≡ 13
    count = let c = (known_facts n k).count in let l = slots_length bytes (registers_of (list_leaving_out n)) in omega (arith, c, l)

    size : length (part n is from) ≡ length slots
    size =
        let c = count in
        let regs = length (registers_of (list_leaving_out n)) in
        let l = slots_length bytes (registers_of (list_leaving_out n)) in
        let small = k.small in
        let last : (12 - n) + n < 13 = omega (arith, small) in
        let w = f.each (12 - n) last in
        let t = there which (slice_get is (from + (12 - n))) _ w.1.1 in
        let b : from + (12 - n) < length is = slice_get_within is (from + (12 - n)) t.0 t.1 in
        let d = length-drop from is in
        let e = length-take regs (drop from is) in
        let m : min regs (length (drop from is)) ≡ regs = omega (arith, b, d, c, l, small) in
        e ∙ m ∙ sym l

    each : (m : ℕ) (i : Instr) → slice_get (part n is from) m ≡ Some i → list_any (λ d. is_access which d i) slots ≡ true
    each m i g =
        let c = count in
        let s = size in
        let b : m < length (part n is from) = slice_get_within (part n is from) m i g in
        let small : m + n < 13 = omega (arith, b, s, c) in
        let w = f.each m small in
        any_passes_from_place (λ d. is_access which d i) slots w.0 (frame_slot bytes n w.0) (slot_is bytes n w.0 k w.1.0)
        (access_from which (frame_slot bytes n w.0) i (ap (slot_accessed which) (sym g ∙ part_get n is from m k small) ∙ w.1.1))

    all : (j : ℕ) (d : Slot) → slice_get slots j ≡ Some d → list_any (is_access which d) (part n is from) ≡ true
    all j d g =
        let c = count in
        let b : j < length slots = slice_get_within slots j d g in
        let small : j + n < 13 = omega (arith, b, c) in
        let same : frame_slot bytes n j ≡ d = same_Some _ _ (sym (slot_is bytes n j k small) ∙ g) in
        let w = f.all j small in
        let t = there which (slice_get is (from + w.0)) _ w.2.1 in
        any_passes_from_place (is_access which d) (part n is from) w.0 t.0 (part_get n is from w.0 k w.1 ∙ t.1)
        (access_from which d t.0 (ap (slot_accessed which) (sym t.1) ∙ w.2.1 ∙ ap Some same))
