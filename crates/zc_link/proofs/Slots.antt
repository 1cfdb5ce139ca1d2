-- Slots of a frame, in whatever order: they lie apart and within the frame, each register has one, and none is that of x0, sp or a0. So it
-- is for each register list, by computation.
use Rattle.std.proofs.Common.{◌≡◌, ◌≢◌, ℕ, zero, suc, ◌+◌, ◌-◌, ◌*◌, ◌<◌, ◌≤◌, List, [], ◌∷◌, length, Bool, true, not, refl, sym, ap, ◌∙◌, arith, eqb, ltb, leb, slice_index_or, inl, inr}
use Rattle.std.specs.Prelude.{◌⊎◌, ◌&&◌, Contains}
use Rattle.std.proofs.lemmas.Bool.{agree_below_at, and_parts, eq-eqb, eqb-false, false≢true, leb-true, ltb-true, not-true}
use Rattle.zc_decode.specs.Lists.{stack_adjust_base, registers_of}
use Rattle.zc_link.specs.Invariants.Groups.{IsFrame, SameSlots, Slot, frame_adjust, rest_of, slots_below}

-- ---- membership, by cases

abbrev pub IsOneOf : Slot → List Slot → Type 0
IsOneOf d [] = ⊥
IsOneOf d (x ∷ xs) = (d ≡ x) ⊎ IsOneOf d xs

pub contained_one : (ds : List Slot) (d : Slot) → Contains ds d → IsOneOf d ds
contained_one [] d c = absurd (let lt = c.1 in omega (arith, lt))
contained_one (x ∷ xs) d c = by c.0 c.1 c.2 (contained_one xs d)
  where
    by : (k : ℕ) → k < length (x ∷ xs) → slice_index_or (x ∷ xs) k d ≡ d → (Contains xs d → IsOneOf d xs) → IsOneOf d (x ∷ xs)
    by zero lt is again = inl (sym is)
    by (suc k) lt is again = inr (again (k, omega (arith, lt), is))

pub one_contained : (ds : List Slot) (d : Slot) → IsOneOf d ds → Contains ds d
one_contained [] d m = absurd m
one_contained (x ∷ xs) d (inl here) = (0, omega arith, sym here)
one_contained (x ∷ xs) d (inr there) = let c = one_contained xs d there in (suc c.0, (let lt = c.1 in omega (arith, lt)), c.2)

-- two lists have the same slots
pub record AreSame (ds es : List Slot) : Type 0 where
  pub into : (d : Slot) → IsOneOf d ds → IsOneOf d es
  pub back : (d : Slot) → IsOneOf d es → IsOneOf d ds

are_same : (ds es : List Slot) → SameSlots ds es → AreSame ds es
are_same ds es same = record {
  into = λ d m. contained_one es d (same.each d (one_contained ds d m));
  back = λ d m. contained_one ds d (same.all d (one_contained es d m));
}

-- ---- registers of a list: each is below the one before it, and none is x0 or sp

abbrev pub fall : ℕ → List ℕ → Bool
fall b [] = true
fall b (r ∷ rs) = (ltb r b && (not (eqb r 2) && ltb 0 r)) && fall r rs

record Falls (b r : ℕ) (rs : List ℕ) : Type 0 where
  under : r < b
  no_sp : r ≢ 2
  some : 0 < r
  rest : fall r rs ≡ true

falls : (b r : ℕ) (rs : List ℕ) → fall b (r ∷ rs) ≡ true → Falls b r rs
falls b r rs h =
    let q = and_parts (ltb r b && (not (eqb r 2) && ltb 0 r)) (fall r rs) h in
    let t = and_parts (ltb r b) (not (eqb r 2) && ltb 0 r) q.0 in
    let u = and_parts (not (eqb r 2)) (ltb 0 r) t.1 in
    record { under = ltb-true r b t.0; no_sp = eqb-false r 2 (not-true (eqb r 2) u.0); some = ltb-true 0 r u.1; rest = q.1 }

-- a0 is none of the registers
abbrev avoid : ℕ → List ℕ → Bool
avoid k [] = true
avoid k (r ∷ rs) = not (eqb r k) && avoid k rs

-- the slots of each list of pushes and pops have room in the list's base
fits : ℕ → Bool
fits list =
    fall 32 (registers_of list) && (avoid 10 (registers_of list) && (leb (4 * length (registers_of list)) (stack_adjust_base list) && leb 16 (stack_adjust_base list)))

record ListFits (list : ℕ) : Type 0 where
  falling : fall 32 (registers_of list) ≡ true
  no_a0 : avoid 10 (registers_of list) ≡ true
  room : 4 * length (registers_of list) ≤ stack_adjust_base list
  base : 16 ≤ stack_adjust_base list

list_fits : (list : ℕ) → 4 ≤ list → list ≤ 15 → ListFits list
unfolding fits
list_fits list from to =
    let k : ℕ = list - 4 in
    let same : 4 + k ≡ list = omega (arith, from) in
    let h : fits (4 + k) ≡ true = agree_below_at (λ n. fits (4 + n)) (λ n. true) 12 k refl (omega (arith, from, to)) in
    let g : fits list ≡ true = ap fits (sym same) ∙ h in
    let room = leb (4 * length (registers_of list)) (stack_adjust_base list) in
    let base = leb 16 (stack_adjust_base list) in
    let q = and_parts (fall 32 (registers_of list)) (avoid 10 (registers_of list) && (room && base)) g in
    let t = and_parts (avoid 10 (registers_of list)) (room && base) q.1 in
    let u = and_parts room base t.1 in
    record {
      falling = q.0;
      no_a0 = t.0;
      room = leb-true (4 * length (registers_of list)) (stack_adjust_base list) u.0;
      base = leb-true 16 (stack_adjust_base list) u.1;
    }

-- ---- slots

-- a slot's word covers an address, with this base
abbrev pub Covers : ℕ → Slot → ℕ → Type 0
Covers base d x = (base + d.offset ≤ x) × (x < base + d.offset + 4)

slot_under : (top : ℕ) (rs : List ℕ) (d : Slot) → 4 * length rs ≤ top → IsOneOf d (slots_below top rs) → d.offset + 4 ≤ top
slot_under top [] d room m = absurd m
slot_under top (r ∷ rs) d room (inl here) = let h = ap (λ (t : Slot). t.offset) here in omega (arith, h, room)
slot_under top (r ∷ rs) d room (inr rest) = let h = slot_under (top - 4) rs d (omega (arith, room)) rest in omega (arith, h)

slot_over : (top : ℕ) (rs : List ℕ) (d : Slot) → 4 * length rs ≤ top → IsOneOf d (slots_below top rs) → top ≤ d.offset + 4 * length rs
slot_over top [] d room m = absurd m
slot_over top (r ∷ rs) d room (inl here) = let h = ap (λ (t : Slot). t.offset) here in omega (arith, h, room)
slot_over top (r ∷ rs) d room (inr rest) = let h = slot_over (top - 4) rs d (omega (arith, room)) rest in omega (arith, h, room)

-- a register that may have a slot
pub record IsSlotRegister (b r : ℕ) : Type 0 where
  pub under : r < b
  pub no_sp : r ≢ 2
  pub some : 0 < r

slot_register : (top b : ℕ) (rs : List ℕ) (d : Slot) → fall b rs ≡ true → IsOneOf d (slots_below top rs) → IsSlotRegister b d.register
slot_register top b [] d f m = absurd m
slot_register top b (r ∷ rs) d f (inl here) =
    let q = falls b r rs f in
    let h : d.register ≡ r = ap (λ (t : Slot). t.register) here in
    record { under = omega (arith, h, q.under); no_sp = λ e. q.no_sp (sym h ∙ e); some = omega (arith, h, q.some) }
slot_register top b (r ∷ rs) d f (inr rest) =
    let q = falls b r rs f in
    let h = slot_register (top - 4) r rs d q.rest rest in
    record { under = omega (arith, h.under, q.under); no_sp = h.no_sp; some = h.some }

slot_avoids : (k top : ℕ) (rs : List ℕ) (d : Slot) → avoid k rs ≡ true → IsOneOf d (slots_below top rs) → d.register ≢ k
slot_avoids k top [] d f m = absurd m
slot_avoids k top (r ∷ rs) d f (inl here) = λ is.
    let same : r ≡ k = sym (ap (λ (t : Slot). t.register) here) ∙ is in
    false≢true (sym (ap not (eq-eqb r k same)) ∙ (and_parts (not (eqb r k)) (avoid k rs) f).0)
slot_avoids k top (r ∷ rs) d f (inr rest) = slot_avoids k (top - 4) rs d (and_parts (not (eqb r k)) (avoid k rs) f).1 rest

-- no address lies in two slots
pub slots_apart :
    (top base : ℕ) (rs : List ℕ) (x : ℕ) (c d : Slot) → 4 * length rs ≤ top → IsOneOf c (slots_below top rs) → IsOneOf d (slots_below top rs)
    → Covers base c x → Covers base d x → c ≡ d
slots_apart top base [] x c d room m n cx dx = absurd m
slots_apart top base (r ∷ rs) x c d room (inl a) (inl b) cx dx = a ∙ sym b
slots_apart top base (r ∷ rs) x c d room (inl a) (inr b) cx dx =
    let h = slot_under (top - 4) rs d (omega (arith, room)) b in
    let k : c.offset ≡ top - 4 = ap (λ (t : Slot). t.offset) a in
    absurd (omega (arith, h, k, cx.0, dx.1, room))
slots_apart top base (r ∷ rs) x c d room (inr a) (inl b) cx dx =
    let h = slot_under (top - 4) rs c (omega (arith, room)) a in
    let k : d.offset ≡ top - 4 = ap (λ (t : Slot). t.offset) b in
    absurd (omega (arith, h, k, dx.0, cx.1, room))
slots_apart top base (r ∷ rs) x c d room (inr a) (inr b) cx dx = slots_apart (top - 4) base rs x c d (omega (arith, room)) a b cx dx

-- no register has two slots
slots_once : (top b : ℕ) (rs : List ℕ) (c d : Slot) → fall b rs ≡ true → IsOneOf c (slots_below top rs) → IsOneOf d (slots_below top rs) → c.register ≡ d.register → c ≡ d
slots_once top b [] c d f m n e = absurd m
slots_once top b (r ∷ rs) c d f (inl x) (inl y) e = x ∙ sym y
slots_once top b (r ∷ rs) c d f (inl x) (inr y) e =
    let q = slot_register (top - 4) r rs d (falls b r rs f).rest y in
    let k : c.register ≡ r = ap (λ (t : Slot). t.register) x in
    absurd (omega (arith, q.under, k, e))
slots_once top b (r ∷ rs) c d f (inr x) (inl y) e =
    let q = slot_register (top - 4) r rs c (falls b r rs f).rest x in
    let k : d.register ≡ r = ap (λ (t : Slot). t.register) y in
    absurd (omega (arith, q.under, k, e))
slots_once top b (r ∷ rs) c d f (inr x) (inr y) e = slots_once (top - 4) r rs c d (falls b r rs f).rest x y e

-- ---- the slots of a frame

-- what is known of the slots of a frame: in any order they are those that go down from its top; they lie within it, and within
-- what its halfword moves sp by; and their registers are neither x0, sp nor a0
pub record FrameFacts (list frame : ℕ) (order : List Slot) : Type 0 where
  pub same : AreSame order (slots_below frame (registers_of list))
  pub room : 4 * length (registers_of list) ≤ frame
  pub some : 16 ≤ frame
  pub most : frame ≤ 2032
  pub sum : rest_of list frame + frame_adjust list frame ≡ frame
  pub under : (d : Slot) → IsOneOf d order → d.offset + 4 ≤ frame
  pub over : (d : Slot) → IsOneOf d order → frame ≤ d.offset + frame_adjust list frame
  pub register : (d : Slot) → IsOneOf d order → IsSlotRegister 32 d.register
  pub no_a0 : (d : Slot) → IsOneOf d order → d.register ≢ 10
  pub once :
      (c d : Slot) → IsOneOf c (slots_below frame (registers_of list)) → IsOneOf d (slots_below frame (registers_of list)) → c.register ≡ d.register → c ≡ d

pub frame_facts : (list frame : ℕ) (order : List Slot) → IsFrame list frame order → FrameFacts list frame order
frame_facts list frame order fr =
    let rs = registers_of list in
    let fit = list_fits list fr.from fr.to in
    let same = are_same order (slots_below frame rs) fr.same in
    let room = fit.room in
    let base = fit.base in
    let least = fr.least in
    let all : 4 * length rs ≤ frame = omega (arith, room, least) in
    let part : 4 * length rs ≤ frame_adjust list frame = omega (arith, room, least) in
    record {
      same = same;
      room = all;
      some = omega (arith, base, least);
      most = fr.most;
      sum = omega arith;
      under = λ d m. slot_under frame rs d all (same.into d m);
      over = λ d m. let v = slot_over frame rs d all (same.into d m) in omega (arith, v, part);
      register = λ d m. slot_register frame 32 rs d fit.falling (same.into d m);
      no_a0 = λ d m. slot_avoids 10 frame rs d fit.no_a0 (same.into d m);
      once = λ c d m n k. slots_once frame 32 rs c d fit.falling m n k;
    }
