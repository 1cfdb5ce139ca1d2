-- Words that are values: the address of a place, and the parts of one. A word that is a value stands for that value's number alone;
-- so the sum of an upper part and the lower part that goes with it stands for the address that the two are parts of.
use Rattle.std.proofs.Common.{◌≡◌, ℕ, ◌*◌, ◌%◌, ◌^◌, ◌<◌, Option, Some, None, Bool, true, false, cond, refl, sym, ap, ◌∙◌, arith, eqb}
use Rattle.std.specs.Prelude.{◌&&◌}
use Rattle.std.specs.Option.{option_and_then, option_map, option_map_or}
use Rattle.std.proofs.lemmas.Bool.{and_parts, eqb-true}
use Rattle.zc_base.specs.declared.place.Place.{Place}
use Rattle.rv_decode.specs.Bits.{add32}
use Rattle.rv_decode.specs.Memory.{byte_of}
use Rattle.psabi_reloc.specs.Parts.{hi20_of, lo12_of}
use Rattle.psabi_sym.specs.declared.target.Target.{Target}
use Rattle.shrink_layout.proofs.PlaceLaws.{same_place-true}
use Rattle.sym_machine.specs.declared.word.Value.{Value}
use Rattle.sym_machine.specs.declared.word.Value.TheVariants.{Code, AbsHi, PcHi}
use Rattle.sym_machine.specs.declared.word.SymByte.{SymByte}
use Rattle.sym_machine.specs.declared.word.SymByte.TheVariants.{Num, Part, Undef}
use Rattle.sym_machine.specs.declared.word.SymWord.{SymWord}
use Rattle.sym_machine.specs.AddressParts.{high_word, low_sum, pc_low_sum, pc_target, target_word}
use Rattle.sym_machine.specs.Program.{Program}
use Rattle.sym_machine.specs.Words.{code_from, code_of, code_word, is_part, is_value, number_word, same_value, undef_word, value_word}
use Rattle.zc_link.specs.Image.{Image}
use Rattle.moved_runs.specs.Named.{IsNamedTarget}
use Rattle.zc_link.specs.Invariants.Room.{Room}
use Rattle.zc_link.specs.Sound.{NamesWord}
use Rattle.zc_link.specs.Stands.{ByteStands, WordStands}
use Rattle.zc_link.specs.Values.{target_value, value_in, way}
use Rattle.zc_link.proofs.PartLaws.{parts_sum, way_sum, pc_upper}
use Rattle.zc_link.proofs.Words.{number_names, number_stands, sum_names, sum_stands, undef_names, undef_stands}
use Rattle.psabi_sym.specs.declared.target.Target.TheVariants as target

-- ---- values

same_values : (v w : Value) → same_value v w ≡ true → w ≡ v
same_values (Code q) (Code r) h = ap Code (sym (same_place-true q r h))
same_values (Code q) (AbsHi r) h = absurd cc
same_values (Code q) (PcHi r) h = absurd cc
same_values (AbsHi q) (Code r) h = absurd cc
same_values (AbsHi q) (AbsHi r) h = ap AbsHi (sym (same_place-true q r h))
same_values (AbsHi q) (PcHi r) h = absurd cc
same_values (PcHi q) (Code r) h = absurd cc
same_values (PcHi q) (AbsHi r) h = absurd cc
same_values (PcHi q) (PcHi r) h = ap PcHi (sym (same_place-true q r h))

-- words with the same four bytes
same_word :
    (n x : ℕ) → n < 2 ^ 32 → x < 2 ^ 32 → byte_of n 0 ≡ byte_of x 0 → byte_of n 1 ≡ byte_of x 1 → byte_of n 2 ≡ byte_of x 2
    → byte_of n 3 ≡ byte_of x 3 → n ≡ x
same_word n x small small_x first second third fourth = omega (arith, small, small_x, first, second, third, fourth)

-- an option has one value
pub some_same : {X : Type 0} (o : Option X) (x y : X) → o ≡ Some x → o ≡ Some y → y ≡ x
some_same o x y a b = let same : Some x ≡ Some y = sym a ∙ b in cc

module _ (V : Value → Option ℕ) where
  -- a part of a value stands for that byte of it
  part_is : (v : Value) (i : ℕ) (c : SymByte) (b : ℕ) → is_part v i c ≡ true → ByteStands V c b → (x : ℕ) × (V v ≡ Some x) × (b ≡ byte_of x i)
  part_is v i (Num n) b h st = absurd cc
  part_is v i Undef b h st = absurd cc
  part_is v i (Part w j) b h st =
      let parts = and_parts (same_value v w) (eqb i j) h in
      let same = same_values v w parts.0 in
      let at = eqb-true i j parts.1 in
      (st.0, ap V (sym same) ∙ st.1, st.2 ∙ ap (byte_of st.0) (sym at))

  -- a word that is a value stands for one number only, that value's
  pub value_is :
      (v : Value) (w : SymWord) (n : ℕ) → n < 2 ^ 32 → WordStands V w n → is_value v w ≡ true
      → (x : ℕ) × (V v ≡ Some x) × (x < 2 ^ 32 → n ≡ x)
  value_is v w n small st h =
      let a = and_parts (is_part v 0 w.b0) (is_part v 1 w.b1 && (is_part v 2 w.b2 && is_part v 3 w.b3)) h in
      let b = and_parts (is_part v 1 w.b1) (is_part v 2 w.b2 && is_part v 3 w.b3) a.1 in
      let c = and_parts (is_part v 2 w.b2) (is_part v 3 w.b3) b.1 in
      let p0 = part_is v 0 w.b0 (byte_of n 0) a.0 st.b0 in
      let p1 = part_is v 1 w.b1 (byte_of n 1) b.0 st.b1 in
      let p2 = part_is v 2 w.b2 (byte_of n 2) c.0 st.b2 in
      let p3 = part_is v 3 w.b3 (byte_of n 3) c.1 st.b3 in
      let x = p0.0 in
      let s1 : p1.0 ≡ x = some_same (V v) x p1.0 p0.1 p1.1 in
      let s2 : p2.0 ≡ x = some_same (V v) x p2.0 p0.1 p2.1 in
      let s3 : p3.0 ≡ x = some_same (V v) x p3.0 p0.1 p3.1 in
      (x, p0.1, λ lt. same_word n x small lt p0.2 (p1.2 ∙ ap (λ k. byte_of k 1) s1) (p2.2 ∙ ap (λ k. byte_of k 2) s2) (p3.2 ∙ ap (λ k. byte_of k 3) s3))

  pub value_stands : (v : Value) (x : ℕ) → V v ≡ Some x → WordStands V (value_word v) x
  value_stands v x h = record { b0 = (x, h, refl); b1 = (x, h, refl); b2 = (x, h, refl); b3 = (x, h, refl) }

  -- a number's word stands for it modulo 2^32
  number_stands_for : (n : ℕ) → WordStands V (number_word n) (n % 2 ^ 32)
  number_stands_for n = record { b0 = omega arith; b1 = omega arith; b2 = omega arith; b3 = omega arith }

-- ---- addresses of code

module _ {p : Program} {e : Image} (room : Room p e) where
  abbrev V : Value → Option ℕ
  V = value_in p e.address

  pub place_below : (q : Place) (x : ℕ) → e.address q ≡ Some x → x < 2 ^ 32
  place_below q x h = (room.even q x h).2

  -- a word that is a place's address stands for it
  pub code_is : (w : SymWord) (n : ℕ) (q : Place) → n < 2 ^ 32 → WordStands V w n → code_of w ≡ Some q → e.address q ≡ Some n
  code_is w n q small st h = by_first w.b0 h
    where
      tested : (r : Place) (b : Bool) → is_value (Code r) w ≡ b → cond b (Some r) None ≡ Some q → e.address q ≡ Some n
      tested r true t g =
          let v = value_is V (Code r) w n small st t in
          let is : n ≡ v.0 = v.2 (place_below r v.0 v.1) in
          let who : r ≡ q = cc in
          ap e.address (sym who) ∙ v.1 ∙ ap Some (sym is)
      tested r false t g = absurd cc

      by_first : (c : SymByte) → code_from c w ≡ Some q → e.address q ≡ Some n
      by_first (Num k) g = absurd cc
      by_first Undef g = absurd cc
      by_first (Part (AbsHi r) j) g = absurd cc
      by_first (Part (PcHi r) j) g = absurd cc
      by_first (Part (Code r) j) g = tested r (is_value (Code r) w) refl g

  -- which isn't 0
  pub code_above : (w : SymWord) (n : ℕ) (q : Place) → n < 2 ^ 32 → WordStands V w n → code_of w ≡ Some q → 0 < n
  code_above w n q small st h = (room.even q n (code_is w n q small st h)).1

  pub code_stands : (q : Place) (x : ℕ) → e.address q ≡ Some x → WordStands V (code_word q) x
  code_stands q x h = value_stands V (Code q) x h

  -- ---- absolute addresses

  pub target_stands : (t : Target) (x : ℕ) → target_value e.address t ≡ Some x → WordStands V (target_word t) (x % 2 ^ 32)
  target_stands (target.Code q) x h =
      let small = place_below q x h in
      let same : x % 2 ^ 32 ≡ x = omega (arith, small) in
      rw same (code_stands q x h)
  target_stands (target.Number n) x h = let same : n ≡ x = cc in rw (sym same) (number_stands_for V n)
  target_stands (target.Absent n) x h = let same : n ≡ x = cc in rw (sym same) (number_stands_for V n)
  target_stands target.Nowhere x h = absurd cc

  -- an upper part stands for that of the address
  pub high_stands : (t : Target) (x : ℕ) → target_value e.address t ≡ Some x → WordStands V (high_word t) (hi20_of x * 2 ^ 12)
  high_stands (target.Code q) x h = value_stands V (AbsHi q) (hi20_of x * 2 ^ 12) (ap (option_map (λ y. hi20_of y * 2 ^ 12)) h)
  high_stands (target.Number n) x h = let same : n ≡ x = cc in rw (sym same) (number_stands V (hi20_of n * 2 ^ 12))
  high_stands (target.Absent n) x h = let same : n ≡ x = cc in rw (sym same) (number_stands V (hi20_of n * 2 ^ 12))
  high_stands target.Nowhere x h = absurd cc

  -- the sum with the lower part stands for the machine's
  pub low_stands :
      (t : Target) (base : SymWord) (n x : ℕ) → n < 2 ^ 32 → target_value e.address t ≡ Some x → WordStands V base n
      → WordStands V (low_sum t base) (add32 n (lo12_of x))
  low_stands (target.Code q) base n x small h st = tested (is_value (AbsHi q) base) refl
    where
      tested : (b : Bool) → is_value (AbsHi q) base ≡ b → WordStands V (cond b (code_word q) undef_word) (add32 n (lo12_of x))
      tested true g =
          let v = value_is V (AbsHi q) base n small st g in
          let high : v.0 ≡ hi20_of x * 2 ^ 12 = some_same (option_map (λ y. hi20_of y * 2 ^ 12) (e.address q)) (hi20_of x * 2 ^ 12) v.0 (ap (option_map (λ y. hi20_of y * 2 ^ 12)) h) v.1 in
          let is : n ≡ hi20_of x * 2 ^ 12 = v.2 (omega (arith, high)) ∙ high in
          let low = place_below q x h in
          let sum : add32 n (lo12_of x) ≡ x = ap (λ y. add32 y (lo12_of x)) is ∙ parts_sum x ∙ omega (arith, low) in
          rw sum (code_stands q x h)
      tested false g = undef_stands V (add32 n (lo12_of x))
  low_stands (target.Number k) base n x small h st = let same : k ≡ x = cc in rw (sym same) (sum_stands V base (lo12_of k) n small st)
  low_stands (target.Absent k) base n x small h st = let same : k ≡ x = cc in rw (sym same) (sum_stands V base (lo12_of k) n small st)
  low_stands target.Nowhere base n x small h st = absurd cc

  -- ---- addresses by the way to them

  -- what the `auipc` at a place gives
  way_value :
      (q : Place) (t : Target) (a x : ℕ) → pc_target (p.item q) ≡ Some t → e.address q ≡ Some a → target_value e.address t ≡ Some x
      → V (PcHi q) ≡ Some (pc_upper a x)
  way_value q t a x leads at h =
      ap (option_and_then (λ b. option_map (pc_upper b) (option_and_then (target_value e.address) (pc_target (p.item q))))) at
      ∙ ap (λ o. option_map (pc_upper a) (option_and_then (target_value e.address) o)) leads
      ∙ ap (option_map (pc_upper a)) h

  pub way_stands :
      (q : Place) (t : Target) (a x : ℕ) → pc_target (p.item q) ≡ Some t → e.address q ≡ Some a → target_value e.address t ≡ Some x
      → WordStands V (value_word (PcHi q)) (pc_upper a x)
  way_stands q t a x leads at h = value_stands V (PcHi q) (pc_upper a x) (way_value q t a x leads at h)

  -- the sum with the lower part that goes with it
  pub pc_low_stands :
      (q : Place) (t : Target) (a x : ℕ) (base : SymWord) (n : ℕ) → n < 2 ^ 32 → pc_target (p.item q) ≡ Some t → e.address q ≡ Some a
      → target_value e.address t ≡ Some x → WordStands V base n → WordStands V (pc_low_sum q (pc_target (p.item q)) base) (add32 n (lo12_of (way a x)))
  pc_low_stands q t a x base n small leads at h st = tested (is_value (PcHi q) base) refl
    where
      tested : (b : Bool) → is_value (PcHi q) base ≡ b → WordStands V (cond b (option_map_or target_word (pc_target (p.item q)) undef_word) undef_word) (add32 n (lo12_of (way a x)))
      tested true g =
          let v = value_is V (PcHi q) base n small st g in
          let upper : v.0 ≡ pc_upper a x = some_same (V (PcHi q)) (pc_upper a x) v.0 (way_value q t a x leads at h) v.1 in
          let is : n ≡ pc_upper a x = v.2 (omega (arith, upper)) ∙ upper in
          let sum : add32 n (lo12_of (way a x)) ≡ x % 2 ^ 32 = ap (λ y. add32 y (lo12_of (way a x))) is ∙ way_sum a x (place_below q a at) in
          rw (sum, leads) (target_stands t x h)
      tested false g = undef_stands V (add32 n (lo12_of (way a x)))

-- ---- the places that these words name

module _ (Named : Place → Type 0) where
  pub code_names : (q : Place) → Named q → NamesWord Named (code_word q)
  code_names q named = (named, named, named, named)

  pub target_names : (t : Target) → IsNamedTarget Named t → NamesWord Named (target_word t)
  target_names (target.Code q) named = code_names q named
  target_names (target.Number n) named = number_names Named n
  target_names (target.Absent n) named = number_names Named n
  target_names target.Nowhere named = undef_names Named

  pub high_names : (t : Target) → NamesWord Named (high_word t)
  high_names (target.Code q) = (tt, tt, tt, tt)
  high_names (target.Number n) = number_names Named (hi20_of n * 2 ^ 12)
  high_names (target.Absent n) = number_names Named (hi20_of n * 2 ^ 12)
  high_names target.Nowhere = undef_names Named

  -- a word if a test holds, and else an undefined one
  if_names : (b : Bool) (w : SymWord) → NamesWord Named w → NamesWord Named (cond b w undef_word)
  if_names true w names = names
  if_names false w names = undef_names Named

  pub low_names : (t : Target) (base : SymWord) → IsNamedTarget Named t → NamesWord Named base → NamesWord Named (low_sum t base)
  low_names (target.Code q) base named names = if_names (is_value (AbsHi q) base) (code_word q) (code_names q named)
  low_names (target.Number n) base named names = sum_names Named base (lo12_of n) names
  low_names (target.Absent n) base named names = sum_names Named base (lo12_of n) names
  low_names target.Nowhere base named names = undef_names Named

  pub pc_low_names : (q : Place) (o : Option Target) (base : SymWord) → ((t : Target) → o ≡ Some t → IsNamedTarget Named t) → NamesWord Named (pc_low_sum q o base)
  pc_low_names q None base named = if_names (is_value (PcHi q) base) undef_word (undef_names Named)
  pc_low_names q (Some t) base named = if_names (is_value (PcHi q) base) (target_word t) (target_names t (named t refl))
