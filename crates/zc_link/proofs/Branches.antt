-- Conditions of branches that are known are the machine's: of numbers, and of addresses of code, which aren't 0 and differ if their
-- places do.
use Rattle.std.proofs.Common.{◌≡◌, ℕ, ◌^◌, ◌<◌, Option, Some, None, Bool, true, false, cond, refl, sym, ap, ◌∙◌, arith, eqb}
use Rattle.std.specs.Prelude.{◌&&◌, not}
use Rattle.std.specs.Option.{option_map, option_map_or}
use Rattle.std.proofs.lemmas.Bool.{and_parts, eqb-true, eq-eqb, ne_eqb}
use Rattle.zc_base.specs.Places.{same_place}
use Rattle.zc_base.specs.declared.place.Place.{Place}
use Rattle.rv_decode.specs.declared.instr.BranchOp.{BranchOp}
use Rattle.rv_decode.specs.declared.instr.BranchOp.TheVariants.{Beq, Bne, Blt, Bge, Bltu, Bgeu}
use Rattle.rv_decode.specs.Results.{is_taken}
use Rattle.shrink_layout.proofs.PlaceLaws.{same_place-false, same_place-true}
use Rattle.sym_machine.specs.declared.known.Known.{Known}
use Rattle.sym_machine.specs.declared.known.Known.TheVariants.{Number, Code, Unknown}
use Rattle.sym_machine.specs.declared.word.SymWord.{SymWord}
use Rattle.sym_machine.specs.declared.word.Value.{Value}
use Rattle.sym_machine.specs.Conditions.{condition, equal_words, is_solid, known_of, numeric_condition}
use Rattle.sym_machine.specs.Program.{Program}
use Rattle.sym_machine.specs.Words.{code_of, number_of}
use Rattle.zc_link.specs.Image.{Image}
use Rattle.zc_link.specs.Invariants.Room.{Room}
use Rattle.zc_link.specs.Stands.{WordStands}
use Rattle.zc_link.specs.Values.{value_in}
use Rattle.zc_link.proofs.Addresses.{code_is, some_same}
use Rattle.zc_link.proofs.Words.{number_is}

module _ {p : Program} {e : Image} (room : Room p e) where
  abbrev V : Value → Option ℕ
  V = value_in p e.address

  -- ---- words that are known

  abbrev pub Knows : Known → ℕ → Type 0
  Knows (Number m) n = m ≡ n
  Knows (Code q) n = e.address q ≡ Some n
  Knows Unknown n = Unit {0}

  pub knows : (w : SymWord) (n : ℕ) → n < 2 ^ 32 → WordStands V w n → Knows (known_of w) n
  knows w n small h = by (number_of w) (code_of w) refl refl
    where
      by : (o : Option ℕ) (u : Option Place) → number_of w ≡ o → code_of w ≡ u → Knows (option_map_or Number o (option_map_or Code u Unknown)) n
      by (Some m) u is code = number_is V w n m small h is
      by None (Some q) is code = code_is room w n q small h code
      by None None is code = tt

  -- ---- equal words

  -- 0 and an address of code
  zero_or_code : (m k n : ℕ) (q : Place) (t : Bool) → m ≡ k → e.address q ≡ Some n → cond (eqb m 0) (Some false) None ≡ Some t → (k ≡ n → ⊥) × (t ≡ false)
  zero_or_code m k n q t is at h = tested (eqb m 0) refl h
    where
      tested : (x : Bool) → eqb m 0 ≡ x → cond x (Some false) None ≡ Some t → (k ≡ n → ⊥) × (t ≡ false)
      tested true u g =
          let zero = eqb-true m 0 u in
          let some = (room.even q n at).1 in
          (λ same. omega (arith, zero, some, same, is), cc)
      tested false u g = absurd cc

  -- two addresses of code
  places_equal :
      (q r : Place) (m n : ℕ) (t : Bool) → e.address q ≡ Some m → e.address r ≡ Some n
      → cond (same_place q r) (Some true) (cond (is_solid (p.item q) && is_solid (p.item r)) (Some false) None) ≡ Some t → eqb m n ≡ t
  places_equal q r m n t at_q at_r h = tested (same_place q r) (is_solid (p.item q) && is_solid (p.item r)) refl refl h
    where
      tested :
          (x y : Bool) → same_place q r ≡ x → (is_solid (p.item q) && is_solid (p.item r)) ≡ y
          → cond x (Some true) (cond y (Some false) None) ≡ Some t → eqb m n ≡ t
      tested true y u v g =
          let same = same_place-true q r u in
          let is : true ≡ t = cc in
          eq-eqb m n (some_same (e.address q) n m (ap e.address same ∙ at_r) at_q) ∙ is
      tested false true u v g =
          let solid = and_parts (is_solid (p.item q)) (is_solid (p.item r)) v in
          let is : false ≡ t = cc in
          ne_eqb m n (λ same. same_place-false q r u (room.distinct q r n solid.0 solid.1 (at_q ∙ ap Some same) at_r)) ∙ is
      tested false false u v g = absurd cc

  equal_is : (k l : Known) (m n : ℕ) (t : Bool) → Knows k m → Knows l n → equal_words p k l ≡ Some t → eqb m n ≡ t
  equal_is (Number a) (Number b) m n t hk hl h = rw (sym hk, sym hl) cc
  equal_is (Number a) (Code q) m n t hk hl h = let differ = zero_or_code a m n q t hk hl h in ne_eqb m n differ.0 ∙ sym differ.1
  equal_is (Number a) Unknown m n t hk hl h = absurd cc
  equal_is (Code q) (Number b) m n t hk hl h = let differ = zero_or_code b n m q t hl hk h in ne_eqb m n (λ same. differ.0 (sym same)) ∙ sym differ.1
  equal_is (Code q) (Code r) m n t hk hl h = places_equal q r m n t hk hl h
  equal_is (Code q) Unknown m n t hk hl h = absurd cc
  equal_is Unknown (Number b) m n t hk hl h = absurd cc
  equal_is Unknown (Code q) m n t hk hl h = absurd cc
  equal_is Unknown Unknown m n t hk hl h = absurd cc

  -- ---- conditions

  mapped : (o : Option Bool) (t : Bool) → option_map not o ≡ Some t → (x : Bool) × (o ≡ Some x) × (not x ≡ t)
  mapped None t h = absurd cc
  mapped (Some x) t h = (x, refl, cc)

  numeric_is :
      (op : BranchOp) (a b : SymWord) (m n : ℕ) (t : Bool) → m < 2 ^ 32 → n < 2 ^ 32 → WordStands V a m → WordStands V b n
      → numeric_condition op (number_of a) (number_of b) ≡ Some t → is_taken op m n ≡ t
  numeric_is op a b m n t small_m small_n ha hb h =
      by (number_of a) (number_of b) (λ k is. number_is V a m k small_m ha is) (λ k is. number_is V b n k small_n hb is) h
    where
      by : (o u : Option ℕ) → ((k : ℕ) → o ≡ Some k → k ≡ m) → ((k : ℕ) → u ≡ Some k → k ≡ n) → numeric_condition op o u ≡ Some t → is_taken op m n ≡ t
      by None None left right g = absurd cc
      by None (Some l) left right g = absurd cc
      by (Some k) None left right g = absurd cc
      by (Some k) (Some l) left right g = rw (sym (left k refl), sym (right l refl)) cc

  pub condition_is :
      (op : BranchOp) (a b : SymWord) (m n : ℕ) (t : Bool) → m < 2 ^ 32 → n < 2 ^ 32 → WordStands V a m → WordStands V b n
      → condition p op a b ≡ Some t → is_taken op m n ≡ t
  condition_is Beq a b m n t small_m small_n ha hb h = equal_is (known_of a) (known_of b) m n t (knows a m small_m ha) (knows b n small_n hb) h
  condition_is Bne a b m n t small_m small_n ha hb h =
      let equal = mapped (equal_words p (known_of a) (known_of b)) t h in
      ap not (equal_is (known_of a) (known_of b) m n equal.0 (knows a m small_m ha) (knows b n small_n hb) equal.1) ∙ equal.2
  condition_is Blt a b m n t small_m small_n ha hb h = numeric_is Blt a b m n t small_m small_n ha hb h
  condition_is Bge a b m n t small_m small_n ha hb h = numeric_is Bge a b m n t small_m small_n ha hb h
  condition_is Bltu a b m n t small_m small_n ha hb h = numeric_is Bltu a b m n t small_m small_n ha hb h
  condition_is Bgeu a b m n t small_m small_n ha hb h = numeric_is Bgeu a b m n t small_m small_n ha hb h
