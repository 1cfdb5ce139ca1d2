-- In what order sections are listed: by object, and then by index. So do their places come.
use Rattle.std.proofs.Common.{◌≡◌, ℕ, ◌+◌, ◌<◌, ◌≤◌, ◌⊎◌, inl, inr, List, [], ◌∷◌, ◌++◌, map, true, nat_lt, eqb, refl, sym, arith}
use Rattle.std.specs.Prelude.{All}
use Rattle.std.specs.List.{enumerate_from, flat_map}
use Rattle.std.proofs.lemmas.Bool.{and_from, eq-eqb, lt-ltb, or_left, or_right}
use Rattle.std.proofs.lemmas.List.Elements.{All-append, All-cons, All-head, All-nil, All-tail, All-weaker}
use Rattle.zc_base.specs.Places.{is_before}
use Rattle.elf32_read.specs.Parts.{ObjectParts, SectionParts}
use Rattle.psabi_sym.specs.Indexed.{IndexedSection, all_sections, sections_in}
use Rattle.block_cut.specs.Items.{place_of}
use Rattle.zc_link.proofs.ListedLaws.{listed_at}

-- a section comes before another
abbrev pub IsBefore : IndexedSection → IndexedSection → Type 0
IsBefore l m = (l.object < m.object) ⊎ ((l.object ≡ m.object) × (l.index < m.index))

-- each comes before all after it
abbrev pub IsRising : List IndexedSection → Type 0
IsRising [] = Unit {0}
IsRising (l ∷ ls) = All (IsBefore l) ls × IsRising ls

-- places come in the order of their sections
pub before_places : (l m : IndexedSection) (k n : ℕ) → IsBefore l m → is_before (place_of l k) (place_of m n) ≡ true
before_places l m k n (inl object) = or_left (nat_lt l.object m.object) _ (lt-ltb l.object m.object object)
before_places l m k n (inr same) =
    or_right (nat_lt l.object m.object) _
    (and_from (eqb l.object m.object) _ (eq-eqb l.object m.object same.0)
    (or_left (nat_lt l.index m.index) _ (lt-ltb l.index m.index same.1)))

-- ---- an object's own

-- at or after an index of an object
abbrev IsFrom : ℕ → ℕ → IndexedSection → Type 0
IsFrom o n l = (l.object ≡ o) × (n ≤ l.index)

-- an object's sections from an index on
abbrev own : ℕ → ℕ → List SectionParts → List IndexedSection
own o n ss = map (listed_at o) (enumerate_from n ss)

-- an object's sections from an index on are at or after any index up to that
own_from : (o n low : ℕ) (ss : List SectionParts) → low ≤ n → All (IsFrom o low) (own o n ss)
own_from o n low [] le = All-nil (IsFrom o low)
own_from o n low (s ∷ ss) le = All-cons (IsFrom o low) (listed_at o (n, s)) (own o (n + 1) ss) (refl, le) (own_from o (n + 1) low ss (omega (arith, le)))

-- an object's sections come in order
own_rising : (o n : ℕ) (ss : List SectionParts) → IsRising (own o n ss)
own_rising o n [] = tt
own_rising o n (s ∷ ss) = (
  All-weaker (IsFrom o (n + 1)) (IsBefore (listed_at o (n, s))) (λ l from. inr (sym from.0, omega (arith, from.1))) (own o (n + 1) ss) (own_from o (n + 1) (n + 1) ss (omega arith)),
  own_rising o (n + 1) ss,
)

-- ---- all

-- an object's own, and those of later objects
rising_append : (o : ℕ) (xs ys : List IndexedSection) → IsRising xs → IsRising ys → All (IsFrom o 0) xs → All (λ l. o < l.object) ys → IsRising (xs ++ ys)
rising_append o [] ys rising_x rising_y are later = rising_y
rising_append o (x ∷ xs) ys rising_x rising_y are later =
    let here = All-head (IsFrom o 0) x xs are in (
      All-append (IsBefore x) xs ys rising_x.0 (All-weaker (λ (l : IndexedSection). o < l.object) (IsBefore x) (λ l above. inl (omega (arith, above, here.0))) ys later),
      rising_append o xs ys rising_x.1 rising_y (All-tail (IsFrom o 0) x xs are) later,
    )

-- the sections of objects from an index on are of these objects
objects_from : (n low : ℕ) (objects : List ObjectParts) → low ≤ n → All (λ l. low ≤ l.object) (flat_map sections_in (enumerate_from n objects))
objects_from n low [] le = All-nil (λ (l : IndexedSection). low ≤ l.object)
objects_from n low (o ∷ os) le =
    let P : IndexedSection → Type 0 = λ l. low ≤ l.object in
    All-append P (own n 0 o.sections) (flat_map sections_in (enumerate_from (n + 1) os))
    (All-weaker (IsFrom n 0) P (λ l from. omega (arith, from.0, le)) (own n 0 o.sections) (own_from n 0 0 o.sections (omega arith)))
    (objects_from (n + 1) low os (omega (arith, le)))

-- the sections of objects from an index on come in order
objects_rising : (n : ℕ) (objects : List ObjectParts) → IsRising (flat_map sections_in (enumerate_from n objects))
objects_rising n [] = tt
objects_rising n (o ∷ os) =
    rising_append n (own n 0 o.sections) (flat_map sections_in (enumerate_from (n + 1) os)) (own_rising n 0 o.sections) (objects_rising (n + 1) os) (own_from n 0 0 o.sections (omega arith))
    (All-weaker (λ (l : IndexedSection). n + 1 ≤ l.object) (λ l. n < l.object) (λ l above. omega (arith, above)) (flat_map sections_in (enumerate_from (n + 1) os)) (objects_from (n + 1) (n + 1) os (omega arith)))

-- all sections of the objects come in order
pub sections_rising : (objects : List ObjectParts) → IsRising (all_sections objects)
unfolding all_sections
sections_rising objects = objects_rising 0 objects
