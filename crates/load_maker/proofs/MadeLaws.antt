-- The generated objects by their indices, and what their symbols are.
use Rattle.std.proofs.Common.{◌≡◌, ℕ, zero, suc, ◌+◌, ◌*◌, ◌/◌, ◌%◌, ◌<◌, ◌≤◌, ◌⊎◌, inl, inr, List, [], ◌∷◌, ◌++◌, length, map, drop, get_or, Some, slice_get, true, false, refl, sym, ap, subst, ◌∙◌, arith}
use Rattle.std.specs.Prelude.{All}
use Rattle.std.specs.List.{range_with_len}
use Rattle.std.specs.Option.{option_and_then, option_map}
use Rattle.std.proofs.lemmas.Fmt.{decimal_injective}
use Rattle.std.proofs.lemmas.List.Elements.{All-head, All-tail}
use Rattle.std.proofs.lemmas.Option.{slice_get-map, slice_get_within}
use Rattle.elf32_read.specs.Parts.{ObjectParts, SymbolParts}
use Rattle.psabi_sym.specs.Indexed.{IndexedSymbol, symbol_at}
use Rattle.psabi_sym.specs.Inputs.{ParsedInputs}
use Rattle.psabi_sym.specs.Names.{is_strong, strong_definition}
use Rattle.psabi_sym.specs.Resolve.{Definition, name_definition}
use Rattle.psabi_sym.specs.Resolve.Definition.{InObject}
use Rattle.zc_base.specs.declared.mem_map.MemMap.{MemMap}
use Rattle.sound_objects.specs.Parts.{objects_of, read_of}
use Rattle.sound_objects.specs.WellFormed.{HaveDefinitions, AreSingle, HasStrong}
use Rattle.sound_objects.proofs.NameLaws.{defined_strong, strong_there}
use Rattle.sound_objects.proofs.PartsLaws.{symbol_in}
use Rattle.load_maker.specs.Functions.{functions_from}
use Rattle.load_maker.specs.Objects.{function_name, function_symbols, group_count, group_object, made_parts, result_symbol, start_object, start_statements, start_symbol, undefined_symbol}
use Rattle.load_maker.specs.Statements.{named_by}
use Rattle.load_maker.specs.declared.make_objects.TheConstants.{FUNCTION_LIMIT}
use Rattle.load_maker.proofs.BodyLaws.{bodies_of, code_of, group_long}
use Rattle.load_maker.proofs.SymbolLaws.{IsFunctionAt, function_at, function_there, length-function_symbols}
use Rattle.load_maker.proofs.WrittenLaws.{are_named, group_right}
use Rattle.load_maker.proofs.StartLaws.{start_right}

-- ---- elements of lists

at_range : {X : Type 0} (f : ℕ → X) (a m k : ℕ) (x : X) → slice_get (map f (range_with_len a m)) k ≡ Some x → (k < m) × (x ≡ f (a + k))
at_range f a zero k x at = absurd cc
at_range f a (suc m) zero x at =
    let same : f a ≡ x = cc in
    let here : a ≡ a + 0 = omega arith in
    (omega arith, sym same ∙ ap f here)
at_range f a (suc m) (suc k) x at =
    let rest = at_range f (a + 1) m k x at in
    let here : a + 1 + k ≡ a + suc k = omega arith in
    (omega (arith, rest.0), rest.1 ∙ ap f here)

range_at : {X : Type 0} (f : ℕ → X) (a m k : ℕ) → k < m → slice_get (map f (range_with_len a m)) k ≡ Some (f (a + k))
range_at f a zero k lt = absurd (omega (arith, lt))
range_at f a (suc m) zero lt = let here : a ≡ a + 0 = omega arith in ap (λ i. Some (f i)) here
range_at f a (suc m) (suc k) lt = let here : a + 1 + k ≡ a + suc k = omega arith in range_at f (a + 1) m k (omega (arith, lt)) ∙ ap (λ i. Some (f i)) here

pub slice_left : {X : Type 0} (xs ys : List X) (k : ℕ) (x : X) → slice_get xs k ≡ Some x → slice_get (xs ++ ys) k ≡ Some x
slice_left [] ys k x at = absurd cc
slice_left (y ∷ xs) ys zero x at = at
slice_left (y ∷ xs) ys (suc k) x at = slice_left xs ys k x at

pub slice_right : {X : Type 0} (xs ys : List X) (k j : ℕ) (x : X) → k ≡ length xs + j → slice_get ys j ≡ Some x → slice_get (xs ++ ys) k ≡ Some x
slice_right [] ys k j x e at = ap (slice_get ys) (e ∙ omega arith) ∙ at
slice_right (y ∷ xs) ys zero j x e at = absurd (omega (arith, e))
slice_right (y ∷ xs) ys (suc k) j x e at = slice_right xs ys k j x (omega (arith, e)) at

pub slice_drop : {X : Type 0} (m : ℕ) (xs : List X) (k j : ℕ) (x : X) → k ≡ m + j → slice_get xs k ≡ Some x → slice_get (drop m xs) j ≡ Some x
slice_drop zero xs k j x e at = let same : j ≡ k = omega (arith, e) in ap (slice_get xs) same ∙ at
slice_drop (suc m) [] k j x e at = absurd cc
slice_drop (suc m) (y ∷ xs) zero j x e at = absurd (omega (arith, e))
slice_drop (suc m) (y ∷ xs) (suc k) j x e at = slice_drop m xs k j x (omega (arith, e)) at

-- an element of two lists
either_of : {X : Type 0} (xs ys : List X) (k : ℕ) (x : X) → slice_get (xs ++ ys) k ≡ Some x → (slice_get xs k ≡ Some x) ⊎ ((j : ℕ) × (k ≡ length xs + j) × (slice_get ys j ≡ Some x))
either_of [] ys k x at = inr (k, omega arith, at)
either_of (y ∷ xs) ys zero x at = inl at
either_of (y ∷ xs) ys (suc k) x at = elim (either_of xs ys k x at) [ inl is ↦ inl is | inr is ↦ inr (is.0, omega (arith, is.1), is.2) ]

-- ---- objects

-- the first object, or one of the others
pub data IsObject (number n o : ℕ) (p : ObjectParts) : Type 0 where
  First : o ≡ 0 → p ≡ start_object number n → IsObject number n o p
  Later : (k : ℕ) → k < group_count n → o ≡ suc k → p ≡ group_object (functions_from n 0 number) k → IsObject number n o p

pub object_at : (number n o : ℕ) (p : ObjectParts) → slice_get (made_parts number n) o ≡ Some p → IsObject number n o p
object_at number n zero p at = let same : start_object number n ≡ p = cc in First refl (sym same)
object_at number n (suc k) p at =
    let two = at_range (group_object (functions_from n 0 number)) 0 (group_count n) k p at in
    let here : 0 + k ≡ k = omega arith in
    Later k two.0 refl (two.1 ∙ ap (group_object (functions_from n 0 number)) here)

pub later_there : (number n k : ℕ) → k < group_count n → slice_get (made_parts number n) (suc k) ≡ Some (group_object (functions_from n 0 number) k)
later_there number n k within =
    let here : 0 + k ≡ k = omega arith in
    range_at (group_object (functions_from n 0 number)) 0 (group_count n) k within ∙ ap (λ i. Some (group_object (functions_from n 0 number) i)) here

-- what the files read as
abbrev pub objects : ℕ → ℕ → List ObjectParts
objects number n = map read_of (made_parts number n)

-- a symbol of one of them is there
pub symbol_there : (number n o i : ℕ) (p : ObjectParts) (s : SymbolParts) → slice_get (made_parts number n) o ≡ Some p → slice_get p.symbols i ≡ Some s → symbol_at (objects number n) o (suc i) ≡ Some s
symbol_there number n o i p s at is =
    ap (option_and_then (λ (object : ObjectParts). slice_get object.symbols (suc i))) (slice_get-map read_of (made_parts number n) o ∙ ap (option_map read_of) at) ∙ is

-- ---- symbols

-- the symbols of the generated objects, by their objects and positions
pub data IsMade (number n o i : ℕ) (s : SymbolParts) : Type 0 where
  Result : s ≡ result_symbol → IsMade number n o i s
  Start : o ≡ 0 → i ≡ 1 → s ≡ start_symbol → IsMade number n o i s
  Function : (k : ℕ) → k < group_count n → o ≡ suc k → i < 8 → 8 * k + i < n → IsFunctionAt (8 * k) 0 (bodies_of number n k) i s → IsMade number n o i s
  Called : (j : ℕ) → j < n → s ≡ undefined_symbol j → IsMade number n o i s

called_at : (n : ℕ) (js : List ℕ) (k : ℕ) (s : SymbolParts) → All (λ j. j < n) js → slice_get (map undefined_symbol js) k ≡ Some s → (j : ℕ) × (j < n) × (s ≡ undefined_symbol j)
called_at n [] k s all at = absurd cc
called_at n (j ∷ js) zero s all at = let same : undefined_symbol j ≡ s = cc in (j, All-head (λ i. i < n) j js all, sym same)
called_at n (j ∷ js) (suc k) s all at = called_at n js k s (All-tail (λ i. i < n) j js all) at

module _ (number n : ℕ) (few : n ≤ FUNCTION_LIMIT) where
  start_symbol_made : (i : ℕ) (s : SymbolParts) → slice_get (start_object number n).symbols i ≡ Some s → IsMade number n 0 i s
  start_symbol_made zero s at = let same : result_symbol ≡ s = cc in Result (sym same)
  start_symbol_made (suc zero) s at = let same : start_symbol ≡ s = cc in Start refl refl (sym same)
  start_symbol_made (suc (suc j)) s at =
      let other = called_at n (named_by [] (start_statements number n)) j s (are_named n 0 0 (start_statements number n) (start_right number n)).below at in
      Called other.0 other.1 other.2

  group_symbol_made : (k i : ℕ) (s : SymbolParts) → k < group_count n → slice_get (group_object (functions_from n 0 number) k).symbols i ≡ Some s → IsMade number n (suc k) i s
  group_symbol_made k i s within at = elim (either_of own called i s at) [
    | inl is ↦
        let inside = slice_get_within own i s is in
        let long = length-function_symbols (8 * k) 0 (bodies_of number n k) in
        Function k within refl (omega (arith, inside, long, group_long number n k)) (omega (arith, inside, long, group_long number n k))
        (function_at (8 * k) 0 (bodies_of number n k) i s is)
    | inr is ↦
        let other = called_at n (drop (length (bodies_of number n k)) named) is.0 s (are_named n (8 * k) (length (bodies_of number n k)) (code_of number n k) (group_right number n k few within)).below is.2 in
        Called other.0 other.1 other.2
  ]
    where
      named : List ℕ
      named = named_by (range_with_len (8 * k) (length (bodies_of number n k))) (code_of number n k)

      own : List SymbolParts
      own = function_symbols (8 * k) 0 (bodies_of number n k)

      called : List SymbolParts
      called = map undefined_symbol (drop (length (bodies_of number n k)) named)

  -- each is one of these
  pub symbol_made : (o i : ℕ) (s : SymbolParts) → symbol_at (objects number n) o (suc i) ≡ Some s → IsMade number n o i s
  symbol_made o i s at = by (object_at number n o own.0 own.1)
    where
      own : (p : ObjectParts) × (slice_get (made_parts number n) o ≡ Some p) × (slice_get p.symbols i ≡ Some s)
      own = symbol_in (made_parts number n) o i s at

      by : IsObject number n o own.0 → IsMade number n o i s
      by (First first is) =
          subst (λ m. IsMade number n m i s) (sym first) (start_symbol_made i s (ap (λ (p : ObjectParts). slice_get p.symbols i) (sym is) ∙ own.2))
      by (Later k within later is) =
          subst (λ m. IsMade number n m i s) (sym later) (group_symbol_made k i s within (ap (λ (p : ObjectParts). slice_get p.symbols i) (sym is) ∙ own.2))

  -- ---- strong definitions

  -- `_start`, or a function
  pub data IsDefined (l : IndexedSymbol) : Type 0 where
    AtStart : l.object ≡ 0 → l.index ≡ 2 → l.symbol ≡ start_symbol → IsDefined l
    AtFunction : (k j : ℕ) → k < group_count n → l.object ≡ suc k → l.index ≡ suc j → j < 8 → 8 * k + j < n → IsFunctionAt (8 * k) 0 (bodies_of number n k) j l.symbol → IsDefined l

  pub strong_is : (l : IndexedSymbol) → HasStrong (objects number n) l → IsDefined l
  strong_is l is = by l.index refl
    where
      of_made : (i : ℕ) → l.index ≡ suc i → IsMade number n l.object i l.symbol → IsDefined l
      of_made i index (Result made) = let weak : is_strong l.symbol ≡ false = ap is_strong made in absurd (cc (is.strong, weak))
      of_made i index (Start first second made) = AtStart first (index ∙ ap (λ k. suc k) second) made
      of_made i index (Function k within later small number made) = AtFunction k i within later index small number made
      of_made i index (Called j lt made) = let weak : is_strong l.symbol ≡ false = ap is_strong made in absurd (cc (is.strong, weak))

      by : (i : ℕ) → l.index ≡ i → IsDefined l
      by zero index = absurd (omega (arith, is.has.some, index))
      by (suc i) index = of_made i index (symbol_made l.object i l.symbol (ap (symbol_at (objects number n) l.object) (sym index) ∙ is.has.there))

  pub function_named : (k j : ℕ) (s : SymbolParts) → IsFunctionAt (8 * k) 0 (bodies_of number n k) j s → s.name ≡ function_name (8 * k + j)
  function_named k j s at = ap (λ (x : SymbolParts). x.name) at.is

  -- `_start` begins otherwise than `f`
  pub not_start : (i : ℕ) → start_symbol.name ≡ function_name i → ⊥
  not_start i same = omega (arith, ap (λ l. get_or l 0 0) same)

  same_number : (i j : ℕ) → i < n → j < n → function_name i ≡ function_name j → i ≡ j
  same_number i j one two same = decimal_injective i j (omega (arith, few, one)) (omega (arith, few, two)) (ap (drop 1) same)

  pub single : AreSingle (objects number n)
  single l m one two same = by (strong_is l one) (strong_is m two)
    where
      by : IsDefined l → IsDefined m → (l.object ≡ m.object) × (l.index ≡ m.index)
      by (AtStart a b is) (AtStart c d other) = (a ∙ sym c, b ∙ sym d)
      by (AtStart a b is) (AtFunction k j within object index small lt other) =
          absurd (not_start (8 * k + j) (sym (ap (λ (x : SymbolParts). x.name) is) ∙ same ∙ function_named k j m.symbol other))
      by (AtFunction k j within object index small lt is) (AtStart c d other) =
          absurd (not_start (8 * k + j) (sym (ap (λ (x : SymbolParts). x.name) other) ∙ sym same ∙ function_named k j l.symbol is))
      by (AtFunction k j within object index small lt is) (AtFunction k' j' within' object' index' small' lt' other) =
          let e = same_number (8 * k + j) (8 * k' + j') lt lt' (sym (function_named k j l.symbol is) ∙ same ∙ function_named k' j' m.symbol other) in
          (omega (arith, e, object, object', small, small'), omega (arith, e, index, index', small, small'))

  -- each function has one that is found
  abbrev pub HasDefinition : ℕ → Type 0
  HasDefinition i = (l : IndexedSymbol) × (strong_definition (objects number n) (function_name i) ≡ Some l)

  defined_in : (k j : ℕ) → k < group_count n → j < length (bodies_of number n k) → HasDefinition (8 * k + j)
  defined_in k j within inside =
      let bodies = bodies_of number n k in
      let there = function_there (8 * k) 0 bodies j inside in
      let own = function_at (8 * k) 0 bodies j there.0 there.1 in
      let p = group_object (functions_from n 0 number) k in
      let rest = map undefined_symbol (drop (length bodies) (named_by (range_with_len (8 * k) (length bodies)) (code_of number n k))) in
      let l : IndexedSymbol = record { object = suc k; index = suc j; symbol = there.0 } in
      let at : symbol_at (objects number n) (suc k) (suc j) ≡ Some there.0 =
      symbol_there number n (suc k) j p there.0 (later_there number n k within) (slice_left (function_symbols (8 * k) 0 bodies) rest j there.0 there.1) in
      let strong : is_strong there.0 ≡ true = ap is_strong own.is in
      subst (λ name. (m : IndexedSymbol) × (strong_definition (objects number n) name ≡ Some m)) (function_named k j there.0 own)
      (strong_there (objects number n) l (record { has = record { some = omega arith; there = at }; strong = strong }))

  pub function_defined : (i : ℕ) → i < n → HasDefinition i
  function_defined i lt =
      subst HasDefinition (omega arith)
      (defined_in (i / 8) (i % 8) (omega (arith, lt)) (omega (arith, group_long number n (i / 8), lt)))

  pub all_defined : (memory : MemMap) → HaveDefinitions (objects_of memory (made_parts number n))
  all_defined memory l is = by l.index refl
    where
      inputs : ParsedInputs
      inputs = objects_of memory (made_parts number n)

      of_made : (i : ℕ) → IsMade number n l.object i l.symbol → (d : Definition) × (name_definition inputs l.symbol.name ≡ Some d)
      of_made i (Result made) = absurd (omega (arith, is.global, ap (λ (x : SymbolParts). x.bind) made))
      of_made i (Start first second made) = absurd (omega (arith, is.undefined, ap (λ (x : SymbolParts). x.home) made))
      of_made i (Function k within later small number made) = absurd (omega (arith, is.undefined, ap (λ (x : SymbolParts). x.home) made.is))
      of_made i (Called j lt made) =
          let own = function_defined j lt in
          (InObject own.0, defined_strong inputs l.symbol.name own.0 (ap (λ (x : SymbolParts). strong_definition (objects number n) x.name) made ∙ own.1))

      by : (i : ℕ) → l.index ≡ i → (d : Definition) × (name_definition inputs l.symbol.name ≡ Some d)
      by zero index = absurd (omega (arith, is.has.some, index))
      by (suc i) index = of_made i (symbol_made l.object i l.symbol (ap (symbol_at (objects number n) l.object) (sym index) ∙ is.has.there))
