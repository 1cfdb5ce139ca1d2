-- Buffers of environment calls: where they lie, what a read leaves in them, and which bytes a write takes from them.
use Rattle.std.proofs.Common.{◌≡◌, ℕ, zero, suc, ◌+◌, ◌-◌, ◌<◌, ◌≤◌, List, [], ◌∷◌, length, map, take, drop, Option, Some, None, true, false, refl, sym, ap, ◌∙◌, subst, inl, inr, ⊎_elim, arith, get_or, leb, min}
use Rattle.std.specs.Prelude.{◌||◌, ◌⊎◌, All}
use Rattle.std.proofs.lemmas.Bool.{and_parts, leb-true, or_cases}
use Rattle.std.proofs.lemmas.List.{get_or-map, length-map, length-take}
use Rattle.std.proofs.lemmas.List.Elements.{All-take}
use Rattle.zc_base.specs.declared.place.Place.{Place}
use Rattle.rv_decode.specs.Memory.{Data, Extent, Stack, blank, extents_of, is_data, lies_in, spans, written}
use Rattle.rv_decode.specs.State.{ZcCore, byte_in}
use Rattle.rv_decode.proofs.MemoryLaws.{length_blank, untouched}
use Rattle.sym_machine.specs.declared.word.SymByte.{SymByte}
use Rattle.sym_machine.specs.declared.word.SymByte.TheVariants.{Num, Part, Undef}
use Rattle.sym_machine.specs.Change.{numbers_at, then_number}
use Rattle.sym_machine.specs.Program.{Program, start_memory}
use Rattle.sym_machine.specs.State.{PlainCore, cell_of}
use Rattle.zc_machine.specs.Buffer.{bytes_at}
use Rattle.zc_link.specs.Image.{Image}
use Rattle.zc_link.specs.Invariants.Room.{Room, SpansMemory}
use Rattle.zc_link.specs.Sound.{Ready}
use Rattle.zc_link.specs.Stands.{ByteStands, IsMemory}
use Rattle.zc_link.specs.Values.{value_in}
use Rattle.zc_link.proofs.Writes.{Agrees, within, written_agrees}

-- a buffer of `len` bytes that the program has at one address and the machine at another: it lies in memory, and the addresses
-- are the same; or it has no bytes, and then its address isn't looked at
abbrev pub IsBuffer : Program → ℕ → ℕ → ℕ → Type 0
IsBuffer p at to len = (len ≡ 0) ⊎ ((at ≡ to) × SpansMemory p at len)

-- ---- where it lies

-- what lies in one of the program's regions spans memory
buffer_spans : {p : Program} {e : Image} → Room p e → (a n : ℕ) → lies_in is_data (extents_of (start_memory p)) a n ≡ true → SpansMemory p a n
buffer_spans {p} room a n h = ⊎_elim
    (λ d. inl (bounds data_extent d))
    (λ rest. ⊎_elim
    (λ k. let b = bounds stack_extent k in inr (b.0, omega (arith, b.1, size, some)))
    (λ (none : false ≡ true). absurd cc)
    (or_cases (spans stack_extent a n) false rest))
    (or_cases (spans data_extent a n) (spans stack_extent a n || false) h)
  where
    data_extent : Extent
    data_extent = record { kind = Data; at = p.map.data_low; size = length p.bytes }

    stack_extent : Extent
    stack_extent = record { kind = Stack; at = p.map.stack_low; size = length (blank (p.map.stack_high - p.map.stack_low) Undef) }

    size : length (blank (p.map.stack_high - p.map.stack_low) Undef) ≡ p.map.stack_high - p.map.stack_low
    size = length_blank (p.map.stack_high - p.map.stack_low) Undef

    some : p.map.stack_low ≤ p.map.stack_high
    some = room.some

    bounds : (x : Extent) → spans x a n ≡ true → (x.at ≤ a) × (a + n ≤ x.at + x.size)
    bounds x is = let q = and_parts (leb x.at a) (leb (a + n) (x.at + x.size)) is in (leb-true x.at a q.0, leb-true (a + n) (x.at + x.size) q.1)

pub buffer_lies : {p : Program} {e : Image} → Room p e → (s : PlainCore) (a n : ℕ) → extents_of s.memory ≡ extents_of (start_memory p) → lies_in is_data (extents_of s.memory) a n ≡ true → SpansMemory p a n
buffer_lies room s a n lies h = buffer_spans room a n (ap (λ es. lies_in is_data es a n) (sym lies) ∙ h)

-- ---- reads

-- the bytes that are taken from the input for a buffer, if both machines have this input left
pub record Taken (len : ℕ) (input left : List ℕ) : Type 0 where
  pub same : take (min len (length input)) input ≡ take len left
  pub count : length (take (min len (length input)) input) ≡ min len (length input)
  pub short : length (take (min len (length input)) input) ≤ len
  pub rest : drop (min len (length input)) input ≡ drop len left
  pub are : All (λ b. b < 256) input → All (λ b. b < 256) (take (min len (length input)) input)

pub taken_bytes : (len : ℕ) (input left : List ℕ) → input ≡ left → Taken len input left
taken_bytes len input left same = record {
  same = fewer len input ∙ ap (take len) same;
  count = count;
  short = omega (arith, count);
  rest = after len input ∙ ap (drop len) same;
  are = All-take (λ b. b < 256) (min len (length input)) input;
}
  where
    fewer : (n : ℕ) (xs : List ℕ) → take (min n (length xs)) xs ≡ take n xs
    fewer zero xs = let none : min 0 (length xs) ≡ 0 = omega arith in ap (λ k. take k xs) none
    fewer (suc n) [] = let none : min (suc n) 0 ≡ 0 = omega arith in ap (λ k. take k []) none
    fewer (suc n) (x ∷ xs) =
        let more : min (suc n) (suc (length xs)) ≡ suc (min n (length xs)) = omega arith in
        ap (λ k. take k (x ∷ xs)) more ∙ ap (λ l. x ∷ l) (fewer n xs)

    after : (n : ℕ) (xs : List ℕ) → drop (min n (length xs)) xs ≡ drop n xs
    after zero xs = let none : min 0 (length xs) ≡ 0 = omega arith in ap (λ k. drop k xs) none
    after (suc n) [] = let none : min (suc n) 0 ≡ 0 = omega arith in ap (λ k. drop k []) none
    after (suc n) (x ∷ xs) =
        let more : min (suc n) (suc (length xs)) ≡ suc (min n (length xs)) = omega arith in
        ap (λ k. drop k (x ∷ xs)) more ∙ after n xs

    count : length (take (min len (length input)) input) ≡ min len (length input)
    count = length-take (min len (length input)) input ∙ omega arith

module _ {p : Program} {e : Image} (room : Room p e) where
  -- what a read leaves in the buffer
  pub read_agrees : {Named : Place → Type 0} (at to len : ℕ) (bytes : List ℕ) → IsBuffer p at to len → length bytes ≤ len → All (λ b. b < 256) bytes
      → Agrees p Named e (written at (length (map Num bytes)) (λ i. get_or (map Num bytes) i Undef)) (written to (length bytes) (λ i. get_or bytes i 0))
  read_agrees at to len bytes (inl none) short are =
      let empty : length bytes ≡ 0 = omega (arith, short, none) in
      let both : length (map Num bytes) ≡ 0 = length-map bytes Num ∙ empty in
      record {
        stands = λ x c v m st. rw (untouched at (length (map Num bytes)) (λ i. get_or (map Num bytes) i Undef) x c (λ l u. omega (arith, both, l, u)), untouched to (length bytes) (λ i. get_or bytes i 0) x v (λ l u. omega (arith, empty, l, u))) st;
        names = λ x c named. rw (untouched at (length (map Num bytes)) (λ i. get_or (map Num bytes) i Undef) x c (λ l u. omega (arith, both, l, u))) named;
        text = λ x v text. untouched to (length bytes) (λ i. get_or bytes i 0) x v (λ l u. omega (arith, empty, l, u));
        small = λ x v lt. rw (untouched to (length bytes) (λ i. get_or bytes i 0) x v (λ l u. omega (arith, empty, l, u))) lt;
      }
  read_agrees {Named} at to len bytes (inr lies) short are =
      let n = length bytes in
      let f : ℕ → SymByte = λ i. get_or (map Num bytes) i Undef in
      let g : ℕ → ℕ = λ i. get_or bytes i 0 in
      let number : (i : ℕ) → i < n → f i ≡ Num (g i) = λ i lt. get_or-map Num bytes i 0 Undef lt in
      let agrees : Agrees p Named e (written at n f) (written at n g) = written_agrees room at n f g (part lies.1)
      (λ i lt. rw (number i lt) refl) (λ i lt. rw (number i lt) tt) (λ i lt. are i 0 lt) in
      subst (λ k. Agrees p Named e (written at k f) (written to n g)) (sym (length-map bytes Num)) (subst (λ a. Agrees p Named e (written at n f) (written a n g)) lies.0 agrees)
    where
      part : SpansMemory p at len → SpansMemory p at (length bytes)
      part (inl d) = inl (d.0, omega (arith, d.1, short))
      part (inr k) = inr (k.0, omega (arith, k.1, short))

  -- ---- writes

  module _ {Named : Place → Type 0} {s : PlainCore} {z : ZcCore} (ready : Ready p Named e s z) where
    -- bytes that are numbers are the machine's
    bytes_are : (n a : ℕ) (bytes : List ℕ) → ((x : ℕ) → a ≤ x → x < a + n → IsMemory p x) → numbers_at s.memory a n ≡ Some bytes → bytes ≡ bytes_at z a n
    bytes_are zero a bytes m h = cc
    bytes_are (suc n) a bytes m h = by (cell_of s a) (numbers_at s.memory (suc a) n) refl refl (ready.memory a (m a (omega arith) (omega arith)))
        (λ more rest. bytes_are n (suc a) more (λ x l u. m x (omega (arith, l)) (omega (arith, u))) rest) h
      where
        by : (c : SymByte) (o : Option (List ℕ)) → cell_of s a ≡ c → numbers_at s.memory (suc a) n ≡ o → ByteStands (value_in p e.address) c (byte_in z a)
            → ((more : List ℕ) → numbers_at s.memory (suc a) n ≡ Some more → more ≡ bytes_at z (suc a) n) → then_number c o ≡ Some bytes → bytes ≡ byte_in z a ∷ bytes_at z (suc a) n
        by (Num b) (Some more) is rest st each g =
            let same : b ∷ more ≡ bytes = cc in
            sym same ∙ ap (λ k. k ∷ more) (sym st) ∙ ap (λ l. byte_in z a ∷ l) (each more rest)
        by (Num b) None is rest st each g = absurd cc
        by (Part v i) o is rest st each g = absurd cc
        by Undef o is rest st each g = absurd cc

    pub numbers_are : (at to len : ℕ) (bytes : List ℕ) → IsBuffer p at to len → numbers_at s.memory at len ≡ Some bytes → bytes ≡ bytes_at z to len
    numbers_are at to len bytes (inl none) is =
        let empty : numbers_at s.memory at 0 ≡ Some bytes = ap (numbers_at s.memory at) (sym none) ∙ is in
        let nothing : [] ≡ bytes = cc in
        sym nothing ∙ ap (bytes_at z to) (sym none)
    numbers_are at to len bytes (inr lies) is = bytes_are len at bytes (λ x l u. within room len at x lies.1 l u) is ∙ ap (λ a. bytes_at z a len) lies.0
