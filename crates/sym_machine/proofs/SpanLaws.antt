-- Where the bytes of an access are kept, and what they are.
use Rattle.std.proofs.Common.{◌≡◌, ℕ, ◌+◌, ◌-◌, ◌<◌, ◌≤◌, List, [], ◌∷◌, Option, Some, None, length, get_or, Bool, true, false, refl, sym, ap, ◌∙◌, arith, subst, leb}
use Rattle.std.specs.Prelude.{◌||◌, IfSome}
use Rattle.std.proofs.lemmas.Bool.{and_from, le-leb}
use Rattle.rv_decode.specs.Memory.{Data, Stack, cell_at, extents_of, is_data, lies_in, spans, written}
use Rattle.sym_machine.specs.declared.span.Span.TheVariants as span
use Rattle.sym_machine.specs.declared.word.SymByte.{SymByte}
use Rattle.sym_machine.specs.declared.word.SymByte.TheVariants.{Undef}
use Rattle.sym_machine.specs.Kept.{IsChanged, IsKept, IsSpan, Kept, regions_of, sym_word_at}
use Rattle.sym_machine.specs.Pages.{AreCellsWritten, cell_word}
use Rattle.sym_machine.proofs.MemoryLaws.{byte_in_data, byte_in_stack, reaches_is, stored_data, stored_stack}
use Rattle.sym_machine.proofs.WrittenLaws.{written_one}

-- what holds anyway holds if there is something
pub anyway : {A : Type 0} (o : Option A) (T : Type 0) → T → IfSome o (λ _. T)
anyway None T t = tt
anyway (Some x) T t = t

or_true : (b : Bool) → (b || true) ≡ true
or_true true = refl
or_true false = refl

-- bytes of the stack that are kept from an index on, of memory as a function has it
module _ {m k : Kept} (view : m ≡ k) (is : IsKept m) (a n i : ℕ) (at : IsSpan k a n (span.Stack i)) where
  -- the access lies in the stack
  pub stack_there : lies_in is_data (extents_of (regions_of k)) a n ≡ true
  stack_there =
      let first = spans (record { kind = Data; at = k.map.data_low; size = length k.bytes }) a n in
      let there : spans (record { kind = Stack; at = k.map.stack_low; size = length k.stack }) a n ≡ true =
      and_from (leb k.map.stack_low a) (leb (a + n) (k.map.stack_low + length k.stack)) (le-leb k.map.stack_low a (omega (arith, at))) (le-leb (a + n) (k.map.stack_low + length k.stack) (omega (arith, at))) in
      sym (reaches_is k a n first true refl (sym there)) ∙ or_true first

  -- each byte
  pub stack_cell : (x j : ℕ) → a ≤ x → j + a ≡ i + x → get_or m.stack j Undef ≡ cell_at Undef (regions_of k) x
  stack_cell x j from index =
      let here : j ≡ x - k.map.stack_low = omega (arith, index, at, from) in
      ap (λ (s : Kept). get_or s.stack j Undef) view ∙ ap (λ l. get_or k.stack l Undef) here
      ∙ byte_in_stack k (subst IsKept view is) x (omega (arith, at, from))

-- bytes that are kept in data
module _ {m k : Kept} (view : m ≡ k) (a n i : ℕ) (at : IsSpan k a n (span.Data i)) where
  pub data_there : lies_in is_data (extents_of (regions_of k)) a n ≡ true
  data_there =
      let second = spans (record { kind = Stack; at = k.map.stack_low; size = length k.stack }) a n in
      let there : spans (record { kind = Data; at = k.map.data_low; size = length k.bytes }) a n ≡ true =
      and_from (leb k.map.data_low a) (leb (a + n) (k.map.data_low + length k.bytes)) (le-leb k.map.data_low a (omega (arith, at))) (le-leb (a + n) (k.map.data_low + length k.bytes) (omega (arith, at))) in
      sym (reaches_is k a n true second (sym there) refl)

  pub data_cell : (x j : ℕ) → a ≤ x → x < a + n → j + a ≡ i + x → get_or m.bytes j Undef ≡ cell_at Undef (regions_of k) x
  data_cell x j from before index =
      let here : j ≡ x - k.map.data_low = omega (arith, index, at, from) in
      ap (λ (s : Kept). get_or s.bytes j Undef) view ∙ ap (λ l. get_or k.bytes l Undef) here
      ∙ byte_in_data k x (omega (arith, at, from)) (omega (arith, at, before))

-- the word of four of them
pub stack_word : {m k : Kept} → m ≡ k → IsKept m → (a i : ℕ) → IsSpan k a 4 (span.Stack i) → cell_word m.stack i ≡ sym_word_at (regions_of k) a
stack_word view is a i at = λ j. record {
  b0 = stack_cell view is a 4 i at a i (omega arith) (omega arith) j;
  b1 = stack_cell view is a 4 i at (a + 1) (i + 1) (omega arith) (omega arith) j;
  b2 = stack_cell view is a 4 i at (a + 2) (i + 2) (omega arith) (omega arith) j;
  b3 = stack_cell view is a 4 i at (a + 3) (i + 3) (omega arith) (omega arith) j;
}

pub data_word : {m k : Kept} → m ≡ k → (a i : ℕ) → IsSpan k a 4 (span.Data i) → cell_word m.bytes i ≡ sym_word_at (regions_of k) a
data_word view a i at = λ j. record {
  b0 = data_cell view a 4 i at a i (omega arith) (omega arith) (omega arith) j;
  b1 = data_cell view a 4 i at (a + 1) (i + 1) (omega arith) (omega arith) (omega arith) j;
  b2 = data_cell view a 4 i at (a + 2) (i + 2) (omega arith) (omega arith) (omega arith) j;
  b3 = data_cell view a 4 i at (a + 3) (i + 3) (omega arith) (omega arith) (omega arith) j;
}

-- what is written there
module _ {m k : Kept} (view : m ≡ k) (is : IsKept m) (a i : ℕ) (bytes cells : List SymByte) where
  pub written_in_data : a ≡ k.map.data_low + i → i + length bytes ≤ length k.bytes → length cells ≡ length m.bytes → AreCellsWritten i bytes m.bytes cells
      → IsChanged (written a (length bytes) (λ l. get_or bytes l Undef)) k (record { map = m.map; bytes = cells; stack = m.stack; from = m.from })
  written_in_data at fits long each =
      subst (λ (s : Kept). IsChanged (written a (length bytes) (λ l. get_or bytes l Undef)) s (record { map = m.map; bytes = cells; stack = m.stack; from = m.from })) view
      (stored_data m is a i bytes cells (at ∙ ap (λ (s : Kept). s.map.data_low + i) (sym view)) (omega (arith, fits, ap (λ (s : Kept). length s.bytes) view)) long each)

  pub written_in_stack : a ≡ k.map.stack_low + i → k.from ≤ a → length cells ≡ length m.stack → AreCellsWritten i bytes m.stack cells
      → IsChanged (written a (length bytes) (λ l. get_or bytes l Undef)) k (record { map = m.map; bytes = m.bytes; stack = cells; from = m.from })
  written_in_stack at kept long each =
      subst (λ (s : Kept). IsChanged (written a (length bytes) (λ l. get_or bytes l Undef)) s (record { map = m.map; bytes = m.bytes; stack = cells; from = m.from })) view
      (stored_stack m is a i bytes cells (at ∙ ap (λ (s : Kept). s.map.stack_low + i) (sym view)) (omega (arith, kept, ap (λ (s : Kept). s.from) view)) long each)

-- a write of one byte
pub written_byte : (k k' : Kept) (a : ℕ) (b : SymByte) → IsChanged (written a (length (b ∷ [])) (λ l. get_or (b ∷ []) l Undef)) k k' → IsChanged (written a 1 (λ _. b)) k k'
written_byte k k' a b is = subst (λ (f : ℕ → SymByte → SymByte). IsChanged f k k') (λ j x c. written_one a (λ l. get_or (b ∷ []) l Undef) (λ _. b) refl x c j) is
