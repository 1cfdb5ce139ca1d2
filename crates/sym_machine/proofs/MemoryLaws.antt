-- Memory as it is kept: what a byte is, and which changes of what is kept are changes of memory.
use Rattle.std.proofs.Common.{◌≡◌, ℕ, ◌+◌, ◌-◌, ◌<◌, ◌≤◌, ⊎_elim, List, [], ◌∷◌, length, get_or, Bool, true, false, cond, refl, sym, ap, ◌∙◌, subst, arith, leb, ltb, ◌⊎◌, inl, inr}
use Rattle.std.specs.Prelude.{◌&&◌, ◌||◌}
use Rattle.std.proofs.lemmas.Bool.{and_from, and_parts, cases_lt, cond-false, cond-true, le-leb, leb-true, lt-ltb, ltb-true}
use Rattle.std.proofs.lemmas.List.{get_or_default, get_or_past, same_lists}
use Rattle.zc_base.specs.declared.mem_map.MemMap.{MemMap}
use Rattle.rv_decode.specs.Memory.{Extent, Data, Stack, cell_at, cells_changed, changed, extents_of, is_data, lies_in, spans, written}
use Rattle.rv_decode.proofs.MemoryLaws.{get_or-cells_changed, length-cells_changed, untouched}
use Rattle.rv_decode.proofs.WriteLaws.{changed-after, written_moved}
use Rattle.sym_machine.specs.declared.word.SymByte.{SymByte}
use Rattle.sym_machine.specs.declared.word.SymByte.TheVariants.{Undef}
use Rattle.sym_machine.specs.Kept.{IsChanged, IsKept, Kept, above_only, kept_from, regions_of}
use Rattle.sym_machine.specs.Pages.{AreCellsWritten}
use Rattle.sym_machine.specs.Step.{undefined_below}
use Rattle.sym_machine.proofs.WrittenLaws.{not_below, written_further}

-- ---- cells

-- cells after a change, byte by byte
pub same_cells : (f : ℕ → SymByte → SymByte) (at : ℕ) (bytes bytes' : List SymByte) → length bytes' ≡ length bytes
    → ((i : ℕ) (d : SymByte) → i < length bytes → get_or bytes' i d ≡ f (at + i) (get_or bytes i d))
    → bytes' ≡ cells_changed f at bytes
same_cells f at bytes bytes' long each =
    same_lists _ _ (long ∙ sym (length-cells_changed f at bytes))
    (λ i d lt. let within : i < length bytes = omega arith in each i d within ∙ sym (get_or-cells_changed f at i bytes d within))

-- ---- the stack below an address

-- the stack below an address is undefined, and all other bytes stay
module _ (m : MemMap) (sp x : ℕ) (c : SymByte) where
  undefined_there : m.stack_low ≤ x → x < sp → undefined_below m sp x c ≡ Undef
  undefined_there low lt =
      cond-true (leb m.stack_low x && ltb x sp) Undef c (and_from (leb m.stack_low x) (ltb x sp) (le-leb m.stack_low x low) (lt-ltb x sp lt))

  defined_there : (m.stack_low ≤ x → x < sp → ⊥) → undefined_below m sp x c ≡ c
  defined_there out = either (leb m.stack_low x && ltb x sp) refl
    where
      either : (b : Bool) → (leb m.stack_low x && ltb x sp) ≡ b → cond b Undef c ≡ c
      either true e = let q = and_parts (leb m.stack_low x) (ltb x sp) e in absurd (out (leb-true m.stack_low x q.0) (ltb-true x sp q.1))
      either false e = refl

-- what is kept after the stack below an address became undefined
pub settled_kept : (k : Kept) (sp : ℕ) (stack' : List SymByte) → IsKept k → length stack' ≡ length k.stack
    → ((i : ℕ) (d : SymByte) → i < length k.stack → get_or stack' i d ≡ cond (ltb i (sp - k.map.stack_low)) Undef (get_or k.stack i d))
    → k.map.stack_low ≤ sp → sp ≤ k.map.stack_high
    → IsKept (record { map = k.map; bytes = k.bytes; stack = stack'; from = sp })
    × (regions_of (record { map = k.map; bytes = k.bytes; stack = stack'; from = sp }) ≡ changed (undefined_below k.map sp) (regions_of k))
settled_kept k sp stack' is long each low high = (
  record { some = is.some; top = is.top; clear = is.clear; size = long ∙ is.size; low = low; high = high; apart = is.apart; below = below },
  (λ j. record { kind = Data; at = k.map.data_low; cells = data_is j } ∷ record { kind = Stack; at = k.map.stack_low; cells = stack_is j } ∷ []),
)
  where
    below : (i : ℕ) → k.map.stack_low + i < sp → get_or stack' i Undef ≡ Undef
    below i lt =
        each i Undef (omega (arith, is.size, lt, high))
        ∙ cond-true (ltb i (sp - k.map.stack_low)) Undef (get_or k.stack i Undef) (lt-ltb i (sp - k.map.stack_low) (omega (arith, lt)))

    data_is : k.bytes ≡ cells_changed (undefined_below k.map sp) k.map.data_low k.bytes
    data_is = same_cells (undefined_below k.map sp) k.map.data_low k.bytes k.bytes refl
        (λ i d lt. sym (defined_there k.map sp (k.map.data_low + i) (get_or k.bytes i d) (λ l h. omega (arith, is.apart, lt, l))))

    stack_is : stack' ≡ cells_changed (undefined_below k.map sp) k.map.stack_low k.stack
    stack_is = same_cells (undefined_below k.map sp) k.map.stack_low k.stack stack' long (λ i d lt. each i d lt ∙ by_place i d (cases_lt i (sp - k.map.stack_low)))
      where
        by_place : (i : ℕ) (d : SymByte) → (i < sp - k.map.stack_low) ⊎ (sp - k.map.stack_low ≤ i)
            → cond (ltb i (sp - k.map.stack_low)) Undef (get_or k.stack i d) ≡ undefined_below k.map sp (k.map.stack_low + i) (get_or k.stack i d)
        by_place i d (inl under) =
            cond-true (ltb i (sp - k.map.stack_low)) Undef (get_or k.stack i d) (lt-ltb i (sp - k.map.stack_low) under)
            ∙ sym (undefined_there k.map sp (k.map.stack_low + i) (get_or k.stack i d) (omega arith) (omega (arith, under)))
        by_place i d (inr over) =
            cond-false (ltb i (sp - k.map.stack_low)) Undef (get_or k.stack i d) (not_below i (sp - k.map.stack_low) over)
            ∙ sym (defined_there k.map sp (k.map.stack_low + i) (get_or k.stack i d) (λ l h. omega (arith, over, h, low)))

-- below what is kept the stack is undefined
pub settled_stays : (k : Kept) → IsKept k → changed (undefined_below k.map (kept_from k)) (regions_of k) ≡ regions_of k
settled_stays k is = sym (settled_kept k k.from k.stack is refl each is.low is.high).1
  where
    each : (i : ℕ) (d : SymByte) → i < length k.stack → get_or k.stack i d ≡ cond (ltb i (k.from - k.map.stack_low)) Undef (get_or k.stack i d)
    each i d lt = either (ltb i (k.from - k.map.stack_low)) refl
      where
        either : (t : Bool) → ltb i (k.from - k.map.stack_low) ≡ t → get_or k.stack i d ≡ cond t Undef (get_or k.stack i d)
        either true h = let below = ltb-true i (k.from - k.map.stack_low) h in get_or_default k.stack i d Undef lt ∙ is.below i (omega (arith, below))
        either false h = refl

-- ---- changes of what is kept

-- bytes of data and of the stack are changed, and those of the stack below what is kept stay
pub changed_kept : (k : Kept) (f : ℕ → SymByte → SymByte) (bytes' stack' : List SymByte) → IsKept k → length bytes' ≡ length k.bytes → length stack' ≡ length k.stack
    → ((i : ℕ) (d : SymByte) → i < length k.bytes → get_or bytes' i d ≡ f (k.map.data_low + i) (get_or k.bytes i d))
    → ((i : ℕ) (d : SymByte) → i < length k.stack → k.from ≤ k.map.stack_low + i → get_or stack' i d ≡ f (k.map.stack_low + i) (get_or k.stack i d))
    → ((i : ℕ) (d : SymByte) → i < length k.stack → k.map.stack_low + i < k.from → get_or stack' i d ≡ get_or k.stack i d)
    → IsChanged f k (record { map = k.map; bytes = bytes'; stack = stack'; from = k.from })
changed_kept k f bytes' stack' is long_bytes long_stack data_each stack_each stack_stays = record {
  kept = record {
    some = is.some;
    top = is.top;
    clear = is.clear;
    size = long_stack ∙ is.size;
    low = is.low;
    high = is.high;
    apart = omega (arith, is.apart, long_bytes);
    below = λ i lt. stack_stays i Undef (omega (arith, is.size, is.high, lt)) lt ∙ is.below i lt;
  };
  map = refl;
  from = refl;
  regions = λ j. record { kind = Data; at = k.map.data_low; cells = data_is j } ∷ record { kind = Stack; at = k.map.stack_low; cells = stack_is j } ∷ [];
}
  where
    data_is : bytes' ≡ cells_changed (above_only k f) k.map.data_low k.bytes
    data_is = same_cells (above_only k f) k.map.data_low k.bytes bytes' long_bytes
        (λ i d lt. data_each i d lt ∙ sym (defined_there k.map k.from (k.map.data_low + i) (f (k.map.data_low + i) (get_or k.bytes i d)) (λ l h. omega (arith, is.apart, lt, l))))

    stack_is : stack' ≡ cells_changed (above_only k f) k.map.stack_low k.stack
    stack_is = same_cells (above_only k f) k.map.stack_low k.stack stack' long_stack (λ i d lt. by_place i d lt (cases_lt (k.map.stack_low + i) k.from))
      where
        by_place : (i : ℕ) (d : SymByte) → i < length k.stack → (k.map.stack_low + i < k.from) ⊎ (k.from ≤ k.map.stack_low + i)
            → get_or stack' i d ≡ above_only k f (k.map.stack_low + i) (get_or k.stack i d)
        by_place i d lt (inl under) =
            stack_stays i d lt under ∙ get_or_default k.stack i d Undef lt ∙ is.below i under
            ∙ sym (undefined_there k.map k.from (k.map.stack_low + i) (f (k.map.stack_low + i) (get_or k.stack i d)) (omega arith) under)
        by_place i d lt (inr kept) =
            stack_each i d lt kept
            ∙ sym (defined_there k.map k.from (k.map.stack_low + i) (f (k.map.stack_low + i) (get_or k.stack i d)) (λ l h. omega (arith, kept, h)))

-- cells are written over those of data, or of the stack from what is kept up
module _ (k : Kept) (is : IsKept k) (a i : ℕ) (bytes cells : List SymByte) where
  abbrev f : ℕ → SymByte → SymByte
  f = written a (length bytes) (λ l. get_or bytes l Undef)

  pub stored_data : a ≡ k.map.data_low + i → i + length bytes ≤ length k.bytes → length cells ≡ length k.bytes → AreCellsWritten i bytes k.bytes cells
      → IsChanged (written a (length bytes) (λ l. get_or bytes l Undef)) k (record { map = k.map; bytes = cells; stack = k.stack; from = k.from })
  stored_data at fits long each =
      changed_kept k f cells k.stack is long refl
      (λ j d lt. each j d lt ∙ written_moved i a (length bytes) (λ l. get_or bytes l Undef) j (k.map.data_low + j) (get_or k.bytes j d) (omega (arith, at)))
      (λ j d lt kept. sym (untouched a (length bytes) (λ l. get_or bytes l Undef) (k.map.stack_low + j) (get_or k.stack j d) (λ l h. omega (arith, at, fits, is.apart, h))))
      (λ j d lt under. refl)

  pub stored_stack : a ≡ k.map.stack_low + i → k.from ≤ a → length cells ≡ length k.stack → AreCellsWritten i bytes k.stack cells
      → IsChanged (written a (length bytes) (λ l. get_or bytes l Undef)) k (record { map = k.map; bytes = k.bytes; stack = cells; from = k.from })
  stored_stack at kept long each =
      changed_kept k f k.bytes cells is refl long
      (λ j d lt. sym (untouched a (length bytes) (λ l. get_or bytes l Undef) (k.map.data_low + j) (get_or k.bytes j d) (λ l h. omega (arith, at, is.apart, lt, l))))
      (λ j d lt above. each j d lt ∙ written_moved i a (length bytes) (λ l. get_or bytes l Undef) j (k.map.stack_low + j) (get_or k.stack j d) (omega (arith, at)))
      (λ j d lt under. each j d lt ∙ untouched i (length bytes) (λ l. get_or bytes l Undef) j (get_or k.stack j d) (λ l h. omega (arith, at, kept, under, l)))

-- nothing is written where nothing is kept
module _ (k : Kept) (is : IsKept k) (a n : ℕ) (given : ℕ → SymByte) where
  pub stored_nowhere : ((j : ℕ) → j < length k.bytes → a ≤ k.map.data_low + j → k.map.data_low + j < a + n → ⊥)
      → ((j : ℕ) → j < length k.stack → k.from ≤ k.map.stack_low + j → a ≤ k.map.stack_low + j → k.map.stack_low + j < a + n → ⊥)
      → IsChanged (written a n given) k k
  stored_nowhere no_data no_stack =
      changed_kept k (written a n given) k.bytes k.stack is refl refl
      (λ j d lt. sym (untouched a n given (k.map.data_low + j) (get_or k.bytes j d) (no_data j lt)))
      (λ j d lt kept. sym (untouched a n given (k.map.stack_low + j) (get_or k.stack j d) (no_stack j lt kept)))
      (λ j d lt under. refl)

-- no byte, and one byte more
module _ (a : ℕ) (given : ℕ → SymByte) where
  pub write_none : (k : Kept) → IsKept k → IsChanged (written a 0 given) k k
  write_none k is = stored_nowhere k is a 0 given (λ j lt l h. omega (arith, l, h)) (λ j lt kept l h. omega (arith, l, h))

  -- n bytes, and then m more behind them
  pub write_further : (n m : ℕ) (rest : ℕ → SymByte) → ((j : ℕ) → j < m → rest j ≡ given (n + j)) → (k k' k'' : Kept)
      → IsChanged (written a n given) k k' → IsChanged (written (a + n) m rest) k' k'' → IsChanged (written a (n + m) given) k k''
  write_further n m rest same k k' k'' first second = record {
    kept = second.kept;
    map = second.map ∙ first.map;
    from = second.from ∙ first.from;
    regions = second.regions
        ∙ (λ j. changed (λ x c. undefined_below (first.map j) (first.from j) x (written (a + n) m rest x c)) (first.regions j))
        ∙ changed-after (above_only k (written (a + n) m rest)) (above_only k (written a n given)) (above_only k (written a (n + m) given)) both (regions_of k);
  }
    where
      both : (x : ℕ) (c : SymByte) → above_only k (written (a + n) m rest) x (above_only k (written a n given) x c) ≡ above_only k (written a (n + m) given) x c
      both x c = either (leb k.map.stack_low x && ltb x (kept_from k))
        where
          either : (b : Bool) → cond b Undef (written (a + n) m rest x (cond b Undef (written a n given x c))) ≡ cond b Undef (written a (n + m) given x c)
          either true = refl
          either false = written_further a n m given rest same x c

  pub write_more : (n : ℕ) (k k' k'' : Kept) → IsChanged (written a n given) k k' → IsChanged (written (a + n) 1 (λ _. given n)) k' k'' → IsChanged (written a (n + 1) given) k k''
  write_more n k k' k'' first second = write_further n 1 (λ _. given n) (λ j lt. ap given (let e : n ≡ n + j = omega (arith, lt) in e)) k k' k'' first second

  -- a write goes only by its own bytes
  pub write_same : (n : ℕ) (rest : ℕ → SymByte) → ((j : ℕ) → j < n → rest j ≡ given j) → (k k' : Kept) → IsKept k → IsChanged (written a n rest) k k' → IsChanged (written a n given) k k'
  write_same n rest same k k' is new =
      let here : a ≡ a + 0 = omega arith in
      let all : 0 + n ≡ n = omega arith in
      subst (λ (m : ℕ). IsChanged (written a m given) k k') all
      (write_further 0 n rest (λ j lt. same j lt ∙ ap given (let e : j ≡ 0 + j = omega arith in e)) k k k' (write_none k is) (subst (λ (b : ℕ). IsChanged (written b n rest) k k') here new))

-- ---- what is there

-- where accesses may lie
pub reaches_is : (k : Kept) (a n : ℕ) (data_there stack_there : Bool)
    → data_there ≡ spans (record { kind = Data; at = k.map.data_low; size = length k.bytes }) a n
    → stack_there ≡ spans (record { kind = Stack; at = k.map.stack_low; size = length k.stack }) a n
    → (data_there || stack_there) ≡ lies_in is_data (extents_of (regions_of k)) a n
reaches_is k a n d s in_data in_stack =
    (λ j. in_data j || in_stack j)
    ∙ ap (λ b. spans (record { kind = Data; at = k.map.data_low; size = length k.bytes }) a n || b) (or_none (spans (record { kind = Stack; at = k.map.stack_low; size = length k.stack }) a n))
  where
    or_none : (b : Bool) → b ≡ (b || false)
    or_none true = refl
    or_none false = refl

-- the byte at an address from the stack's first one on
pub byte_in_stack : (k : Kept) → IsKept k → (a : ℕ) → k.map.stack_low ≤ a → get_or k.stack (a - k.map.stack_low) Undef ≡ cell_at Undef (regions_of k) a
byte_in_stack k is a low =
    let not_data : spans (record { kind = Data; at = k.map.data_low; size = length k.bytes }) a 1 ≡ false = spans_past (record { kind = Data; at = k.map.data_low; size = length k.bytes }) a (omega (arith, is.apart, low)) in
    either (leb (a + 1) (k.map.stack_low + length k.stack)) refl
    ∙ sym (cond-false _ (get_or k.bytes (a - k.map.data_low) Undef) _ not_data)
  where
    spans_past : (e : Extent) (a : ℕ) → e.at + e.size ≤ a → spans e a 1 ≡ false
    spans_past e a past = by (leb e.at a) (leb (a + 1) (e.at + e.size)) refl
      where
        by : (b c : Bool) → leb (a + 1) (e.at + e.size) ≡ c → (b && c) ≡ false
        by b true h = absurd (let l = leb-true (a + 1) (e.at + e.size) h in omega (arith, l, past))
        by true false h = refl
        by false false h = refl

    inside : leb k.map.stack_low a ≡ true
    inside = le-leb k.map.stack_low a low

    either : (t : Bool) → leb (a + 1) (k.map.stack_low + length k.stack) ≡ t
        → get_or k.stack (a - k.map.stack_low) Undef ≡ cond (leb k.map.stack_low a && leb (a + 1) (k.map.stack_low + length k.stack)) (get_or k.stack (a - k.map.stack_low) Undef) Undef
    either true h = sym (cond-true _ (get_or k.stack (a - k.map.stack_low) Undef) Undef (λ j. inside j && h j))
    either false h =
        get_or_past k.stack (a - k.map.stack_low) Undef (past (leb (a + 1) (k.map.stack_low + length k.stack)) h refl)
        ∙ sym (cond-false _ (get_or k.stack (a - k.map.stack_low) Undef) Undef (λ j. inside j && h j))
      where
        past : (t : Bool) → t ≡ false → leb (a + 1) (k.map.stack_low + length k.stack) ≡ t → length k.stack ≤ a - k.map.stack_low
        past t e is_t = ⊎_elim
            (λ lt. absurd (let yes = le-leb (a + 1) (k.map.stack_low + length k.stack) (omega (arith, lt, low)) in cc))
            (λ le. le)
            (cases_lt (a - k.map.stack_low) (length k.stack))

-- the byte at an address of data
pub byte_in_data : (k : Kept) → (a : ℕ) → k.map.data_low ≤ a → a < k.map.data_low + length k.bytes → get_or k.bytes (a - k.map.data_low) Undef ≡ cell_at Undef (regions_of k) a
byte_in_data k a low high =
    sym (cond-true _ (get_or k.bytes (a - k.map.data_low) Undef) _ (and_from (leb k.map.data_low a) (leb (a + 1) (k.map.data_low + length k.bytes)) (le-leb k.map.data_low a low) (le-leb (a + 1) (k.map.data_low + length k.bytes) (omega (arith, high)))))
