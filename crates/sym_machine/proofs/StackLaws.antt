-- A stack in strips: what its cells are, cells that are opened and written, and a mark that is moved.
use Rattle.std.proofs.Common.{◌≡◌, ◌≢◌, ℕ, ◌+◌, ◌-◌, ◌*◌, ◌/◌, ◌%◌, ◌<◌, ◌≤◌, List, Bool, true, false, cond, length, get_or, set, min, max, refl, sym, ap, ◌∙◌, arith, ◌⊎◌, inl, inr, leb, ltb, get_or-set_same, get_or-set_other}
use Rattle.std.specs.Prelude.{◌&&◌}
use Rattle.std.proofs.lemmas.Bool.{and_from, and_parts, cases_eq, cases_lt, cond-true, cond-false, le-leb, leb-true, lt-ltb}
use Rattle.std.proofs.lemmas.List.{get_or-replicate, length-replicate, same_lists}
use Rattle.std.proofs.lemmas.List.FromFn.{get_or-map-range_with_len, length-map-range_with_len}
use Rattle.rv_decode.specs.Memory.{blank, written}
use Rattle.rv_decode.proofs.MemoryLaws.{untouched}
use Rattle.sym_machine.specs.declared.word.SymByte.{SymByte}
use Rattle.sym_machine.specs.declared.word.SymByte.TheVariants.{Undef}
use Rattle.sym_machine.specs.Pages.{AreCellsWritten, cell_word}
use Rattle.sym_machine.specs.Stack.{AreAlike, AreOpened, AreStrips, Strips, is_open, stack_cell, stack_cells}
use Rattle.sym_machine.proofs.WrittenLaws.{not_below, written_there}

-- ---- tests

not_le : (a b : ℕ) → b < a → leb a b ≡ false
not_le a b lt = either (leb a b) refl
  where
    either : (t : Bool) → leb a b ≡ t → t ≡ false
    either true h = absurd (let l = leb-true a b h in omega (arith, l, lt))
    either false h = refl

-- ---- what the cells are

module _ (s : Strips) where
  pub parts_open : (i : ℕ) → is_open s i ≡ true → (s.mark ≤ i) × (get_or s.live (i / 32) false ≡ true)
  parts_open i h = let q = and_parts (leb s.mark i) (get_or s.live (i / 32) false) h in (leb-true s.mark i q.0, q.1)

  pub from_parts : (i : ℕ) → s.mark ≤ i → get_or s.live (i / 32) false ≡ true → is_open s i ≡ true
  from_parts i low live = and_from (leb s.mark i) (get_or s.live (i / 32) false) (le-leb s.mark i low) live

  pub cell_open : (i : ℕ) → is_open s i ≡ true → stack_cell s i ≡ get_or s.cells i Undef
  cell_open i h = cond-true (is_open s i) (get_or s.cells i Undef) Undef h

  pub cell_shut : (i : ℕ) → is_open s i ≡ false → stack_cell s i ≡ Undef
  cell_shut i h = cond-false (is_open s i) (get_or s.cells i Undef) Undef h

  cell_below : (i : ℕ) → i < s.mark → stack_cell s i ≡ Undef
  cell_below i lt = cell_shut i (ap (λ b. b && get_or s.live (i / 32) false) (not_le s.mark i lt))

  cell_dead : (i : ℕ) → get_or s.live (i / 32) false ≡ false → stack_cell s i ≡ Undef
  cell_dead i none = either (is_open s i) refl
    where
      either : (t : Bool) → is_open s i ≡ t → stack_cell s i ≡ Undef
      either true h = let live = (parts_open i h).1 in absurd (let no : true ≡ false = sym live ∙ none in cc)
      either false h = cell_shut i h

  cell_undefined : (i : ℕ) → get_or s.cells i Undef ≡ Undef → stack_cell s i ≡ Undef
  cell_undefined i none = either (is_open s i) refl
    where
      either : (t : Bool) → is_open s i ≡ t → stack_cell s i ≡ Undef
      either true h = cell_open i h ∙ none
      either false h = cell_shut i h

  pub length-stack : length (stack_cells s) ≡ length s.cells
  unfolding stack_cells
  length-stack = length-map-range_with_len (stack_cell s) 0 (length s.cells)

  pub get_or-stack : (i : ℕ) (d : SymByte) → i < length s.cells → get_or (stack_cells s) i d ≡ stack_cell s i
  unfolding stack_cells
  get_or-stack i d lt = get_or-map-range_with_len (stack_cell s) 0 (length s.cells) i i d lt (omega arith)

  -- an open cell
  pub open_there : (i : ℕ) → i < length s.cells → is_open s i ≡ true → get_or s.cells i Undef ≡ get_or (stack_cells s) i Undef
  open_there i lt h = sym (get_or-stack i Undef lt ∙ cell_open i h)

  -- cells of a strip whose first is open
  pub open_strip_there : (i n : ℕ) → i + n ≤ length s.cells → i % 32 + n ≤ 32 → is_open s i ≡ true → (j : ℕ) → i ≤ j → j < i + n → get_or s.cells j Undef ≡ get_or (stack_cells s) j Undef
  open_strip_there i n within one h j from to =
      let q = parts_open i h in
      let strip : j / 32 ≡ i / 32 = omega (arith, from, to, one) in
      open_there j (omega (arith, to, within)) (from_parts j (omega (arith, q.0, from)) (ap (λ k. get_or s.live k false) strip ∙ q.1))

  pub open_word : (i : ℕ) → i + 4 ≤ length s.cells → i % 32 + 4 ≤ 32 → is_open s i ≡ true → cell_word s.cells i ≡ cell_word (stack_cells s) i
  open_word i within one h =
      let there = open_strip_there i 4 within one h in
      let first = there i (omega arith) (omega arith) in
      let second = there (i + 1) (omega arith) (omega arith) in
      let third = there (i + 2) (omega arith) (omega arith) in
      let last = there (i + 3) (omega arith) (omega arith) in
      λ k. record { b0 = first k; b1 = second k; b2 = third k; b3 = last k }

  -- a stack that nothing was written to
  pub all_undefined : (size : ℕ) → s.cells ≡ blank size Undef → s.mark ≡ size → stack_cells s ≡ blank size Undef
  unfolding blank
  all_undefined size cells mark =
      let long : length s.cells ≡ size = ap length cells ∙ length-replicate size Undef in
      same_lists _ _ (length-stack ∙ long ∙ sym (length-replicate size Undef))
      (λ i d lt.
      let within : i < size = omega (arith, lt, length-stack, long) in
      get_or-stack i d (omega (arith, within, long)) ∙ cell_below i (omega (arith, within, mark)) ∙ sym (get_or-replicate size i Undef d within))

-- a cell of two stacks whose marks, strips and cells are alike there
same_cell : (s t : Strips) (j : ℕ) → leb t.mark j ≡ leb s.mark j → get_or t.live (j / 32) false ≡ get_or s.live (j / 32) false → get_or t.cells j Undef ≡ get_or s.cells j Undef
    → stack_cell t j ≡ stack_cell s j
same_cell s t j mark live cell = λ k. cond (mark k && live k) (cell k) Undef

above_both : (a b j : ℕ) → a ≤ j → b ≤ j → leb a j ≡ leb b j
above_both a b j first second = le-leb a j first ∙ sym (le-leb b j second)

-- ---- a mark that falls

module _ (s : Strips) (is : AreStrips s) where
  strip_inside : (j : ℕ) → j < length s.cells → j / 32 < length s.live
  strip_inside j lt = omega (arith, lt, is.live)

  -- to the start of a strip
  module _ (strip : ℕ) (low : 32 * strip ≤ s.mark) (cells' : List SymByte) (live' : List Bool) (long : length cells' ≡ length s.cells)
      (cells : (j : ℕ) (d : SymByte) → j < length s.cells → get_or cells' j d ≡ written (32 * (s.mark / 32)) (s.mark - 32 * (s.mark / 32)) (λ _. Undef) j (get_or s.cells j d))
      (live : (j : ℕ) (d : Bool) → j < length s.live → get_or live' j d ≡ written strip (s.mark / 32 - strip) (λ _. false) j (get_or s.live j d)) where
    abbrev lower : Strips
    lower = record { cells = cells'; live = live'; mark = 32 * strip }

    live_above : (j : ℕ) → j < length s.cells → s.mark ≤ j → get_or live' (j / 32) false ≡ get_or s.live (j / 32) false
    live_above j lt above =
        live (j / 32) false (strip_inside j lt)
        ∙ untouched strip (s.mark / 32 - strip) (λ _. false) (j / 32) (get_or s.live (j / 32) false) (λ from to. omega (arith, from, to, above, low))

    each : (j : ℕ) → j < length s.cells → (j < 32 * strip) ⊎ (32 * strip ≤ j) → (j < 32 * (s.mark / 32)) ⊎ (32 * (s.mark / 32) ≤ j) → (j < s.mark) ⊎ (s.mark ≤ j)
        → stack_cell lower j ≡ stack_cell s j
    each j lt (inl below) q r = cell_below lower j below ∙ sym (cell_below s j (omega (arith, below, low)))
    each j lt (inr from) (inl strips) r =
        cell_dead lower j (live (j / 32) false (strip_inside j lt)
        ∙ written_there strip (s.mark / 32 - strip) (λ _. false) (j / 32) (get_or s.live (j / 32) false) (omega (arith, from)) (omega (arith, from, strips)))
        ∙ sym (cell_below s j (omega (arith, strips)))
    each j lt (inr from) (inr last) (inl below) =
        cell_undefined lower j (cells j Undef lt
        ∙ written_there (32 * (s.mark / 32)) (s.mark - 32 * (s.mark / 32)) (λ _. Undef) j (get_or s.cells j Undef) last (omega (arith, last, below)))
        ∙ sym (cell_below s j below)
    each j lt (inr from) (inr last) (inr above) =
        same_cell s lower j (above_both (32 * strip) s.mark j from above) (live_above j lt above) (cells j Undef lt
        ∙ untouched (32 * (s.mark / 32)) (s.mark - 32 * (s.mark / 32)) (λ _. Undef) j (get_or s.cells j Undef) (λ at to. omega (arith, at, to, above)))

    pub lowered : AreAlike s (record { cells = cells'; live = live'; mark = 32 * strip })
    lowered = record {
      size = long;
      cell = λ j lt. each j lt (cases_lt j (32 * strip)) (cases_lt j (32 * (s.mark / 32))) (cases_lt j s.mark);
      stays = λ j lt h. let q = parts_open s j h in from_parts lower j (omega (arith, q.0, low)) (live_above j lt q.0 ∙ q.1);
    }

  -- a strip that becomes live
  module _ (strip to : ℕ) (within : 32 * strip < length s.cells) (none : get_or s.live strip false ≡ false) (end : to ≡ min (length s.cells) (32 * strip + 32)) (cells' : List SymByte)
      (long : length cells' ≡ length s.cells)
      (cells : (j : ℕ) (d : SymByte) → j < length s.cells → get_or cells' j d ≡ written (32 * strip) (to - 32 * strip) (λ _. Undef) j (get_or s.cells j d)) where
    abbrev with_strip : Strips
    with_strip = record { cells = cells'; live = set s.live strip true; mark = s.mark }

    pub strip_live : get_or (set s.live strip true) strip false ≡ true
    strip_live = get_or-set_same s.live strip true false (omega (arith, within, is.live))

    by_strip : (j : ℕ) → j < length s.cells → (j / 32 ≡ strip) ⊎ (j / 32 ≢ strip) → stack_cell with_strip j ≡ stack_cell s j
    by_strip j lt (inl here) =
        cell_undefined with_strip j (cells j Undef lt
        ∙ written_there (32 * strip) (to - 32 * strip) (λ _. Undef) j (get_or s.cells j Undef) (omega (arith, here)) (omega (arith, here, end, lt)))
        ∙ sym (cell_dead s j (ap (λ k. get_or s.live k false) here ∙ none))
    by_strip j lt (inr other) =
        same_cell s with_strip j refl (get_or-set_other s.live strip (j / 32) true false other) (cells j Undef lt
        ∙ untouched (32 * strip) (to - 32 * strip) (λ _. Undef) j (get_or s.cells j Undef) (λ at past. other (omega (arith, at, past, end))))

    still : (j : ℕ) → get_or s.live (j / 32) false ≡ true → (j / 32 ≡ strip) ⊎ (j / 32 ≢ strip) → get_or (set s.live strip true) (j / 32) false ≡ true
    still j live (inl here) = ap (λ k. get_or (set s.live strip true) k false) here ∙ strip_live
    still j live (inr other) = get_or-set_other s.live strip (j / 32) true false other ∙ live

    pub begun : AreAlike s (record { cells = cells'; live = set s.live strip true; mark = s.mark })
    begun = record {
      size = long;
      cell = λ j lt. by_strip j lt (cases_eq (j / 32) strip);
      stays = λ j lt h. let q = parts_open s j h in from_parts with_strip j q.0 (still j q.1 (cases_eq (j / 32) strip));
    }

-- to an index of a live strip
module _ (s : Strips) (i n : ℕ) (one : i % 32 + n ≤ 32) (live : get_or s.live (i / 32) false ≡ true) where
  there : (t : Strips) → t.live ≡ s.live → t.mark ≤ i → (j : ℕ) → i ≤ j → j < i + n → is_open t j ≡ true
  there t same low j from to =
      let strip : j / 32 ≡ i / 32 = omega (arith, from, to, one) in
      from_parts t j (omega (arith, low, from)) (ap (λ l. get_or l (j / 32) false) same ∙ ap (λ k. get_or s.live k false) strip ∙ live)

  -- from above the cells that are opened
  module _ (cells' : List SymByte) (high : i + n < s.mark) (long : length cells' ≡ length s.cells)
      (cells : (j : ℕ) (d : SymByte) → j < length s.cells → get_or cells' j d ≡ written (i + n) (s.mark - (i + n)) (λ _. Undef) j (get_or s.cells j d)) where
    abbrev opened : Strips
    opened = record { cells = cells'; live = s.live; mark = i }

    after : (j : ℕ) → j < length s.cells → i + n ≤ j → (j < s.mark) ⊎ (s.mark ≤ j) → stack_cell opened j ≡ stack_cell s j
    after j lt from (inl below) =
        cell_undefined opened j (cells j Undef lt ∙ written_there (i + n) (s.mark - (i + n)) (λ _. Undef) j (get_or s.cells j Undef) from (omega (arith, from, below)))
        ∙ sym (cell_below s j below)
    after j lt from (inr above) =
        same_cell s opened j (above_both i s.mark j (omega (arith, from)) above) refl (cells j Undef lt
        ∙ untouched (i + n) (s.mark - (i + n)) (λ _. Undef) j (get_or s.cells j Undef) (λ at to. omega (arith, at, to, above)))

    others : (j : ℕ) → j < length s.cells → (j < i) ⊎ (i + n ≤ j) → stack_cell opened j ≡ stack_cell s j
    others j lt (inl before) = cell_below opened j before ∙ sym (cell_below s j (omega (arith, before, high)))
    others j lt (inr from) = after j lt from (cases_lt j s.mark)

    pub covered : AreOpened i n s (record { cells = cells'; live = s.live; mark = i })
    covered = record {
      size = long;
      reached = there opened refl (omega arith);
      rest = others;
      stays = λ j lt h. let q = parts_open s j h in from_parts opened j (omega (arith, q.0, high)) q.1;
    }

  -- from among them, or below
  module _ (mark : ℕ) (least : mark ≡ min s.mark i) (near : s.mark ≤ i + n) where
    abbrev opened' : Strips
    opened' = record { cells = s.cells; live = s.live; mark = mark }

    marks : (j : ℕ) → (j < i) ⊎ (i + n ≤ j) → (j < mark) ⊎ (mark ≤ j) → leb mark j ≡ leb s.mark j
    marks j side (inl below) = not_le mark j below ∙ sym (not_le s.mark j (omega (arith, below, least)))
    marks j (inl before) (inr above) = above_both mark s.mark j above (omega (arith, before, above, least))
    marks j (inr from) (inr above) = above_both mark s.mark j above (omega (arith, from, near))

    pub covered_near : AreOpened i n s (record { cells = s.cells; live = s.live; mark = mark })
    covered_near = record {
      size = refl;
      reached = there opened' refl (omega (arith, least));
      rest = λ j lt side. same_cell s opened' j (marks j side (cases_lt j mark)) refl refl;
      stays = λ j lt h. let q = parts_open s j h in from_parts opened' j (omega (arith, q.0, least)) q.1;
    }

-- ---- one change after another

pub same_alike : (s : Strips) → AreAlike s s
same_alike s = record { size = refl; cell = λ j lt. refl; stays = λ j lt h. h }

pub opened_after : (i n : ℕ) (s t u v : Strips) → AreAlike s t → AreAlike t u → AreOpened i n u v → AreOpened i n s v
opened_after i n s t u v first second opened = record {
  size = opened.size ∙ second.size ∙ first.size;
  reached = opened.reached;
  rest = λ j lt side.
      let in_t : j < length t.cells = omega (arith, lt, first.size) in
      opened.rest j (omega (arith, in_t, second.size)) side ∙ second.cell j in_t ∙ first.cell j lt;
  stays = λ j lt h.
      let in_t : j < length t.cells = omega (arith, lt, first.size) in
      opened.stays j (omega (arith, in_t, second.size)) (second.stays j in_t (first.stays j lt h));
}

-- no cell is opened
pub opened_none : (i : ℕ) (s : Strips) → AreOpened i 0 s s
opened_none i s = record { size = refl; reached = λ j from to. absurd (omega (arith, from, to)); rest = λ j lt side. refl; stays = λ j lt h. h }

-- all are open already
pub opened_already : (i n : ℕ) (s : Strips) → i % 32 + n ≤ 32 → is_open s i ≡ true → AreOpened i n s s
opened_already i n s one h = record {
  size = refl;
  reached = λ j from to.
      let q = parts_open s i h in
      let strip : j / 32 ≡ i / 32 = omega (arith, from, to, one) in
      from_parts s j (omega (arith, q.0, from)) (ap (λ k. get_or s.live k false) strip ∙ q.1);
  rest = λ j lt side. refl;
  stays = λ j lt h. h;
}

-- if n cells are open and then one more, n + 1 are
pub opened_more : (i n : ℕ) (s t u : Strips) → i + n < length s.cells → AreOpened i n s t → AreOpened (i + n) 1 t u → AreOpened i (n + 1) s u
opened_more i n s t u within first second = record {
  size = second.size ∙ first.size;
  reached = λ j from to. by_place j from to (cases_lt j (i + n));
  rest = λ j lt side. second.rest j (omega (arith, lt, first.size)) (after j side) ∙ first.rest j lt (before j side);
  stays = λ j lt h. second.stays j (omega (arith, lt, first.size)) (first.stays j lt h);
}
  where
    by_place : (j : ℕ) → i ≤ j → j < i + (n + 1) → (j < i + n) ⊎ (i + n ≤ j) → is_open u j ≡ true
    by_place j from to (inl earlier) = second.stays j (omega (arith, earlier, within, first.size)) (first.reached j from earlier)
    by_place j from to (inr last) = second.reached j last (omega (arith, to))

    after : (j : ℕ) → (j < i) ⊎ (i + (n + 1) ≤ j) → (j < i + n) ⊎ (i + n + 1 ≤ j)
    after j (inl below) = inl (omega (arith, below))
    after j (inr past) = inr (omega (arith, past))

    before : (j : ℕ) → (j < i) ⊎ (i + (n + 1) ≤ j) → (j < i) ⊎ (i + n ≤ j)
    before j (inl below) = inl below
    before j (inr past) = inr (omega (arith, past))

-- ---- what the stack's cells become

-- cells that are opened and written
module _ (i : ℕ) (cells : List SymByte) (s t : Strips) (cells' : List SymByte) (opened : AreOpened i (length cells) s t) (long : length cells' ≡ length t.cells) (each : AreCellsWritten i cells t.cells cells') where
  abbrev u : Strips
  u = record { cells = cells'; live = t.live; mark = t.mark }

  abbrev given : ℕ → SymByte
  given = λ k. get_or cells k Undef

  all : length u.cells ≡ length s.cells
  all = long ∙ opened.size

  pub length-stored : length (stack_cells (record { cells = cells'; live = t.live; mark = t.mark })) ≡ length (stack_cells s)
  length-stored = length-stack u ∙ all ∙ sym (length-stack s)

  outside : (j : ℕ) → j < length s.cells → (j < i) ⊎ (i + length cells ≤ j) → (i ≤ j → j < i + length cells → ⊥) → stack_cell u j ≡ written i (length cells) given j (stack_cell s j)
  outside j lt side away =
      same_cell t u j refl refl (each j Undef (omega (arith, lt, opened.size)) ∙ untouched i (length cells) given j (get_or t.cells j Undef) away)
      ∙ opened.rest j lt side ∙ sym (untouched i (length cells) given j (stack_cell s j) away)

  by_place : (j : ℕ) → j < length s.cells → (j < i) ⊎ (i ≤ j) → (j < i + length cells) ⊎ (i + length cells ≤ j) → stack_cell u j ≡ written i (length cells) given j (stack_cell s j)
  by_place j lt (inl below) q = outside j lt (inl below) (λ low high. omega (arith, below, low))
  by_place j lt (inr from) (inr past) = outside j lt (inr past) (λ low high. omega (arith, past, high))
  by_place j lt (inr from) (inl to) =
      cell_open u j (opened.reached j from to) ∙ each j Undef (omega (arith, lt, opened.size)) ∙ written_there i (length cells) given j (get_or t.cells j Undef) from to
      ∙ sym (written_there i (length cells) given j (stack_cell s j) from to)

  pub stored : AreCellsWritten i cells (stack_cells s) (stack_cells (record { cells = cells'; live = t.live; mark = t.mark }))
  stored j d lt =
      let inside : j < length s.cells = omega (arith, lt, length-stack s) in
      get_or-stack u j d (omega (arith, inside, all)) ∙ by_place j inside (cases_lt j i) (cases_lt j (i + length cells))
      ∙ ap (written i (length cells) given j) (sym (get_or-stack s j d inside))

-- a mark that rises
module _ (s : Strips) (mark i : ℕ) (most : mark ≡ max s.mark i) where
  abbrev risen : Strips
  risen = record { cells = s.cells; live = s.live; mark = mark }

  by_side : (j : ℕ) → (j < i) ⊎ (i ≤ j) → (j < mark) ⊎ (mark ≤ j) → stack_cell risen j ≡ cond (ltb j i) Undef (stack_cell s j)
  by_side j (inl below) q = cell_below risen j (omega (arith, below, most)) ∙ sym (cond-true (ltb j i) Undef (stack_cell s j) (lt-ltb j i below))
  by_side j (inr from) (inl low) =
      same_cell s risen j (not_le mark j low ∙ sym (not_le s.mark j (omega (arith, low, most, from)))) refl refl ∙ sym (cond-false (ltb j i) Undef (stack_cell s j) (not_below j i from))
  by_side j (inr from) (inr high) =
      same_cell s risen j (above_both mark s.mark j high (omega (arith, high, most))) refl refl ∙ sym (cond-false (ltb j i) Undef (stack_cell s j) (not_below j i from))

  pub length-risen : length (stack_cells (record { cells = s.cells; live = s.live; mark = mark })) ≡ length (stack_cells s)
  length-risen = length-stack risen ∙ sym (length-stack s)

  pub cleared : (j : ℕ) (d : SymByte) → j < length (stack_cells s)
      → get_or (stack_cells (record { cells = s.cells; live = s.live; mark = mark })) j d ≡ cond (ltb j i) Undef (get_or (stack_cells s) j d)
  cleared j d lt =
      let inside : j < length s.cells = omega (arith, lt, length-stack s) in
      get_or-stack risen j d inside ∙ by_side j (cases_lt j i) (cases_lt j mark) ∙ ap (cond (ltb j i) Undef) (sym (get_or-stack s j d inside))
