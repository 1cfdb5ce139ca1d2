-- Pages in two pools: what is read of them, a page that gets one of its own, and cells that are written.
use Rattle.std.proofs.Common.{◌≡◌, ◌≢◌, ℕ, ◌++◌, ◌+◌, length-append, drop, length-drop, ◌-◌, ◌*◌, ◌/◌, ◌%◌, ◌^◌, ◌<◌, ◌≤◌, List, [], ◌∷◌, cond, eqb, length, get_or, set, take, min, map, replicate, refl, sym, ap, ◌∙◌, arith, subst, slice_index, ◌⊎◌, inl, inr, Bool, true, false, get_or-set_same, get_or-set_other, length-set}
use Rattle.std.specs.List.{sum_by}
use Rattle.std.proofs.lemmas.Bool.{cases_eq, cases_lt, ne_eqb, cond-false}
use Rattle.std.proofs.lemmas.List.{get_or-append_right, get_or-drop, get_or-take, length-take, get_or_append_left, get_or_default, get_or_past, take_all, get_or-map, get_or-replicate, length-map, length-replicate, same_lists}
use Rattle.std.proofs.lemmas.List.FromFn.{get_or-map-range_with_len, length-map-range_with_len}
use Rattle.std.proofs.lemmas.List.Sums.{sum_by-set}
use Rattle.std.proofs.lemmas.List.Folds.{sum_by-replicate}
use Rattle.rv_decode.specs.Memory.{written}
use Rattle.rv_decode.proofs.MemoryLaws.{untouched}
use Rattle.psabi_sym.specs.Contents.{overlaid}
use Rattle.psabi_sym.proofs.ContentLaws.{length-overlaid}
use Rattle.sym_machine.specs.declared.page.Page.{Page}
use Rattle.sym_machine.specs.declared.page.Page.TheVariants.{Numbers, Cells}
use Rattle.sym_machine.specs.declared.word.SymByte.{SymByte}
use Rattle.sym_machine.specs.declared.word.SymByte.TheVariants.{Num, Undef}
use Rattle.sym_machine.specs.Pages.{AreBytesWritten, AreCellsWritten, IsInPool, IsMade, IsPooled, IsSame, Pooled, bytes_in, cells_of_pages, cells_wanted, number_in_pool, numbers_wanted, page_cell, page_of, pooled_cell, pooled_word, cell_word}
use Rattle.sym_machine.proofs.WrittenLaws.{written_moved, written_numbers, written_there}

-- ---- what is read

module _ (p : Pooled) (size : ℕ) where
  pub length-cells : length (cells_of_pages p size) ≡ size
  length-cells = length-map-range_with_len (pooled_cell p) 0 size

  pub get_or-cells : (i : ℕ) (d : SymByte) → i < size → get_or (cells_of_pages p size) i d ≡ pooled_cell p i
  get_or-cells i d lt = get_or-map-range_with_len (pooled_cell p) 0 size i i d lt (omega arith)

  -- the count and the cells, by the list of cells that the pages are
  module _ (seen : List SymByte) (is : cells_of_pages p size ≡ seen) where
    pub size_seen : size ≡ length seen
    size_seen = sym length-cells ∙ ap length is

    pub cell_seen : (i : ℕ) (d : SymByte) → i < length seen → pooled_cell p i ≡ get_or seen i d
    cell_seen i d lt = sym (get_or-cells i d (omega (arith, size_seen, lt))) ∙ ap (λ l. get_or l i d) is

-- what lies in the page of an index, once that page is read
module _ {q : Pooled} (p : Pooled) (view : q ≡ p) (i : ℕ) (within : i < 4096 * length p.pages) (page read : Page) (there : read ≡ get_or q.pages (i / 4096) read) (is : read ≡ page) where
  page_read : page_of p (i / 4096) ≡ page
  page_read =
      sym (ap (λ (q : Pooled). page_of q (i / 4096)) view) ∙ get_or_default q.pages (i / 4096) (Cells 0) read (omega (arith, within, ap (λ (q : Pooled). length q.pages) view)) ∙ sym there ∙ is

  -- the page lies in its pool
  pub page_inside : IsPooled p → IsInPool q page
  page_inside pooled = subst (λ (q : Pooled). IsInPool q page) (sym view) (subst (IsInPool p) page_read (pooled.inside (i / 4096)))

  -- a cell of the page
  pub cell_read : (j : ℕ) → j / 4096 ≡ i / 4096 → page_cell q page (j % 4096) ≡ pooled_cell p j
  cell_read j same = ap (λ (q : Pooled). page_cell q page (j % 4096)) view ∙ ap (λ g. page_cell p g (j % 4096)) (sym page_read ∙ ap (page_of p) (sym same))

module _ {q : Pooled} (p : Pooled) (view : q ≡ p) (i : ℕ) (within : i < 4096 * length p.pages) (n : ℕ) (read : Page) (there : read ≡ get_or q.pages (i / 4096) read) where
  -- a number and a cell that are k further on in the same page
  pub number_further : read ≡ Numbers n → (k : ℕ) → i % 4096 + k < 4096 → Num (slice_index q.numbers (4096 * n + i % 4096 + k)) ≡ pooled_cell p (i + k)
  number_further is k one =
      let index : 4096 * n + i % 4096 + k ≡ 4096 * n + (i + k) % 4096 = omega (arith, one) in
      ap (λ a. Num (slice_index q.numbers a)) index ∙ cell_read p view i within (Numbers n) read there is (i + k) (omega (arith, one))

  pub cell_further : read ≡ Cells n → (k : ℕ) → i % 4096 + k < 4096 → get_or q.cells (4096 * n + i % 4096 + k) Undef ≡ pooled_cell p (i + k)
  cell_further is k one =
      let index : 4096 * n + i % 4096 + k ≡ 4096 * n + (i + k) % 4096 = omega (arith, one) in
      ap (λ a. get_or q.cells a Undef) index ∙ cell_read p view i within (Cells n) read there is (i + k) (omega (arith, one))

  -- the word there
  pub word_of_numbers : read ≡ Numbers n → i % 4096 + 4 ≤ 4096 → bytes_in q.numbers (4096 * n + i % 4096) ≡ pooled_word p i
  word_of_numbers is one =
      let first = cell_read p view i within (Numbers n) read there is i refl in
      let later = λ (k : ℕ) (lt : k < 4). number_further is k (omega (arith, one, lt)) in
      λ j. record { b0 = first j; b1 = later 1 (omega arith) j; b2 = later 2 (omega arith) j; b3 = later 3 (omega arith) j }

  pub word_of_cells : read ≡ Cells n → i % 4096 + 4 ≤ 4096 → cell_word q.cells (4096 * n + i % 4096) ≡ pooled_word p i
  word_of_cells is one =
      let first = cell_read p view i within (Cells n) read there is i refl in
      let later = λ (k : ℕ) (lt : k < 4). cell_further is k (omega (arith, one, lt)) in
      λ j. record { b0 = first j; b1 = later 1 (omega arith) j; b2 = later 2 (omega arith) j; b3 = later 3 (omega arith) j }

-- cells after each was changed
pub made_cells : (f : ℕ → SymByte → SymByte) (p p' : Pooled) (size : ℕ) → IsMade f p p' → (i : ℕ) (d : SymByte) → i < size
    → get_or (cells_of_pages p' size) i d ≡ f i (get_or (cells_of_pages p size) i d)
made_cells f p p' size made i d lt = get_or-cells p' size i d lt ∙ made.cell i ∙ ap (f i) (sym (get_or-cells p size i d lt))

-- the same of a list that they are
pub made_seen : (f : ℕ → SymByte → SymByte) (p p' : Pooled) (size : ℕ) (seen : List SymByte) → cells_of_pages p size ≡ seen → IsMade f p p'
    → (i : ℕ) (d : SymByte) → i < length seen → get_or (cells_of_pages p' size) i d ≡ f i (get_or seen i d)
made_seen f p p' size seen view made i d lt = made_cells f p p' size made i d (omega (arith, size_seen p size seen view, lt)) ∙ ap (λ l. f i (get_or l i d)) view

-- cells that are all alike
pub all_alike : (p : Pooled) (size : ℕ) (b : SymByte) → ((i : ℕ) → i < size → pooled_cell p i ≡ b) → cells_of_pages p size ≡ replicate size b
all_alike p size b alike =
    same_lists _ _ (length-cells p size ∙ sym (length-replicate size b))
    (λ i d lt. let within : i < size = omega (arith, lt, length-cells p size) in get_or-cells p size i d within ∙ alike i within ∙ sym (get_or-replicate size i b d within))

-- ---- pages that were never written

sum_most : {X : Type 0} (f : X → ℕ) (n : ℕ) (x : X) → (f x ≡ 0) ⊎ (f x ≡ 4096) → sum_by f (replicate n x) ≤ 4096 * n
sum_most f n x (inl none) = omega (arith, sum_by-replicate f n x ∙ ap (λ w. n * w) none)
sum_most f n x (inr page) = omega (arith, sum_by-replicate f n x ∙ ap (λ w. n * w) page)

module _ (p : Pooled) (count : ℕ) (page : Page) (first : number_in_pool page ≡ 0) (pages : p.pages ≡ replicate count page) (numbers : p.numbers ≡ replicate 4096 0) (cells : p.cells ≡ replicate 4096 Undef)
    (room_numbers : 4096 * count + 4096 ≤ p.number_room) (room_cells : 4096 * count + 4096 ≤ p.cell_room) (few : count ≤ 2 ^ 40) where
  long_numbers : length p.numbers ≡ 4096
  long_numbers = ap length numbers ∙ length-replicate {A = ℕ} 4096 0

  long_cells : length p.cells ≡ 4096
  long_cells = ap length cells ∙ length-replicate 4096 Undef

  zero_at : (x : ℕ) → x < 4096 → slice_index p.numbers x ≡ 0
  zero_at x lt = ap (λ l. slice_index l x) numbers ∙ get_or-replicate 4096 x 0 0 lt

  undefined_at : (x : ℕ) → x < 4096 → get_or p.cells x Undef ≡ Undef
  undefined_at x lt = ap (λ l. get_or l x Undef) cells ∙ get_or-replicate 4096 x Undef Undef lt

  pub fresh_page : (k : ℕ) → k < count → page_of p k ≡ page
  fresh_page k lt = ap (λ l. get_or l k (Cells 0)) pages ∙ get_or-replicate count k page (Cells 0) lt

  first_number : (k : ℕ) → number_in_pool (page_of p k) ≡ 0
  first_number k = by (cases_lt k count)
    where
      by : (k < count) ⊎ (count ≤ k) → number_in_pool (page_of p k) ≡ 0
      by (inl lt) = ap number_in_pool (fresh_page k lt) ∙ first
      by (inr past) = ap number_in_pool (get_or_past p.pages k (Cells 0) (omega (arith, ap length pages, length-replicate count page, past)))

  first_inside : (q : Page) → number_in_pool q ≡ 0 → IsInPool p q
  first_inside (Numbers n) e = omega (arith, e, long_numbers)
  first_inside (Cells n) e = omega (arith, e, long_cells)

  most_numbers : (q : Page) → (numbers_wanted q ≡ 0) ⊎ (numbers_wanted q ≡ 4096)
  most_numbers (Numbers n) = either (eqb n 0)
    where
      either : (b : Bool) → (cond {A = ℕ} b 4096 0 ≡ 0) ⊎ (cond {A = ℕ} b 4096 0 ≡ 4096)
      either true = inr refl
      either false = inl refl
  most_numbers (Cells n) = inl refl

  most_cells : (q : Page) → (cells_wanted q ≡ 0) ⊎ (cells_wanted q ≡ 4096)
  most_cells (Numbers n) = inr refl
  most_cells (Cells n) = either (eqb n 0)
    where
      either : (b : Bool) → (cond {A = ℕ} b 4096 0 ≡ 0) ⊎ (cond {A = ℕ} b 4096 0 ≡ 4096)
      either true = inr refl
      either false = inl refl

  pub fresh : IsPooled p
  fresh = record {
    inside = λ k. first_inside (page_of p k) (first_number k);
    apart = λ j k some same. absurd (omega (arith, first_number j, some));
    zeros = zero_at;
    undefined = undefined_at;
    numbers = (omega (arith, long_numbers), omega (arith, long_numbers));
    cells = (omega (arith, long_cells), omega (arith, long_cells));
    number_room = omega (arith, long_numbers, room_numbers, ap (sum_by numbers_wanted) pages, sum_most numbers_wanted count page (most_numbers page));
    cell_room = omega (arith, long_cells, room_cells, ap (sum_by cells_wanted) pages, sum_most cells_wanted count page (most_cells page));
    few = omega (arith, ap length pages, length-replicate count page, few);
  }

  pub fresh_length : length p.pages ≡ count
  fresh_length = ap length pages ∙ length-replicate count page

  pub fresh_zero : page ≡ Numbers 0 → (i : ℕ) → i < 4096 * count → pooled_cell p i ≡ Num 0
  fresh_zero is i lt =
      ap (λ q. page_cell p q (i % 4096)) (fresh_page (i / 4096) (omega (arith, lt)) ∙ is) ∙ ap Num (zero_at (4096 * 0 + i % 4096) (omega arith))

  pub fresh_undefined : page ≡ Cells 0 → (i : ℕ) → i < 4096 * count → pooled_cell p i ≡ Undef
  fresh_undefined is i lt =
      ap (λ q. page_cell p q (i % 4096)) (fresh_page (i / 4096) (omega (arith, lt)) ∙ is) ∙ undefined_at (4096 * 0 + i % 4096) (omega arith)

-- ---- changes, one after another

pub same_made : (f : ℕ → SymByte → SymByte) (p q r : Pooled) → IsSame p q → IsMade f q r → IsMade f p r
same_made f p q r same made = record {
  pooled = made.pooled;
  count = made.count ∙ same.count;
  cell = λ i. made.cell i ∙ ap (f i) (same.cell i);
}

pub made_after : (f g h : ℕ → SymByte → SymByte) → ((x : ℕ) (c : SymByte) → g x (f x c) ≡ h x c) → (p q r : Pooled) → IsMade f p q → IsMade g q r → IsMade h p r
made_after f g h both p q r first second = record {
  pooled = second.pooled;
  count = second.count ∙ first.count;
  cell = λ i. second.cell i ∙ ap (g i) (first.cell i) ∙ both i (pooled_cell p i);
}

-- ---- cells that are written to a page of its own

-- bytes of a pool, by their index in it
module _ {X : Type 0} (pool pool' : List X) (d : X) (page at n : ℕ) (given : ℕ → X) (one : at % 4096 + n ≤ 4096) (each : (j : ℕ) → j < length pool → get_or pool' j d ≡ written (4096 * page + at % 4096) n given j (get_or pool j d)) where
  in_page : (i : ℕ) → 4096 * page + 4096 ≤ length pool → i / 4096 ≡ at / 4096 → get_or pool' (4096 * page + i % 4096) d ≡ written at n given i (get_or pool (4096 * page + i % 4096) d)
  in_page i inside same =
      each (4096 * page + i % 4096) (omega (arith, inside))
      ∙ written_moved (4096 * page + at % 4096) at n given (4096 * page + i % 4096) i (get_or pool (4096 * page + i % 4096) d) (omega (arith, same))

  elsewhere : (m x : ℕ) → 4096 * m + 4096 ≤ length pool → m ≢ page → x < 4096 → get_or pool' (4096 * m + x) d ≡ get_or pool (4096 * m + x) d
  elsewhere m x inside other lt =
      each (4096 * m + x) (omega (arith, inside, lt))
      ∙ untouched (4096 * page + at % 4096) n given (4096 * m + x) (get_or pool (4096 * m + x) d) (λ low high. other (omega (arith, low, high, one, lt)))

module _ (p : Pooled) (is : IsPooled p) (at page : ℕ) (own : 0 < page) where
  -- numbers
  module _ (here : page_of p (at / 4096) ≡ Numbers page) (bytes numbers' : List ℕ) (one : at % 4096 + length bytes ≤ 4096) (long : length numbers' ≡ length p.numbers) (each : AreBytesWritten (4096 * page + at % 4096) bytes p.numbers numbers') where
    abbrev p' : Pooled
    p' = record p { numbers = numbers' }

    still : (q : Page) → IsInPool p q → IsInPool p' q
    still (Numbers m) inside = omega (arith, inside, long)
    still (Cells m) inside = inside

    cell' : (i : ℕ) → pooled_cell p' i ≡ written at (length (map Num bytes)) (λ j. get_or (map Num bytes) j Undef) i (pooled_cell p i)
    cell' i = by (page_of p (i / 4096)) refl
      where
        by : (q : Page) → page_of p (i / 4096) ≡ q → page_cell p' q (i % 4096) ≡ written at (length (map Num bytes)) (λ j. get_or (map Num bytes) j Undef) i (page_cell p q (i % 4096))
        by (Numbers m) e = by_page (cases_eq m page)
          where
            inside : 4096 * m + 4096 ≤ length p.numbers
            inside = subst (IsInPool p) e (is.inside (i / 4096))

            by_page : (m ≡ page) ⊎ (m ≢ page) → page_cell p' (Numbers m) (i % 4096) ≡ written at (length (map Num bytes)) (λ j. get_or (map Num bytes) j Undef) i (page_cell p (Numbers m) (i % 4096))
            by_page (inl same) =
                let this : page_of p (at / 4096) ≡ page_of p (i / 4096) = here ∙ ap Numbers (sym same) ∙ sym e in
                let k : at / 4096 ≡ i / 4096 = is.apart (at / 4096) (i / 4096) (subst (λ q. 0 < number_in_pool q) (sym here) own) this in
                ap (λ y. Num (slice_index numbers' (4096 * y + i % 4096))) same
                ∙ ap Num (in_page p.numbers numbers' 0 page at (length bytes) (slice_index bytes) one (λ j lt. each j 0 lt) i (omega (arith, inside, same)) (sym k))
                ∙ ap (λ y. Num (written at (length bytes) (slice_index bytes) i (slice_index p.numbers (4096 * y + i % 4096)))) (sym same)
                ∙ written_numbers at bytes i (slice_index p.numbers (4096 * m + i % 4096))
            by_page (inr other) =
                ap Num (elsewhere p.numbers numbers' 0 page at (length bytes) (slice_index bytes) one (λ j lt. each j 0 lt) m (i % 4096) inside other (omega arith))
                ∙ sym (untouched at (length (map Num bytes)) (λ j. get_or (map Num bytes) j Undef) i (page_cell p (Numbers m) (i % 4096)) (λ low high. other (same_number low high)))
              where
                same_number : at ≤ i → i < at + length (map Num bytes) → m ≡ page
                same_number low high =
                    let k : i / 4096 ≡ at / 4096 = omega (arith, low, high, one, length-map bytes Num) in
                    let both : Numbers m ≡ Numbers page = sym e ∙ ap (page_of p) k ∙ here in
                    cc
        by (Cells m) e = sym (untouched at (length (map Num bytes)) (λ j. get_or (map Num bytes) j Undef) i (page_cell p (Cells m) (i % 4096)) away)
          where
            away : at ≤ i → i < at + length (map Num bytes) → ⊥
            away low high =
                let k : i / 4096 ≡ at / 4096 = omega (arith, low, high, one, length-map bytes Num) in
                let both : Cells m ≡ Numbers page = sym e ∙ ap (page_of p) k ∙ here in
                absurd cc

    pub wrote_numbers : IsMade (written at (length (map Num bytes)) (λ i. get_or (map Num bytes) i Undef)) p (record p { numbers = numbers' })
    wrote_numbers = record {
      pooled = record {
        inside = λ k. still (page_of p k) (is.inside k);
        apart = is.apart;
        zeros = λ x lt. each x 0 (omega (arith, is.numbers.1, lt)) ∙ untouched (4096 * page + at % 4096) (length bytes) (slice_index bytes) x (slice_index p.numbers x) (λ low high. omega (arith, low, lt, own)) ∙ is.zeros x lt;
        undefined = is.undefined;
        numbers = (ap (λ n. n % 4096) long ∙ is.numbers.0, omega (arith, is.numbers.1, long));
        cells = is.cells;
        number_room = omega (arith, is.number_room, long);
        cell_room = is.cell_room;
        few = is.few;
      };
      count = refl;
      cell = cell';
    }

  -- any cells
  module _ (here : page_of p (at / 4096) ≡ Cells page) (n : ℕ) (given : ℕ → SymByte) (cells' : List SymByte) (one : at % 4096 + n ≤ 4096) (long : length cells' ≡ length p.cells)
      (each : (j : ℕ) (d : SymByte) → j < length p.cells → get_or cells' j d ≡ written (4096 * page + at % 4096) n given j (get_or p.cells j d)) where
    abbrev p'' : Pooled
    p'' = record p { cells = cells' }

    still_in : (q : Page) → IsInPool p q → IsInPool p'' q
    still_in (Numbers m) inside = inside
    still_in (Cells m) inside = omega (arith, inside, long)

    cell'' : (i : ℕ) → pooled_cell p'' i ≡ written at n given i (pooled_cell p i)
    cell'' i = by (page_of p (i / 4096)) refl
      where
        by : (q : Page) → page_of p (i / 4096) ≡ q → page_cell p'' q (i % 4096) ≡ written at n given i (page_cell p q (i % 4096))
        by (Numbers m) e = sym (untouched at n given i (page_cell p (Numbers m) (i % 4096)) away)
          where
            away : at ≤ i → i < at + n → ⊥
            away low high =
                let k : i / 4096 ≡ at / 4096 = omega (arith, low, high, one) in
                let both : Numbers m ≡ Cells page = sym e ∙ ap (page_of p) k ∙ here in
                absurd cc
        by (Cells m) e = by_page (cases_eq m page)
          where
            inside : 4096 * m + 4096 ≤ length p.cells
            inside = subst (IsInPool p) e (is.inside (i / 4096))

            by_page : (m ≡ page) ⊎ (m ≢ page) → page_cell p'' (Cells m) (i % 4096) ≡ written at n given i (page_cell p (Cells m) (i % 4096))
            by_page (inl same) =
                let this : page_of p (at / 4096) ≡ page_of p (i / 4096) = here ∙ ap Cells (sym same) ∙ sym e in
                let k : at / 4096 ≡ i / 4096 = is.apart (at / 4096) (i / 4096) (subst (λ q. 0 < number_in_pool q) (sym here) own) this in
                ap (λ y. get_or cells' (4096 * y + i % 4096) Undef) same
                ∙ in_page p.cells cells' Undef page at n given one (λ j lt. each j Undef lt) i (omega (arith, inside, same)) (sym k)
                ∙ ap (λ y. written at n given i (get_or p.cells (4096 * y + i % 4096) Undef)) (sym same)
            by_page (inr other) =
                elsewhere p.cells cells' Undef page at n given one (λ j lt. each j Undef lt) m (i % 4096) inside other (omega arith)
                ∙ sym (untouched at n given i (page_cell p (Cells m) (i % 4096)) (λ low high. other (same_number low high)))
              where
                same_number : at ≤ i → i < at + n → m ≡ page
                same_number low high =
                    let k : i / 4096 ≡ at / 4096 = omega (arith, low, high, one) in
                    let both : Cells m ≡ Cells page = sym e ∙ ap (page_of p) k ∙ here in
                    cc

    pub wrote_cells : IsMade (written at n given) p (record p { cells = cells' })
    wrote_cells = record {
      pooled = record {
        inside = λ k. still_in (page_of p k) (is.inside k);
        apart = is.apart;
        zeros = is.zeros;
        undefined = λ x lt. each x Undef (omega (arith, is.cells.1, lt)) ∙ untouched (4096 * page + at % 4096) n given x (get_or p.cells x Undef) (λ low high. omega (arith, low, lt, own)) ∙ is.undefined x lt;
        numbers = is.numbers;
        cells = (ap (λ m. m % 4096) long ∙ is.cells.0, omega (arith, is.cells.1, long));
        number_room = is.number_room;
        cell_room = omega (arith, is.cell_room, long);
        few = is.few;
      };
      count = refl;
      cell = cell'';
    }

-- ---- a page that gets one of its own

-- both pools keep what they had, and a page of theirs that no other page has holds the cells of this one
module _ (p : Pooled) (is : IsPooled p) (number : ℕ) (within : number < length p.pages) (fresh : Page) (numbers' : List ℕ) (cells' : List SymByte) (number_room' cell_room' : ℕ) where
  abbrev pub with_page : Pooled
  with_page = record { pages = set p.pages number fresh; numbers = numbers'; cells = cells'; number_room = number_room'; cell_room = cell_room' }

  page_here : page_of with_page number ≡ fresh
  page_here = get_or-set_same p.pages number fresh (Cells 0) within

  page_other : (k : ℕ) → k ≢ number → page_of with_page k ≡ page_of p k
  page_other k other = get_or-set_other p.pages number k fresh (Cells 0) other

  module _ (long_numbers : length p.numbers ≤ length numbers') (long_cells : length p.cells ≤ length cells')
      (old_numbers : (x : ℕ) → x < length p.numbers → slice_index numbers' x ≡ slice_index p.numbers x)
      (old_cells : (x : ℕ) → x < length p.cells → get_or cells' x Undef ≡ get_or p.cells x Undef)
      (inside' : IsInPool with_page fresh) (alone : IsInPool p fresh → ⊥)
      (same : (x : ℕ) → x < 4096 → page_cell with_page fresh x ≡ page_cell p (page_of p number) x) where
    grown : (q : Page) → IsInPool p q → IsInPool with_page q
    grown (Numbers m) inside = omega (arith, inside, long_numbers)
    grown (Cells m) inside = omega (arith, inside, long_cells)

    stays : (q : Page) (x : ℕ) → IsInPool p q → x < 4096 → page_cell with_page q x ≡ page_cell p q x
    stays (Numbers m) x inside lt = ap Num (old_numbers (4096 * m + x) (omega (arith, inside, lt)))
    stays (Cells m) x inside lt = old_cells (4096 * m + x) (omega (arith, inside, lt))

    inside_of : (k : ℕ) → IsInPool with_page (page_of with_page k)
    inside_of k = by (cases_eq k number)
      where
        by : (k ≡ number) ⊎ (k ≢ number) → IsInPool with_page (page_of with_page k)
        by (inl e) = subst (λ q. IsInPool with_page q) (sym (ap (page_of with_page) e ∙ page_here)) inside'
        by (inr other) = subst (λ q. IsInPool with_page q) (sym (page_other k other)) (grown (page_of p k) (is.inside k))

    apart_of : (j k : ℕ) → 0 < number_in_pool (page_of with_page j) → page_of with_page j ≡ page_of with_page k → j ≡ k
    apart_of j k some e = by (cases_eq j number) (cases_eq k number)
      where
        by : (j ≡ number) ⊎ (j ≢ number) → (k ≡ number) ⊎ (k ≢ number) → j ≡ k
        by (inl a) (inl b) = a ∙ sym b
        by (inl a) (inr b) = absurd (alone (subst (IsInPool p) (sym (page_other k b) ∙ sym e ∙ ap (page_of with_page) a ∙ page_here) (is.inside k)))
        by (inr a) (inl b) = absurd (alone (subst (IsInPool p) (sym (page_other j a) ∙ e ∙ ap (page_of with_page) b ∙ page_here) (is.inside j)))
        by (inr a) (inr b) = is.apart j k (subst (λ q. 0 < number_in_pool q) (page_other j a) some) (sym (page_other j a) ∙ e ∙ page_other k b)

    cell_of : (i : ℕ) → pooled_cell with_page i ≡ pooled_cell p i
    cell_of i = by (cases_eq (i / 4096) number)
      where
        by : (i / 4096 ≡ number) ⊎ (i / 4096 ≢ number) → pooled_cell with_page i ≡ pooled_cell p i
        by (inl e) =
            ap (λ q. page_cell with_page q (i % 4096)) (ap (page_of with_page) e ∙ page_here) ∙ same (i % 4096) (omega arith)
            ∙ ap (λ k. page_cell p (page_of p k) (i % 4096)) (sym e)
        by (inr other) = ap (λ q. page_cell with_page q (i % 4096)) (page_other (i / 4096) other) ∙ stays (page_of p (i / 4096)) (i % 4096) (is.inside (i / 4096)) (omega arith)

    pub took : length numbers' % 4096 ≡ 0 → length cells' % 4096 ≡ 0
        → length numbers' + sum_by numbers_wanted (set p.pages number fresh) ≤ number_room' → length cells' + sum_by cells_wanted (set p.pages number fresh) ≤ cell_room'
        → IsSame p (record { pages = set p.pages number fresh; numbers = numbers'; cells = cells'; number_room = number_room'; cell_room = cell_room' })
    took whole_numbers whole_cells room_numbers room_cells = record {
      pooled = record {
        inside = inside_of;
        apart = apart_of;
        zeros = λ x lt. old_numbers x (omega (arith, is.numbers.1, lt)) ∙ is.zeros x lt;
        undefined = λ x lt. old_cells x (omega (arith, is.cells.1, lt)) ∙ is.undefined x lt;
        numbers = (whole_numbers, omega (arith, is.numbers.1, long_numbers));
        cells = (whole_cells, omega (arith, is.cells.1, long_cells));
        number_room = room_numbers;
        cell_room = room_cells;
        few = omega (arith, is.few, length-set p.pages number fresh);
      };
      count = length-set p.pages number fresh;
      cell = cell_of;
    }

-- what is wanted of a pool once a page has one of its own
wants_none : (n : ℕ) → 0 < n → numbers_wanted (Numbers n) ≡ 0
wants_none n some = cond-false {A = ℕ} (eqb n 0) 4096 0 (ne_eqb n 0 (λ e. omega (arith, e, some)))

module _ (p : Pooled) (is : IsPooled p) (number : ℕ) (within : number < length p.pages) where
  -- one of numbers, in place of the zeros
  pub took_numbers : (numbers' : List ℕ) (room n : ℕ) → n ≡ length p.numbers / 4096 → page_of p number ≡ Numbers 0 → length numbers' ≡ length p.numbers + 4096
      → ((x : ℕ) → x < length p.numbers → slice_index numbers' x ≡ slice_index p.numbers x)
      → ((x : ℕ) → x < 4096 → slice_index numbers' (length p.numbers + x) ≡ 0) → p.number_room ≤ room
      → IsSame p (record { pages = set p.pages number (Numbers n); numbers = numbers'; cells = p.cells; number_room = room; cell_room = p.cell_room })
  took_numbers numbers' room n last none long old new more =
      let whole : 4096 * n ≡ length p.numbers = omega (arith, is.numbers.0, last) in
      let some : 0 < n = omega (arith, whole, is.numbers.1) in
      let bytes = sum_by-set numbers_wanted p.pages number (Numbers n) (Cells 0) within in
      let cells = sum_by-set cells_wanted p.pages number (Numbers n) (Cells 0) within in
      took p is number within (Numbers n) numbers' p.cells room p.cell_room (omega (arith, long)) (omega arith) old (λ x lt. refl)
      (omega (arith, whole, long)) (λ inside. omega (arith, inside, whole))
      (λ x lt.
      let first : x ≡ 4096 * 0 + x = omega arith in
      ap (λ k. Num (slice_index numbers' (k + x))) whole ∙ ap Num (new x lt ∙ sym (is.zeros x lt) ∙ ap (slice_index p.numbers) first) ∙ ap (λ q. page_cell p q x) (sym none))
      (omega (arith, long, is.numbers.0)) is.cells.0
      (omega (arith, is.number_room, more, long, bytes, wants_none n some, ap numbers_wanted none))
      (omega (arith, is.cell_room, cells, ap cells_wanted none))

  -- one of any cells, with the cells that it has
  pub took_cells : (cells' : List SymByte) (room n : ℕ) → n ≡ length p.cells / 4096 → cells_wanted (page_of p number) ≡ 4096 → length cells' ≡ length p.cells + 4096
      → ((x : ℕ) → x < length p.cells → get_or cells' x Undef ≡ get_or p.cells x Undef)
      → ((x : ℕ) → x < 4096 → get_or cells' (length p.cells + x) Undef ≡ page_cell p (page_of p number) x) → p.cell_room ≤ room
      → IsSame p (record { pages = set p.pages number (Cells n); numbers = p.numbers; cells = cells'; number_room = p.number_room; cell_room = room })
  took_cells cells' room n last none long old new more =
      let whole : 4096 * n ≡ length p.cells = omega (arith, is.cells.0, last) in
      let some : 0 < n = omega (arith, whole, is.cells.1) in
      let bytes = sum_by-set numbers_wanted p.pages number (Cells n) (Cells 0) within in
      let cells = sum_by-set cells_wanted p.pages number (Cells n) (Cells 0) within in
      took p is number within (Cells n) p.numbers cells' p.number_room room (omega arith) (omega (arith, long)) (λ x lt. refl) old
      (omega (arith, whole, long)) (λ inside. omega (arith, inside, whole))
      (λ x lt. ap (λ k. get_or cells' (k + x) Undef) whole ∙ new x lt)
      is.numbers.0 (omega (arith, long, is.cells.0))
      (omega (arith, is.number_room, bytes))
      (omega (arith, is.cell_room, more, long, cells, wants_none n some, none))

-- a list that got a page more
module _ {X : Type 0} (xs ys : List X) (v d : X) (n m : ℕ) (old : m ≡ length xs) (more : n ≡ m + 4096) (is : ys ≡ take n xs ++ replicate (n - m) v) where
  whole : ys ≡ xs ++ replicate 4096 v
  whole =
      let page : n - m ≡ 4096 = omega (arith, more) in
      is ∙ (λ j. take_all n xs (omega (arith, old, more)) j ++ replicate (page j) v)

  pub length-longer : length ys ≡ length xs + 4096
  length-longer = ap length whole ∙ length-append xs (replicate 4096 v) ∙ ap (λ k. length xs + k) (length-replicate 4096 v)

  pub longer_old : (x : ℕ) → x < length xs → get_or ys x d ≡ get_or xs x d
  longer_old x lt = ap (λ l. get_or l x d) whole ∙ get_or_append_left xs (replicate 4096 v) d x lt

  pub longer_new : (x : ℕ) → x < 4096 → get_or ys (length xs + x) d ≡ v
  longer_new x lt =
      let rest : length xs + x - length xs ≡ x = omega arith in
      ap (λ l. get_or l (length xs + x) d) whole ∙ get_or-append_right xs (replicate 4096 v) (length xs) (length xs + x) d (omega arith) (omega arith) ∙ ap (λ k. get_or (replicate 4096 v) k d) rest ∙ get_or-replicate 4096 x v d lt

-- a page that is the first of its pool
pub first_page : {X : Type 0} (ys : List X) (v : X) → ys ≡ take 4096 [] ++ replicate 4096 v → ys ≡ replicate 4096 v
first_page ys v is = is ∙ ap (λ l. l ++ replicate 4096 v) (take_all 4096 [] (omega arith))

-- there is room for a page of any cells
pub cells_fit : (p : Pooled) → IsPooled p → (number : ℕ) → number < length p.pages → cells_wanted (page_of p number) ≡ 4096 → length p.cells + 4096 ≤ p.cell_room
cells_fit p is number within wanted =
    let sum = sum_by-set cells_wanted p.pages number (Cells 1) (Cells 0) within in
    omega (arith, is.cell_room, sum, wanted)

-- a list with k elements more gets one element more
module _ {X : Type 0} (before now after : List X) (k : ℕ) (b d : X) (given : ℕ → X) (is : after ≡ now ++ b ∷ []) (long : length now ≡ length before + k) where
  pub length-pushed : length after ≡ length before + (k + 1)
  length-pushed = ap length is ∙ length-append now (b ∷ []) ∙ (let e : length now + 1 ≡ length before + (k + 1) = omega (arith, long) in e)

  pub pushed_old : ((x : ℕ) → x < length before → get_or now x d ≡ get_or before x d) → (x : ℕ) → x < length before → get_or after x d ≡ get_or before x d
  pushed_old old x lt = ap (λ l. get_or l x d) is ∙ get_or_append_left now (b ∷ []) d x (omega (arith, lt, long)) ∙ old x lt

  pub pushed_new : b ≡ given k → ((x : ℕ) → x < k → get_or now (length before + x) d ≡ given x) → (x : ℕ) → x < k + 1 → get_or after (length before + x) d ≡ given x
  pushed_new byte new x lt = ap (λ l. get_or l (length before + x) d) is ∙ by_place (cases_lt x k)
    where
      by_place : (x < k) ⊎ (k ≤ x) → get_or (now ++ b ∷ []) (length before + x) d ≡ given x
      by_place (inl first) = get_or_append_left now (b ∷ []) d (length before + x) (omega (arith, long, first)) ∙ new x first
      by_place (inr last) =
          let end : length before + x - length now ≡ 0 = omega (arith, long, lt, last) in
          let same : k ≡ x = omega (arith, lt, last) in
          get_or-append_right now (b ∷ []) (length now) (length before + x) d (omega arith) (omega (arith, long, last)) ∙ ap (λ i. get_or (b ∷ []) i d) end ∙ byte ∙ ap given same

-- an undefined page is undefined again
pub cleared_none : (p : Pooled) → IsPooled p → (at n : ℕ) → page_of p (at / 4096) ≡ Cells 0 → at % 4096 + n ≤ 4096 → IsMade (written at n (λ _. Undef)) p p
cleared_none p is at n none one = record { pooled = is; count = refl; cell = λ i. by_place i (cases_lt i at) (cases_lt i (at + n)) }
  where
    by_place : (i : ℕ) → (i < at) ⊎ (at ≤ i) → (i < at + n) ⊎ (at + n ≤ i) → pooled_cell p i ≡ written at n (λ _. Undef) i (pooled_cell p i)
    by_place i (inl below) q = sym (untouched at n (λ _. Undef) i (pooled_cell p i) (λ low high. omega (arith, below, low)))
    by_place i (inr from) (inr past) = sym (untouched at n (λ _. Undef) i (pooled_cell p i) (λ low high. omega (arith, past, high)))
    by_place i (inr from) (inl within) =
        let k : i / 4096 ≡ at / 4096 = omega (arith, from, within, one) in
        let index : 4096 * 0 + i % 4096 < 4096 = omega arith in
        ap (λ q. page_cell p q (i % 4096)) (ap (page_of p) k ∙ none) ∙ is.undefined (4096 * 0 + i % 4096) index
        ∙ sym (written_there at n (λ _. Undef) i (pooled_cell p i) from within)

-- ---- cells of pages after they were written

-- numbers that are written over zeros
pub filled : (numbers : List ℕ) (size : ℕ) (zeros cells : List SymByte) → zeros ≡ replicate size (Num 0) → length numbers ≤ size → length cells ≡ length zeros
    → AreCellsWritten 0 (map Num numbers) zeros cells → cells ≡ map Num (numbers ++ replicate (size - length numbers) 0)
filled numbers size zeros cells blank within long written_at = same_lists _ _ (sum ∙ sym all) each
  where
    rest : List ℕ
    rest = replicate (size - length numbers) 0

    change : ℕ → SymByte → SymByte
    change = written 0 (length (map Num numbers)) (λ i. get_or (map Num numbers) i Undef)

    long_numbers : length (map Num numbers) ≡ length numbers
    long_numbers = length-map numbers Num

    sum : length cells ≡ size
    sum = long ∙ ap length blank ∙ length-replicate size (Num 0)

    all : length (map Num (numbers ++ rest)) ≡ size
    all = length-map (numbers ++ rest) Num ∙ length-append numbers rest ∙ (let e : length numbers + length rest ≡ size = omega (arith, within, length-replicate {A = ℕ} (size - length numbers) 0) in e)

    whole : length (numbers ++ rest) ≡ size
    whole = sym (length-map (numbers ++ rest) Num) ∙ all

    each : (j : ℕ) (d : SymByte) → j < length cells → get_or cells j d ≡ get_or (map Num (numbers ++ rest)) j d
    each j d lt =
        written_at j d (omega (arith, lt, long))
        ∙ by_place (cases_lt j (length numbers)) ∙ sym (get_or-map Num (numbers ++ rest) j 0 d (omega (arith, lt, sum, whole)))
      where
        by_place : (j < length numbers) ⊎ (length numbers ≤ j) → change j (get_or zeros j d) ≡ Num (get_or (numbers ++ rest) j 0)
        by_place (inl first) =
            let index : j - 0 ≡ j = omega arith in
            written_there 0 (length (map Num numbers)) (λ i. get_or (map Num numbers) i Undef) j (get_or zeros j d) (omega arith) (omega (arith, first, long_numbers))
            ∙ ap (λ i. get_or (map Num numbers) i Undef) index ∙ get_or-map Num numbers j 0 Undef first
            ∙ ap Num (sym (get_or_append_left numbers rest 0 j first))
        by_place (inr after) =
            untouched 0 (length (map Num numbers)) (λ i. get_or (map Num numbers) i Undef) j (get_or zeros j d) (λ low high. omega (arith, after, high, long_numbers))
            ∙ ap (λ l. get_or l j d) blank ∙ get_or-replicate size j (Num 0) d (omega (arith, lt, sum))
            ∙ ap Num (sym (get_or-append_right numbers rest (length numbers) j 0 refl after
            ∙ get_or-replicate (size - length numbers) (j - length numbers) 0 0 (omega (arith, lt, sum, after))))

-- a part of the numbers that are written
pub part_given : (numbers : List ℕ) (done m k : ℕ) → k < m → done + m ≤ length numbers
    → get_or (map Num (take m (drop done numbers))) k Undef ≡ get_or (map Num numbers) (done + k) Undef
part_given numbers done m k lt within =
    let piece : length (take m (drop done numbers)) ≡ m = omega (arith, length-take m (drop done numbers), length-drop done numbers, within) in
    get_or-map Num (take m (drop done numbers)) k 0 Undef (omega (arith, piece, lt))
    ∙ ap Num (get_or-take m (drop done numbers) k 0 lt ∙ get_or-drop done numbers k 0)
    ∙ sym (get_or-map Num numbers (done + k) 0 Undef (omega (arith, lt, within)))

-- cells that are written over others from an index on, as far as these go
pub overlaid_cells : (at count : ℕ) (new old cells : List SymByte) → at < length old → count ≡ min (length new) (length old - at) → length cells ≡ length old
    → AreCellsWritten at (take count new) old cells → cells ≡ overlaid at new old
overlaid_cells at count new old cells inside most long each = same_lists _ _ (long ∙ sym (length-overlaid at new old)) by_index
  where
    piece : length (take count new) ≡ count
    piece = omega (arith, length-take count new, most)

    front : length (take at old) ≡ at
    front = omega (arith, length-take at old, inside)

    rest : List SymByte
    rest = drop (at + length new) old

    by_index : (j : ℕ) (d : SymByte) → j < length cells → get_or cells j d ≡ get_or (overlaid at new old) j d
    by_index j d lt = each j d (omega (arith, lt, long)) ∙ by_place (cases_lt j at) (cases_lt j (at + count))
      where
        given : ℕ → SymByte
        given = λ i. get_or (take count new) i Undef

        by_place : (j < at) ⊎ (at ≤ j) → (j < at + count) ⊎ (at + count ≤ j)
            → written at (length (take count new)) (λ i. get_or (take count new) i Undef) j (get_or old j d) ≡ get_or (overlaid at new old) j d
        by_place (inl before) q =
            untouched at (length (take count new)) (λ i. get_or (take count new) i Undef) j (get_or old j d) (λ low high. omega (arith, before, low))
            ∙ sym (get_or_append_left (take at old) (take (length old - at) new ++ rest) d j (omega (arith, front, before)) ∙ get_or-take at old j d before)
        by_place (inr from) (inl within) =
            written_there at (length (take count new)) (λ i. get_or (take count new) i Undef) j (get_or old j d) from (omega (arith, within, piece))
            ∙ get_or-take count new (j - at) Undef (omega (arith, from, within)) ∙ get_or_default new (j - at) Undef d (omega (arith, from, within, most))
            ∙ sym (get_or-append_right (take at old) (take (length old - at) new ++ rest) at j d front from
            ∙ get_or_append_left (take (length old - at) new) rest d (j - at) (omega (arith, length-take (length old - at) new, from, within, most))
            ∙ get_or-take (length old - at) new (j - at) d (omega (arith, from, within, most)))
        by_place (inr from) (inr past) =
            let all : length (take (length old - at) new) ≡ length new = omega (arith, length-take (length old - at) new, from, past, most, lt, long) in
            let index : at + length new + (j - at - length new) ≡ j = omega (arith, from, past, most, lt, long) in
            untouched at (length (take count new)) (λ i. get_or (take count new) i Undef) j (get_or old j d) (λ low high. omega (arith, past, high, piece))
            ∙ sym (get_or-append_right (take at old) (take (length old - at) new ++ rest) at j d front from
            ∙ get_or-append_right (take (length old - at) new) rest (length new) (j - at) d all (omega (arith, from, past, most, lt, long))
            ∙ get_or-drop (at + length new) old (j - at - length new) d ∙ ap (λ i. get_or old i d) index)
