-- Words that are written to slots, and loaded from them: slots lie apart, and each register has one. So each byte of memory, and each
-- register, comes from one slot, whatever the order.
use Rattle.std.proofs.Common.{◌≡◌, ◌≢◌, ℕ, ◌+◌, ◌-◌, ◌<◌, List, [], ◌∷◌, length, true, refl, sym, ap, ◌∙◌, subst, arith, ltb, leb, ⊎_elim, inl, inr}
use Rattle.std.specs.Prelude.{◌⊎◌, ◌&&◌}
use Rattle.std.proofs.lemmas.Bool.{and_from, cases_Bool, cases_eq, cases_lt, cond-true, le-leb, lt-ltb}
use Rattle.rv_decode.specs.Memory.{Region, cell_at, changed, extents_of, written}
use Rattle.rv_decode.specs.State.{set_reg}
use Rattle.rv_decode.proofs.MemoryLaws.{cell-changed, cell-uncovered, extents-changed, is_covered, untouched}
use Rattle.rv_decode.proofs.RegisterLaws.{length-set_reg, reads, reads-set_reg_other, reads-set_reg_same}
use Rattle.zc_link.specs.Invariants.Groups.{Slot}
use Rattle.zc_link.proofs.Slots.{AreSame, Covers, IsOneOf}

-- ---- words that are written

-- for each slot the four bytes that are given by its register, one slot after another
abbrev pub written_all : (ℕ → ℕ → ℕ) → ℕ → List Slot → List (Region ℕ) → List (Region ℕ)
written_all given base [] m = m
written_all given base (d ∷ ds) m = written_all given base ds (changed (written (base + d.offset) 4 (given d.register)) m)

module _ (given : ℕ → ℕ → ℕ) (base : ℕ) where
  -- a slot is written
  abbrev word_written : Slot → List (Region ℕ) → List (Region ℕ)
  word_written d m = changed (written (base + d.offset) 4 (given d.register)) m

  pub written_extents : (ds : List Slot) (m : List (Region ℕ)) → extents_of (written_all given base ds m) ≡ extents_of m
  written_extents [] m = refl
  written_extents (d ∷ ds) m = written_extents ds (word_written d m) ∙ extents-changed (written (base + d.offset) 4 (given d.register)) m

  -- which slot covers an address
  abbrev Covering : List Slot → ℕ → Type 0
  Covering ds x = ((d : Slot) × IsOneOf d ds × Covers base d x) ⊎ ((d : Slot) → IsOneOf d ds → Covers base d x → ⊥)

  one_more : (d : Slot) (ds : List Slot) (x : ℕ) → Covers base d x ⊎ (Covers base d x → ⊥) → Covering ds x → Covering (d ∷ ds) x
  one_more d ds x (inl held) found = inl (d, inl refl, held)
  one_more d ds x (inr other) (inl f) = inl (f.0, inr f.1, f.2)
  one_more d ds x (inr other) (inr none) = inr (λ c m covers. ⊎_elim (λ here. other (subst (λ t. Covers base t x) here covers)) (λ there. none c there covers) m)

  covers_or : (d : Slot) (x : ℕ) → Covers base d x ⊎ (Covers base d x → ⊥)
  covers_or d x = ⊎_elim
      (λ low. inr (λ c. absurd (omega (arith, low, c.0))))
      (λ at. ⊎_elim (λ high. inl (at, high)) (λ past. inr (λ c. absurd (omega (arith, past, c.1)))) (cases_lt x (base + d.offset + 4)))
      (cases_lt x (base + d.offset))

  covering : (ds : List Slot) (x : ℕ) → Covering ds x
  covering [] x = inr (λ d m c. m)
  covering (d ∷ ds) x = one_more d ds x (covers_or d x) (covering ds x)

  covered : (ds : List Slot) (m : List (Region ℕ)) (x : ℕ) → is_covered (extents_of m) x ≡ true → (d : Slot) → is_covered (extents_of (word_written d m)) x ≡ true
  covered ds m x held d = ap (λ es. is_covered es x) (extents-changed (written (base + d.offset) 4 (given d.register)) m) ∙ held

  -- outside all slots memory is as before
  cell_out :
      (ds : List Slot) (m : List (Region ℕ)) (x : ℕ) → is_covered (extents_of m) x ≡ true → ((d : Slot) → IsOneOf d ds → Covers base d x → ⊥)
      → cell_at 0 (written_all given base ds m) x ≡ cell_at 0 m x
  cell_out [] m x held none = refl
  cell_out (d ∷ ds) m x held none =
      cell_out ds (word_written d m) x (covered ds m x held d) (λ c n. none c (inr n))
      ∙ cell-changed (written (base + d.offset) 4 (given d.register)) m x 0 held
      ∙ untouched (base + d.offset) 4 (given d.register) x (cell_at 0 m x) (λ low high. none d (inl refl) (low, high))

  -- in a slot it is what the slot's register gives
  cell_in :
      (ds : List Slot) (m : List (Region ℕ)) (x : ℕ) (d : Slot) → is_covered (extents_of m) x ≡ true → IsOneOf d ds → Covers base d x
      → ((c : Slot) → IsOneOf c ds → Covers base c x → c ≡ d) → cell_at 0 (written_all given base ds m) x ≡ given d.register (x - (base + d.offset))
  cell_in [] m x d held among covers only = absurd among
  cell_in (c ∷ ds) m x d held among covers only =
      let m1 : List (Region ℕ) = word_written c m in
      let held1 : is_covered (extents_of m1) x ≡ true = covered ds m x held c in
      ⊎_elim
      (λ later.
      cell_in ds m1 x later.0 held1 later.1 later.2 (λ b n k. only b (inr n) k ∙ sym (only later.0 (inr later.1) later.2))
      ∙ ap (λ (t : Slot). given t.register (x - (base + t.offset))) (only later.0 (inr later.1) later.2))
      (λ none.
      let here : d ≡ c = ⊎_elim (λ h. h) (λ there. absurd (none d there covers)) among in
      cell_out ds m1 x held1 none
      ∙ cell-changed (written (base + c.offset) 4 (given c.register)) m x 0 held
      ∙ ap (λ (t : Slot). written (base + t.offset) 4 (given t.register) x (cell_at 0 m x)) (sym here)
      ∙ cond-true (leb (base + d.offset) x && ltb x (base + d.offset + 4)) _ _
      (and_from (leb (base + d.offset) x) (ltb x (base + d.offset + 4)) (le-leb (base + d.offset) x covers.0) (lt-ltb x (base + d.offset + 4) covers.1)))
      (covering ds x)

  -- memory is the same in whatever order the slots are written
  pub written_same :
      (ds es : List Slot) (m : List (Region ℕ)) → AreSame ds es
      → ((x : ℕ) (c d : Slot) → IsOneOf c es → IsOneOf d es → Covers base c x → Covers base d x → c ≡ d)
      → (x : ℕ) → cell_at 0 (written_all given base ds m) x ≡ cell_at 0 (written_all given base es m) x
  written_same ds es m same apart x = ⊎_elim
      (λ held. ⊎_elim
      (λ f.
      cell_in ds m x f.0 held f.1 f.2 (λ c n k. apart x c f.0 (same.into c n) (same.into f.0 f.1) k f.2)
      ∙ sym (cell_in es m x f.0 held (same.into f.0 f.1) f.2 (λ c n k. apart x c f.0 n (same.into f.0 f.1) k f.2)))
      (λ none. cell_out ds m x held none ∙ sym (cell_out es m x held (λ d n k. none d (same.back d n) k)))
      (covering ds x))
      (λ free.
      cell-uncovered (written_all given base ds m) x 0 (ap (λ e. is_covered e x) (written_extents ds m) ∙ free)
      ∙ sym (cell-uncovered (written_all given base es m) x 0 (ap (λ e. is_covered e x) (written_extents es m) ∙ free)))
      (cases_Bool (is_covered (extents_of m) x))

-- what is written depends on the slots' registers alone
pub written_given :
    (f g : ℕ → ℕ → ℕ) (base : ℕ) (ds : List Slot) (m : List (Region ℕ)) → ((d : Slot) → IsOneOf d ds → f d.register ≡ g d.register)
    → written_all f base ds m ≡ written_all g base ds m
written_given f g base [] m same = refl
written_given f g base (d ∷ ds) m same =
    ap (λ h. written_all f base ds (changed (written (base + d.offset) 4 h) m)) (same d (inl refl))
    ∙ written_given f g base ds (changed (written (base + d.offset) 4 (g d.register)) m) (λ c n. same c (inr n))

-- ---- words that are loaded

-- each slot's register gets the word at the slot, one after another
abbrev pub read_all : (ℕ → ℕ) → ℕ → List Slot → List ℕ → List ℕ
read_all word base [] regs = regs
read_all word base (d ∷ ds) regs = read_all word base ds (set_reg regs d.register (word (base + d.offset)))

module _ (word : ℕ → ℕ) (base : ℕ) where
  pub length-read_all : (ds : List Slot) (regs : List ℕ) → length (read_all word base ds regs) ≡ length regs
  length-read_all [] regs = refl
  length-read_all (d ∷ ds) regs = length-read_all ds (set_reg regs d.register (word (base + d.offset))) ∙ length-set_reg regs d.register (word (base + d.offset))

  -- which slot has a register
  abbrev Holding : List Slot → ℕ → Type 0
  Holding ds r = ((d : Slot) × IsOneOf d ds × (d.register ≡ r)) ⊎ ((d : Slot) → IsOneOf d ds → d.register ≢ r)

  one_more_held : (d : Slot) (ds : List Slot) (r : ℕ) → (d.register ≡ r) ⊎ (d.register ≢ r) → Holding ds r → Holding (d ∷ ds) r
  one_more_held d ds r (inl same) held = inl (d, inl refl, same)
  one_more_held d ds r (inr other) (inl f) = inl (f.0, inr f.1, f.2)
  one_more_held d ds r (inr other) (inr none) = inr (λ c m is. ⊎_elim (λ here. other (sym (ap (λ (t : Slot). t.register) here) ∙ is)) (λ there. none c there is) m)

  holding : (ds : List Slot) (r : ℕ) → Holding ds r
  holding [] r = inr (λ d m c. m)
  holding (d ∷ ds) r = one_more_held d ds r (cases_eq d.register r) (holding ds r)

  -- a register without a slot is as before
  pub reads_out : (ds : List Slot) (regs : List ℕ) (r : ℕ) → ((d : Slot) → IsOneOf d ds → d.register ≢ r) → reads 0 0 (read_all word base ds regs) r ≡ reads 0 0 regs r
  reads_out [] regs r none = refl
  reads_out (d ∷ ds) regs r none =
      reads_out ds (set_reg regs d.register (word (base + d.offset))) r (λ c n. none c (inr n))
      ∙ reads-set_reg_other 0 0 regs d.register (word (base + d.offset)) r (λ is. none d (inl refl) (sym is))

  -- a register with a slot gets the slot's word
  reads_in :
      (ds : List Slot) (regs : List ℕ) (r : ℕ) (d : Slot) → r ≢ 0 → r < length regs → IsOneOf d ds → d.register ≡ r
      → ((c : Slot) → IsOneOf c ds → c.register ≡ r → c ≡ d) → reads 0 0 (read_all word base ds regs) r ≡ word (base + d.offset)
  reads_in [] regs r d some long among is only = absurd among
  reads_in (c ∷ ds) regs r d some long among is only =
      let v = word (base + c.offset) in
      let regs1 : List ℕ = set_reg regs c.register v in
      let long1 : r < length regs1 = omega (arith, long, length-set_reg regs c.register v) in
      ⊎_elim
      (λ later.
      reads_in ds regs1 r later.0 some long1 later.1 later.2 (λ b n k. only b (inr n) k ∙ sym (only later.0 (inr later.1) later.2))
      ∙ ap (λ (t : Slot). word (base + t.offset)) (only later.0 (inr later.1) later.2))
      (λ none.
      let here : d ≡ c = ⊎_elim (λ h. h) (λ there. absurd (none d there is)) among in
      let is_r : c.register ≡ r = sym (ap (λ (t : Slot). t.register) here) ∙ is in
      reads_out ds regs1 r none
      ∙ ap (λ k. reads 0 0 (set_reg regs k v) r) is_r
      ∙ reads-set_reg_same 0 0 regs r v some long
      ∙ ap (λ (t : Slot). word (base + t.offset)) (sym here))
      (holding ds r)

  -- the registers are the same in whatever order the slots are read, and whatever the slots' registers held before
  pub reads_same :
      (ds es : List Slot) (xs ys : List ℕ) → AreSame ds es → length xs ≡ 32 → length ys ≡ 32
      → ((c d : Slot) → IsOneOf c es → IsOneOf d es → c.register ≡ d.register → c ≡ d) → ((d : Slot) → IsOneOf d es → (d.register < 32) × (0 < d.register))
      → (r : ℕ) → (((d : Slot) → IsOneOf d es → d.register ≢ r) → reads 0 0 xs r ≡ reads 0 0 ys r)
      → reads 0 0 (read_all word base ds xs) r ≡ reads 0 0 (read_all word base es ys) r
  reads_same ds es xs ys same long_x long_y once range r others = ⊎_elim
      (λ f.
      let m : IsOneOf f.0 es = same.into f.0 f.1 in
      let q = range f.0 m in
      let some : r ≢ 0 = λ zero. absurd (omega (arith, q.1, f.2, zero)) in
      reads_in ds xs r f.0 some (omega (arith, q.0, f.2, long_x)) f.1 f.2 (λ c n k. once c f.0 (same.into c n) m (k ∙ sym f.2))
      ∙ sym (reads_in es ys r f.0 some (omega (arith, q.0, f.2, long_y)) m f.2 (λ c n k. once c f.0 n m (k ∙ sym f.2))))
      (λ none.
      reads_out ds xs r none
      ∙ others (λ d n k. none d (same.back d n) k)
      ∙ sym (reads_out es ys r (λ d n k. none d (same.back d n) k)))
      (holding ds r)

-- what is loaded depends on the slots' words alone
pub read_given :
    (f g : ℕ → ℕ) (base : ℕ) (ds : List Slot) (regs : List ℕ) → ((d : Slot) → IsOneOf d ds → f (base + d.offset) ≡ g (base + d.offset))
    → read_all f base ds regs ≡ read_all g base ds regs
read_given f g base [] regs same = refl
read_given f g base (d ∷ ds) regs same =
    ap (λ v. read_all f base ds (set_reg regs d.register v)) (same d (inl refl))
    ∙ read_given f g base ds (set_reg regs d.register (g (base + d.offset))) (λ c n. same c (inr n))
