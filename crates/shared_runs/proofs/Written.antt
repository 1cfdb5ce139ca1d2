-- Cells of data that are written in both machines: a sound pair stays sound. And the machine's cells, one after another.
use Rattle.std.proofs.Common.{◌≡◌, ◌≢◌, ℕ, ◌+◌, ◌<◌, List, [], ◌∷◌, ◌++◌, true, refl, sym, ap, ◌∙◌, subst, inl, inr, ⊎_elim, arith, leb, ltb}
use Rattle.std.specs.Prelude.{◌⊎◌, ◌&&◌, All}
use Rattle.std.proofs.lemmas.Bool.{cases_Bool, cases_eq, cond-true, cond_both}
use Rattle.std.proofs.lemmas.List.Elements.{All-head, All-tail}
use Rattle.zc_base.specs.declared.place.Place.{Place}
use Rattle.rv_decode.specs.Memory.{Region, cell_at, changed, extents_of, is_text, lies_in, written}
use Rattle.rv_decode.specs.State.{ZcCore, ZcState, byte_in}
use Rattle.rv_decode.proofs.MemoryLaws.{cell-changed, cell-changed_default, cell-uncovered, cell_kept, extents-changed, is_covered, lies_covered, untouched}
use Rattle.rv_decode.proofs.WriteLaws.{written_there}
use Rattle.sym_machine.specs.declared.word.SymByte.TheVariants.{Num, Undef}
use Rattle.sym_machine.specs.Program.{Program}
use Rattle.sym_machine.specs.State.{PlainCore, PlainState}
use Rattle.zc_machine.specs.Poked.{is_segment, poked_core}
use Rattle.zc_link.specs.DataApart.{CellsLie, IsCell, all_poked, poked, poked_plain}
use Rattle.zc_link.specs.Image.{Image, loaded_core}
use Rattle.zc_link.specs.Sound.{Alike, NamesByte, Sound}
use Rattle.zc_link.specs.Stands.{ByteStands, IsMemory}
use Rattle.zc_link.specs.Values.{value_in}
use Rattle.shared_runs.proofs.Cells.{LiesAlone, alone_apart, alone_no_text, written_back}

-- ---- cells, one after another

-- a cell of data, and a byte
abbrev pub IsWrite : Program → ℕ × ℕ → Type 0
IsWrite p c = IsCell p c.0 × (c.1 < 256)

-- the machine with cells written, one after another
abbrev pub all_written : List (ℕ × ℕ) → ZcState → ZcState
all_written [] z = z
all_written (c ∷ cs) z = all_written cs (poked c.0 c.1 z)

pub all_written-append : (cs ds : List (ℕ × ℕ)) (z : ZcState) → all_written (cs ++ ds) z ≡ all_written ds (all_written cs z)
all_written-append [] ds z = refl
all_written-append (c ∷ cs) ds z = all_written-append cs ds (poked c.0 c.1 z)

pub written_exit : (cs : List (ℕ × ℕ)) (z : ZcState) → (all_written cs z).core.exit ≡ z.core.exit
written_exit [] z = refl
written_exit (c ∷ cs) z = written_exit cs (poked c.0 c.1 z)

pub written_events : (cs : List (ℕ × ℕ)) (z : ZcState) → (all_written cs z).events ≡ z.events
written_events [] z = refl
written_events (c ∷ cs) z = written_events cs (poked c.0 c.1 z)

pub written_devices : (cs : List (ℕ × ℕ)) (z : ZcState) → (all_written cs z).devices ≡ z.devices
written_devices [] z = refl
written_devices (c ∷ cs) z = written_devices cs (poked c.0 c.1 z)

pub written_extents : (cs : List (ℕ × ℕ)) (z : ZcState) → extents_of (all_written cs z).core.memory ≡ extents_of z.core.memory
written_extents [] z = refl
written_extents (c ∷ cs) z = written_extents cs (poked c.0 c.1 z) ∙ extents-changed (written c.0 1 (λ _. c.1)) z.core.memory

-- ---- the program with cells written

pub poked_place : (cs : List (ℕ × ℕ)) (r : PlainState) → (all_poked cs r).core.place ≡ r.core.place
poked_place [] r = refl
poked_place (c ∷ cs) r = poked_place cs (poked_plain c r)

pub poked_exit : (cs : List (ℕ × ℕ)) (r : PlainState) → (all_poked cs r).core.exit ≡ r.core.exit
poked_exit [] r = refl
poked_exit (c ∷ cs) r = poked_exit cs (poked_plain c r)

pub poked_events : (cs : List (ℕ × ℕ)) (r : PlainState) → (all_poked cs r).events ≡ r.events
poked_events [] r = refl
poked_events (c ∷ cs) r = poked_events cs (poked_plain c r)

pub poked_devices : (cs : List (ℕ × ℕ)) (r : PlainState) → (all_poked cs r).devices ≡ r.devices
poked_devices [] r = refl
poked_devices (c ∷ cs) r = poked_devices cs (poked_plain c r)

-- ---- one byte

module _ {X : Type 0} (a : ℕ) (b : X) (rs : List (Region X)) where
  elsewhere : (d : X) (x : ℕ) → x ≢ a → cell_at d (changed (written a 1 (λ _. b)) rs) x ≡ cell_at d rs x
  elsewhere d x other =
      let stays : (c : X) → written a 1 (λ _. b) x c ≡ c = λ c. untouched a 1 (λ _. b) x c (λ low high. other (omega (arith, low, high))) in
      cell-changed_default (written a 1 (λ _. b)) rs x d (stays d) ∙ stays (cell_at d rs x)

  there : (d : X) → is_covered (extents_of rs) a ≡ true → cell_at d (changed (written a 1 (λ _. b)) rs) a ≡ b
  there d here = cell-changed (written a 1 (λ _. b)) rs a d here ∙ written_there a 1 (λ _. b) a (cell_at d rs a) (omega arith) (omega arith)

  -- it is there if a region has the address
  there_or_not : (d : X) (P : X → Type 0) → P b → P d → P (cell_at d (changed (written a 1 (λ _. b)) rs) a)
  there_or_not d P is none = ⊎_elim
      (λ here. subst P (sym (there d here)) is)
      (λ no. subst P (sym (cell-uncovered (changed (written a 1 (λ _. b)) rs) a d (ap (λ es. is_covered es a) (extents-changed (written a 1 (λ _. b)) rs) ∙ no))) none)
      (cases_Bool (is_covered (extents_of rs) a))

small_written : (a b x c : ℕ) → b < 256 → c < 256 → written a 1 (λ _. b) x c < 256
small_written a b x c small before = cond_both (leb a x && ltb x (a + 1)) b c (λ n. n < 256) (λ _. small) (λ _. before)

module _ {p : Program} {e : Image} (lie : CellsLie p e) where
  alone : (a : ℕ) → IsCell p a → LiesAlone (extents_of (loaded_core e).memory) a
  alone a cell = alone_apart (extents_of (loaded_core e).memory) a lie.apart (lie.lies a cell)

  module _ (a b : ℕ) (cell : IsCell p a) (small : b < 256) where
    -- what the machine writes there, if its regions lie as they were loaded
    pub poked_there : (z : ZcCore) → extents_of z.memory ≡ extents_of (loaded_core e).memory → poked_core (a, b) z ≡ record z { memory = changed (written a 1 (λ _. b)) z.memory }
    poked_there z same = cond-true (lies_in is_segment (extents_of z.memory) a 1) _ z (ap (λ es. lies_in is_segment es a 1) same ∙ lie.lies a cell)

    covered : (z : ZcCore) → extents_of z.memory ≡ extents_of (loaded_core e).memory → is_covered (extents_of z.memory) a ≡ true
    covered z same = ap (λ es. is_covered es a) same ∙ lies_covered is_segment (extents_of (loaded_core e).memory) a (lie.lies a cell)

    pub byte_there : (z : ZcCore) → extents_of z.memory ≡ extents_of (loaded_core e).memory → cell_at 0 (changed (written a 1 (λ _. b)) z.memory) a ≡ b
    byte_there z same = there a b z.memory 0 (covered z same)

    -- a byte at a cell, which may be this one
    pub small_there :
        (z : ZcCore) (x : ℕ) → extents_of z.memory ≡ extents_of (loaded_core e).memory → byte_in z x < 256
        → cell_at 0 (changed (written a 1 (λ _. b)) z.memory) x < 256
    small_there z x same before = by (cases_eq x a)
      where
        by : (x ≡ a) ⊎ (x ≡ a → ⊥) → cell_at 0 (changed (written a 1 (λ _. b)) z.memory) x < 256
        by (inl is) = let at = ap (cell_at 0 (changed (written a 1 (λ _. b)) z.memory)) is ∙ byte_there z same in omega (arith, at, small)
        by (inr other) = let at = elsewhere a b z.memory 0 x other in omega (arith, at, before)

    poked_alike :
        (Named : Place → Type 0) (s : PlainCore) (z : ZcCore) → Alike p Named e s z
        → Alike p Named e (record s { memory = changed (written a 1 (λ _. Num b)) s.memory }) (record z { memory = changed (written a 1 (λ _. b)) z.memory })
    poked_alike Named s z al = record {
      ready = record {
        running = al.running;
        going = al.going;
        plain = record { count = al.plain.count; input = al.plain.input };
        core = record {
          count = al.core.count;
          words = al.core.words;
          bytes = cell_kept (written a 1 (λ _. b)) z.memory 0 (λ n. n < 256) (λ x c before. small_written a b x c small before) (omega arith) al.core.bytes;
        };
        registers = al.registers;
        memory = λ x m. memory x m (cases_eq x a);
        names = record { registers = al.names.registers; memory = λ x m. names x m (cases_eq x a) };
        lies = extents-changed (written a 1 (λ _. Num b)) s.memory ∙ al.lies;
        extents = extents-changed (written a 1 (λ _. b)) z.memory ∙ al.extents;
        text = λ x t. elsewhere a b z.memory 0 x (λ is. no_text x t is) ∙ al.text x t;
        table = al.table;
      };
      below = λ x low lt. elsewhere a (Num b) s.memory Undef x (λ is. let high = cell.high in let under = lie.under in omega (arith, low, is, high, under)) ∙ al.below x low lt;
    }
      where
        no_text : (x : ℕ) → lies_in is_text (extents_of (loaded_core e).memory) x 1 ≡ true → x ≡ a → ⊥
        no_text x t is = let none = alone_no_text (extents_of (loaded_core e).memory) a (alone a cell) in let some = subst (λ y. lies_in is_text (extents_of (loaded_core e).memory) y 1 ≡ true) is t in cc

        memory :
            (x : ℕ) → IsMemory p x → (x ≡ a) ⊎ (x ≡ a → ⊥)
            → ByteStands (value_in p e.address) (cell_at Undef (changed (written a 1 (λ _. Num b)) s.memory) x) (cell_at 0 (changed (written a 1 (λ _. b)) z.memory) x)
        memory x m (inl is) = subst (λ y. ByteStands (value_in p e.address) (cell_at Undef (changed (written a 1 (λ _. Num b)) s.memory) y) (cell_at 0 (changed (written a 1 (λ _. b)) z.memory) y)) (sym is)
            (subst (ByteStands (value_in p e.address) (cell_at Undef (changed (written a 1 (λ _. Num b)) s.memory) a)) (sym (byte_there z al.extents))
            (there_or_not a (Num b) s.memory Undef (λ c. ByteStands (value_in p e.address) c b) refl tt))
        memory x m (inr other) = rw (elsewhere a (Num b) s.memory Undef x other, elsewhere a b z.memory 0 x other) (al.memory x m)

        names : (x : ℕ) → IsMemory p x → (x ≡ a) ⊎ (x ≡ a → ⊥) → NamesByte Named (cell_at Undef (changed (written a 1 (λ _. Num b)) s.memory) x)
        names x m (inl is) = subst (λ y. NamesByte Named (cell_at Undef (changed (written a 1 (λ _. Num b)) s.memory) y)) (sym is) (there_or_not a (Num b) s.memory Undef (NamesByte Named) tt tt)
        names x m (inr other) = rw (elsewhere a (Num b) s.memory Undef x other) (al.names.memory x m)

    -- the byte from before, written over this one
    pub poked_back : (z : ZcState) → extents_of z.core.memory ≡ extents_of (loaded_core e).memory → poked a (byte_in z.core a) (poked a b z) ≡ z
    poked_back z same =
        ap {A = List (Region ℕ)} {B = ZcState} (λ memory. record z { core = record z.core { memory = memory } })
        (written_back a b z.core.memory (subst (λ es. LiesAlone es a) (sym same) (alone a cell)))

  -- ---- pairs

  pub written_sound :
      {Named : Place → Type 0} (cs : List (ℕ × ℕ)) (r : PlainState) (z : ZcState) → All (IsWrite p) cs → Sound p Named e r.core z
      → Sound p Named e (all_poked cs r).core (all_written cs z)
  written_sound [] r z are so = so
  written_sound {Named} (c ∷ cs) r z are so =
      let first = All-head (IsWrite p) c cs are in
      written_sound cs (poked_plain c r) (poked c.0 c.1 z) (All-tail (IsWrite p) c cs are)
      (record { alike = poked_alike c.0 c.1 first.0 first.1 Named r.core z.core so.alike; input = so.input; place = so.place })
