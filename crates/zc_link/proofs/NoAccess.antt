-- Where what is fetched at pc has no accesses, since it is no push or pop or no instruction at all, an interrupt only writes
-- bytes of the stack, and the same is fetched afterwards. So on a way of one commit it stands there until that is made,
-- whatever interrupts come and cells are written.
use Rattle.std.proofs.Common.{◌≡◌, ℕ, suc, ◌<◌, ◌≤◌, List, [], ◌∷◌, true, refl, sym, ap, ◌∙◌, subst, inl, arith, ltb, ◌&&◌}
use Rattle.std.proofs.lemmas.Bool.{and_parts, cond_both}
use Rattle.interrupt_plan.specs.Plan.{Interrupt}
use Rattle.rv_decode.specs.declared.instr.Instr.{Instr}
use Rattle.rv_decode.specs.Memory.{changed, extents_of, is_data, is_stack, is_text, lies_in, written}
use Rattle.rv_decode.specs.State.{ZcCore, ZcState, byte_in, reg_in}
use Rattle.rv_decode.proofs.MemoryLaws.{cell-changed, extents-changed, is_covered, lies_covered, stack_is_data, untouched}
use Rattle.sym_machine.specs.Program.{Program}
use Rattle.zc_decode.specs.Accesses.{accesses_of}
use Rattle.zc_decode.specs.declared.short.Short.{Short}
use Rattle.zc_decode.specs.declared.short.Short.TheVariants.{Base}
use Rattle.zc_machine.specs.declared.reason.Reason.TheVariants.{Illegal}
use Rattle.zc_machine.specs.Fetch.{Fetched, Found, Missing, fetched_at}
use Rattle.zc_machine.specs.Interrupt.{all_dirtied, dirtied, done_of, interrupted}
use Rattle.zc_machine.proofs.FetchLaws.{SameText, fetched_same}
use Rattle.zc_link.specs.Image.{Image, loaded_core}
use Rattle.zc_link.specs.Invariants.Stretches.{OneAt, UnreadAt}
use Rattle.zc_link.specs.Invariants.Room.{Room}
use Rattle.zc_link.specs.DataApart.{Cuts, IsCell, OnWay, Pokes, Starts, Turns, poked}
use Rattle.zc_link.proofs.Cuts.{cut-quiet, done-none}

-- what is fetched at an address has no accesses
pub record NoAccessAt (e : Image) (a : ℕ) : Type 0 where
  pub fetched : Fetched
  pub is : fetched_at (loaded_core e) a ≡ fetched
  pub quiet : (done : List ℕ) (y : ZcCore) → done_of fetched done y ≡ y

-- an instruction without accesses
abbrev pub short_at : {e : Image} {a : ℕ} (short : Short) → ((sp : ℕ) → accesses_of short sp ≡ []) → OneAt e a short → NoAccessAt e a
short_at short none at = record { fetched = Found short at.size; is = at.here; quiet = λ done y. done-none short at.size none done y }

-- one of 32 bits, or its short form, is such an instruction
abbrev pub base_at : {e : Image} {a : ℕ} {i : Instr} → OneAt e a (Base i) → NoAccessAt e a
base_at {i = i} at = short_at (Base i) (λ sp. refl) at

-- a word that is no instruction has none
abbrev pub unread_no_access : {e : Image} {a word : ℕ} → UnreadAt e a word → NoAccessAt e a
unread_no_access at = record { fetched = Missing Illegal; is = at.here; quiet = λ done y. refl }

-- what is fetched at pc has none, and the text is as it was loaded
pub record NoAccess (e : Image) (y : ZcCore) : Type 0 where
  pub text : SameText (loaded_core e) y
  pub here : NoAccessAt e y.pc
  pub open here use *

-- it is fetched at pc
pub here_fetched : {e : Image} {y : ZcCore} (n : NoAccess e y) → fetched_at y y.pc ≡ n.fetched
here_fetched {e} {y} n = fetched_same (loaded_core e) y n.text y.pc ∙ n.is

-- an interrupt before it only writes its own bytes
pub cut_writes : {e : Image} {y : ZcCore} (c : Interrupt) → NoAccess e y → interrupted c y ≡ all_dirtied c.dirt y
cut_writes {y = y} c n = cut-quiet c y n.fetched n.quiet (here_fetched n)

-- z is y but for memory, whose text is as it was loaded
pub record KeepsText (e : Image) (y z : ZcCore) : Type 0 where
  pub rest : z ≡ record y { memory = z.memory }
  pub text : SameText (loaded_core e) z

-- with only memory outside the text changed, it is still fetched at pc
here_kept : {e : Image} {y z : ZcCore} → NoAccess e y → KeepsText e y z → NoAccess e z
here_kept {e} n kept = record { text = kept.text; here = subst (λ x. NoAccessAt e x.pc) (sym kept.rest) n.here }

-- ---- bytes of data and stack that are written

module _ {p : Program} {e : Image} (room : Room p e) where
  written_text :
      (x b : ℕ) (y : ZcCore) → lies_in is_data (extents_of (loaded_core e).memory) x 1 ≡ true → SameText (loaded_core e) y
      → SameText (loaded_core e) (record y { memory = changed (written x 1 (λ _. b)) y.memory })
  written_text x b y held_there same = record {
    extents = extents-changed (written x 1 (λ _. b)) y.memory ∙ same.extents;
    text = λ a text.
        let held : is_covered (extents_of y.memory) a ≡ true = ap (λ es. is_covered es a) same.extents ∙ lies_covered is_text (extents_of (loaded_core e).memory) a text in
        cell-changed (written x 1 (λ _. b)) y.memory a 0 held
        ∙ untouched x 1 (λ _. b) a (byte_in y a) (λ low high. other a text (omega (arith, low, high)))
        ∙ same.text a text;
  }
    where
      other : (a : ℕ) → lies_in is_text (extents_of (loaded_core e).memory) a 1 ≡ true → a ≡ x → ⊥
      other a text is =
          let none = room.apart a text in
          let some = ap (λ k. lies_in is_data (extents_of (loaded_core e).memory) k 1) is ∙ held_there in
          cc

  pub poked_kept : (a b : ℕ) (z : ZcState) → IsCell p a → SameText (loaded_core e) z.core → KeepsText e z.core (poked a b z).core
  poked_kept a b z cell same = record {
    rest = refl;
    text = written_text a b z.core (room.reaches a 1 (omega arith) (inl (cell.low, omega (arith, cell.high)))) same;
  }

  dirtied_kept : (d : ℕ × ℕ) (y : ZcCore) → SameText (loaded_core e) y → KeepsText e y (dirtied d y)
  dirtied_kept d y same =
      cond_both (lies_in is_stack (extents_of y.memory) d.0 1 && ltb d.0 (reg_in y 2)) (record y { memory = changed (written d.0 1 (λ i. d.1)) y.memory }) y (KeepsText e y)
      (λ free.
      let stack = (and_parts (lies_in is_stack (extents_of y.memory) d.0 1) (ltb d.0 (reg_in y 2)) free).0 in
      let held = ap (λ es. lies_in is_data es d.0 1) (sym same.extents) ∙ stack_is_data (extents_of y.memory) d.0 1 stack in
      record { rest = refl; text = written_text d.0 d.1 y held same })
      (λ _. record { rest = refl; text = same })

  all_dirtied_kept : (ds : List (ℕ × ℕ)) (y : ZcCore) → SameText (loaded_core e) y → KeepsText e y (all_dirtied ds y)
  all_dirtied_kept [] y same = record { rest = refl; text = same }
  all_dirtied_kept (d ∷ ds) y same =
      let first = dirtied_kept d y same in
      let later = all_dirtied_kept ds (dirtied d y) first.text in
      record {
        rest = later.rest ∙ ap {A = ZcCore} {B = ZcCore} (λ x. record x { memory = (all_dirtied ds (dirtied d y)).memory }) first.rest;
        text = later.text;
      }

  pub cut_kept : (c : Interrupt) (y : ZcCore) → NoAccess e y → KeepsText e y (interrupted c y)
  cut_kept c y n = subst (KeepsText e y) (sym (cut_writes c n)) (all_dirtied_kept c.dirt y n.text)

  -- ---- one commit

  module _ {From : ℕ → ZcState → Type 0} (from : (k : ℕ) (z : ZcState) → From k z → (k ≤ 1) × (0 < k → NoAccess e z.core)) where
    on_way : {k : ℕ} {z : ZcState} → OnWay p From k z → (k ≤ 1) × (0 < k → NoAccess e z.core)
    on_way (Starts k z is) = from k z is
    on_way (Cuts k z c is way) =
        let on = on_way way in
        let at = on.1 (omega arith) in
        (on.0, λ _. here_kept at (cut_kept c z.core at))
    on_way (Pokes k z a b is small way) =
        let on = on_way way in
        let at = on.1 (omega arith) in
        (on.0, λ _. here_kept at (poked_kept a b z is at.text))
    on_way (Turns k z z' way turn) = let few = (on_way way).0 in (omega (arith, few), λ more. absurd (omega (arith, few, more)))

    pub one_no_access : (k : ℕ) (z : ZcState) → OnWay p From (suc k) z → NoAccess e z.core
    one_no_access k z way = (on_way way).1 (omega arith)
