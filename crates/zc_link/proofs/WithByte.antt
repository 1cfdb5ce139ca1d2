-- One byte of memory is another. What looks at other bytes alone does the same, and keeps that byte: accesses and interrupts that lie
-- elsewhere, and so the effects of pushes, pops and moves.
use Rattle.std.proofs.Common.{◌≡◌, ◌≢◌, ℕ, zero, suc, ◌+◌, ◌-◌, ◌%◌, ◌<◌, ◌≤◌, List, [], ◌∷◌, Option, Some, None, Bool, true, false, cond, refl, sym, ap, ◌∙◌, subst, arith, eqb, ltb, leb}
use Rattle.std.specs.Prelude.{◌&&◌, slice_get}
use Rattle.std.proofs.lemmas.Bool.{and_parts, cond-true, cond_both, leb-true, ltb-true}
use Rattle.rv_decode.specs.Effect.{BadAccess, Commits, Effect, Misaligned, onward, reaching}
use Rattle.rv_decode.specs.Memory.{Extent, Region, byte_of, changed, extents_of, is_data, is_stack, lies_in, written}
use Rattle.rv_decode.specs.State.{ZcCore, byte_in, reg_in, set_reg, word_at}
use Rattle.rv_decode.proofs.MemoryLaws.{cell-changed_default, extents-changed, untouched}
use Rattle.rv_decode.proofs.WriteLaws.{changed-after}
use Rattle.zc_decode.specs.Accesses.{Access, accesses_of, sp_after}
use Rattle.zc_decode.specs.Effect.{accessed, all_accessed, framed, reaching_all, restored, returned, saved, short_effect, zeroed}
use Rattle.zc_decode.specs.declared.short.Short.{Short}
use Rattle.zc_decode.specs.declared.short.Short.TheVariants.{Base, MoveAs, MoveSa, Pop, PopRet, PopRetz, Push, TableJump}
use Rattle.zc_machine.specs.Fetch.{Found}
use Rattle.zc_machine.specs.Interrupt.{all_dirtied, dirtied, done_all, done_of, done_one}
use Rattle.zc_machine.proofs.FrameLaws.{is_possible}
use Rattle.zc_link.proofs.Effects.{commits_same}

-- ---- changes of different cells

changed-both : {X : Type 0} (f g : ℕ → X → X) → ((x : ℕ) (c : X) → f x (g x c) ≡ g x (f x c)) → (rs : List (Region X)) → changed f (changed g rs) ≡ changed g (changed f rs)
changed-both f g each rs = changed-after f g (λ x c. g x (f x c)) each rs ∙ sym (changed-after g f (λ x c. g x (f x c)) (λ x c. refl) rs)

-- a byte, and some that lie elsewhere
written-both :
    (a b d n : ℕ) (given : ℕ → ℕ) → (d ≤ a → a < d + n → ⊥) → (x c : ℕ)
    → written d n given x (written a 1 (λ _. b) x c) ≡ written a 1 (λ _. b) x (written d n given x c)
written-both a b d n given other x c = either (leb d x && ltb x (d + n)) (leb a x && ltb x (a + 1)) refl refl
  where
    either :
        (s t : Bool) → (leb d x && ltb x (d + n)) ≡ s → (leb a x && ltb x (a + 1)) ≡ t → cond s (given (x - d)) (cond t b c) ≡ cond t b (cond s (given (x - d)) c)
    either true true here there =
        let q = and_parts (leb d x) (ltb x (d + n)) here in
        let u = and_parts (leb a x) (ltb x (a + 1)) there in
        let same : a ≡ x = omega (arith, leb-true a x u.0, ltb-true x (a + 1) u.1) in
        absurd (other (omega (arith, same, leb-true d x q.0)) (omega (arith, same, ltb-true x (d + n) q.1)))
    either true false here there = refl
    either false t here there = refl

-- ---- a state with another byte

abbrev pub with_byte : ℕ → ℕ → ZcCore → ZcCore
with_byte a b y = record y { memory = changed (written a 1 (λ _. b)) y.memory }

module _ (a b : ℕ) where
  abbrev w : ZcCore → ZcCore
  w y = with_byte a b y

  with_extents : (y : ZcCore) → extents_of (w y).memory ≡ extents_of y.memory
  with_extents y = extents-changed (written a 1 (λ _. b)) y.memory

  -- another byte
  byte_with : (y : ZcCore) (x : ℕ) → x ≢ a → byte_in (w y) x ≡ byte_in y x
  byte_with y x other =
      let stays : (c : ℕ) → written a 1 (λ _. b) x c ≡ c = λ c. untouched a 1 (λ _. b) x c (λ low high. other (omega (arith, low, high))) in
      cell-changed_default (written a 1 (λ _. b)) y.memory x 0 (stays 0) ∙ stays (byte_in y x)

  -- ---- accesses of words elsewhere

  -- a word lies elsewhere if it begins above
  word_with : (y : ZcCore) (at : ℕ) → a < at → word_at (w y) at ≡ word_at y at
  word_with y at above =
      let e0 = byte_with y at (λ is. omega (arith, is, above)) in
      let e1 = byte_with y (at + 1) (λ is. omega (arith, is, above)) in
      let e2 = byte_with y (at + 2) (λ is. omega (arith, is, above)) in
      let e3 = byte_with y (at + 3) (λ is. omega (arith, is, above)) in
      omega (arith, e0, e1, e2, e3)

  saved_with : (x : Access) (y : ZcCore) → a < x.at → saved x (w y) ≡ w (saved x y)
  saved_with x y above =
      ap {A = List (Region ℕ)} {B = ZcCore} (λ memory. record y { memory = memory })
      (changed-both (written x.at 4 (byte_of (reg_in y x.register))) (written a 1 (λ _. b))
      (written-both a b x.at 4 (byte_of (reg_in y x.register)) (λ low high. omega (arith, low, above))) y.memory)

  restored_with : (x : Access) (y : ZcCore) → a < x.at → restored x (w y) ≡ w (restored x y)
  restored_with x y above = ap (λ v. record (w y) { regs = set_reg y.regs x.register v }) (word_with y x.at above)

  accessed_with : (s : Short) (x : Access) (y : ZcCore) → a < x.at → accessed s x (w y) ≡ w (accessed s x y)
  accessed_with (Base i) x y above = refl
  accessed_with (Push list adjust) x y above = saved_with x y above
  accessed_with (Pop list adjust) x y above = restored_with x y above
  accessed_with (PopRet list adjust) x y above = restored_with x y above
  accessed_with (PopRetz list adjust) x y above = restored_with x y above
  accessed_with (MoveSa first second) x y above = refl
  accessed_with (MoveAs first second) x y above = refl
  accessed_with (TableJump index) x y above = refl

  -- all of them begin above
  abbrev pub AreAbove : List Access → Type 0
  AreAbove [] = Unit {0}
  AreAbove (x ∷ xs) = (a < x.at) × AreAbove xs

  above_at : (xs : List Access) (j : ℕ) (x : Access) → AreAbove xs → slice_get xs j ≡ Some x → a < x.at
  above_at [] j x all h = absurd cc
  above_at (t ∷ ts) zero x all h = subst (λ (k : Access). a < k.at) (some_same h) all.0
    where
      some_same : {u v : Access} → Some u ≡ Some v → u ≡ v
      some_same e = cc
  above_at (t ∷ ts) (suc j) x all h = above_at ts j x all.1 h

  all_accessed_with : (s : Short) (xs : List Access) (y : ZcCore) → AreAbove xs → all_accessed s xs (w y) ≡ w (all_accessed s xs y)
  all_accessed_with s [] y all = refl
  all_accessed_with s (x ∷ xs) y all = ap (all_accessed s xs) (accessed_with s x y all.0) ∙ all_accessed_with s xs (accessed s x y) all.1

  -- ---- interrupts

  done_one_with : (s : Short) (o : Option Access) (y : ZcCore) → ((x : Access) → o ≡ Some x → a < x.at) → done_one s o (w y) ≡ w (done_one s o y)
  done_one_with s None y above = refl
  done_one_with s (Some x) y above =
      ap (λ (es : List Extent). cond (eqb (x.at % 4) 0 && lies_in is_data es x.at 4) (accessed s x (w y)) (w y)) (with_extents y)
      ∙ either (is_possible x y)
    where
      either : (t : Bool) → cond t (accessed s x (w y)) (w y) ≡ w (cond t (accessed s x y) y)
      either true = accessed_with s x y (above x refl)
      either false = refl

  done_all_with : (s : Short) (xs : List Access) (js : List ℕ) (y : ZcCore) → AreAbove xs → done_all s xs js (w y) ≡ w (done_all s xs js y)
  done_all_with s xs [] y all = refl
  done_all_with s xs (j ∷ js) y all =
      ap (done_all s xs js) (done_one_with s (slice_get xs j) y (λ x is. above_at xs j x all is)) ∙ done_all_with s xs js (done_one s (slice_get xs j) y) all

  pub done_with : (s : Short) (size : ℕ) (js : List ℕ) (y : ZcCore) → AreAbove (accesses_of s (reg_in y 2)) → done_of (Found s size) js (w y) ≡ w (done_of (Found s size) js y)
  done_with s size js y all = done_all_with s (accesses_of s (reg_in y 2)) js y all

  -- the stack lies elsewhere
  abbrev pub IsOutside : ZcCore → Type 0
  IsOutside y = (x : ℕ) → lies_in is_stack (extents_of y.memory) x 1 ≡ true → x ≢ a

  dirtied_outside : (d : ℕ × ℕ) (y : ZcCore) → IsOutside y → IsOutside (dirtied d y)
  dirtied_outside d y outside =
      cond_both (lies_in is_stack (extents_of y.memory) d.0 1 && ltb d.0 (reg_in y 2)) (record y { memory = changed (written d.0 1 (λ i. d.1)) y.memory }) y IsOutside
      (λ _. rw (extents-changed (written d.0 1 (λ i. d.1)) y.memory) outside) (λ _. outside)

  dirtied_with : (d : ℕ × ℕ) (y : ZcCore) → IsOutside y → dirtied d (w y) ≡ w (dirtied d y)
  dirtied_with d y outside =
      ap (λ (es : List Extent). cond (lies_in is_stack es d.0 1 && ltb d.0 (reg_in y 2)) (dirt (w y)) (w y)) (with_extents y)
      ∙ either (lies_in is_stack (extents_of y.memory) d.0 1 && ltb d.0 (reg_in y 2)) refl
    where
      dirt : ZcCore → ZcCore
      dirt x = record x { memory = changed (written d.0 1 (λ i. d.1)) x.memory }

      either : (t : Bool) → (lies_in is_stack (extents_of y.memory) d.0 1 && ltb d.0 (reg_in y 2)) ≡ t → cond t (dirt (w y)) (w y) ≡ w (cond t (dirt y) y)
      either true free =
          let in_stack = (and_parts (lies_in is_stack (extents_of y.memory) d.0 1) (ltb d.0 (reg_in y 2)) free).0 in
          ap {A = List (Region ℕ)} {B = ZcCore} (λ memory. record y { memory = memory })
          (changed-both (written d.0 1 (λ i. d.1)) (written a 1 (λ _. b))
          (written-both a b d.0 1 (λ i. d.1) (λ low high. outside d.0 in_stack (omega (arith, low, high)))) y.memory)
      either false free = refl

  pub all_dirtied_with : (ds : List (ℕ × ℕ)) (y : ZcCore) → IsOutside y → all_dirtied ds (w y) ≡ w (all_dirtied ds y)
  all_dirtied_with [] y outside = refl
  all_dirtied_with (d ∷ ds) y outside = ap (all_dirtied ds) (dirtied_with d y outside) ∙ all_dirtied_with ds (dirtied d y) (dirtied_outside d y outside)

  -- ---- effects

  reaching_all_with : (xs : List Access) (y : ZcCore) (go : Effect) → reaching_all xs (w y) go ≡ reaching_all xs y go
  reaching_all_with [] y go = refl
  reaching_all_with (x ∷ xs) y go =
      ap (λ (es : List Extent). cond (eqb (x.at % 4) 0) (cond (lies_in is_data es x.at 4) (reaching_all xs (w y) go) BadAccess) Misaligned) (with_extents y)
      ∙ ap (reaching 4 x.at y) (reaching_all_with xs y go)

-- accesses that are all made once are made whatever is then done
pub all_made : (xs : List Access) (y c y' : ZcCore) → reaching_all xs y (Commits c) ≡ Commits y' → (y' ≡ c) × ((go : Effect) → reaching_all xs y go ≡ go)
all_made [] y c y' h = (commits_same c y' h, λ go. refl)
all_made (x ∷ xs) y c y' h = either (eqb (x.at % 4) 0) (lies_in is_data (extents_of y.memory) x.at 4) refl refl (λ g. all_made xs y c y' g) h
  where
    either :
        (s t : Bool) → eqb (x.at % 4) 0 ≡ s → lies_in is_data (extents_of y.memory) x.at 4 ≡ t
        → (reaching_all xs y (Commits c) ≡ Commits y' → (y' ≡ c) × ((go : Effect) → reaching_all xs y go ≡ go))
        → cond s (cond t (reaching_all xs y (Commits c)) BadAccess) Misaligned ≡ Commits y'
        → (y' ≡ c) × ((go : Effect) → reaching 4 x.at y (reaching_all xs y go) ≡ go)
    either true true s t rest g =
        let r = rest g in
        (r.0, λ go. cond-true (eqb (x.at % 4) 0) _ _ s ∙ cond-true (lies_in is_data (extents_of y.memory) x.at 4) _ _ t ∙ r.1 go)
    either true false s t rest g = absurd cc
    either false t s u rest g = absurd cc

module _ (a b : ℕ) where
  framed_with : (s : Short) (size : ℕ) (y : ZcCore) → AreAbove a b (accesses_of s (reg_in y 2)) → framed s size (with_byte a b y) ≡ with_byte a b (framed s size y)
  framed_with s size y all =
      ap (λ (x : ZcCore). onward x size (set_reg x.regs 2 (sp_after s (reg_in y 2)))) (all_accessed_with a b s (accesses_of s (reg_in y 2)) y all)

  -- a push or a pop, whatever the state after its accesses is
  frame_with :
      (s : Short) (size : ℕ) (f : ZcCore → ZcCore) → ((x : ZcCore) → f (with_byte a b x) ≡ with_byte a b (f x)) → (y y' : ZcCore) → AreAbove a b (accesses_of s (reg_in y 2))
      → reaching_all (accesses_of s (reg_in y 2)) y (Commits (f (framed s size y))) ≡ Commits y'
      → reaching_all (accesses_of s (reg_in y 2)) (with_byte a b y) (Commits (f (framed s size (with_byte a b y)))) ≡ Commits (with_byte a b y')
  frame_with s size f same y y' all h =
      let xs = accesses_of s (reg_in y 2) in
      let made = all_made xs y (f (framed s size y)) y' h in
      reaching_all_with a b xs y (Commits (f (framed s size (with_byte a b y))))
      ∙ made.1 (Commits (f (framed s size (with_byte a b y))))
      ∙ ap (λ x. Commits (f x)) (framed_with s size y all)
      ∙ ap Commits (same (framed s size y) ∙ ap (with_byte a b) (sym made.0))

  -- what neither fetches a table's entry nor is an instruction of 32 bits
  abbrev pub IsOfGroup : Short → Type 0
  IsOfGroup (Base i) = ⊥
  IsOfGroup (Push list adjust) = Unit {0}
  IsOfGroup (Pop list adjust) = Unit {0}
  IsOfGroup (PopRet list adjust) = Unit {0}
  IsOfGroup (PopRetz list adjust) = Unit {0}
  IsOfGroup (MoveSa first second) = Unit {0}
  IsOfGroup (MoveAs first second) = Unit {0}
  IsOfGroup (TableJump index) = ⊥

  pub effect_with :
      (s : Short) (size : ℕ) (y y' : ZcCore) → IsOfGroup s → AreAbove a b (accesses_of s (reg_in y 2)) → short_effect s size y ≡ Commits y'
      → short_effect s size (with_byte a b y) ≡ Commits (with_byte a b y')
  effect_with (Base i) size y y' is all h = absurd is
  effect_with (Push list adjust) size y y' is all h = frame_with (Push list adjust) size (λ x. x) (λ x. refl) y y' all h
  effect_with (Pop list adjust) size y y' is all h = frame_with (Pop list adjust) size (λ x. x) (λ x. refl) y y' all h
  effect_with (PopRet list adjust) size y y' is all h = frame_with (PopRet list adjust) size returned (λ x. refl) y y' all h
  effect_with (PopRetz list adjust) size y y' is all h = frame_with (PopRetz list adjust) size (λ x. returned (zeroed x)) (λ x. refl) y y' all h
  effect_with (MoveSa first second) size y y' is all h = ap (λ x. Commits (with_byte a b x)) (sym (commits_same _ y' h))
  effect_with (MoveAs first second) size y y' is all h = ap (λ x. Commits (with_byte a b x)) (sym (commits_same _ y' h))
  effect_with (TableJump index) size y y' is all h = absurd is
