-- A group whose bytes are in an image is there as a push, a pop or two moves: its halfword, and what moves sp by the rest of its
-- frame after a push and before a pop (`group_at`).
use Rattle.std.proofs.Common.{◌≡◌, ◌∙◌, ℕ, ◌+◌, ◌-◌, ◌<◌, ◌≤◌, inl, inr, List, ◌++◌, length, true, false, cond, eqb, pos, negsuc, refl, sym, ap, subst, arith}
use Rattle.elf32_write.specs.Parts.{Parts}
use Rattle.frame_match.specs.declared.group.Group.{Group}
use Rattle.rv_decode.specs.declared.instr.ImmOp.TheVariants.{Addi}
use Rattle.rv_decode.specs.declared.instr.Instr.{Instr}
use Rattle.rv_decode.specs.declared.instr.Instr.TheVariants.{WithImm}
use Rattle.shrink_layout.specs.Pieces.{group_size, instr_size}
use Rattle.shrink_layout.specs.Units.{is_push, rest_instr}
use Rattle.sym_machine.specs.Program.{Program}
use Rattle.zc_decode.specs.declared.short.Short.{Short}
use Rattle.zc_decode.specs.declared.short.Short.TheVariants.{MoveAs, MoveSa, Push}
use Rattle.zc_link.specs.Invariants.Groups.{Ending, GoesOn, GroupKind, MovesFromSaved, MovesToSaved, PopOf, PushOf, Returns, ZeroBeforeRaise, ZeroBeforeReturn, ZeroFirst, frame_adjust, group_commits, group_half, group_rest, lower_sp, pop_kind, raise_sp, rest_of}
use Rattle.zc_link.specs.Image.{Image}
use Rattle.zc_link.specs.Pace.{commits_in}
use Rattle.zc_link.specs.Invariants.Stretches.{GroupAt, HalfAt, PopAt, PushAt}
use Rattle.zc_link.specs.Written.{IsGroupWritten, IsSpelled, SpellsHalf}
use Rattle.zc_link.proofs.Fetched.{StandAt, half_at_address, spelled_at, stand_first, stand_next}
use Rattle.zc_link.proofs.ImageMemory.{AreLaidOut, image_of}

-- ---- groups as they were found

-- a group takes the number of instructions of its kind
pub commits_are : (g : Group) (kind : GroupKind) → g.rest ≡ group_rest kind → commits_in g ≡ group_commits kind
commits_are g kind rest = ap (λ n. cond (eqb n 0) 1 2) rest ∙ by kind
  where
    by : (kind : GroupKind) → cond (eqb (group_rest kind) 0) 1 2 ≡ group_commits kind
    by (PushOf list frame order) = refl
    by (PopOf ending list frame order) = refl
    by (MovesToSaved order first second) = refl
    by (MovesFromSaved order first second) = refl

-- if one moves sp by all of the frame it has two bytes
whole_size : (g : Group) → g.rest ≡ 0 → group_size g ≡ 2
whole_size g none = ap (λ b. cond b 2 (2 + instr_size (rest_instr g))) (ap (λ n. eqb n 0) none)

-- a pop is no push
pop_no_push : (ending : Ending) (list adjust : ℕ) → is_push (pop_kind ending list adjust) ≡ false
pop_no_push GoesOn list adjust = refl
pop_no_push Returns list adjust = refl
pop_no_push ZeroFirst list adjust = refl
pop_no_push ZeroBeforeRaise list adjust = refl
pop_no_push ZeroBeforeReturn list adjust = refl

-- an instruction has the number of bytes that it is written in
spelled_long : (n : ℕ) (bytes : List ℕ) (i : Instr) → IsSpelled n bytes i → length bytes ≡ n
spelled_long n bytes i (inl w) = ap length w.1.are ∙ sym w.0
spelled_long n bytes i (inr h) = ap length h.1.are ∙ sym h.0

-- which are some
spelled_some : (n : ℕ) (bytes : List ℕ) (i : Instr) → IsSpelled n bytes i → 2 ≤ n
spelled_some n bytes i (inl w) = omega (arith, w.0)
spelled_some n bytes i (inr h) = omega (arith, h.0)

module _ (program : Program) (parts : Parts) (out : AreLaidOut program parts) where
  abbrev here : Image
  here = image_of program.map parts

  -- ---- one halfword

  half_there : (a : ℕ) (bytes : List ℕ) (short : Short) → StandAt program parts out a bytes → SpellsHalf bytes short → HalfAt here a short (a + 2)
  unfolding half_at_address
  half_there a bytes short st h = record { half = half_at_address program parts out a h.half bytes short st h.small h.are h.spells; ends = refl }

  push_there :
      (a list frame : ℕ) (bytes : List ℕ) → rest_of list frame ≡ 0 → StandAt program parts out a bytes
      → SpellsHalf bytes (Push list (frame_adjust list frame)) → PushAt here a list frame (a + 2)
  unfolding half_at_address
  push_there a list frame bytes none st h = record {
    half = half_at_address program parts out a h.half bytes (Push list (frame_adjust list frame)) st h.small h.are h.spells;
    rest = inl (none, refl);
  }

  pop_there :
      (a : ℕ) (ending : Ending) (list frame : ℕ) (bytes : List ℕ) → rest_of list frame ≡ 0 → StandAt program parts out a bytes
      → SpellsHalf bytes (pop_kind ending list (frame_adjust list frame)) → PopAt here a ending list frame (a + 2)
  unfolding half_at_address
  pop_there a ending list frame bytes none st h = record {
    middle = a;
    rest = inl (none, refl);
    half = half_at_address program parts out a h.half bytes (pop_kind ending list (frame_adjust list frame)) st h.small h.are h.spells;
    ends = refl;
  }

  -- ---- two instructions

  module _ (a n list frame : ℕ) (half other : List ℕ) (some : 0 < rest_of list frame) where
    push_split :
        StandAt program parts out a (half ++ other) → SpellsHalf half (Push list (frame_adjust list frame))
        → IsSpelled (n - 2) other (lower_sp (rest_of list frame)) → PushAt here a list frame (a + n)
    unfolding half_at_address
    push_split st h r =
        let two : a + length half ≡ a + 2 = ap (λ l. a + length l) h.are in
        let behind = subst (λ x. StandAt program parts out x other) two (stand_next program parts out a half other st) in
        let is = spelled_at program parts out (a + 2) (n - 2) other (lower_sp (rest_of list frame)) behind r in
        let end : a + n ≡ a + 2 + is.at.size = omega (arith, is.long, spelled_some (n - 2) other (lower_sp (rest_of list frame)) r) in
        record {
          half = half_at_address program parts out a h.half half (Push list (frame_adjust list frame)) (stand_first program parts out a half other st) h.small h.are h.spells;
          rest = inr (some, record { here = is.here; same = is.same; at = is.at }, end);
        }

    pop_split :
        (ending : Ending) → StandAt program parts out a (other ++ half) → SpellsHalf half (pop_kind ending list (frame_adjust list frame))
        → IsSpelled (n - 2) other (raise_sp (rest_of list frame)) → PopAt here a ending list frame (a + n)
    unfolding half_at_address
    pop_split ending st h r =
        let is = spelled_at program parts out a (n - 2) other (raise_sp (rest_of list frame)) (stand_first program parts out a other half st) r in
        let long : a + length other ≡ a + is.at.size = omega (arith, is.long, spelled_long (n - 2) other (raise_sp (rest_of list frame)) r) in
        let behind = subst (λ x. StandAt program parts out x half) long (stand_next program parts out a other half st) in
        let end : a + n ≡ a + is.at.size + 2 = omega (arith, is.long, spelled_some (n - 2) other (raise_sp (rest_of list frame)) r) in
        record {
          middle = a + is.at.size;
          rest = inr (some, record { here = is.here; same = is.same; at = is.at }, refl);
          half = half_at_address program parts out (a + is.at.size) h.half half (pop_kind ending list (frame_adjust list frame)) behind h.small h.are h.spells;
          ends = end;
        }

  -- ---- any group

  pub group_at :
      (g : Group) (kind : GroupKind) → g.kind ≡ group_half kind → g.rest ≡ group_rest kind → (a n : ℕ) (bytes : List ℕ) → n ≡ group_size g
      → StandAt program parts out a bytes → IsGroupWritten n g bytes → GroupAt here a kind (a + n)
  group_at g (PushOf list frame order) half rest a n bytes size st (inl whole) =
      let end : a + 2 ≡ a + n = omega (arith, size, whole_size g whole.0) in
      subst (PushAt here a list frame) end (push_there a list frame bytes (sym rest ∙ whole.0) st (subst (SpellsHalf bytes) half whole.1))
  group_at g (PushOf list frame order) half rest a n bytes size st (inr (some, w)) =
      let push : is_push g.kind ≡ true = ap is_push half in
      let both : bytes ≡ w.half ++ w.other = w.both ∙ ap (λ b. cond b (w.half ++ w.other) (w.other ++ w.half)) push in
      let other : rest_instr g ≡ lower_sp (rest_of list frame) = λ j. WithImm Addi 2 2 (cond (push j) (negsuc (rest j - 1)) (pos (rest j))) in
      push_split a n list frame w.half w.other (subst (λ m. 0 < m) rest some) (subst (StandAt program parts out a) both st)
      (subst (SpellsHalf w.half) half w.spells) (subst (IsSpelled (n - 2) w.other) other w.rest)
  group_at g (PopOf ending list frame order) half rest a n bytes size st (inl whole) =
      let end : a + 2 ≡ a + n = omega (arith, size, whole_size g whole.0) in
      subst (PopAt here a ending list frame) end (pop_there a ending list frame bytes (sym rest ∙ whole.0) st (subst (SpellsHalf bytes) half whole.1))
  group_at g (PopOf ending list frame order) half rest a n bytes size st (inr (some, w)) =
      let pop : is_push g.kind ≡ false = ap is_push half ∙ pop_no_push ending list (frame_adjust list frame) in
      let both : bytes ≡ w.other ++ w.half = w.both ∙ ap (λ b. cond b (w.half ++ w.other) (w.other ++ w.half)) pop in
      let other : rest_instr g ≡ raise_sp (rest_of list frame) = λ j. WithImm Addi 2 2 (cond (pop j) (negsuc (rest j - 1)) (pos (rest j))) in
      pop_split a n list frame w.half w.other (subst (λ m. 0 < m) rest some) ending (subst (StandAt program parts out a) both st)
      (subst (SpellsHalf w.half) half w.spells) (subst (IsSpelled (n - 2) w.other) other w.rest)
  group_at g (MovesToSaved order first second) half rest a n bytes size st (inl whole) =
      let end : a + 2 ≡ a + n = omega (arith, size, whole_size g whole.0) in
      subst (HalfAt here a (MoveSa first second)) end (half_there a bytes (MoveSa first second) st (subst (SpellsHalf bytes) half whole.1))
  group_at g (MovesToSaved order first second) half rest a n bytes size st (inr (some, w)) = absurd (omega (arith, some, rest))
  group_at g (MovesFromSaved order first second) half rest a n bytes size st (inl whole) =
      let end : a + 2 ≡ a + n = omega (arith, size, whole_size g whole.0) in
      subst (HalfAt here a (MoveAs first second)) end (half_there a bytes (MoveAs first second) st (subst (SpellsHalf bytes) half whole.1))
  group_at g (MovesFromSaved order first second) half rest a n bytes size st (inr (some, w)) = absurd (omega (arith, some, rest))
