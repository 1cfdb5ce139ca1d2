-- Pairs of moves: as their registers lie apart, both moves are one instruction, in either order. An interrupt between two commits finds
-- no access of it that it could do.
use Rattle.std.proofs.Common.{◌≡◌, ◌≢◌, ℕ, ◌+◌, ◌^◌, ◌<◌, List, [], ◌∷◌, length, Some, Ok, refl, sym, ap, ap₂, ◌∙◌, subst, arith, pos, eqb, set, inl, inr}
use Rattle.std.proofs.lemmas.Bool.{cond-false, ne_eqb}
use Rattle.std.proofs.lemmas.List.{set_comm}
use Rattle.zc_base.specs.declared.place.Place.{Place}
use Rattle.interrupt_plan.specs.Plan.{Interrupt}
use Rattle.rv_decode.specs.Bits.{add32}
use Rattle.rv_decode.specs.Effect.{Commits, onward}
use Rattle.rv_decode.specs.Memory.{cell_at, extents_of}
use Rattle.rv_decode.specs.Run.{iterate}
use Rattle.rv_decode.specs.State.{ZcCore, ZcState, reg_in, set_reg}
use Rattle.rv_decode.proofs.RegisterLaws.{reads, reads-set_reg_other}
use Rattle.sym_machine.specs.Program.{Program}
use Rattle.sym_machine.specs.Run.{plain_turn}
use Rattle.sym_machine.specs.State.{PlainState}
use Rattle.zc_decode.specs.Accesses.{accesses_of}
use Rattle.zc_decode.specs.Effect.{short_effect}
use Rattle.zc_decode.specs.Operands.{IsMoved}
use Rattle.zc_decode.specs.declared.short.Short.{Short}
use Rattle.zc_decode.specs.declared.short.Short.TheVariants.{MoveAs, MoveSa}
use Rattle.zc_link.specs.Invariants.Groups.{A0First, A1First, MoveOrder, move_ops, move_to}
use Rattle.zc_link.specs.Image.{Image}
use Rattle.zc_link.specs.IsSimulation.{Comes}
use Rattle.zc_link.specs.Invariants.Room.{Room}
use Rattle.zc_link.specs.Sound.{Alike}
use Rattle.zc_link.specs.Invariants.Stretches.{AreOps, HalfAt, place_items_on}
use Rattle.zc_link.proofs.Commits.{zc_turns-one}
use Rattle.zc_link.proofs.Effects.{Effects, KeepsRest, keeps_both, keeps_same, sum_is}
use Rattle.zc_link.proofs.FrameCuts.{LooksLike, alike_ready, looks_alike, spoiled_alike}
use Rattle.zc_link.proofs.GroupEnds.{FromPlace, arrives, behind_one, turn_commits}
use Rattle.zc_link.proofs.Singles.{below_top}
use Rattle.zc_link.proofs.Straight.{AreStraight, CameTo, Follow, all_follow, on_way}

-- ---- the machine alone

-- registers after two moves
abbrev moved : ℕ × ℕ → ℕ × ℕ → ZcCore → List ℕ
moved a b z = set_reg (set_reg z.regs a.0 (reg_in z a.1)) b.0 (reg_in z b.1)

-- two moves that touch different registers
record MovesApart (a b : ℕ × ℕ) : Type 0 where
  first : 0 < a.0
  second : 0 < b.0
  source_b : b.1 ≢ a.0
  source_a : a.1 ≢ b.0
  targets : b.0 ≢ a.0

other_way : {a b : ℕ × ℕ} → MovesApart a b → MovesApart b a
other_way m = record { first = m.second; second = m.first; source_b = m.source_a; source_a = m.source_b; targets = λ is. m.targets (sym is) }

-- what both leave
record AreMoved (regs : List ℕ) (z zf : ZcCore) : Type 0 where
  registers : zf.regs ≡ regs
  memory : zf.memory ≡ z.memory
  rest : KeepsRest z zf

-- two moves, one after the other
in_order : (a b : ℕ × ℕ) (z zf : ZcCore) → ((r : ℕ) → reg_in z r < 2 ^ 32) → MovesApart a b → Effects (move_to a.0 a.1 ∷ move_to b.0 b.1 ∷ []) z zf → AreMoved (moved a b z) z zf
in_order a b z zf small apart h =
    let one = sum_is a.0 a.1 (pos 0) z h.1 (h.0, h.1, h.2, refl) in
    let v : add32 (reg_in z a.1) (pos 0) ≡ reg_in z a.1 = omega (arith, small a.1) in
    let is_1 : h.1 ≡ onward z one.0 (set_reg z.regs a.0 (reg_in z a.1)) = one.1 ∙ ap (λ n. onward z one.0 (set_reg z.regs a.0 n)) v in
    let kept : reg_in h.1 b.1 ≡ reg_in z b.1 = ap (λ x. reg_in x b.1) is_1 ∙ reads-set_reg_other 0 0 z.regs a.0 (reg_in z a.1) b.1 apart.source_b in
    let two = sum_is b.0 b.1 (pos 0) h.1 zf h.3 in
    let w : add32 (reg_in h.1 b.1) (pos 0) ≡ reg_in z b.1 = omega (arith, small b.1, kept) in
    record {
      registers = ap (λ x. x.regs) two.1 ∙ ap₂ (λ (l : List ℕ) (n : ℕ). set_reg l b.0 n) (ap (λ x. x.regs) is_1) w;
      memory = ap (λ x. x.memory) two.1 ∙ ap (λ x. x.memory) is_1;
      rest = keeps_both (keeps_both (record { exit = refl; jvt = refl }) (keeps_same is_1)) (keeps_both (record { exit = refl; jvt = refl }) (keeps_same two.1));
    }

set_reg_is : (xs : List ℕ) (rd v : ℕ) → 0 < rd → set_reg xs rd v ≡ set xs rd v
set_reg_is xs rd v some = cond-false (eqb rd 0) xs (set xs rd v) (ne_eqb rd 0 (λ z. absurd (omega (arith, z, some))))

swapped : (a b : ℕ × ℕ) (z : ZcCore) → MovesApart a b → moved b a z ≡ moved a b z
swapped a b z apart =
    let v = reg_in z a.1 in
    let w = reg_in z b.1 in
    set_reg_is (set_reg z.regs b.0 w) a.0 v apart.first ∙ ap (λ l. set l a.0 v) (set_reg_is z.regs b.0 w apart.second)
    ∙ set_comm z.regs b.0 a.0 w v apart.targets
    ∙ sym (set_reg_is (set_reg z.regs a.0 v) b.0 w apart.second ∙ ap (λ l. set l b.0 w) (set_reg_is z.regs a.0 v apart.first))

-- in either order
moves_are : (order : MoveOrder) (a b : ℕ × ℕ) (z zf : ZcCore) → ((r : ℕ) → reg_in z r < 2 ^ 32) → MovesApart a b → Effects (move_ops order a b) z zf → AreMoved (moved a b z) z zf
moves_are A0First a b z zf small apart h = in_order a b z zf small apart h
moves_are A1First a b z zf small apart h = subst (λ l. AreMoved l z zf) (swapped a b z apart) (in_order b a z zf small (other_way apart) h)

-- a saved register isn't x0, a0 or a1, and is one of the 32
pub record SavedFacts (s : ℕ) : Type 0 where
  pub some : 0 < s
  pub low : s < 32
  pub no_a0 : s ≢ 10
  pub no_a1 : s ≢ 11

pub saved_facts : (s : ℕ) → IsMoved s → SavedFacts s
saved_facts s (inl a) = record { some = omega (arith, a.0); low = omega (arith, a.1); no_a0 = λ is. omega (arith, a.1, is); no_a1 = λ is. omega (arith, a.1, is) }
saved_facts s (inr b) = record { some = omega (arith, b.0); low = omega (arith, b.1); no_a0 = λ is. omega (arith, b.0, is); no_a1 = λ is. omega (arith, b.0, is) }

-- ---- both machines

pub moves_straight : (order : MoveOrder) (a b : ℕ × ℕ) → a.1 < 32 → b.1 < 32 → AreStraight (move_ops order a b)
moves_straight A0First a b low_a low_b = (low_a, (low_b, tt))
moves_straight A1First a b low_a low_b = (low_b, (low_a, tt))

pub moves_some : (order : MoveOrder) (a b : ℕ × ℕ) → 0 < length (move_ops order a b)
moves_some A0First a b = omega arith
moves_some A1First a b = omega arith

module _ {p : Program} {Named : Place → Type 0} {e : Image} (room : Room p e) {r r' : PlainState} {cuts : ℕ → List Interrupt} {z : ZcState} (from : FromPlace p Named e r cuts z) where
  -- the program came to a place by both moves, in either order
  moves_end :
      {end : ℕ} (order : MoveOrder) (a b : ℕ × ℕ) (short : Short) → MovesApart a b → ((sp : ℕ) → accesses_of short sp ≡ [])
      → ((size : ℕ) (x : ZcCore) → short_effect short size x ≡ Commits (onward x size (moved a b x))) → HalfAt e z.core.pc short end
      → ((y : ZcCore) → Alike p Named e r.core y → Follow p Named e (move_ops order a b) r' y) → (q : Place) → CameTo q r r' → e.address q ≡ Some end → Comes p Named e cuts 1 z r'
  moves_end {end} order a b short apart none does at follow q came next =
      let size = at.half.size in
      let bh = behind_one room short (cuts 0) none (from.are 0) z (alike_ready room from.sound.alike) at.half in
      let y = bh.now in
      let al = spoiled_alike room bh.spoiled from.sound.alike in
      let f = follow y al in
      let m = moves_are order a b y f.after al.core.words apart f.effects in
      let y' : ZcCore = onward y size (moved a b y) in
      let like : LooksLike p.map.stack_low 0 f.after y' = record {
        exit = sym m.rest.exit;
        jvt = sym m.rest.jvt;
        long = ap length (sym m.registers);
        registers = λ x. ap (λ l. reads 0 0 l x) (sym m.registers);
        extents = ap extents_of (sym m.memory);
        bytes = λ x _. ap (λ t. cell_at 0 t x) (sym m.memory);
        are_bytes = al.core.bytes;
      } in
      let alike = looks_alike room 0 (omega arith) (λ a l lt. absurd (omega (arith, lt))) like f.alike in
      let pc : z.core.pc + size ≡ y'.pc = below_top z.core.pc y.pc size (ap (λ x. x.pc) bh.spoiled.rest) at.half.small in
      arrives from 1 q r' y' came (next ∙ ap Some (at.ends ∙ pc)) alike
      (zc_turns-one cuts z (record z { core = y' }) (turn_commits (cuts 0) z y y' short size bh.turn (does size y)))

  pub to_saved_end :
      {end : ℕ} (order : MoveOrder) (first second : ℕ) → IsMoved first → IsMoved second → second ≢ first → HalfAt e z.core.pc (MoveSa first second) end
      → ((y : ZcCore) → Alike p Named e r.core y → Follow p Named e (move_ops order (first, 10) (second, 11)) r' y) → (q : Place) → CameTo q r r' → e.address q ≡ Some end
      → Comes p Named e cuts 1 z r'
  to_saved_end order first second is_first is_second other at follow q came next =
      let f = saved_facts first is_first in
      let s = saved_facts second is_second in
      moves_end order (first, 10) (second, 11) (MoveSa first second)
      (record { first = f.some; second = s.some; source_b = λ is. f.no_a1 (sym is); source_a = λ is. s.no_a0 (sym is); targets = other })
      (λ sp. refl) (λ size x. refl) at follow q came next

  pub from_saved_end :
      {end : ℕ} (order : MoveOrder) (first second : ℕ) → IsMoved first → IsMoved second → HalfAt e z.core.pc (MoveAs first second) end
      → ((y : ZcCore) → Alike p Named e r.core y → Follow p Named e (move_ops order (10, first) (11, second)) r' y) → (q : Place) → CameTo q r r' → e.address q ≡ Some end
      → Comes p Named e cuts 1 z r'
  from_saved_end order first second is_first is_second at follow q came next =
      let f = saved_facts first is_first in
      let s = saved_facts second is_second in
      moves_end order (10, first) (11, second) (MoveAs first second)
      (record { first = omega arith; second = omega arith; source_b = s.no_a0; source_a = f.no_a1; targets = λ (is : 11 ≡ 10). omega (arith, is) })
      (λ sp. refl) (λ size x. refl) at follow q came next

  -- ---- by two items

  module _ (order : MoveOrder) (a b : ℕ × ℕ) (low_a : a.1 < 32) (low_b : b.1 < 32) (ops : AreOps p r.core.place (move_ops order a b))
      (h : iterate (plain_turn p) (length (move_ops order a b)) r ≡ Ok r') where
    items_follow : (y : ZcCore) → Alike p Named e r.core y → Follow p Named e (move_ops order a b) r' y
    items_follow y al = all_follow room (move_ops order a b) r r' y ops (moves_straight order a b low_a low_b) h al

    items_came : CameTo (place_items_on p r.core.place (length (move_ops order a b))) r r'
    items_came =
        let is = move_ops order a b in
        on_way p is (length is) r r' (omega arith) ops (moves_straight order a b low_a low_b) from.sound.alike.running h

  pub to_saved_comes :
      {end : ℕ} (order : MoveOrder) (first second : ℕ) → IsMoved first → IsMoved second → second ≢ first → HalfAt e z.core.pc (MoveSa first second) end
      → AreOps p r.core.place (move_ops order (first, 10) (second, 11)) → e.address (place_items_on p r.core.place (length (move_ops order (first, 10) (second, 11)))) ≡ Some end
      → iterate (plain_turn p) (length (move_ops order (first, 10) (second, 11))) r ≡ Ok r' → Comes p Named e cuts 1 z r'
  to_saved_comes order first second is_first is_second other at ops next h =
      let low_a : 10 < 32 = omega arith in
      let low_b : 11 < 32 = omega arith in
      let is = move_ops order (first, 10) (second, 11) in
      to_saved_end order first second is_first is_second other at (items_follow order (first, 10) (second, 11) low_a low_b ops h)
      (place_items_on p r.core.place (length is)) (items_came order (first, 10) (second, 11) low_a low_b ops h) next

  pub from_saved_comes :
      {end : ℕ} (order : MoveOrder) (first second : ℕ) → IsMoved first → IsMoved second → HalfAt e z.core.pc (MoveAs first second) end
      → AreOps p r.core.place (move_ops order (10, first) (11, second)) → e.address (place_items_on p r.core.place (length (move_ops order (10, first) (11, second)))) ≡ Some end
      → iterate (plain_turn p) (length (move_ops order (10, first) (11, second))) r ≡ Ok r' → Comes p Named e cuts 1 z r'
  from_saved_comes order first second is_first is_second at ops next h =
      let low_a = (saved_facts first is_first).low in
      let low_b = (saved_facts second is_second).low in
      let is = move_ops order (10, first) (11, second) in
      from_saved_end order first second is_first is_second at (items_follow order (10, first) (11, second) low_a low_b ops h)
      (place_items_on p r.core.place (length is)) (items_came order (10, first) (11, second) low_a low_b ops h) next
