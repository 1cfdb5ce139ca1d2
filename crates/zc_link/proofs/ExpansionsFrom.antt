-- From a sound pair, where the objects have a push, a pop or two moves as one halfword, this one instruction is left to commit, with its
-- accesses in the stack: the program's step, whatever was written to cells of data before it, shows that the frame lies there.
use Rattle.std.proofs.Common.{◌≡◌, ℕ, ◌<◌, List, [], Some, true, ap, ◌∙◌, subst, arith}
use Rattle.std.specs.Prelude.{All}
use Rattle.zc_base.specs.declared.place.Place.{Place}
use Rattle.rv_decode.specs.declared.instr.Instr.{Instr}
use Rattle.rv_decode.specs.State.{ZcCore, ZcState, reg_in}
use Rattle.rv_decode.proofs.RegisterLaws.{reads}
use Rattle.sym_machine.specs.Events.{SymEvent}
use Rattle.sym_machine.specs.Expansions.{item_expansion}
use Rattle.sym_machine.specs.Program.{Program}
use Rattle.sym_machine.specs.State.{PlainCore, PlainState}
use Rattle.sym_machine.specs.Step.{Went, in_turn, is_set}
use Rattle.sym_machine.proofs.RunLaws.{SteppedExpansion}
use Rattle.sym_machine.proofs.StepLaws.{in_turn_set}
use Rattle.zc_decode.specs.declared.short.Short.{Short}
use Rattle.zc_decode.specs.declared.short.Short.TheVariants.{MoveAs, MoveSa, Push}
use Rattle.zc_link.specs.DataApart.{IsCell, all_poked}
use Rattle.zc_link.specs.Invariants.Groups.{GroupKind, IsGroup, MovesFromSaved, MovesToSaved, PopOf, PushOf, frame_adjust, group_half, group_ops, group_rest, ops_before_return, pop_kind, push_ops, return_ops}
use Rattle.zc_link.specs.Image.{Image}
use Rattle.zc_link.specs.Invariants.Room.{Room}
use Rattle.zc_link.specs.Sound.{Alike, Sound}
use Rattle.zc_link.specs.Invariants.Stretches.{OneAt, ShortLaid}
use Rattle.zc_link.proofs.FrameCuts.{alike_ready}
use Rattle.zc_link.proofs.GroupFrom.{all_poked_alike, one_left}
use Rattle.zc_link.proofs.GroupWay.{AMoveAs, AMoveSa, APop, APush, Left, OnGroup}
use Rattle.zc_link.proofs.InTurn.{all_done, in_turn-apart}
use Rattle.zc_link.proofs.OnStack.{on_stack}
use Rattle.zc_link.proofs.Pops.{pop_top}
use Rattle.zc_link.proofs.Pushes.{push_deep, push_straight}
use Rattle.zc_link.proofs.Returns.{before_straight}
use Rattle.zc_link.proofs.ExpansionKinds.{IsExpansionKind, kind_at}
use Rattle.zc_link.proofs.Slots.{frame_facts}
use Rattle.zc_link.proofs.StackFound.{FindStack, expansion_set, finds_more, pop_finds, push_finds}
use Rattle.zc_link.proofs.Zeroed.{final_sp, without_zero}

module _ {p : Program} {Named : Place → Type 0} {e : Image} (room : Room p e) where
  left_by :
      (kind : GroupKind) → IsGroup kind → group_rest kind ≡ 0 → (s : PlainCore) (r' : PlainState) (made : List SymEvent) (y : ZcCore) (next : Place) (pc : ℕ) → OneAt e pc (group_half kind)
      → in_turn p.map (group_ops kind) next s ≡ Went r'.core made → (FindStack (group_ops kind) → is_set p.map s ≡ true) → Alike p Named e s y → Left room 1 (reg_in y 2) pc
  left_by (PushOf list frame order) is none s r' made y next pc at h found al =
      let facts = frame_facts list frame order is in
      let f = (all_done room (push_ops frame order) next s r' made y (push_straight facts) h al).follow in
      let set = found (push_finds frame order) in
      let on = on_stack al set in
      let end = on_stack f.alike (in_turn_set p.map (push_ops frame order) next s r'.core made h set) in
      let deep = push_deep p.map.stack_low p.map.stack_high frame order y f.after room.deep room.top facts.some facts.most al.core.count on.low on.high end.low end.high f.effects in
      one_left room (Push list (frame_adjust list frame)) (reg_in y 2) pc at (APush list frame order facts deep on.high)
  left_by (PopOf ending list frame order) is none s r' made y next pc at h found al =
      let facts = frame_facts list frame order is in
      let before = ops_before_return ending frame order in
      let parts = in_turn-apart p.map before (return_ops ending) next s r'.core made h in
      let f = (all_done room before next s (record { core = parts.middle; events = []; devices = [] }) [] y (before_straight ending frame order) parts.first al).follow in
      let wz = without_zero frame order (λ d m. facts.no_a0 d m) (λ d m. (facts.register d m).no_sp) y al.core.count ending f.after f.effects in
      let sp : reg_in f.after 2 ≡ reg_in wz.zp 2 = wz.final.registers 2 ∙ final_sp ending wz.zp.regs in
      let set = found (finds_more before (return_ops ending) (pop_finds ending frame order)) in
      let on = on_stack al set in
      let low = (on_stack f.alike (in_turn_set p.map before next s parts.middle [] parts.first set)).low in
      let top = pop_top room facts s y wz.zp on (omega (arith, sp, low)) wz.effects in
      let sum = facts.sum in
      one_left room (pop_kind ending list (frame_adjust list frame)) (reg_in y 2) pc at (APop ending list frame order facts (reg_in y 2) on.low (omega (arith, sum, none)) top.0)
  left_by (MovesToSaved order first second) is none s r' made y next pc at h found al = one_left room (MoveSa first second) (reg_in y 2) pc at (AMoveSa first second)
  left_by (MovesFromSaved order first second) is none s r' made y next pc at h found al = one_left room (MoveAs first second) (reg_in y 2) pc at (AMoveAs first second)

  -- a halfword that expands, from a sound pair, if the program doesn't get stuck with these cells written
  pub expansion_from :
      (r after : PlainState) (z : ZcState) (cells : List (ℕ × ℕ)) → Sound p Named e r.core z → All (λ c. IsCell p c.0 × (c.1 < 256)) cells → (short : Short) (is : List Instr) → IsExpansionKind short is
      → item_expansion (p.item (all_poked cells r).core.place) ≡ Some is → ShortLaid p e r.core.place z.core.pc short → SteppedExpansion p is (all_poked cells r) after → OnGroup room 1 z.core
  expansion_from r after z cells so are short is k expands laid step =
      let q = all_poked_alike room cells r z.core are so.alike in
      let next = p.next (all_poked cells r).core.place in
      let left = left_by k.kind k.group k.rest (all_poked cells r).core after step.made q.y next z.core.pc (kind_at k laid.at)
      (ap (λ l. in_turn p.map l next (all_poked cells r).core) k.ops ∙ step.went)
      (expansion_set p (all_poked cells r).core is (group_ops k.kind) k.ops expands step.found) q.alike in
      record {
        ready = alike_ready room so.alike;
        long = so.alike.core.count;
        left = subst (λ (l : List ℕ). Left room 1 (reads 0 0 l 2) z.core.pc) q.regs left;
      }
