-- The law of a group: from a sound pair the steps of its items are matched by its commits, whatever interrupts come before them.
-- In between there is no event, and no place is listed.
use Rattle.std.proofs.Common.{◌≡◌, ℕ, ◌+◌, ◌<◌, ◌≤◌, List, length, length-append, Some, None, Ok, sym, ap, ◌∙◌, subst, arith}
use Rattle.zc_base.specs.declared.place.Place.{Place}
use Rattle.interrupt_plan.specs.Plan.{Interrupt}
use Rattle.rv_decode.specs.declared.instr.Instr.{Instr}
use Rattle.rv_decode.specs.Run.{iterate}
use Rattle.rv_decode.specs.State.{ZcState}
use Rattle.sym_machine.specs.Program.{Program}
use Rattle.sym_machine.specs.Run.{plain_turn}
use Rattle.sym_machine.specs.State.{PlainState}
use Rattle.zc_link.specs.Invariants.Groups.{Ending, GoesOn, GroupKind, IsGroup, MovesFromSaved, MovesToSaved, PopOf, PushOf, Returns, ZeroBeforeRaise, ZeroBeforeReturn, ZeroFirst, group_commits, group_ops, move_ops, ops_before_return, push_ops, return_ops}
use Rattle.zc_link.specs.Image.{Image}
use Rattle.zc_link.specs.IsSimulation.{Comes, IsInside}
use Rattle.zc_link.specs.Invariants.Room.{Room}
use Rattle.zc_link.specs.Invariants.Stretches.{AreOps, GroupAt, GroupLaid, place_items_on}
use Rattle.zc_link.proofs.GroupEnds.{FromPlace}
use Rattle.zc_link.proofs.MovePairs.{from_saved_comes, moves_straight, saved_facts, to_saved_comes}
use Rattle.zc_link.proofs.Pushes.{push_comes, push_straight}
use Rattle.zc_link.proofs.Returns.{before_straight, pop_comes}
use Rattle.zc_link.proofs.Slots.{frame_facts}
use Rattle.zc_link.proofs.Straight.{AreStraight, on_way, ops_first}

-- ---- the step

module _ {p : Program} {Named : Place → Type 0} {e : Image} (room : Room p e) {r r' : PlainState} {cuts : ℕ → List Interrupt} {z : ZcState} (from : FromPlace p Named e r cuts z) where
  -- by its kind
  comes_by :
      {end : ℕ} (kind : GroupKind) → IsGroup kind → AreOps p r.core.place (group_ops kind) → GroupAt e z.core.pc kind end
      → e.address (place_items_on p r.core.place (length (group_ops kind))) ≡ Some end → iterate (plain_turn p) (length (group_ops kind)) r ≡ Ok r'
      → Comes p Named e cuts (group_commits kind) z r'
  comes_by (PushOf list frame order) is ops at next h = push_comes room (frame_facts list frame order is) from at ops next h
  comes_by (PopOf ending list frame order) is ops at next h = pop_comes room (frame_facts list frame order is) from ending at ops next h
  comes_by (MovesToSaved order first second) is ops at next h = to_saved_comes room from order first second is.0 is.1 is.2 at ops next h
  comes_by (MovesFromSaved order first second) is ops at next h = from_saved_comes room from order first second is.0 is.1 at ops next h

  pub group_comes :
      {items commits : ℕ} → GroupLaid p e r.core.place z.core.pc items commits → iterate (plain_turn p) items r ≡ Ok r' → Comes p Named e cuts commits z r'
  group_comes {items} {commits} laid h =
      subst (λ k. Comes p Named e cuts k z r') (sym laid.commits_are)
      (comes_by laid.kind laid.is laid.ops laid.at (ap (λ k. e.address (place_items_on p r.core.place k)) (sym laid.items_are) ∙ laid.next)
      (ap (λ k. iterate (plain_turn p) k r) (sym laid.items_are) ∙ h))

-- ---- on the way

-- all items of a group but its last go on
record AllButLast (p : Program) (r : PlainState) (items : ℕ) : Type 0 where
  first : List Instr
  ops : AreOps p r.core.place first
  straight : AreStraight first
  long : items ≤ length first + 1

one_return : (ending : Ending) → length (return_ops ending) ≤ 1
one_return GoesOn = omega arith
one_return Returns = omega arith
one_return ZeroFirst = omega arith
one_return ZeroBeforeRaise = omega arith
one_return ZeroBeforeReturn = omega arith

all_but_last : (p : Program) (r : PlainState) (kind : GroupKind) → IsGroup kind → AreOps p r.core.place (group_ops kind) → AllButLast p r (length (group_ops kind))
all_but_last p r (PushOf list frame order) is ops =
    record { first = push_ops frame order; ops = ops; straight = push_straight (frame_facts list frame order is); long = omega arith }
all_but_last p r (PopOf ending list frame order) is ops =
    let before = ops_before_return ending frame order in
    record {
      first = before;
      ops = ops_first p r.core.place before (return_ops ending) ops;
      straight = before_straight ending frame order;
      long = (let few = one_return ending in omega (arith, length-append before (return_ops ending), few));
    }
all_but_last p r (MovesToSaved order first second) is ops =
    record { first = move_ops order (first, 10) (second, 11); ops = ops; straight = moves_straight order (first, 10) (second, 11) (omega arith) (omega arith); long = omega arith }
all_but_last p r (MovesFromSaved order first second) is ops =
    record {
      first = move_ops order (10, first) (11, second);
      ops = ops;
      straight = moves_straight order (10, first) (11, second) (saved_facts first is.0).low (saved_facts second is.1).low;
      long = omega arith;
    }

pub group_inside :
    {p : Program} {e : Image} {a items commits : ℕ} (k : ℕ) (r r' : PlainState) → GroupLaid p e r.core.place a items commits → 0 < k → k < items → r.core.exit ≡ None
    → iterate (plain_turn p) k r ≡ Ok r' → IsInside e r r'
group_inside {p} {e} {a} {items} k r r' laid some under running h =
    let but = all_but_last p r laid.kind laid.is laid.ops in
    let long = but.long in
    let is = laid.items_are in
    let way = on_way p but.first k r r' (omega (arith, under, long, is)) but.ops but.straight running h in
    record { events = way.events; running = way.running; unlisted = ap e.address way.place ∙ laid.inside k some under }
