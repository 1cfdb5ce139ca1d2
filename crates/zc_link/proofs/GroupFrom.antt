-- From a sound pair where a group starts, its commits are left, one of its instructions after another, with their accesses in the stack:
-- the program's run of its items, with whatever cells of data written, shows that its frame lies there.
use Rattle.std.proofs.Common.{◌≡◌, ℕ, ◌+◌, ◌-◌, ◌^◌, ◌<◌, ◌≤◌, List, [], ◌∷◌, length, Ok, refl, sym, ap, ◌∙◌, subst, arith, pos, negsuc, inl, ⊎_elim}
use Rattle.std.specs.Prelude.{All}
use Rattle.std.proofs.lemmas.List.Elements.{All-head, All-tail}
use Rattle.zc_base.specs.declared.place.Place.{Place}
use Rattle.rv_decode.specs.declared.instr.RegOp.TheVariants.{Sub}
use Rattle.rv_decode.specs.Bits.{add32}
use Rattle.rv_decode.specs.Effect.{Commits, onward}
use Rattle.rv_decode.specs.Memory.{changed, extents_of, written}
use Rattle.rv_decode.specs.Results.{reg_result}
use Rattle.rv_decode.specs.Run.{iterate}
use Rattle.rv_decode.specs.State.{ZcCore, ZcState, byte_in, reg_in, set_reg}
use Rattle.rv_decode.proofs.MemoryLaws.{cell-changed_default, untouched}
use Rattle.rv_decode.proofs.RegisterLaws.{length-set_reg, reads, reads-set_reg_same}
use Rattle.sym_machine.specs.declared.word.SymByte.{SymByte}
use Rattle.sym_machine.specs.declared.word.SymByte.TheVariants.{Num, Undef}
use Rattle.sym_machine.specs.Program.{Program}
use Rattle.sym_machine.specs.Run.{plain_turn}
use Rattle.sym_machine.specs.State.{PlainCore, PlainState, cell_of}
use Rattle.sym_machine.proofs.RunLaws.{turns_set}
use Rattle.zc_decode.specs.Accesses.{accesses_of}
use Rattle.zc_decode.specs.Effect.{all_accessed, framed, short_effect}
use Rattle.zc_decode.specs.declared.short.Short.{Short}
use Rattle.zc_decode.specs.declared.short.Short.TheVariants.{Base, MoveAs, MoveSa, Push}
use Rattle.zc_machine.specs.Fetch.{fetched_at}
use Rattle.zc_link.specs.DataApart.{IsCell, all_poked, poked_plain}
use Rattle.zc_link.specs.Invariants.Groups.{Ending, GroupKind, IsGroup, MovesFromSaved, MovesToSaved, PopOf, PushOf, Slot, frame_adjust, frame_commits, group_commits, group_ops, lower_sp, ops_before_return, pop_kind, push_ops, raise_sp, rest_of, return_ops}
use Rattle.zc_link.specs.Image.{Image, loaded_core}
use Rattle.zc_link.specs.Invariants.Room.{Room}
use Rattle.zc_link.specs.Sound.{Alike, Sound}
use Rattle.zc_link.specs.Invariants.Stretches.{AreOps, FormAt, GroupAt, GroupLaid, OneAt, PopAt, PushAt}
use Rattle.zc_link.proofs.Cuts.{stack_within}
use Rattle.zc_link.proofs.Effects.{commits_same}
use Rattle.zc_link.proofs.FrameCuts.{IsReady, SpoiledSlots, alike_ready, itself, push_all_kept, text_kept}
use Rattle.zc_link.proofs.GroupEnds.{one_commit, two_commits}
use Rattle.zc_link.proofs.GroupWay.{AMoveAs, AMoveSa, APop, APush, ASum, Left, OnGroup, StandsBy}
use Rattle.zc_link.proofs.OnStack.{free_end, on_stack}
use Rattle.zc_link.proofs.Pops.{pop_top}
use Rattle.zc_link.proofs.Pushes.{push_deep, push_straight, two_some}
use Rattle.zc_link.proofs.Returns.{before_straight, steps_apart}
use Rattle.zc_link.proofs.Singles.{below_top}
use Rattle.zc_link.proofs.Slots.{FrameFacts, frame_facts}
use Rattle.zc_link.proofs.StackFound.{finds_set, pop_finds, push_finds}
use Rattle.zc_link.proofs.Straight.{all_follow, ops_first}
use Rattle.zc_link.proofs.WithByte.{all_made, with_byte}
use Rattle.zc_link.proofs.Writes.{ready_changed, written_agrees}
use Rattle.zc_link.proofs.Zeroed.{final_sp, without_zero}

-- ---- cells of data that are written in both

-- the program with cells written, beside a machine with the same cells written
pub record Poked (p : Program) (Named : Place → Type 0) (e : Image) (r' : PlainState) (z : ZcCore) : Type 0 where
  pub y : ZcCore
  pub alike : Alike p Named e r'.core y
  pub regs : y.regs ≡ z.regs

-- with cells of data written, places stay as they are
pub poked_place : (cells : List (ℕ × ℕ)) (r : PlainState) → (all_poked cells r).core.place ≡ r.core.place
poked_place [] r = refl
poked_place (c ∷ cs) r = poked_place cs (poked_plain c r)

module _ {p : Program} {Named : Place → Type 0} {e : Image} (room : Room p e) where
  -- with one cell of data written, states are still alike
  poked_alike :
      (c : ℕ × ℕ) (s : PlainCore) (z : ZcCore) → IsCell p c.0 → c.1 < 256 → Alike p Named e s z
      → Alike p Named e (record s { memory = changed (written c.0 1 (λ _. Num c.1)) s.memory }) (with_byte c.0 c.1 z)
  poked_alike c s z cell small al = record {
    ready = ready_changed room (written c.0 1 (λ _. Num c.1)) (written c.0 1 (λ _. c.1))
        (written_agrees room c.0 1 (λ _. Num c.1) (λ _. c.1) (inl (cell.low, (let high = cell.high in omega (arith, high)))) (λ i lt. refl) (λ i lt. tt) (λ i lt. small)) al.ready;
    below = λ x low lt.
        let under = room.under in
        let high = cell.high in
        let stays : (k : SymByte) → written c.0 1 (λ _. Num c.1) x k ≡ k = λ k. untouched c.0 1 (λ _. Num c.1) x k (λ l u. omega (arith, l, u, low, under, high)) in
        cell-changed_default (written c.0 1 (λ _. Num c.1)) s.memory x Undef (stays Undef) ∙ stays (cell_of s x) ∙ al.below x low lt;
  }

  pub all_poked_alike :
      (cells : List (ℕ × ℕ)) (r : PlainState) (z : ZcCore) → All (λ c. IsCell p c.0 × (c.1 < 256)) cells → Alike p Named e r.core z → Poked p Named e (all_poked cells r) z
  all_poked_alike [] r z are al = record { y = z; alike = al; regs = refl }
  all_poked_alike (c ∷ cs) r z are al =
      let first = All-head (λ (k : ℕ × ℕ). IsCell p k.0 × (k.1 < 256)) c cs are in
      let rest = all_poked_alike cs (poked_plain c r) (with_byte c.0 c.1 z) (All-tail (λ (k : ℕ × ℕ). IsCell p k.0 × (k.1 < 256)) c cs are) (poked_alike c r.core z first.0 first.1 al) in
      record { y = rest.y; alike = rest.alike; regs = rest.regs }

-- ---- what is left at the start

module _ {p : Program} {e : Image} (room : Room p e) where
  -- one instruction is left
  pub one_left : (s : Short) (sp pc : ℕ) → OneAt e pc s → StandsBy p sp s → Left room 1 sp pc
  one_left s sp pc at st = (s, at, st, λ more. absurd (omega (arith, more)))

  -- an instruction at an address is at any address that is equal
  at_same : {s : Short} {a b : ℕ} → a ≡ b → OneAt e a s → OneAt e b s
  at_same same at = record { size = at.size; here = ap (fetched_at (loaded_core e)) (sym same) ∙ at.here; small = (let small = at.small in omega (arith, small, same)) }

  module _ {list frame : ℕ} {order : List Slot} (facts : FrameFacts list frame order) where
    -- a push, and then the rest of its frame
    push_left :
        (sp pc end : ℕ) → sp < 2 ^ 32 → p.map.stack_low + frame ≤ sp → sp ≤ p.map.stack_high → PushAt e pc list frame end → Left room (frame_commits list frame) sp pc
    push_left sp pc end words deep high at = ⊎_elim
        (λ whole. subst (λ k. Left room k sp pc) (sym (one_commit list frame whole.0)) (one_left push sp pc at.half (APush list frame order facts deep high)))
        (λ split. subst (λ k. Left room k sp pc) (sym (two_commits list frame split.0)) (
          push,
          at.half,
          APush list frame order facts deep high,
          λ more y y' ready long is_sp is_pc does.
              second split.1 y y' ready long is_sp is_pc does,
        ))
        at.rest
      where
        push : Short
        push = Push list (frame_adjust list frame)

        second :
            (form : FormAt e (pc + at.half.size) (lower_sp (rest_of list frame))) (y y' : ZcCore) → IsReady room y → length y.regs ≡ 32 → reg_in y 2 ≡ sp → y.pc ≡ pc
            → short_effect push at.half.size y ≡ Commits y' → IsReady room y' × (length y'.regs ≡ 32) × Left room 1 (reg_in y' 2) y'.pc
        second form y y' ready long is_sp is_pc does =
            let size = at.half.size in
            let adjust = frame_adjust list frame in
            let xs = accesses_of push (reg_in y 2) in
            let x : ZcCore = all_accessed push xs y in
            let low : ℕ = reg_result Sub (reg_in y 2) adjust in
            let left : y' ≡ onward x size (set_reg x.regs 2 low) = (all_made xs y (framed push size y) y' does).0 in
            let k : SpoiledSlots p.map.stack_low (free_end p.map y) [] y x =
            push_all_kept p.map.stack_low p.map.stack_high [] (λ d m. absurd m) y (stack_within room y ready.text.extents) facts adjust (omega (arith, deep, is_sp)) (omega (arith, high, is_sp))
            (omega (arith, words, is_sp))
            (itself room [] (λ d m. absurd m) y ready) in
            let text = text_kept room [] (λ d m. absurd m) y ready x k in
            let long_x : length x.regs ≡ 32 = k.long ∙ long in
            let sp1 : reg_in y' 2 ≡ low = ap (λ t. reg_in t 2) left ∙ reads-set_reg_same 0 0 x.regs 2 low two_some (omega (arith, long_x)) in
            let pc1 : pc + size ≡ y'.pc = below_top pc x.pc size (ap (λ t. t.pc) k.rest ∙ is_pc) at.half.small ∙ ap (λ t. t.pc) (sym left) in (
              record {
                going = ap (λ t. t.exit) left ∙ ap (λ t. t.exit) k.rest ∙ ready.going;
                text = record { extents = ap (λ t. extents_of t.memory) left ∙ text.extents; text = λ a t. ap (λ v. byte_in v a) left ∙ text.text a t };
                are_bytes = λ a. rw (ap (λ v. byte_in v a) left) (k.are_bytes a);
                word = omega (arith, sp1);
              },
              ap (λ t. length t.regs) left ∙ length-set_reg x.regs 2 low ∙ long_x,
              one_left (Base form.here) (reg_in y' 2) y'.pc (at_same pc1 form.at) (ASum form.here (negsuc (rest_of list frame - 1)) form.same),
            )

    -- the rest of the frame, and then a pop
    pop_left :
        (ending : Ending) (sp pc end : ℕ) → p.map.stack_low ≤ sp → sp + frame ≤ p.map.stack_high → PopAt e pc ending list frame end → Left room (frame_commits list frame) sp pc
    pop_left ending sp pc end low top at = ⊎_elim
        (λ whole. subst (λ k. Left room k sp pc) (sym (one_commit list frame whole.0))
        (one_left pop sp pc (at_same whole.1 at.half) (APop ending list frame order facts sp low (let sum = facts.sum in let none = whole.0 in omega (arith, sum, none)) small)))
        (λ split. subst (λ k. Left room k sp pc) (sym (two_commits list frame split.0)) (
          Base split.1.here,
          split.1.at,
          ASum split.1.here (pos (rest_of list frame)) split.1.same,
          λ more y y' ready long is_sp is_pc does.
              second split.1 split.2 y y' ready long is_sp is_pc does,
        ))
        at.rest
      where
        pop : Short
        pop = pop_kind ending list (frame_adjust list frame)

        small : sp + frame < 2 ^ 32
        small = let high = room.top in omega (arith, top, high)

        second :
            (form : FormAt e pc (raise_sp (rest_of list frame))) → at.middle ≡ pc + form.at.size → (y y' : ZcCore) → IsReady room y → length y.regs ≡ 32 → reg_in y 2 ≡ sp → y.pc ≡ pc
            → short_effect (Base form.here) form.at.size y ≡ Commits y' → IsReady room y' × (length y'.regs ≡ 32) × Left room 1 (reg_in y' 2) y'.pc
        second form middle y y' ready long is_sp is_pc does =
            let size = form.at.size in
            let rest = rest_of list frame in
            let v : ℕ = add32 (reg_in y 2) (pos rest) in
            let left : y' ≡ onward y size (set_reg y.regs 2 v) = commits_same (onward y size (set_reg y.regs 2 v)) y' (sym (form.same size y) ∙ does) in
            let sum = facts.sum in
            let is : v ≡ sp + rest = omega (arith, is_sp, small, sum) in
            let sp1 : reg_in y' 2 ≡ sp + rest = ap (λ t. reg_in t 2) left ∙ reads-set_reg_same 0 0 y.regs 2 v two_some (omega (arith, long)) ∙ is in
            let pc1 : pc + size ≡ y'.pc = below_top pc y.pc size is_pc form.at.small ∙ ap (λ t. t.pc) (sym left) in (
              record {
                going = ap (λ t. t.exit) left ∙ ready.going;
                text = record { extents = ap (λ t. extents_of t.memory) left ∙ ready.text.extents; text = λ a t. ap (λ v. byte_in v a) left ∙ ready.text.text a t };
                are_bytes = λ a. rw (ap (λ v. byte_in v a) left) (ready.are_bytes a);
                word = omega (arith, sp1, sum, small);
              },
              ap (λ t. length t.regs) left ∙ length-set_reg y.regs 2 v ∙ long,
              one_left pop (reg_in y' 2) y'.pc (at_same (middle ∙ pc1) at.half) (APop ending list frame order facts sp low (omega (arith, sp1, sum)) small),
            )

  -- ---- by the program's run of the items

  module _ {Named : Place → Type 0} where
    left_by :
        (end : ℕ) (kind : GroupKind) → IsGroup kind → (r r' : PlainState) (y : ZcCore) (pc : ℕ) → AreOps p r.core.place (group_ops kind) → GroupAt e pc kind end
        → iterate (plain_turn p) (length (group_ops kind)) r ≡ Ok r' → Alike p Named e r.core y → Left room (group_commits kind) (reg_in y 2) pc
    left_by end (PushOf list frame order) is r r' y pc ops at h al =
        let facts = frame_facts list frame order is in
        let f = all_follow room (push_ops frame order) r r' y ops (push_straight facts) h al in
        let set = finds_set p (push_ops frame order) r r' (push_finds frame order) ops al.running h in
        let on = on_stack al set in
        let after = on_stack f.alike (turns_set p (length (push_ops frame order)) r r' h set) in
        let deep = push_deep p.map.stack_low p.map.stack_high frame order y f.after room.deep room.top facts.some facts.most al.core.count on.low on.high after.low after.high f.effects in
        push_left facts (reg_in y 2) pc end (al.core.words 2) deep on.high at
    left_by end (PopOf ending list frame order) is r r' y pc ops at h al =
        let facts = frame_facts list frame order is in
        let before = ops_before_return ending frame order in
        let steps = steps_apart p before (return_ops ending) r r' h in
        let first = ops_first p r.core.place before (return_ops ending) ops in
        let f = all_follow room before r steps.0 y first (before_straight ending frame order) steps.1 al in
        let set = finds_set p before r steps.0 (pop_finds ending frame order) first al.running steps.1 in
        let on = on_stack al set in
        let after = on_stack f.alike (turns_set p (length before) r steps.0 steps.1 set) in
        let wz = without_zero frame order (λ d m. facts.no_a0 d m) (λ d m. (facts.register d m).no_sp) y al.core.count ending f.after f.effects in
        let sp : reg_in f.after 2 ≡ reg_in wz.zp 2 = wz.final.registers 2 ∙ final_sp ending wz.zp.regs in
        let low = after.low in
        let high = after.high in
        let top = pop_top room facts r.core y wz.zp on (omega (arith, sp, low)) wz.effects in
        let is_top = top.1 in
        pop_left facts ending (reg_in y 2) pc end on.low (omega (arith, is_top, sp, high)) at
    left_by end (MovesToSaved order first second) is r r' y pc ops at h al = one_left (MoveSa first second) (reg_in y 2) pc at.half (AMoveSa first second)
    left_by end (MovesFromSaved order first second) is r r' y pc ops at h al = one_left (MoveAs first second) (reg_in y 2) pc at.half (AMoveAs first second)

    -- a group, from a sound pair, if the program doesn't get stuck with these cells written
    pub group_from :
        {items commits : ℕ} (r after : PlainState) (z : ZcState) (cells : List (ℕ × ℕ)) → Sound p Named e r.core z → All (λ c. IsCell p c.0 × (c.1 < 256)) cells
        → GroupLaid p e r.core.place z.core.pc items commits → iterate (plain_turn p) items (all_poked cells r) ≡ Ok after → OnGroup room commits z.core
    group_from {items} r after z cells so are laid h =
        let q = all_poked_alike room cells r z.core are so.alike in
        let left = left_by laid.end laid.kind laid.is (all_poked cells r) after q.y z.core.pc
        (subst (λ place. AreOps p place (group_ops laid.kind)) (sym (poked_place cells r)) laid.ops) laid.at
        (ap (λ k. iterate (plain_turn p) k (all_poked cells r)) (sym laid.items_are) ∙ h) q.alike in
        record {
          ready = alike_ready room so.alike;
          long = so.alike.core.count;
          left = subst (λ k. Left room k (reg_in z.core 2) z.core.pc) (sym laid.commits_are)
              (subst (λ (l : List ℕ). Left room (group_commits laid.kind) (reads 0 0 l 2) z.core.pc) q.regs left);
        }
