-- A push, a pop or two moves that the objects have as one halfword: the halfword is copied, and its one commit is the program's one
-- step, whatever interrupts come before it. The program makes its instructions one after another in that step.
use Rattle.std.proofs.Common.{◌≡◌, ℕ, ◌+◌, ◌<◌, List, [], ◌∷◌, ◌++◌, length, length-append, Option, Some, None, true, refl, sym, ap, ◌∙◌, subst, arith}
use Rattle.std.specs.Option.{option_and_then}
use Rattle.std.proofs.lemmas.List.{append-nil}
use Rattle.std.proofs.lemmas.Option.{none-some}
use Rattle.zc_base.specs.declared.place.Place.{Place}
use Rattle.interrupt_plan.specs.Plan.{Interrupt}
use Rattle.rv_decode.specs.declared.instr.Instr.{Instr}
use Rattle.rv_decode.specs.State.{ZcCore, ZcState}
use Rattle.block_cut.specs.declared.item.Item.{Item}
use Rattle.block_cut.specs.declared.item.Item.TheVariants.{Op, Hi, Lo, PcHi, PcLo, Branch, Jump, Call, Align, Word, Raw, RawShort, RawPair}
use Rattle.sym_machine.specs.Change.{Change, Does, Goes, Stops, jump_does, op_does, sets}
use Rattle.sym_machine.specs.Events.{SymEvent}
use Rattle.sym_machine.specs.Program.{Program}
use Rattle.sym_machine.specs.Expansions.{expansion, item_expansion}
use Rattle.sym_machine.specs.State.{PlainCore, PlainState, reg_of}
use Rattle.sym_machine.specs.Step.{Went, after_change, applied, in_turn, is_set}
use Rattle.sym_machine.proofs.EventLaws.{in_turn_silent}
use Rattle.sym_machine.proofs.RunLaws.{SteppedExpansion}
use Rattle.sym_machine.specs.Words.{code_of, code_word}
use Rattle.sym_machine.proofs.StepLaws.{Ended, ended, in_turn_set}
use Rattle.zc_decode.specs.Halfwords.{decoded16}
use Rattle.zc_decode.specs.declared.short.Short.{Short}
use Rattle.zc_decode.specs.declared.short.Short.TheVariants.{Push}
use Rattle.zc_link.specs.Invariants.Groups.{Ending, GoesOn, GroupKind, IsGroup, MovesFromSaved, MovesToSaved, PopOf, PushOf, Returns, Slot, ZeroBeforeRaise, ZeroBeforeReturn, ZeroFirst, frame_adjust, group_half, group_ops, group_rest, slot_loads, move_ops, ops_before_return, pop_kind, pop_ops, push_ops, raise_sp, rest_of, return_ops, return_to_ra, zero_a0}
use Rattle.zc_link.specs.Image.{Image}
use Rattle.zc_link.specs.IsSimulation.{Comes}
use Rattle.zc_link.specs.Invariants.Room.{Room}
use Rattle.zc_link.specs.Sound.{Alike}
use Rattle.zc_link.specs.Invariants.Stretches.{ItemLaid, OneAt, ShortLaid}
use Rattle.zc_link.proofs.Commits.{zc_turns-one}
use Rattle.zc_link.proofs.GroupEnds.{FromPlace, arrives}
use Rattle.zc_link.proofs.InTurn.{AllDone, OneFirst, all_done, in_turn-apart, one_first, went_same}
use Rattle.zc_link.proofs.MovePairs.{from_saved_end, moves_some, moves_straight, saved_facts, to_saved_end}
use Rattle.zc_link.proofs.OnStack.{on_stack}
use Rattle.zc_link.proofs.Pops.{Before, whole_before}
use Rattle.zc_link.proofs.Pushes.{Pushed, push_straight, pushed, whole_alike}
use Rattle.zc_link.proofs.Returns.{Lands, before_straight, goes_ends, jump_lands, lands_ends, return_ended}
use Rattle.zc_link.proofs.ExpansionKinds.{IsExpansionKind, expansion_kind, kind_at}
use Rattle.zc_link.proofs.Slots.{FrameFacts, frame_facts}
use Rattle.zc_link.proofs.StackFound.{FindStack, expansion_set, finds_more, pop_finds, push_finds}
use Rattle.zc_link.proofs.Straight.{AreStraight, CameTo, Follow}
use Rattle.zc_link.proofs.Zeroed.{final_regs, without_zero}

-- ---- a pop up to its return

module _ {p : Program} {Named : Place → Type 0} {e : Image} (room : Room p e) {r : PlainState} {cuts : ℕ → List Interrupt} {z : ZcState} (from : FromPlace p Named e r cuts z)
    (next : Place) {list frame : ℕ} {order : List Slot} (facts : FrameFacts list frame order) (none : rest_of list frame ≡ 0) (ending : Ending)
    (half : OneAt e z.core.pc (pop_kind ending list (frame_adjust list frame))) (m : PlainCore) (h : in_turn p.map (ops_before_return ending frame order) next r.core ≡ Went m []) (set : is_set p.map r.core ≡ true) where
  abbrev before : List Instr
  before = ops_before_return ending frame order

  abbrev middle : PlainState
  middle = record r { core = m }

  some_before : 0 < length before
  some_before = by ending
    where
      by : (k : Ending) → 0 < length (ops_before_return k frame order)
      by GoesOn = (let l = length-append (slot_loads order) (raise_sp frame ∷ []) in omega (arith, l))
      by Returns = (let l = length-append (slot_loads order) (raise_sp frame ∷ []) in omega (arith, l))
      by ZeroFirst = omega arith
      by ZeroBeforeRaise = (let l = length-append (slot_loads order) (zero_a0 ∷ raise_sp frame ∷ []) in omega (arith, l))
      by ZeroBeforeReturn = (let l = length-append (pop_ops frame order) (zero_a0 ∷ []) in omega (arith, l))

  done : AllDone p Named e before next r.core middle z.core
  done = all_done room before next r.core middle [] z.core (before_straight ending frame order) h from.sound.alike

  pub came : CameTo next r middle
  came = record { place = done.place some_before; events = refl; input = done.input; running = done.follow.alike.running }

  pub pop_before : Before p Named e ending list frame half.size 1 z.core.pc m cuts z
  pop_before =
      let f = done.follow in
      let wz = without_zero frame order (λ d among. facts.no_a0 d among) (λ d among. (facts.register d among).no_sp) z.core from.sound.alike.core.count ending f.after f.effects in
      whole_before room facts (record {
        are = from.are;
        before = on_stack from.sound.alike set;
        zp = wz.zp;
        zf = f.after;
        after = on_stack f.alike (in_turn_set p.map before next r.core m [] h set);
        effects = wz.effects;
        final = wz.final;
      }) none half

-- ---- all of its instructions

module _ {p : Program} {Named : Place → Type 0} {e : Image} (room : Room p e) {r r' : PlainState} {cuts : ℕ → List Interrupt} {z : ZcState} (from : FromPlace p Named e r cuts z)
    (next : Place) (made : List SymEvent) (same : r'.events ≡ r.events ++ made) (kept : r'.devices ≡ r.devices) where
  -- no event is added
  none_made : (is : List Instr) (s : PlainCore) → in_turn p.map is next s ≡ Went r'.core made → r'.events ≡ r.events
  none_made is s h = same ∙ ap (λ l. r.events ++ l) (in_turn_silent p.map is next s r'.core made h) ∙ append-nil r.events

  -- ---- all that go on

  module _ (is : List Instr) (straight : AreStraight is) (some : 0 < length is) (h : in_turn p.map is next r.core ≡ Went r'.core made) where
    turn_follow : (y : ZcCore) → Alike p Named e r.core y → Follow p Named e is r' y
    turn_follow y al = (all_done room is next r.core r' made y straight h al).follow

    turn_came : CameTo next r r'
    turn_came =
        let done = all_done room is next r.core r' made z.core straight h from.sound.alike in
        record { place = done.place some; events = none_made is r.core h; input = done.input; running = done.follow.alike.running }

  -- ---- a push

  push_turns :
      {list frame : ℕ} {order : List Slot} → FrameFacts list frame order → rest_of list frame ≡ 0 → (half : OneAt e z.core.pc (Push list (frame_adjust list frame)))
      → in_turn p.map (push_ops frame order) next r.core ≡ Went r'.core made → is_set p.map r.core ≡ true → e.address next ≡ Some (z.core.pc + half.size)
      → Comes p Named e cuts 1 z r'
  push_turns {list} {frame} {order} facts none half h set listed =
      let is = push_ops frame order in
      let straight = push_straight facts in
      let ps : Pushed p Named e list frame half.size r' (cuts 0) z =
      pushed room facts r r' (cuts 0) (from.are 0) z half (turn_follow is straight (omega arith) h) (on_stack from.sound.alike set)
      (in_turn_set p.map is next r.core r'.core made h set) in
      let small = half.small in
      let pc : z.core.pc + half.size ≡ ps.after.pc = (let at = ps.pc in omega (arith, at, small)) in
      arrives from 1 next r' ps.after (turn_came is straight (omega arith) h) (listed ∙ ap Some pc) (whole_alike room facts none ps)
      (zc_turns-one cuts z (record z { core = ps.after }) ps.turn)

  -- ---- a pop

  -- the return of a pop
  turn_lands : (m : PlainCore) (y : ZcCore) → Alike p Named e m y → in_turn p.map (return_to_ra ∷ []) next m ≡ Went r'.core made → Lands p Named e (record r { core = m }) r' y
  turn_lands m y al g = by (op_does return_to_ra m next) refl one.first
    where
      one : OneFirst p.map return_to_ra [] next m r'.core made
      one = one_first p.map return_to_ra [] next m r'.core made g

      last : one.middle ≡ r'.core
      last = went_same one.middle r'.core [] made one.rest

      by : (d : Does) → op_does return_to_ra m next ≡ d → applied p.map m d ≡ Went one.middle one.made → Lands p Named e (record r { core = m }) r' y
      by (Stops why) is k = absurd cc
      by (Goes c) is k =
          let q = ended p.map (is_set p.map m) (after_change c m) one.middle c.events one.made k in
          jump_lands room (record r { core = m }) r' y next c al is (subst (Ended p.map (is_set p.map m) (after_change c m)) last q.0) (none_made (return_to_ra ∷ []) m g ∙ sym (append-nil r.events) ∙ ap (λ l. r.events ++ l) (sym (jump_silent c is)))
        where
          jump_silent : (c : Change) → op_does return_to_ra m next ≡ Goes c → c.events ≡ []
          jump_silent c at = known (code_of (reg_of m 1)) at
            where
              known : (o : Option Place) → jump_does o 0 next ≡ Goes c → c.events ≡ []
              known None g = absurd cc
              known (Some q) g = (let is : sets 0 (code_word next) q ≡ c = cc in ap (λ (x : Change). x.events) (sym is))

  pop_turns :
      {list frame : ℕ} {order : List Slot} → FrameFacts list frame order → rest_of list frame ≡ 0 → (ending : Ending) → (half : OneAt e z.core.pc (pop_kind ending list (frame_adjust list frame)))
      → in_turn p.map (ops_before_return ending frame order ++ return_ops ending) next r.core ≡ Went r'.core made → is_set p.map r.core ≡ true
      → e.address next ≡ Some (z.core.pc + half.size) → Comes p Named e cuts 1 z r'
  pop_turns {list} {frame} {order} facts none ending half h set listed = by ending half h listed
    where
      -- a pop that returns
      landed :
          (k : Ending) (at : OneAt e z.core.pc (pop_kind k list (frame_adjust list frame))) → return_ops k ≡ return_to_ra ∷ []
          → in_turn p.map (ops_before_return k frame order ++ return_to_ra ∷ []) next r.core ≡ Went r'.core made → Comes p Named e cuts 1 z r'
      landed k at is g =
          let parts = in_turn-apart p.map (ops_before_return k frame order) (return_to_ra ∷ []) next r.core r'.core made g in
          let b = pop_before room from next facts none k at parts.middle parts.first set in
          lands_ends room from k at (came room from next facts none k at parts.middle parts.first set) b (return_ended k is b.now at.size b.done.regs)
          (turn_lands parts.middle (record b.now { regs = final_regs k b.done.regs }) b.done.alike parts.rest)

      by :
          (k : Ending) → (at : OneAt e z.core.pc (pop_kind k list (frame_adjust list frame))) → in_turn p.map (ops_before_return k frame order ++ return_ops k) next r.core ≡ Went r'.core made
          → e.address next ≡ Some (z.core.pc + at.size) → Comes p Named e cuts 1 z r'
      by GoesOn at g to =
          let parts = in_turn-apart p.map (ops_before_return GoesOn frame order) [] next r.core r'.core made g in
          let last = went_same parts.middle r'.core [] made parts.rest in
          goes_ends room from GoesOn at (came room from next facts none GoesOn at parts.middle parts.first set) (pop_before room from next facts none GoesOn at parts.middle parts.first set) refl refl
          (λ j. record { core = last j; events = sym (none_made [] parts.middle parts.rest) j; devices = sym kept j }) to
      by Returns at g to = landed Returns at refl g
      by ZeroFirst at g to = landed ZeroFirst at refl g
      by ZeroBeforeRaise at g to = landed ZeroBeforeRaise at refl g
      by ZeroBeforeReturn at g to = landed ZeroBeforeReturn at refl g

  -- ---- all kinds

  kind_turns :
      (kind : GroupKind) → IsGroup kind → group_rest kind ≡ 0 → (half : OneAt e z.core.pc (group_half kind)) → in_turn p.map (group_ops kind) next r.core ≡ Went r'.core made
      → (FindStack (group_ops kind) → is_set p.map r.core ≡ true) → e.address next ≡ Some (z.core.pc + half.size) → Comes p Named e cuts 1 z r'
  kind_turns (PushOf list frame order) is none half h found listed = push_turns (frame_facts list frame order is) none half h (found (push_finds frame order)) listed
  kind_turns (PopOf ending list frame order) is none half h found listed =
      pop_turns (frame_facts list frame order is) none ending half h (found (finds_more (ops_before_return ending frame order) (return_ops ending) (pop_finds ending frame order))) listed
  kind_turns (MovesToSaved order first second) is none half h found listed =
      let ops = move_ops order (first, 10) (second, 11) in
      let straight = moves_straight order (first, 10) (second, 11) (omega arith) (omega arith) in
      let some = moves_some order (first, 10) (second, 11) in
      to_saved_end room from order first second is.0 is.1 is.2 (record { half = half; ends = refl }) (turn_follow ops straight some h) next (turn_came ops straight some h) listed
  kind_turns (MovesFromSaved order first second) is none half h found listed =
      let ops = move_ops order (10, first) (11, second) in
      let straight = moves_straight order (10, first) (11, second) (saved_facts first is.0).low (saved_facts second is.1).low in
      let some = moves_some order (10, first) (11, second) in
      from_saved_end room from order first second is.0 is.1 (record { half = half; ends = refl }) (turn_follow ops straight some h) next (turn_came ops straight some h) listed

-- what is laid of an item that expands to instructions
pub record ExpansionLaid (p : Program) (e : Image) (q : Place) (a : ℕ) (is : List Instr) : Type 0 where
  pub short : Short
  pub kind : IsExpansionKind short is
  pub laid : ShortLaid p e q a short

pub expansion_laid : (p : Program) {e : Image} {a : ℕ} (q : Place) (o : Option Item) (is : List Instr) → ItemLaid p e q a o → item_expansion o ≡ Some is → ExpansionLaid p e q a is
expansion_laid p q None is laid are = absurd (none-some is are)
expansion_laid p q (Some (Op i)) is laid are = absurd (none-some is are)
expansion_laid p q (Some (Hi i t)) is laid are = absurd (none-some is are)
expansion_laid p q (Some (Lo i t)) is laid are = absurd (none-some is are)
expansion_laid p q (Some (PcHi i t)) is laid are = absurd (none-some is are)
expansion_laid p q (Some (PcLo i from)) is laid are = absurd (none-some is are)
expansion_laid p q (Some (Branch op first second to)) is laid are = absurd (none-some is are)
expansion_laid p q (Some (Jump rd to)) is laid are = absurd (none-some is are)
expansion_laid p q (Some (Call rd temp to)) is laid are = absurd (none-some is are)
expansion_laid p q (Some (Align bytes)) is laid are = absurd (none-some is are)
expansion_laid p q (Some (Word t)) is laid are = absurd (none-some is are)
expansion_laid p q (Some (Raw word)) is laid are = absurd (none-some is are)
expansion_laid p {e} {a} q (Some (RawShort half)) is laid are = by (decoded16 half) refl are
  where
    by : (d : Option Short) → decoded16 half ≡ d → option_and_then expansion d ≡ Some is → ExpansionLaid p e q a is
    by None spells h = absurd (none-some is h)
    by (Some short) spells h = record { short = short; kind = expansion_kind half short is spells h; laid = laid short spells }
expansion_laid p q (Some (RawPair first second)) is laid are = absurd (none-some is are)

-- the step of a halfword that stands for several instructions
pub expansion_comes :
    {p : Program} {Named : Place → Type 0} {e : Image} (room : Room p e) {r r' : PlainState} {cuts : ℕ → List Interrupt} {z : ZcState} → FromPlace p Named e r cuts z
    → (short : Short) (is : List Instr) → IsExpansionKind short is → item_expansion (p.item r.core.place) ≡ Some is → ShortLaid p e r.core.place z.core.pc short → SteppedExpansion p is r r'
    → Comes p Named e cuts 1 z r'
expansion_comes {p} {Named} {e} room {r} {r'} {cuts} {z} from short is k expands laid step =
    kind_turns room from (p.next r.core.place) step.made step.events step.devices k.kind k.group k.rest (kind_at k laid.at)
    (ap (λ l. in_turn p.map l (p.next r.core.place) r.core) k.ops ∙ step.went) (expansion_set p r.core is (group_ops k.kind) k.ops expands step.found) laid.next
