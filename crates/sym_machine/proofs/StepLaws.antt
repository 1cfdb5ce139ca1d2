-- A step of the symbolic machine: it begins by the exit's status and by whether sp is set where that is needed; and when it ends,
-- sp is set if it was before, and the stack's bytes below its mark become undefined (Ended).
use Rattle.std.proofs.Common.{◌≡◌, ℕ, ◌≤◌, List, [], ◌∷◌, length, Option, Some, None, Result, Ok, Err, Bool, true, false, cond, refl, sym, ap, ◌∙◌, ⊎_elim, arith, leb, ltb, slice_index_or}
use Rattle.std.specs.List.{fold}
use Rattle.std.specs.Option.{option_map_or}
use Rattle.std.specs.Prelude.{not, ◌&&◌, ◌||◌}
use Rattle.std.specs.declared.alloc.AllocError.{AllocError}
use Rattle.std.proofs.lemmas.Bool.{and_from, and_parts, cond-true, cond-false, le-leb, leb-true}
use Rattle.zc_base.specs.declared.mem_map.MemMap.{MemMap}
use Rattle.zc_base.specs.declared.place.Place.{Place}
use Rattle.block_cut.specs.declared.item.Item.{Item}
use Rattle.rv_decode.specs.declared.instr.Instr.{Instr}
use Rattle.rv_decode.specs.Devices.{Device}
use Rattle.rv_decode.specs.Memory.{Region, changed, extents_of, written}
use Rattle.rv_decode.proofs.MemoryLaws.{extents-changed}
use Rattle.sym_machine.specs.declared.answer.SymStep.{SymStep}
use Rattle.sym_machine.specs.declared.answer.SymStep.TheVariants as answer
use Rattle.sym_machine.specs.declared.why.Why.TheVariants.{StackPointer}
use Rattle.sym_machine.specs.declared.word.SymByte.{SymByte}
use Rattle.sym_machine.specs.declared.word.SymByte.TheVariants.{Undef}
use Rattle.sym_machine.specs.Answer.{Makes}
use Rattle.sym_machine.specs.Change.{Change, Does, Goes, Stops, item_does, op_does}
use Rattle.sym_machine.specs.Kept.{IsOf}
use Rattle.sym_machine.specs.Program.{Program}
use Rattle.sym_machine.specs.Devices.{does_with}
use Rattle.sym_machine.specs.Events.{SymEvent}
use Rattle.sym_machine.specs.Expansions.{item_expansion}
use Rattle.sym_machine.specs.State.{PlainCore, reg_of}
use Rattle.sym_machine.specs.Step.{PlainStep, Went, Stuck, after_change, and_then, ends, applied, in_stack, in_turn, is_set, item_step, mark_for, needs_stack, plain_step, stack_mark, step_with, undefined_below}
use Rattle.sym_machine.specs.Words.{number_of}

-- ---- the beginning

-- what is needed isn't lacking where it is there; and where it isn't lacking it is there
pub never_lacks : (needs set : Bool) → set ≡ true → (needs && not set) ≡ false
never_lacks needs set is = ap (λ b. needs && not b) is ∙ by needs
  where
    by : (b : Bool) → (b && false) ≡ false
    by true = refl
    by false = refl

pub set_found : (needs set : Bool) → (needs && not set) ≡ false → needs ≡ true → set ≡ true
set_found needs true found need = refl
set_found needs false found need = absurd (let both : true ≡ false = ap (λ b. b && true) (sym need) ∙ found in cc)

pub set_lacking : (needs set : Bool) → (needs && not set) ≡ true → (needs ≡ true) × (set ≡ false)
set_lacking true true lacks = absurd cc
set_lacking true false lacks = (refl, refl)
set_lacking false set lacks = absurd cc

-- whether sp isn't set though what stands at the place needs it
abbrev pub lacks_stack : Program → PlainCore → Bool
lacks_stack p s = needs_stack (p.item s.place) && not (is_set p.map s)

-- after the exit the state stays
pub step_past_exit : (devices : List Device) (p : Program) (s : PlainCore) (status : ℕ) → s.exit ≡ Some status → step_with devices p s ≡ Went s []
unfolding step_with
step_past_exit devices p s status exited =
    ap (λ e. option_map_or (λ _. Went s []) e (cond (lacks_stack p s) (Stuck StackPointer) (item_step devices p.map p (p.item s.place) s (p.next s.place)))) exited

-- before the exit a step makes what stands at the place, unless sp isn't set and needs to be
pub step_begun :
    (devices : List Device) (p : Program) (s : PlainCore) → s.exit ≡ None
    → step_with devices p s ≡ cond (lacks_stack p s) (Stuck StackPointer) (item_step devices p.map p (p.item s.place) s (p.next s.place))
unfolding step_with
step_begun devices p s running =
    ap (λ e. option_map_or (λ _. Went s []) e (cond (lacks_stack p s) (Stuck StackPointer) (item_step devices p.map p (p.item s.place) s (p.next s.place)))) running

pub step_running :
    (devices : List Device) (p : Program) (s : PlainCore) → s.exit ≡ None → lacks_stack p s ≡ false
    → step_with devices p s ≡ item_step devices p.map p (p.item s.place) s (p.next s.place)
step_running devices p s running found =
    step_begun devices p s running ∙ cond-false (lacks_stack p s) (Stuck StackPointer) (item_step devices p.map p (p.item s.place) s (p.next s.place)) found

pub step_lacking : (devices : List Device) (p : Program) (s : PlainCore) → s.exit ≡ None → lacks_stack p s ≡ true → step_with devices p s ≡ Stuck StackPointer
step_lacking devices p s running lacks =
    step_begun devices p s running ∙ cond-true (lacks_stack p s) (Stuck StackPointer) (item_step devices p.map p (p.item s.place) s (p.next s.place)) lacks

-- nothing is lacking where sp is set
pub lacks_set : (p : Program) (s : PlainCore) → is_set p.map s ≡ true → lacks_stack p s ≡ false
lacks_set p s set = never_lacks (needs_stack (p.item s.place)) (is_set p.map s) set

-- nor where it needn't be
pub lacks_none : (p : Program) (s : PlainCore) → needs_stack (p.item s.place) ≡ false → lacks_stack p s ≡ false
lacks_none p s none = ap (λ b. b && not (is_set p.map s)) none

-- a step that went found what it needs
pub found_stack :
    (devices : List Device) (p : Program) (s s' : PlainCore) (events : List SymEvent) → s.exit ≡ None → step_with devices p s ≡ Went s' events → lacks_stack p s ≡ false
found_stack devices p s s' events running went = by (lacks_stack p s) refl
  where
    by : (b : Bool) → lacks_stack p s ≡ b → lacks_stack p s ≡ false
    by false is = is
    by true is = absurd (let stuck : Stuck StackPointer ≡ Went s' events = sym (step_lacking devices p s running is) ∙ went in cc)

pub found_set :
    (devices : List Device) (p : Program) (s s' : PlainCore) (events : List SymEvent) → s.exit ≡ None → needs_stack (p.item s.place) ≡ true
    → step_with devices p s ≡ Went s' events → is_set p.map s ≡ true
found_set devices p s s' events running needs went = set_found (needs_stack (p.item s.place)) (is_set p.map s) (found_stack devices p s s' events running went) needs

-- what the item at a place does with devices, if it isn't several instructions
abbrev pub does_there : List Device → Program → PlainCore → Does
does_there devices p s = does_with devices p (p.item s.place) s (p.next s.place) (item_does p (p.item s.place) s (p.next s.place))

-- then a step makes that
pub step_single :
    (devices : List Device) (p : Program) (s : PlainCore) → s.exit ≡ None → lacks_stack p s ≡ false → item_expansion (p.item s.place) ≡ None
    → step_with devices p s ≡ applied p.map s (does_there devices p s)
step_single devices p s running found single =
    step_running devices p s running found ∙ ap (λ o. option_map_or (λ is. in_turn p.map is (p.next s.place) s) o (applied p.map s (does_there devices p s))) single

-- if an item stands for several instructions, a step makes these one after another
pub step_expansion :
    (devices : List Device) (p : Program) (s : PlainCore) (is : List Instr) → s.exit ≡ None → lacks_stack p s ≡ false → item_expansion (p.item s.place) ≡ Some is
    → step_with devices p s ≡ in_turn p.map is (p.next s.place) s
step_expansion devices p s is running found are =
    step_running devices p s running found ∙ ap (λ o. option_map_or (λ is. in_turn p.map is (p.next s.place) s) o (applied p.map s (does_there devices p s))) are

-- ---- sp, and the mark below which the stack is undefined

-- sp is this number, which lies within the stack or is its end, and is the mark
pub record IsSetTo (map : MemMap) (sp : ℕ) (s : PlainCore) : Type 0 where
  pub is : number_of (reg_of s 2) ≡ Some sp
  pub low : map.stack_low ≤ sp
  pub high : sp ≤ map.stack_high
  pub set : is_set map s ≡ true
  pub mark : stack_mark map s ≡ sp

pub set_to : (map : MemMap) (sp : ℕ) (s : PlainCore) → number_of (reg_of s 2) ≡ Some sp → map.stack_low ≤ sp → sp ≤ map.stack_high → IsSetTo map sp s
set_to map sp s is low high =
    let inside : in_stack map sp ≡ true = and_from (leb map.stack_low sp) (leb sp map.stack_high) (le-leb map.stack_low sp low) (le-leb sp map.stack_high high) in
    record {
      is = is;
      low = low;
      high = high;
      set = ap (λ o. option_map_or (in_stack map) o false) is ∙ inside;
      mark = ap (mark_for map) is ∙ cond-true (in_stack map sp) sp map.stack_high inside;
    }

-- where sp is set it is such a number
pub record IsSetSome (map : MemMap) (s : PlainCore) : Type 0 where
  pub sp : ℕ
  pub at : IsSetTo map sp s
  pub open at use *

pub set_some : (map : MemMap) (s : PlainCore) → is_set map s ≡ true → IsSetSome map s
set_some map s set = by (number_of (reg_of s 2)) refl set
  where
    by : (o : Option ℕ) → number_of (reg_of s 2) ≡ o → option_map_or (in_stack map) o false ≡ true → IsSetSome map s
    by None is h = absurd cc
    by (Some sp) is h =
        let q = and_parts (leb map.stack_low sp) (leb sp map.stack_high) h in
        record { sp = sp; at = set_to map sp s is (leb-true map.stack_low sp q.0) (leb-true sp map.stack_high q.1) }

-- where it isn't, the mark is the stack's end
pub mark_outside : (map : MemMap) (o : Option ℕ) → option_map_or (in_stack map) o false ≡ false → mark_for map o ≡ map.stack_high
mark_outside map None h = refl
mark_outside map (Some sp) h = cond-false (in_stack map sp) sp map.stack_high h

pub mark_unset : (map : MemMap) (s : PlainCore) → is_set map s ≡ false → stack_mark map s ≡ map.stack_high
mark_unset map s unset = mark_outside map (number_of (reg_of s 2)) unset

-- the mark lies within the stack, or is its end
pub mark_high : (map : MemMap) (s : PlainCore) → stack_mark map s ≤ map.stack_high
mark_high map s = by (is_set map s) refl
  where
    by : (b : Bool) → is_set map s ≡ b → stack_mark map s ≤ map.stack_high
    by true set = let at = set_some map s set in omega (arith, at.mark, at.high)
    by false unset = omega (arith, mark_unset map s unset)

pub mark_low : (map : MemMap) (s : PlainCore) → map.stack_low ≤ map.stack_high → map.stack_low ≤ stack_mark map s
mark_low map s ordered = by (is_set map s) refl
  where
    by : (b : Bool) → is_set map s ≡ b → map.stack_low ≤ stack_mark map s
    by true set = let at = set_some map s set in omega (arith, at.mark, at.low)
    by false unset = omega (arith, mark_unset map s unset)

-- ---- the end

-- the state after the bytes of the stack below an address have become undefined
abbrev pub settled : MemMap → ℕ → PlainCore → PlainCore
settled map mark s = record s { memory = changed (undefined_below map mark) s.memory }

-- from the state s, where a step that began with sp set or not has made its change, to s': sp is set, if it was, and nothing changes but
-- that the stack's bytes below the mark are undefined
pub record Ended (map : MemMap) (was_set : Bool) (s s' : PlainCore) : Type 0 where
  pub state : s' ≡ settled map (stack_mark map s) s
  pub kept : was_set ≡ true → is_set map s ≡ true

pub ended :
    (map : MemMap) (was_set : Bool) (s s' : PlainCore) (events events' : List SymEvent) → ends map was_set s events ≡ Went s' events'
    → Ended map was_set s s' × (events' ≡ events)
unfolding ends
ended map was_set s s' events events' h = by (is_set map s || not was_set) refl h
  where
    stays : (b w : Bool) → (b || not w) ≡ true → w ≡ true → b ≡ true
    stays true w either was = refl
    stays false true either was = absurd cc
    stays false false either was = absurd cc

    by : (b : Bool) → (is_set map s || not was_set) ≡ b → cond b (Went (settled map (stack_mark map s) s) events) (Stuck StackPointer) ≡ Went s' events'
        → Ended map was_set s s' × (events' ≡ events)
    by true is g = (record { state = cc; kept = stays (is_set map s) was_set is }, cc)
    by false is g = absurd cc

-- where sp is set, a step goes on
pub ends_set : (map : MemMap) (was_set : Bool) (s : PlainCore) (events : List SymEvent) → is_set map s ≡ true → ends map was_set s events ≡ Went (settled map (stack_mark map s) s) events
unfolding ends
ends_set map was_set s events set = ap (λ b. cond (b || not was_set) (Went (settled map (stack_mark map s) s) events) (Stuck StackPointer)) set

-- and so does one that began where it wasn't
pub ends_unset : (map : MemMap) (s : PlainCore) (events : List SymEvent) → ends map false s events ≡ Went (settled map (stack_mark map s) s) events
unfolding ends
ends_unset map s events = cond-true (is_set map s || true) _ _ (always (is_set map s))
  where
    always : (b : Bool) → (b || true) ≡ true
    always true = refl
    always false = refl

-- and one that leaves sp set or not as it was
pub ends_same :
    (map : MemMap) (was_set : Bool) (s : PlainCore) (events : List SymEvent) → is_set map s ≡ was_set → ends map was_set s events ≡ Went (settled map (stack_mark map s) s) events
ends_same map true s events same = ends_set map true s events same
ends_same map false s events same = ends_unset map s events

-- one after which sp isn't set any more is stuck
pub ends_stuck : (map : MemMap) (s : PlainCore) (events : List SymEvent) → is_set map s ≡ false → ends map true s events ≡ Stuck StackPointer
unfolding ends
ends_stuck map s events unset = ap (λ b. cond (b || false) (Went (settled map (stack_mark map s) s) events) (Stuck StackPointer)) unset

-- with sp within the stack a step goes on
pub ends_within :
    (map : MemMap) (was_set : Bool) (sp : ℕ) (s : PlainCore) (events : List SymEvent) → number_of (reg_of s 2) ≡ Some sp → map.stack_low ≤ sp → sp ≤ map.stack_high
    → ends map was_set s events ≡ Went (settled map sp s) events
ends_within map was_set sp s events is low high =
    let at = set_to map sp s is low high in
    ends_set map was_set s events at.set ∙ ap (λ mark. Went (settled map mark s) events) at.mark

-- with sp outside it, or not known, it isn't set
pub unset_outside : (map : MemMap) (sp : ℕ) (s : PlainCore) → number_of (reg_of s 2) ≡ Some sp → in_stack map sp ≡ false → is_set map s ≡ false
unset_outside map sp s is out = ap (λ o. option_map_or (in_stack map) o false) is ∙ out

pub unset_unknown : (map : MemMap) (s : PlainCore) → number_of (reg_of s 2) ≡ None → is_set map s ≡ false
unset_unknown map s is = ap (λ o. option_map_or (in_stack map) o false) is

-- ---- where sp was set it stays set

pub made_set : (map : MemMap) (s s' : PlainCore) (d : Does) (events : List SymEvent) → applied map s d ≡ Went s' events → is_set map s ≡ true → is_set map s' ≡ true
made_set map s s' (Stops why) events h set = absurd cc
made_set map s s' (Goes c) events h set =
    let end = (ended map (is_set map s) (after_change c s) s' c.events events h).0 in
    ap (is_set map) end.state ∙ end.kept set

pub in_turn_set : (map : MemMap) (is : List Instr) (next : Place) (s s' : PlainCore) (events : List SymEvent) → in_turn map is next s ≡ Went s' events → is_set map s ≡ true → is_set map s' ≡ true
in_turn_set map [] next s s' events h set = ap (is_set map) (let e : s' ≡ s = cc in e) ∙ set
in_turn_set map (i ∷ is) next s s' events h set = by (applied map s (op_does i s next)) refl h (λ m g set_m. in_turn_set map is next m s' events g set_m)
  where
    by :
        (t : PlainStep) → applied map s (op_does i s next) ≡ t → and_then t (in_turn map is next) ≡ Went s' events
        → ((m : PlainCore) → in_turn map is next m ≡ Went s' events → is_set map m ≡ true → is_set map s' ≡ true) → is_set map s' ≡ true
    by (Went m none) first g again = again m g (made_set map s m (op_does i s next) none first set)
    by (Stuck why) first g again = absurd cc

pub set_stays : (devices : List Device) (p : Program) (s s' : PlainCore) (events : List SymEvent) → step_with devices p s ≡ Went s' events → is_set p.map s ≡ true → is_set p.map s' ≡ true
set_stays devices p s s' events h set = by s.exit refl
  where
    by_item :
        (o : Option (List Instr)) → option_map_or (λ is. in_turn p.map is (p.next s.place) s) o (applied p.map s (does_there devices p s)) ≡ Went s' events → is_set p.map s' ≡ true
    by_item None g = made_set p.map s s' (does_there devices p s) events g set
    by_item (Some is) g = in_turn_set p.map is (p.next s.place) s s' events g set

    by : (e : Option ℕ) → s.exit ≡ e → is_set p.map s' ≡ true
    by None is = by_item (item_expansion (p.item s.place)) (sym (step_running devices p s is (lacks_set p s set)) ∙ h)
    by (Some status) is =
        let same : Went s [] ≡ Went s' events = sym (step_past_exit devices p s status is) ∙ h in
        ap (is_set p.map) (let e : s' ≡ s = cc in e) ∙ set

-- ---- only where the stack lies plays a part

pub set_by : (m n : MemMap) (s : PlainCore) → m.stack_low ≡ n.stack_low → m.stack_high ≡ n.stack_high → is_set m s ≡ is_set n s
set_by m n s low high = by (number_of (reg_of s 2))
  where
    by : (o : Option ℕ) → option_map_or (in_stack m) o false ≡ option_map_or (in_stack n) o false
    by None = refl
    by (Some sp) = λ j. leb (low j) sp && leb sp (high j)

pub mark_by : (m n : MemMap) (s : PlainCore) → m.stack_low ≡ n.stack_low → m.stack_high ≡ n.stack_high → stack_mark m s ≡ stack_mark n s
mark_by m n s low high = by (number_of (reg_of s 2))
  where
    by : (o : Option ℕ) → mark_for m o ≡ mark_for n o
    by None = high
    by (Some sp) = λ j. cond (leb (low j) sp && leb sp (high j)) sp (high j)

pub made_by : (m n : MemMap) (s : PlainCore) (d : Does) → m.stack_low ≡ n.stack_low → m.stack_high ≡ n.stack_high → applied m s d ≡ applied n s d
unfolding ends
made_by m n s (Stops why) low high = refl
made_by m n s (Goes c) low high = λ j.
    cond (set_by m n (after_change c s) low high j || not (set_by m n s low high j))
    (Went (record (after_change c s) { memory = changed (λ a old. cond (leb (low j) a && ltb a (mark_by m n (after_change c s) low high j)) Undef old) (after_change c s).memory }) c.events)
    (Stuck StackPointer)

-- instructions one after another do the same under two maps with the same stack
pub in_turn_by :
    (m n : MemMap) (is : List Instr) (next : Place) (s : PlainCore) → m.stack_low ≡ n.stack_low → m.stack_high ≡ n.stack_high → in_turn m is next s ≡ in_turn n is next s
in_turn_by m n [] next s low high = refl
in_turn_by m n (i ∷ is) next s low high =
    ap (λ t. and_then t (in_turn m is next)) (made_by m n s (op_does i s next) low high)
    ∙ by (applied n s (op_does i s next)) (λ s'. in_turn_by m n is next s' low high)
  where
    by : (t : PlainStep) → ((s' : PlainCore) → in_turn m is next s' ≡ in_turn n is next s') → and_then t (in_turn m is next) ≡ and_then t (in_turn n is next)
    by (Went s' events) again = again s'
    by (Stuck why) again = refl

pub item_by :
    (devices : List Device) (m n : MemMap) (p : Program) (item : Option Item) (s : PlainCore) (next : Place) → m.stack_low ≡ n.stack_low → m.stack_high ≡ n.stack_high
    → item_step devices m p item s next ≡ item_step devices n p item s next
item_by devices m n p item s next low high = by (item_expansion item)
  where
    does : Does
    does = does_with devices p item s next (item_does p item s next)

    by : (o : Option (List Instr)) → option_map_or (λ is. in_turn m is next s) o (applied m s does) ≡ option_map_or (λ is. in_turn n is next s) o (applied n s does)
    by None = made_by m n s does low high
    by (Some is) = in_turn_by m n is next s low high

-- ---- devices

-- where the machine itself goes on, devices make no difference
does_goes :
    (devices : List Device) (p : Program) (item : Option Item) (s : PlainCore) (next : Place) (c : Change) → does_with devices p item s next (Goes c) ≡ Goes c
does_goes [] p item s next c = refl
does_goes (d ∷ ds) p item s next c = refl

-- nor where an item is several instructions, or after the exit
pub goes_with :
    (devices : List Device) (p : Program) (s s' : PlainCore) (events : List SymEvent) → plain_step p s ≡ Went s' events → step_with devices p s ≡ Went s' events
goes_with devices p s s' events went = by_exit s.exit refl
  where
    here : Option Item
    here = p.item s.place

    by_does : s.exit ≡ None → lacks_stack p s ≡ false → item_expansion here ≡ None → (d : Does) → item_does p here s (p.next s.place) ≡ d → step_with devices p s ≡ Went s' events
    by_does running found single (Goes c) is =
        step_single devices p s running found single
        ∙ ap (applied p.map s) (ap (does_with devices p here s (p.next s.place)) is ∙ does_goes devices p here s (p.next s.place) c ∙ sym is)
        ∙ sym (step_single [] p s running found single) ∙ went
    by_does running found single (Stops why) is =
        absurd (let stuck : Stuck why ≡ Went s' events = ap (applied p.map s) (sym is) ∙ sym (step_single [] p s running found single) ∙ went in cc)

    by_item : s.exit ≡ None → lacks_stack p s ≡ false → (o : Option (List Instr)) → item_expansion here ≡ o → step_with devices p s ≡ Went s' events
    by_item running found None single = by_does running found single (item_does p here s (p.next s.place)) refl
    by_item running found (Some is) are = step_expansion devices p s is running found are ∙ sym (step_expansion [] p s is running found are) ∙ went

    by_exit : (e : Option ℕ) → s.exit ≡ e → step_with devices p s ≡ Went s' events
    by_exit None running = by_item running (found_stack [] p s s' events running went) (item_expansion here) refl
    by_exit (Some status) exited = step_past_exit devices p s status exited ∙ sym (step_past_exit [] p s status exited) ∙ went

-- ---- where memory lies

-- bytes go to memory
abbrev pub stored : List (Region SymByte) → ℕ × List SymByte → List (Region SymByte)
stored memory w = changed (written w.0 (length w.1) (λ i. slice_index_or w.1 i Undef)) memory

-- and one list of them after another
abbrev pub with_stores : List (ℕ × List SymByte) → List (Region SymByte) → List (Region SymByte)
with_stores ws memory = fold stored memory ws

extents-with_stores : (ws : List (ℕ × List SymByte)) (memory : List (Region SymByte)) → extents_of (with_stores ws memory) ≡ extents_of memory
extents-with_stores [] memory = refl
extents-with_stores (w ∷ ws) memory =
    extents-with_stores ws (stored memory w) ∙ extents-changed (written w.0 (length w.1) (λ i. slice_index_or w.1 i Undef)) memory

pub extents-made : (map : MemMap) (s s' : PlainCore) (d : Does) (events : List SymEvent) → applied map s d ≡ Went s' events → extents_of s'.memory ≡ extents_of s.memory
extents-made map s s' (Stops why) events h = absurd cc
extents-made map s s' (Goes c) events h =
    let end = (ended map (is_set map s) (after_change c s) s' c.events events h).0 in
    ap (λ (t : PlainCore). extents_of t.memory) end.state
    ∙ extents-changed (undefined_below map (stack_mark map (after_change c s))) (with_stores c.stores s.memory)
    ∙ extents-with_stores c.stores s.memory

extents-in_turn : (map : MemMap) (is : List Instr) (next : Place) (s s' : PlainCore) (events : List SymEvent) → in_turn map is next s ≡ Went s' events → extents_of s'.memory ≡ extents_of s.memory
extents-in_turn map [] next s s' events h = ap (λ (t : PlainCore). extents_of t.memory) (let e : s' ≡ s = cc in e)
extents-in_turn map (i ∷ is) next s s' events h = by (applied map s (op_does i s next)) refl h (λ m g. extents-in_turn map is next m s' events g)
  where
    by :
        (t : PlainStep) → applied map s (op_does i s next) ≡ t → and_then t (in_turn map is next) ≡ Went s' events
        → ((m : PlainCore) → in_turn map is next m ≡ Went s' events → extents_of s'.memory ≡ extents_of m.memory) → extents_of s'.memory ≡ extents_of s.memory
    by (Went m none) first g again = again m g ∙ extents-made map s m (op_does i s next) none first
    by (Stuck why) first g again = absurd cc

extents-item :
    (devices : List Device) (map : MemMap) (p : Program) (item : Option Item) (s s' : PlainCore) (next : Place) (events : List SymEvent)
    → item_step devices map p item s next ≡ Went s' events → extents_of s'.memory ≡ extents_of s.memory
extents-item devices map p item s s' next events h = by (item_expansion item) h
  where
    by :
        (o : Option (List Instr)) → option_map_or (λ is. in_turn map is next s) o (applied map s (does_with devices p item s next (item_does p item s next))) ≡ Went s' events
        → extents_of s'.memory ≡ extents_of s.memory
    by None g = extents-made map s s' (does_with devices p item s next (item_does p item s next)) events g
    by (Some is) g = extents-in_turn map is next s s' events g

-- a step moves no memory
pub extents-step :
    (devices : List Device) (p : Program) (s s' : PlainCore) (events : List SymEvent) → step_with devices p s ≡ Went s' events → extents_of s'.memory ≡ extents_of s.memory
extents-step devices p s s' events h = by s.exit refl
  where
    by : (e : Option ℕ) → s.exit ≡ e → extents_of s'.memory ≡ extents_of s.memory
    by None is =
        extents-item devices p.map p (p.item s.place) s s' (p.next s.place) events (sym (step_running devices p s is (found_stack devices p s s' events is h)) ∙ h)
    by (Some status) is =
        let same : Went s [] ≡ Went s' events = sym (step_past_exit devices p s status is) ∙ h in
        ap (λ (t : PlainCore). extents_of t.memory) (let e : s' ≡ s = cc in e)

-- nor does any answer
pub of_again : (p : Program) (r : Result SymStep AllocError) (s s' : PlainCore) → Makes r (plain_step p s) s s' → IsOf p s → IsOf p s'
of_again p (Ok answer.Done) s s' h of = extents-step [] p s s' [] h.2 ∙ of
of_again p (Ok (answer.Read count)) s s' h of = extents-step [] p s s' _ h.1.2 ∙ of
of_again p (Ok (answer.Wrote fd bytes)) s s' h of = extents-step [] p s s' _ h.1.2 ∙ of
of_again p (Ok (answer.Loaded op at)) s s' h of = extents-step [] p s s' _ h.2 ∙ of
of_again p (Ok (answer.Stored sent)) s s' h of = extents-step [] p s s' _ h.1.2 ∙ of
of_again p (Ok (answer.StoredCode at place)) s s' h of = extents-step [] p s s' _ h.2 ∙ of
of_again p (Ok (answer.System word operand)) s s' h of = extents-step [] p s s' _ h.2 ∙ of
of_again p (Ok (answer.Exited status)) s s' h of =
    ⊎_elim (λ now. extents-step [] p s s' _ now.2 ∙ of) (λ before. ap (λ (t : PlainCore). extents_of t.memory) before.1 ∙ of) h
of_again p (Ok (answer.Stuck place why)) s s' h of = ap (λ (t : PlainCore). extents_of t.memory) h.1 ∙ of
of_again p (Err e) s s' h of = ap (λ (t : PlainCore). extents_of t.memory) h ∙ of
