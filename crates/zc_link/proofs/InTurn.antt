-- Instructions that the program makes one after another in one step: the machine's effects, one after another, lead to a state that is
-- alike with the program's again.
use Rattle.std.proofs.Common.{◌≡◌, ◌<◌, List, [], ◌∷◌, ◌++◌, length, refl, sym, ap, ◌∙◌, subst, arith, drop}
use Rattle.zc_base.specs.declared.mem_map.MemMap.{MemMap}
use Rattle.zc_base.specs.declared.place.Place.{Place}
use Rattle.rv_decode.specs.declared.instr.Instr.{Instr}
use Rattle.rv_decode.specs.Effect.{Commits, effect}
use Rattle.rv_decode.specs.State.{ZcCore}
use Rattle.sym_machine.specs.Change.{Does, Goes, Stops, op_does}
use Rattle.sym_machine.specs.Events.{SymEvent}
use Rattle.sym_machine.specs.Program.{Program}
use Rattle.sym_machine.specs.State.{PlainCore, PlainState}
use Rattle.sym_machine.specs.Step.{PlainStep, Stuck, Went, after_change, and_then, applied, in_turn, is_set}
use Rattle.sym_machine.proofs.StepLaws.{ended}
use Rattle.zc_link.specs.Image.{Image}
use Rattle.zc_link.specs.Invariants.Room.{Room}
use Rattle.zc_link.specs.Sound.{Alike}
use Rattle.zc_link.proofs.Ends.{ends_alike}
use Rattle.zc_link.proofs.Straight.{AreStraight, Follow, IsStraight, straight_goes}

-- ---- the program alone

-- a state and what else goes with it
pub went_same : (s t : PlainCore) (events others : List SymEvent) → Went s events ≡ Went t others → s ≡ t
went_same s t events others h = cc

-- the first of them, and the others
pub record OneFirst (map : MemMap) (i : Instr) (is : List Instr) (next : Place) (s s' : PlainCore) (events : List SymEvent) : Type 0 where
  pub middle : PlainCore
  pub made : List SymEvent
  pub first : applied map s (op_does i s next) ≡ Went middle made
  pub rest : in_turn map is next middle ≡ Went s' events

pub one_first : (map : MemMap) (i : Instr) (is : List Instr) (next : Place) (s s' : PlainCore) (events : List SymEvent) → in_turn map (i ∷ is) next s ≡ Went s' events → OneFirst map i is next s s' events
one_first map i is next s s' events h = by (applied map s (op_does i s next)) refl h
  where
    by : (t : PlainStep) → applied map s (op_does i s next) ≡ t → and_then t (in_turn map is next) ≡ Went s' events → OneFirst map i is next s s' events
    by (Went m none) first g = record { middle = m; made = none; first = first; rest = g }
    by (Stuck why) first g = absurd cc

-- the steps of two lists of instructions, taken apart
pub record Apart (map : MemMap) (is js : List Instr) (next : Place) (s s' : PlainCore) (events : List SymEvent) : Type 0 where
  pub middle : PlainCore
  pub first : in_turn map is next s ≡ Went middle []
  pub rest : in_turn map js next middle ≡ Went s' events

pub in_turn-apart : (map : MemMap) (is js : List Instr) (next : Place) (s s' : PlainCore) (events : List SymEvent) → in_turn map (is ++ js) next s ≡ Went s' events → Apart map is js next s s' events
in_turn-apart map [] js next s s' events h = record { middle = s; first = refl; rest = h }
in_turn-apart map (i ∷ is) js next s s' events h =
    let one = one_first map i (is ++ js) next s s' events h in
    let two = in_turn-apart map is js next one.middle s' events one.rest in
    record { middle = two.middle; first = ap (λ t. and_then t (in_turn map is next)) one.first ∙ two.first; rest = two.rest }

-- ---- both machines

-- one of the instructions, by itself
record OneDone (p : Program) (Named : Place → Type 0) (e : Image) (i : Instr) (next : Place) (s m : PlainCore) (z : ZcCore) : Type 0 where
  after : ZcCore
  commits : effect i 0 z ≡ Commits after
  alike : Alike p Named e m after
  place : m.place ≡ next
  input : m.input ≡ s.input

-- all of them
pub record AllDone (p : Program) (Named : Place → Type 0) (e : Image) (is : List Instr) (next : Place) (s : PlainCore) (r' : PlainState) (z : ZcCore) : Type 0 where
  pub follow : Follow p Named e is r' z
  pub place : 0 < length is → r'.core.place ≡ next
  pub input : r'.core.input ≡ s.input

module _ {p : Program} {Named : Place → Type 0} {e : Image} (room : Room p e) where
  one_done :
      (i : Instr) (next : Place) (s m : PlainCore) (events : List SymEvent) (z : ZcCore) → IsStraight i → applied p.map s (op_does i s next) ≡ Went m events → Alike p Named e s z
      → OneDone p Named e i next s m z
  one_done i next s m events z low h al = by (op_does i s next) refl h
    where
      by : (d : Does) → op_does i s next ≡ d → applied p.map s d ≡ Went m events → OneDone p Named e i next s m z
      by (Stops why) is g = absurd cc
      by (Goes c) is g =
          let end = (ended p.map (is_set p.map s) (after_change c s) m c.events events g).0 in
          let goes = straight_goes room i c next low al.ready is in
          record {
            after = goes.made.after;
            commits = goes.made.commits;
            alike = ends_alike end goes.made.ready;
            place = ap (λ t. t.place) end.state ∙ goes.place;
            input = ap (λ t. t.input) end.state ∙ ap (λ n. drop n s.input) goes.made.quiet.taken;
          }

  pub all_done :
      (is : List Instr) (next : Place) (s : PlainCore) (r' : PlainState) (events : List SymEvent) (z : ZcCore) → AreStraight is → in_turn p.map is next s ≡ Went r'.core events
      → Alike p Named e s z → AllDone p Named e is next s r' z
  all_done [] next s r' events z low h al =
      let same : s ≡ r'.core = went_same s r'.core [] events h in
      record {
        follow = record { after = z; effects = refl; alike = subst (λ t. Alike p Named e t z) same al };
        place = λ some. absurd (omega (arith, some));
        input = ap (λ t. t.input) (sym same);
      }
  all_done (i ∷ []) next s r' events z low h al =
      let one = one_first p.map i [] next s r'.core events h in
      let done = one_done i next s one.middle one.made z low.0 one.first al in
      let same : one.middle ≡ r'.core = went_same one.middle r'.core [] events one.rest in
      record {
        follow = record { after = done.after; effects = (0, done.after, done.commits, refl); alike = subst (λ t. Alike p Named e t done.after) same done.alike };
        place = λ some. ap (λ t. t.place) (sym same) ∙ done.place;
        input = ap (λ t. t.input) (sym same) ∙ done.input;
      }
  all_done (i ∷ (j ∷ is)) next s r' events z low h al =
      let one = one_first p.map i (j ∷ is) next s r'.core events h in
      let done = one_done i next s one.middle one.made z low.0 one.first al in
      let rest = all_done (j ∷ is) next one.middle r' events done.after low.1 one.rest done.alike in
      record {
        follow = record { after = rest.follow.after; effects = (0, done.after, done.commits, rest.follow.effects); alike = rest.follow.alike };
        place = λ some. rest.place (omega arith);
        input = rest.input ∙ done.input;
      }
