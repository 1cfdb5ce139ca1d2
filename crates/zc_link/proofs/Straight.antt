-- Instructions without relocation that go on to the next item, without an event, one after another: the program comes to the place
-- behind them, and the machine's effects, one after another, lead to a state that is alike with the program's again.
use Rattle.std.proofs.Common.{◌≡◌, ℕ, zero, suc, ◌%◌, ◌<◌, ◌≤◌, List, [], ◌∷◌, ◌++◌, length, Option, Some, None, Ok, Bool, true, false, cond, drop, refl, sym, ap, ◌∙◌, subst, arith, ℤ, eqb}
use Rattle.std.specs.Option.{option_and_then, option_map}
use Rattle.std.proofs.lemmas.Bool.{cond-true, eq-eqb}
use Rattle.std.proofs.lemmas.List.{append-nil}
use Rattle.zc_base.specs.declared.place.Place.{Place}
use Rattle.rv_decode.specs.declared.instr.Instr.{Instr}
use Rattle.rv_decode.specs.declared.instr.Instr.TheVariants.{Upper, Jal, Jalr, Branch, Load, Store, WithImm, WithReg, Fence, Ecall, Ebreak, Csrrw}
use Rattle.rv_decode.specs.Bits.{add32}
use Rattle.rv_decode.specs.Devices.{Device}
use Rattle.rv_decode.specs.Effect.{load_width, store_width}
use Rattle.rv_decode.specs.Run.{iterate}
use Rattle.rv_decode.specs.State.{ZcCore, reg_in}
use Rattle.rv_decode.proofs.RunLaws.{bind_ok}
use Rattle.block_cut.specs.declared.item.Item.TheVariants.{Op}
use Rattle.sym_machine.specs.declared.why.Why.TheVariants.{BadAddress, Misaligned}
use Rattle.sym_machine.specs.Change.{Change, Does, Goes, Stops, accessing, in_memory, item_does, load_word, op_does, puts, sets, stored_bytes}
use Rattle.sym_machine.specs.Devices.{device_address, device_does, device_load, device_store}
use Rattle.sym_machine.specs.Program.{Program}
use Rattle.sym_machine.specs.Run.{plain_turn}
use Rattle.sym_machine.specs.Expansions.{item_expansion}
use Rattle.sym_machine.specs.State.{PlainCore, PlainState, reg_of}
use Rattle.sym_machine.specs.Words.{number_of, sum_word}
use Rattle.sym_machine.proofs.RunLaws.{Stepped, stepped}
use Rattle.zc_link.specs.Image.{Image}
use Rattle.zc_link.specs.Invariants.Room.{Room}
use Rattle.zc_link.specs.Sound.{Alike, Ready}
use Rattle.zc_link.specs.Stands.{WordStands}
use Rattle.zc_link.specs.Invariants.Stretches.{AreOps, place_items_on}
use Rattle.zc_link.specs.Values.{value_in}
use Rattle.zc_link.proofs.Effects.{Effects}
use Rattle.zc_link.proofs.Ends.{ends_alike}
use Rattle.zc_link.proofs.Instrs.{GoesOn, imm_goes, load_goes, store_goes}
use Rattle.zc_link.proofs.Words.{sum_stands}

-- an operation on a register and an immediate, whose source is among the 32 registers, or a load or a store by sp
abbrev pub IsStraight : Instr → Type 0
IsStraight (Upper op rd imm) = ⊥
IsStraight (Jal rd distance) = ⊥
IsStraight (Jalr rd base imm) = ⊥
IsStraight (Branch op first second distance) = ⊥
IsStraight (Load op rd base imm) = base ≡ 2
IsStraight (Store op source base imm) = (source < 32) × (base ≡ 2)
IsStraight (WithImm op rd first imm) = first < 32
IsStraight (WithReg op rd first second) = ⊥
IsStraight (Fence rest) = ⊥
IsStraight Ecall = ⊥
IsStraight Ebreak = ⊥
IsStraight (Csrrw rd source) = ⊥

abbrev pub AreStraight : List Instr → Type 0
AreStraight [] = Unit {0}
AreStraight (i ∷ is) = IsStraight i × AreStraight is

pub straight_both : (is js : List Instr) → AreStraight is → AreStraight js → AreStraight (is ++ js)
straight_both [] js a b = b
straight_both (i ∷ is) js a b = (a.0, straight_both is js a.1 b)

-- items before others
pub ops_first : (p : Program) (q : Place) (is js : List Instr) → AreOps p q (is ++ js) → AreOps p q is
ops_first p q [] js ops = tt
ops_first p q (i ∷ is) js ops = (ops.0, ops_first p (p.next q) is js ops.1)

-- the items after the first instructions are the others
pub ops_last : (p : Program) (q : Place) (is js : List Instr) → AreOps p q (is ++ js) → AreOps p (place_items_on p q (length is)) js
ops_last p q [] js ops = ops
ops_last p q (i ∷ is) js ops = ops_last p (p.next q) is js ops.1

-- ---- the program alone

-- a change that goes on to a place, and does nothing that is seen
pub record Silent (c : Change) (next : Place) : Type 0 where
  pub place : c.place ≡ next
  pub events : c.events ≡ []
  pub taken : c.taken ≡ 0
  pub exit : c.exit ≡ None

-- an access that goes on goes on from some address
access_goes : (n : ℕ) (o : Option ℕ) (s : PlainCore) (go : ℕ → Does) (c : Change) → accessing n o s go ≡ Goes c → (a : ℕ) × (go a ≡ Goes c)
access_goes n None s go c h = absurd cc
access_goes n (Some a) s go c h = tested (eqb (a % n) 0) (in_memory s a n) h
  where
    tested : (x y : Bool) → cond x (cond y (go a) (Stops BadAddress)) (Stops Misaligned) ≡ Goes c → (a : ℕ) × (go a ≡ Goes c)
    tested true true g = (a, g)
    tested true false g = absurd cc
    tested false y g = absurd cc

silent_change : (c d : Change) (next : Place) → Silent d next → Goes d ≡ Goes c → Silent c next
silent_change c d next silent h = subst (λ x. Silent x next) (goes_same h) silent
  where
    goes_same : Goes d ≡ Goes c → d ≡ c
    goes_same g = cc

straight_silent : (i : Instr) (s : PlainCore) (next : Place) (c : Change) → IsStraight i → op_does i s next ≡ Goes c → Silent c next
straight_silent (Upper op rd imm) s next c low h = absurd low
straight_silent (Jal rd distance) s next c low h = absurd low
straight_silent (Jalr rd base imm) s next c low h = absurd low
straight_silent (Branch op first second distance) s next c low h = absurd low
straight_silent (Load op rd base imm) s next c low h =
    let g = access_goes (load_width op) (number_of (sum_word (reg_of s base) imm)) s (λ a. Goes (sets rd (load_word op s a) next)) c h in
    silent_change c (sets rd (load_word op s g.0) next) next (record { place = refl; events = refl; taken = refl; exit = refl }) g.1
straight_silent (Store op source base imm) s next c low h =
    let g = access_goes (store_width op) (number_of (sum_word (reg_of s base) imm)) s (λ a. Goes (puts a (stored_bytes op (reg_of s source)) next)) c h in
    silent_change c (puts g.0 (stored_bytes op (reg_of s source)) next) next (record { place = refl; events = refl; taken = refl; exit = refl }) g.1
straight_silent (WithImm op rd first imm) s next c low h = silent_change c _ next (record { place = refl; events = refl; taken = refl; exit = refl }) h
straight_silent (WithReg op rd first second) s next c low h = absurd low
straight_silent (Fence rest) s next c low h = absurd low
straight_silent Ecall s next c low h = absurd low
straight_silent Ebreak s next c low h = absurd low
straight_silent (Csrrw rd source) s next c low h = absurd low

-- no device answers it
no_device : (ds : List Device) (base n : ℕ) (o : Option ℕ) → base ≡ 2 → device_address ds base n o ≡ None
no_device ds base n None by_sp = refl
no_device ds base n (Some a) by_sp = cond-true (eqb base 2) _ _ (eq-eqb base 2 by_sp)

straight_alone : (ds : List Device) (p : Program) (i : Instr) (s : PlainCore) (next : Place) → IsStraight i → device_does ds p (Some (Op i)) s next ≡ None
straight_alone ds p (Upper op rd imm) s next low = refl
straight_alone ds p (Jal rd distance) s next low = refl
straight_alone ds p (Jalr rd base imm) s next low = refl
straight_alone ds p (Branch op first second distance) s next low = refl
straight_alone ds p (Load op rd base imm) s next low =
    ap (λ o. option_map Goes (option_map (device_load op rd s next) o)) (no_device ds base (load_width op) (number_of (sum_word (reg_of s base) imm)) low)
straight_alone ds p (Store op source base imm) s next low =
    ap (λ o. option_map Goes (option_and_then (device_store op (reg_of s source) next) o)) (no_device ds base (store_width op) (number_of (sum_word (reg_of s base) imm)) low.1)
straight_alone ds p (WithImm op rd first imm) s next low = refl
straight_alone ds p (WithReg op rd first second) s next low = refl
straight_alone ds p (Fence rest) s next low = refl
straight_alone ds p Ecall s next low = refl
straight_alone ds p Ebreak s next low = refl
straight_alone ds p (Csrrw rd source) s next low = refl

-- no event, no input is taken, and the program runs on, at this place
pub record CameTo (q : Place) (r r' : PlainState) : Type 0 where
  pub place : r'.core.place ≡ q
  pub events : r'.events ≡ r.events
  pub input : r'.core.input ≡ r.core.input
  pub running : r'.core.exit ≡ None

-- a run of one turn is one step
pub one_turn : (p : Program) (r r' : PlainState) → iterate (plain_turn p) 1 r ≡ Ok r' → plain_turn p r ≡ Ok r'
one_turn p r r' h =
    let first = bind_ok (plain_turn p r) (iterate (plain_turn p) 0) r' h in
    let last : first.0 ≡ r' = (let rest = first.2 in cc) in
    first.1 ∙ ap Ok last

-- a step of one of them
pub record StepOf (p : Program) (i : Instr) (r r1 : PlainState) : Type 0 where
  pub step : Stepped p r r1
  pub does : op_does i r.core (p.next r.core.place) ≡ Goes step.change
  pub came : CameTo (p.next r.core.place) r r1

pub step_of : (p : Program) (i : Instr) (r r1 : PlainState) → IsStraight i → p.item r.core.place ≡ Some (Op i) → r.core.exit ≡ None → plain_turn p r ≡ Ok r1 → StepOf p i r r1
step_of p i r r1 low item running h =
    let next = p.next r.core.place in
    let step = stepped p r r1 running (ap item_expansion item) (ap (λ o. device_does r.devices p o r.core next) item ∙ straight_alone r.devices p i r.core next low) h in
    let does : op_does i r.core next ≡ Goes step.change = ap (λ o. item_does p o r.core next) (sym item) ∙ step.does in
    let silent = straight_silent i r.core next step.change low does in
    record {
      step = step;
      does = does;
      came = record {
        place = ap (λ s. s.place) step.end.state ∙ silent.place;
        events = step.events ∙ ap (λ l. r.events ++ l) silent.events ∙ append-nil r.events;
        input = ap (λ s. s.input) step.end.state ∙ ap (λ n. drop n r.core.input) silent.taken;
        running = ap (λ s. s.exit) step.end.state ∙ silent.exit;
      };
    }

-- several steps
pub on_way :
    (p : Program) (is : List Instr) (k : ℕ) (r r' : PlainState) → k ≤ length is → AreOps p r.core.place is → AreStraight is → r.core.exit ≡ None
    → iterate (plain_turn p) k r ≡ Ok r' → CameTo (place_items_on p r.core.place k) r r'
on_way p is zero r r' few ops low running h =
    let same : r ≡ r' = cc in
    record { place = ap (λ x. x.core.place) (sym same); events = ap (λ x. x.events) (sym same); input = ap (λ x. x.core.input) (sym same); running = ap (λ x. x.core.exit) (sym same) ∙ running }
on_way p [] (suc k) r r' few ops low running h = absurd (omega (arith, few))
on_way p (i ∷ is) (suc k) r r' few ops low running h =
    let first = bind_ok (plain_turn p r) (iterate (plain_turn p) k) r' h in
    let came = (step_of p i r first.0 low.0 ops.0 running first.1).came in
    let rest = on_way p is k first.0 r' (omega (arith, few)) (subst (λ q. AreOps p q is) (sym came.place) ops.1) low.1 came.running first.2 in
    record {
      place = rest.place ∙ ap (λ q. place_items_on p q k) came.place;
      events = rest.events ∙ came.events;
      input = rest.input ∙ came.input;
      running = rest.running;
    }

-- ---- both machines

-- one step of both machines
pub record BothStep (p : Program) (Named : Place → Type 0) (e : Image) (i : Instr) (r r1 : PlainState) (z : ZcCore) : Type 0 where
  pub of : StepOf p i r r1
  pub goes : GoesOn p Named e i 0 of.step.change r.core (p.next r.core.place) z
  pub alike : Alike p Named e r1.core goes.made.after

-- the machine's effects in the items' order
pub record Follow (p : Program) (Named : Place → Type 0) (e : Image) (is : List Instr) (r' : PlainState) (z : ZcCore) : Type 0 where
  pub after : ZcCore
  pub effects : Effects is z after
  pub alike : Alike p Named e r'.core after

module _ {p : Program} {Named : Place → Type 0} {e : Image} (room : Room p e) where
  -- the sum of a register and an immediate stands for the machine's
  pub base_sum :
      {s : PlainCore} {y : ZcCore} (base : ℕ) (imm : ℤ) → Ready p Named e s y → base < 32
      → WordStands (value_in p e.address) (sum_word (reg_of s base) imm) (add32 (reg_in y base) imm)
  base_sum {s} {y} base imm ready low = sum_stands (value_in p e.address) (reg_of s base) imm (reg_in y base) (ready.core.words base) (ready.registers base low)

  pub straight_goes :
      {s : PlainCore} {y : ZcCore} (i : Instr) (c : Change) (next : Place) → IsStraight i → Ready p Named e s y → op_does i s next ≡ Goes c
      → GoesOn p Named e i 0 c s next y
  straight_goes (Upper op rd imm) c next low ready h = absurd low
  straight_goes (Jal rd distance) c next low ready h = absurd low
  straight_goes (Jalr rd base imm) c next low ready h = absurd low
  straight_goes (Branch op first second distance) c next low ready h = absurd low
  straight_goes {s} (Load op rd base imm) c next low ready h = load_goes room ready 0 c next op rd base imm (sum_word (reg_of s base) imm) (base_sum base imm ready (omega (arith, low))) h
  straight_goes {s} (Store op source base imm) c next low ready h =
      store_goes room ready 0 c next op source base imm (sum_word (reg_of s base) imm) low.0 (base_sum base imm ready (omega (arith, low.1))) h
  straight_goes (WithImm op rd first imm) c next low ready h = imm_goes room ready 0 c next op rd first imm low h
  straight_goes (WithReg op rd first second) c next low ready h = absurd low
  straight_goes (Fence rest) c next low ready h = absurd low
  straight_goes Ecall c next low ready h = absurd low
  straight_goes Ebreak c next low ready h = absurd low
  straight_goes (Csrrw rd source) c next low ready h = absurd low

  pub both_step : (i : Instr) (r r1 : PlainState) (z : ZcCore) → IsStraight i → p.item r.core.place ≡ Some (Op i) → plain_turn p r ≡ Ok r1 → Alike p Named e r.core z → BothStep p Named e i r r1 z
  both_step i r r1 z low item h al =
      let of = step_of p i r r1 low item al.running h in
      let goes = straight_goes i of.step.change (p.next r.core.place) low al.ready of.does in
      record { of = of; goes = goes; alike = ends_alike of.step.end goes.made.ready }

  pub all_follow :
      (is : List Instr) (r r' : PlainState) (z : ZcCore) → AreOps p r.core.place is → AreStraight is → iterate (plain_turn p) (length is) r ≡ Ok r' → Alike p Named e r.core z
      → Follow p Named e is r' z
  all_follow [] r r' z ops low h al = let same : r ≡ r' = cc in record { after = z; effects = refl; alike = subst (λ x. Alike p Named e x.core z) same al }
  all_follow (i ∷ is) r r' z ops low h al =
      let first = bind_ok (plain_turn p r) (iterate (plain_turn p) (length is)) r' h in
      let one = both_step i r first.0 z low.0 ops.0 first.1 al in
      let rest = all_follow is first.0 r' one.goes.made.after (subst (λ q. AreOps p q is) (sym one.of.came.place) ops.1) low.1 first.2 one.alike in
      record { after = rest.after; effects = (0, one.goes.made.after, one.goes.made.commits, rest.effects); alike = rest.alike }
