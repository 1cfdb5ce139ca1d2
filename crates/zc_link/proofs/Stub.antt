-- The stub. Its three commits set t0 and jvt alone and go to the program's start, whatever interrupts come before each of
-- them. Until jvt is set, the states are alike as if the image started at the program's start, for then nothing is asked of
-- jvt.
use Rattle.std.proofs.Common.{◌≡◌, ℕ, ◌+◌, ◌*◌, ◌/◌, ◌^◌, List, Some, None, Ok, refl, sym, ap, ◌∙◌, subst, arith, eqb, inl}
use Rattle.std.proofs.lemmas.Bool.{cond-false, cond-true, eq-eqb, ne_eqb}
use Rattle.zc_base.specs.declared.place.Place.{Place}
use Rattle.interrupt_plan.specs.Plan.{AreInterrupts, Interrupt}
use Rattle.rv_decode.specs.declared.instr.Instr.TheVariants.{Csrrw, Jal, Upper}
use Rattle.rv_decode.specs.declared.instr.UpperOp.TheVariants.{Lui}
use Rattle.rv_decode.specs.Bits.{add32}
use Rattle.rv_decode.specs.Effect.{onward}
use Rattle.rv_decode.specs.Results.{upper_result}
use Rattle.rv_decode.specs.State.{ZcCore, ZcState, reg_in, set_reg}
use Rattle.rv_decode.proofs.RegisterLaws.{reads, reads-set_reg_same}
use Rattle.sym_machine.specs.Program.{Program}
use Rattle.sym_machine.specs.State.{PlainCore}
use Rattle.sym_machine.specs.Words.{undef_word}
use Rattle.zc_decode.specs.declared.short.Short.TheVariants.{Base}
use Rattle.zc_machine.specs.Fetch.{fetched_at}
use Rattle.zc_machine.specs.Load.{first_core}
use Rattle.zc_machine.specs.Run.{zc_turns}
use Rattle.zc_machine.proofs.TurnLaws.{zc_turns-more}
use Rattle.zc_link.specs.Image.{Image, loaded_core}
use Rattle.zc_link.specs.Invariants.Laid.{AtEntry, BehindStub, Begins, StubLaid}
use Rattle.zc_link.specs.Pace.{lead_from, lead_of}
use Rattle.zc_link.specs.Invariants.Room.{Room}
use Rattle.zc_link.specs.Sound.{Alike}
use Rattle.zc_link.specs.Invariants.Stretches.{OneAt}
use Rattle.zc_link.proofs.Bare.{Bares, two_bare}
use Rattle.zc_link.proofs.Commits.{AfterCuts, after_cuts, zc_turns-one}
use Rattle.zc_link.proofs.Ready.{alike_forgets, alike_moved}
use Rattle.zc_link.proofs.Singles.{below_top}

-- ---- how many commits come before the start

pub none_lead : (p : Program) (e : Image) → e.address p.entry ≡ Some e.entry → lead_of p e ≡ 0
none_lead p e at = ap (λ o. lead_from o e.entry) at ∙ cond-true (eqb e.entry e.entry) 0 3 (eq-eqb e.entry e.entry refl)

-- where the stub leads
abbrev pub stub_leads : {p : Program} {e : Image} {a : ℕ} → StubLaid p e a → ℕ
stub_leads {a = a} stub = add32 (a + stub.upper.size + stub.sets.size) stub.distance

pub stub_lead : {p : Program} {e : Image} → StubLaid p e e.entry → lead_of p e ≡ 3
stub_lead {e = e} stub =
    let other = ne_eqb (stub_leads stub) e.entry (λ same. stub.elsewhere (stub.leads ∙ ap Some same)) in
    ap (λ o. lead_from o e.entry) stub.leads ∙ cond-false (eqb (stub_leads stub) e.entry) 0 3 other

-- none of them looks at memory
pub lead_bares : {p : Program} {e : Image} (regs : List ℕ) → Begins p e → Bares e (lead_of p e) regs e.entry
lead_bares {p} {e} regs (AtEntry at) = subst (λ n. Bares e n regs e.entry) (sym (none_lead p e at)) tt
lead_bares {p} {e} regs (BehindStub stub) = subst (λ n. Bares e n regs e.entry) (sym (stub_lead stub)) (
  Upper Lui 5 (e.map.text / 2 ^ 12),
  stub.upper,
  tt,
  λ _. (
    tt,
    λ later.
        two_bare e later (e.entry + stub.upper.size) (Csrrw 0 5) (Jal 0 stub.distance) tt tt tt
        (record { one = stub.sets; two = stub.goes }),
  ),
)

-- ---- as if the image started elsewhere

-- the image, if it started at an address
abbrev pub started : Image → ℕ → Image
started e start = record e { entry = start }

started_room : {p : Program} {e : Image} (start : ℕ) → Room p e → Room p (started e start)
unfolding first_core
started_room start room = record {
  map = room.map;
  top = room.top;
  some = room.some;
  deep = room.deep;
  under = room.under;
  reaches = room.reaches;
  bounded = room.bounded;
  apart = room.apart;
  even = room.even;
  distinct = room.distinct;
}

-- the image with another start fetches the same
started-fetched :
    (e : Image) (start a : ℕ) → fetched_at (loaded_core (started e start)) a ≡ fetched_at (loaded_core e) a
unfolding first_core
started-fetched e start a = refl

-- what is alike there is alike here, if jvt is as it should be
pub started_alike :
    {p : Program} {Named : Place → Type 0} {e : Image} {s : PlainCore} {z : ZcCore} (start pc jvt commits : ℕ)
    → ((e.address p.entry ≡ Some e.entry → ⊥) → jvt ≡ e.map.text)
    → Alike p Named (started e start) s z → Alike p Named e s (record z { pc = pc; jvt = jvt; commits = commits })
unfolding first_core
started_alike start pc jvt commits table al = record {
  ready = record {
    running = al.running;
    going = al.going;
    plain = al.plain;
    core = record { count = al.core.count; words = al.core.words; bytes = al.core.bytes };
    registers = al.registers;
    memory = al.memory;
    names = al.names;
    lies = al.lies;
    extents = al.extents;
    text = al.text;
    table = table;
  };
  below = al.below;
}

-- ---- its commits

-- the program with t0 forgotten
abbrev pub without_t0 : PlainCore → PlainCore
without_t0 s = record s { regs = set_reg s.regs 5 undef_word; exit = None }

-- the stub stands at pc, and the states are alike as if the image started where it leads; interrupts come before each
-- commit
pub record OnStub
    (p : Program) (Named : Place → Type 0) (e : Image) (cuts : ℕ → List Interrupt) (s : PlainCore) (z : ZcState) : Type 0 where
  pub are : AreInterrupts cuts
  pub stub : StubLaid p e z.core.pc
  pub alike : Alike p Named (started e (stub_leads stub)) s z.core

-- three commits come to the program's start
pub record PastStub
    (p : Program) (Named : Place → Type 0) (e : Image) (cuts : ℕ → List Interrupt) (s : PlainCore) (z : ZcState) : Type 0 where
  pub there : ZcCore
  pub runs : zc_turns cuts 3 z ≡ Ok (record z { core = there })
  pub alike : Alike p Named e (without_t0 s) there
  pub place : e.address p.entry ≡ Some there.pc

module _
    {p : Program} {Named : Place → Type 0} {e : Image} {cuts : ℕ → List Interrupt} {s : PlainCore} {z : ZcState}
    (room : Room p e) (from : OnStub p Named e cuts s z) where
  abbrev stub : StubLaid p e z.core.pc
  stub = from.stub

  abbrev elsewhere : Image
  elsewhere = started e (stub_leads stub)

  -- the state before `lui`, and after it
  abbrev first : AfterCuts p Named elsewhere (Upper Lui 5 (e.map.text / 2 ^ 12)) stub.upper.size s (cuts 0) z
  first = after_cuts (started_room (stub_leads stub) room) (cuts 0) (from.are 0) (record {
    size = stub.upper.size;
    here = started-fetched e (stub_leads stub) z.core.pc ∙ stub.upper.here;
    small = stub.upper.small;
  }) from.alike

  abbrev base : ℕ
  base = upper_result Lui first.now.pc (e.map.text / 2 ^ 12)

  abbrev with_base : ZcCore
  with_base = onward first.now stub.upper.size (set_reg first.now.regs 5 base)

  with_base_alike : Alike p Named elsewhere (without_t0 s) with_base
  with_base_alike =
      alike_forgets 5 base with_base.pc with_base.commits (inl (λ (is : 5 ≡ 2). omega (arith, is))) (omega arith) first.alike

  with_base_pc : with_base.pc ≡ z.core.pc + stub.upper.size
  with_base_pc = sym (below_top z.core.pc first.now.pc stub.upper.size first.pc stub.upper.small)

  -- the state before `csrrw`, and after it
  abbrev sets_at : OneAt elsewhere with_base.pc (Base (Csrrw 0 5))
  sets_at = record {
    size = stub.sets.size;
    here =
        started-fetched e (stub_leads stub) with_base.pc
        ∙ ap (fetched_at (loaded_core e)) with_base_pc ∙ stub.sets.here;
    small = omega (arith, stub.sets.small, with_base_pc);
  }

  abbrev second :
      AfterCuts p Named elsewhere (Csrrw 0 5) stub.sets.size (without_t0 s) (cuts 1) (record z { core = with_base })
  second = after_cuts (started_room (stub_leads stub) room) (cuts 1) (from.are 1) sets_at with_base_alike

  abbrev with_table : ZcCore
  with_table = record (onward second.now stub.sets.size second.now.regs) { jvt = reg_in second.now 5 / 64 * 64 }

  -- t0 and jvt hold the text's start
  table_is : reg_in second.now 5 / 64 * 64 ≡ e.map.text
  table_is =
      let long = first.alike.core.count in
      let held : reg_in second.now 5 ≡ base =
      ap (λ regs. reads 0 0 regs 5) second.regs
      ∙ reads-set_reg_same 0 0 first.now.regs 5 base (λ (none : 5 ≡ 0). omega (arith, none)) (omega (arith, long)) in
      let whole = stub.whole in
      let small = stub.small in
      omega (arith, held, whole, small)

  with_table_alike : Alike p Named e (without_t0 s) with_table
  with_table_alike =
      started_alike (stub_leads stub) with_table.pc with_table.jvt with_table.commits (λ _. table_is) second.alike

  with_table_pc : with_table.pc ≡ z.core.pc + stub.upper.size + stub.sets.size
  with_table_pc =
      sym (below_top with_base.pc second.now.pc stub.sets.size second.pc sets_at.small)
      ∙ ap (λ a. a + stub.sets.size) with_base_pc

  -- the state before `jal`, and after it
  abbrev goes_at : OneAt e with_table.pc (Base (Jal 0 stub.distance))
  goes_at = record {
    size = stub.goes.size;
    here = ap (fetched_at (loaded_core e)) with_table_pc ∙ stub.goes.here;
    small = omega (arith, stub.goes.small, with_table_pc);
  }

  abbrev third :
      AfterCuts p Named e (Jal 0 stub.distance) stub.goes.size (without_t0 s) (cuts 2) (record z { core = with_table })
  third = after_cuts room (cuts 2) (from.are 2) goes_at with_table_alike

  abbrev at_start : ZcCore
  at_start = record (onward third.now stub.goes.size third.now.regs) { pc = add32 third.now.pc stub.distance }

  pub stub_comes : PastStub p Named e cuts s z
  stub_comes =
      let z1 : ZcState = record z { core = with_base } in
      let z2 : ZcState = record z { core = with_table } in
      let z3 : ZcState = record z { core = at_start } in
      let two = zc_turns-more cuts 1 z z1 z2 (zc_turns-one cuts z z1 first.turn) second.turn in
      record {
        there = at_start;
        runs = zc_turns-more cuts 2 z z2 z3 two third.turn;
        alike = alike_moved at_start.pc at_start.commits third.alike;
        place = stub.leads ∙ ap (λ a. Some (add32 a stub.distance)) (sym (third.pc ∙ with_table_pc));
      }
