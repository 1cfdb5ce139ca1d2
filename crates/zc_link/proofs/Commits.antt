-- A commit under interrupts: the state after the interrupts before it is alike with the program's, and the turn is what the
-- instruction at pc then does.
use Rattle.std.specs.Option.{option_map_or}
use Rattle.std.proofs.Common.{◌≡◌, ℕ, suc, List, Ok, refl, sym, ap, ◌∙◌, subst}
use Rattle.std.specs.Prelude.{All}
use Rattle.zc_base.specs.declared.place.Place.{Place}
use Rattle.interrupt_plan.specs.Plan.{Interrupt, IsInterrupt}
use Rattle.rv_decode.specs.declared.instr.Instr.{Instr}
use Rattle.rv_decode.specs.Effect.{effect}
use Rattle.rv_decode.specs.Run.{◌>>=◌}
use Rattle.rv_decode.specs.State.{ZcCore, ZcState}
use Rattle.sym_machine.specs.Program.{Program}
use Rattle.sym_machine.specs.State.{PlainCore}
use Rattle.zc_decode.specs.declared.short.Short.TheVariants.{Base}
use Rattle.zc_machine.specs.declared.reason.Reason.{Reason}
use Rattle.zc_machine.specs.Fetch.{Fetched, Missing, fetched_at}
use Rattle.zc_machine.specs.Interrupt.{all_interrupted, done_of}
use Rattle.zc_machine.specs.Run.{committed, zc_turn, zc_turns}
use Rattle.zc_machine.specs.Step.{Ended, effect_step, made, zc_step}
use Rattle.zc_machine.proofs.FetchLaws.{fetched_same}
use Rattle.zc_machine.proofs.TurnLaws.{zc_turn-running}
use Rattle.zc_link.specs.Image.{Image, loaded_core}
use Rattle.zc_link.specs.Invariants.Stretches.{OneAt}
use Rattle.zc_link.specs.Invariants.Room.{Room}
use Rattle.zc_link.specs.Sound.{Alike}
use Rattle.zc_link.proofs.Cuts.{Spoiled, all_cuts_kept, all_dirtied_spoiled, cut-quiet, done-none, spoiled_below, stack_within, unspoiled}
use Rattle.zc_link.proofs.OnStack.{free_end}

-- the state after the interrupts before the commit of what is fetched, and what the turn then is
pub record AfterCutsOf (p : Program) (Named : Place → Type 0) (e : Image) (f : Fetched) (s : PlainCore) (cuts : List Interrupt) (z : ZcState) : Type 0 where
  pub now : ZcCore
  pub alike : Alike p Named e s now
  pub pc : now.pc ≡ z.core.pc
  pub regs : now.regs ≡ z.core.regs
  pub turn : zc_turn cuts z ≡ committed (made f now) (record z { core = now })

-- whatever is fetched at pc, if it has no accesses
pub after_cuts_of :
    {p : Program} {Named : Place → Type 0} {e : Image} {s : PlainCore} {z : ZcState} {f : Fetched} → Room p e → (cuts : List Interrupt) → All IsInterrupt cuts
    → fetched_at (loaded_core e) z.core.pc ≡ f → ((done : List ℕ) (y : ZcCore) → done_of f done y ≡ y) → Alike p Named e s z.core → AfterCutsOf p Named e f s cuts z
unfolding zc_step
after_cuts_of {p} {Named} {e} {s} {z} {f} room cuts are here quiet al = record {
  now = all_interrupted cuts z.core;
  alike = alike;
  pc = pc;
  regs = ap (λ x. x.regs) spoiled.rest;
  turn = zc_turn-running cuts z al.going
      ∙ ap (λ o. committed (option_map_or Ended o (made (fetched_at (all_interrupted cuts z.core) (all_interrupted cuts z.core).pc) (all_interrupted cuts z.core))) (record z { core = all_interrupted cuts z.core })) alike.going
      ∙ ap (λ g. committed (made g (all_interrupted cuts z.core)) (record z { core = all_interrupted cuts z.core })) (fetched (all_interrupted cuts z.core) spoiled);
}
  where
    IsSpoiled : ZcCore → Type 0
    IsSpoiled y = Spoiled p.map.stack_low (free_end p.map z.core) z.core y

    -- the same still stands at pc
    fetched : (y : ZcCore) → IsSpoiled y → fetched_at y y.pc ≡ f
    fetched y k =
        let now : Alike p Named e s y = spoiled_below room k al in
        fetched_same (loaded_core e) y (record { extents = now.extents; text = now.text }) y.pc ∙ ap (λ x. fetched_at (loaded_core e) x.pc) k.rest ∙ here

    -- interrupts, one after another, only write
    spoiled : IsSpoiled (all_interrupted cuts z.core)
    spoiled = all_cuts_kept IsSpoiled
        (λ c y is k.
        subst IsSpoiled (sym (cut-quiet c y f quiet (fetched y k)))
        (all_dirtied_spoiled p.map.stack_low p.map.stack_high z.core (stack_within room z.core al.extents) c.dirt y is k))
        cuts z.core are (unspoiled p.map.stack_low (free_end p.map z.core) z.core al.core.bytes)

    alike : Alike p Named e s (all_interrupted cuts z.core)
    alike = spoiled_below room spoiled al

    pc : (all_interrupted cuts z.core).pc ≡ z.core.pc
    pc = ap (λ x. x.pc) spoiled.rest

-- the same of an instruction
pub record AfterCuts (p : Program) (Named : Place → Type 0) (e : Image) (i : Instr) (size : ℕ) (s : PlainCore) (cuts : List Interrupt) (z : ZcState) : Type 0 where
  pub now : ZcCore
  pub alike : Alike p Named e s now
  pub pc : now.pc ≡ z.core.pc
  pub regs : now.regs ≡ z.core.regs
  pub turn : zc_turn cuts z ≡ committed (effect_step (effect i size now) now) (record z { core = now })

pub after_cuts :
    {p : Program} {Named : Place → Type 0} {e : Image} {s : PlainCore} {z : ZcState} {i : Instr} → Room p e → (cuts : List Interrupt) → All IsInterrupt cuts → (at : OneAt e z.core.pc (Base i))
    → Alike p Named e s z.core → AfterCuts p Named e i at.size s cuts z
after_cuts {i = i} room cuts are at al =
    let after = after_cuts_of room cuts are at.here (λ done y. done-none (Base i) at.size (λ sp. refl) done y) al in
    record { now = after.now; alike = after.alike; pc = after.pc; regs = after.regs; turn = after.turn }

-- and of bytes that are no instruction
pub after_cuts_missing :
    {p : Program} {Named : Place → Type 0} {e : Image} {s : PlainCore} {z : ZcState} {reason : Reason} → Room p e → (cuts : List Interrupt) → All IsInterrupt cuts
    → fetched_at (loaded_core e) z.core.pc ≡ Missing reason → Alike p Named e s z.core → AfterCutsOf p Named e (Missing reason) s cuts z
after_cuts_missing room cuts are here al = after_cuts_of room cuts are here (λ done y. refl) al

-- a run of one turn
pub zc_turns-one : (cuts : ℕ → List Interrupt) (z z' : ZcState) → zc_turn (cuts 0) z ≡ Ok z' → zc_turns cuts 1 z ≡ Ok z'
zc_turns-one cuts z z' turn = ap (λ r. r >>= zc_turns (λ k. cuts (suc k)) 0) turn
