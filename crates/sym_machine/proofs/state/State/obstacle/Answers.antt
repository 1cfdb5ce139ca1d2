-- A frame at an address that is no multiple of 4 is misaligned; else it lies in the stack as a whole, or its highest word lies nowhere.
use Rattle.std.proofs.Common.{◌≡◌, ℕ, ◌≤◌, pos, Bool, true, false, refl, sym, ◌∙◌, subst}
use Rattle.std.specs.Prelude.{◌&&◌, nat_le}
use Rattle.rv_decode.specs.Bits.{add32}
use Rattle.sym_machine.specs.Invariants.Frames.{IsInStack, IsObstacle}
use Rattle.sym_machine.specs.Kept.{Working}
use Rattle.sym_machine.specs.declared.why.Why.TheVariants.{BadAddress}
use Rattle.sym_machine.proofs.FrameLaws.{frame_inside, frame_misaligned, frame_outside}
use Rattle.sym_machine.proofs.StateLaws.{core_of}
use Rattle.sym_machine.proofs.state.State.obstacle.Goals as goal

-- a frame that begins in a state's stack, and whether it ends there
record Begins (sp top : ℕ) (ends : Bool) (w : Working) : Type 0 where
  low : w.map.stack_low ≤ sp
  high : sp ≤ w.map.stack_high
  end : (nat_le w.map.stack_low (add32 sp (pos top)) && nat_le (add32 sp (pos top)) w.map.stack_high) ≡ ends

pub returns-then-sp-ne0 : goal.returns-then-sp-ne0
returns-then-sp-ne0 c = frame_misaligned c.args.self.now.core c.args.sp c.args.frame c.requires.frame c.if-sp-ne0.true

pub returns-then-not-has_sp : goal.returns-then-not-has_sp
returns-then-not-has_sp c =
    let i = c.self.inside in
    let s = core_of i.place i.registers i.memory i.answers i.exit in
    let begins : Begins c.args.sp c.args.frame false c.args.self.now = record { low = c.requires.low; high = c.requires.high; end = sym c.has_sp.ensures ∙ c.if-not-has_sp.true } in
    let b = subst (Begins c.args.sp c.args.frame false) (sym c.self.view_is) begins in
    subst (λ (w : Working). IsObstacle w.core c.args.sp c.args.frame BadAddress) c.self.view_is
    (frame_outside i.memory c.self.invariant.kept s refl c.args.sp c.args.frame b.low b.high c.requires.frame b.end c.if-sp-ne0.false)

pub returns : goal.returns
returns c =
    let i = c.self.inside in
    let s = core_of i.place i.registers i.memory i.answers i.exit in
    let begins : Begins c.args.sp c.args.frame true c.args.self.now = record { low = c.requires.low; high = c.requires.high; end = sym c.has_sp.ensures ∙ c.if-not-has_sp.false } in
    let b = subst (Begins c.args.sp c.args.frame true) (sym c.self.view_is) begins in
    subst (λ (w : Working). IsInStack w.map w.core c.args.sp c.args.frame) c.self.view_is
    (frame_inside i.memory c.self.invariant.kept s refl c.args.sp c.args.frame b.low b.high c.requires.frame b.end c.if-sp-ne0.false)
