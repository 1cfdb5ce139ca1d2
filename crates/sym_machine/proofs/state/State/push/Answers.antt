-- The step is stuck as sp is lowered or at a store; or all stores come behind sp.
use Rattle.std.proofs.Common.{◌≡◌, ℕ, ◌+◌, ◌-◌, ◌%◌, ◌^◌, ◌≤◌, negsuc, List, [], ◌∷◌, length, Bool, leb, refl, ap, sym, ◌∙◌, subst, arith}
use Rattle.std.proofs.lemmas.Bool.{and_parts, leb-true}
use Rattle.std.specs.Bool.{OnTrue}
use Rattle.zc_base.specs.declared.mem_map.MemMap.{MemMap}
use Rattle.rv_decode.specs.Bits.{add32}
use Rattle.rv_decode.specs.declared.instr.ImmOp.TheVariants.{Addi}
use Rattle.rv_decode.specs.declared.instr.Instr.TheVariants.{WithImm}
use Rattle.sym_machine.specs.Answer.{RunsOn}
use Rattle.sym_machine.specs.Change.{Goes, sets}
use Rattle.sym_machine.specs.Expansions.{saves}
use Rattle.sym_machine.specs.Invariants.Frames.{IsObstacle}
use Rattle.sym_machine.specs.Step.{Went, applied, in_stack, in_turn}
use Rattle.sym_machine.specs.Words.{number_word}
use Rattle.sym_machine.proofs.FrameLaws.{reached_same}
use Rattle.sym_machine.proofs.PushPopLaws.{is_listed, lowered_is, push_goes, push_outside, push_stuck}
use Rattle.sym_machine.proofs.StepLaws.{extents-made}
use Rattle.zc_decode.proofs.OperandLaws.{frame_range}
use Rattle.sym_machine.proofs.state.State.push.Goals as goal

-- where sp is lowered to, for a frame of `frame` bytes
lowers : (sp frame adjust : ℕ) → frame ≡ adjust → 16 ≤ adjust → adjust ≤ 112 → (sp + (2 ^ 32 - frame)) % 2 ^ 32 ≡ add32 sp (negsuc (frame - 1))
lowers sp frame adjust is least most = lowered_is sp frame (omega (arith, is, least)) (omega (arith, is, most))

pub returns-then-not-has_sp : goal.returns-then-not-has_sp
returns-then-not-has_sp c =
    let first = c.args.self.now in
    let s = first.core in
    let sp = c.sp-sp.result in
    let frame : ℕ = c.from-frame.result in
    let rs : List ℕ = c.registers-registers.result.now in
    let range = frame_range c.args.list c.args.adjust c.requires.size in
    let low = lowers sp frame c.args.adjust c.from-frame.ensures range.least range.most in
    let out = ap (in_stack first.map) (sym low) ∙ sym c.has_sp.ensures ∙ c.if-not-has_sp.true in (
      c.requires.running,
      refl,
      (λ j. in_turn first.map (WithImm Addi 2 2 (negsuc (sym c.from-frame.ensures j - 1)) ∷ saves (sym c.from-frame.ensures j) (sym c.registers-registers.ensures.value j)) c.args.next s)
          ∙ push_outside first.map s sp frame c.sp-sp.ensures rs c.args.next out,
    )

pub obstacle-requires-clause-low : goal.obstacle-requires-clause-low
obstacle-requires-clause-low c =
    let map = c.args.self.now.map in
    let low : ℕ = (c.sp-sp.result + (2 ^ 32 - c.from-frame.result)) % 2 ^ 32 in
    leb-true map.stack_low low (and_parts (leb map.stack_low low) (leb low map.stack_high) (sym c.has_sp.ensures ∙ c.if-not-has_sp.false)).0

pub obstacle-requires-clause-high : goal.obstacle-requires-clause-high
obstacle-requires-clause-high c =
    let map = c.args.self.now.map in
    let low : ℕ = (c.sp-sp.result + (2 ^ 32 - c.from-frame.result)) % 2 ^ 32 in
    leb-true low map.stack_high (and_parts (leb map.stack_low low) (leb low map.stack_high) (sym c.has_sp.ensures ∙ c.if-not-has_sp.false)).1

pub obstacle-requires-clause-frame : goal.obstacle-requires-clause-frame
obstacle-requires-clause-frame c =
    (is_listed c.args.list c.args.adjust c.from-frame.result c.registers-registers.result.now c.requires.size c.from-frame.ensures c.registers-registers.ensures.value).size

pub returns-in-Some : goal.returns-in-Some
returns-in-Some c =
    let first = c.args.self.now in
    let s = first.core in
    let sp = c.sp-sp.result in
    let frame : ℕ = c.from-frame.result in
    let rs : List ℕ = c.registers-registers.result.now in
    let range = frame_range c.args.list c.args.adjust c.requires.size in
    let low = lowers sp frame c.args.adjust c.from-frame.ensures range.least range.most in
    let of = is_listed c.args.list c.args.adjust frame rs c.requires.size c.from-frame.ensures c.registers-registers.ensures.value in
    let inside = ap (in_stack first.map) (sym low) ∙ sym c.has_sp.ensures ∙ c.if-not-has_sp.false in
    let why = c.in-Some.why in
    let is = subst (λ (n : ℕ). IsObstacle s n frame why) low c.in-Some.ensures in (
      c.requires.running,
      refl,
      (λ j. in_turn first.map (WithImm Addi 2 2 (negsuc (sym c.from-frame.ensures j - 1)) ∷ saves (sym c.from-frame.ensures j) (sym c.registers-registers.ensures.value j)) c.args.next s)
          ∙ push_stuck first.map s sp frame c.sp-sp.ensures rs c.args.next why inside of.some is,
    )

pub save_all-requires-clause-known : goal.save_all-requires-clause-known
save_all-requires-clause-known c =
    (is_listed c.args.list c.args.adjust c.from-frame.result c.registers-registers.result.now c.requires.size c.from-frame.ensures c.registers-registers.ensures.value).known

pub save_all-requires-clause-reached : goal.save_all-requires-clause-reached
save_all-requires-clause-reached c =
    let first = c.args.self.now in
    let rs : List ℕ = c.registers-registers.result.now in
    let s = first.core in
    let s1 = c.move_sp-lowered.new.self.core in
    let low : ℕ = (c.sp-sp.result + (2 ^ 32 - c.from-frame.result)) % 2 ^ 32 in
    let could = c.move_sp-lowered.ensures.could ∙ sym c.has_sp.ensures ∙ c.if-not-has_sp.false in
    let made = subst (λ (b : Bool). OnTrue b (RunsOn (applied first.map s (Goes (sets 2 (number_word low) c.args.next))) [] s s1)) could c.move_sp-lowered.ensures.made in
    reached_same s s1 low c.from-frame.result (length rs) (extents-made first.map s s1 (Goes (sets 2 (number_word low) c.args.next)) [] made.2)
    (c.in_default.ensures.reached (length rs) (is_listed c.args.list c.args.adjust c.from-frame.result rs c.requires.size c.from-frame.ensures c.registers-registers.ensures.value).room)

pub returns : goal.returns
returns c =
    let first = c.args.self.now in
    let s = first.core in
    let s1 = c.move_sp-lowered.new.self.core in
    let sp = c.sp-sp.result in
    let frame : ℕ = c.from-frame.result in
    let rs : List ℕ = c.registers-registers.result.now in
    let range = frame_range c.args.list c.args.adjust c.requires.size in
    let low = lowers sp frame c.args.adjust c.from-frame.ensures range.least range.most in
    let n : ℕ = (sp + (2 ^ 32 - frame)) % 2 ^ 32 in
    let could = c.move_sp-lowered.ensures.could ∙ sym c.has_sp.ensures ∙ c.if-not-has_sp.false in
    let made = subst (λ (b : Bool). OnTrue b (RunsOn (applied first.map s (Goes (sets 2 (number_word n) c.args.next))) [] s s1)) could c.move_sp-lowered.ensures.made in
    let s2 = c.save_all.new.self.core in
    let lowered : applied first.map s (Goes (sets 2 (number_word (add32 sp (negsuc (frame - 1)))) c.args.next)) ≡ Went s1 [] =
    (λ j. applied first.map s (Goes (sets 2 (number_word (sym low j)) c.args.next))) ∙ made.2 in
    let saved : in_turn first.map (saves frame rs) c.args.next s1 ≡ Went s2 [] =
    ap (λ (m : MemMap). in_turn m (saves frame rs) c.args.next s1) (sym c.move_sp-lowered.ensures.map) ∙ c.save_all.ensures.2 in (
      c.requires.running,
      c.save_all.ensures.1,
      (λ j. in_turn first.map (WithImm Addi 2 2 (negsuc (sym c.from-frame.ensures j - 1)) ∷ saves (sym c.from-frame.ensures j) (sym c.registers-registers.ensures.value j)) c.args.next s)
          ∙ push_goes first.map s sp frame c.sp-sp.ensures rs c.args.next s1 s2 lowered saved,
    )
