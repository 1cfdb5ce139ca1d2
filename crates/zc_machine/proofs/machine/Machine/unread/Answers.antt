use Rattle.std.proofs.Common.{◌≡◌, ℕ, cond, Option, Some, None, ap, sym, ◌∙◌}
use Rattle.std.specs.Option.{option_map_or}
use Rattle.rv_decode.specs.Formats.{rs1_of}
use Rattle.rv_decode.specs.Memory.{extents_of, is_text, lies_in}
use Rattle.rv_decode.specs.State.{ZcCore, reg_in, word_at}
use Rattle.rv_decode.specs.System.{system_operand}
use Rattle.rv_decode.specs.declared.device_access.DeviceAccess.TheVariants as access
use Rattle.zc_machine.specs.Answer.{answer_of}
use Rattle.zc_machine.specs.Step.{ZcStep, Asks, Stopped, unread}
use Rattle.zc_machine.specs.declared.reason.Reason.TheVariants.{Illegal}
use Rattle.zc_machine.specs.declared.answer.Step.TheVariants as answer
use Rattle.zc_machine.proofs.AccessLaws.{unread_by, unread_is}
use Rattle.zc_machine.proofs.machine.Machine.unread.Goals as goal

-- by the word that was found at pc, which is the state's
stands : (z : ZcCore) (pc : ℕ) (found : Option ℕ) → pc ≡ z.pc → found ≡ cond (lies_in is_text (extents_of z.memory) pc 4) (Some (word_at z pc)) None → unread z ≡ unread_by z found
stands z pc found same is =
    unread_is z
    ∙ ap (unread_by z) (sym (is ∙ ap (λ a. cond (lies_in is_text (extents_of z.memory) a 4) (Some (word_at z a)) None) same))

pub returns-in_err-word : goal.returns-in_err-word
returns-in_err-word c =
    ap (λ asked. option_map_or answer.Asks asked (answer.Stopped Illegal)) c.from_residual.ensures
    ∙ sym (ap answer_of (stands c.args.self.now c.self.inside.pc None (ap (λ (z : ZcCore). z.pc) c.self.view_is) (sym c.in_err-word.was ∙ c.code_word.ensures)))

pub returns-then-not-is_system : goal.returns-then-not-is_system
returns-then-not-is_system c =
    let z = c.args.self.now in
    let word = c.in_ok-word.word in
    let asks : ZcStep = Asks (access.System word (system_operand word (reg_in z (rs1_of word)))) in
    sym (ap answer_of (stands z c.self.inside.pc (Some word) (ap (λ (y : ZcCore). y.pc) c.self.view_is) (sym c.in_ok-word.was ∙ c.code_word.ensures))
    ∙ ap (λ b. answer_of (cond b asks (Stopped Illegal))) (sym c.is_system.ensures ∙ c.if-not-is_system.true))

pub returns : goal.returns
returns c =
    let z = c.args.self.now in
    let word = c.in_ok-word.word in
    let asks : ZcStep = Asks (access.System word (system_operand word (reg_in z (rs1_of word)))) in
    ap (λ operand. answer.Asks (access.System word operand)) c.system_operand.ensures
    ∙ sym (ap answer_of (stands z c.self.inside.pc (Some word) (ap (λ (y : ZcCore). y.pc) c.self.view_is) (sym c.in_ok-word.was ∙ c.code_word.ensures))
    ∙ ap (λ b. answer_of (cond b asks (Stopped Illegal))) (sym c.is_system.ensures ∙ c.if-not-is_system.false))
