-- The bytes that a store writes are the low ones of the word.
use Rattle.std.proofs.Common.{◌≡◌, ◌∷◌, [], ap, sym, ◌∙◌, ap₂, refl, take, subst}
use Rattle.rv_decode.specs.declared.instr.StoreOp.{StoreOp}
use Rattle.rv_decode.specs.declared.instr.StoreOp.TheVariants.{Sb, Sh, Sw}
use Rattle.rv_decode.specs.Effect.{store_width}
use Rattle.sym_machine.specs.declared.word.SymWord.{SymWord}
use Rattle.sym_machine.specs.Answer.{StepAnswers, reached}
use Rattle.sym_machine.specs.Change.{Does, Goes, puts, accessing, stored_bytes}
use Rattle.sym_machine.specs.State.{reg_of}
use Rattle.sym_machine.specs.Step.{applied}
use Rattle.sym_machine.proofs.state.State.step_store.Goals as goal

low_bytes : (op : StoreOp) (w : SymWord) → take (store_width op) (w.b0 ∷ w.b1 ∷ w.b2 ∷ w.b3 ∷ []) ≡ stored_bytes op w
low_bytes Sb w = refl
low_bytes Sh w = refl
low_bytes Sw w = refl

pub returns-in-Ok : goal.returns-in-Ok
returns-in-Ok c =
    let s = c.args.self.now.core in
    let op = c.args.op in
    let word = reg_of s c.args.source in
    let a = c.in-Ok.a in
    let is = c.bytes-word.ensures ∙ c.register.ensures in
    let bytes = ap₂ (λ n (w : SymWord). take n (w.b0 ∷ w.b1 ∷ w.b2 ∷ w.b3 ∷ [])) c.store_width-in-Ok.ensures.width is ∙ low_bytes op word in
    let does = ap (λ n. accessing n c.args.address s (λ b. Goes (puts b (stored_bytes op word) c.args.next))) (sym c.store_width.ensures.width)
    ∙ c.reach.ensures (λ b. Goes (puts b (stored_bytes op word) c.args.next)) ∙ ap (λ r. reached r (λ b. Goes (puts b (stored_bytes op word) c.args.next))) c.in-Ok.is in
    subst (λ (d : Does). StepAnswers (applied c.args.self.now.map s d) c.put.result s c.put.new.self.core) (ap (λ l. Goes (puts a l c.args.next)) bytes ∙ sym does) c.put.ensures
