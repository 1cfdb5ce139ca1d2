use Rattle.std.proofs.Common.{◌≡◌, ◌∷◌, [], None, ap, ◌∙◌, subst, refl, set, arith}
use Rattle.rv_decode.specs.State.{Write}
use Rattle.sym_machine.specs.declared.held.Held.TheVariants as held
use Rattle.sym_machine.specs.Change.{Goes, sets}
use Rattle.sym_machine.specs.Events.{Numeric}
use Rattle.sym_machine.specs.Kept.{Working}
use Rattle.sym_machine.specs.Step.{Went, applied}
use Rattle.sym_machine.specs.Words.{number_word}
use Rattle.sym_machine.proofs.StateLaws.{core_of, working_set, writes_on}
use Rattle.sym_machine.proofs.state.State.write.Goals as goal

pub invariant_of-self : goal.invariant_of-self
invariant_of-self c =
    let i = c.self.inside in
    let is = c.self.invariant in
    working_set i.registers i.memory i.memory 10 (held.Number c.args.arguments.len) is is.kept refl refl (λ e. omega (arith, e)) (λ e. omega (arith, e))

pub returns : goal.returns
returns c =
    let i = c.self.inside in
    let running : i.exit ≡ None = ap (λ (w : Working). w.core.exit) c.self.view_is ∙ c.requires.running in
    let input = i.answers in
    let call = c.args.arguments in
    let event = Numeric (Write call.a0 c.args.bytes.items) in
    let after = core_of c.args.to (set i.registers 10 (held.Number call.len)) i.memory input i.exit in (
      c.requires.stream,
      (
        c.requires.running,
        running,
        subst (λ (w : Working). applied w.map w.core (Goes (record (sets 10 (number_word call.len) c.args.to) { events = event ∷ [] })) ≡ Went after (event ∷ [])) c.self.view_is
            (writes_on i.memory i.registers c.self.invariant i.place c.args.to input i.exit running call c.args.bytes.items),
      ),
    )
