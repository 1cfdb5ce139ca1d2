use Rattle.std.proofs.Common.{◌-◌, arith}
use Rattle.rv_decode.specs.Memory.{written}
use Rattle.sym_machine.specs.declared.word.SymByte.TheVariants.{Undef}
use Rattle.sym_machine.proofs.PageLaws.{made_seen, size_seen}
use Rattle.sym_machine.proofs.pages.Pages.clear.Goals as goal

pub clear-requires-clause-within : goal.clear-requires-clause-within
clear-requires-clause-within c =
    let i = c.self.inside in
    omega (arith, size_seen i.pool i.size c.args.self.now c.self.view_is, c.requires, c.self.invariant.covered)

pub returns-clause-each : goal.returns-clause-each
returns-clause-each c =
    let i = c.self.inside in
    made_seen (written c.args.from (c.args.to - c.args.from) (λ _. Undef)) i.pool c.clear.new.self i.size c.args.self.now c.self.view_is c.clear.ensures
