use Rattle.std.proofs.Common.{◌≡◌, length, map, get_or, arith}
use Rattle.rv_decode.specs.Memory.{written}
use Rattle.sym_machine.specs.declared.word.SymByte.TheVariants.{Num, Undef}
use Rattle.sym_machine.proofs.PageLaws.{made_seen, size_seen}
use Rattle.sym_machine.proofs.pages.Pages.write_page_numbers.Goals as goal

pub write_numbers-requires-clause-within : goal.write_numbers-requires-clause-within
write_numbers-requires-clause-within c =
    let i = c.self.inside in
    let now = c.args.self.now in
    let size : i.size ≡ length now = size_seen i.pool i.size now c.self.view_is in
    omega (arith, size, c.requires, c.self.invariant.covered)

pub returns-clause-each : goal.returns-clause-each
returns-clause-each c =
    let i = c.self.inside in
    made_seen (written c.args.i (length (map Num c.args.numbers.now)) (λ k. get_or (map Num c.args.numbers.now) k Undef)) i.pool c.write_numbers.new.self i.size c.args.self.now c.self.view_is c.write_numbers.ensures
