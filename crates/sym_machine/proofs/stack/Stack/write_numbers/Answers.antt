use Rattle.std.proofs.Common.{ℕ, length, map, ap, sym, subst, arith}
use Rattle.std.proofs.lemmas.List.{length-map}
use Rattle.sym_machine.specs.declared.word.SymByte.TheVariants.{Num}
use Rattle.sym_machine.specs.Stack.{AreOpened, Strips}
use Rattle.sym_machine.proofs.StackLaws.{length-stack, length-stored, stored}
use Rattle.sym_machine.proofs.stack.Stack.write_numbers.Goals as goal

pub open-requires : goal.open-requires
open-requires c = omega (arith, c.requires, length-stack c.args.self.now)

pub write_numbers-requires : goal.write_numbers-requires
write_numbers-requires c = omega (arith, c.requires, length-stack c.args.self.now, c.open.ensures.size, ap (λ (s : Strips). length s.cells) c.self.view_is)

pub returns-clause-len : goal.returns-clause-len
returns-clause-len c =
    let t : Strips = record { cells = c.self.inside.cells; live = c.self.inside.live.items; mark = c.self.inside.mark } in
    length-stored c.args.i (map Num c.args.numbers.now) c.args.self.now t c.write_numbers.new.self
    (subst (λ (n : ℕ). AreOpened c.args.i n c.args.self.now t) (sym (length-map c.args.numbers.now Num))
    (subst (AreOpened c.args.i (length c.args.numbers.now) c.args.self.now) (sym c.self.view_is) c.open.ensures))
    c.write_numbers.ensures.len c.write_numbers.ensures.each

pub returns-clause-each : goal.returns-clause-each
returns-clause-each c =
    let t : Strips = record { cells = c.self.inside.cells; live = c.self.inside.live.items; mark = c.self.inside.mark } in
    stored c.args.i (map Num c.args.numbers.now) c.args.self.now t c.write_numbers.new.self
    (subst (λ (n : ℕ). AreOpened c.args.i n c.args.self.now t) (sym (length-map c.args.numbers.now Num))
    (subst (AreOpened c.args.i (length c.args.numbers.now) c.args.self.now) (sym c.self.view_is) c.open.ensures))
    c.write_numbers.ensures.len c.write_numbers.ensures.each
