use Rattle.std.proofs.Common.{sym, arith}
use Rattle.std.proofs.lemmas.List.{nil_from_length}
use Rattle.pick_check.proofs.ReadLaws.{bad_end, bad_net, bad_prices, more_behind, nothing_behind}
use Rattle.pick_check.proofs.read_certificate.read_last.Goals as goal

pub returns-in_default : goal.returns-in_default
returns-in_default c = sym (bad_prices c.args.number c.args.text.now (sym c.in_default.ensures.read))

pub returns-in_default-first_net : goal.returns-in_default-first_net
returns-in_default-first_net c =
    sym (bad_net c.args.number c.args.text.now c.in-Some.priced.0 c.in-Some.priced.1.now (sym c.in-Some.ensures.read) c.in-Some.ensures.rest (sym c.in_default-first_net.ensures.read))

pub returns-in_default-behind_line : goal.returns-in_default-behind_line
returns-in_default-behind_line c =
    sym (bad_end c.args.number c.args.text.now c.in-Some.priced.0 c.in-Some.priced.1.now (sym c.in-Some.ensures.read) c.in-Some.ensures.rest c.in-Some-first_net.net c.in-Some-first_net.end.now (sym c.in-Some-first_net.ensures.read) c.in-Some-first_net.ensures.rest (sym c.in_default-behind_line.ensures.read))

pub returns-then-rest-gt0 : goal.returns-then-rest-gt0
returns-then-rest-gt0 c =
    sym (more_behind c.args.number c.args.text.now c.in-Some.priced.0 c.in-Some.priced.1.now (sym c.in-Some.ensures.read) c.in-Some.ensures.rest c.in-Some-first_net.net c.in-Some-first_net.end.now (sym c.in-Some-first_net.ensures.read) c.in-Some-first_net.ensures.rest c.in-Some-behind_line.rest.now (sym c.in-Some-behind_line.ensures.read) c.in-Some-behind_line.ensures.rest (omega arith))

pub returns : goal.returns
returns c =
    sym (nothing_behind c.args.number c.args.text.now c.in-Some.priced.0 c.in-Some.priced.1.now (sym c.in-Some.ensures.read) c.in-Some.ensures.rest c.in-Some-first_net.net c.in-Some-first_net.end.now (sym c.in-Some-first_net.ensures.read) c.in-Some-first_net.ensures.rest c.in-Some-behind_line.rest.now (sym c.in-Some-behind_line.ensures.read) c.in-Some-behind_line.ensures.rest (nil_from_length c.in-Some-behind_line.rest.now (omega arith)))
