use Rattle.std.proofs.Common.{ap, ◌∙◌}
use Rattle.sym_machine.specs.Words.{number_word}
use Rattle.sym_machine.proofs.WordLaws.{registers_reg}
use Rattle.sym_machine.proofs.state.State.quick_reg.Goals as goal

pub returns : goal.returns
returns c =
    let a = c.in_ok-plain in
    let b = c.in_ok-plain-2 in
    ap number_word c.of_words.ensures
    ∙ registers_reg c.args.self.now.core c.args.op c.args.first c.args.second a.field-0 b.field-0 a.ensures.below b.ensures.below a.ensures.is b.ensures.is
