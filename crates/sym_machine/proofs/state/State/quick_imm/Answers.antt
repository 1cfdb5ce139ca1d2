use Rattle.std.proofs.Common.{ap, sym, ◌∙◌, w32}
use Rattle.std.proofs.lemmas.Int.{to_z-of_z}
use Rattle.rv_decode.specs.Results.{imm_result}
use Rattle.sym_machine.specs.Words.{imm_word, number_word}
use Rattle.sym_machine.proofs.WordLaws.{number_imm}
use Rattle.sym_machine.proofs.state.State.quick_imm.Goals as goal

pub returns : goal.returns
returns c =
    let held = c.in_ok-plain in
    ap number_word (c.of_imm.ensures ∙ ap (imm_result c.args.op held.field-0) (to_z-of_z w32 c.args.imm c.ranges.imm))
    ∙ sym (number_imm c.args.op held.field-0 c.args.imm held.ensures.below) ∙ ap (λ w. imm_word c.args.op w c.args.imm) (sym held.ensures.is)
