use Rattle.std.proofs.Common.{◌≡◌, arith}
use Rattle.std.proofs.lemmas.Grind.{common_steps}
use Rattle.psabi_reloc.proofs.PutLaws.{branch_put}
use Rattle.rv_decode.specs.Formats.{imm_b_of}
use Rattle.psabi_reloc.proofs.put.put_branch.Goals as goal

pub returns-clause-decodes : goal.returns-clause-decodes
returns-clause-decodes c =
    let w = c.with_seven_and_five in
    let part : imm_b_of w.result ≡ c.args.distance = grind (arith, common_steps) in
    branch_put c.args.word w.result c.args.distance w.ensures.opcode w.ensures.middle part
