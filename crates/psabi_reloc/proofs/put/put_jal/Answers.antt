use Rattle.std.proofs.Common.{◌≡◌, arith}
use Rattle.std.proofs.lemmas.Grind.{common_steps}
use Rattle.psabi_reloc.proofs.PutLaws.{jal_put}
use Rattle.rv_decode.specs.Formats.{imm_j_of}
use Rattle.psabi_reloc.proofs.put.put_jal.Goals as goal

pub returns-clause-decodes : goal.returns-clause-decodes
returns-clause-decodes c =
    let w = c.with_upper_twenty in
    let part : imm_j_of w.result ≡ c.args.distance = grind (arith, common_steps) in
    jal_put c.args.word w.result c.args.distance w.ensures.rest part
