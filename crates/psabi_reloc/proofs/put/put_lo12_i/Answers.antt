use Rattle.std.proofs.Common.{ap, ◌∙◌}
use Rattle.psabi_reloc.specs.Parts.{lo12_of}
use Rattle.psabi_reloc.proofs.PutLaws.{sum_put}
use Rattle.rv_decode.specs.Bits.{signed}
use Rattle.psabi_reloc.proofs.put.put_lo12_i.Goals as goal

pub returns-clause-decodes : goal.returns-clause-decodes
returns-clause-decodes c =
    sum_put c.args.word c.with_upper_twelve.result (lo12_of c.args.x) c.with_upper_twelve.ensures.rest
    (ap (signed 12) (c.with_upper_twelve.ensures.part ∙ c.field_at.ensures.value))
