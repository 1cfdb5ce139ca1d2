use Rattle.std.proofs.Common.{◌∙◌}
use Rattle.psabi_reloc.specs.Parts.{hi20_of}
use Rattle.psabi_reloc.proofs.PutLaws.{upper_put}
use Rattle.psabi_reloc.proofs.put.put_hi20.Goals as goal

pub returns-clause-decodes : goal.returns-clause-decodes
returns-clause-decodes c = upper_put c.args.word c.with_upper_twenty.result (hi20_of c.args.x) c.with_upper_twenty.ensures.rest (c.with_upper_twenty.ensures.part ∙ c.hi20.ensures.value)
