-- There is a first halfword, and it is that of the group.
use Rattle.std.proofs.Common.{subst, sym, ◌∙◌}
use Rattle.zc_encode.specs.Encoding.{IsEncoding}
use Rattle.zc_link.proofs.GroupBytes.{half_spells}
use Rattle.zc_link.proofs.group.half_of.Goals as goal

pub returns : goal.returns
returns c =
    half_spells c.args.kind c.unwrap.result c.requires (sym c.encode16.ensures.fields ∙ c.unwrap.ensures)
    (subst (IsEncoding c.args.kind) c.unwrap.ensures c.encode16.ensures.first)
