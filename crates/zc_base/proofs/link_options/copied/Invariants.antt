use Rattle.std.proofs.Common.{◌≡◌, take}
use Rattle.zc_base.specs.Options.{listed_names}
use Rattle.zc_base.proofs.link_options.copied.Given as goal

abbrev pub invariant-loop-name : goal.invariant-loop-name
invariant-loop-name l = listed_names l.copies.items ≡ listed_names (take l.name-index l.names)
