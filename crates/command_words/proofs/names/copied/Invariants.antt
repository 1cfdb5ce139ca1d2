use Rattle.std.proofs.Common.{◌≡◌, map, take}
use Rattle.zc_base.specs.Options.{listed_names}
use Rattle.command_words.proofs.names.copied.Given as goal

-- the copies so far
abbrev pub invariant-loop-name : goal.invariant-loop-name
invariant-loop-name l = listed_names l.copies.items ≡ map (λ name. name.now) (take l.name-index l.names)
