use Rattle.std.proofs.Common.{◌≡◌, take}
use Rattle.std.specs.List.{flat_map}
use Rattle.load_maker.proofs.objects.all_statements.Given as goal

abbrev pub invariant-loop-body : goal.invariant-loop-body
invariant-loop-body l = l.statements.items ≡ flat_map (λ body. body) (take l.body-index l.bodies)
