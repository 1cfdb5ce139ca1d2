use Rattle.std.proofs.Common.{rules, ◌≡◌, ◌∙◌}
use Rattle.rv_decode.specs.Normal.{normal_of}
use Rattle.rv_decode.proofs.NormalLaws.{same_effect}
use Rattle.rv_decode.proofs.normal.normal.Goals as goal

pub returns-in-Branch-clause-same : goal.returns-in-Branch-clause-same
returns-in-Branch-clause-same c = λ j same.
    let form : c.branch-op.result ≡ normal_of c.args.i = search rules in
    same_effect j c.args.i (same ∙ form)
