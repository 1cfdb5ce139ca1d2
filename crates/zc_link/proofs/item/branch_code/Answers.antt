-- In neither two bytes nor four a branch is long.
use Rattle.std.proofs.Common.{rules, ◌≡◌, subst}
use Rattle.std.specs.Int.{w32}
use Rattle.std.proofs.lemmas.Int.{to_z-of_z}
use Rattle.zca_zcb_pass.specs.Forms.{IsLongForm}
use Rattle.zc_link.proofs.BranchBytes.{long_spelled, size_is}
use Rattle.zc_link.proofs.item.branch_code.Goals as goal

pub returns : goal.returns
returns c = λ op first second is.
    let same : _ ≡ c.args.distance = to_z-of_z w32 c.args.distance (record { sfits = c.ranges.distance.sfits }) in
    let words = c.long_branch.result in
    long_spelled op first second c.args.size c.args.distance words c.if-size-eq2.false c.if-size-eq4.false
    (size_is c.args.branch c.args.size c.args.distance op first second is c.requires)
    (subst (λ d. IsLongForm op first second d words) same (c.long_branch.ensures op first second c.args.distance is)) (search rules, search rules)
