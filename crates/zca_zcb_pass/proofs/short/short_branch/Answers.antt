use Rattle.std.proofs.Common.{◌≡◌, ap, ◌∙◌}
use Rattle.std.specs.Int.{w32}
use Rattle.std.proofs.lemmas.Int.{to_z-of_z}
use Rattle.zc_decode.specs.declared.short.Short.TheVariants.{Base}
use Rattle.zc_encode.specs.Halves.{encoded16}
use Rattle.psabi_reloc.specs.Patched.{with_distance}
use Rattle.zca_zcb_pass.proofs.ReachLaws.{branch_reaches}
use Rattle.zca_zcb_pass.proofs.short.short_branch.Goals as goal

pub returns-clause-reach : goal.returns-clause-reach
returns-clause-reach c =
    let same : _ ≡ c.args.distance = to_z-of_z w32 c.args.distance (record { sfits = c.ranges.distance.sfits }) in
    branch_reaches c.args.i c.args.distance c.short_of.result (c.short_of.ensures.fields ∙ ap (λ j. encoded16 (Base j)) (c.with_distance.ensures ∙ ap (with_distance c.args.i) same))
