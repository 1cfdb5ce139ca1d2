-- Each group counts by its kind (`kinds_next`), and at the end all are counted.
use Rattle.std.proofs.Common.{◌≡◌, ℕ, ◌+◌, Bool, cond, take, arith}
use Rattle.psabi_sym.specs.Inputs.{parsed}
use Rattle.zc_decode.specs.declared.short.Short.{Short}
use Rattle.frame_match.specs.Groups.{groups_of}
use Rattle.shrink_layout.specs.Settled.{is_move, is_pop}
use Rattle.shrink_layout.specs.Units.{is_push}
use Rattle.shrink_layout.proofs.GroupCounts.{kinds_in, kinds_next}
use Rattle.shrink_layout.proofs.group_counts.count_groups.Goals as goal

pub loop-i-preserved : goal.loop-i-preserved
loop-i-preserved c =
    let groups = groups_of (parsed c.args.planned.now) in
    let k = c.loop-i.i in
    let g = c.group.result in
    let now = c.loop-i.invariant in
    let one = c.counts_of-one.ensures in
    let next : (test : Short → Bool) → kinds_in test (take (k + 1) groups) ≡ kinds_in test (take k groups) + cond {A = ℕ} (test g.kind) 1 0 =
    λ test. kinds_next test groups k g c.group.ensures in
    record {
      pushes = omega (arith, now.pushes, one.pushes, next is_push);
      pops = omega (arith, now.pops, one.pops, next is_pop);
      moves = omega (arith, now.moves, one.moves, next is_move);
      few_pushes = omega (arith, now.few_pushes, one.most);
      few_pops = omega (arith, now.few_pops, one.most_pops);
      few_moves = omega (arith, now.few_moves, one.most_moves);
    }
