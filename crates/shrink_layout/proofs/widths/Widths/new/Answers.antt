use Rattle.std.proofs.Common.{ℕ, ◌+◌, ◌*◌, ◌/◌, length, arith}
use Rattle.shrink_layout.specs.Invariants.Blocks.{block_size}
use Rattle.shrink_layout.proofs.widths.Widths.new.Goals as goal

pub returns-clause-counted : goal.returns-clause-counted
returns-clause-counted c =
    let changes = c.in_ok-changes.ensures in
    let within = c.in_ok-within.ensures in
    let count = c.count-pieces.ensures in
    let all : ℕ = length c.args.sums in
    record {
      changes_count = omega (arith, changes.count, count);
      within_count = omega (arith, within.count, count);
      none = omega (arith, changes.each 0 (omega arith));
      start = λ b le. omega (arith, within.each (b * block_size) (omega (arith, le, count)));
      rise = λ k lt.
          let here = changes.each (k / block_size) (omega (arith, lt, count)) in
          let next = changes.each ((k + 1) / block_size) (omega (arith, lt, count)) in
          let here_within = within.each k (omega (arith, lt, count)) in
          let next_within = within.each (k + 1) (omega (arith, lt, count)) in
          (omega (arith, here, next, here_within, next_within), omega (arith, here, next, here_within, next_within));
      total = omega (
        arith,
        changes.each (all / block_size) (omega (arith, count)),
        changes.each (all / block_size + 1) (omega (arith, count)),
        within.each all (omega (arith, count)),
      );
    }
