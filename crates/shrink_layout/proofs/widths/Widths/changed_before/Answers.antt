use Rattle.std.proofs.Common.{◌/◌, arith}
use Rattle.shrink_layout.specs.Invariants.Blocks.{block_size}
use Rattle.shrink_layout.proofs.ChangeLaws.{count_most, index_is}
use Rattle.shrink_layout.proofs.widths.Widths.changed_before.Goals as goal

pub overflow_add-result : goal.overflow_add-result
overflow_add-result c =
    let w = c.args.self.now in
    let k = c.args.k in
    let counted = c.requires.counted in
    let changes = index_is w.changes.items (k / block_size) _ c.index.result.now (omega (arith, counted.changes_count, c.requires.within)) c.index.ensures in
    let within = index_is w.within.items k _ c.index-2.result.now (omega (arith, counted.within_count, c.requires.within)) c.index-2.ensures in
    omega (arith, changes, within, c.from.ensures, count_most w counted k c.requires.within)
