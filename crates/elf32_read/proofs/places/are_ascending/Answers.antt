use Rattle.std.proofs.Common.{◌+◌, ◌-◌, ◌/◌, length, map, sym, ap, ◌∙◌, arith}
use Rattle.std.specs.Prelude.{◌&&◌}
use Rattle.std.specs.List.{range_with_len}
use Rattle.zc_base.specs.Places.{is_before}
use Rattle.elf32_read.specs.Places.{place_entry_at, is_ascending}
use Rattle.elf32_read.proofs.Ascending.{is_ascending_step}
use Rattle.elf32_read.proofs.places.are_ascending.Goals as goal

-- the current entry doesn't come before the next
pub returns-then-not-is_before : goal.returns-then-not-is_before
returns-then-not-is_before c =
    let f = place_entry_at c.args.entries.now in
    let i = c.loop-i.i in
    let n = length c.args.entries.now / 12 in
    let rest = is_ascending (map f (range_with_len (i + 1) (n - (i + 1)))) in
    let before = c.is_before.ensures ∙ (λ j. is_before (c.entry.ensures j).0 (c.entry-in-loop-i.ensures j).0) in
    sym (c.loop-i.invariant ∙ is_ascending_step f i n (omega arith) ∙ ap (λ t. t && rest) (sym before ∙ c.if-not-is_before.true))

-- the places up to the next one ascend
pub loop-i-preserved : goal.loop-i-preserved
loop-i-preserved c =
    let f = place_entry_at c.args.entries.now in
    let i = c.loop-i.i in
    let n = length c.args.entries.now / 12 in
    let rest = is_ascending (map f (range_with_len (i + 1) (n - (i + 1)))) in
    let before = c.is_before.ensures ∙ (λ j. is_before (c.entry.ensures j).0 (c.entry-in-loop-i.ensures j).0) in
    c.loop-i.invariant ∙ is_ascending_step f i n (omega arith) ∙ ap (λ t. t && rest) (sym before ∙ c.if-not-is_before.false)
