use Rattle.std.proofs.Common.{length, map, sym, ap, ◌∙◌, subst, arith}
use Rattle.shrink_layout.specs.Forms.{shortest}
use Rattle.shrink_layout.specs.Layout.{addresses_of, widths_of}
use Rattle.shrink_layout.specs.Invariants.Widths.{AreStarts}
use Rattle.shrink_layout.proofs.LaidLaws.{shortest_laid, starts_text}
use Rattle.shrink_layout.proofs.rounds.Rounds.new.Goals as goal

pub invariant_of-result : goal.invariant_of-result
invariant_of-result c =
    let text = c.args.text in
    let pieces = c.args.pieces.now in
    let first = c.in_ok-first.ensures in
    let made = c.in_ok-widths.ensures in
    let blocks = c.in_ok-blocks.ensures in
    let multiples = c.in_ok-find_multiples.ensures in
    let starts = subst (AreStarts (addresses_of text pieces (map shortest pieces)) (length pieces)) (sym made.starts) first.starts in
    shortest_laid text pieces c.in_ok-first.first.sizes.items c.in_ok-widths.widths c.in_ok-blocks.blocks c.requires first.sizes
    (made.sums ∙ first.sums ∙ ap (widths_of text pieces) (sym first.sizes))
    (subst (λ s. AreStarts (addresses_of text pieces s) (length pieces) c.in_ok-widths.widths.starts.items) (sym first.sizes) starts)
    made.counted (λ k le. made.changed k (omega (arith, le, ap length made.sums))) (blocks.blocks pieces multiples.blocks multiples.moved) blocks.lows blocks.highs

pub returns : goal.returns
returns c =
    let text = c.args.text in
    let pieces = c.args.pieces.now in
    let made = c.in_ok-widths.ensures in
    let first = c.in_ok-first.ensures in
    let starts = subst (AreStarts (addresses_of text pieces (map shortest pieces)) (length pieces)) (sym made.starts) first.starts in
    let begins = starts_text text pieces (map shortest pieces) c.in_ok-widths.widths starts in
    λ i. record { text = begins i; pieces = pieces; sizes = first.sizes i }
