use Rattle.std.proofs.Common.{ℕ, ◌<◌, List, length, sym, ap, ◌∙◌, subst, subst₂}
use Rattle.shrink_layout.specs.Layout.{addresses_of, sizes_of, widths_of}
use Rattle.shrink_layout.specs.Invariants.Rounds.{LaidPieces}
use Rattle.shrink_layout.specs.Invariants.Widths.{AreStarts}
use Rattle.shrink_layout.proofs.RoundLaws.{slack_of}
use Rattle.shrink_layout.proofs.SizesLaws.{AreOfRound, next_fits, next_less, next_of_round, shortest_of_round, sizes_layout, sizes_least}
use Rattle.shrink_layout.proofs.rounds.settle_pieces.Goals as goal

pub loop-rounds-init : goal.loop-rounds-init
loop-rounds-init c =
    let is = c.in_ok-rounds.ensures in
    record {
      text_same = ap (λ r. r.text) is;
      pieces_same = ap (λ r. r.pieces) is;
      round = subst AreOfRound (sym is) (shortest_of_round c.args.text c.args.pieces.now);
    }

pub loop-rounds-smaller : goal.loop-rounds-smaller
loop-rounds-smaller c =
    let now = c.loop-rounds.rounds in
    subst (λ (r : LaidPieces). slack_of r.pieces r.sizes < slack_of now.pieces now.sizes) (sym c.next.ensures.next)
    (next_less now c.loop-rounds.invariant.round (sym c.next.ensures.fitted ∙ c.if-next.false))

pub loop-rounds-preserved : goal.loop-rounds-preserved
loop-rounds-preserved c =
    let is = c.next.ensures.next in
    record {
      text_same = ap (λ r. r.text) is ∙ c.loop-rounds.invariant.text_same;
      pieces_same = ap (λ r. r.pieces) is ∙ c.loop-rounds.invariant.pieces_same;
      round = subst AreOfRound (sym is) (next_of_round c.loop-rounds.rounds c.loop-rounds.invariant.round);
    }

pub returns-then-next-clause-layout : goal.returns-then-next-clause-layout
returns-then-next-clause-layout c = sizes_layout c.args.text c.args.pieces.now

pub returns-then-next-clause-sizes : goal.returns-then-next-clause-sizes
returns-then-next-clause-sizes c =
    let now = c.loop-rounds.invariant in
    c.layout.ensures.sizes ∙ ap (λ r. r.sizes) c.next.ensures.next
    ∙ next_fits c.loop-rounds.rounds now.round (sym c.next.ensures.fitted ∙ c.if-next.true) ∙ (λ i. sizes_of (now.text_same i) (now.pieces_same i))

pub returns-then-next-clause-sums : goal.returns-then-next-clause-sums
returns-then-next-clause-sums c =
    let now = c.loop-rounds.invariant in
    let is = c.next.ensures.next in
    let sizes = sym c.layout.ensures.sizes ∙ returns-then-next-clause-sizes c in
    c.layout.ensures.sums ∙ (λ i. widths_of (is i).text (is i).pieces c.next.new.self.sizes)
    ∙ (λ i. widths_of (now.text_same i) (now.pieces_same i) (sizes i))

pub returns-then-next-clause-starts : goal.returns-then-next-clause-starts
returns-then-next-clause-starts c =
    let now = c.loop-rounds.invariant in
    let is = c.next.ensures.next in
    let sizes = sym c.layout.ensures.sizes ∙ returns-then-next-clause-sizes c in
    let pieces = ap (λ r. r.pieces) is ∙ now.pieces_same in
    subst₂ (λ (addresses : List ℕ) (count : ℕ). AreStarts addresses count c.layout.result.block_starts.items)
    ((λ i. addresses_of (is i).text (is i).pieces c.next.new.self.sizes) ∙ (λ i. addresses_of (now.text_same i) (now.pieces_same i) (sizes i)))
    (ap length pieces) c.layout.ensures.starts

pub returns-then-next-clause-least : goal.returns-then-next-clause-least
returns-then-next-clause-least c even all_even tight = sizes_least c.args.text c.args.pieces.now even all_even tight c.requires.targets
