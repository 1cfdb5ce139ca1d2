use Rattle.std.proofs.Common.{◌≡◌, true, length, sym, ap, ◌∙◌, subst, arith}
use Rattle.std.specs.Prelude.{slice_index}
use Rattle.shrink_layout.specs.Layout.{all_fit, next_sizes}
use Rattle.shrink_layout.specs.Invariants.Rounds.{AreLaid}
use Rattle.shrink_layout.proofs.LaidLaws.{fit_laid, written_is}
use Rattle.shrink_layout.proofs.RoundLaws.{length_forms}
use Rattle.shrink_layout.proofs.rounds.Rounds.next.Goals as goal

pub invariant_of-self : goal.invariant_of-self
invariant_of-self c =
    let own = c.self.inside in
    let pieces = own.pieces.now in
    let old = own.sizes.items in
    let new = c.grow.new.sizes in
    let w = own.widths in
    let text = slice_index w.starts.items 0 in
    let made = c.if-grow.ensures in
    let old_is = c.deref_mut.ensures.value in
    let next : new ≡ next_sizes text pieces old = made.sizes ∙ ap (next_sizes text pieces) old_is in
    let fits : true ≡ all_fit text pieces old = made.fitted ∙ ap (all_fit text pieces) old_is in
    let grown = made.grown in
    let long : length new ≡ own.sizes.len = omega (arith, length_forms pieces new grown.forms, length_forms pieces old c.self.invariant.placed.forms, own.sizes.ok) in
    subst (λ s. AreLaid pieces s w c.grow.new.blocks) (sym (written_is own.sizes.len new old long))
    (fit_laid pieces old new w own.blocks c.grow.new.blocks c.self.invariant grown next (sym fits))
