use Rattle.std.proofs.Common.{◌≡◌, ◌/◌, ◌<◌, ◌||◌, ◌&&◌, [], Some, eqb, get_or, length, sym, ap, ◌∙◌, arith}
use Rattle.std.proofs.lemmas.Option.{get_or_from_slice_get, slice_get-get_or}
use Rattle.block_cut.specs.Invariants.Led.{mark_at}
use Rattle.block_cut.proofs.LedLaws.{marked_more}
use Rattle.block_cut.proofs.leaders.Leaders.mark.Goals as goal

pub returns-clause-marks : goal.returns-clause-marks
returns-clause-marks c = λ objects q number.
    let sections = c.args.self.now.sections.items in
    let p = c.args.p in
    let k = c.args.section in
    let old = c.index_mut.result.now in
    let within : k < length sections = omega (arith, c.if-len-section.false, c.len.ensures) in
    let got : get_or sections k [] ≡ old = get_or_from_slice_get sections k old [] (slice_get-get_or sections k old within ∙ ap Some (sym c.index_mut.ensures.value)) in
    marked_more objects sections p k c.mark.new.self c.mark.result c.if-p-ne0.false number within
    (λ n. c.mark.ensures n ∙ ap (λ marks. mark_at marks n || (c.mark.result && eqb n (p.offset / 2))) (sym got)) q
