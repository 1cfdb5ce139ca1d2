use Rattle.std.proofs.Common.{◌∙◌, ◌-◌, List, Some, ap, arith, get_or, length, subst, sym}
use Rattle.std.proofs.lemmas.Option.{slice_get_within}
use Rattle.psabi_sym.specs.Indexed.{IsSectionNumber, all_sections}
use Rattle.psabi_sym.specs.Inputs.{Inputs, parsed}
use Rattle.block_cut.specs.declared.code_place.CodePlace.{CodePlace}
use Rattle.tail_merge.specs.Merged.{indexed}
use Rattle.tail_merge.proofs.HostLaws.{covered-at, first-at, later-at, length-places, numbered-at, place-item, place-small, section-here, strange-at, uncovered-at}
use Rattle.tail_merge.proofs.MovedTailLaws.{table-at}
use Rattle.tail_merge.proofs.moved_tail.host_offset.Goals as goal

pub returns-in_err-tail-clause-offset : goal.returns-in_err-tail-clause-offset
returns-in_err-tail-clause-offset c =
    let q = c.args.place in
    let inputs = c.args.cut.now in
    let table = table-at (parsed inputs) q.object q.section c.args.tails.now c.requires in
    let none = uncovered-at inputs c.recall_invariant.ensures.gathered q.object q.section q.offset c.args.tails.now c.requires (sym (c.in_err-tail.ensures table.rises)) in
    c.from_residual.ensures ∙ sym none

pub returns-in_err-index-clause-offset : goal.returns-in_err-index-clause-offset
returns-in_err-index-clause-offset c =
    let q = c.args.place in
    let inputs = c.args.cut.now in
    let tail = c.in_ok-tail.field-0 in
    let table = table-at (parsed inputs) q.object q.section c.args.tails.now c.requires in
    let covered = covered-at inputs c.recall_invariant.ensures.gathered q.object q.section q.offset c.args.tails.now tail c.requires (sym (c.in_ok-tail.ensures table.rises)) in
    c.from_residual-in_err-index.ensures ∙ sym (strange-at (parsed inputs) q tail covered c.in_err-index.ensures)

pub overflow_sub-back : goal.overflow_sub-back
overflow_sub-back c =
    let q = c.args.place in
    let inputs = c.args.cut.now in
    let tail = c.in_ok-tail.field-0 in
    let table = table-at (parsed inputs) q.object q.section c.args.tails.now c.requires in
    let covered = covered-at inputs c.recall_invariant.ensures.gathered q.object q.section q.offset c.args.tails.now tail c.requires (sym (c.in_ok-tail.ensures table.rises)) in
    (numbered-at (parsed inputs) q tail covered c.in_ok-index.field-0 c.in_ok-index.ensures.0 c.in_ok-index.ensures.1).1

pub overflow_add-back : goal.overflow_add-back
overflow_add-back c =
    let q = c.args.place in
    let inputs = c.args.cut.now in
    let tail = c.in_ok-tail.field-0 in
    let table = table-at (parsed inputs) q.object q.section c.args.tails.now c.requires in
    let covered = covered-at inputs c.recall_invariant.ensures.gathered q.object q.section q.offset c.args.tails.now tail c.requires (sym (c.in_ok-tail.ensures table.rises)) in
    let few = covered.items.few in
    let end = covered.among.end in
    omega (arith, few, end)

pub places-requires : goal.places-requires
places-requires c =
    let q = c.args.place in
    let inputs = c.args.cut.now in
    let tail = c.in_ok-tail.field-0 in
    let k = c.in_ok-section.section in
    let table = table-at (parsed inputs) q.object q.section c.args.tails.now c.requires in
    let covered = covered-at inputs c.recall_invariant.ensures.gathered q.object q.section q.offset c.args.tails.now tail c.requires (sym (c.in_ok-tail.ensures table.rises)) in
    let number = subst (λ (it : Inputs). IsSectionNumber (parsed it).objects q.object q.section (Some k)) c.objects.ensures.same c.in_ok-section.ensures in
    slice_get_within (all_sections (parsed inputs).objects) k (indexed q.object q.section covered.section) (section-here (parsed inputs) q tail covered k number)

pub overflow_sub-result : goal.overflow_sub-result
overflow_sub-result c =
    let q = c.args.place in
    let inputs = c.args.cut.now in
    let tail = c.in_ok-tail.field-0 in
    let table = table-at (parsed inputs) q.object q.section c.args.tails.now c.requires in
    let covered = covered-at inputs c.recall_invariant.ensures.gathered q.object q.section q.offset c.args.tails.now tail c.requires (sym (c.in_ok-tail.ensures table.rises)) in
    let few = covered.among.count in
    omega (arith, few, c.if-back-tail.true)

pub bounds-places-tail : goal.bounds-places-tail
bounds-places-tail c =
    let q = c.args.place in
    let inputs = c.args.cut.now in
    let tail = c.in_ok-tail.field-0 in
    let k = c.in_ok-section.section in
    let table = table-at (parsed inputs) q.object q.section c.args.tails.now c.requires in
    let covered = covered-at inputs c.recall_invariant.ensures.gathered q.object q.section q.offset c.args.tails.now tail c.requires (sym (c.in_ok-tail.ensures table.rises)) in
    let number = subst (λ (it : Inputs). IsSectionNumber (parsed it).objects q.object q.section (Some k)) c.objects.ensures.same c.in_ok-section.ensures in
    let places = c.places.ensures (indexed q.object q.section covered.section) (section-here (parsed inputs) q tail covered k number) in
    let count = length-places (parsed inputs) (indexed q.object q.section covered.section) covered.code in
    let end = covered.among.end in
    let host = covered.among.host in
    omega (arith, ap length places, count, end, host)

pub bounds-places-tail-then-back-tail : goal.bounds-places-tail-then-back-tail
bounds-places-tail-then-back-tail c =
    let q = c.args.place in
    let inputs = c.args.cut.now in
    let tail = c.in_ok-tail.field-0 in
    let k = c.in_ok-section.section in
    let table = table-at (parsed inputs) q.object q.section c.args.tails.now c.requires in
    let covered = covered-at inputs c.recall_invariant.ensures.gathered q.object q.section q.offset c.args.tails.now tail c.requires (sym (c.in_ok-tail.ensures table.rises)) in
    let number = subst (λ (it : Inputs). IsSectionNumber (parsed it).objects q.object q.section (Some k)) c.objects.ensures.same c.in_ok-section.ensures in
    let places = c.places.ensures (indexed q.object q.section covered.section) (section-here (parsed inputs) q tail covered k number) in
    let count = length-places (parsed inputs) (indexed q.object q.section covered.section) covered.code in
    let end = covered.among.end in
    let host = covered.among.host in
    omega (arith, ap length places, count, end, host)

pub returns-then-back-tail-clause-offset : goal.returns-then-back-tail-clause-offset
returns-then-back-tail-clause-offset c =
    let q = c.args.place in
    let inputs = c.args.cut.now in
    let tail = c.in_ok-tail.field-0 in
    let k = c.in_ok-section.section in
    let j = c.in_ok-index.field-0.index in
    let item = tail.tail.host - (tail.tail.end - j) in
    let table = table-at (parsed inputs) q.object q.section c.args.tails.now c.requires in
    let covered = covered-at inputs c.recall_invariant.ensures.gathered q.object q.section q.offset c.args.tails.now tail c.requires (sym (c.in_ok-tail.ensures table.rises)) in
    let number = subst (λ (it : Inputs). IsSectionNumber (parsed it).objects q.object q.section (Some k)) c.objects.ensures.same c.in_ok-section.ensures in
    let places = c.places.ensures (indexed q.object q.section covered.section) (section-here (parsed inputs) q tail covered k number) in
    let at = numbered-at (parsed inputs) q tail covered c.in_ok-index.field-0 c.in_ok-index.ensures.0 c.in_ok-index.ensures.1 in
    let end = covered.among.end in
    let host = covered.among.host in
    ap (λ (ps : List CodePlace). Some (get_or ps item c.index-places-tail.result).offset) places
    ∙ ap Some (place-item (parsed inputs) (indexed q.object q.section covered.section) item c.index-places-tail.result covered.code (omega (arith, end, host)))
    ∙ sym (later-at (parsed inputs) q tail covered j at.0 at.1 c.if-back-tail.true)

pub returns-then-back-tail-clause-small : goal.returns-then-back-tail-clause-small
returns-then-back-tail-clause-small c =
    let q = c.args.place in
    let inputs = c.args.cut.now in
    let tail = c.in_ok-tail.field-0 in
    let k = c.in_ok-section.section in
    let j = c.in_ok-index.field-0.index in
    let item = tail.tail.host - (tail.tail.end - j) in
    let table = table-at (parsed inputs) q.object q.section c.args.tails.now c.requires in
    let covered = covered-at inputs c.recall_invariant.ensures.gathered q.object q.section q.offset c.args.tails.now tail c.requires (sym (c.in_ok-tail.ensures table.rises)) in
    let number = subst (λ (it : Inputs). IsSectionNumber (parsed it).objects q.object q.section (Some k)) c.objects.ensures.same c.in_ok-section.ensures in
    let places = c.places.ensures (indexed q.object q.section covered.section) (section-here (parsed inputs) q tail covered k number) in
    let end = covered.among.end in
    let host = covered.among.host in
    let small = place-small (parsed inputs) (indexed q.object q.section covered.section) item c.index-places-tail.result covered.code covered.items (omega (arith, end, host)) in
    omega (arith, ap (λ (ps : List CodePlace). (get_or ps item c.index-places-tail.result).offset) places, small)

pub returns-else-back-tail-clause-offset : goal.returns-else-back-tail-clause-offset
returns-else-back-tail-clause-offset c =
    let q = c.args.place in
    let inputs = c.args.cut.now in
    let tail = c.in_ok-tail.field-0 in
    let table = table-at (parsed inputs) q.object q.section c.args.tails.now c.requires in
    let covered = covered-at inputs c.recall_invariant.ensures.gathered q.object q.section q.offset c.args.tails.now tail c.requires (sym (c.in_ok-tail.ensures table.rises)) in
    let at = numbered-at (parsed inputs) q tail covered c.in_ok-index.field-0 c.in_ok-index.ensures.0 c.in_ok-index.ensures.1 in
    sym (first-at (parsed inputs) q tail covered c.in_ok-index.field-0.index at.0 at.1 (omega (arith, c.if-back-tail.false)))
