use Rattle.std.proofs.Common.{◌≡◌, ◌∙◌, ◌++◌, ◌∷◌, [], Vec, ap, arith, get_or, length, sym, subst}
use Rattle.std.specs.declared.alloc.Global.{Global}
use Rattle.std.proofs.lemmas.List.{length-append, length-map, map_push}
use Rattle.std.proofs.lemmas.Option.{slice_get_within}
use Rattle.psabi_sym.specs.Inputs.{parsed}
use Rattle.psabi_sym.specs.Indexed.{all_sections}
use Rattle.tail_merge.specs.RemovedTails.{AreRemovedFrom, lists_of}
use Rattle.tail_merge.specs.declared.removed_tail.RemovedTail.{RemovedTail}
use Rattle.tail_merge.proofs.TailItemLaws.{lists-more}
use Rattle.tail_merge.proofs.all_tails.all_removed_tails.Goals as goal

pub loop-section-preserved : goal.loop-section-preserved
loop-section-preserved c =
    let given = parsed c.args.cut.now in
    let old = c.loop-section.lists.items in
    let tails = c.in_ok-removed_tails.field-0 in
    let more : lists_of c.push.new.self.items ≡ lists_of old ++ tails.items ∷ [] =
    ap lists_of c.in_ok-push.ensures.items ∙ map_push (λ (t : Vec RemovedTail Global). t.items) old tails in
    let count = length-map old (λ (t : Vec RemovedTail Global). t.items) in
    record {
      count = omega (arith, ap length c.in_ok-push.ensures.items, length-append old (tails ∷ []), c.loop-section.invariant.count);
      removed = λ k low s is.
          subst (λ ls. AreRemovedFrom given s (get_or ls k [])) (sym more)
          (lists-more given (lists_of old) tails.items c.loop-section.section (omega (arith, count, c.loop-section.invariant.count)) c.loop-section.invariant.removed c.in_ok-removed_tails.ensures k low s is);
    }

pub returns : goal.returns
returns c =
    let given = parsed c.args.cut.now in
    let all : c.loop-section.section ≡ length (all_sections given.objects) =
    omega (arith, c.loop-section-test.false, c.loop-section.auto, c.section_count-section-end.ensures.count, ap (λ v. length (all_sections (parsed v).objects)) c.objects.ensures.same) in
    let count = length-map c.loop-section.lists.items (λ (t : Vec RemovedTail Global). t.items) in
    record {
      count = omega (arith, all, count, c.loop-section.invariant.count);
      removed = λ k l is. c.loop-section.invariant.removed k (let inside = slice_get_within (all_sections given.objects) k l is in omega (arith, inside, all)) l is;
    }
