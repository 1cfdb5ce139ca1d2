use Rattle.std.proofs.Common.{◌+◌, ◌∙◌, ap, arith, sym, subst, cond, ltb, Some, None}
use Rattle.std.specs.Option.{option_or}
use Rattle.psabi_sym.specs.Inputs.{parsed}
use Rattle.moved_runs.specs.Passes.{passed_objects}
use Rattle.object_passes.proofs.RoomLaws.{length-passed, passed-there}
use Rattle.object_passes.proofs.SizeLaws.{IsSearchedBefore, search-end, search-large, search-next}
use Rattle.object_passes.proofs.sizes.first_oversized.Goals as goal

pub returns-in_default : goal.returns-in_default
returns-in_default c pass left =
    let i = c.loop-i.i in
    let there = passed-there pass c.args.objects.now.files i (omega (arith, c.loop-i-test.true, c.object_count-i-end.ensures.count)) in
    search-large (passed_objects pass (parsed c.args.objects.now).objects) i c.loop-i.sum c.loop-i.passing _ there (c.in_default.ensures.size pass _ left there) (c.loop-i.invariant.searched pass left)

pub overflow_add-sum : goal.overflow_add-sum
overflow_add-sum c = omega (arith, c.loop-i.invariant.most, c.loop-i-test.true, c.object_count-i-end.ensures.most, c.in-Some.ensures.most)

pub loop-i-preserved : goal.loop-i-preserved
loop-i-preserved c = record {
  searched = λ pass left.
      let i = c.loop-i.i in
      let all = passed_objects pass (parsed c.args.objects.now).objects in
      let next = c.passing_next-passing.result in
      let there = passed-there pass c.args.objects.now.files i (omega (arith, c.loop-i-test.true, c.object_count-i-end.ensures.count)) in
      let size = c.in-Some.ensures.size pass _ left there in
      subst (λ n. IsSearchedBefore all (i + 1) (c.loop-i.sum + n) next) (sym size.1)
      (search-next all i c.loop-i.sum c.loop-i.passing next _ there size.0
      (c.passing_next-passing.ensures ∙ ap (λ n. option_or c.loop-i.passing (cond (ltb 0x200_0000 (c.loop-i.sum + n)) (Some i) None)) size.1) (c.loop-i.invariant.searched pass left));
  most = omega (arith, c.loop-i.invariant.most, c.in-Some.ensures.most);
}

pub returns : goal.returns
returns c pass left =
    search-end (passed_objects pass (parsed c.args.objects.now).objects) c.loop-i.i c.loop-i.sum c.loop-i.passing
    (omega (arith, c.loop-i-test.false, c.object_count-i-end.ensures.count, length-passed pass c.args.objects.now.files)) (c.loop-i.invariant.searched pass left)
