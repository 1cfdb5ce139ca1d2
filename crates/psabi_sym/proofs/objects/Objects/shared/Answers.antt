use Rattle.std.proofs.Common.{◌≡◌, ◌+◌, ◌≤◌, ◌++◌, ◌∷◌, [], All, take, sym, ap, ◌∙◌, arith, subst}
use Rattle.std.specs.List.{cons_option, filter_map}
use Rattle.std.proofs.lemmas.List.{append-nil, take_all}
use Rattle.psabi_sym.specs.Data.{data_end}
use Rattle.psabi_sym.specs.Inputs.{parsed}
use Rattle.psabi_sym.specs.Indexed.{all_sections}
use Rattle.psabi_sym.specs.Shared.{shared_range, shared_ranges}
use Rattle.psabi_sym.proofs.SharedLaws.{filter_map_more, shared_within}
use Rattle.psabi_sym.proofs.objects.Objects.shared.Goals as goal
use Rattle.psabi_sym.proofs.objects.Objects.shared.Goals.{in-Some+in_ok-push, in_default}

pub loop-k-preserved : goal.loop-k-preserved
loop-k-preserved c =
    let inputs = parsed c.args.self.now in
    let all = all_sections inputs.objects in
    let h = shared_range inputs in
    let k = c.loop-k.k in
    let l = c.shared_range.ensures.0 in
    let so_far = filter_map h (take k all) in
    let more = filter_map_more h all k l c.shared_range.ensures.1 in
    elim c.match-shared_range.branch [
      | in-Some+in_ok-push w ↦
          ap (λ v. v.items) w.ranges-is ∙ w.in_ok-push.ensures.items ∙ ap (λ xs. xs ++ w.in-Some.range ∷ []) c.loop-k.invariant
          ∙ ap (λ o. so_far ++ cons_option o []) (sym w.in-Some.is ∙ c.shared_range.ensures.2) ∙ sym more
      | in_default w ↦
          ap (λ v. v.items) w.ranges-is ∙ c.loop-k.invariant ∙ sym (append-nil so_far)
          ∙ ap (λ o. so_far ++ cons_option o []) (sym w.in_default.is ∙ c.shared_range.ensures.2) ∙ sym more
    ]

pub returns-clause-within : goal.returns-clause-within
returns-clause-within c =
    let inputs = parsed c.args.self.now in
    let all = all_sections inputs.objects in
    let whole : c.loop-k.ranges.items ≡ shared_ranges inputs =
    c.loop-k.invariant ∙ ap (filter_map (shared_range inputs)) (take_all c.loop-k.k all (omega (arith, c.section_count-k-end.ensures.count))) in
    subst (All (λ r. (inputs.map.data_low ≤ r.0) × (r.0 + r.1 ≤ data_end inputs))) (sym whole) (shared_within inputs)
