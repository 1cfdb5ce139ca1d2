-- The site at a place is counted at its target (`site_counted`), which is found by its number.
use Rattle.std.proofs.Common.{◌∙◌, ◌+◌, ◌-◌, ◌++◌, ◌∷◌, [], cond, eqb, slice_index_or, slice_set, sym, ap, subst, arith}
use Rattle.std.specs.Prelude.{option_map}
use Rattle.psabi_sym.specs.Faults.{gather_fault}
use Rattle.psabi_sym.specs.Inputs.{parsed}
use Rattle.pick_check.specs.declared.saving.Saving.{Saving}
use Rattle.shrink_layout.specs.Invariants.Sites.{AreSavings, site_pair}
use Rattle.shrink_layout.proofs.SavingLaws.{count_low, site_counted, target_saving, target_within}
use Rattle.shrink_layout.proofs.savings.count_place.Goals as goal

-- what stands for a saving where there is none
abbrev no_saving : Saving
no_saving = record { target = record { object = 0; section = 0; offset = 0 }; jump_sites = 0; call_sites = 0 }

pub bounds-savings-number : goal.bounds-savings-number
bounds-savings-number c =
    let inputs = c.args.settled.now.inputs in
    let none = ap gather_fault (sym (c.cut.ensures.same ∙ c.planned.ensures.same)) ∙ c.recall_invariant.ensures.gathered in
    let is = sym c.site_at.ensures.value ∙ ap (option_map site_pair) c.in-Some.is in
    let number = c.piece_number_at-number.ensures in
    let few = c.requires.few in
    omega (arith, number, target_within inputs none few.0 c.args.p (site_pair c.in-Some.site) is c.in-Some.ensures.target c.args.savings.now few.2)

pub count_site-requires : goal.count_site-requires
count_site-requires c =
    let inputs = c.args.settled.now.inputs in
    let none = ap gather_fault (sym (c.cut.ensures.same ∙ c.planned.ensures.same)) ∙ c.recall_invariant.ensures.gathered in
    let to = c.in-Some.site.to in
    let is = sym c.site_at.ensures.value ∙ ap (option_map site_pair) c.in-Some.is in
    let number = c.piece_number_at-number.ensures in
    let few = c.requires.few in
    let at = ap (λ n. slice_index_or c.args.savings.now (n - 2) no_saving) number
    ∙ target_saving inputs none few.0 c.args.p (site_pair c.in-Some.site) is c.in-Some.ensures.target c.args.savings.now few.2 no_saving in
    record {
      jumps = omega (arith, ap (λ (s : Saving). s.jump_sites) at, count_low inputs none few.0 0 to few.1);
      calls = omega (arith, ap (λ (s : Saving). s.call_sites) at, count_low inputs none few.0 1 to few.1);
    }

pub returns-in-Some : goal.returns-in-Some
returns-in-Some c = λ qs are.
    let inputs = c.args.settled.now.inputs in
    let none = ap gather_fault (sym (c.cut.ensures.same ∙ c.planned.ensures.same)) ∙ c.recall_invariant.ensures.gathered in
    let rd = c.in-Some.site.rd in
    let is = sym c.site_at.ensures.value ∙ ap (option_map site_pair) c.in-Some.is in
    let target = c.in-Some.ensures.target in
    let number = c.piece_number_at-number.ensures in
    let at = ap (λ n. slice_index_or c.args.savings.now (n - 2) no_saving) number
    ∙ target_saving inputs none qs c.args.p (site_pair c.in-Some.site) is target c.args.savings.now are no_saving in
    subst (λ n. AreSavings (parsed inputs) (qs ++ c.args.p ∷ []) (slice_set c.args.savings.now (n - 2) c.count_site.new.saving)) (sym number)
    (site_counted inputs none qs c.args.p (site_pair c.in-Some.site) is target c.args.savings.now are c.count_site.new.saving
    (c.count_site.ensures.target ∙ ap (λ (s : Saving). s.target) at)
    (c.count_site.ensures.jumps ∙ ap (λ (s : Saving). s.jump_sites + cond (eqb rd 0) 1 0) at)
    (c.count_site.ensures.calls ∙ ap (λ (s : Saving). s.call_sites + cond (eqb rd 0) 0 1) at))
