-- Savings have as few sites as the picker asks for.
use Rattle.std.proofs.Common.{◌≡◌, ◌∙◌, List, [], ◌∷◌, true, refl, ap, subst, arith}
use Rattle.std.specs.Prelude.{All}
use Rattle.std.specs.List.{list_all}
use Rattle.std.proofs.lemmas.Bool.{and_from, le-leb}
use Rattle.std.proofs.lemmas.List.Elements.{All-head, All-tail}
use Rattle.jumptable_pick.specs.Picked.{picked}
use Rattle.jumptable_pick.specs.Ranking.{is_small}
use Rattle.pick_check.specs.Best.{NoneSavesMore}
use Rattle.pick_check.specs.Certified.{IsAccepted}
use Rattle.pick_check.specs.declared.saving.Saving.{Saving}
use Rattle.shrink_layout.specs.Savings.{HasFewSites}
use Rattle.zc_link.proofs.zc.pick_table.Goals as goal

all_small : (savings : List Saving) → All HasFewSites savings → list_all is_small savings ≡ true
all_small [] few = refl
all_small (s ∷ savings) few =
    let own = All-head HasFewSites s savings few in
    let jumps = own.jumps in
    let calls = own.calls in
    and_from (is_small s) (list_all is_small savings) (and_from _ _ (le-leb s.jump_sites 1073741824 (omega (arith, jumps))) (le-leb s.call_sites 1073741824 (omega (arith, calls))))
    (all_small savings (All-tail HasFewSites s savings few))

pub pick-requires-clause-small : goal.pick-requires-clause-small
pick-requires-clause-small c =
    ap (list_all is_small) c.deref.ensures.value ∙ all_small c.in_ok-savings.savings.items c.in_ok-savings.ensures.sites

pub returns-clause-is_picked : goal.returns-clause-is_picked
returns-clause-is_picked c = c.in_ok-certificate.ensures.value ∙ ap picked c.deref.ensures.value

pub returns-clause-accepted : goal.returns-clause-accepted
returns-clause-accepted c = subst (λ (s : List Saving). IsAccepted s c.in_ok-certificate.certificate) c.deref.ensures.value c.in_ok-certificate.ensures.accepted

pub returns-clause-best : goal.returns-clause-best
returns-clause-best c = subst (λ (s : List Saving). NoneSavesMore s c.in_ok-certificate.certificate.net) c.deref.ensures.value c.in_ok-certificate.ensures.best
