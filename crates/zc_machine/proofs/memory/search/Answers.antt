use Rattle.std.proofs.Common.{◌≡◌, ℕ, ◌-◌, drop, false, ap, subst, sym, ◌∙◌, arith}
use Rattle.std.proofs.lemmas.List.{drop_all, get_or_default}
use Rattle.rv_decode.specs.Memory.{Region, extents_of, is_text, lies_in}
use Rattle.zc_machine.specs.Answer.{fetched_as}
use Rattle.zc_machine.specs.Cells.{instruction}
use Rattle.zc_machine.specs.Memory.{AreApart, Fetches}
use Rattle.zc_machine.specs.Region.{has_code}
use Rattle.zc_machine.proofs.RegionLaws.{item_fetched, none_fetched}
use Rattle.zc_machine.proofs.memory.search.Goals as goal

pub returns-then-has-clause-found : goal.returns-then-has-clause-found
returns-then-has-clause-found c =
    let rs = c.loop-i.regions in
    let i = c.loop-i.i in
    let a = c.args.address in
    let same = c.loop-i.invariant.same in
    let r = c.index-regions-i-then-has.result in
    let is = c.index-regions-i-then-has.is in
    let found = fetched_as c.fetch.result in
    let has = ap (λ (x : Region ℕ). has_code x a) (is ∙ get_or_default rs i r c.index-regions-i.result (omega arith)) ∙ sym c.has.ensures ∙ c.if-has.true in
    let stands = c.fetch.ensures.found ∙ ap (λ (x : Region ℕ). instruction (drop (a - x.at) x.cells)) (sym is) in
    subst (λ memory. Fetches memory a found) same (item_fetched rs i r a found (subst (λ memory. AreApart (extents_of memory)) (sym same) c.requires) (omega arith) is has stands)

pub returns-clause-found : goal.returns-clause-found
returns-clause-found c =
    let regions = c.loop-i.regions in
    let a = c.args.address in
    let none : lies_in is_text (extents_of regions) a 1 ≡ false = c.loop-i.invariant.left ∙ ap (λ rs. lies_in is_text (extents_of rs) a 1) (drop_all c.loop-i.i regions (omega arith)) in
    none_fetched c.args.regions.now a (omega arith) (ap (λ rs. lies_in is_text (extents_of rs) a 1) (sym c.loop-i.invariant.same) ∙ none)
