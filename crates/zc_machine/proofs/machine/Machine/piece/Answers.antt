use Rattle.std.proofs.Common.{◌≡◌, ℕ, ◌-◌, ◌%◌, ◌<◌, ◌≤◌, List, true, inl, inr, ⊎_elim, length, take, sym, ap, subst, ◌∙◌, arith}
use Rattle.std.proofs.lemmas.Bool.{cases_lt, leb-true}
use Rattle.std.proofs.lemmas.List.{length-take-le}
use Rattle.rv_decode.specs.Memory.{Region, extents_of, is_data, lies_in}
use Rattle.rv_decode.specs.State.{ZcCore}
use Rattle.rv_decode.proofs.MemoryLaws.{lies_inside}
use Rattle.zc_machine.specs.Buffer.{bytes_at}
use Rattle.zc_machine.specs.Memory.{Reaches}
use Rattle.zc_machine.specs.declared.region.AccessKind.TheVariants.{Data}
use Rattle.zc_machine.proofs.BufferLaws.{reach_bytes}
use Rattle.zc_machine.proofs.machine.Machine.piece.Goals as goal

-- the cells that are lent lie in one page, and so they are among those that are reached
reached :
    (memory : List (Region ℕ)) (at len count : ℕ) (cells : List ℕ) → Reaches Data memory at cells → lies_in is_data (extents_of memory) at len ≡ true → 0 < count → count ≤ len → count ≤ 4096 - at % 4096
    → count ≤ length cells
reached memory at len count cells reach lies some within page =
    leb-true count (length cells) (sym (reach.lies count some page) ∙ lies_inside is_data (extents_of memory) at len at count lies (omega arith) (omega (arith, within)))

pub slice_bounds-result-end : goal.slice_bounds-result-end
slice_bounds-result-end c =
    let enough = reached c.self.inside.memory c.args.at c.args.len c.min-count.result c.reach.result.now c.reach.ensures (sym c.holds.ensures.is ∙ c.if-not-holds.false) (omega (arith, c.requires)) (omega arith) (omega arith) in
    sym (length-take-le c.min-count.result c.reach.result.now enough)

pub returns-clause-some : goal.returns-clause-some
returns-clause-some c =
    let z = c.args.self.now in
    let at = c.args.at in
    let len = c.args.len in
    let cells = c.reach.result.now in
    let count = c.min-count.result in
    let P : ZcCore → Type 0 = λ y. Reaches Data y.memory at cells in
    let enough = reached c.self.inside.memory at len count cells c.reach.ensures (sym c.holds.ensures.is ∙ c.if-not-holds.false) (omega (arith, c.requires)) (omega arith) (omega arith) in
    let size : length (take count cells) ≡ count = length-take-le count cells enough in
    record {
      some = omega (arith, size, c.requires);
      within = omega (arith, size);
      ends = ⊎_elim (λ less. inr (omega (arith, size, less))) (λ all. inl (omega (arith, size, all))) (cases_lt count len);
      page = omega (arith, size);
      bytes = reach_bytes z Data at count cells (subst P c.self.view_is c.reach.ensures) enough ∙ ap (bytes_at z at) (sym size);
    }
