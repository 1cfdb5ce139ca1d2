use Rattle.std.proofs.Common.{◌≡◌, ℕ, ◌+◌, ◌-◌, ◌*◌, ◌%◌, length, min, take, drop, sym, ap, ap₂, subst, ◌∙◌, arith}
use Rattle.zc_machine.specs.Invariants.Pool.{pooled_bytes}
use Rattle.zc_machine.specs.Pages.{Paged}
use Rattle.zc_machine.proofs.PoolLaws.{cells_read, length-cells, page_read, size_seen}
use Rattle.zc_machine.proofs.pages.Pages.cells_from.Goals as goal

pub overflow_add-at : goal.overflow_add-at
overflow_add-at c =
    let p = c.self.inside in
    omega (arith, size_seen p.table.items p.pool.items p.skip p.size c.args.self.now c.self.view_is, c.requires, c.self.invariant.covered, c.self.invariant.in_pool.few)

pub index-requires : goal.index-requires
index-requires c =
    let p = c.self.inside in
    omega (arith, size_seen p.table.items p.pool.items p.skip p.size c.args.self.now c.self.view_is, c.requires, c.self.invariant.covered, p.table.ok)

pub overflow_mul-start : goal.overflow_mul-start
overflow_mul-start c =
    let p = c.self.inside in
    let seen = size_seen p.table.items p.pool.items p.skip p.size c.args.self.now c.self.view_is in
    let page = page_read p.table.items p.pool.items p.pool.cap p.skip p.size c.args.index c.index.result.now c.self.invariant (omega (arith, seen, c.requires)) c.index.ensures in
    omega (arith, page.1, p.pool.ok, p.pool.small)

pub overflow_add-start : goal.overflow_add-start
overflow_add-start c =
    let p = c.self.inside in
    let seen = size_seen p.table.items p.pool.items p.skip p.size c.args.self.now c.self.view_is in
    let page = page_read p.table.items p.pool.items p.pool.cap p.skip p.size c.args.index c.index.result.now c.self.invariant (omega (arith, seen, c.requires)) c.index.ensures in
    omega (arith, page.1, p.pool.ok, p.pool.small)

pub overflow_sub-self-inside : goal.overflow_sub-self-inside
overflow_sub-self-inside c =
    let p = c.self.inside in
    omega (arith, size_seen p.table.items p.pool.items p.skip p.size c.args.self.now c.self.view_is, c.requires)

pub overflow_add-result : goal.overflow_add-result
overflow_add-result c =
    let p = c.self.inside in
    let seen = size_seen p.table.items p.pool.items p.skip p.size c.args.self.now c.self.view_is in
    let page = page_read p.table.items p.pool.items p.pool.cap p.skip p.size c.args.index c.index.result.now c.self.invariant (omega (arith, seen, c.requires)) c.index.ensures in
    omega (arith, page.1, p.pool.ok, p.pool.small, c.min-count.ensures)

pub slice_bounds-result-end : goal.slice_bounds-result-end
slice_bounds-result-end c =
    let p = c.self.inside in
    let seen = size_seen p.table.items p.pool.items p.skip p.size c.args.self.now c.self.view_is in
    let page = page_read p.table.items p.pool.items p.pool.cap p.skip p.size c.args.index c.index.result.now c.self.invariant (omega (arith, seen, c.requires)) c.index.ensures in
    let whole = ap length c.as_slice-pool.ensures.value in
    omega (arith, page.1, whole, c.min-count.ensures)

pub returns : goal.returns
returns c =
    let p = c.self.inside in
    let index = c.args.index in
    let start : ℕ = 4096 * c.index.result.now + (p.skip + index) % 4096 in
    let count = c.min-count.result in
    let cells = pooled_bytes p.table.items p.pool.items p.skip p.size in
    let size = length-cells p.table.items p.pool.items p.skip p.size in
    let seen = size_seen p.table.items p.pool.items p.skip p.size c.args.self.now c.self.view_is in
    let page = page_read p.table.items p.pool.items p.pool.cap p.skip p.size index c.index.result.now c.self.invariant (omega (arith, seen, c.requires)) c.index.ensures in
    let part : start + count - start ≡ count = omega arith in
    let most : count ≡ min (4096 - (p.skip + index) % 4096) (length cells - index) = c.min-count.ensures ∙ ap (λ n. min (4096 - (p.skip + index) % 4096) (n - index)) (sym size) in
    let P : Paged → Type 0 = λ q. take (start + count - start) (drop start c.as_slice-pool.result.now) ≡ take (min (4096 - (q.skip + index) % 4096) (length q.cells - index)) (drop index q.cells) in
    subst P c.self.view_is
    (ap₂ (λ k xs. take k (drop start xs)) part c.as_slice-pool.ensures.value
    ∙ cells_read p.table.items p.pool.items p.skip p.size index c.index.result.now count page.0 page.1 (omega (arith, c.min-count.ensures, seen, c.requires)) (omega (arith, c.min-count.ensures))
    ∙ ap (λ k. take k (drop index cells)) most)
