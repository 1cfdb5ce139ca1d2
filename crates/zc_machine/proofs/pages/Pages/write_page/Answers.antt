use Rattle.std.proofs.Common.{◌≡◌, ℕ, ◌+◌, length, slice_index, ap, ◌∙◌, arith}
use Rattle.std.proofs.lemmas.List.{with_items_is}
use Rattle.rv_decode.specs.Memory.{cells_changed, written}
use Rattle.zc_machine.specs.Invariants.Pool.{byte_of_pages, pooled_bytes}
use Rattle.zc_machine.specs.Pages.{Paged}
use Rattle.zc_machine.proofs.PoolLaws.{cells-written, size_seen}
use Rattle.zc_machine.proofs.pages.Pages.write_page.Goals as goal

pub overflow_add-at : goal.overflow_add-at
overflow_add-at c =
    let p = c.self.inside in
    omega (arith, size_seen p.table.items p.pool.items p.skip p.size c.args.self.now c.self.view_is, c.requires.within, c.self.invariant.covered, c.self.invariant.in_pool.few)

pub write_to-requires-clause-within : goal.write_to-requires-clause-within
write_to-requires-clause-within c =
    let p = c.self.inside in
    let whole = ap length c.as_mut_slice.ensures.value in
    omega (arith, size_seen p.table.items p.pool.items p.skip p.size c.args.self.now c.self.view_is, whole, c.requires.some, c.requires.within, c.self.invariant.covered)

pub returns : goal.returns
returns c =
    let p = c.self.inside in
    let n = length c.args.bytes.now in
    let given = slice_index c.args.bytes.now in
    let change = written c.args.index n given in
    let size : length c.write_to.new.table ≡ p.table.len = omega (arith, c.write_to.auto.table, c.as_mut_slice.ensures.len) in
    let table = with_items_is p.table c.write_to.new.table size in
    let bytes = λ (i : ℕ). c.write_to.ensures.bytes i ∙ ap (λ t. written (p.skip + c.args.index) n given i (byte_of_pages t p.pool.items i)) c.as_mut_slice.ensures.value in
    let cells =
    ap (λ t. pooled_bytes t c.write_to.new.pool.items p.skip p.size) table
    ∙ cells-written p.table.items p.pool.items c.write_to.new.table c.write_to.new.pool.items p.skip p.size c.args.index n given bytes in
    (λ i. record { skip = p.skip; cells = cells i }) ∙ ap (λ (q : Paged). record q { cells = cells_changed change 0 q.cells }) c.self.view_is
