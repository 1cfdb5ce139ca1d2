use Rattle.std.proofs.Common.{◌≡◌, ◌+◌, ◌*◌, ◌%◌, length, slice_index, sym, ap, subst, ◌∙◌, arith}
use Rattle.std.proofs.lemmas.List.{with_items_is}
use Rattle.rv_decode.specs.Memory.{cells_changed, written}
use Rattle.zc_machine.specs.Invariants.Pool.{IsPool, byte_of_pages}
use Rattle.zc_machine.proofs.PoolLaws.{byte-written, still_pool}
use Rattle.zc_machine.proofs.pages.write_to.Goals as goal

pub returns-clause-pool : goal.returns-clause-pool
returns-clause-pool c =
    let page = c.own_page-page in
    let n = length c.args.bytes.now in
    let given = slice_index c.args.bytes.now in
    let size : length c.write_cells.new.cells ≡ page.new.pool.len = omega (arith, c.write_cells.auto.cells, c.as_mut_slice.ensures.len) in
    let change = written (4096 * page.result + c.args.at % 4096) n given in
    let same = with_items_is page.new.pool c.write_cells.new.cells size ∙ c.write_cells.ensures ∙ ap (cells_changed change 0) c.as_mut_slice.ensures.value in
    subst (λ xs. IsPool page.new.table xs page.new.pool.cap) (sym same)
    (still_pool page.new.table page.new.pool.items page.new.pool.cap c.args.at n page.result given page.ensures.pool page.ensures.own.0 page.ensures.own.1 c.requires.page)

pub returns-clause-bytes : goal.returns-clause-bytes
returns-clause-bytes c = λ i.
    let page = c.own_page-page in
    let n = length c.args.bytes.now in
    let given = slice_index c.args.bytes.now in
    let size : length c.write_cells.new.cells ≡ page.new.pool.len = omega (arith, c.write_cells.auto.cells, c.as_mut_slice.ensures.len) in
    let change = written (4096 * page.result + c.args.at % 4096) n given in
    let same = with_items_is page.new.pool c.write_cells.new.cells size ∙ c.write_cells.ensures ∙ ap (cells_changed change 0) c.as_mut_slice.ensures.value in
    ap (λ xs. byte_of_pages page.new.table xs i) same
    ∙ byte-written page.new.table page.new.pool.items page.new.pool.cap c.args.at n page.result given page.ensures.pool page.ensures.own.0 page.ensures.own.1 c.requires.page i
    ∙ ap (written c.args.at n given i) (page.ensures.same i)
