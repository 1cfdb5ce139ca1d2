use Rattle.std.proofs.Common.{◌≡◌, ℕ, ◌+◌, ◌-◌, ◌*◌, ◌/◌, ◌++◌, ◌<◌, length, replicate, set, take, arith, ap, sym, ◌∙◌, subst}
use Rattle.sym_machine.specs.Pages.{IsPooled, IsSame, Pooled, page_cell, page_of, cells_wanted}
use Rattle.sym_machine.specs.declared.page.Page.TheVariants.{Cells}
use Rattle.sym_machine.specs.declared.word.SymByte.TheVariants.{Undef}
use Rattle.sym_machine.proofs.PageLaws.{length-longer, longer_new, longer_old, took_cells}
use Rattle.sym_machine.proofs.pool.Pool.take_cells.Goals as goal

pub returns-clause-same : goal.returns-clause-same
returns-clause-same c =
    let i = c.self.inside in
    let number = c.args.number in
    let p : Pooled = record { pages = i.pages.items; numbers = i.numbers.items; cells = i.cells.items; number_room = i.numbers.cap; cell_room = i.cells.cap } in
    let old = i.cells.items in
    let new = c.resize.new.self.items in
    let room = c.resize.new.self.cap in
    let n : ℕ = c.len-len.result / 4096 in
    let size : i.cells.len ≡ length old = omega arith in
    let more : c.len-len.result + 4096 ≡ i.cells.len + 4096 = omega arith in
    let longer : new ≡ take (c.len-len.result + 4096) old ++ replicate (c.len-len.result + 4096 - i.cells.len) Undef = search (c.resize.ensures.items, c.unwrap.ensures) in
    let p' : Pooled = record { pages = set i.pages.items number (Cells n); numbers = i.numbers.items; cells = new; number_room = i.numbers.cap; cell_room = room } in
    subst (λ (q : Pooled). IsPooled q → number < length q.pages → page_of q number ≡ Cells 0 → IsSame q p') c.self.view_is
    (λ is within none. took_cells p is number within new room n (omega arith) (ap cells_wanted none)
    (length-longer old new Undef Undef (c.len-len.result + 4096) i.cells.len size more longer)
    (longer_old old new Undef Undef (c.len-len.result + 4096) i.cells.len size more longer)
    (λ x lt. longer_new old new Undef Undef (c.len-len.result + 4096) i.cells.len size more longer x lt ∙ sym (is.undefined (4096 * 0 + x) (omega (arith, lt))) ∙ ap (λ q. page_cell p q x) (sym none)) c.resize.ensures.capacity)
    c.requires.pooled c.requires.within c.requires.none
