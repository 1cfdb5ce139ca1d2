use Rattle.std.proofs.Common.{◌≡◌, ℕ, ◌+◌, ◌-◌, ◌/◌, ◌++◌, ◌<◌, length, replicate, set, take, arith, subst}
use Rattle.sym_machine.specs.Pages.{IsPooled, IsSame, Pooled, page_of}
use Rattle.sym_machine.specs.declared.page.Page.TheVariants.{Numbers}
use Rattle.sym_machine.proofs.PageLaws.{length-longer, longer_new, longer_old, took_numbers}
use Rattle.sym_machine.proofs.pool.Pool.take_numbers.Goals as goal

pub returns-clause-same : goal.returns-clause-same
returns-clause-same c =
    let i = c.self.inside in
    let number = c.args.number in
    let p : Pooled = record { pages = i.pages.items; numbers = i.numbers.items; cells = i.cells.items; number_room = i.numbers.cap; cell_room = i.cells.cap } in
    let old = i.numbers.items in
    let new = c.resize.new.self.items in
    let room = c.resize.new.self.cap in
    let n : ℕ = c.len-len.result / 4096 in
    let size : i.numbers.len ≡ length old = omega arith in
    let more : c.len-len.result + 4096 ≡ i.numbers.len + 4096 = omega arith in
    let longer : new ≡ take (c.len-len.result + 4096) old ++ replicate (c.len-len.result + 4096 - i.numbers.len) 0 = search (c.resize.ensures.items, c.unwrap.ensures) in
    let p' : Pooled = record { pages = set i.pages.items number (Numbers n); numbers = new; cells = i.cells.items; number_room = room; cell_room = i.cells.cap } in
    subst (λ (q : Pooled). IsPooled q → number < length q.pages → page_of q number ≡ Numbers 0 → IsSame q p') c.self.view_is
    (λ is within none. took_numbers p is number within new room n (omega arith) none
    (length-longer old new 0 0 (c.len-len.result + 4096) i.numbers.len size more longer)
    (longer_old old new 0 0 (c.len-len.result + 4096) i.numbers.len size more longer)
    (longer_new old new 0 0 (c.len-len.result + 4096) i.numbers.len size more longer) c.resize.ensures.capacity)
    c.requires.pooled c.requires.within c.requires.none
