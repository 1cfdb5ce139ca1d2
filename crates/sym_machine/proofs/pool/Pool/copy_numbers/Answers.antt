use Rattle.std.proofs.Common.{◌≡◌, ℕ, ◌+◌, ◌*◌, ◌/◌, ◌++◌, ◌∷◌, [], ◌<◌, ◌≤◌, length, refl, set, arith, ap, sym, ◌∙◌, subst}
use Rattle.std.specs.Prelude.{slice_index}
use Rattle.std.proofs.lemmas.List.{get_or_read}
use Rattle.sym_machine.specs.declared.word.SymByte.{SymByte}
use Rattle.sym_machine.specs.Pages.{IsInPool, IsPooled, IsSame, Pooled, page_cell, page_of, cells_wanted}
use Rattle.sym_machine.specs.declared.page.Page.{Page}
use Rattle.sym_machine.specs.declared.page.Page.TheVariants.{Numbers, Cells}
use Rattle.sym_machine.specs.declared.word.SymByte.TheVariants.{Num, Undef}
use Rattle.sym_machine.proofs.PageLaws.{cells_fit, length-pushed, pushed_new, pushed_old, took_cells}
use Rattle.sym_machine.proofs.pool.Pool.copy_numbers.Goals as goal

pub loop-k-init : goal.loop-k-init
loop-k-init c = record { pages = refl; numbers = refl; room = omega arith; long = omega arith; old = λ x lt. refl; new = λ x lt. absurd (omega (arith, lt)) }

pub unwrap-requires : goal.unwrap-requires
unwrap-requires c =
    let i = c.self.inside in
    let number = c.args.number in
    let p : Pooled = record { pages = i.pages.items; numbers = i.numbers.items; cells = i.cells.items; number_room = i.numbers.cap; cell_room = i.cells.cap } in
    let room : length i.cells.items + 4096 ≤ i.cells.cap =
    subst (λ (q : Pooled). IsPooled q → number < length q.pages → page_of q number ≡ Numbers c.args.m → length i.cells.items + 4096 ≤ i.cells.cap) c.self.view_is
    (λ is within from. cells_fit p is number within (ap cells_wanted from)) c.requires.pooled c.requires.within c.requires.from in
    c.push.ensures.succeeds (omega (arith, room, c.loop-k.invariant.long, c.loop-k.invariant.room, c.loop-k-test.true))

pub loop-k-preserved : goal.loop-k-preserved
loop-k-preserved c =
    let i = c.self.inside in
    let j = c.loop-k.self-inside in
    let k = c.loop-k.k in
    let kept = c.loop-k.invariant in
    let before = i.cells.items in
    let byte = c.index-byte.result.now in
    let given : ℕ → SymByte = λ x. Num (slice_index i.numbers.items (4096 * c.args.m + x)) in
    let inside : 4096 * c.args.m + 4096 ≤ length i.numbers.items =
    subst (λ (q : Pooled). IsPooled q → page_of q c.args.number ≡ Numbers c.args.m → 4096 * c.args.m + 4096 ≤ length i.numbers.items) c.self.view_is
    (λ is from. subst (λ (q : Page). IsInPool (record { pages = i.pages.items; numbers = i.numbers.items; cells = i.cells.items; number_room = i.numbers.cap; cell_room = i.cells.cap }) q) from (is.inside c.args.number)) c.requires.pooled c.requires.from in
    let same = ap (λ v. v.items) kept.numbers in
    let read : byte ≡ slice_index j.numbers.items (4096 * c.args.m + k) = get_or_read j.numbers.items (4096 * c.args.m + k) byte (omega (arith, inside, ap length same, c.loop-k-test.true)) c.index-byte.ensures 0 in
    let is : c.push.new.self.items ≡ j.cells.items ++ Num byte ∷ [] = search (c.push.ensures.items, c.unwrap.ensures) in
    record {
      pages = kept.pages;
      numbers = kept.numbers;
      room = omega (arith, kept.room, c.push.ensures.capacity);
      long = length-pushed before j.cells.items c.push.new.self.items k (Num byte) Undef given is kept.long;
      old = pushed_old before j.cells.items c.push.new.self.items k (Num byte) Undef given is kept.long kept.old;
      new = pushed_new before j.cells.items c.push.new.self.items k (Num byte) Undef given is kept.long (ap Num (read ∙ ap (λ l. slice_index l (4096 * c.args.m + k)) same)) kept.new;
    }

pub returns-clause-same : goal.returns-clause-same
returns-clause-same c =
    let i = c.self.inside in
    let j = c.loop-k.self-inside in
    let number = c.args.number in
    let p : Pooled = record { pages = i.pages.items; numbers = i.numbers.items; cells = i.cells.items; number_room = i.numbers.cap; cell_room = i.cells.cap } in
    let n : ℕ = c.len-n.result / 4096 in
    let all : c.loop-k.k ≡ 4096 = omega arith in
    let kept = c.loop-k.invariant in
    let p' : Pooled = record { pages = set i.pages.items number (Cells n); numbers = i.numbers.items; cells = j.cells.items; number_room = i.numbers.cap; cell_room = j.cells.cap } in
    let made : IsSame c.args.self.now p' =
    subst (λ (q : Pooled). IsPooled q → number < length q.pages → page_of q number ≡ Numbers c.args.m → IsSame q p') c.self.view_is
    (λ is within from. took_cells p is number within j.cells.items j.cells.cap n (omega arith) (ap cells_wanted from) (omega (arith, kept.long, all)) kept.old
    (λ x lt. kept.new x (omega (arith, lt, all)) ∙ ap (λ q. page_cell p q x) (sym from)) kept.room)
    c.requires.pooled c.requires.within c.requires.from in
    let seen : p' ≡ record { pages = set j.pages.items number (Cells n); numbers = j.numbers.items; cells = j.cells.items; number_room = j.numbers.cap; cell_room = j.cells.cap } =
    λ t. record { pages = set (sym kept.pages t).items number (Cells n); numbers = (sym kept.numbers t).items; cells = j.cells.items; number_room = (sym kept.numbers t).cap; cell_room = j.cells.cap } in
    subst (λ (q : Pooled). IsSame c.args.self.now q) seen made
