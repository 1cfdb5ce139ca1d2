use Rattle.std.proofs.Common.{◌≡◌, ℕ, ◌+◌, ◌*◌, ◌/◌, ◌%◌, ◌<◌, length, get_or, ap, sym, ◌∙◌, subst, arith}
use Rattle.std.proofs.lemmas.List.{with_items_is}
use Rattle.rv_decode.specs.Memory.{written}
use Rattle.sym_machine.specs.declared.page.Page.TheVariants.{Cells}
use Rattle.sym_machine.specs.declared.word.SymByte.{SymByte}
use Rattle.sym_machine.specs.declared.word.SymByte.TheVariants.{Undef}
use Rattle.sym_machine.specs.Pages.{IsMade, IsSame, Pooled, page_of}
use Rattle.sym_machine.proofs.PageLaws.{same_made, wrote_cells}
use Rattle.sym_machine.proofs.pool.Pool.clear_page.Goals as goal

pub returns-then-not-is_undefined : goal.returns-then-not-is_undefined
returns-then-not-is_undefined c =
    let i = c.self.inside in
    let p : Pooled = record { pages = i.pages.items; numbers = i.numbers.items; cells = i.cells.items; number_room = i.numbers.cap; cell_room = i.cells.cap } in
    let f : ℕ → SymByte → SymByte = written c.args.at (c.args.count) (λ _. Undef) in
    let same : IsSame c.args.self.now p = subst (λ (q : Pooled). IsSame c.args.self.now q) (sym c.self.view_is) c.own_cells-n.ensures.same in
    let here : page_of p (c.args.at / 4096) ≡ Cells c.own_cells-n.result = ap (λ (q : Pooled). page_of q (c.args.at / 4096)) c.self.view_is ∙ c.own_cells-n.ensures.page in
    let new = c.fill_up.new.cells in
    let was = c.as_mut_slice.ensures.value in
    let long : length new ≡ length i.cells.items = c.fill_up.ensures.len ∙ ap length was in
    let each = subst (λ l. (j : ℕ) (d : SymByte) → j < length l → get_or new j d ≡ written (4096 * c.own_cells-n.result + c.args.at % 4096) c.args.count (λ _. Undef) j (get_or l j d)) was c.fill_up.ensures.each in
    let size : length new ≡ i.cells.len = omega (arith, long) in
    let made : IsMade f c.args.self.now (record p { cells = new }) = same_made f c.args.self.now p (record p { cells = new }) same
    (wrote_cells p same.pooled c.args.at c.own_cells-n.result c.own_cells-n.ensures.own here c.args.count (λ _. Undef) new c.requires.page long each) in
    subst (λ l. IsMade f c.args.self.now (record p { cells = l })) (sym (with_items_is i.cells new size)) made
