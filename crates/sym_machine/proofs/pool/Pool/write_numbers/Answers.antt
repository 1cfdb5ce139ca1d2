use Rattle.std.proofs.Common.{◌≡◌, ℕ, ◌+◌, ◌*◌, ◌/◌, ◌%◌, length, map, get_or, ap, sym, ◌∙◌, subst, arith}
use Rattle.std.proofs.lemmas.List.{with_items_is}
use Rattle.rv_decode.specs.Memory.{written}
use Rattle.sym_machine.specs.declared.page.Page.TheVariants.{Numbers, Cells}
use Rattle.sym_machine.specs.declared.word.SymByte.{SymByte}
use Rattle.sym_machine.specs.declared.word.SymByte.TheVariants.{Num, Undef}
use Rattle.sym_machine.specs.Pages.{AreBytesWritten, AreCellsWritten, IsMade, IsSame, Pooled, page_of}
use Rattle.sym_machine.proofs.PageLaws.{same_made, wrote_cells, wrote_numbers}
use Rattle.std.proofs.lemmas.List.{length-map}
use Rattle.sym_machine.proofs.pool.Pool.write_numbers.Goals as goal

pub returns-in-Numbers : goal.returns-in-Numbers
returns-in-Numbers c =
    let i = c.self.inside in
    let p : Pooled = record { pages = i.pages.items; numbers = i.numbers.items; cells = i.cells.items; number_room = i.numbers.cap; cell_room = i.cells.cap } in
    let f : ℕ → SymByte → SymByte = written c.args.at (length (map Num c.args.numbers.now)) (λ j. get_or (map Num c.args.numbers.now) j Undef) in
    let same : IsSame c.args.self.now p = subst (λ (q : Pooled). IsSame c.args.self.now q) (sym c.self.view_is) c.own.ensures.same in
    let here : page_of p (c.args.at / 4096) ≡ Numbers c.in-Numbers.n = ap (λ (q : Pooled). page_of q (c.args.at / 4096)) c.self.view_is ∙ c.in-Numbers.ensures.page in
    let new = c.write_bytes.new.held in
    let was = c.as_mut_slice.ensures.value in
    let long : length new ≡ length i.numbers.items = c.write_bytes.ensures.len ∙ ap length was in
    let each = subst (λ l. AreBytesWritten (4096 * c.in-Numbers.n + c.args.at % 4096) c.args.numbers.now l new) was c.write_bytes.ensures.each in
    let size : length new ≡ i.numbers.len = omega (arith, long) in
    let made : IsMade f c.args.self.now (record p { numbers = new }) = same_made f c.args.self.now p (record p { numbers = new }) same
    (wrote_numbers p same.pooled c.args.at c.in-Numbers.n c.in-Numbers.ensures.own here c.args.numbers.now new c.requires.page long each) in
    subst (λ l. IsMade f c.args.self.now (record p { numbers = l })) (sym (with_items_is i.numbers new size)) made

pub returns-in-Cells : goal.returns-in-Cells
returns-in-Cells c =
    let i = c.self.inside in
    let p : Pooled = record { pages = i.pages.items; numbers = i.numbers.items; cells = i.cells.items; number_room = i.numbers.cap; cell_room = i.cells.cap } in
    let f : ℕ → SymByte → SymByte = written c.args.at (length (map Num c.args.numbers.now)) (λ j. get_or (map Num c.args.numbers.now) j Undef) in
    let same : IsSame c.args.self.now p = subst (λ (q : Pooled). IsSame c.args.self.now q) (sym c.self.view_is) c.own.ensures.same in
    let here : page_of p (c.args.at / 4096) ≡ Cells c.in-Cells.n = ap (λ (q : Pooled). page_of q (c.args.at / 4096)) c.self.view_is ∙ c.in-Cells.ensures.page in
    let new = c.write_up.new.cells in
    let was = c.as_mut_slice-in-Cells.ensures.value in
    let long : length new ≡ length i.cells.items = c.write_up.ensures.len ∙ ap length was in
    let each = subst (λ l. AreCellsWritten (4096 * c.in-Cells.n + c.args.at % 4096) (map Num c.args.numbers.now) l new) was c.write_up.ensures.each in
    let size : length new ≡ i.cells.len = omega (arith, long) in
    let made : IsMade f c.args.self.now (record p { cells = new }) = same_made f c.args.self.now p (record p { cells = new }) same
    (wrote_cells p same.pooled c.args.at c.in-Cells.n c.in-Cells.ensures.own here (length (map Num c.args.numbers.now)) (λ j. get_or (map Num c.args.numbers.now) j Undef) new (omega (arith, c.requires.page, length-map c.args.numbers.now Num)) long each) in
    subst (λ l. IsMade f c.args.self.now (record p { cells = l })) (sym (with_items_is i.cells new size)) made
