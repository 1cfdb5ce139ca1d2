use Rattle.std.proofs.Common.{◌-◌, ◌++◌, replicate, take, ap₂, ◌∙◌}
use Rattle.sym_machine.specs.declared.word.SymByte.TheVariants.{Undef}
use Rattle.sym_machine.proofs.PageLaws.{first_page}
use Rattle.sym_machine.proofs.pool.Pool.new.Goals as goal

pub returns-clause-numbers : goal.returns-clause-numbers
returns-clause-numbers c =
    let empty = c.in_ok-numbers.ensures in
    first_page c.resize-2.new.self.items 0 (c.in_ok-resize-2.ensures.items ∙ ap₂ (λ xs n. take 4096 xs ++ replicate (4096 - n) 0) empty.items empty.len)

pub returns-clause-cells : goal.returns-clause-cells
returns-clause-cells c =
    let empty = c.in_ok-cells.ensures in
    first_page c.resize-3.new.self.items Undef (c.in_ok-resize-3.ensures.items ∙ ap₂ (λ xs n. take 4096 xs ++ replicate (4096 - n) Undef) empty.items empty.len)
