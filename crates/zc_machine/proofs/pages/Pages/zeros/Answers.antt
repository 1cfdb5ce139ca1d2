use Rattle.std.proofs.Common.{◌≡◌, ◌-◌, ◌++◌, [], replicate, take, ap, ap₂, ◌∙◌, arith}
use Rattle.std.proofs.lemmas.List.{take_all}
use Rattle.zc_machine.specs.Invariants.Pool.{pooled_bytes}
use Rattle.zc_machine.proofs.PoolLaws.{blank_cells}
use Rattle.zc_machine.proofs.pages.Pages.zeros.Goals as goal

pub returns : goal.returns
returns c =
    let count = c.div_ceil-count.result in
    let none = c.new-table.ensures in
    let empty = c.in_ok-pool.ensures in
    let table : c.resize.new.self.items ≡ replicate count 0 =
    c.in_ok-resize.ensures.items
    ∙ ap₂ (λ xs n. take count xs ++ replicate (count - n) 0) none.items none.len
    ∙ ap₂ (λ xs n. xs ++ replicate n 0) (take_all count [] (omega arith)) (omega arith) in
    let pool : c.resize-2.new.self.items ≡ replicate 4096 0 =
    c.in_ok-resize-2.ensures.items
    ∙ ap₂ (λ xs n. take 4096 xs ++ replicate (4096 - n) 0) empty.items empty.len
    ∙ ap (λ xs. xs ++ replicate 4096 0) (take_all 4096 [] (omega arith)) in
    (λ i. record { skip = c.args.skip; cells = pooled_bytes (table i) (pool i) c.args.skip c.args.size })
    ∙ (λ i. record { skip = c.args.skip; cells = blank_cells count c.args.skip c.args.size i })
