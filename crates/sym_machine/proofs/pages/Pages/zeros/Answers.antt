use Rattle.std.proofs.Common.{◌≤◌, ◌^◌, refl, arith}
use Rattle.sym_machine.specs.declared.page.Page.TheVariants.{Numbers}
use Rattle.sym_machine.specs.declared.word.SymByte.TheVariants.{Num}
use Rattle.sym_machine.proofs.PageLaws.{all_alike, fresh, fresh_length, fresh_zero}
use Rattle.sym_machine.proofs.pages.Pages.zeros.Goals as goal

pub invariant_of-result : goal.invariant_of-result
invariant_of-result c =
    let p = c.in_ok-pool.pool in
    let e = c.in_ok-pool.ensures in
    let few : c.div_ceil.result ≤ 2 ^ 40 = omega (arith, c.div_ceil.ensures, c.requires) in
    let long = fresh_length p c.div_ceil.result (Numbers 0) refl e.pages e.numbers e.cells e.number_room e.cell_room few in
    record {
      pooled = fresh p c.div_ceil.result (Numbers 0) refl e.pages e.numbers e.cells e.number_room e.cell_room few;
      covered = omega (arith, c.div_ceil.ensures, long);
    }

pub returns : goal.returns
returns c =
    let p = c.in_ok-pool.pool in
    let e = c.in_ok-pool.ensures in
    let few : c.div_ceil.result ≤ 2 ^ 40 = omega (arith, c.div_ceil.ensures, c.requires) in
    all_alike p c.args.size (Num 0) (λ i lt. fresh_zero p c.div_ceil.result (Numbers 0) refl e.pages e.numbers e.cells e.number_room e.cell_room few refl i (omega (arith, c.div_ceil.ensures, lt)))
