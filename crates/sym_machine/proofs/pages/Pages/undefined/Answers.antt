use Rattle.std.proofs.Common.{◌≤◌, ◌^◌, refl, arith}
use Rattle.rv_decode.specs.Memory.{blank}
use Rattle.sym_machine.specs.declared.page.Page.TheVariants.{Cells}
use Rattle.sym_machine.specs.declared.word.SymByte.TheVariants.{Undef}
use Rattle.sym_machine.proofs.PageLaws.{all_alike, fresh, fresh_length, fresh_undefined}
use Rattle.sym_machine.proofs.pages.Pages.undefined.Goals as goal

pub invariant_of-result : goal.invariant_of-result
invariant_of-result c =
    let p = c.in_ok-pool.pool in
    let e = c.in_ok-pool.ensures in
    let few : c.div_ceil.result ≤ 2 ^ 40 = omega (arith, c.div_ceil.ensures, c.requires) in
    let long = fresh_length p c.div_ceil.result (Cells 0) refl e.pages e.numbers e.cells e.number_room e.cell_room few in
    record {
      pooled = fresh p c.div_ceil.result (Cells 0) refl e.pages e.numbers e.cells e.number_room e.cell_room few;
      covered = omega (arith, c.div_ceil.ensures, long);
    }

pub returns : goal.returns
unfolding blank
returns c =
    let p = c.in_ok-pool.pool in
    let e = c.in_ok-pool.ensures in
    let few : c.div_ceil.result ≤ 2 ^ 40 = omega (arith, c.div_ceil.ensures, c.requires) in
    all_alike p c.args.size (Undef) (λ i lt. fresh_undefined p c.div_ceil.result (Cells 0) refl e.pages e.numbers e.cells e.number_room e.cell_room few refl i (omega (arith, c.div_ceil.ensures, lt)))
