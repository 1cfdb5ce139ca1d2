use Rattle.std.proofs.Common.{◌-◌, ap, ◌∙◌, arith}
use Rattle.zc_base.specs.declared.counts.Counts.{Counts}
use Rattle.psabi_sym.specs.Inputs.{parsed}
use Rattle.block_cut.specs.PlainLayout.{plain_counts, plain_end}
use Rattle.block_cut.proofs.FaultLaws.{faultless}
use Rattle.block_cut.proofs.PlainLaws.{end_bounds}
use Rattle.block_cut.proofs.cut.Cut.counts.Goals as goal

pub overflow_sub-result : goal.overflow_sub-result
unfolding plain_end
overflow_sub-result c =
    let inputs = c.self.inside.objects in
    let is = c.self.invariant in
    omega (arith, (end_bounds inputs (faultless inputs is.faultless).gathered is.is_map).low, is.tables_are.span.end_is, ap (λ m. m.text) c.map.ensures.value)

pub returns : goal.returns
unfolding plain_end
returns c =
    let inputs = c.self.inside.objects in
    let is = c.self.invariant.tables_are.span in
    let text = ap (λ m. m.text) c.map.ensures.value in
    let own : Counts = plain_counts (parsed inputs) in
    (λ j. record {
      text = is.end_is j - text j;
      items = is.count_is j;
      short = own.short;
      long = own.long;
      pushes = own.pushes;
      pops = own.pops;
      moves = own.moves;
      table = own.table;
    })
    ∙ ap (λ v. plain_counts (parsed v)) c.self.view_is
