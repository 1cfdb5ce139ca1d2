use Rattle.std.proofs.Common.{◌-◌, ◌≡◌, ap, ◌∙◌, arith}
use Rattle.std.proofs.lemmas.List.Sums.{sum_by_more}
use Rattle.elf32_read.specs.Object.{object_fault}
use Rattle.elf32_read.specs.Symbols.{symbol_count}
use Rattle.elf32_read.proofs.Faultless.{few_symbols}
use Rattle.psabi_sym.proofs.symbols.count_of.Goals as goal

pub loop-object-preserved : goal.loop-object-preserved
loop-object-preserved c =
    let files = c.args.objects.now in
    let k = c.loop-object.object-index in
    let file = c.object-item.result in
    let count : c.saturating_sub.result ≡ symbol_count file - 1 = omega (arith, c.saturating_sub.ensures, c.symbol_count.ensures, ap symbol_count c.object.ensures.object) in
    record {
      sum = omega (arith, count, c.loop-object.invariant.sum, sum_by_more (λ f. symbol_count f - 1) files k file (omega arith), ap (λ f. symbol_count f - 1) c.object-item.is);
      few = omega (arith, c.loop-object.invariant.few, c.saturating_sub.ensures, c.symbol_count.ensures, few_symbols c.object.result (ap object_fault c.object.ensures.object ∙ c.object.ensures.faultless));
    }
