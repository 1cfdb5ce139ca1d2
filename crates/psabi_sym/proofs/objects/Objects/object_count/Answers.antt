use Rattle.std.proofs.Common.{arith}
use Rattle.psabi_sym.proofs.Gathered.{few_gathered}
use Rattle.psabi_sym.proofs.objects.Objects.object_count.Goals as goal

pub overflow_cast-result : goal.overflow_cast-result
overflow_cast-result c = omega (arith, few_gathered _ c.self.invariant.faultless, c.len.ensures, c.self.inside.objects.ok.0)

pub returns-clause-most : goal.returns-clause-most
returns-clause-most c = omega (arith, few_gathered _ c.self.invariant.faultless, c.len.ensures, c.self.inside.objects.ok.0)
