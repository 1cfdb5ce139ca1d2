use Rattle.std.proofs.Common.{length, ap, arith}
use Rattle.load_maker.proofs.CodeLaws.{few_statements}
use Rattle.load_maker.proofs.objects.start_parts.Goals as goal

pub code_sections-requires-clause-symbols : goal.code_sections-requires-clause-symbols
code_sections-requires-clause-symbols c = omega (arith, ap length c.requires.none, few_statements c.args.statements.now, c.requires.size)
