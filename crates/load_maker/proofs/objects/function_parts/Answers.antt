use Rattle.std.proofs.Common.{length, ap, ◌∙◌, arith}
use Rattle.std.proofs.lemmas.List.FromFn.{length-range_with_len}
use Rattle.load_maker.proofs.CodeLaws.{few_statements}
use Rattle.load_maker.proofs.NamedLaws.{named_many}
use Rattle.load_maker.proofs.objects.function_parts.Goals as goal

pub code_sections-requires-clause-symbols : goal.code_sections-requires-clause-symbols
code_sections-requires-clause-symbols c =
    omega (
      arith,
      ap length c.in_ok-named.ensures,
      length-range_with_len c.args.first (length c.args.bodies.now),
      few_statements c.args.statements.now,
      c.requires.number,
      c.requires.size,
    )

pub object_symbols-requires-clause-named : goal.object_symbols-requires-clause-named
object_symbols-requires-clause-named c =
    omega (
      arith,
      ap length (c.as_slice.ensures.keys ∙ c.in_ok-sections.ensures.named),
      named_many c.in_ok-named.named.keys c.args.statements.now,
      ap length c.in_ok-named.ensures,
      length-range_with_len c.args.first (length c.args.bodies.now),
    )
