use Rattle.std.proofs.Common.{sym, ◌∙◌, arith}
use Rattle.command_words.proofs.NumberLaws.{no_number}
use Rattle.command_words.proofs.number.number_in.Goals as goal

pub returns-in_default-2-clause-value : goal.returns-in_default-2-clause-value
returns-in_default-2-clause-value c = sym (no_number c.args.most c.args.word.now c.parse.result c.in_default.field-0 (omega arith) (sym c.is_number.ensures ∙ c.if-not-is_number.false) c.parse.ensures.value.0 c.in_default.is)
