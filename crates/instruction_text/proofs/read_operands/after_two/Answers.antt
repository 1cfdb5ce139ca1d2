-- There are four words at least.
use Rattle.std.proofs.Common.{◌∷◌, ap, sym, ◌∙◌}
use Rattle.std.specs.Option.{option_copied}
use Rattle.text_lines.specs.Lines.{words_in}
use Rattle.instruction_text.specs.Operands.{operands_after_two}
use Rattle.instruction_text.proofs.ReadLaws.{four_words}
use Rattle.instruction_text.proofs.read_operands.after_two.Goals as goal

pub returns-in-Some-rest : goal.returns-in-Some-rest
returns-in-Some-rest c =
    let word = c.split_word.result.0.now in
    sym (ap (λ o. operands_after_two c.args.first c.args.second (words_in (option_copied o))) c.in-Some.is
    ∙ ap (operands_after_two c.args.first c.args.second) c.split_word.ensures.words
    ∙ ap (λ o. operands_after_two c.args.first c.args.second (word ∷ words_in (option_copied o))) c.in-Some-rest.is
    ∙ four_words c.args.first c.args.second c.in_ok-third.third word c.in-Some-rest.field-0.now (sym c.read_operand.ensures ∙ c.in_ok-third.was))
