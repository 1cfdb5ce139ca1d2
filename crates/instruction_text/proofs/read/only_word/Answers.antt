-- There are two words at least.
use Rattle.std.proofs.Common.{◌∷◌, ap, sym, ◌∙◌}
use Rattle.std.specs.Option.{option_copied}
use Rattle.text_lines.specs.Lines.{words_in}
use Rattle.instruction_text.specs.Reading.{only_word}
use Rattle.instruction_text.proofs.ReadLaws.{two_words}
use Rattle.instruction_text.proofs.read.only_word.Goals as goal

pub returns-in-Some : goal.returns-in-Some
returns-in-Some c =
    let word = c.split_word.result.0.now in
    sym (ap (λ o. only_word (words_in (option_copied o))) c.in_ok-rest.was
    ∙ ap only_word c.split_word.ensures.words
    ∙ ap (λ o. only_word (word ∷ words_in (option_copied o))) c.in-Some.is
    ∙ two_words word c.in-Some.field-0.now)
