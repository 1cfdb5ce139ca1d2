use Rattle.std.proofs.Common.{◌∷◌, None, ap, refl, sym, ◌∙◌}
use Rattle.std.specs.Option.{option_copied}
use Rattle.text_lines.specs.Lines.{words_in}
use Rattle.devices.specs.Text.{line_output}
use Rattle.devices.proofs.LineLaws.{some_word}
use Rattle.devices.proofs.line.read_output.Goals as goal

pub returns-then-is_some : goal.returns-then-is_some
returns-then-is_some c =
    sym (ap (λ w. line_output (words_in (option_copied w))) c.in-Some.is
    ∙ ap line_output c.split_word.ensures.words
    ∙ some_word (λ ws. line_output (c.split_word.result.0.now ∷ ws)) None (λ w ws. refl) c.split_word.result.1 (sym c.if-is_some.ensures))
