use Rattle.std.proofs.Common.{◌∷◌, None, ap, refl, sym, ◌∙◌}
use Rattle.std.specs.Option.{option_copied}
use Rattle.text_lines.specs.Lines.{words_in}
use Rattle.devices.specs.Text.{line_range}
use Rattle.devices.proofs.LineLaws.{no_word, range_read, some_word}
use Rattle.devices.proofs.line.read_range.Goals as goal

pub returns-then-is_some : goal.returns-then-is_some
returns-then-is_some c =
    sym (ap (λ w. line_range (words_in (option_copied w))) c.in-Some.is
    ∙ ap line_range c.split_word.ensures.words
    ∙ ap (λ w. line_range (c.split_word.result.0.now ∷ words_in (option_copied w))) c.in-Some-behind.is
    ∙ ap (λ ws. line_range (c.split_word.result.0.now ∷ ws)) c.split_word-2.ensures.words
    ∙ some_word (λ ws. line_range (c.split_word.result.0.now ∷ (c.split_word-2.result.0.now ∷ ws))) None (λ w ws. refl) c.split_word-2.result.1 (sym c.if-is_some.ensures))

pub returns : goal.returns
returns c =
    sym (ap (λ w. line_range (words_in (option_copied w))) c.in-Some.is
    ∙ ap line_range c.split_word.ensures.words
    ∙ ap (λ w. line_range (c.split_word.result.0.now ∷ words_in (option_copied w))) c.in-Some-behind.is
    ∙ ap (λ ws. line_range (c.split_word.result.0.now ∷ ws)) c.split_word-2.ensures.words
    ∙ ap (λ ws. line_range (c.split_word.result.0.now ∷ (c.split_word-2.result.0.now ∷ ws))) (no_word c.split_word-2.result.1 (sym c.if-is_some.ensures))
    ∙ range_read c.split_word.result.0.now c.split_word-2.result.0.now c.in_ok-at.at c.in_ok-size.size (sym c.in_ok-at.ensures.value) (sym c.in_ok-size.ensures.value))
