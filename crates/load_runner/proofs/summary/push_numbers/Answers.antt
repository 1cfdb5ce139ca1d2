-- The lines of the numbers, one by one.
use Rattle.std.proofs.Common.{◌∙◌, [], ◌∷◌, ◌++◌, ap, refl}
use Rattle.std.specs.Prelude.{codes}
use Rattle.std.specs.String.{string_bytes}
use Rattle.pick_check.specs.Text.{line_with}
use Rattle.load_runner.specs.Summary.{number_lines}
use Rattle.load_runner.proofs.SummaryLaws.{lines_added}
use Rattle.load_runner.proofs.summary.push_numbers.Goals as goal

pub returns : goal.returns
returns c =
    let load = c.args.load.now in
    let t0 = string_bytes c.args.text.now in
    let t1 = string_bytes c.push_line.new.text in
    let t2 = string_bytes c.push_line-2.new.text in
    let t3 = string_bytes c.push_line-3.new.text in
    let t4 = string_bytes c.push_line-4.new.text in
    let t5 = string_bytes c.push_line-5.new.text in
    lines_added t0 (number_lines load) t5 (
      t1,
      c.in_ok-push_line.ensures ∙ ap (λ n. t0 ++ (line_with (codes "plain text") (n ∷ []) ++ 10 ∷ [])) c.from.ensures,
      (
        t2,
        c.in_ok-push_line-2.ensures ∙ ap (λ n. t1 ++ (line_with (codes "zc text") (n ∷ []) ++ 10 ∷ [])) c.from-2.ensures,
        (
          t3,
          c.in_ok-push_line-3.ensures,
          (
            t4,
            c.in_ok-push_line-4.ensures,
            (t5, c.in_ok-push_line-5.ensures, refl),
          ),
        ),
      ),
    )
