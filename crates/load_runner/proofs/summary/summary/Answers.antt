use Rattle.std.proofs.Common.{◌∙◌, ℕ, [], ◌∷◌, ◌++◌, Vec, ap}
use Rattle.std.specs.Prelude.{codes}
use Rattle.std.specs.String.{string_bytes}
use Rattle.std.specs.declared.alloc.Global.{Global}
use Rattle.pick_check.specs.Text.{line_with}
use Rattle.load_runner.proofs.SummaryLaws.{put_together}
use Rattle.load_runner.proofs.summary.summary.Goals as goal

pub returns : goal.returns
returns c =
    let functions =
    c.in_ok-push_line.ensures ∙ ap (λ t. t ++ (line_with (codes "functions") (c.from.result ∷ []) ++ 10 ∷ [])) c.new-text.ensures.bytes
    ∙ ap (λ n. line_with (codes "functions") (n ∷ []) ++ 10 ∷ []) c.from.ensures in
    ap (λ (v : Vec ℕ Global). v.items) c.into_bytes.ensures.value
    ∙ put_together c.args.functions c.args.objects c.args.load.now (string_bytes c.push_line.new.text) (string_bytes c.push_line-2.new.text)
    (string_bytes c.push_numbers.new.text) (string_bytes c.push_exits.new.text) functions c.in_ok-push_line-2.ensures c.in_ok-push_numbers.ensures
    c.in_ok-push_exits.ensures
