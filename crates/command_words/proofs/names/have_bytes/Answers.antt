use Rattle.std.proofs.Common.{rules, tests, ◌==◌, ◌∙◌, sym, length, not}
use Rattle.std.proofs.lemmas.Iterator.{YieldsList-from_slice}
use Rattle.std.proofs.lemmas.Iterator.Search.{all_from_yields_List}
use Rattle.std.proofs.lemmas.List.Folds.{list_all-map}
use Rattle.command_words.proofs.names.have_bytes.Goals as goal

pub returns : goal.returns
returns c =
    all_from_yields_List (λ name. not (length name.now == 0)) _ _ _ c.all.ensures.ran
    (YieldsList-from_slice c.args.names.now cc) (λ x b q k. search (rules, tests))
    ∙ sym (list_all-map (λ name. not (length name == 0)) (λ name. name.now) c.args.names.now)
