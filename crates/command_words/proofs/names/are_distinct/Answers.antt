use Rattle.std.proofs.Common.{rules, ◌∙◌, ap, length, nat_eq}
use Rattle.std.specs.BTreeSet as sorted
use Rattle.std.specs.Cmp.Lexicographic.{on_texts, slice_cmp}
use Rattle.std.specs.Ordering.{nat_cmp}
use Rattle.std.proofs.lemmas.Map.Views.{btree_set_len-from_list}
use Rattle.command_words.proofs.NameLaws.{count_tells}
use Rattle.command_words.proofs.names.are_distinct.Goals as goal

pub returns : goal.returns
returns c =
    let names = c.args.names.now in
    let made : sorted.IsFromIterResult (λ x y. slice_cmp nat_cmp x.now y.now) names c.in_ok-distinct.distinct = search rules in
    ap (λ n. nat_eq n (length names)) (c.len.ensures.len ∙ btree_set_len-from_list {R = λ x y. slice_cmp nat_cmp x.now y.now} (on_texts (λ x. x.now)) names c.in_ok-distinct.distinct made)
    ∙ count_tells names
