use Rattle.std.proofs.Common.{◌+◌, ◌<◌, ◌≤◌, Some, length, drop, take, ap, append-nil, arith, rules, sym, ◌∙◌}
use Rattle.std.specs.Option.{option_copied}
use Rattle.std.proofs.lemmas.Bool.{not-false, not-true}
use Rattle.std.proofs.lemmas.List.{length-replicate, take_all, take_more_set}
use Rattle.text_lines.specs.Lines.{words_in}
use Rattle.pick_check.specs.Text.{numbers_of}
use Rattle.pick_check.proofs.LineLaws.{line_read, no_number, no_word, no_words, numbers_named, one_more, one_number, other_name, some_words, with_none, with_numbers}
use Rattle.pick_check.proofs.line.read_numbers.Goals as goal

pub returns-then-ne-clause-value : goal.returns-then-ne-clause-value
returns-then-ne-clause-value g c =
    sym (other_name c.args.name.now c.args.limits c.args.line.now c.split_word.result.0.now (words_in (option_copied c.split_word.result.1)) c.split_word.ensures.words (not-true _ (sym c.if-ne.ensures)))

pub loop-k-init : goal.loop-k-init
loop-k-init g c = record {
  so_far = numbers_named c.args.name.now c.args.limits c.args.line.now c.split_word.result.0.now (words_in (option_copied c.split_word.result.1)) c.split_word.ensures.words (not-false _ (sym c.if-ne.ensures)) ∙ sym (with_none _);
  size = length-replicate g.row.N 0;
}

pub returns-in_err-rest-clause-value : goal.returns-in_err-rest-clause-value
returns-in_err-rest-clause-value g c =
    let lt : c.loop-k.k < length c.args.limits = first_of (omega arith, search rules) in
    rw c.from_residual.ensures (sym (c.loop-k.invariant.so_far
    ∙ ap (λ o. with_numbers (take c.loop-k.k c.loop-k.numbers) (numbers_of (drop c.loop-k.k c.args.limits) (words_in o))) (ap option_copied c.in_err-rest.was)
    ∙ ap (with_numbers (take c.loop-k.k c.loop-k.numbers)) (no_word c.args.limits c.loop-k.k lt)))

pub returns-in_err-numbers-clause-value : goal.returns-in_err-numbers-clause-value
returns-in_err-numbers-clause-value g c =
    let lt : c.loop-k.k < length c.args.limits = first_of (omega arith, search rules) in
    let others = words_in (option_copied c.split_word-in-loop-k.result.1) in
    rw c.from_residual-in_err-numbers.ensures (sym (c.loop-k.invariant.so_far
    ∙ ap (λ o. with_numbers (take c.loop-k.k c.loop-k.numbers) (numbers_of (drop c.loop-k.k c.args.limits) (words_in o))) (ap option_copied c.in_ok-rest.was)
    ∙ ap (λ ws. with_numbers (take c.loop-k.k c.loop-k.numbers) (numbers_of (drop c.loop-k.k c.args.limits) ws)) c.split_word-in-loop-k.ensures.words
    ∙ ap (with_numbers (take c.loop-k.k c.loop-k.numbers)) (no_number c.args.limits c.loop-k.k c.split_word-in-loop-k.result.0.now others lt (sym c.in_err-numbers.ensures.value))))

pub loop-k-preserved : goal.loop-k-preserved
loop-k-preserved g c =
    let lt : c.loop-k.k < length c.args.limits = first_of (omega arith, search rules) in
    let within : c.loop-k.k < length c.loop-k.numbers = omega (arith, c.loop-k.invariant.size, c.loop-k-test.true) in
    let others = words_in (option_copied c.split_word-in-loop-k.result.1) in
    let so_far = take c.loop-k.k c.loop-k.numbers in
    let left = numbers_of (drop (c.loop-k.k + 1) c.args.limits) others in
    record {
      so_far = c.loop-k.invariant.so_far
          ∙ ap (λ o. with_numbers so_far (numbers_of (drop c.loop-k.k c.args.limits) (words_in o))) (ap option_copied c.in_ok-rest.was)
          ∙ ap (λ ws. with_numbers so_far (numbers_of (drop c.loop-k.k c.args.limits) ws)) c.split_word-in-loop-k.ensures.words
          ∙ ap (with_numbers so_far) (one_number c.args.limits c.loop-k.k c.split_word-in-loop-k.result.0.now others c.in_ok-numbers.field-0 lt (sym c.in_ok-numbers.ensures.value))
          ∙ one_more so_far c.in_ok-numbers.field-0 left
          ∙ ap (λ ns. with_numbers ns left) (sym (take_more_set c.loop-k.numbers c.loop-k.k c.in_ok-numbers.field-0 within));
      size = search rules;
    }

pub returns-then-is_some-clause-value : goal.returns-then-is_some-clause-value
returns-then-is_some-clause-value g c =
    let past : length c.args.limits ≤ c.loop-k.k = first_of (omega arith, search rules) in
    sym (c.loop-k.invariant.so_far ∙ ap (with_numbers (take c.loop-k.k c.loop-k.numbers)) (some_words c.args.limits c.loop-k.k c.loop-k.rest past c.if-is_some.ensures))

pub returns-clause-value : goal.returns-clause-value
returns-clause-value g c =
    let past : length c.args.limits ≤ c.loop-k.k = first_of (omega arith, search rules) in
    let all : length c.loop-k.numbers ≤ c.loop-k.k = omega (arith, c.loop-k.invariant.size, c.loop-k-test.false) in
    sym (c.loop-k.invariant.so_far
    ∙ ap (with_numbers (take c.loop-k.k c.loop-k.numbers)) (no_words c.args.limits c.loop-k.k c.loop-k.rest past c.if-is_some.ensures)
    ∙ ap Some (append-nil (take c.loop-k.k c.loop-k.numbers) ∙ take_all c.loop-k.k c.loop-k.numbers all))

pub returns-clause-within : goal.returns-clause-within
returns-clause-within g c =
    let past : length c.args.limits ≤ c.loop-k.k = first_of (omega arith, search rules) in
    let all : length c.loop-k.numbers ≤ c.loop-k.k = omega (arith, c.loop-k.invariant.size, c.loop-k-test.false) in
    (line_read c.args.name.now c.args.limits c.args.line.now c.loop-k.numbers (c.loop-k.invariant.so_far
    ∙ ap (with_numbers (take c.loop-k.k c.loop-k.numbers)) (no_words c.args.limits c.loop-k.k c.loop-k.rest past c.if-is_some.ensures)
    ∙ ap Some (append-nil (take c.loop-k.k c.loop-k.numbers) ∙ take_all c.loop-k.k c.loop-k.numbers all))).1
