use Rattle.std.proofs.Common.{◌≡◌, ℕ, true, false, List, ap, sym, ◌∙◌}
use Rattle.std.specs.Prelude.{bytes_eq, codes, not}
use Rattle.std.specs.Option.{option_copied}
use Rattle.std.proofs.lemmas.Bool.{not-false, not-true}
use Rattle.text_lines.specs.Lines.{words_in, words_of}
use Rattle.interrupt_plan.proofs.LineLaws.{bad_number, numbered, one_word, other_word, two_words}
use Rattle.interrupt_plan.proofs.line.read_cut.Goals as goal

differs : (first cut : List ℕ) → cut ≡ codes "cut" → true ≡ not (bytes_eq first cut) → bytes_eq first (codes "cut") ≡ false
differs first cut is other = ap (bytes_eq first) (sym is) ∙ not-true (bytes_eq first cut) (sym other)

agrees : (first cut : List ℕ) → cut ≡ codes "cut" → false ≡ not (bytes_eq first cut) → bytes_eq first (codes "cut") ≡ true
agrees first cut is same = ap (bytes_eq first) (sym is) ∙ not-false (bytes_eq first cut) (sym same)

pub returns-in_default : goal.returns-in_default
returns-in_default c = sym (one_word c.args.line.now c.split_word.result.0.now (option_copied c.split_word.result.1) c.split_word.ensures.words (ap option_copied c.in_default.is))

pub returns-then-ne : goal.returns-then-ne
returns-then-ne c =
    sym (other_word (words_of c.args.line.now) (words_in (option_copied c.split_word.result.1)) c.split_word.result.0.now c.split_word.ensures.words (differs c.split_word.result.0.now c.as_slice.result.now c.as_slice.ensures c.if-ne.ensures))

pub returns-in-None : goal.returns-in-None
returns-in-None c =
    sym (bad_number (words_of c.args.line.now) (words_in (option_copied c.split_word-2.result.1)) c.split_word.result.0.now c.split_word-2.result.0.now
    (two_words c.args.line.now c.split_word.result.0.now c.in-Some.rest.now c.split_word-2.result.0.now (option_copied c.split_word.result.1) (option_copied c.split_word-2.result.1) c.split_word.ensures.words (ap option_copied c.in-Some.is) c.split_word-2.ensures.words)
    (agrees c.split_word.result.0.now c.as_slice.result.now c.as_slice.ensures c.if-ne.ensures)
    (sym c.in-None.ensures.value))

pub returns-in-Some-read_number : goal.returns-in-Some-read_number
returns-in-Some-read_number c =
    rw (numbered (words_of c.args.line.now) (words_in (option_copied c.split_word-2.result.1)) c.split_word.result.0.now c.split_word-2.result.0.now
    (two_words c.args.line.now c.split_word.result.0.now c.in-Some.rest.now c.split_word-2.result.0.now (option_copied c.split_word.result.1) (option_copied c.split_word-2.result.1) c.split_word.ensures.words (ap option_copied c.in-Some.is) c.split_word-2.ensures.words)
    (agrees c.split_word.result.0.now c.as_slice.result.now c.as_slice.ensures c.if-ne.ensures)
    c.in-Some-read_number.at (sym c.in-Some-read_number.ensures.value)) c.read_parts.ensures
