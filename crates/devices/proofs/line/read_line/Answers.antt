use Rattle.std.proofs.Common.{◌≡◌, ℕ, true, false, List, ap, sym, ◌∙◌}
use Rattle.std.specs.Prelude.{bytes_eq, codes}
use Rattle.std.specs.Option.{option_copied}
use Rattle.text_lines.specs.Lines.{words_in, words_of}
use Rattle.devices.proofs.LineLaws.{is_answers, is_device, is_last, is_none_of_these, is_output, is_registers_line, is_reset_line}
use Rattle.devices.proofs.line.read_line.Goals as goal

same_word : (first text wanted : List ℕ) → text ≡ wanted → true ≡ bytes_eq first text → bytes_eq first wanted ≡ true
same_word first text wanted is same = ap (bytes_eq first) (sym is) ∙ sym same

other_word : (first text wanted : List ℕ) → text ≡ wanted → false ≡ bytes_eq first text → bytes_eq first wanted ≡ false
other_word first text wanted is other = ap (bytes_eq first) (sym is) ∙ sym other

pub returns-then-eq : goal.returns-then-eq
returns-then-eq c =
    let first = c.split_word.result.0.now in
    c.read_range.ensures
    ∙ sym (is_device (words_of c.args.line.now) first (words_in (option_copied c.split_word.result.1)) c.split_word.ensures.words
    (same_word first c.as_slice.result.now (codes "device") c.as_slice.ensures c.if-eq.ensures))

pub returns-then-eq-2 : goal.returns-then-eq-2
returns-then-eq-2 c =
    let first = c.split_word.result.0.now in
    c.read_alone.ensures
    ∙ sym (is_registers_line (words_of c.args.line.now) first (words_in (option_copied c.split_word.result.1)) c.split_word.ensures.words
    (other_word first c.as_slice.result.now (codes "device") c.as_slice.ensures c.if-eq.ensures)
    (same_word first c.as_slice-2.result.now (codes "registers") c.as_slice-2.ensures c.if-eq-2.ensures))

pub returns-then-eq-3 : goal.returns-then-eq-3
returns-then-eq-3 c =
    let first = c.split_word.result.0.now in
    c.read_alone-then-eq-3.ensures
    ∙ sym (is_reset_line (words_of c.args.line.now) first (words_in (option_copied c.split_word.result.1)) c.split_word.ensures.words
    (other_word first c.as_slice.result.now (codes "device") c.as_slice.ensures c.if-eq.ensures)
    (other_word first c.as_slice-2.result.now (codes "registers") c.as_slice-2.ensures c.if-eq-2.ensures)
    (same_word first c.as_slice-3.result.now (codes "reset") c.as_slice-3.ensures c.if-eq-3.ensures))

pub returns-then-eq-4 : goal.returns-then-eq-4
returns-then-eq-4 c =
    let first = c.split_word.result.0.now in
    c.read_output.ensures
    ∙ sym (is_output (words_of c.args.line.now) first (words_in (option_copied c.split_word.result.1)) c.split_word.ensures.words
    (other_word first c.as_slice.result.now (codes "device") c.as_slice.ensures c.if-eq.ensures)
    (other_word first c.as_slice-2.result.now (codes "registers") c.as_slice-2.ensures c.if-eq-2.ensures)
    (other_word first c.as_slice-3.result.now (codes "reset") c.as_slice-3.ensures c.if-eq-3.ensures)
    (same_word first c.as_slice-4.result.now (codes "output") c.as_slice-4.ensures c.if-eq-4.ensures))

pub returns-then-eq-5 : goal.returns-then-eq-5
returns-then-eq-5 c =
    let first = c.split_word.result.0.now in
    rw (is_answers (words_of c.args.line.now) first (words_in (option_copied c.split_word.result.1)) c.split_word.ensures.words
    (other_word first c.as_slice.result.now (codes "device") c.as_slice.ensures c.if-eq.ensures)
    (other_word first c.as_slice-2.result.now (codes "registers") c.as_slice-2.ensures c.if-eq-2.ensures)
    (other_word first c.as_slice-3.result.now (codes "reset") c.as_slice-3.ensures c.if-eq-3.ensures)
    (other_word first c.as_slice-4.result.now (codes "output") c.as_slice-4.ensures c.if-eq-4.ensures)
    (same_word first c.as_slice-5.result.now (codes "answer") c.as_slice-5.ensures c.if-eq-5.ensures)) c.read_answer.ensures

pub returns-then-eq-6 : goal.returns-then-eq-6
returns-then-eq-6 c =
    let first = c.split_word.result.0.now in
    rw (is_last (words_of c.args.line.now) first (words_in (option_copied c.split_word.result.1)) c.split_word.ensures.words
    (other_word first c.as_slice.result.now (codes "device") c.as_slice.ensures c.if-eq.ensures)
    (other_word first c.as_slice-2.result.now (codes "registers") c.as_slice-2.ensures c.if-eq-2.ensures)
    (other_word first c.as_slice-3.result.now (codes "reset") c.as_slice-3.ensures c.if-eq-3.ensures)
    (other_word first c.as_slice-4.result.now (codes "output") c.as_slice-4.ensures c.if-eq-4.ensures)
    (other_word first c.as_slice-5.result.now (codes "answer") c.as_slice-5.ensures c.if-eq-5.ensures)
    (same_word first c.as_slice-6.result.now (codes "then") c.as_slice-6.ensures c.if-eq-6.ensures)) c.read_then.ensures

pub returns : goal.returns
returns c =
    let first = c.split_word.result.0.now in
    sym (is_none_of_these (words_of c.args.line.now) first (words_in (option_copied c.split_word.result.1)) c.split_word.ensures.words
    (other_word first c.as_slice.result.now (codes "device") c.as_slice.ensures c.if-eq.ensures)
    (other_word first c.as_slice-2.result.now (codes "registers") c.as_slice-2.ensures c.if-eq-2.ensures)
    (other_word first c.as_slice-3.result.now (codes "reset") c.as_slice-3.ensures c.if-eq-3.ensures)
    (other_word first c.as_slice-4.result.now (codes "output") c.as_slice-4.ensures c.if-eq-4.ensures)
    (other_word first c.as_slice-5.result.now (codes "answer") c.as_slice-5.ensures c.if-eq-5.ensures)
    (other_word first c.as_slice-6.result.now (codes "then") c.as_slice-6.ensures c.if-eq-6.ensures))
