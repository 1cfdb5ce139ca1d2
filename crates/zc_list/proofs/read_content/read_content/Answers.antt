use Rattle.std.proofs.Common.{◌≡◌, ◌∙◌, ◌+◌, ◌-◌, ap, sym, arith, cond, eqb, length, Some, None}
use Rattle.std.specs.Prelude.{bytes_eq}
use Rattle.std.specs.Option.{option_copied, option_map}
use Rattle.text_lines.specs.Lines.{words_in}
use Rattle.zc_list.specs.Listing.{Instruction, Zeros}
use Rattle.zc_list.specs.Reader.{segment_with, state_at}
use Rattle.zc_list.specs.Spelled.{some_bytes}
use Rattle.zc_list.specs.declared.read_content.Stage.TheVariants.{Whole}
use Rattle.zc_list.proofs.ReadLaws.{carried, found_bytes, found_code, found_zeros, step_found, step_none, zeros_law}
use Rattle.zc_list.proofs.read_content.read_content.Goals as goal

pub returns-in_default-clause-step : goal.returns-in_default-clause-step
returns-in_default-clause-step c = λ done.
    let bytes = c.args.bytes.now.items in
    let at : c.from.result + c.len.result ≡ c.args.segment.head.at + length bytes = omega (arith, c.from.ensures, c.len.ensures) in
    step_none done c.args.segment.head bytes c.args.segment.last c.args.line.now (c.from.result + c.len.result) at c.in_default.ensures

pub returns-then-eq-clause-step : goal.returns-then-eq-clause-step
returns-then-eq-clause-step c =
    let bytes = c.args.bytes.now.items in
    let head = c.args.segment.head in
    let text = c.in-Some.text.now in
    let first = c.split_word.result.0.now in
    let words = words_in (option_copied c.split_word.result.1) in
    let at : c.from.result + c.len.result ≡ head.at + length bytes = omega (arith, c.from.ensures, c.len.ensures) in
    carried c.add_bytes.result head bytes c.add_bytes.new.bytes.items c.args.segment.last c.args.line.now (some_bytes words)
    (λ done. step_found done head bytes c.args.segment.last c.args.line.now (c.from.result + c.len.result) at text (some_bytes words) c.in-Some.ensures
    (found_bytes text first words c.split_word.ensures.words (ap (bytes_eq first) (sym c.as_slice.ensures) ∙ sym c.if-eq.ensures)))
    c.add_bytes.ensures.step

pub returns-in_default-read_zeros-clause-step : goal.returns-in_default-read_zeros-clause-step
returns-in_default-read_zeros-clause-step c = λ done.
    let bytes = c.args.bytes.now.items in
    let head = c.args.segment.head in
    let text = c.in-Some.text.now in
    let first = c.split_word.result.0.now in
    let words = words_in (option_copied c.split_word.result.1) in
    let at : c.from.result + c.len.result ≡ head.at + length bytes = omega (arith, c.from.ensures, c.len.ensures) in
    step_found done head bytes c.args.segment.last c.args.line.now (c.from.result + c.len.result) at text None c.in-Some.ensures
    (found_zeros text first words c.split_word.ensures.words (ap (bytes_eq first) (sym c.as_slice.ensures) ∙ sym c.if-eq.ensures) (ap (bytes_eq first) (sym c.as_slice-2.ensures) ∙ sym c.if-eq-2.ensures)
    ∙ sym c.in_default-read_zeros.ensures)

pub returns-then-eq-2-clause-step : goal.returns-then-eq-2-clause-step
returns-then-eq-2-clause-step c = λ done.
    let bytes = c.args.bytes.now.items in
    let head = c.args.segment.head in
    let text = c.in-Some.text.now in
    let first = c.split_word.result.0.now in
    let words = words_in (option_copied c.split_word.result.1) in
    let count = c.in-Some-read_zeros.count in
    let at : c.from.result + c.len.result ≡ head.at + length bytes = omega (arith, c.from.ensures, c.len.ensures) in
    step_found done head bytes c.args.segment.last c.args.line.now (c.from.result + c.len.result) at text (Some (Zeros count)) c.in-Some.ensures
    (found_zeros text first words c.split_word.ensures.words (ap (bytes_eq first) (sym c.as_slice.ensures) ∙ sym c.if-eq.ensures) (ap (bytes_eq first) (sym c.as_slice-2.ensures) ∙ sym c.if-eq-2.ensures)
    ∙ sym c.in-Some-read_zeros.ensures)
    ∙ zeros_law done head bytes c.args.segment.last count
    ∙ ap (option_map (state_at done (segment_with head bytes))) (sym (c.zeros_stage.ensures ∙ ap (λ bs. cond (eqb count (head.size - length bs)) (Some Whole) None) c.deref.ensures.value))

pub returns-in_default-2-clause-step : goal.returns-in_default-2-clause-step
returns-in_default-2-clause-step c = λ done.
    let bytes = c.args.bytes.now.items in
    let head = c.args.segment.head in
    let text = c.in-Some.text.now in
    let first = c.split_word.result.0.now in
    let words = words_in (option_copied c.split_word.result.1) in
    let at : c.from.result + c.len.result ≡ head.at + length bytes = omega (arith, c.from.ensures, c.len.ensures) in
    step_found done head bytes c.args.segment.last c.args.line.now (c.from.result + c.len.result) at text None c.in-Some.ensures
    (found_code text first words c.split_word.ensures.words (ap (bytes_eq first) (sym c.as_slice.ensures) ∙ sym c.if-eq.ensures) (ap (bytes_eq first) (sym c.as_slice-2.ensures) ∙ sym c.if-eq-2.ensures)
    ∙ ap (option_map Instruction) (sym c.in_ok-code.ensures ∙ c.in_default-2.is))

pub returns-clause-step : goal.returns-clause-step
returns-clause-step c =
    let bytes = c.args.bytes.now.items in
    let head = c.args.segment.head in
    let text = c.in-Some.text.now in
    let first = c.split_word.result.0.now in
    let words = words_in (option_copied c.split_word.result.1) in
    let code = c.in-Some-2.code in
    let at : c.from.result + c.len.result ≡ head.at + length bytes = omega (arith, c.from.ensures, c.len.ensures) in
    carried c.add_code.result head bytes c.add_code.new.bytes.items c.args.segment.last c.args.line.now (Some (Instruction code))
    (λ done. step_found done head bytes c.args.segment.last c.args.line.now (c.from.result + c.len.result) at text (Some (Instruction code)) c.in-Some.ensures
    (found_code text first words c.split_word.ensures.words (ap (bytes_eq first) (sym c.as_slice.ensures) ∙ sym c.if-eq.ensures) (ap (bytes_eq first) (sym c.as_slice-2.ensures) ∙ sym c.if-eq-2.ensures)
    ∙ ap (option_map Instruction) (sym c.in_ok-code.ensures ∙ c.in-Some-2.is)))
    c.add_code.ensures.step
