use Rattle.std.proofs.Common.{◌≡◌, ℕ, ◌-◌, ◌/◌, ◌%◌, ◌^◌, List, length, take, drop, arith, ap, sym, ◌∙◌}
use Rattle.std.proofs.lemmas.List.{length-drop, take_all}
use Rattle.text_lines.specs.Hex.{hex_word}
use Rattle.text_lines.specs.Number.{hex_byte_of}
use Rattle.text_lines.proofs.HexLaws.{first_byte, fourth_byte, hex_byte_of_is, hex_word_of-Some, hex_word_of-bad, hex_word_of-long, second_byte, third_byte, word_read}
use Rattle.text_lines.proofs.hex.read_hex_word.Goals as goal

rest_is : (word : List ℕ) → length word ≡ 8 → take (length word - 6) (drop 6 word) ≡ drop 6 word
rest_is word eight = take_all (length word - 6) (drop 6 word) (omega (arith, length-drop 6 word))

pub returns-then-word-ne8-clause-value : goal.returns-then-word-ne8-clause-value
returns-then-word-ne8-clause-value c = sym (hex_word_of-long c.args.word.now (λ eight. omega (arith, eight)))

pub returns-in_err-first-clause-value : goal.returns-in_err-first-clause-value
returns-in_err-first-clause-value c =
    rw c.from_residual.ensures (sym (hex_word_of-bad c.args.word.now (take 2 c.args.word.now) (λ n. n / 2 ^ 24 % 256) (λ n. omega arith) (λ n same. ap (take 2) same ∙ first_byte n) (sym c.in_err-first.ensures.value)))

pub returns-in_err-second-clause-value : goal.returns-in_err-second-clause-value
returns-in_err-second-clause-value c =
    rw c.from_residual-in_err-second.ensures (sym (hex_word_of-bad c.args.word.now (take 2 (drop 2 c.args.word.now)) (λ n. n / 2 ^ 16 % 256) (λ n. omega arith) (λ n same. ap (λ w. take 2 (drop 2 w)) same ∙ second_byte n) (sym c.in_err-second.ensures.value)))

pub returns-in_err-third-clause-value : goal.returns-in_err-third-clause-value
returns-in_err-third-clause-value c =
    rw c.from_residual-in_err-third.ensures (sym (hex_word_of-bad c.args.word.now (take 2 (drop 4 c.args.word.now)) (λ n. n / 2 ^ 8 % 256) (λ n. omega arith) (λ n same. ap (λ w. take 2 (drop 4 w)) same ∙ third_byte n) (sym c.in_err-third.ensures.value)))

pub returns-in_err-fourth-clause-value : goal.returns-in_err-fourth-clause-value
returns-in_err-fourth-clause-value c =
    rw c.from_residual-in_err-fourth.ensures (sym (hex_word_of-bad c.args.word.now (drop 6 c.args.word.now) (λ n. n / 2 ^ 0 % 256) (λ n. omega arith) (λ n same. ap (drop 6) same ∙ fourth_byte n) (ap hex_byte_of (sym (rest_is c.args.word.now (omega arith))) ∙ sym c.in_err-fourth.ensures.value)))

-- the bytes that were found, and what their texts are together
whole : (c : goal.After-from_be_bytes) → c.args.word.now ≡ hex_word c.from_be_bytes.result
whole c =
    let a = hex_byte_of_is (take 2 c.args.word.now) c.in_ok-first.first (sym c.in_ok-first.ensures.value) in
    let b = hex_byte_of_is (take 2 (drop 2 c.args.word.now)) c.in_ok-second.second (sym c.in_ok-second.ensures.value) in
    let r = hex_byte_of_is (take 2 (drop 4 c.args.word.now)) c.in_ok-third.third (sym c.in_ok-third.ensures.value) in
    let d = hex_byte_of_is (drop 6 c.args.word.now) c.in_ok-fourth.fourth (ap hex_byte_of (sym (rest_is c.args.word.now (omega arith))) ∙ sym c.in_ok-fourth.ensures.value) in
    word_read c.args.word.now _ _ _ _ a.0 b.0 r.0 d.0 a.1 b.1 r.1 d.1
    ∙ ap hex_word (omega (arith, c.from_be_bytes.ensures))

pub returns-clause-value : goal.returns-clause-value
returns-clause-value c = sym (hex_word_of-Some c.from_be_bytes.result c.args.word.now c.from_be_bytes.type_inv (whole c))

pub returns-clause-spells : goal.returns-clause-spells
returns-clause-spells c = whole c
