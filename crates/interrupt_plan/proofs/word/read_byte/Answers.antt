use Rattle.std.proofs.Common.{◌≡◌, ℕ, ◌-◌, List, length, take, drop, refl, ap, arith, sym, ◌∙◌}
use Rattle.std.proofs.lemmas.Bool.{false≢true}
use Rattle.std.proofs.lemmas.List.{length-drop, take_all}
use Rattle.text_lines.specs.Number.{hex_byte_of}
use Rattle.interrupt_plan.proofs.WordLaws.{byte_read, written_of-address, written_of-byte, written_of-marks}
use Rattle.interrupt_plan.proofs.word.read_byte.Goals as goal

rest_is : (word : List ℕ) → take (length word - 10) (drop 10 word) ≡ drop 10 word
rest_is word = take_all (length word - 10) (drop 10 word) (omega (arith, length-drop 10 word))

pub returns-then-not-is_marked : goal.returns-then-not-is_marked
returns-then-not-is_marked c = sym (written_of-marks c.args.letter c.args.word.now (λ marks. false≢true (c.if-not-is_marked.ensures.1 marks)))

pub returns-in_err-address : goal.returns-in_err-address
returns-in_err-address c = rw c.from_residual.ensures (sym (written_of-address c.args.letter c.args.word.now (sym c.in_err-address.ensures.value)))

pub returns-in_err-byte : goal.returns-in_err-byte
returns-in_err-byte c =
    rw c.from_residual-in_err-byte.ensures (sym (written_of-byte c.args.letter c.args.word.now (ap hex_byte_of (sym (rest_is c.args.word.now)) ∙ sym c.in_err-byte.ensures.value)))

pub returns : goal.returns
returns c =
    sym (byte_read c.args.letter c.args.word.now c.in_ok-address.address c.in_ok-byte.byte (c.if-not-is_marked.ensures.0 refl) (sym c.in_ok-address.ensures.value) (ap hex_byte_of (sym (rest_is c.args.word.now)) ∙ sym c.in_ok-byte.ensures.value))
