use Rattle.std.proofs.Common.{◌≡◌, ◌+◌, ◌*◌, arith, sym}
use Rattle.text_lines.specs.Hex.{hex_byte}
use Rattle.text_lines.proofs.HexLaws.{byte_read, hex_byte_of-Some, hex_byte_of-high, hex_byte_of-long, hex_byte_of-low}
use Rattle.text_lines.proofs.hex.read_hex_byte.Goals as goal

pub returns-in_default-clause-value : goal.returns-in_default-clause-value
returns-in_default-clause-value c = sym (hex_byte_of-long c.args.word.now (λ two. omega (arith, two)))

pub returns-in_default-2-clause-value : goal.returns-in_default-2-clause-value
returns-in_default-2-clause-value c = sym (hex_byte_of-long c.args.word.now (λ two. omega (arith, two)))

pub returns-in_err-digit_value-clause-value : goal.returns-in_err-digit_value-clause-value
returns-in_err-digit_value-clause-value c = rw c.from_residual.ensures (sym (hex_byte_of-high c.args.word.now c.in_err-digit_value.ensures.none))

pub returns-in_err-digit_value-2-clause-value : goal.returns-in_err-digit_value-2-clause-value
returns-in_err-digit_value-2-clause-value c =
    rw c.from_residual-in_err-digit_value-2.ensures (sym (hex_byte_of-low c.args.word.now c.in_err-digit_value-2.ensures.none))

-- the word that was read
whole : (c : goal.In_ok-digit_value-2) → c.args.word.now ≡ hex_byte (16 * c.in_ok-digit_value.field-0 + c.in_ok-digit_value-2.field-0)
whole c =
    byte_read c.args.word.now c.in_ok-digit_value.field-0 c.in_ok-digit_value-2.field-0 (omega arith) c.in_ok-digit_value.ensures.below c.in_ok-digit_value-2.ensures.below c.in_ok-digit_value.ensures.spells c.in_ok-digit_value-2.ensures.spells

pub returns-clause-value : goal.returns-clause-value
returns-clause-value c =
    let high = c.in_ok-digit_value.ensures.below in
    let low = c.in_ok-digit_value-2.ensures.below in
    sym (hex_byte_of-Some _ c.args.word.now (omega (arith, high, low)) (whole c))

pub returns-clause-spells : goal.returns-clause-spells
returns-clause-spells c = whole c
