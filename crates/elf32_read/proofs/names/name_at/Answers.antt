use Rattle.std.proofs.Common.{◌≤◌, length, sym, ◌∙◌, arith}
use Rattle.std.proofs.lemmas.List.{take_all}
use Rattle.elf32_read.proofs.Strings.{before_zero}
use Rattle.elf32_read.proofs.names.name_at.Goals as goal

-- the current byte is zero, and ends the name
pub returns-then-byte-eq0 : goal.returns-then-byte-eq0
returns-then-byte-eq0 c =
    before_zero c.args.table.now c.names_from-rest.result.now c.args.at c.loop-i.i c.names_from-rest.ensures (omega arith) c.loop-i.invariant (λ _. c.if-byte-eq0.true)

-- no zero ends the name
pub returns : goal.returns
returns c =
    let rest = c.names_from-rest.result.now in
    let most : length rest ≤ c.loop-i.i = omega arith in
    let all = take_all (length rest) rest (omega arith) in
    sym all ∙ before_zero c.args.table.now rest c.args.at (length rest) c.names_from-rest.ensures (omega arith) (λ k lt. c.loop-i.invariant k (omega arith)) (λ lt. absurd (omega (arith, lt)))
