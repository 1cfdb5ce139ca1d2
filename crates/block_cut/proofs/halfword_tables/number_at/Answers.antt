-- The number is in the table at an even offset inside; elsewhere nothing starts.
use Rattle.std.proofs.Common.{◌≡◌, ◌*◌, ◌/◌, ◌<◌, length, get_or, sym, ap, ◌∙◌, arith}
use Rattle.std.proofs.lemmas.Bool.{ltb-true}
use Rattle.block_cut.specs.Invariants.HalfwordTables.{number_on}
use Rattle.block_cut.proofs.WordLaws.{halfword_count, halfword_got, number_none, other_odd, other_past}
use Rattle.block_cut.proofs.halfword_tables.number_at.Goals as goal

pub returns-then-offset-ne0-clause-value : goal.returns-then-offset-ne0-clause-value
returns-then-offset-ne0-clause-value c = λ s code whole are.
    sym (number_none s c.args.offset (other_odd s code whole c.args.offset c.if-offset-ne0.true))

pub returns-in-None-clause-value : goal.returns-in-None-clause-value
returns-in-None-clause-value c = λ s code whole are.
    let n = c.args.offset in
    sym (number_none s n (other_past s code whole n (omega (arith, c.in-None.ensures.lookup, c.if-offset-ne0.false, ap length are, halfword_count (number_on s) s))))

pub returns-in-Some-clause-value : goal.returns-in-Some-clause-value
returns-in-Some-clause-value c = λ s code whole are.
    let n = c.args.offset in
    let there = c.in-Some.ensures.lookup in
    let inside : n / 2 < length c.args.numbers.now = ltb-true (n / 2) (length c.args.numbers.now) (sym there.0) in
    let even : 2 * (n / 2) ≡ n = omega (arith, c.if-offset-ne0.false) in
    there.1 ∙ ap (λ l. get_or l (n / 2) c.in-Some.number.now) are ∙ halfword_got (number_on s) s (n / 2) c.in-Some.number.now (omega (arith, inside, ap length are)) ∙ ap (number_on s) even
