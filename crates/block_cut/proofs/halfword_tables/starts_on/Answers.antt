use Rattle.std.proofs.Common.{◌+◌, ◌/◌, length, ltb, sym, ap, ◌∙◌}
use Rattle.block_cut.specs.Invariants.HalfwordTables.{number_on}
use Rattle.block_cut.proofs.StrayLaws.{no_start, some_start}
use Rattle.block_cut.proofs.WordLaws.{halfword_count}
use Rattle.block_cut.proofs.halfword_tables.starts_on.Goals as goal

pub returns-then-number_at-eq0 : goal.returns-then-number_at-eq0
returns-then-number_at-eq0 c = λ s code whole are. sym (no_start s c.args.offset (sym (c.number_at.ensures.value s code whole are) ∙ c.if-number_at-eq0.true))

pub returns : goal.returns
returns c = λ s code whole are.
    let n = c.args.offset in
    ap (λ m. ltb (n / 2 + 1) m) (ap length are ∙ halfword_count (number_on s) s) ∙ some_start s code whole n (λ e. c.if-number_at-eq0.false (c.number_at.ensures.value s code whole are ∙ e))
