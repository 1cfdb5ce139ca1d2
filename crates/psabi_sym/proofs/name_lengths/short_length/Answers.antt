use Rattle.std.proofs.Common.{not, eqb, ap, sym, arith}
use Rattle.std.specs.Prelude.{◌==◌}
use Rattle.std.proofs.lemmas.List.Sums.{prefix_len_is}
use Rattle.psabi_sym.proofs.LongNames.{prefix_long}
use Rattle.psabi_sym.proofs.name_lengths.short_length.Goals as goal

pub returns-then-bytes-k-eq0-clause-some : goal.returns-then-bytes-k-eq0-clause-some
returns-then-bytes-k-eq0-clause-some c = (
  omega arith,
  sym (prefix_len_is (λ byte. not (byte == 0)) c.args.bytes.now c.loop-k.k 0 (omega arith) (λ j before. c.loop-k.invariant j 0 before) (λ within. ap (λ n. not (eqb n 0)) c.if-bytes-k-eq0.true)),
)

pub returns-then-end-lt-BLOCK-clause-some : goal.returns-then-end-lt-BLOCK-clause-some
returns-then-end-lt-BLOCK-clause-some c = (
  omega arith,
  sym (prefix_len_is (λ byte. not (byte == 0)) c.args.bytes.now c.min-end.result 0 (omega arith) (λ j before. c.loop-k.invariant j 0 (omega arith)) (λ within. absurd (omega arith))),
)

pub returns-else-end-lt-BLOCK-clause-none : goal.returns-else-end-lt-BLOCK-clause-none
returns-else-end-lt-BLOCK-clause-none c _ = prefix_long c.args.bytes.now 64 (omega arith) (λ k less. c.loop-k.invariant k 0 (omega (arith, less)))
