use Rattle.std.proofs.Common.{◌≡◌, ◌*◌, ◌^◌, ◌-◌, ◌+◌, length, take}
use Rattle.std.specs.List.{find, range_with_len}
use Rattle.psabi_sym.specs.Faults.{AreAtMost, are_too_large, sums_of}
use Rattle.psabi_sym.proofs.sums.first_too_large.Given as goal

abbrev pub invariant-loop-i : goal.invariant-loop-i
invariant-loop-i l = record {
  sums : l.sums ≡ sums_of (take l.i l.objects);
  rest : find (λ i. are_too_large (sums_of (take (i + 1) l.objects))) (range_with_len 0 (length l.objects))
      ≡ find (λ i. are_too_large (sums_of (take (i + 1) l.objects))) (range_with_len l.i (length l.objects - l.i));
  most : AreAtMost (2 ^ 54 * l.i) l.sums;
}
