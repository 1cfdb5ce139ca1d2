use Rattle.std.proofs.Common.{subst}
use Rattle.std.proofs.lemmas.List.Sorted.{IsNonDecreasingBy-from_sort}
use Rattle.std.specs.List.Sorted.{IsPermutation}
use Rattle.block_cut.proofs.fields.FieldEnds.new.Goals as goal

pub returns : goal.returns
returns c =
    let holds = c.in_ok-ends.ensures in
    record {
      starts = record { same = subst (λ l. IsPermutation l c.sort_unstable.new.self.items) holds.starts c.sort_unstable.ensures.permutation; rise = IsNonDecreasingBy-from_sort (λ n. n) _ c.sort_unstable.ensures.sorted };
      ends = record { same = subst (λ l. IsPermutation l c.sort_unstable-2.new.self.items) holds.ends c.sort_unstable-2.ensures.permutation; rise = IsNonDecreasingBy-from_sort (λ n. n) _ c.sort_unstable-2.ensures.sorted };
    }
