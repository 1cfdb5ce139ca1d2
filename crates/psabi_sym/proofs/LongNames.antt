-- A zero in a table ends each name that begins at it or before it (`name_stops`). So between two zeros that stand close, no name
-- is long.
use Rattle.std.proofs.Common.{◌≡◌, ℕ, ◌+◌, ◌-◌, ◌<◌, ◌≤◌, true, false, not, eqb, List, length, length-drop, get_or, drop, take, ap, ◌∙◌, arith, ◌⊎◌, inl, inr}
use Rattle.std.specs.Prelude.{◌==◌}
use Rattle.std.specs.List.{prefix_len}
use Rattle.std.proofs.lemmas.Bool.{cases_lt}
use Rattle.std.proofs.lemmas.List.{get_or-drop, take_all}
use Rattle.std.proofs.lemmas.List.Folds.{length-prefix_len}
use Rattle.std.proofs.lemmas.List.Sums.{prefix_len_passes, prefix_len_stops}
use Rattle.elf32_read.specs.Names.{name_at}

-- how long a name is
pub name_length : (table : List ℕ) (at : ℕ) → length (name_at table at) ≡ prefix_len (λ byte. not (byte == 0)) (drop at table)
name_length table at = length-prefix_len (λ byte. not (byte == 0)) (drop at table)

pub name_stops : (table : List ℕ) (k z : ℕ) → k ≤ z → get_or table z 0 ≡ 0 → length (name_at table k) ≤ z - k
name_stops table k z before zero = by (cases_lt (z - k) (prefix_len (λ byte. not (byte == 0)) (drop k table)))
  where
    by : ((z - k < prefix_len (λ byte. not (byte == 0)) (drop k table)) ⊎ (prefix_len (λ byte. not (byte == 0)) (drop k table) ≤ z - k)) → length (name_at table k) ≤ z - k
    by (inr few) = omega (arith, name_length table k, few)
    by (inl more) =
        let there : k + (z - k) ≡ z = omega (arith, before) in
        let here : get_or (drop k table) (z - k) 0 ≡ 0 = get_or-drop k table (z - k) 0 ∙ ap (λ n. get_or table n 0) there ∙ zero in
        let passes : not (eqb (get_or (drop k table) (z - k) 0) 0) ≡ true = prefix_len_passes (λ byte. not (byte == 0)) (drop k table) (z - k) 0 more in
        absurd (cc (here, passes))

-- a prefix of n bytes without a zero
pub prefix_long : (bytes : List ℕ) (n : ℕ) → n ≤ length bytes → ((k : ℕ) → k < n → not (eqb (get_or bytes k 0) 0) ≡ true) → n ≤ prefix_len (λ byte. not (byte == 0)) bytes
prefix_long bytes n within passes = by (cases_lt (prefix_len (λ byte. not (byte == 0)) bytes) n)
  where
    by : ((prefix_len (λ byte. not (byte == 0)) bytes < n) ⊎ (n ≤ prefix_len (λ byte. not (byte == 0)) bytes)) → n ≤ prefix_len (λ byte. not (byte == 0)) bytes
    by (inr more) = more
    by (inl less) =
        let stops : not (eqb (get_or bytes (prefix_len (λ byte. not (byte == 0)) bytes) 0) 0) ≡ false =
        prefix_len_stops (λ byte. not (byte == 0)) bytes 0 (omega (arith, less, within)) in
        absurd (cc (stops, passes (prefix_len (λ byte. not (byte == 0)) bytes) less))

-- the bytes of a table from a place in it on
pub rest_of : (table : List ℕ) (at m : ℕ) → m ≡ at → take (length table - m) (drop m table) ≡ drop at table
rest_of table at m same = take_all (length table - m) (drop m table) (omega (arith, length-drop m table)) ∙ ap (λ k. drop k table) same
