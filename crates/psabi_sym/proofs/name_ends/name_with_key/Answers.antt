use Rattle.std.proofs.Common.{◌≡◌, ◌<◌, ◌≤◌, ◌-◌, ℕ, List, not, min, length, length-drop, length-take, get_or, take, drop, sym, ap, ◌∙◌, arith}
use Rattle.std.specs.Prelude.{◌==◌}
use Rattle.std.specs.List.{prefix_len}
use Rattle.std.proofs.lemmas.List.Sums.{prefix_len-le-length}
use Rattle.elf32_read.specs.Names.{name_at}
use Rattle.psabi_sym.specs.Invariants.Keys.{tails_of}
use Rattle.psabi_sym.specs.declared.name_ends.NameEnd.{NameEnd}
use Rattle.psabi_sym.proofs.LongNames.{name_length, rest_of}
use Rattle.psabi_sym.proofs.TailLaws.{end_key, name_prefix}
use Rattle.psabi_sym.proofs.name_ends.name_with_key.Goals as goal

abbrev no_end : NameEnd
no_end = record { length = 0; tail = 0 }

-- a name that isn't short begins in the table, where its end stands
long : (table : List ℕ) (at m : ℕ) → m ≡ min (length table) at → 64 ≤ prefix_len (λ byte. not (byte == 0)) (take (length table - m) (drop m table))
    → (m ≡ at) × (at < length table) × (64 ≤ length (name_at table at))
long table at m is more =
    let rest = take (length table - m) (drop m table) in
    let some : 64 ≤ length rest = omega (arith, more, prefix_len-le-length (λ byte. not (byte == 0)) rest) in
    let same : m ≡ at = omega (arith, is, some, length-take (length table - m) (drop m table), length-drop m table) in
    (same, omega (arith, is, some, length-take (length table - m) (drop m table), length-drop m table), omega (arith, name_length table at, more, ap (prefix_len (λ byte. not (byte == 0))) (rest_of table at m same)))

pub bounds-ends-at : goal.bounds-ends-at
bounds-ends-at c =
    let there = long c.args.table.now c.args.at c.min.result c.min.ensures (c.short_length.ensures.none c.in_default.is) in
    (c.requires.1.each c.args.at no_end there.1 there.2).0

pub returns-clause-key : goal.returns-clause-key
returns-clause-key c texts are =
    let table = c.args.table.now in
    let at = c.args.at in
    let there = long table at c.min.result c.min.ensures (c.short_length.ensures.none c.in_default.is) in
    let end = get_or c.args.ends.now at no_end in
    let is = (are.each at no_end there.1 there.2).1 in
    let text : take end.length (take (length table - c.min.result) (drop c.min.result table)) ≡ name_at table at =
    (λ i. take (is.length_is i) (rest_of table at c.min.result there.0 i)) ∙ sym (name_prefix table at) in
    end_key (tails_of texts) (name_at table at) end is c.new-key.result _ text c.new-key.ensures.hash c.new-key.ensures.part c.new-key.ensures.rest
