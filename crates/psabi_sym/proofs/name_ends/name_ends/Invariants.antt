use Rattle.std.proofs.Common.{◌≡◌, ◌+◌, ◌-◌, ◌<◌, ◌≤◌, ℕ, length, get_or}
use Rattle.elf32_read.specs.Names.{name_at}
use Rattle.psabi_sym.specs.Invariants.Keys.{AreTextBlocks, Extends, IsEnd, tails_of}
use Rattle.psabi_sym.specs.declared.name_ends.NameEnd.{NameEnd}
use Rattle.psabi_sym.proofs.name_ends.name_ends.Given as goal

abbrev pub invariant-loop-k : goal.invariant-loop-k
invariant-loop-k l = record {
  are : AreTextBlocks l.tails.numbers l.tails.texts.items;
  more : Extends (tails_of l.fn.tails.texts.items) (tails_of l.tails.texts.items);
  room : length l.tails.texts.items ≤ length l.fn.tails.texts.items + l.k;
  count : length l.ends.items ≡ length l.table;
  end : IsEnd (tails_of l.tails.texts.items) (name_at l.table (length l.table - l.k)) l.end;
  ends : (j : ℕ) (d : NameEnd) → length l.table - l.k ≤ j → j < length l.table → IsEnd (tails_of l.tails.texts.items) (name_at l.table j) (get_or l.ends.items j d);
}
