use Rattle.std.proofs.Common.{◌≡◌, ℕ, ◌+◌, ◌*◌, ◌<◌, ◌≤◌, length, get_or}
use Rattle.std.specs.Prelude.{slice_index}
use Rattle.sym_machine.specs.declared.word.SymByte.TheVariants.{Num, Undef}
use Rattle.sym_machine.proofs.pool.Pool.copy_numbers.Given as goal

abbrev pub invariant-loop-k : goal.invariant-loop-k
invariant-loop-k l =
    let before = l.initial.self-inside.cells.items in
    let after = l.self-inside.cells.items in
    record {
      pages : l.self-inside.pages ≡ l.initial.self-inside.pages;
      numbers : l.self-inside.numbers ≡ l.initial.self-inside.numbers;
      room : l.initial.self-inside.cells.cap ≤ l.self-inside.cells.cap;
      long : length after ≡ length before + l.k;
      old : (x : ℕ) → x < length before → get_or after x Undef ≡ get_or before x Undef;
      new : (x : ℕ) → x < l.k → get_or after (length before + x) Undef ≡ Num (slice_index l.initial.self-inside.numbers.items (4096 * l.m + x));
    }
