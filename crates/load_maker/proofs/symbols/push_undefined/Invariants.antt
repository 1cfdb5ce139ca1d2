use Rattle.std.proofs.Common.{◌≡◌, ◌++◌, map, take}
use Rattle.load_maker.specs.Objects.{undefined_symbol}
use Rattle.load_maker.proofs.symbols.push_undefined.Given as goal

abbrev pub invariant-loop-i : goal.invariant-loop-i
invariant-loop-i l = l.symbols.items ≡ l.initial.symbols.items ++ map undefined_symbol (take l.i-index l.functions)
