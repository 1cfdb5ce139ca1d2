use Rattle.std.proofs.Common.{◌≡◌, ◌+◌, ◌++◌, drop}
use Rattle.std.specs.List.{flat_map}
use Rattle.load_maker.specs.Objects.{function_symbols}
use Rattle.load_maker.specs.Statements.{code_size}
use Rattle.load_maker.proofs.symbols.function_symbols.Given as goal

abbrev pub invariant-loop-body : goal.invariant-loop-body
invariant-loop-body l = record {
  symbols : l.symbols.items ++ function_symbols l.i l.at (drop l.body-index l.bodies) ≡ function_symbols l.first 0 l.bodies;
  number : l.i ≡ l.first + l.body-index;
  size : l.at + code_size (flat_map (λ body. body) (drop l.body-index l.bodies)) ≡ code_size (flat_map (λ body. body) l.bodies);
}
