-- The order of a plan.
use Rattle.std.specs.Prelude.{List}
use Rattle.std.specs.List.Sorted.{IsNonDecreasingBy}
use Rattle.interrupt_plan.specs.Plan.{Entry}
use Rattle.interrupt_plan.specs.SharedPlan.{SharedEntry}

-- no interrupt comes before one that is listed earlier
abbrev pub IsInOrder : List Entry → Type 0
IsInOrder plan = IsNonDecreasingBy (λ e. e.at) plan

-- no interrupt with its cells comes before one that is listed earlier
abbrev pub IsSharedInOrder : List SharedEntry → Type 0
IsSharedInOrder plan = IsNonDecreasingBy (λ e. e.entry.at) plan
