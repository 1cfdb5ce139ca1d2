use Rattle.std.proofs.Common.{◌≡◌, drop}
use Rattle.instruction_text.specs.Names.{first_named, operation_name}
use Rattle.instruction_text.proofs.names.first_operation.Given as goal

abbrev pub invariant-loop-operation : goal.invariant-loop-operation
invariant-loop-operation l = first_named operation_name l.operations l.name ≡ first_named operation_name (drop l.operation-index l.operations) l.name
