use Rattle.std.proofs.Common.{arith, sym, ◌∙◌}
use Rattle.rv_decode.specs.declared.instr.UpperOp.TheVariants.{Lui}
use Rattle.instruction_text.specs.declared.operation.Operation.TheVariants.{Upper}
use Rattle.instruction_text.specs.Names.{operation_name}
use Rattle.instruction_text.proofs.NameLaws.{named_here, named_later}
use Rattle.instruction_text.proofs.names.first_operation.Goals as goal

pub returns-then-eq : goal.returns-then-eq
returns-then-eq c =
    sym (c.loop-operation.invariant ∙ named_here operation_name c.args.operations.now c.loop-operation.operation-index _ c.args.name.now (omega arith) cc)

pub loop-operation-preserved : goal.loop-operation-preserved
loop-operation-preserved c =
    c.loop-operation.invariant
    ∙ named_later operation_name c.args.operations.now c.loop-operation.operation-index (Upper Lui) c.args.name.now (omega arith) cc
