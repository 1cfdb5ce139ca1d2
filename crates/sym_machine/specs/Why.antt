-- The printed numbers and names of the causes for which the symbolic machine is stuck.
use Rattle.std.specs.Prelude.{ℕ, List, codes}
use Rattle.sym_machine.specs.declared.why.Why.{Why}
use Rattle.sym_machine.specs.declared.why.Why.TheVariants.{AddressUnknown, ConditionUnknown, TargetUnknown, ArgumentUnknown, BadAddress, Misaligned, StackPointer, NoInstruction, UnknownCall}

-- the number that is printed for a cause
abbrev pub why_number : Why → ℕ
why_number AddressUnknown = 1
why_number ConditionUnknown = 2
why_number TargetUnknown = 3
why_number ArgumentUnknown = 4
why_number BadAddress = 5
why_number Misaligned = 6
why_number StackPointer = 7
why_number NoInstruction = 8
why_number UnknownCall = 9

-- the name that is printed for a cause
abbrev pub why_name : Why → List ℕ
why_name AddressUnknown = codes "AddressUnknown"
why_name ConditionUnknown = codes "ConditionUnknown"
why_name TargetUnknown = codes "TargetUnknown"
why_name ArgumentUnknown = codes "ArgumentUnknown"
why_name BadAddress = codes "BadAddress"
why_name Misaligned = codes "Misaligned"
why_name StackPointer = codes "StackPointer"
why_name NoInstruction = codes "NoInstruction"
why_name UnknownCall = codes "UnknownCall"
