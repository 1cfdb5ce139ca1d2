-- The printed numbers and names of the causes for which the machine stops.
use Rattle.std.specs.Prelude.{ℕ, List, codes}
use Rattle.zc_machine.specs.declared.reason.Reason.{Reason}
use Rattle.zc_machine.specs.declared.reason.Reason.TheVariants.{Illegal, BadAccess, Misaligned, Break, UnknownCall}

-- the number that is printed for a cause
abbrev pub reason_number : Reason → ℕ
reason_number Illegal = 1
reason_number BadAccess = 2
reason_number Misaligned = 3
reason_number Break = 4
reason_number UnknownCall = 5

-- the name of a reason
abbrev pub reason_name : Reason → List ℕ
reason_name Illegal = codes "Illegal"
reason_name BadAccess = codes "BadAccess"
reason_name Misaligned = codes "Misaligned"
reason_name Break = codes "Break"
reason_name UnknownCall = codes "UnknownCall"
