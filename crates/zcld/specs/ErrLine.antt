-- The line that names an outcome on standard error, and the status that the program ends with.
use Rattle.std.specs.Prelude.{◌≡◌, ℕ, nat_lt, if◌then◌else◌, is_none, List, [], ◌∷◌, ◌++◌, codes, decimal, slice_get, Option, Some, None}
use Rattle.std.specs.Option.{option_and_then, option_map}
use Rattle.devices.specs.declared.fault.DevicesFault.{DevicesFault}
use Rattle.devices.specs.declared.fault.DevicesFault.TheVariants as devices
use Rattle.elf32_read.specs.declared.fault.Fault.{Fault}
use Rattle.elf32_read.specs.Fault.{fault_number, fault_name, fault_symbol}
use Rattle.elf32_read.specs.Object.{object_fault}
use Rattle.elf32_read.specs.Parts.{object_parts}
use Rattle.elf32_read.specs.ImageFault.{image_fault_number}
use Rattle.interrupt_plan.specs.declared.fault.PlanFault.{PlanFault}
use Rattle.interrupt_plan.specs.declared.fault.PlanFault.TheVariants as plan
use Rattle.pick_check.specs.declared.fault.CertFault.{CertFault}
use Rattle.pick_check.specs.declared.fault.CertFault.TheVariants as cert
use Rattle.text_lines.specs.Hex.{hex_word}
use Rattle.zc_base.specs.declared.place.Place.{Place}
use Rattle.sym_machine.specs.declared.why.Why.{Why}
use Rattle.sym_machine.specs.Why.{why_name, why_number}
use Rattle.zc_machine.specs.declared.reason.Reason.{Reason}
use Rattle.zc_machine.specs.Reason.{reason_name, reason_number}
use Rattle.zcld.specs.declared.outcome.FileFault.TheVariants.{Certificate, Devices, Image, Plan, Rejected}
use Rattle.zcld.specs.declared.outcome.Outcome.{Outcome}
use Rattle.zcld.specs.declared.outcome.Outcome.TheVariants.{Broken, Done, Exited, Usage, Refused, ReadFault, WriteFault, OutOfMemory, BadFile, Stopped, Stuck, Spent}

-- a text with a line feed after it
abbrev pub line : List ℕ → List ℕ
line text = text ++ 10 ∷ []

-- a word, an object by its index, and a fault by its number and name
abbrev pub fault_text : List ℕ → ℕ → Fault → List ℕ
fault_text word i fault =
    word ++ codes " " ++ decimal i ++ codes " " ++ decimal (fault_number fault) ++ codes " " ++ fault_name fault

-- a refusal names the object and the fault
abbrev pub refusal_text : ℕ → Fault → List ℕ
refusal_text i fault = fault_text (codes "refused") i fault

-- the name of a symbol of an object, by its index: none if the file can't be read, or has no such symbol
abbrev pub name_in : ℕ → List ℕ → Option (List ℕ)
name_in symbol file =
    if is_none (object_fault file)
    then option_map (λ s. s.name) (slice_get (object_parts file).symbols symbol) else None

-- the name of the symbol that a fault of an object names, by the object's index
abbrev pub fault_symbol_name : List (List ℕ) → ℕ → Fault → Option (List ℕ)
fault_symbol_name files i fault =
    option_and_then (λ file. option_and_then (λ symbol. name_in symbol file) (fault_symbol fault)) (slice_get files i)

-- a space and a name, if there is one
abbrev pub after_space : Option (List ℕ) → List ℕ
after_space None = []
after_space (Some name) = codes " " ++ name

-- a fault of a plan names its line
abbrev pub plan_fault_text : PlanFault → List ℕ
plan_fault_text (plan.BadLine number) = codes "bad plan line " ++ decimal number
plan_fault_text (plan.OutOfOrder number) = codes "bad plan order " ++ decimal number
plan_fault_text plan.TooLarge = codes "bad plan size"
plan_fault_text plan.OutOfMemory = codes "out of memory"

-- a fault of a text of devices names its line
abbrev pub devices_fault_text : DevicesFault → List ℕ
devices_fault_text (devices.Line number) = codes "bad devices line " ++ decimal number
devices_fault_text devices.Size = codes "bad devices size"
devices_fault_text devices.OutOfMemory = codes "out of memory"

-- a fault of a certificate names its line
abbrev pub certificate_fault_text : CertFault → List ℕ
certificate_fault_text (cert.BadLine number) = codes "bad certificate line " ++ decimal number
certificate_fault_text cert.TooLarge = codes "bad certificate size"
certificate_fault_text cert.OutOfMemory = codes "out of memory"

-- a stop names its reason by number and name, and the program counter
abbrev pub stop_text : Reason → ℕ → List ℕ
stop_text reason pc =
    codes "stopped " ++ decimal (reason_number reason) ++ codes " " ++ reason_name reason ++ codes " " ++ hex_word pc

-- a program that is stuck names the place, and the reason by number and name
abbrev pub stuck_text : Place → Why → List ℕ
stuck_text place why =
    codes "stuck " ++ decimal place.object ++ codes " " ++ decimal place.section ++ codes " " ++ decimal place.offset
    ++ codes " " ++ decimal (why_number why) ++ codes " " ++ why_name why

-- the line of each outcome but the one that needs none, given the files that were read: a refusal may end with the name
-- of a symbol of an object
abbrev pub err_line : List (List ℕ) → Outcome → List ℕ
err_line files Done = []
err_line files (Exited code) = line (codes "exited " ++ decimal code)
err_line files Usage = line (codes "usage")
err_line files (Refused i fault) = line (refusal_text i fault ++ after_space (fault_symbol_name files i fault))
err_line files (Broken i fault) = line (fault_text (codes "broken") i fault)
err_line files ReadFault = line (codes "read fault")
err_line files WriteFault = line (codes "write fault")
err_line files OutOfMemory = line (codes "out of memory")
err_line files (BadFile (Image fault)) = line (codes "bad image " ++ decimal (image_fault_number fault))
err_line files (BadFile (Devices fault)) = line (devices_fault_text fault)
err_line files (BadFile (Plan fault)) = line (plan_fault_text fault)
err_line files (BadFile (Certificate fault)) = line (certificate_fault_text fault)
err_line files (BadFile Rejected) = line (codes "rejected")
err_line files (Stopped reason pc) = line (stop_text reason pc)
err_line files (Stuck place why) = line (stuck_text place why)
err_line files Spent = line (codes "spent")

-- the outcome's line names nothing in the files
abbrev pub NamesNothing : Outcome → Type 0
NamesNothing outcome = (files : List (List ℕ)) → err_line files outcome ≡ err_line [] outcome

-- the status of each outcome
abbrev pub status_of : Outcome → ℕ
status_of Done = 0
status_of (Exited code) = if nat_lt code 118 then code else 118
status_of (Broken i fault) = 119
status_of Usage = 120
status_of (Refused i fault) = 121
status_of ReadFault = 122
status_of WriteFault = 123
status_of OutOfMemory = 124
status_of (BadFile fault) = 125
status_of (Stopped reason pc) = 126
status_of (Stuck place why) = 126
status_of Spent = 127
