-- The outcomes of faults that lower crates give.
use Rattle.load_runner.specs.declared.load_end.LoadEnd.{LoadEnd}
use Rattle.load_runner.specs.declared.load_end.LoadEnd.TheVariants as load
use Rattle.interrupt_plan.specs.declared.fault.PlanFault.{PlanFault}
use Rattle.interrupt_plan.specs.declared.fault.PlanFault.TheVariants as plan
use Rattle.devices.specs.declared.fault.DevicesFault.{DevicesFault}
use Rattle.devices.specs.declared.fault.DevicesFault.TheVariants as devices
use Rattle.pick_check.specs.declared.fault.CertFault.{CertFault}
use Rattle.pick_check.specs.declared.fault.CertFault.TheVariants as cert
use Rattle.psabi_sym.specs.declared.link_fault.LinkFault.{LinkFault}
use Rattle.psabi_sym.specs.declared.link_fault.LinkFault.TheVariants as link
use Rattle.section_gc.specs.declared.gc_fault.GcFault.{GcFault}
use Rattle.section_gc.specs.declared.gc_fault.GcFault.TheVariants as gc
use Rattle.tail_merge.specs.declared.merge_fault.MergeFault.{MergeFault}
use Rattle.tail_merge.specs.declared.merge_fault.MergeFault.TheVariants as merge
use Rattle.zc_outside.specs.declared.read_files.ReadFault as files
use Rattle.zc_outside.specs.declared.read_files.ReadFault.TheVariants as read
use Rattle.zcld.specs.declared.outcome.FileFault.TheVariants.{Certificate, Devices, Plan}
use Rattle.zcld.specs.declared.outcome.Outcome.{Outcome}
use Rattle.zcld.specs.declared.outcome.Outcome.TheVariants.{Broken, Refused, ReadFault, OutOfMemory, BadFile, Stuck, Spent}

-- the outcome when files can't be had
abbrev pub read_outcome : files.ReadFault → Outcome
read_outcome read.Unread = ReadFault
read_outcome read.OutOfMemory = OutOfMemory

-- the outcome when objects can't be linked
abbrev pub link_outcome : LinkFault → Outcome
link_outcome (link.Object i fault) = Refused i fault
link_outcome link.OutOfMemory = OutOfMemory

-- the outcome when `gc` has no results
abbrev pub gc_outcome : GcFault → Outcome
gc_outcome (gc.Object i fault) = Refused i fault
gc_outcome (gc.Broken i fault) = Broken i fault
gc_outcome gc.OutOfMemory = OutOfMemory

-- the outcome when `merge` has no results
abbrev pub merge_outcome : MergeFault → Outcome
merge_outcome (merge.Object i fault) = Refused i fault
merge_outcome (merge.Broken i fault) = Broken i fault
merge_outcome merge.OutOfMemory = OutOfMemory

-- the outcome when a text is no plan
abbrev pub plan_outcome : PlanFault → Outcome
plan_outcome (plan.BadLine number) = BadFile (Plan (plan.BadLine number))
plan_outcome (plan.OutOfOrder number) = BadFile (Plan (plan.OutOfOrder number))
plan_outcome plan.TooLarge = BadFile (Plan plan.TooLarge)
plan_outcome plan.OutOfMemory = OutOfMemory

-- the outcome when a text names no devices
abbrev pub devices_outcome : DevicesFault → Outcome
devices_outcome (devices.Line number) = BadFile (Devices (devices.Line number))
devices_outcome devices.Size = BadFile (Devices devices.Size)
devices_outcome devices.OutOfMemory = OutOfMemory

-- the outcome when a text is no certificate
abbrev pub certificate_outcome : CertFault → Outcome
certificate_outcome (cert.BadLine number) = BadFile (Certificate (cert.BadLine number))
certificate_outcome cert.TooLarge = BadFile (Certificate cert.TooLarge)
certificate_outcome cert.OutOfMemory = OutOfMemory

-- the outcome when a load isn't known
abbrev pub load_outcome : LoadEnd → Outcome
load_outcome (load.Stuck place why) = Stuck place why
load_outcome load.Spent = Spent
load_outcome load.OutOfMemory = OutOfMemory
