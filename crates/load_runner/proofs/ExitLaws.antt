-- An image that does what the objects' program does exits under every plan if the program does: the environment calls up to there
-- are the same, and the exit is one of them.
use Rattle.std.proofs.Common.{◌≡◌, ◌<◌, ℕ, List, [], ◌∷◌, ◌++◌, map, Bool, true, false, cond, Option, Some, None, Ok, refl, sym, ap, subst, ◌∙◌}
use Rattle.std.specs.Option.{is_some, option_or}
use Rattle.std.proofs.lemmas.List.{map-append}
use Rattle.std.proofs.lemmas.List.Elements.{All-nil}
use Rattle.std.proofs.lemmas.Option.{none-some, same_Some}
use Rattle.zc_base.specs.MemMap.{standard_map}
use Rattle.zc_base.specs.declared.mem_map.MemMap.{MemMap}
use Rattle.elf32_read.specs.Header.{entry_address}
use Rattle.elf32_read.specs.Image.{image_fault}
use Rattle.elf32_read.specs.Places.{place_list}
use Rattle.elf32_read.specs.Segments.{segments_of}
use Rattle.elf32_read.specs.declared.image_fault.ImageFault.{ImageFault}
use Rattle.devices.specs.Environment.{no_devices}
use Rattle.interrupt_plan.specs.Plan.{Entry, IsPlan}
use Rattle.psabi_sym.specs.Faults.{first_some, gather_fault}
use Rattle.psabi_sym.specs.Inputs.{Inputs, parsed}
use Rattle.psabi_sym.specs.LinkFault.{IsRefusal}
use Rattle.psabi_sym.specs.declared.link_fault.LinkFault.{LinkFault}
use Rattle.psabi_sym.specs.declared.link_fault.LinkFault.TheVariants.{Object, OutOfMemory}
use Rattle.block_cut.specs.Faults.{entry_fault, first_fault, range_fault, relocs_fault}
use Rattle.rv_decode.specs.State as event
use Rattle.rv_decode.specs.State.{ZcCore}
use Rattle.zc_machine.specs.Load.{first_core, first_core_of}
use Rattle.zc_machine.specs.Run.{interrupts_by, machine_after}
use Rattle.zc_machine.specs.RunEnd.{Ran, zc_course}
use Rattle.zc_machine.specs.declared.reason.Reason.{Reason}
use Rattle.zc_machine.specs.declared.run.RunEnd.TheVariants as end
use Rattle.zc_machine.proofs.CountLaws.{exit_counted, exit_told, never_stops, plan_keeps}
use Rattle.sym_machine.specs.Events.{Numeric, event_in}
use Rattle.sym_machine.specs.Objects.{program_of}
use Rattle.sym_machine.specs.RunEnd.{CountsSteps, IsCounted, plain_course}
use Rattle.sym_machine.specs.State.{PlainCore, first_plain}
use Rattle.sym_machine.specs.declared.run.TraceEnd.{TraceEnd}
use Rattle.sym_machine.specs.declared.run.TraceEnd.TheVariants as trace
use Rattle.zc_link.specs.Image.{Image, image_in, loaded_core}
use Rattle.zc_link.specs.Places.{listed_address}
use Rattle.zc_link.specs.Preserves.{Preserves, aligns_of}
use Rattle.zc_link.proofs.Induction.{without_devices}
use Rattle.zc_outside.specs.Course.{EndsWithStop, Exit, ExitsAt}
use Rattle.zc_outside.specs.Desk.{Desk}
use Rattle.zc_outside.specs.MemConsole.{ConsoleState, desk_of}
use Rattle.load_runner.specs.declared.run_load.TheConstants.{LOAD_STEPS}
use Rattle.load_runner.specs.Runs.{EventuallyExits, IsTraced, image_run, standard_inputs, trace_run}

-- ---- refusals

-- a fault that is reported is the objects' first one, so objects without a fault are refused only if memory runs out
pub none_refused : (inputs : Inputs) (fault : LinkFault) → first_fault inputs ≡ None → IsRefusal (gather_fault inputs) fault → IsRefusal None fault
unfolding first_fault
none_refused inputs (Object index fault) none is =
    let rest = first_some (relocs_fault (parsed inputs) ∷ entry_fault (parsed inputs) ∷ range_fault (parsed inputs) ∷ []) in
    absurd (none-some (index, fault) (sym none ∙ ap (λ f. option_or f rest) is))
none_refused inputs OutOfMemory none is = tt

-- ---- the image that a file is

module _ (elf : List ℕ) (map : MemMap) (image : Image) where
  -- the image that the file of a link is read as
  abbrev given : Image
  given = record { entry = entry_address elf; segments = segments_of elf; address = listed_address (place_list elf); map = map }

  -- the image has no fault
  pub image_faultless : image_in elf map ≡ Some image → image_fault elf map ≡ None
  unfolding image_in
  image_faultless read = by (image_fault elf map) refl read
    where
      by : (fault : Option ImageFault) → image_fault elf map ≡ fault → cond (is_some fault) None (Some given) ≡ Some image → image_fault elf map ≡ None
      by None is some = is
      by (Some fault) is none = absurd (none-some image none)

  -- the machine starts in the image's initial state
  image_core : image_in elf map ≡ Some image → loaded_core image ≡ first_core_of elf map
  unfolding image_in
  image_core read = by (is_some (image_fault elf map)) read
    where
      by : (faulty : Bool) → cond faulty None (Some given) ≡ Some image → loaded_core image ≡ first_core_of elf map
      by true none = absurd (none-some image none)
      by false some = ap loaded_core (sym (same_Some given image some))

-- ---- how the image's run ends

-- in the initial state the program hasn't exited, and nothing is committed
first_running : (elf : List ℕ) (map : MemMap) → (first_core_of elf map).exit ≡ None
unfolding first_core
first_running elf map = refl

first_start : (elf : List ℕ) (map : MemMap) → (first_core_of elf map).commits ≡ 0
unfolding first_core
first_start elf map = refl

module _ (elf : List ℕ) (plan : List Entry) (first : ZcCore) (is : first ≡ first_core_of elf standard_map) where
  -- an exit comes at the machine's last commit, over a console that was empty
  pub run_exits :
      (status : ℕ) (now : ZcCore) (before after : ConsoleState) → before.out ≡ []
      → Ran (interrupts_by plan) (zc_course first [] plan LOAD_STEPS) (end.Exit status) now (desk_of before) (desk_of after)
      → ExitsAt (image_run elf plan) now.commits (record { bytes = after.out; status = status })
  run_exits status now before after empty ran =
      let core = first_core_of elf standard_map in
      let here = subst (λ z. Ran (interrupts_by plan) (zc_course z [] plan LOAD_STEPS) (end.Exit status) now (desk_of before) (desk_of after)) is ran in
      let counted =
      exit_counted core [] (interrupts_by plan) (plan_keeps plan) (first_running elf standard_map) (first_start elf standard_map) LOAD_STEPS status now
      (desk_of before) (desk_of after) here in
      let same : after.out ≡ counted.0 = counted.2 ∙ ap (λ out. out ++ counted.0) empty in
      subst (λ bytes. ExitsAt (image_run elf plan) now.commits (record { bytes = bytes; status = status })) (sym same) counted.1

  -- a run with an exit doesn't stop before it
  pub run_goes_on :
      (reason : Reason) (now : ZcCore) (before after : Desk) → EventuallyExits elf plan
      → Ran (interrupts_by plan) (zc_course first [] plan LOAD_STEPS) (end.Stopped reason) now before after → ⊥
  run_goes_on reason now before after has ran =
      let here = subst (λ z. EndsWithStop (zc_course z [] plan LOAD_STEPS) reason before after) is ran.0 in
      never_stops (first_core_of elf standard_map) [] (interrupts_by plan) has.count has.status has.last LOAD_STEPS reason before after has.state has.exit here

-- ---- the image's exit

pub eventually_exits :
    (files : List (List ℕ)) (elf : List ℕ) → Preserves (standard_inputs files) elf → (count : ℕ) (exit : Exit)
    → IsTraced (standard_inputs files) count exit → (plan : List Entry) → IsPlan plan → EventuallyExits elf plan
eventually_exits files elf preserves count exit traced plan is_plan =
    let follows = without_devices (program_of (parsed (standard_inputs files))) (aligns_of (parsed (standard_inputs files))) preserves.image preserves.follows [] count traced.exits.last (All-nil (λ b. b < 256)) traced.exits.state in
    let under = follows.2 plan is_plan in
    let core = image_core elf standard_map preserves.image preserves.read in
    let after : machine_after (first_core_of elf standard_map) [] (interrupts_by plan) follows.0 ≡ Ok under.0 =
    ap (λ z. machine_after z [] (interrupts_by plan) follows.0) (sym core) ∙ under.1 in
    let address = preserves.image.address in
    let told =
    exit_told (first_core_of elf standard_map) [] (interrupts_by plan) (plan_keeps plan) follows.0 under.0 (map (event_in address) traced.events) exit.status after
    (under.2.events ∙ ap (map (event_in address)) traced.event ∙ map-append (event_in address) traced.events (Numeric (event.Exit exit.status) ∷ [])) in
    record { count = follows.0; last = under.0; state = after; status = told.0; exit = told.1 }

-- ---- the program's exit

-- the exit comes at the last step, over a console that was empty
pub trace_exits :
    (inputs : Inputs) (s : PlainCore) (last : TraceEnd) (status count : ℕ) (before after : ConsoleState)
    → s ≡ first_plain (program_of (parsed inputs)) [] → last ≡ trace.Exited status → before.out ≡ []
    → CountsSteps (plain_course (program_of (parsed inputs)) s no_devices LOAD_STEPS) last count (desk_of before) (desk_of after)
    → IsTraced inputs count (record { bytes = after.out; status = status })
trace_exits inputs s last status count before after first exited empty counts =
    let p = program_of (parsed inputs) in
    let here = subst (λ (x : PlainCore). CountsSteps (plain_course p x no_devices LOAD_STEPS) last count (desk_of before) (desk_of after)) first counts in
    let counted : IsCounted (trace_run inputs) count status (desk_of before) (desk_of after) =
    subst (λ x. CountsSteps (trace_run inputs) x count (desk_of before) (desk_of after)) exited here in
    let same : after.out ≡ counted.bytes = counted.wrote ∙ ap (λ out. out ++ counted.bytes) empty in
    subst (λ bytes. IsTraced inputs count (record { bytes = bytes; status = status })) (sym same)
    (record { exits = counted.exits; events = counted.events; event = counted.event })
