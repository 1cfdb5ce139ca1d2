-- What `share` does: it reads objects and a plan whose interrupts also write shared data, links the objects as `zc` does, takes the
-- console's whole input, puts the image, and then makes commits of the Zc machine under the plan.
use Rattle.std.specs.Prelude.{◌≡◌, ℕ, ◌⊎◌, List, ◌++◌, Option, Some, None, Ok}
use Rattle.std.specs.List.Sorted.{IsPermutation}
use Rattle.std.specs.Option.{option_or}
use Rattle.block_cut.specs.Faults.{first_fault}
use Rattle.devices.specs.Environment.{only_input}
use Rattle.interrupt_plan.specs.SharedPlan.{SharedEntry}
use Rattle.interrupt_plan.specs.Text.{shared_in}
use Rattle.psabi_sym.specs.Inputs.{Inputs, inputs_in, parsed}
use Rattle.psabi_sym.specs.Shared.{shared_ranges}
use Rattle.rv_decode.specs.State.{ZcCore}
use Rattle.shared_cells.specs.SharedRun.{shared_by}
use Rattle.zc_base.specs.Options.{Options}
use Rattle.shared_runs.specs.SharesCells.{SharesCells}
use Rattle.sym_machine.specs.Objects.{program_of}
use Rattle.zc_link.specs.Links.{IsZcLink, Link, slots_of}
use Rattle.zc_link.specs.Pace.{pace_of}
use Rattle.zc_link.specs.TextLayout.{stretch_in, zc_layout}
use Rattle.zc_machine.specs.Load.{first_core_of}
use Rattle.zc_outside.specs.Files.{KeepsFiles, PutsFile}
use Rattle.zc_outside.specs.Shelf.{OnlyPuts, Shelf}
use Rattle.zc_outside.specs.Wanted.{Wanted}
use Rattle.zc_outside.specs.World.{World, world}
use Rattle.zcld.specs.declared.outcome.Outcome.{Outcome}
use Rattle.zcld.specs.declared.outcome.Outcome.TheVariants.{OutOfMemory}
use Rattle.zcld.specs.declared.share.SharedImage.{SharedImage}
use Rattle.zcld.specs.Machines.{HasEnded, TakesAndRuns}
use Rattle.zcld.specs.Objects.{last_file, objects_before, objects_refusal, objects_wanted}
use Rattle.zcld.specs.Puts.{UnputCause}
use Rattle.zcld.specs.Run.{EndsRun, end_outcome, plan_refusal, plan_wanted}

-- ---- the files

-- the objects, and then the plan, each up to its limit
abbrev pub share_wanted : List ℕ → List (List ℕ) → List Wanted
share_wanted plan objects = objects_wanted objects ++ plan_wanted (Some plan)

-- the objects under the options; the plan is the last file
abbrev pub share_inputs : Options → List (List ℕ) → Inputs
share_inputs options files = inputs_in options (objects_before files)

-- the first fault in the objects is named, and the plan's only if the objects have none
abbrev pub share_refusal : Options → List (List ℕ) → Option Outcome
share_refusal options files =
    option_or (objects_refusal options (objects_before files)) (plan_refusal (shared_in (last_file files)))

-- ---- the run

-- the image couldn't be put, and nothing was done
pub record IsImageUnput (outcome : Outcome) (before after : World) : Type 0 where
  pub files : KeepsFiles before.shelf.files after.shelf.files
  pub cause : UnputCause outcome before.shelf after.shelf
  pub only : OnlyPuts before.shelf after.shelf
  pub desk : after.desk ≡ before.desk

-- the image was put, and after that this was done
pub record HasPutImage
    (out image : List ℕ) (Does : Outcome → World → World → Type 0) (outcome : Outcome) (before after : World) : Type 0 where
  pub between : Shelf
  pub put : PutsFile before.shelf.files between.files out image
  pub only : OnlyPuts before.shelf between
  pub does : Does outcome (world between before.desk) after

-- the machine ran from its first state over an input, of at most `steps` commits, with what happens before each of them, and came to
-- an end
abbrev pub RunsFrom : ZcCore → (ℕ → ZcCore → ZcCore) → ℕ → List ℕ → Outcome → World → World → Type 0
RunsFrom first happens steps input = HasEnded (EndsRun first happens steps (only_input input)) end_outcome

-- there was no memory for the machine, and nothing was done; or the image couldn't be put; or it was put, and ran over an input
abbrev pub PutsAndRuns :
    List ℕ → List ℕ → (List ℕ → Outcome → World → World → Type 0) → List ℕ → Outcome → World → World → Type 0
PutsAndRuns out image Runs input outcome before after =
    ((outcome ≡ OutOfMemory) × (after ≡ before))
    ⊎ (IsImageUnput outcome before after ⊎ HasPutImage out image (Runs input) outcome before after)

-- what `share` puts and runs, as the program holds it: the image of the objects' link, the plan that a text spells, and the objects'
-- ranges of shared data in any order
pub record IsReadyToShare (inputs : Inputs) (text : List ℕ) (shared : SharedImage) : Type 0 where
  pub link : Link
  pub linked : IsZcLink inputs link
  pub faultless : first_fault inputs ≡ None
  pub image_is : shared.image.items ≡ link.elf
  pub spelled : shared_in text ≡ Ok shared.plan
  pub ranges : IsPermutation (shared_ranges (parsed inputs)) shared.ranges.items

-- the image of a link by `zc` does what the objects' program does, under every plan whose interrupts also write the objects' shared
-- data
abbrev pub SharesLink : (inputs : Inputs) (link : Link) → IsZcLink inputs link → Type 0
SharesLink inputs link linked =
    let program = program_of (parsed inputs) in
    SharesCells program linked.image.loaded (pace_of program (stretch_in (zc_layout inputs (slots_of link))))
    (shared_ranges (parsed inputs))

-- the objects were linked, the input was taken, the image was put, and it ran under the plan, all under the options; the plan's cells are
-- written where they lie in the objects' sections of shared data; and under every such plan that image does what the objects'
-- program does
pub record LinksAndRuns
    (options : Options) (out : List ℕ) (steps : ℕ) (files : List (List ℕ)) (outcome : Outcome) (before after : World)
    : Type 0 where
  pub link : Link
  pub linked : IsZcLink (share_inputs options files) link
  pub shares : SharesLink (share_inputs options files) link linked
  pub plan : List SharedEntry
  pub spelled : shared_in (last_file files) ≡ Ok plan
  pub run :
      TakesAndRuns
      (PutsAndRuns out link.elf
      (RunsFrom (first_core_of link.elf options.map)
      (shared_by (shared_ranges (parsed (share_inputs options files))) plan) steps))
      outcome before after

-- the work of `share`: there was no memory for the link or the plan, and nothing was done; or the link ran
abbrev pub ShareWork : Options → List ℕ → ℕ → List (List ℕ) → Outcome → World → World → Type 0
ShareWork options out steps files outcome before after =
    ((outcome ≡ OutOfMemory) × (after ≡ before)) ⊎ LinksAndRuns options out steps files outcome before after
