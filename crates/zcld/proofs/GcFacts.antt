-- What is known of `gc`, and how it ends with files that were read.
use Rattle.std.proofs.Common.{◌≡◌, ℕ, List, Some, refl, ◌⊎◌}
use Rattle.psabi_sym.specs.Inputs.{inputs_in}
use Rattle.section_gc.specs.Collected.{Collection, IsBroken, IsCollection, IsGcFault}
use Rattle.section_gc.specs.declared.gc_fault.GcFault.{GcFault}
use Rattle.section_gc.specs.declared.gc_fault.GcFault.TheVariants as gc
use Rattle.zc_base.specs.Options.{Options}
use Rattle.zc_outside.specs.Desk.{OnlyWrites}
use Rattle.zc_outside.specs.Shelf.{OnlyPuts}
use Rattle.zc_outside.specs.Wanted.{AreRead}
use Rattle.zc_outside.specs.World.{World}
use Rattle.command_words.specs.Command.{Gc}
use Rattle.zcld.specs.declared.outcome.Outcome.{Outcome}
use Rattle.zcld.specs.declared.outcome.Outcome.TheVariants.{OutOfMemory}
use Rattle.zcld.specs.Call.{DoesWith, task_of}
use Rattle.zcld.specs.ErrLine.{NamesNothing}
use Rattle.zcld.specs.Gc.{GcWork, gc_output}
use Rattle.zcld.specs.Objects.{objects_wanted}
use Rattle.zcld.specs.Outcome.{gc_outcome}
use Rattle.zcld.specs.Puts.{PutsInTurn}
use Rattle.zcld.specs.Task.{OnlyRead}
use Rattle.zcld.proofs.Answering.{Facts}
use Rattle.zcld.proofs.RewriteFacts.{broke, lacked_memory, refused_first, rewrite_facts, with_results}

module _ (options : Options) (prefix : List ℕ) where
  pub gc_facts : (objects : List (List ℕ)) → Facts (task_of (Gc options prefix objects)) (GcWork options prefix)
  gc_facts objects = rewrite_facts options IsBroken IsCollection (gc_output prefix) objects

  module _ (names files : List (List ℕ)) (before between : World) (only : OnlyRead (objects_wanted names) before between)
      (read : AreRead before.shelf.files (objects_wanted names) files) where
    -- there is no result, and nothing was done
    pub without_result : (fault : GcFault) → IsGcFault (inputs_in options files) fault → DoesWith (Some (Gc options prefix names)) files (gc_outcome fault) before between
    without_result (gc.Object index fault) is =
        refused_first options IsBroken IsCollection (gc_output prefix) (Gc options prefix names) names files refl refl before between only read index fault is
    without_result (gc.Broken index fault) is =
        broke options IsBroken IsCollection (gc_output prefix) (Gc options prefix names) names files refl refl before between only read index fault is.given_faultless is
    without_result gc.OutOfMemory is =
        lacked_memory options IsBroken IsCollection (gc_output prefix) (Gc options prefix names) names files refl refl before between only read

    -- there is one
    pub with_result :
        (left : List (List ℕ)) (outcome : Outcome) (c : Collection) (after : World) → IsCollection (inputs_in options files) c
        → ((outcome ≡ OutOfMemory) × (after ≡ between)) ⊎ PutsInTurn outcome (gc_output prefix c) between after → OnlyPuts between.shelf after.shelf
        → OnlyWrites between.desk after.desk → NamesNothing outcome → DoesWith (Some (Gc options prefix names)) left outcome before after
    with_result left outcome c after collected done shelf desk nothing =
        with_results options IsBroken IsCollection (gc_output prefix) (Gc options prefix names) names files refl refl before between only read
        left outcome c after collected.collected.given_faultless collected done shelf desk nothing
