-- What is known of `merge`, and how it ends with files that were read.
use Rattle.std.proofs.Common.{◌≡◌, ℕ, List, Some, refl, ◌⊎◌}
use Rattle.psabi_sym.specs.Inputs.{inputs_in}
use Rattle.tail_merge.specs.Merging.{BreaksMerged, IsMergeFault, IsMerging, Merging}
use Rattle.tail_merge.specs.declared.merge_fault.MergeFault.{MergeFault}
use Rattle.tail_merge.specs.declared.merge_fault.MergeFault.TheVariants as merge
use Rattle.zc_base.specs.Options.{Options}
use Rattle.zc_outside.specs.Desk.{OnlyWrites}
use Rattle.zc_outside.specs.Shelf.{OnlyPuts}
use Rattle.zc_outside.specs.Wanted.{AreRead}
use Rattle.zc_outside.specs.World.{World}
use Rattle.command_words.specs.Command.{Merge}
use Rattle.zcld.specs.declared.outcome.Outcome.{Outcome}
use Rattle.zcld.specs.declared.outcome.Outcome.TheVariants.{OutOfMemory}
use Rattle.zcld.specs.Call.{DoesWith, task_of}
use Rattle.zcld.specs.ErrLine.{NamesNothing}
use Rattle.zcld.specs.Merge.{MergeWork, merge_output}
use Rattle.zcld.specs.Objects.{objects_wanted}
use Rattle.zcld.specs.Outcome.{merge_outcome}
use Rattle.zcld.specs.Puts.{PutsInTurn}
use Rattle.zcld.specs.Task.{OnlyRead}
use Rattle.zcld.proofs.Answering.{Facts}
use Rattle.zcld.proofs.RewriteFacts.{broke, lacked_memory, refused_first, rewrite_facts, with_results}

module _ (options : Options) (prefix : List ℕ) where
  pub merge_facts : (objects : List (List ℕ)) → Facts (task_of (Merge options prefix objects)) (MergeWork options prefix)
  merge_facts objects = rewrite_facts options BreaksMerged IsMerging (merge_output prefix) objects

  module _ (names files : List (List ℕ)) (before between : World) (only : OnlyRead (objects_wanted names) before between)
      (read : AreRead before.shelf.files (objects_wanted names) files) where
    -- there is no result, and nothing was done
    pub without_merged : (fault : MergeFault) → IsMergeFault (inputs_in options files) fault → DoesWith (Some (Merge options prefix names)) files (merge_outcome fault) before between
    without_merged (merge.Object index fault) is =
        refused_first options BreaksMerged IsMerging (merge_output prefix) (Merge options prefix names) names files refl refl before between only read index fault is
    without_merged (merge.Broken index fault) is =
        broke options BreaksMerged IsMerging (merge_output prefix) (Merge options prefix names) names files refl refl before between only read index fault is.given_faultless is
    without_merged merge.OutOfMemory is =
        lacked_memory options BreaksMerged IsMerging (merge_output prefix) (Merge options prefix names) names files refl refl before between only read

    -- there is one
    pub with_merged :
        (left : List (List ℕ)) (outcome : Outcome) (m : Merging) (after : World) → IsMerging (inputs_in options files) m
        → ((outcome ≡ OutOfMemory) × (after ≡ between)) ⊎ PutsInTurn outcome (merge_output prefix m) between after → OnlyPuts between.shelf after.shelf
        → OnlyWrites between.desk after.desk → NamesNothing outcome → DoesWith (Some (Merge options prefix names)) left outcome before after
    with_merged left outcome m after merged done shelf desk nothing =
        with_results options BreaksMerged IsMerging (merge_output prefix) (Merge options prefix names) names files refl refl before between only read
        left outcome m after merged.merged.given_faultless merged done shelf desk nothing
