-- The headline from what a call does: of an outcome that is Done, only the case is left in which the command did its work.
use Rattle.std.proofs.Common.{◌≡◌, ℕ, suc, ◌+◌, List, [], ◌∷◌, length, map, Option, Some, None, refl, sym, ap, ap₂, subst, ◌∙◌, inl, inr}
use Rattle.std.specs.List.{enumerate_from}
use Rattle.std.proofs.lemmas.Option.{same_Some, none-some}
use Rattle.std.proofs.lemmas.List.{length-map}
use Rattle.elf32_read.specs.Parts.{object_parts}
use Rattle.elf32_write.specs.ObjectFile.{object_bytes}
use Rattle.psabi_sym.specs.Inputs.{Inputs, inputs_in, parsed}
use Rattle.section_gc.specs.Cleaned.{cleaned}
use Rattle.section_gc.proofs.CleaningLaws.{length-cleaned}
use Rattle.section_gc.specs.Collected.{Collection, IsCollection, collected_place}
use Rattle.tail_merge.specs.Merged.{merged, merged_object, merged_place}
use Rattle.tail_merge.specs.Merging.{IsMerging, Merging}
use Rattle.zc_base.specs.Options.{Options}
use Rattle.elf32_read.specs.declared.fault.Fault.{Fault}
use Rattle.block_cut.specs.Faults.{first_fault}
use Rattle.zc_link.specs.Preserves.{Preserves}
use Rattle.zc_outside.specs.Files.{Files, KeepsFiles, PutsFile}
use Rattle.zc_outside.specs.Wanted.{AreRead, each_within}
use Rattle.zc_outside.specs.World.{World}
use Rattle.command_words.specs.Command.{Command, Gc, Merge, Plain, Share, Zc}
use Rattle.zcld.specs.declared.outcome.Outcome.{Outcome}
use Rattle.zcld.specs.declared.outcome.Outcome.TheVariants.{Broken, Done, Exited, OutOfMemory, Refused, Spent, Stopped}
use Rattle.zcld.specs.Call.{Calls, task_of}
use Rattle.zcld.specs.Gc.{GcWork}
use Rattle.zcld.specs.Headline.{HoldsImage, HoldsResults, Links, PreservesMoved}
use Rattle.zcld.specs.Merge.{MergeWork}
use Rattle.zcld.specs.ObjectNames.{named_from, names_from}
use Rattle.zcld.specs.Objects.{objects_before, objects_wanted, refused_for}
use Rattle.zcld.specs.Puts.{HasFiles, PutsFiles}
use Rattle.zcld.specs.Plain.{PlainWork}
use Rattle.zcld.specs.Share.{ShareWork, share_wanted}
use Rattle.zcld.specs.Task.{IsWorked, OnlyRead, Performs, Task, UnreadCause}
use Rattle.zcld.specs.Zc.{ZcWork}
use Rattle.zcld.specs.declared.limits.TheConstants.{OBJECT_LIMIT}
use Rattle.zcld.proofs.MovedImages.{collection_preserves, merging_preserves}
use Rattle.zcld.proofs.ShareEnds.{IsRunEnd, ended_accepted, ended_had, ended_not_memory, ended_put, objects_read}

-- a refusal of objects isn't Done
refused_undone : (found : Option (ℕ × Fault)) → refused_for found ≡ Some Done → ⊥
refused_undone None none = none-some Done none
refused_undone (Some f) some = let same : Refused f.0 f.1 ≡ Done = same_Some (Refused f.0 f.1) Done some in cc

-- nor is want of memory
done_not_memory : Done ≡ OutOfMemory → ⊥
done_not_memory e = cc

-- nor is a result with a fault
done_not_broken : (i : ℕ) (fault : Fault) → Done ≡ Broken i fault → ⊥
done_not_broken i fault e = cc

-- the bytes that were read stood under the names
stood : (f : Files) (limit : ℕ) (names files : List (List ℕ)) → AreRead (Some f) (each_within limit names) files → map f names ≡ map Some files
stood f limit [] [] read = refl
stood f limit [] (bytes ∷ files) read = absurd read
stood f limit (name ∷ names) [] read = absurd read
stood f limit (name ∷ names) (bytes ∷ files) read =
    let here : f name ≡ Some bytes = read.0.held in
    let rest : map f names ≡ map Some files = stood f limit names files read.1 in
    ap (λ x. x ∷ map f names) here ∙ ap (λ xs. Some bytes ∷ xs) rest

-- the first of the files that were put stands, and the store told its files as before when they were put
stands :
    (f g : Files) (a : Option Files) (out image : List ℕ) (others : List (List ℕ × List ℕ)) → KeepsFiles (Some f) a →
    PutsFiles a (Some g) ((out, image) ∷ others) → g out ≡ Some image
stands f g None out image others kept puts = absurd kept
stands f g (Some h) out image others kept puts = puts.0.0

-- likewise all of those that were put under names with numbers
all_stand : (g : Files) (prefix : List ℕ) (k : ℕ) (objects : List (List ℕ)) → HasFiles g (named_from prefix k objects) → map g (names_from prefix k (length objects)) ≡ map Some objects
all_stand g prefix k [] held = refl
all_stand g prefix k (object ∷ objects) held = ap₂ (λ x xs. x ∷ xs) held.0 (all_stand g prefix (suc k) objects held.1)

results_stand :
    (f g : Files) (a : Option Files) (prefix : List ℕ) (objects : List (List ℕ)) → KeepsFiles (Some f) a →
    PutsFiles a (Some g) (named_from prefix 0 objects) → map g (names_from prefix 0 (length objects)) ≡ map Some objects
results_stand f g None prefix objects kept puts = absurd kept
results_stand f g (Some h) prefix objects kept puts = all_stand g prefix 0 objects puts.0

-- likewise a file that was put
put_stands : (f g : Files) (a : Option Files) (out image : List ℕ) → KeepsFiles (Some f) a → PutsFile a (Some g) out image → g out ≡ Some image
put_stands f g None out image kept puts = absurd kept
put_stands f g (Some h) out image kept puts = puts.0

-- a command did its work if its outcome is none of files that can't be had or are refused
has_worked :
    (task : Task) (Work : List (List ℕ) → Outcome → World → World → Type 0) (files : List (List ℕ)) (outcome : Outcome) (before left : World) →
    (UnreadCause task.wanted before.shelf left.shelf outcome → ⊥) → (task.refusal files ≡ Some outcome → ⊥) →
    Performs task Work files outcome before left → IsWorked task Work files outcome before left
has_worked task Work files outcome before left had accepted does = elim does [
  | inl unread ↦ absurd (had unread.cause)
  | inr (inl refused) ↦ absurd (accepted refused.refused)
  | inr (inr worked) ↦ worked
]

-- a command that is Done did its work
done_worked :
    (task : Task) (Work : List (List ℕ) → Outcome → World → World → Type 0) (files : List (List ℕ)) (before left : World) →
    (task.refusal files ≡ Some Done → ⊥) → Performs task Work files Done before left → IsWorked task Work files Done before left
done_worked task Work files before left undone does = has_worked task Work files Done before left (λ none. none) undone does

module _ (options : Options) (before after : World) where
  -- objects were read, and an image that preserves them is the first file that was put
  holds_image :
      (out : List ℕ) (names : List (List ℕ)) (f g : Files) (files : List (List ℕ)) (elf : List ℕ) (others : List (List ℕ × List ℕ)) (between left : World) →
      before.shelf.files ≡ Some f → after.shelf.files ≡ Some g → after.shelf ≡ left.shelf →
      OnlyRead (objects_wanted names) before between → AreRead before.shelf.files (objects_wanted names) files →
      PutsFiles between.shelf.files left.shelf.files ((out, elf) ∷ others) → Preserves (inputs_in options files) elf →
      HoldsImage options out names f g
  holds_image out names f g files elf others between left told tells same only read puts preserves =
      let kept : KeepsFiles (Some f) between.shelf.files = subst (λ a. KeepsFiles a between.shelf.files) told only.shelf.files in
      let there : left.shelf.files ≡ Some g = sym (ap (λ s. s.files) same) ∙ tells in
      let put : PutsFiles between.shelf.files (Some g) ((out, elf) ∷ others) =
      subst (λ b. PutsFiles between.shelf.files b ((out, elf) ∷ others)) there puts in (
        files,
        elf,
        stood f OBJECT_LIMIT names files (subst (λ a. AreRead a (objects_wanted names) files) told read),
        stands f g between.shelf.files out elf others kept put,
        preserves,
      )

-- there are as many results as objects
as_many : (inputs : Inputs) (c : Collection) → IsCollection inputs c → length c.files ≡ length inputs.files
as_many inputs c is =
    ap length is.collected.files_are ∙ length-map (cleaned is.needed (parsed inputs).objects) object_bytes
    ∙ length-cleaned is.needed 0 (parsed inputs).objects ∙ length-map inputs.files object_parts

length_enumerated : {A : Type 0} (n : ℕ) (xs : List A) → length (enumerate_from n xs) ≡ length xs
length_enumerated n [] = refl
length_enumerated n (x ∷ xs) = ap suc (length_enumerated (n + 1) xs)

as_many_merged : (inputs : Inputs) (m : Merging) → IsMerging inputs m → length m.files ≡ length inputs.files
as_many_merged inputs m is =
    let objects = (parsed inputs).objects in
    ap length is.merged.files_are ∙ length-map (merged (parsed inputs)) object_bytes
    ∙ length-map (enumerate_from 0 objects) (λ e. merged_object (parsed inputs) e.0 e.1)
    ∙ length_enumerated 0 objects ∙ length-map inputs.files object_parts

module _ (before after : World) where
  -- objects were read, and results of them were put
  holds_results :
      (options : Options) (Follows : Inputs → List ℕ → Type 0) (prefix : List ℕ) (names : List (List ℕ)) (f g : Files) (files results : List (List ℕ)) (between left : World) →
      before.shelf.files ≡ Some f → after.shelf.files ≡ Some g → after.shelf ≡ left.shelf →
      OnlyRead (objects_wanted names) before between → AreRead before.shelf.files (objects_wanted names) files →
      PutsFiles between.shelf.files left.shelf.files (named_from prefix 0 results) → length results ≡ length files →
      ((elf : List ℕ) → Preserves (inputs_in options results) elf → Follows (inputs_in options files) elf) →
      HoldsResults options Follows prefix names f g
  holds_results options Follows prefix names f g files results between left told tells same only read puts many preserve =
      let kept : KeepsFiles (Some f) between.shelf.files = subst (λ a. KeepsFiles a between.shelf.files) told only.shelf.files in
      let there : left.shelf.files ≡ Some g = sym (ap (λ s. s.files) same) ∙ tells in
      let put : PutsFiles between.shelf.files (Some g) (named_from prefix 0 results) =
      subst (λ b. PutsFiles between.shelf.files b (named_from prefix 0 results)) there puts in (
        files,
        results,
        stood f OBJECT_LIMIT names files (subst (λ a. AreRead a (objects_wanted names) files) told read),
        many,
        results_stand f g between.shelf.files prefix results kept put,
        preserve,
      )

  -- `share` whose run came to its end had put the image of its link
  holds_shared :
      (options : Options) (out plan : List ℕ) (steps : ℕ) (names : List (List ℕ)) (outcome : Outcome) → IsRunEnd outcome → (f g : Files) → before.shelf.files ≡ Some f → after.shelf.files ≡ Some g →
      Calls (Some (Share options out plan steps names)) outcome before after → HoldsImage options out names f g
  holds_shared options out plan steps names outcome ends f g told tells calls =
      let command_task = task_of (Share options out plan steps names) in
      let worked =
      has_worked command_task (ShareWork options out steps) calls.files outcome before calls.left (ended_had outcome ends command_task.wanted before.shelf calls.left.shelf)
      (ended_accepted outcome ends options calls.files) calls.does in
      elim worked.work [
        | inl lack ↦ absurd (ended_not_memory outcome ends lack.0)
        | inr work ↦
            let kept : KeepsFiles (Some f) worked.between.shelf.files = subst (λ a. KeepsFiles a worked.between.shelf.files) told worked.only.shelf.files in
            let there : calls.left.shelf.files ≡ Some g = sym (ap (λ s. s.files) calls.line.shelf) ∙ tells in
            let put : PutsFile worked.between.shelf.files (Some g) out work.link.elf =
            subst (λ b. PutsFile worked.between.shelf.files b out work.link.elf) there (ended_put outcome ends out work.link.elf _ _ steps worked.between calls.left work.run) in
            let were : AreRead (Some f) (share_wanted plan names) calls.files = subst (λ a. AreRead a (share_wanted plan names) calls.files) told worked.read in (
              objects_before calls.files,
              work.link.elf,
              stood f OBJECT_LIMIT names (objects_before calls.files) (objects_read f OBJECT_LIMIT plan names calls.files were),
              put_stands f g worked.between.shelf.files out work.link.elf kept put,
              work.linked.image.preserves,
            )
      ]

  by_cases :
      (command : Option Command) (outcome : Outcome) (a b : Option Files) → before.shelf.files ≡ a → after.shelf.files ≡ b →
      Calls command outcome before after → Links command outcome a b
  by_cases (Some (Zc options out cert names)) Done (Some f) (Some g) told tells calls =
      let undone = refused_undone (first_fault (inputs_in options calls.files)) in
      let worked = done_worked (task_of (Zc options out cert names)) (ZcWork options out cert) calls.files before calls.left undone calls.does in
      elim worked.work [
        | inl lack ↦ absurd (done_not_memory lack.0)
        | inr put ↦
            holds_image options before after out names f g calls.files put.link.elf _ worked.between calls.left told tells calls.line.shelf worked.only worked.read put.done.files put.linked.image.preserves
      ]
  by_cases (Some (Plain options out names)) Done (Some f) (Some g) told tells calls =
      let undone = refused_undone (first_fault (inputs_in options calls.files)) in
      let worked = done_worked (task_of (Plain options out names)) (PlainWork options out) calls.files before calls.left undone calls.does in
      elim worked.work [
        | inl lack ↦ absurd (done_not_memory lack.0)
        | inr put ↦
            holds_image options before after out names f g calls.files put.link.elf _ worked.between calls.left told tells calls.line.shelf worked.only worked.read put.done.files put.linked.image.preserves
      ]
  by_cases (Some (Gc options prefix names)) Done (Some f) (Some g) told tells calls =
      let undone = refused_undone (first_fault (inputs_in options calls.files)) in
      let worked = done_worked (task_of (Gc options prefix names)) (GcWork options prefix) calls.files before calls.left undone calls.does in
      elim worked.work [
        | inl lack ↦ absurd (done_not_memory lack.0)
        | inr (inl breaks) ↦ absurd (done_not_broken breaks.index breaks.fault breaks.outcome_is)
        | inr (inr put) ↦
            let inputs = inputs_in options calls.files in
            holds_results options (λ inputs. PreservesMoved 64 (collected_place inputs) inputs) prefix names f g calls.files put.results.files worked.between calls.left told tells calls.line.shelf worked.only worked.read put.done.files
            (as_many inputs put.results put.are) (collection_preserves inputs put.results put.are)
      ]
  by_cases (Some (Merge options prefix names)) Done (Some f) (Some g) told tells calls =
      let undone = refused_undone (first_fault (inputs_in options calls.files)) in
      let worked = done_worked (task_of (Merge options prefix names)) (MergeWork options prefix) calls.files before calls.left undone calls.does in
      elim worked.work [
        | inl lack ↦ absurd (done_not_memory lack.0)
        | inr (inl breaks) ↦ absurd (done_not_broken breaks.index breaks.fault breaks.outcome_is)
        | inr (inr put) ↦
            let inputs = inputs_in options calls.files in
            holds_results options (λ inputs. PreservesMoved 128 (merged_place (parsed inputs)) inputs) prefix names f g calls.files put.results.files worked.between calls.left told tells calls.line.shelf worked.only worked.read put.done.files
            (as_many_merged inputs put.results put.are) (merging_preserves inputs put.results put.are)
      ]
  by_cases (Some (Share options out plan steps names)) (Exited code) (Some f) (Some g) told tells calls = holds_shared options out plan steps names (Exited code) tt f g told tells calls
  by_cases (Some (Share options out plan steps names)) (Stopped reason pc) (Some f) (Some g) told tells calls = holds_shared options out plan steps names (Stopped reason pc) tt f g told tells calls
  by_cases (Some (Share options out plan steps names)) Spent (Some f) (Some g) told tells calls = holds_shared options out plan steps names Spent tt f g told tells calls
  by_cases command outcome a b told tells calls = tt

  pub links : (command : Option Command) (outcome : Outcome) → Calls command outcome before after → Links command outcome before.shelf.files after.shelf.files
  links command outcome calls = by_cases command outcome before.shelf.files after.shelf.files refl refl calls
