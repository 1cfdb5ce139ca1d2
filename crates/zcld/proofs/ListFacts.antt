-- What is known of `list`: its refusals, how its work ends, and what that does to the counts.
use Rattle.std.proofs.Common.{◌≡◌, ℕ, List, Option, Some, None, refl, sym, subst, ◌⊎◌, inl, inr}
use Rattle.std.proofs.lemmas.Option.{same_Some, none-some}
use Rattle.std.specs.Option.{option_map}
use Rattle.elf32_read.specs.Image.{image_fault}
use Rattle.elf32_read.specs.declared.image_fault.ImageFault.{ImageFault}
use Rattle.zc_base.specs.declared.mem_map.MemMap.{MemMap}
use Rattle.zc_outside.specs.Shelf.{OnlyPuts}
use Rattle.zc_outside.specs.World.{World}
use Rattle.zc_outside.proofs.Shelf.{OnlyPuts-refl}
use Rattle.command_words.specs.Command.{Listing}
use Rattle.zcld.specs.declared.outcome.FileFault.TheVariants.{Image}
use Rattle.zcld.specs.declared.outcome.Outcome.{Outcome}
use Rattle.zcld.specs.declared.outcome.Outcome.TheVariants.{BadFile}
use Rattle.zcld.specs.Call.{task_of}
use Rattle.zcld.specs.ErrLine.{NamesNothing}
use Rattle.zcld.specs.List.{ListWork}
use Rattle.zcld.specs.Puts.{text_alone}
use Rattle.zcld.specs.Task.{Task, first_file}
use Rattle.zcld.proofs.Answering.{Facts, IsAnswer, IsFaulted, Moves, no_memory, no_moves}
use Rattle.zcld.proofs.OutputFacts.{output_ends, output_moves}

-- what holds of the refusal for any fault of an image holds of an image's
by_fault : (P : Outcome → Type 0) → ((fault : ImageFault) → P (BadFile (Image fault))) → (found : Option ImageFault) (outcome : Outcome)
    → option_map (λ fault. BadFile (Image fault)) found ≡ Some outcome → P outcome
by_fault P each None outcome none = absurd (none-some outcome none)
by_fault P each (Some fault) outcome some = subst P (same_Some (BadFile (Image fault)) outcome some) (each fault)

-- an image's refusal has a line that names nothing
pub image_names_nothing : (found : Option ImageFault) (outcome : Outcome) → option_map (λ fault. BadFile (Image fault)) found ≡ Some outcome → NamesNothing outcome
image_names_nothing = by_fault NamesNothing (λ fault files. refl)

module _ (memory : MemMap) (image : List ℕ) where
  abbrev task : Task
  task = task_of (Listing memory image)

  list_ends : (files : List (List ℕ)) (outcome : Outcome) (before after : World) → ListWork files outcome before after → IsAnswer outcome ⊎ IsFaulted task files outcome before after
  list_ends files outcome before after (inl memory) = inl (no_memory outcome memory.0)
  list_ends files outcome before after (inr work) = output_ends task files (text_alone work.text) (inr refl) outcome before after work.printed

  list_moves : (files : List (List ℕ)) (outcome : Outcome) (before after : World) → ListWork files outcome before after → Moves before after
  list_moves files outcome before after (inl memory) = subst (λ w. Moves before w) (sym memory.1) (no_moves before)
  list_moves files outcome before after (inr work) =
      output_moves before after (subst (λ s. OnlyPuts before.shelf s) (sym work.shelf) (OnlyPuts-refl before.shelf)) work.desk

  pub list_facts : Facts task ListWork
  list_facts = record {
    refuses = λ files. by_fault IsAnswer (λ fault. tt) (image_fault (first_file files) memory);
    ends = list_ends;
    moves = list_moves;
  }
