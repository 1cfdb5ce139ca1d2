-- What is known of `check`: its refusals, how its work ends, and what that does to the counts.
use Rattle.std.proofs.Common.{◌≡◌, ℕ, List, Bool, true, false, Some, None, Result, Ok, Err, refl, sym, subst, ◌⊎◌, inr, if◌then◌else◌}
use Rattle.std.proofs.lemmas.Option.{same_Some, none-some}
use Rattle.pick_check.specs.Certified.{Certified, is_accepted}
use Rattle.pick_check.specs.Text.{certificate_in}
use Rattle.pick_check.specs.declared.fault.CertFault.{CertFault}
use Rattle.pick_check.specs.declared.saving.Saving.{Saving}
use Rattle.zc_outside.specs.Shelf.{OnlyPuts}
use Rattle.zc_outside.specs.World.{World}
use Rattle.zc_outside.proofs.Shelf.{OnlyPuts-refl}
use Rattle.command_words.specs.Command.{Check}
use Rattle.zcld.specs.declared.outcome.FileFault.TheVariants.{Certificate, Rejected}
use Rattle.zcld.specs.declared.outcome.Outcome.{Outcome}
use Rattle.zcld.specs.declared.outcome.Outcome.TheVariants.{BadFile}
use Rattle.zcld.specs.Call.{task_of}
use Rattle.zcld.specs.Check.{CheckWork, certificate_refusal, check_line}
use Rattle.zcld.specs.ErrLine.{NamesNothing}
use Rattle.zcld.specs.Puts.{text_alone}
use Rattle.zcld.specs.Task.{Task, first_file}
use Rattle.zcld.proofs.Answering.{Facts, IsAnswer, IsFaulted, Moves}
use Rattle.zcld.proofs.OutputFacts.{output_ends, output_moves}

-- a refusal of a certificate is an answer
certificate_refuses : (read : Result (List Saving × Certified) CertFault) (outcome : Outcome) → certificate_refusal read ≡ Some outcome → IsAnswer outcome
certificate_refuses (Err fault) outcome some = subst IsAnswer (same_Some (BadFile (Certificate fault)) outcome some) tt
certificate_refuses (Ok read) outcome is = by (is_accepted read.0 read.1) is
  where
    by : (accepted : Bool) → (if accepted then None else Some (BadFile Rejected)) ≡ Some outcome → IsAnswer outcome
    by true none = absurd (none-some outcome none)
    by false some = subst IsAnswer (same_Some (BadFile Rejected) outcome some) tt

-- a certificate's refusal has a line that names nothing
pub certificate_names_nothing : (read : Result (List Saving × Certified) CertFault) (outcome : Outcome) → certificate_refusal read ≡ Some outcome → NamesNothing outcome
certificate_names_nothing (Err fault) outcome some = subst NamesNothing (same_Some (BadFile (Certificate fault)) outcome some) (λ files. refl)
certificate_names_nothing (Ok read) outcome is = by (is_accepted read.0 read.1) is
  where
    by : (accepted : Bool) → (if accepted then None else Some (BadFile Rejected)) ≡ Some outcome → NamesNothing outcome
    by true none = absurd (none-some outcome none)
    by false some = subst NamesNothing (same_Some (BadFile Rejected) outcome some) (λ files. refl)

module _ (cert : List ℕ) where
  abbrev task : Task
  task = task_of (Check cert)

  check_ends : (files : List (List ℕ)) (outcome : Outcome) (before after : World) → CheckWork files outcome before after → IsAnswer outcome ⊎ IsFaulted task files outcome before after
  check_ends files outcome before after work = output_ends task files (text_alone (check_line work.net)) (inr refl) outcome before after work.printed

  check_moves : (files : List (List ℕ)) (outcome : Outcome) (before after : World) → CheckWork files outcome before after → Moves before after
  check_moves files outcome before after work =
      output_moves before after (subst (λ s. OnlyPuts before.shelf s) (sym work.shelf) (OnlyPuts-refl before.shelf)) work.desk

  pub check_facts : Facts task CheckWork
  check_facts = record { refuses = λ files. certificate_refuses (certificate_in (first_file files)); ends = check_ends; moves = check_moves }
