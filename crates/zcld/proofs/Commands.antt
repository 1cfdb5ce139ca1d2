-- The facts of each command, and with them what a call does from what its command does.
use Rattle.std.proofs.Common.{◌≡◌, ℕ, List, Option, Some, None, refl, sym, subst, ◌⊎◌, inl, inr}
use Rattle.std.proofs.lemmas.Option.{none-some}
use Rattle.zc_outside.specs.World.{World}
use Rattle.zc_outside.proofs.Wanted.{ReadsAll-front, ReadsAll-none}
use Rattle.command_words.specs.Command.{Check, Command, Gc, Listing, Make, Merge, Plain, Run, Share, Trace, Zc}
use Rattle.zcld.specs.declared.outcome.Outcome.{Outcome}
use Rattle.zcld.specs.declared.outcome.Outcome.TheVariants.{OutOfMemory, Usage}
use Rattle.zcld.specs.Call.{Answers, Calls, CarriesOut, CountsFaults, DoesWith, IfCommand, IsUsageOf, Reports, TellsAll, task_of, work_of}
use Rattle.zcld.specs.ErrLine.{err_line}
use Rattle.zcld.proofs.Answering.{Facts, performed_answers, performed_counts, performed_known}
use Rattle.zcld.proofs.CheckFacts.{check_facts}
use Rattle.zcld.proofs.GcFacts.{gc_facts}
use Rattle.zcld.proofs.ListFacts.{list_facts}
use Rattle.zcld.proofs.MakeFacts.{make_facts}
use Rattle.zcld.proofs.MergeFacts.{merge_facts}
use Rattle.zcld.proofs.PlainFacts.{plain_facts}
use Rattle.zcld.proofs.RunFacts.{run_facts}
use Rattle.zcld.proofs.ShareFacts.{share_facts}
use Rattle.zcld.proofs.TraceFacts.{trace_facts}
use Rattle.zcld.proofs.ZcFacts.{zc_facts}

facts : (command : Command) → Facts (task_of command) (work_of command)
facts (Plain options out objects) = plain_facts options out objects
facts (Zc options out cert objects) = zc_facts options out cert objects
facts (Run map devices plan steps image) = run_facts map devices plan steps image
facts (Trace options devices steps objects) = trace_facts options devices steps objects
facts (Check cert) = check_facts cert
facts (Make prefix number functions) = make_facts prefix number functions
facts (Gc options prefix objects) = gc_facts options prefix objects
facts (Merge options prefix objects) = merge_facts options prefix objects
facts (Share options out plan steps objects) = share_facts options out plan steps objects
facts (Listing map image) = list_facts map image

-- memory may run out before anything is done, whatever the words spell
pub out_of_memory : (command : Option Command) (files : List (List ℕ)) (before : World) → CarriesOut command files OutOfMemory before before
out_of_memory None files before = (inr refl, refl)
out_of_memory (Some command) files before = inl (record {
  only = record { shelf = ReadsAll-front (task_of command).wanted (ReadsAll-none before.shelf); desk = refl };
  cause = tt;
})

-- an ending with the outcome that a command says
pub ended :
    (command : Option Command) (left : List (List ℕ)) {outcome said : Outcome} {before after : World} → outcome ≡ said →
    DoesWith command left said before after → DoesWith command left outcome before after
ended command left {before = before} {after = after} is does = subst (λ o. DoesWith command left o before after) (sym is) does

module _ (files : List (List ℕ)) (outcome : Outcome) (before left : World) where
  -- Usage is the outcome of words that spell no command
  usage_alone : (command : Option Command) → CarriesOut command files outcome before left → outcome ≡ Usage → command ≡ None
  usage_alone None does usage = refl
  usage_alone (Some command) does usage = absurd (performed_known (task_of command) (work_of command) (facts command) files outcome before left does usage)

  -- words that spell no command have the outcome Usage, unless memory ran out
  none_alone : (command : Option Command) → CarriesOut command files outcome before left → command ≡ None → (outcome ≡ Usage) ⊎ (outcome ≡ OutOfMemory)
  none_alone None does none = does.0
  none_alone (Some command) does none = absurd (none-some command (sym none))

  pub usage : (command : Option Command) → CarriesOut command files outcome before left → IsUsageOf command outcome
  usage command does = record { only = usage_alone command does; always = none_alone command does }

  module _ (after : World) (line : Reports (err_line files outcome) left after) where
    answers :
        (command : Option Command) → CarriesOut command files outcome before left →
        IfCommand command (λ task. (told : List (List ℕ)) → TellsAll before.shelf.files task.wanted told → Answers task outcome told before after)
    answers None does = tt
    answers (Some command) does = performed_answers (task_of command) (work_of command) (facts command) files outcome before left does _ after line

    counts : (command : Option Command) → CarriesOut command files outcome before left → IfCommand command (λ task. CountsFaults task before after)
    counts None does = tt
    counts (Some command) does = performed_counts (task_of command) (work_of command) (facts command) files outcome before left does _ after line

    pub calls : (command : Option Command) → CarriesOut command files outcome before left → Calls command outcome before after
    calls command does = record { files = files; left = left; does = does; line = line; answers = answers command does; counts = counts command does }
