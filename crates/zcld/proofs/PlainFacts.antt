-- What is known of `plain`: its refusals, how its work ends, and what that does to the counts.
use Rattle.std.proofs.Common.{ℕ, List, refl, sym, subst, ◌⊎◌, inl, inr}
use Rattle.psabi_sym.specs.Inputs.{inputs_in}
use Rattle.zc_base.specs.Options.{Options}
use Rattle.block_cut.specs.Faults.{first_fault}
use Rattle.zc_outside.specs.World.{World}
use Rattle.command_words.specs.Command.{Plain}
use Rattle.zcld.specs.declared.outcome.Outcome.{Outcome}
use Rattle.zcld.specs.Call.{task_of}
use Rattle.zcld.specs.Plain.{PlainWork, plain_line, plain_output}
use Rattle.zcld.specs.Task.{Task}
use Rattle.zcld.proofs.Answering.{Facts, IsAnswer, IsFaulted, Moves, no_memory, no_moves}
use Rattle.zcld.proofs.OutputFacts.{output_ends, output_moves}
use Rattle.zcld.proofs.ZcFacts.{fault_refuses}

module _ (options : Options) (out : List ℕ) (objects : List (List ℕ)) where
  abbrev task : Task
  task = task_of (Plain options out objects)

  plain_ends :
      (files : List (List ℕ)) (outcome : Outcome) (before after : World) → PlainWork options out files outcome before after →
      IsAnswer outcome ⊎ IsFaulted task files outcome before after
  plain_ends files outcome before after (inl memory) = inl (no_memory outcome memory.0)
  plain_ends files outcome before after (inr put) =
      output_ends task files (plain_output out put.link.elf (plain_line put.link.plain.text)) (inl refl) outcome before after put.done

  plain_moves : (files : List (List ℕ)) (outcome : Outcome) (before after : World) → PlainWork options out files outcome before after → Moves before after
  plain_moves files outcome before after (inl memory) = subst (λ w. Moves before w) (sym memory.1) (no_moves before)
  plain_moves files outcome before after (inr put) = output_moves before after put.shelf put.desk

  pub plain_facts : Facts task (PlainWork options out)
  plain_facts = record { refuses = λ files. fault_refuses (first_fault (inputs_in options files)); ends = plain_ends; moves = plain_moves }
