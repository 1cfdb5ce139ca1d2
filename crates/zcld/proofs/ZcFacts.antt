-- What is known of `zc`: its refusals, how its work ends, and what that does to the counts.
use Rattle.std.proofs.Common.{◌≡◌, ℕ, List, Option, Some, None, refl, sym, subst, ◌⊎◌, inl, inr}
use Rattle.std.proofs.lemmas.Option.{same_Some, none-some}
use Rattle.psabi_sym.specs.Inputs.{inputs_in, parsed}
use Rattle.zc_base.specs.Options.{Options}
use Rattle.elf32_read.specs.declared.fault.Fault.{Fault}
use Rattle.block_cut.specs.Faults.{first_fault}
use Rattle.zc_outside.specs.World.{World}
use Rattle.command_words.specs.Command.{Zc}
use Rattle.zcld.specs.declared.outcome.Outcome.{Outcome}
use Rattle.zcld.specs.declared.outcome.Outcome.TheVariants.{Refused}
use Rattle.zcld.specs.Call.{task_of}
use Rattle.zcld.specs.Objects.{refused_for}
use Rattle.zcld.specs.Task.{Task}
use Rattle.zcld.specs.Zc.{ZcWork, fixed_told, zc_output}
use Rattle.zcld.proofs.Answering.{Facts, IsAnswer, IsFaulted, Moves, no_memory, no_moves}
use Rattle.zcld.proofs.OutputFacts.{output_ends, output_moves}

-- a refusal of objects is an answer
pub fault_refuses : (found : Option (ℕ × Fault)) (outcome : Outcome) → refused_for found ≡ Some outcome → IsAnswer outcome
fault_refuses None outcome none = absurd (none-some outcome none)
fault_refuses (Some f) outcome some = subst IsAnswer (same_Some (Refused f.0 f.1) outcome some) tt

module _ (options : Options) (out cert : List ℕ) (objects : List (List ℕ)) where
  abbrev task : Task
  task = task_of (Zc options out cert objects)

  zc_ends :
      (files : List (List ℕ)) (outcome : Outcome) (before after : World) → ZcWork options out cert files outcome before after →
      IsAnswer outcome ⊎ IsFaulted task files outcome before after
  zc_ends files outcome before after (inl memory) = inl (no_memory outcome memory.0)
  zc_ends files outcome before after (inr put) = output_ends task files (zc_output out cert (fixed_told (parsed (inputs_in options files))) put.link) (inl refl) outcome before after put.done

  zc_moves : (files : List (List ℕ)) (outcome : Outcome) (before after : World) → ZcWork options out cert files outcome before after → Moves before after
  zc_moves files outcome before after (inl memory) = subst (λ w. Moves before w) (sym memory.1) (no_moves before)
  zc_moves files outcome before after (inr put) = output_moves before after put.shelf put.desk

  pub zc_facts : Facts task (ZcWork options out cert)
  zc_facts = record { refuses = λ files. fault_refuses (first_fault (inputs_in options files)); ends = zc_ends; moves = zc_moves }
