-- How a console reports that the system refused a call.
use Rattle.std.specs.Prelude.{◌≡◌, ℕ}
use Rattle.zc_outside.specs.declared.console.ConsoleFault.{ConsoleFault}
use Rattle.zc_outside.specs.declared.console.ConsoleFault.TheVariants.{Failed, OutOfMemory}
use Rattle.zc_outside.specs.declared.trouble.Trouble.{Trouble}
use Rattle.zc_outside.specs.declared.trouble.Trouble.TheVariants.{Memory, System}
use Rattle.zc_outside.specs.Calls.{more}

-- what the call returns, and what becomes of the counts of faults and of calls that ran out of memory: one of them
-- rises by one
abbrev pub Refuses : Trouble → ℕ → ℕ → ConsoleFault → ℕ → ℕ → Type 0
Refuses System faults memory answer faults' memory' = (answer ≡ Failed) × (faults' ≡ more faults 1) × (memory' ≡ memory)
Refuses Memory faults memory answer faults' memory' =
    (answer ≡ OutOfMemory) × (faults' ≡ faults) × (memory' ≡ more memory 1)
