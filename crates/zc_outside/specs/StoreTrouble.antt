-- How a store reports that the system refused a call.
use Rattle.std.specs.Prelude.{◌≡◌, ℕ}
use Rattle.zc_outside.specs.declared.store.StoreFault.{StoreFault}
use Rattle.zc_outside.specs.declared.store.StoreFault.TheVariants.{Failed, OutOfMemory}
use Rattle.zc_outside.specs.declared.trouble.Trouble.{Trouble}
use Rattle.zc_outside.specs.declared.trouble.Trouble.TheVariants.{Memory, System}
use Rattle.zc_outside.specs.Calls.{more}

-- what a read returns, and the count of faults after it: it rises by one, unless memory ran out
abbrev pub RefusesGet : Trouble → ℕ → StoreFault → ℕ → Type 0
RefusesGet System faults answer faults' = (answer ≡ Failed) × (faults' ≡ more faults 1)
RefusesGet Memory faults answer faults' = (answer ≡ OutOfMemory) × (faults' ≡ faults)

-- what a write returns, and what becomes of the counts of faults and of calls that ran out of memory: one of them rises
-- by one
abbrev pub RefusesPut : Trouble → ℕ → ℕ → StoreFault → ℕ → ℕ → Type 0
RefusesPut System faults memory answer faults' memory' =
    (answer ≡ Failed) × (faults' ≡ more faults 1) × (memory' ≡ memory)
RefusesPut Memory faults memory answer faults' memory' =
    (answer ≡ OutOfMemory) × (faults' ≡ faults) × (memory' ≡ more memory 1)
