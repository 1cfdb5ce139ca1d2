-- What an interrupt does. It comes before a commit: if a push or pop stands at pc, some of its accesses were done then, and it
-- starts again afterwards (RISC-V Zc specification 1.0, "Zcmp", "PUSH/POP Fault handling" and "Software view of execution"). And
-- it may write below the stack pointer.
use Rattle.std.specs.Prelude.{ℕ, ◌%◌, ◌==◌, ◌&&◌, nat_lt, if◌then◌else◌, List, [], ◌∷◌, Option, Some, None, slice_get}
use Rattle.interrupt_plan.specs.Plan.{Interrupt}
use Rattle.rv_decode.specs.Memory.{changed, extents_of, is_data, is_stack, lies_in, written}
use Rattle.rv_decode.specs.State.{ZcCore, reg_in}
use Rattle.zc_decode.specs.Accesses.{Access, accesses_of}
use Rattle.zc_decode.specs.Effect.{accessed}
use Rattle.zc_decode.specs.declared.short.Short.{Short}
use Rattle.zc_machine.specs.Fetch.{Fetched, Found, Missing, fetched_at}

-- ---- accesses that were done

-- the state after one access of an instruction was done; without an access, or if its word can't be loaded and stored, nothing
-- changes
abbrev pub done_one : Short → Option Access → ZcCore → ZcCore
done_one s None z = z
done_one s (Some a) z = if a.at % 4 == 0 && lies_in is_data (extents_of z.memory) a.at 4 then accessed s a z else z

-- the accesses with these numbers, one after another as they are listed; a number may come twice
abbrev pub done_all : Short → List Access → List ℕ → ZcCore → ZcCore
done_all s accesses [] z = z
done_all s accesses (j ∷ js) z = done_all s accesses js (done_one s (slice_get accesses j) z)

-- the accesses that were done of the instruction that stands at pc, which then starts again
abbrev pub done_of : Fetched → List ℕ → ZcCore → ZcCore
done_of (Found s size) done z = done_all s (accesses_of s (reg_in z 2)) done z
done_of (Missing reason) done z = z

-- ---- bytes that are written

-- the state after one byte was written in the stack below sp; at any other address nothing changes
abbrev pub dirtied : ℕ × ℕ → ZcCore → ZcCore
dirtied d z =
    if lies_in is_stack (extents_of z.memory) d.0 1 && nat_lt d.0 (reg_in z 2)
    then record z { memory = changed (written d.0 1 (λ i. d.1)) z.memory }
    else z

-- the bytes that are written, in order
abbrev pub all_dirtied : List (ℕ × ℕ) → ZcCore → ZcCore
all_dirtied [] z = z
all_dirtied (d ∷ ds) z = all_dirtied ds (dirtied d z)

-- ---- interrupts

-- the state after one interrupt
abbrev pub interrupted : Interrupt → ZcCore → ZcCore
interrupted c z = all_dirtied c.dirt (done_of (fetched_at z z.pc) c.done z)

-- interrupts, one after another
abbrev pub all_interrupted : List Interrupt → ZcCore → ZcCore
all_interrupted [] z = z
all_interrupted (c ∷ cs) z = all_interrupted cs (interrupted c z)
