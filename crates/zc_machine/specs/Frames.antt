-- Pushes and pops in parts: whether their accesses can all be made, and the words of a whole list at once.
use Rattle.std.specs.Prelude.{◌≡◌, ℕ, ◌-◌, ◌%◌, ◌==◌, if◌then◌else◌, List, [], ◌∷◌, Option, Some, None, slice_index, slice_set}
use Rattle.std.specs.Option.{option_or}
use Rattle.zc_base.specs.Fields.{with_word, word_in}
use Rattle.rv_decode.specs.Memory.{extents_of, is_data, lies_in}
use Rattle.rv_decode.specs.State.{ZcCore, reg_in, set_reg}
use Rattle.zc_decode.specs.Accesses.{Access, sp_after, words_below}
use Rattle.zc_decode.specs.Effect.{restored, saved}
use Rattle.zc_decode.specs.Lists.{registers_of}
use Rattle.zc_decode.specs.declared.short.Short.TheVariants.{Push, Pop}
use Rattle.zc_machine.specs.Answer.{answer_of, core_after}
use Rattle.zc_machine.specs.Step.{ZcStep}
use Rattle.zc_machine.specs.declared.answer.Step.{Step}
use Rattle.zc_machine.specs.declared.reason.Reason.{Reason}
use Rattle.zc_machine.specs.declared.reason.Reason.TheVariants.{BadAccess, Misaligned}

-- the answer and the state after it are this step's
abbrev pub MakesStep : ZcStep → Step → ZcCore → ZcCore → Type 0
MakesStep step answer old new = (answer ≡ answer_of step) × (new ≡ core_after step old)

-- why a word at an address can't be loaded and stored, if it can't
abbrev pub word_obstacle : ℕ → ZcCore → Option Reason
word_obstacle a z =
    if a % 4 == 0 then (if lies_in is_data (extents_of z.memory) a 4 then None else Some BadAccess) else Some Misaligned

-- why accesses can't all be made, if they can't: the cause of the first
abbrev pub obstacle : List Access → ZcCore → Option Reason
obstacle [] z = None
obstacle (a ∷ rest) z = option_or (word_obstacle a.at z) (obstacle rest z)

-- a change for each access, one after another
abbrev pub all_made : (Access → ZcCore → ZcCore) → List Access → ZcCore → ZcCore
all_made change [] z = z
all_made change (a ∷ rest) z = all_made change rest (change a z)

-- the state after the accesses of a push, with sp lowered
abbrev pub pushed : ℕ → ℕ → ZcCore → ZcCore
pushed list adjust z =
    let y = all_made saved (words_below (reg_in z 2) (registers_of list)) z in
    record y { regs = set_reg y.regs 2 (sp_after (Push list adjust) (reg_in z 2)) }

-- the state after the accesses of a pop, with sp raised
abbrev pub popped : ℕ → ℕ → ZcCore → ZcCore
popped list adjust z =
    let sp = sp_after (Pop list adjust) (reg_in z 2) in
    let y = all_made restored (words_below sp (registers_of list)) z in
    record y { regs = set_reg y.regs 2 sp }

-- bytes to which the words of these registers are written, each below the one before it, the first below an offset
abbrev pub words_put : List ℕ → List ℕ → ℕ → List ℕ → List ℕ
words_put regs [] end bytes = bytes
words_put regs (r ∷ rest) end bytes = words_put regs rest (end - 4) (with_word bytes (end - 4) (slice_index regs r))

-- registers that get the words there
abbrev pub words_taken : List ℕ → List ℕ → ℕ → List ℕ → List ℕ
words_taken bytes [] end regs = regs
words_taken bytes (r ∷ rest) end regs = words_taken bytes rest (end - 4) (slice_set regs r (word_in bytes (end - 4)))
