-- How the program ends.
use Rattle.std.specs.Prelude.{◌≡◌, ℕ, [], Result, Ok, Err, String}
use Rattle.std.specs.Global.{Global, Vec}
use Rattle.zc_outside.specs.World.{World}
use Rattle.command_words.specs.Command.{command_of, texts}
use Rattle.zcld.specs.declared.outcome.Outcome.{Outcome}
use Rattle.zcld.specs.declared.outcome.Outcome.TheVariants.{OutOfMemory, Usage}
use Rattle.zcld.specs.declared.program.WordsFault.{WordsFault}
use Rattle.zcld.specs.declared.program.WordsFault.TheVariants as fault
use Rattle.zcld.specs.Call.{Calls, IsUsageOf, Reports}
use Rattle.zcld.specs.ErrLine.{err_line, status_of}

-- the outcome when the words can't be had
abbrev pub wordless : WordsFault → Outcome
wordless fault.NotText = Usage
wordless fault.OutOfMemory = OutOfMemory

-- what is done: the call of these words; or without words only the outcome's line is written
abbrev pub Acts : Result (Vec (String Global)) WordsFault → Outcome → World → World → Type 0
Acts (Ok words) outcome before after =
    IsUsageOf (command_of (texts words.items)) outcome × Calls (command_of (texts words.items)) outcome before after
Acts (Err fault) outcome before after =
    (outcome ≡ wordless fault) × Reports (err_line [] (wordless fault)) before after

-- the program ends with the status of the outcome of what is done
pub record Ends (words : Result (Vec (String Global)) WordsFault) (status : ℕ) (before after : World) : Type 0 where
  pub outcome : Outcome
  pub done : Acts words outcome before after
  pub ends : status ≡ status_of outcome
