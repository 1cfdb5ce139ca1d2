-- What the machine fetches (RISC-V unprivileged manual, "Base Instruction-Length Encoding").
use Rattle.std.specs.Prelude.{ℕ, ◌==◌, if◌then◌else◌, Option, Some, None}
use Rattle.std.specs.Option.{option_map}
use Rattle.rv_decode.specs.Bits.{field}
use Rattle.rv_decode.specs.Decode.{decoded}
use Rattle.rv_decode.specs.Memory.{extents_of, is_text, lies_in}
use Rattle.rv_decode.specs.State.{ZcCore, half_at, word_at}
use Rattle.zc_decode.specs.declared.short.Short.{Short}
use Rattle.zc_decode.specs.declared.short.Short.TheVariants.{Base}
use Rattle.zc_decode.specs.Halfwords.{decoded16}
use Rattle.zc_machine.specs.declared.reason.Reason.{Reason}
use Rattle.zc_machine.specs.declared.reason.Reason.TheVariants.{Illegal, BadAccess}

-- an instruction with its size in bytes, or why there is none
pub data Fetched : Type 0 where
  Found : Short → (size : ℕ) → Fetched
  Missing : Reason → Fetched

-- what was decoded, or nothing that the tables have
abbrev pub found : Option Short → ℕ → Fetched
found None size = Missing Illegal
found (Some s) size = Found s size

-- what stands at an address of code: an instruction of two bytes, or of four, which must lie in text too, if its low two bits are 11
abbrev pub fetched_at : ZcCore → ℕ → Fetched
fetched_at z a =
    let word = if lies_in is_text (extents_of z.memory) a 4 then found (option_map Base (decoded (word_at z a))) 4 else Missing BadAccess in
    if lies_in is_text (extents_of z.memory) a 2
    then (if field (half_at z a) 0 2 == 0b11 then word else found (decoded16 (half_at z a)) 2)
    else Missing BadAccess
