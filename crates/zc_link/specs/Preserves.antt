-- The image does what the program does: said of the two as records, and of the files of the objects and of the image.
use Rattle.std.specs.Prelude.{◌≡◌, ℕ, ◌+◌, ◌*◌, ◌<◌, ◌≤◌, ◌⊎◌, false, List, All, filter, length, map, IsSome, Some, Ok}
use Rattle.std.specs.Option.{option_map_or}
use Rattle.interrupt_plan.specs.Plan.{Entry, IsPlan}
use Rattle.rv_decode.specs.Devices.{AreOutside}
use Rattle.rv_decode.specs.State.{ZcCore, ZcState}
use Rattle.psabi_sym.specs.Inputs.{Inputs, ParsedInputs, parsed}
use Rattle.block_cut.specs.Items.{all_places, item_at}
use Rattle.shrink_layout.specs.Pieces.{is_align}
use Rattle.sym_machine.specs.Events.{event_in}
use Rattle.sym_machine.specs.Program.{Program}
use Rattle.sym_machine.specs.State.{PlainState}
use Rattle.sym_machine.specs.Run.{program_after}
use Rattle.sym_machine.specs.Objects.{program_of}
use Rattle.zc_machine.specs.Run.{interrupts_by, machine_after, machine_after_with}
use Rattle.zc_link.specs.Image.{Image, IsFirstState, image_in, loaded_core}
use Rattle.zc_link.specs.Setting.{Setting, program_in}
use Rattle.zc_link.specs.Stands.{Stands}

-- both have made the same environment calls and accesses to devices so far, where each place that the program hands out is
-- its address; and if the place is listed, or the program has exited, each register and each byte of data and stack is what
-- the program has there, unless that is undefined
pub record Follows (p : Program) (e : Image) (s : PlainState) (z : ZcState) : Type 0 where
  pub events : z.events ≡ map (event_in e.address) s.events
  pub stands : IsSome (e.address s.core.place) ⊎ IsSome s.core.exit → Stands p e.address s.core z

-- the image keeps step with the program in a setting: for each number n of steps that the program makes without getting
-- stuck there is a number of commits, the same for all first states and all plans
pub record KeepsStep (p : Program) (aligns : ℕ) (e : Image) (w : Setting) : Type 0 where
  pub commits : ℕ → ℕ
  -- after these commits the image follows the program
  pub follows : (n : ℕ) (s : PlainState) → program_in w p n ≡ Ok s →
      (first : ZcCore) → IsFirstState w.sp_set e first → (plan : List Entry) → IsPlan plan →
      (z : ZcState) × (machine_after_with first w.devices w.input (interrupts_by plan) (commits n) ≡ Ok z) × Follows p e s z
  -- their number doesn't fall
  pub rises : (n k : ℕ) → n ≤ k → commits n ≤ commits k
  -- it goes on: while the program hasn't exited, its steps come to more and more commits
  pub goes_on : (n : ℕ) (s : PlainState) → program_in w p n ≡ Ok s
      → IsSome s.core.exit ⊎ (n ≤ (aligns + 16) * (commits n + 1))
  -- there are at most 64 for each step, and 3 before the first
  pub at_most : (n : ℕ) → commits n ≤ 64 * n + 3

-- for all devices outside its memory, each input, and both ways to start; `aligns` of the program's items are ALIGNs
abbrev pub FollowsAlways : Program → ℕ → Image → Type 0
FollowsAlways p aligns e =
    (w : Setting) → AreOutside p.map w.devices → All (λ b. b < 256) w.input → KeepsStep p aligns e w

-- ---- files

-- how many of the objects' items are ALIGNs
unfoldable pub aligns_of : ParsedInputs → ℕ
aligns_of inputs = length (filter (λ q. option_map_or is_align (item_at inputs q) false) (all_places inputs.objects))

-- the file is an image without a fault, and with all devices, from every first state and under every plan of interrupts
-- it does what the objects' program does
pub record Preserves (inputs : Inputs) (elf : List ℕ) : Type 0 where
  pub image : Image
  pub read : image_in elf inputs.map ≡ Some image
  pub follows : FollowsAlways (program_of (parsed inputs)) (aligns_of (parsed inputs)) image

-- ---- without devices, from one first state, in which sp is set

-- for each input, and for each number n of steps that the program makes without getting stuck, there is a number of
-- commits, at most `most` for each step and 3, the same for all plans, after which the image follows the program
abbrev pub FollowsWithin : ℕ → Program → Image → Type 0
FollowsWithin most p e =
    (input : List ℕ) (n : ℕ) (s : PlainState) → All (λ b. b < 256) input → program_after p input n ≡ Ok s →
    (m : ℕ) × (m ≤ most * n + 3)
    × ((plan : List Entry) → IsPlan plan →
    (z : ZcState) × (machine_after (loaded_core e) input (interrupts_by plan) m ≡ Ok z) × Follows p e s z)
