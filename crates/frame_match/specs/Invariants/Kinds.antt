-- Pushes and pops, by the indices of their instructions.
use Rattle.std.specs.Prelude.{◌≡◌, ℕ, ◌+◌, ◌<◌, ◌⊎◌, Bool, true, false, List, Option, Some, None, slice_get}
use Rattle.std.specs.Option.{option_map, option_or}
use Rattle.rv_decode.specs.declared.instr.Instr.{Instr}
use Rattle.frame_match.specs.declared.found.Ending.{Ending}
use Rattle.frame_match.specs.declared.found.Ending.TheVariants.{GoesOn, Returns, ZeroFirst, ZeroBeforeRaise, ZeroBeforeReturn}
use Rattle.frame_match.specs.declared.found.Found.{Found}
use Rattle.frame_match.specs.declared.pops.Tail.{Tail}
use Rattle.frame_match.specs.declared.slot.Access.{Access}
use Rattle.frame_match.specs.declared.slot.Access.TheVariants.{Saves, Restores}
use Rattle.frame_match.specs.Matches.{before, frame_at, is_begun, is_frame, longer_of, pop_of, push_of}
use Rattle.frame_match.specs.Read.{lowered}
use Rattle.frame_match.specs.Invariants.Frames.{list_leaving_out, Fills, IsKnown}

-- ---- frames

-- the list without `left_out` registers may have a frame of `bytes` bytes, and the instructions from an index on use
-- its slots
pub record IsFramed (which : Access) (bytes left_out : ℕ) (is : List Instr) (from : ℕ) : Type 0 where
  pub fits : is_frame (list_leaving_out left_out) bytes ≡ true
  pub there : Fills which bytes left_out is from

-- ---- pushes

pub record IsPush (is : List Instr) (g : Found) : Type 0 where
  pub left_out : ℕ
  pub known : IsKnown left_out
  pub bytes : ℕ
  pub lowers : lowered (slice_get is 0) ≡ Some bytes
  pub framed : IsFramed Saves bytes left_out is 1
  pub found_is : g ≡ push_of (list_leaving_out left_out) bytes

-- ---- pops

pub record IsPop (is : List Instr) (g : Found) : Type 0 where
  pub ending : Ending
  pub left_out : ℕ
  pub known : IsKnown left_out
  pub count : ℕ
  pub size : count + left_out ≡ 13
  pub bytes : ℕ
  pub begun : is_begun ending is ≡ true
  pub raises : frame_at ending is (before ending + count) ≡ Some bytes
  pub framed : IsFramed Restores bytes left_out is (before ending)
  pub found_is : g ≡ pop_of ending (list_leaving_out left_out) bytes

-- the end of a pop after its loads, if the instructions there fit this ending
abbrev pub tail_as : Ending → List Instr → ℕ → Option Tail
tail_as e is n = option_map (λ bytes. record { ending = e; bytes = bytes }) (frame_at e is n)

-- the longest ending that the instructions after the loads fit, by whether a0 was set before the loads
abbrev pub tail_at : Bool → List Instr → ℕ → Option Tail
tail_at true is n = tail_as ZeroFirst is n
tail_at false is n =
    option_or (tail_as ZeroBeforeRaise is n)
    (option_or (tail_as ZeroBeforeReturn is n) (option_or (tail_as Returns is n) (tail_as GoesOn is n)))

-- ---- the longest

-- what was found has more items than `g`, or is `g`
pub record Beats (result : Option Found) (g : Found) : Type 0 where
  pub best : Found
  pub is : result ≡ Some best
  pub more : (g ≡ best) ⊎ (g.items < best.items)

-- the longer of two, each of which may be missing
abbrev pub longer_or : Option Found → Option Found → Option Found
longer_or f None = f
longer_or f (Some g) = longer_of f g
