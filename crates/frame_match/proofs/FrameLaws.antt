-- What follows for the instructions from an index on if they use the slots of a frame.
use Rattle.std.proofs.Common.{◌≡◌, ℕ, ◌+◌, ◌*◌, ◌≤◌, ◌%◌, List, Option, true, arith, eqb, leb}
use Rattle.std.specs.List.{slice_get}
use Rattle.std.proofs.lemmas.Bool.{and_parts, eqb-true, leb-true}
use Rattle.rv_decode.specs.declared.instr.Instr.{Instr}
use Rattle.zc_decode.specs.Lists.{stack_adjust_base}
use Rattle.frame_match.specs.declared.slot.Access.{Access}
use Rattle.frame_match.specs.Matches.{is_frame}
use Rattle.frame_match.specs.Invariants.Frames.{list_leaving_out, IsKnown, IsSlot}
use Rattle.frame_match.specs.Invariants.Kinds.{IsFramed}
use Rattle.frame_match.proofs.ListLaws.{known_facts}

pub record FrameFacts (list bytes : ℕ) : Type 0 where
  pub whole : bytes % 16 ≡ 0
  pub least : stack_adjust_base list ≤ bytes
  pub most : bytes ≤ 2032

pub frame_facts : (list bytes : ℕ) → is_frame list bytes ≡ true → FrameFacts list bytes
frame_facts list bytes h =
    let p = and_parts (eqb (bytes % 16) 0) _ h in
    let q = and_parts (leb (stack_adjust_base list) bytes) _ p.1 in
    record { whole = eqb-true _ _ p.0; least = leb-true _ _ q.0; most = leb-true _ _ q.1 }

-- the first instruction uses a slot of the frame, and the frame has room for that slot
pub record FirstSlot (which : Access) (bytes left_out : ℕ) (i : Option Instr) : Type 0 where
  pub number : ℕ
  pub room : 4 * (number + 1) ≤ bytes
  pub slot : IsSlot which bytes left_out number i

pub first_slot : (which : Access) (bytes left_out : ℕ) (is : List Instr) (from : ℕ) → IsKnown left_out
    → IsFramed which bytes left_out is from → FirstSlot which bytes left_out (slice_get is (from + 0))
first_slot which bytes left_out is from known f =
    let k = known_facts left_out known in
    let w = f.there.each 0 (omega (arith, known.small)) in
    let b = frame_facts (list_leaving_out left_out) bytes f.fits in
    record { number = w.0; room = omega (arith, k.room, b.least, w.1.0); slot = w.1 }
