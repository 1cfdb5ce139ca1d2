-- A push as the code finds it: its frame by the first instruction, and its register list by the first store.
use Rattle.std.proofs.Common.{◌≡◌, ◌∙◌, ℕ, ◌+◌, ◌*◌, ◌≤◌, List, Option, Some, sym, ap, subst}
use Rattle.std.specs.List.{slice_get}
use Rattle.std.proofs.lemmas.Option.{same_Some}
use Rattle.rv_decode.specs.declared.instr.Instr.{Instr}
use Rattle.frame_match.specs.declared.found.Found.{Found}
use Rattle.frame_match.specs.declared.slot.Access.TheVariants.{Saves}
use Rattle.frame_match.specs.Matches.{push_of}
use Rattle.frame_match.specs.Read.{slot_accessed, lowered}
use Rattle.frame_match.specs.Invariants.Frames.{list_leaving_out, IsKnown, IsSlot}
use Rattle.frame_match.specs.Invariants.Kinds.{IsFramed, IsPush}
use Rattle.frame_match.proofs.FrameLaws.{first_slot}

pub record PushFound (run : List Instr) (g : Found) (bytes : ℕ) (told : Option ℕ) : Type 0 where
  pub left_out : ℕ
  pub told_is : told ≡ Some left_out
  pub framed : IsFramed Saves bytes left_out run 1
  pub found_is : g ≡ push_of (list_leaving_out left_out) bytes

pub push_found : (run : List Instr) (g : Found) (bytes : ℕ) (told : Option ℕ) (i j : Option Instr) → IsPush run g
    → i ≡ slice_get run 0 → j ≡ slice_get run 1 → Some bytes ≡ lowered i
    → ((n k : ℕ) → IsKnown n → 4 * (k + 1) ≤ bytes → IsSlot Saves bytes n k j → told ≡ Some n)
    → PushFound run g bytes told
push_found run g bytes told i j p first second made each =
    let same : p.bytes ≡ bytes = sym (same_Some _ _ (made ∙ ap lowered first ∙ p.lowers)) in
    let framed : IsFramed Saves bytes p.left_out run 1 = subst (λ b. IsFramed Saves b p.left_out run 1) same p.framed in
    let s = first_slot Saves bytes p.left_out run 1 p.known framed in
    record {
      left_out = p.left_out;
      told_is = each p.left_out s.number p.known s.room (s.slot.0, ap (slot_accessed Saves) second ∙ s.slot.1);
      framed = framed;
      found_is = p.found_is ∙ ap (push_of (list_leaving_out p.left_out)) same;
    }
