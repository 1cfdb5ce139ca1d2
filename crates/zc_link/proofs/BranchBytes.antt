-- The two words of a branch of eight bytes.
use Rattle.std.proofs.Common.{◌≡◌, ◌≢◌, ℕ, ℤ, ◌^◌, ◌<◌, inl, inr, List, ◌++◌, refl, sym, ◌∙◌, subst}
use Rattle.std.specs.Prelude.{slice_index}
use Rattle.zc_base.specs.Fields.{word_bytes}
use Rattle.rv_decode.specs.declared.instr.Instr.{Instr}
use Rattle.rv_decode.specs.declared.instr.Instr.TheVariants as instr
use Rattle.rv_decode.specs.declared.instr.BranchOp.{BranchOp}
use Rattle.zca_zcb_pass.specs.Forms.{IsLongForm}
use Rattle.zc_link.specs.LaidOut.{HasBranchSize}
use Rattle.zc_link.specs.Codes.{IsBranchSpelled}

-- it is one branch, however it is told
pub size_is :
    (i : Instr) (n : ℕ) (d : ℤ) (op : BranchOp) (first second : ℕ) → i ≡ instr.Branch op first second d
    → ((o : BranchOp) × (one : ℕ) × (two : ℕ) × (i ≡ instr.Branch o one two d) × HasBranchSize (instr.Branch o one two) n d)
    → HasBranchSize (instr.Branch op first second) n d
size_is i n d op first second is given =
    let same : instr.Branch given.0 given.1 given.2 d ≡ instr.Branch op first second d = sym given.3 ∙ is in
    let o : given.0 ≡ op = cc in
    let one : given.1 ≡ first = cc in
    let two : given.2 ≡ second = cc in
    subst (λ x. HasBranchSize (instr.Branch x first second) n d) o
    (subst (λ x. HasBranchSize (instr.Branch given.0 x second) n d) one
    (subst (λ x. HasBranchSize (instr.Branch given.0 given.1 x) n d) two given.4))

-- in neither two bytes nor four it is long
pub long_spelled :
    (op : BranchOp) (first second n : ℕ) (d : ℤ) (words : List ℕ) → n ≢ 2 → n ≢ 4 → HasBranchSize (instr.Branch op first second) n d
    → IsLongForm op first second d words → (slice_index words 0 < 2 ^ 32) × (slice_index words 1 < 2 ^ 32)
    → IsBranchSpelled n (word_bytes (slice_index words 0) ++ word_bytes (slice_index words 1)) op first second d
long_spelled op first second n d words two four (inl other) form small = absurd (four other.0)
long_spelled op first second n d words two four (inr (inl other)) form small = absurd (two other.0)
long_spelled op first second n d words two four (inr (inr eight)) form small =
    inr (
      eight.0,
      record {
        other = form.other;
        opposite = form.opposite;
        first = word_bytes (slice_index words 0);
        second = word_bytes (slice_index words 1);
        both = refl;
        over = record { word = slice_index words 0; small = small.0; are = refl; spells = form.over };
        jump = record { word = slice_index words 1; small = small.1; are = refl; spells = form.jump };
      },
    )
