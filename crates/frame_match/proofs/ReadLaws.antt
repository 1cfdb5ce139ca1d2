-- Instructions that are used in groups in different ways are different.
use Rattle.std.proofs.Common.{◌≡◌, ◌∙◌, ℕ, Option, Some, None, Bool, true, false, cond, refl, sym, ap, eqb}
use Rattle.std.specs.Prelude.{◌&&◌}
use Rattle.std.specs.Option.{is_some, option_and_then}
use Rattle.std.proofs.lemmas.Bool.{and_parts, eqb-true}
use Rattle.std.proofs.lemmas.Option.{none-some}
use Rattle.rv_decode.specs.declared.instr.Instr.{Instr}
use Rattle.rv_decode.specs.declared.instr.Instr.TheVariants.{WithImm}
use Rattle.rv_decode.specs.declared.instr.ImmOp.TheVariants.{Addi}
use Rattle.frame_match.specs.declared.slot.Access.TheVariants.{Restores}
use Rattle.frame_match.specs.Read.{slot_accessed, is_zero, raised, up_by}

-- `addi a0,x0,0` doesn't raise sp
pub zero_raised : (i : Option Instr) → is_zero i ≡ true → raised i ≡ None
zero_raised (Some (WithImm Addi rd first imm)) h =
    let rd_is : rd ≡ 10 = eqb-true rd 10 (and_parts (eqb rd 10) _ h).0 in
    ap (λ r. option_and_then up_by (cond (eqb r 2 && eqb first 2) (Some imm) None)) rd_is
zero_raised _ h = absurd cc

-- `addi a0,x0,0` isn't a load
pub zero_no_load : (i : Option Instr) → is_zero i ≡ true → is_some (slot_accessed Restores i) ≡ false
zero_no_load (Some (WithImm Addi rd first imm)) h = refl
zero_no_load _ h = absurd cc

pub raised_no_load : (i : Option Instr) (f : ℕ) → raised i ≡ Some f → is_some (slot_accessed Restores i) ≡ false
raised_no_load (Some (WithImm Addi rd first imm)) f h = refl
raised_no_load _ f h = absurd cc

-- what raises sp doesn't set a0
pub raised_no_zero : (i : Option Instr) (f : ℕ) → raised i ≡ Some f → is_zero i ≡ false
raised_no_zero i f h = by (is_zero i) refl
  where
    by : (b : Bool) → is_zero i ≡ b → b ≡ false
    by true e = let n = zero_raised i e in absurd (none-some f (sym n ∙ h))
    by false e = refl
