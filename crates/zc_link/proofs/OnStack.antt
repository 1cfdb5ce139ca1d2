-- Where sp is set, it is the machine's number, and the bytes of the stack below it are undefined to the program
-- (OnStack). Else all of the stack is. So what interrupts may write, which is the stack below the machine's sp, is
-- undefined to the program in both cases.
use Rattle.std.proofs.Common.{◌≡◌, ℕ, ◌<◌, ◌≤◌, min, Some, Bool, true, false, refl, ap, ◌∙◌, arith}
use Rattle.zc_base.specs.declared.mem_map.MemMap.{MemMap}
use Rattle.zc_base.specs.declared.place.Place.{Place}
use Rattle.rv_decode.specs.State.{ZcCore, reg_in}
use Rattle.sym_machine.specs.declared.word.SymByte.TheVariants.{Undef}
use Rattle.sym_machine.specs.Program.{Program}
use Rattle.sym_machine.specs.State.{PlainCore, cell_of, reg_of}
use Rattle.sym_machine.specs.Step.{is_set, stack_mark}
use Rattle.sym_machine.specs.Words.{number_of}
use Rattle.sym_machine.proofs.StepLaws.{mark_unset, set_some}
use Rattle.zc_link.specs.Image.{Image}
use Rattle.zc_link.specs.Sound.{Alike}
use Rattle.zc_link.specs.Values.{value_in}
use Rattle.zc_link.proofs.Words.{number_is}

-- states that are alike, and sp is set
pub record OnStack (p : Program) (Named : Place → Type 0) (e : Image) (s : PlainCore) (z : ZcCore) : Type 0 where
  pub alike : Alike p Named e s z
  pub open alike use *
  pub sp : number_of (reg_of s 2) ≡ Some (reg_in z 2)
  pub low : p.map.stack_low ≤ reg_in z 2
  pub high : reg_in z 2 ≤ p.map.stack_high
  pub under : (a : ℕ) → p.map.stack_low ≤ a → a < reg_in z 2 → cell_of s a ≡ Undef

-- the end of what interrupts may write: sp, or the stack's end if that lies below it
abbrev pub free_end : MemMap → ZcCore → ℕ
free_end map z = min (reg_in z 2) map.stack_high

module _ {p : Program} {Named : Place → Type 0} {e : Image} {s : PlainCore} {z : ZcCore} (al : Alike p Named e s z) where
  number_same : (sp : ℕ) → number_of (reg_of s 2) ≡ Some sp → sp ≡ reg_in z 2
  number_same sp is = number_is (value_in p e.address) (reg_of s 2) (reg_in z 2) sp (al.core.words 2) (al.registers 2 (omega arith)) is

  pub on_stack : is_set p.map s ≡ true → OnStack p Named e s z
  on_stack set =
      let at = set_some p.map s set in
      let same = number_same at.sp at.is in
      record {
        alike = al;
        sp = at.is ∙ ap Some same;
        low = omega (arith, at.low, same);
        high = omega (arith, at.high, same);
        under = λ a l lt. al.below a l (omega (arith, at.mark, same, lt));
      }

  -- what interrupts may write lies below the mark
  pub below_mark : (a : ℕ) → a < free_end p.map z → a < stack_mark p.map s
  below_mark a free = by (is_set p.map s) refl
    where
      by : (b : Bool) → is_set p.map s ≡ b → a < stack_mark p.map s
      by true set = let at = set_some p.map s set in omega (arith, free, at.mark, number_same at.sp at.is)
      by false unset = omega (arith, free, mark_unset p.map s unset)
