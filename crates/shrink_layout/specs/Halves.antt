-- Halfwords that are known before the layout: those of items whose instruction doesn't depend on it.
use Rattle.std.specs.Prelude.{◌≡◌, ℕ, IsTrue, Option, Some, None}
use Rattle.psabi_reloc.specs.Parts.{hi20_of, lo12_of}
use Rattle.psabi_reloc.specs.Patched.{with_imm, with_upper}
use Rattle.psabi_sym.specs.declared.target.Target.{Target}
use Rattle.psabi_sym.specs.declared.target.Target.TheVariants.{Code, Number, Absent, Nowhere}
use Rattle.rv_decode.specs.declared.instr.Instr.{Instr}
use Rattle.zc_decode.specs.declared.short.Short.TheVariants.{Base, TableJump}
use Rattle.zc_encode.specs.Halves.{encoded16}
use Rattle.zca_zcb_pass.specs.Forms.{HasEffectOf}
use Rattle.block_cut.specs.declared.item.Item.{Item}
use Rattle.block_cut.specs.declared.item.Item.TheVariants as item
use Rattle.shrink_layout.specs.Pieces.{is_short}
use Rattle.shrink_layout.specs.Units.{CodeUnit, OneGroup, OneItem, OneSite}

-- an instruction with a part of a target's address, if the target isn't in code
abbrev pub fixed_part : Target → (ℕ → Instr) → Option Instr
fixed_part (Code q) patched = None
fixed_part (Number n) patched = Some (patched n)
fixed_part (Absent n) patched = Some (patched n)
fixed_part Nowhere patched = None

-- the instruction that is written for an item, if that doesn't depend on the layout
abbrev pub fixed_instr : Item → Option Instr
fixed_instr (item.Op i) = Some i
fixed_instr (item.Hi i t) = fixed_part t (λ x. with_upper i (hi20_of x))
fixed_instr (item.Lo i t) = fixed_part t (λ x. with_imm i (lo12_of x))
fixed_instr other = None

-- the short form of an item's instruction, if that instruction is known before the layout and has one; of other items nothing is
-- said
abbrev pub IsHalfOf : Item → ℕ → Type 0
IsHalfOf i half =
    (instr : Instr) → fixed_instr i ≡ Some instr → IsTrue (is_short instr)
    → (encoded16 (Base instr) ≡ Some half) × HasEffectOf instr half

-- the halfword of a jump or call through the table, if that is what is written
abbrev pub IsSiteHalf : Option CodeUnit → Option ℕ → Type 0
IsSiteHalf None half = half ≡ None
IsSiteHalf (Some (OneItem i)) half = half ≡ None
IsSiteHalf (Some (OneGroup g)) half = half ≡ None
IsSiteHalf (Some (OneSite slot)) half = half ≡ encoded16 (TableJump slot)
