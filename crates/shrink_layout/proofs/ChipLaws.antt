-- Short forms that a chip has: their halfwords are of rows that it has, and that of an `addi` is of Zca.
use Rattle.std.proofs.Common.{◌≡◌, ◌<◌, ◌-◌, ℕ, ℤ, pos, negsuc, Option, Some, None, Bool, true, false, cond, refl, ap, ◌∙◌, sym, ltb, arith}
use Rattle.std.specs.Option.{is_some, option_map, option_map_or}
use Rattle.std.proofs.lemmas.Option.{none-some, same_Some}
use Rattle.zc_base.specs.declared.extensions.Extensions.{Extensions}
use Rattle.rv_decode.specs.declared.instr.ImmOp.TheVariants.{Addi}
use Rattle.rv_decode.specs.declared.instr.Instr.{Instr}
use Rattle.rv_decode.specs.declared.instr.Instr.TheVariants.{WithImm, WithReg}
use Rattle.rv_decode.specs.declared.instr.RegOp.TheVariants.{Mul}
use Rattle.zc_decode.specs.Extensions.{has_half, has_row}
use Rattle.zc_decode.specs.Fields.{high_reg_of, low_reg_of}
use Rattle.zc_decode.specs.Halfwords.{decoded16, spelled}
use Rattle.zc_decode.specs.Rows.{form_of}
use Rattle.zc_decode.specs.declared.form.Form.{Form}
use Rattle.zc_decode.specs.declared.form.Form.TheVariants.{CLbu, CLhu, CLh, CSb, CSh, CMul, CZextB, CNot, CmPush, CmPop, CmPopretz, CmPopret, CmMvsa01, CmMva01s, CmJt, CmJalt}
use Rattle.zc_decode.specs.declared.short.Short.TheVariants.{Base}
use Rattle.zca_zcb_pass.specs.Forms.{HasEffectOf}
use Rattle.zc_encode.specs.Encoding.{normal_short}
use Rattle.zc_encode.specs.Halves.{encoded16}
use Rattle.zc_encode.proofs.ImmRows.{with_imm_row}
use Rattle.frame_match.specs.declared.group.Group.{Group}
use Rattle.shrink_layout.specs.Pieces.{is_short, is_short_on}
use Rattle.shrink_layout.specs.Units.{is_push, rest_instr}

-- ---- of any instruction

-- a short form that a chip has is a short form
pub short_on-short : (extensions : Extensions) (i : Instr) → is_short_on extensions i ≡ true → is_short i ≡ true
short_on-short extensions i = by (encoded16 (Base i))
  where
    by : (o : Option ℕ) → option_map_or (has_half extensions) o false ≡ true → is_some o ≡ true
    by None h = h
    by (Some half) h = refl

-- the halfword of a short form that a chip has is one that the chip has
pub short_on-half : (extensions : Extensions) (i : Instr) (half : ℕ) → is_short_on extensions i ≡ true → encoded16 (Base i) ≡ Some half → has_half extensions half ≡ true
short_on-half extensions i half short is = ap (λ o. option_map_or (has_half extensions) o false) (sym is) ∙ short

-- a halfword is one that a chip has if its row is
pub row_half : (extensions : Extensions) (half : ℕ) (form : Form) → form_of half ≡ Some form → has_row extensions form ≡ true → has_half extensions half ≡ true
unfolding has_half
row_half extensions half form row has = ap (λ o. option_map_or (has_row extensions) o false) row ∙ has

-- ---- of any instruction, on a chip with Zcb

-- a row that spells an instruction of 32 bits is of Zca or Zcb
base_row : (extensions : Extensions) → extensions.zcb ≡ true → (form : Form) (half : ℕ) (i : Instr) → spelled form half ≡ Base i → has_row extensions form ≡ true
base_row extensions zcb CLbu half i is = zcb
base_row extensions zcb CLhu half i is = zcb
base_row extensions zcb CLh half i is = zcb
base_row extensions zcb CSb half i is = zcb
base_row extensions zcb CSh half i is = zcb
base_row extensions zcb CMul half i is = zcb
base_row extensions zcb CZextB half i is = zcb
base_row extensions zcb CNot half i is = zcb
base_row extensions zcb CmPush half i is = absurd cc
base_row extensions zcb CmPop half i is = absurd cc
base_row extensions zcb CmPopretz half i is = absurd cc
base_row extensions zcb CmPopret half i is = absurd cc
base_row extensions zcb CmMvsa01 half i is = absurd cc
base_row extensions zcb CmMva01s half i is = absurd cc
base_row extensions zcb CmJt half i is = absurd cc
base_row extensions zcb CmJalt half i is = absurd cc
base_row extensions zcb form half i is = refl

-- the chip has the short form of each
pub zcb_half : (extensions : Extensions) (i : Instr) (half : ℕ) → extensions.zcb ≡ true → HasEffectOf i half → has_half extensions half ≡ true
unfolding has_half decoded16
zcb_half extensions i half zcb has = by (form_of half) has.1
  where
    by : (o : Option Form) → option_map (λ form. spelled form half) o ≡ Some (Base has.0) → option_map_or (has_row extensions) o false ≡ true
    by None h = absurd (none-some (Base has.0) h)
    by (Some form) h = base_row extensions zcb form half has.0 (same_Some (spelled form half) (Base has.0) h)

-- ---- of an `addi`

-- a row that spells an `addi` is of Zca
addi_row : (extensions : Extensions) (form : Form) (half rd first : ℕ) (imm : ℤ) → normal_short (spelled form half) ≡ Base (WithImm Addi rd first imm) → has_row extensions form ≡ true
addi_row extensions CLbu half rd first imm is = absurd cc
addi_row extensions CLhu half rd first imm is = absurd cc
addi_row extensions CLh half rd first imm is = absurd cc
addi_row extensions CSb half rd first imm is = absurd cc
addi_row extensions CSh half rd first imm is = absurd cc
addi_row extensions CMul half rd first imm is = absurd (by (ltb (high_reg_of half) (low_reg_of half)) is)
  where
    by : (b : Bool)
        → Base (cond b (WithReg Mul (high_reg_of half) (low_reg_of half) (high_reg_of half)) (WithReg Mul (high_reg_of half) (high_reg_of half) (low_reg_of half))) ≡ Base (WithImm Addi rd first imm)
        → ⊥
    by true h = cc
    by false h = cc
addi_row extensions CZextB half rd first imm is = absurd cc
addi_row extensions CNot half rd first imm is = absurd cc
addi_row extensions CmPush half rd first imm is = absurd cc
addi_row extensions CmPop half rd first imm is = absurd cc
addi_row extensions CmPopretz half rd first imm is = absurd cc
addi_row extensions CmPopret half rd first imm is = absurd cc
addi_row extensions CmMvsa01 half rd first imm is = absurd cc
addi_row extensions CmMva01s half rd first imm is = absurd cc
addi_row extensions CmJt half rd first imm is = absurd cc
addi_row extensions CmJalt half rd first imm is = absurd cc
addi_row extensions form half rd first imm is = refl

-- the halfword of an `addi` is one that every chip has
pub addi_half : (extensions : Extensions) (rd first half : ℕ) (imm : ℤ) → rd < 32 → first < 32 → encoded16 (Base (WithImm Addi rd first imm)) ≡ Some half → has_half extensions half ≡ true
addi_half extensions rd first half imm small source is =
    let row = with_imm_row Addi rd first half imm small source is in
    row_half extensions half row.0 row.1.row (addi_row extensions row.0 half rd first imm row.1.is)

-- ---- of the instruction beside a push or pop

-- its halfword is one that every chip has
pub rest_half : (extensions : Extensions) (g : Group) (half : ℕ) → encoded16 (Base (rest_instr g)) ≡ Some half → has_half extensions half ≡ true
rest_half extensions g half is = addi_half extensions 2 2 half (cond (is_push g.kind) (negsuc (g.rest - 1)) (pos g.rest)) (omega arith) (omega arith) is

-- it has a short form on every chip, or on none
pub rest_short_on : (extensions : Extensions) (g : Group) → is_short_on extensions (rest_instr g) ≡ is_short (rest_instr g)
rest_short_on extensions g = by (encoded16 (Base (rest_instr g))) refl
  where
    by : (o : Option ℕ) → encoded16 (Base (rest_instr g)) ≡ o → option_map_or (has_half extensions) o false ≡ is_some o
    by None is = refl
    by (Some half) is = rest_half extensions g half is
