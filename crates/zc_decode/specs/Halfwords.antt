-- The tables of halfwords (RISC-V unprivileged manual, "RVC Instruction Set Listings"; RISC-V Zc specification 1.0, "Zca", "Zcb",
-- "Zcmp" and "Zcmt"): what a halfword of each row encodes.
use Rattle.std.specs.Prelude.{ℕ, pos, negsuc, Option}
use Rattle.std.specs.Option.{option_map}
use Rattle.rv_decode.specs.declared.instr.Instr.TheVariants.{Upper, Jal, Jalr, Branch, Load, Store, WithImm, WithReg, Ebreak}
use Rattle.rv_decode.specs.declared.instr.UpperOp.TheVariants.{Lui}
use Rattle.rv_decode.specs.declared.instr.BranchOp.TheVariants.{Beq, Bne}
use Rattle.rv_decode.specs.declared.instr.LoadOp.TheVariants.{Lbu, Lh, Lhu, Lw}
use Rattle.rv_decode.specs.declared.instr.StoreOp.TheVariants.{Sb, Sh, Sw}
use Rattle.rv_decode.specs.declared.instr.ImmOp.TheVariants.{Addi, Andi, Slli, Srai, Srli, Xori}
use Rattle.rv_decode.specs.declared.instr.RegOp.TheVariants.{Add, And, Mul, Or, Sub, Xor}
use Rattle.rv_decode.specs.Formats.{rd_of}
use Rattle.zc_decode.specs.Fields.{addi4spn_of, addi16sp_of, amount_of, cb_offset_of, byte_offset_of, half_offset_of, high_reg_of, imm_ci_of, cj_offset_of, low_reg_of, lui_of, lwsp_of, c_rs2_of, swsp_of, word_offset_of, adjust_of, index_of, list_of, r1s_of, r2s_of}
use Rattle.zc_decode.specs.Rows.{form_of}
use Rattle.zc_decode.specs.declared.form.Form.{Form}
use Rattle.zc_decode.specs.declared.form.Form.TheVariants.{CAddi4spn, CLw, CSw, CLbu, CLhu, CLh, CSb, CSh, CNop, CAddi, CJal, CLi, CAddi16sp, CLui, CSrli, CSrai, CAndi, CSub, CXor, COr, CAnd, CMul, CZextB, CNot, CJ, CBeqz, CBnez, CSlli, CLwsp, CJr, CMv, CEbreak, CJalr, CAdd, CSwsp, CmPush, CmPop, CmPopretz, CmPopret, CmMvsa01, CmMva01s, CmJt, CmJalt}
use Rattle.zc_decode.specs.declared.short.Short.{Short}
use Rattle.zc_decode.specs.declared.short.Short.TheVariants.{Base, Push, Pop, PopRet, PopRetz, MoveSa, MoveAs, TableJump}

-- what a halfword of a row encodes, one line for each row in the tables' order; a hint encodes its expansion too
abbrev pub spelled : Form → ℕ → Short
spelled CAddi4spn half = Base (WithImm Addi (low_reg_of half) 2 (pos (addi4spn_of half)))
spelled CLw half = Base (Load Lw (low_reg_of half) (high_reg_of half) (pos (word_offset_of half)))
spelled CSw half = Base (Store Sw (low_reg_of half) (high_reg_of half) (pos (word_offset_of half)))
spelled CLbu half = Base (Load Lbu (low_reg_of half) (high_reg_of half) (pos (byte_offset_of half)))
spelled CLhu half = Base (Load Lhu (low_reg_of half) (high_reg_of half) (pos (half_offset_of half)))
spelled CLh half = Base (Load Lh (low_reg_of half) (high_reg_of half) (pos (half_offset_of half)))
spelled CSb half = Base (Store Sb (low_reg_of half) (high_reg_of half) (pos (byte_offset_of half)))
spelled CSh half = Base (Store Sh (low_reg_of half) (high_reg_of half) (pos (half_offset_of half)))
spelled CNop half = Base (WithImm Addi 0 0 (imm_ci_of half))
spelled CAddi half = Base (WithImm Addi (rd_of half) (rd_of half) (imm_ci_of half))
spelled CJal half = Base (Jal 1 (cj_offset_of half))
spelled CLi half = Base (WithImm Addi (rd_of half) 0 (imm_ci_of half))
spelled CAddi16sp half = Base (WithImm Addi 2 2 (addi16sp_of half))
spelled CLui half = Base (Upper Lui (rd_of half) (lui_of half))
spelled CSrli half = Base (WithImm Srli (high_reg_of half) (high_reg_of half) (pos (amount_of half)))
spelled CSrai half = Base (WithImm Srai (high_reg_of half) (high_reg_of half) (pos (amount_of half)))
spelled CAndi half = Base (WithImm Andi (high_reg_of half) (high_reg_of half) (imm_ci_of half))
spelled CSub half = Base (WithReg Sub (high_reg_of half) (high_reg_of half) (low_reg_of half))
spelled CXor half = Base (WithReg Xor (high_reg_of half) (high_reg_of half) (low_reg_of half))
spelled COr half = Base (WithReg Or (high_reg_of half) (high_reg_of half) (low_reg_of half))
spelled CAnd half = Base (WithReg And (high_reg_of half) (high_reg_of half) (low_reg_of half))
spelled CMul half = Base (WithReg Mul (high_reg_of half) (high_reg_of half) (low_reg_of half))
spelled CZextB half = Base (WithImm Andi (high_reg_of half) (high_reg_of half) (pos 255))
spelled CNot half = Base (WithImm Xori (high_reg_of half) (high_reg_of half) (negsuc 0))
spelled CJ half = Base (Jal 0 (cj_offset_of half))
spelled CBeqz half = Base (Branch Beq (high_reg_of half) 0 (cb_offset_of half))
spelled CBnez half = Base (Branch Bne (high_reg_of half) 0 (cb_offset_of half))
spelled CSlli half = Base (WithImm Slli (rd_of half) (rd_of half) (pos (amount_of half)))
spelled CLwsp half = Base (Load Lw (rd_of half) 2 (pos (lwsp_of half)))
spelled CJr half = Base (Jalr 0 (rd_of half) (pos 0))
spelled CMv half = Base (WithReg Add (rd_of half) 0 (c_rs2_of half))
spelled CEbreak half = Base Ebreak
spelled CJalr half = Base (Jalr 1 (rd_of half) (pos 0))
spelled CAdd half = Base (WithReg Add (rd_of half) (rd_of half) (c_rs2_of half))
spelled CSwsp half = Base (Store Sw (c_rs2_of half) 2 (pos (swsp_of half)))
spelled CmPush half = Push (list_of half) (adjust_of half)
spelled CmPop half = Pop (list_of half) (adjust_of half)
spelled CmPopretz half = PopRetz (list_of half) (adjust_of half)
spelled CmPopret half = PopRet (list_of half) (adjust_of half)
spelled CmMvsa01 half = MoveSa (r1s_of half) (r2s_of half)
spelled CmMva01s half = MoveAs (r1s_of half) (r2s_of half)
spelled CmJt half = TableJump (index_of half)
spelled CmJalt half = TableJump (index_of half)

-- what a halfword encodes; none outside the tables
unfoldable pub decoded16 : ℕ → Option Short
decoded16 half = option_map (λ form. spelled form half) (form_of half)
