-- The names of instructions (RISC-V unprivileged manual, "RV32/64G Instruction Set Listings" and "RVC Instruction Set Listings";
-- RISC-V Zc specification 1.0).
use Rattle.std.specs.Prelude.{ℕ, List, [], ◌∷◌, Option, Some, None, bytes_eq, if◌then◌else◌, codes}
use Rattle.rv_decode.specs.declared.instr.UpperOp.{UpperOp}
use Rattle.rv_decode.specs.declared.instr.UpperOp.TheVariants.{Lui, Auipc}
use Rattle.rv_decode.specs.declared.instr.BranchOp.{BranchOp}
use Rattle.rv_decode.specs.declared.instr.BranchOp.TheVariants.{Beq, Bne, Blt, Bge, Bltu, Bgeu}
use Rattle.rv_decode.specs.declared.instr.LoadOp.{LoadOp}
use Rattle.rv_decode.specs.declared.instr.LoadOp.TheVariants.{Lb, Lh, Lw, Lbu, Lhu}
use Rattle.rv_decode.specs.declared.instr.StoreOp.{StoreOp}
use Rattle.rv_decode.specs.declared.instr.StoreOp.TheVariants.{Sb, Sh, Sw}
use Rattle.rv_decode.specs.declared.instr.ImmOp.{ImmOp}
use Rattle.rv_decode.specs.declared.instr.ImmOp.TheVariants.{Addi, Slti, Sltiu, Xori, Ori, Andi, Slli, Srli, Srai}
use Rattle.rv_decode.specs.declared.instr.RegOp.{RegOp}
use Rattle.rv_decode.specs.declared.instr.RegOp.TheVariants.{Add, Sub, Sll, Slt, Sltu, Xor, Srl, Sra, Or, And, Mul, Mulh, Mulhsu, Mulhu, Div, Divu, Rem, Remu}
use Rattle.rv_decode.specs.declared.instr.Instr.{Instr}
use Rattle.rv_decode.specs.declared.instr.Instr.TheVariants as instr
use Rattle.zc_decode.specs.declared.form.Form.{Form}
use Rattle.zc_decode.specs.declared.form.Form.TheVariants.{CAddi4spn, CLw, CSw, CLbu, CLhu, CLh, CSb, CSh, CNop, CAddi, CJal, CLi, CAddi16sp, CLui, CSrli, CSrai, CAndi, CSub, CXor, COr, CAnd, CMul, CZextB, CNot, CJ, CBeqz, CBnez, CSlli, CLwsp, CJr, CMv, CEbreak, CJalr, CAdd, CSwsp, CmPush, CmPop, CmPopretz, CmPopret, CmMvsa01, CmMva01s, CmJt, CmJalt}
use Rattle.instruction_text.specs.declared.operation.Operation.{Operation}
use Rattle.instruction_text.specs.declared.operation.Operation.TheVariants as operation

-- ---- words

-- the operation of an instruction
abbrev pub operation_of : Instr → Operation
operation_of (instr.Upper op rd imm) = operation.Upper op
operation_of (instr.Jal rd distance) = operation.Jal
operation_of (instr.Jalr rd base imm) = operation.Jalr
operation_of (instr.Branch op first second distance) = operation.Branch op
operation_of (instr.Load op rd base imm) = operation.Load op
operation_of (instr.Store op source base imm) = operation.Store op
operation_of (instr.WithImm op rd first imm) = operation.WithImm op
operation_of (instr.WithReg op rd first second) = operation.WithReg op
operation_of (instr.Fence rest) = operation.Fence
operation_of instr.Ecall = operation.Ecall
operation_of instr.Ebreak = operation.Ebreak
operation_of (instr.Csrrw rd source) = operation.Csrrw

abbrev pub upper_name : UpperOp → List ℕ
upper_name Lui = codes "lui"
upper_name Auipc = codes "auipc"

abbrev pub branch_name : BranchOp → List ℕ
branch_name Beq = codes "beq"
branch_name Bne = codes "bne"
branch_name Blt = codes "blt"
branch_name Bge = codes "bge"
branch_name Bltu = codes "bltu"
branch_name Bgeu = codes "bgeu"

abbrev pub load_name : LoadOp → List ℕ
load_name Lb = codes "lb"
load_name Lh = codes "lh"
load_name Lw = codes "lw"
load_name Lbu = codes "lbu"
load_name Lhu = codes "lhu"

abbrev pub store_name : StoreOp → List ℕ
store_name Sb = codes "sb"
store_name Sh = codes "sh"
store_name Sw = codes "sw"

abbrev pub imm_name : ImmOp → List ℕ
imm_name Addi = codes "addi"
imm_name Slti = codes "slti"
imm_name Sltiu = codes "sltiu"
imm_name Xori = codes "xori"
imm_name Ori = codes "ori"
imm_name Andi = codes "andi"
imm_name Slli = codes "slli"
imm_name Srli = codes "srli"
imm_name Srai = codes "srai"

abbrev pub reg_name : RegOp → List ℕ
reg_name Add = codes "add"
reg_name Sub = codes "sub"
reg_name Sll = codes "sll"
reg_name Slt = codes "slt"
reg_name Sltu = codes "sltu"
reg_name Xor = codes "xor"
reg_name Srl = codes "srl"
reg_name Sra = codes "sra"
reg_name Or = codes "or"
reg_name And = codes "and"
reg_name Mul = codes "mul"
reg_name Mulh = codes "mulh"
reg_name Mulhsu = codes "mulhsu"
reg_name Mulhu = codes "mulhu"
reg_name Div = codes "div"
reg_name Divu = codes "divu"
reg_name Rem = codes "rem"
reg_name Remu = codes "remu"

abbrev pub operation_name : Operation → List ℕ
operation_name (operation.Upper op) = upper_name op
operation_name operation.Jal = codes "jal"
operation_name operation.Jalr = codes "jalr"
operation_name (operation.Branch op) = branch_name op
operation_name (operation.Load op) = load_name op
operation_name (operation.Store op) = store_name op
operation_name (operation.WithImm op) = imm_name op
operation_name (operation.WithReg op) = reg_name op
operation_name operation.Fence = codes "fence"
operation_name operation.Ecall = codes "ecall"
operation_name operation.Ebreak = codes "ebreak"
operation_name operation.Csrrw = codes "csrrw"

abbrev pub all_operations : List Operation
all_operations =
    operation.Upper Lui ∷ operation.Upper Auipc ∷ operation.Jal ∷ operation.Jalr ∷
    operation.Branch Beq ∷ operation.Branch Bne ∷ operation.Branch Blt ∷ operation.Branch Bge ∷ operation.Branch Bltu ∷ operation.Branch Bgeu ∷
    operation.Load Lb ∷ operation.Load Lh ∷ operation.Load Lw ∷ operation.Load Lbu ∷ operation.Load Lhu ∷
    operation.Store Sb ∷ operation.Store Sh ∷ operation.Store Sw ∷
    operation.WithImm Addi ∷ operation.WithImm Slti ∷ operation.WithImm Sltiu ∷ operation.WithImm Xori ∷ operation.WithImm Ori ∷ operation.WithImm Andi ∷
    operation.WithImm Slli ∷ operation.WithImm Srli ∷ operation.WithImm Srai ∷
    operation.WithReg Add ∷ operation.WithReg Sub ∷ operation.WithReg Sll ∷ operation.WithReg Slt ∷ operation.WithReg Sltu ∷ operation.WithReg Xor ∷
    operation.WithReg Srl ∷ operation.WithReg Sra ∷ operation.WithReg Or ∷ operation.WithReg And ∷
    operation.WithReg Mul ∷ operation.WithReg Mulh ∷ operation.WithReg Mulhsu ∷ operation.WithReg Mulhu ∷
    operation.WithReg Div ∷ operation.WithReg Divu ∷ operation.WithReg Rem ∷ operation.WithReg Remu ∷
    operation.Fence ∷ operation.Ecall ∷ operation.Ebreak ∷ operation.Csrrw ∷ []

-- ---- halfwords

-- the name of a row's halfwords; c.nop is written as the c.addi that it is
abbrev pub form_name : Form → List ℕ
form_name CAddi4spn = codes "c.addi4spn"
form_name CLw = codes "c.lw"
form_name CSw = codes "c.sw"
form_name CLbu = codes "c.lbu"
form_name CLhu = codes "c.lhu"
form_name CLh = codes "c.lh"
form_name CSb = codes "c.sb"
form_name CSh = codes "c.sh"
form_name CNop = codes "c.addi"
form_name CAddi = codes "c.addi"
form_name CJal = codes "c.jal"
form_name CLi = codes "c.li"
form_name CAddi16sp = codes "c.addi16sp"
form_name CLui = codes "c.lui"
form_name CSrli = codes "c.srli"
form_name CSrai = codes "c.srai"
form_name CAndi = codes "c.andi"
form_name CSub = codes "c.sub"
form_name CXor = codes "c.xor"
form_name COr = codes "c.or"
form_name CAnd = codes "c.and"
form_name CMul = codes "c.mul"
form_name CZextB = codes "c.zext.b"
form_name CNot = codes "c.not"
form_name CJ = codes "c.j"
form_name CBeqz = codes "c.beqz"
form_name CBnez = codes "c.bnez"
form_name CSlli = codes "c.slli"
form_name CLwsp = codes "c.lwsp"
form_name CJr = codes "c.jr"
form_name CMv = codes "c.mv"
form_name CEbreak = codes "c.ebreak"
form_name CJalr = codes "c.jalr"
form_name CAdd = codes "c.add"
form_name CSwsp = codes "c.swsp"
form_name CmPush = codes "cm.push"
form_name CmPop = codes "cm.pop"
form_name CmPopretz = codes "cm.popretz"
form_name CmPopret = codes "cm.popret"
form_name CmMvsa01 = codes "cm.mvsa01"
form_name CmMva01s = codes "cm.mva01s"
form_name CmJt = codes "cm.jt"
form_name CmJalt = codes "cm.jalt"

-- the rows, in the tables' order
abbrev pub all_forms : List Form
all_forms =
    CAddi4spn ∷ CLw ∷ CSw ∷ CLbu ∷ CLhu ∷ CLh ∷ CSb ∷ CSh ∷
    CNop ∷ CAddi ∷ CJal ∷ CLi ∷ CAddi16sp ∷ CLui ∷ CSrli ∷ CSrai ∷ CAndi ∷
    CSub ∷ CXor ∷ COr ∷ CAnd ∷ CMul ∷ CZextB ∷ CNot ∷ CJ ∷ CBeqz ∷ CBnez ∷
    CSlli ∷ CLwsp ∷ CJr ∷ CMv ∷ CEbreak ∷ CJalr ∷ CAdd ∷ CSwsp ∷
    CmPush ∷ CmPop ∷ CmPopretz ∷ CmPopret ∷ CmMvsa01 ∷ CmMva01s ∷ CmJt ∷ CmJalt ∷ []

-- ---- by name

-- the first of some things that has a name
abbrev pub first_named : {A : Type 0} → (A → List ℕ) → List A → List ℕ → Option A
first_named name_of [] name = None
first_named name_of (x ∷ xs) name = if bytes_eq (name_of x) name then Some x else first_named name_of xs name

abbrev pub operation_named : List ℕ → Option Operation
operation_named name = first_named operation_name all_operations name

abbrev pub form_named : List ℕ → Option Form
form_named name = first_named form_name all_forms name
