-- Names: each is one word, no name of a line of bytes or digits, and is found again.
use Rattle.std.proofs.Common.{◌≡◌, ℕ, ◌<◌, Some, None, Bool, true, false, List, [], ◌∷◌, length, refl, ltb}
use Rattle.std.specs.Prelude.{◌&&◌, bytes_eq, codes}
use Rattle.std.proofs.lemmas.Bool.{and_parts, ltb-true}
use Rattle.std.proofs.lemmas.List.Elements.{All-cons, All-nil}
use Rattle.rv_decode.specs.declared.instr.UpperOp.{UpperOp}
use Rattle.rv_decode.specs.declared.instr.UpperOp.TheVariants.{Lui, Auipc}
use Rattle.rv_decode.specs.declared.instr.BranchOp.{BranchOp}
use Rattle.rv_decode.specs.declared.instr.BranchOp.TheVariants.{Beq, Bne, Blt, Bge, Bltu, Bgeu}
use Rattle.rv_decode.specs.declared.instr.LoadOp.{LoadOp}
use Rattle.rv_decode.specs.declared.instr.LoadOp.TheVariants.{Lb, Lh, Lw, Lbu, Lhu}
use Rattle.rv_decode.specs.declared.instr.StoreOp.{StoreOp}
use Rattle.rv_decode.specs.declared.instr.StoreOp.TheVariants.{Sb, Sh, Sw}
use Rattle.rv_decode.specs.declared.instr.ImmOp.{ImmOp}
use Rattle.rv_decode.specs.declared.instr.ImmOp.TheVariants.{Addi, Slti, Sltiu, Xori, Ori, Andi, Slli, Srli, Srai}
use Rattle.rv_decode.specs.declared.instr.RegOp.{RegOp}
use Rattle.rv_decode.specs.declared.instr.RegOp.TheVariants.{Add, Sub, Sll, Slt, Sltu, Xor, Srl, Sra, Or, And, Mul, Mulh, Mulhsu, Mulhu, Div, Divu, Rem, Remu}
use Rattle.zc_decode.specs.declared.form.Form.{Form}
use Rattle.zc_decode.specs.declared.form.Form.TheVariants.{CAddi4spn, CLw, CSw, CLbu, CLhu, CLh, CSb, CSh, CNop, CAddi, CJal, CLi, CAddi16sp, CLui, CSrli, CSrai, CAndi, CSub, CXor, COr, CAnd, CMul, CZextB, CNot, CJ, CBeqz, CBnez, CSlli, CLwsp, CJr, CMv, CEbreak, CJalr, CAdd, CSwsp, CmPush, CmPop, CmPopretz, CmPopret, CmMvsa01, CmMva01s, CmJt, CmJalt}
use Rattle.text_lines.proofs.PlainLaws.{IsPlain}
use Rattle.instruction_text.specs.Assembly.{assembled_half}
use Rattle.instruction_text.specs.Names.{form_name, form_named, operation_name, operation_named}
use Rattle.instruction_text.specs.declared.operands.Operands.{Operands}
use Rattle.instruction_text.specs.declared.operation.Operation.{Operation}
use Rattle.instruction_text.specs.declared.operation.Operation.TheVariants.{Upper, Jal, Jalr, Branch, Load, Store, WithImm, WithReg, Fence, Ecall, Ebreak, Csrrw}

-- ---- words of a text

-- each byte is above a space
abbrev pub is_plain : List ℕ → Bool
is_plain [] = true
is_plain (c ∷ cs) = ltb 32 c && is_plain cs

pub plain_is : (word : List ℕ) → is_plain word ≡ true → IsPlain word
plain_is [] test = All-nil (λ b. 32 < b)
plain_is (c ∷ cs) test = let parts = and_parts (ltb 32 c) (is_plain cs) test in All-cons (λ b. 32 < b) c cs (ltb-true 32 c parts.0) (plain_is cs parts.1)

-- a word that is none of the names of digits, bytes and zeros
pub record IsName (name : List ℕ) : Type 0 where
  pub some : ltb 0 (length name) ≡ true
  pub plain : is_plain name ≡ true
  pub half : bytes_eq name (codes ".half") ≡ false
  pub word : bytes_eq name (codes ".word") ≡ false
  pub bytes : bytes_eq name (codes ".byte") ≡ false
  pub zeros : bytes_eq name (codes ".zero") ≡ false

-- ---- operations

pub record IsOperationName (operation : Operation) : Type 0 where
  pub is_name : IsName (operation_name operation)
  pub found : operation_named (operation_name operation) ≡ Some operation

upper_named : (op : UpperOp) → IsOperationName (Upper op)
upper_named Lui = record { is_name = record { some = refl; plain = refl; half = refl; word = refl; bytes = refl; zeros = refl }; found = refl }
upper_named Auipc = record { is_name = record { some = refl; plain = refl; half = refl; word = refl; bytes = refl; zeros = refl }; found = refl }

branch_named : (op : BranchOp) → IsOperationName (Branch op)
branch_named Beq = record { is_name = record { some = refl; plain = refl; half = refl; word = refl; bytes = refl; zeros = refl }; found = refl }
branch_named Bne = record { is_name = record { some = refl; plain = refl; half = refl; word = refl; bytes = refl; zeros = refl }; found = refl }
branch_named Blt = record { is_name = record { some = refl; plain = refl; half = refl; word = refl; bytes = refl; zeros = refl }; found = refl }
branch_named Bge = record { is_name = record { some = refl; plain = refl; half = refl; word = refl; bytes = refl; zeros = refl }; found = refl }
branch_named Bltu = record { is_name = record { some = refl; plain = refl; half = refl; word = refl; bytes = refl; zeros = refl }; found = refl }
branch_named Bgeu = record { is_name = record { some = refl; plain = refl; half = refl; word = refl; bytes = refl; zeros = refl }; found = refl }

load_named : (op : LoadOp) → IsOperationName (Load op)
load_named Lb = record { is_name = record { some = refl; plain = refl; half = refl; word = refl; bytes = refl; zeros = refl }; found = refl }
load_named Lh = record { is_name = record { some = refl; plain = refl; half = refl; word = refl; bytes = refl; zeros = refl }; found = refl }
load_named Lw = record { is_name = record { some = refl; plain = refl; half = refl; word = refl; bytes = refl; zeros = refl }; found = refl }
load_named Lbu = record { is_name = record { some = refl; plain = refl; half = refl; word = refl; bytes = refl; zeros = refl }; found = refl }
load_named Lhu = record { is_name = record { some = refl; plain = refl; half = refl; word = refl; bytes = refl; zeros = refl }; found = refl }

store_named : (op : StoreOp) → IsOperationName (Store op)
store_named Sb = record { is_name = record { some = refl; plain = refl; half = refl; word = refl; bytes = refl; zeros = refl }; found = refl }
store_named Sh = record { is_name = record { some = refl; plain = refl; half = refl; word = refl; bytes = refl; zeros = refl }; found = refl }
store_named Sw = record { is_name = record { some = refl; plain = refl; half = refl; word = refl; bytes = refl; zeros = refl }; found = refl }

imm_named : (op : ImmOp) → IsOperationName (WithImm op)
imm_named Addi = record { is_name = record { some = refl; plain = refl; half = refl; word = refl; bytes = refl; zeros = refl }; found = refl }
imm_named Slti = record { is_name = record { some = refl; plain = refl; half = refl; word = refl; bytes = refl; zeros = refl }; found = refl }
imm_named Sltiu = record { is_name = record { some = refl; plain = refl; half = refl; word = refl; bytes = refl; zeros = refl }; found = refl }
imm_named Xori = record { is_name = record { some = refl; plain = refl; half = refl; word = refl; bytes = refl; zeros = refl }; found = refl }
imm_named Ori = record { is_name = record { some = refl; plain = refl; half = refl; word = refl; bytes = refl; zeros = refl }; found = refl }
imm_named Andi = record { is_name = record { some = refl; plain = refl; half = refl; word = refl; bytes = refl; zeros = refl }; found = refl }
imm_named Slli = record { is_name = record { some = refl; plain = refl; half = refl; word = refl; bytes = refl; zeros = refl }; found = refl }
imm_named Srli = record { is_name = record { some = refl; plain = refl; half = refl; word = refl; bytes = refl; zeros = refl }; found = refl }
imm_named Srai = record { is_name = record { some = refl; plain = refl; half = refl; word = refl; bytes = refl; zeros = refl }; found = refl }

reg_named : (op : RegOp) → IsOperationName (WithReg op)
reg_named Add = record { is_name = record { some = refl; plain = refl; half = refl; word = refl; bytes = refl; zeros = refl }; found = refl }
reg_named Sub = record { is_name = record { some = refl; plain = refl; half = refl; word = refl; bytes = refl; zeros = refl }; found = refl }
reg_named Sll = record { is_name = record { some = refl; plain = refl; half = refl; word = refl; bytes = refl; zeros = refl }; found = refl }
reg_named Slt = record { is_name = record { some = refl; plain = refl; half = refl; word = refl; bytes = refl; zeros = refl }; found = refl }
reg_named Sltu = record { is_name = record { some = refl; plain = refl; half = refl; word = refl; bytes = refl; zeros = refl }; found = refl }
reg_named Xor = record { is_name = record { some = refl; plain = refl; half = refl; word = refl; bytes = refl; zeros = refl }; found = refl }
reg_named Srl = record { is_name = record { some = refl; plain = refl; half = refl; word = refl; bytes = refl; zeros = refl }; found = refl }
reg_named Sra = record { is_name = record { some = refl; plain = refl; half = refl; word = refl; bytes = refl; zeros = refl }; found = refl }
reg_named Or = record { is_name = record { some = refl; plain = refl; half = refl; word = refl; bytes = refl; zeros = refl }; found = refl }
reg_named And = record { is_name = record { some = refl; plain = refl; half = refl; word = refl; bytes = refl; zeros = refl }; found = refl }
reg_named Mul = record { is_name = record { some = refl; plain = refl; half = refl; word = refl; bytes = refl; zeros = refl }; found = refl }
reg_named Mulh = record { is_name = record { some = refl; plain = refl; half = refl; word = refl; bytes = refl; zeros = refl }; found = refl }
reg_named Mulhsu = record { is_name = record { some = refl; plain = refl; half = refl; word = refl; bytes = refl; zeros = refl }; found = refl }
reg_named Mulhu = record { is_name = record { some = refl; plain = refl; half = refl; word = refl; bytes = refl; zeros = refl }; found = refl }
reg_named Div = record { is_name = record { some = refl; plain = refl; half = refl; word = refl; bytes = refl; zeros = refl }; found = refl }
reg_named Divu = record { is_name = record { some = refl; plain = refl; half = refl; word = refl; bytes = refl; zeros = refl }; found = refl }
reg_named Rem = record { is_name = record { some = refl; plain = refl; half = refl; word = refl; bytes = refl; zeros = refl }; found = refl }
reg_named Remu = record { is_name = record { some = refl; plain = refl; half = refl; word = refl; bytes = refl; zeros = refl }; found = refl }

pub named_operation : (operation : Operation) → IsOperationName operation
named_operation (Upper op) = upper_named op
named_operation Jal = record { is_name = record { some = refl; plain = refl; half = refl; word = refl; bytes = refl; zeros = refl }; found = refl }
named_operation Jalr = record { is_name = record { some = refl; plain = refl; half = refl; word = refl; bytes = refl; zeros = refl }; found = refl }
named_operation (Branch op) = branch_named op
named_operation (Load op) = load_named op
named_operation (Store op) = store_named op
named_operation (WithImm op) = imm_named op
named_operation (WithReg op) = reg_named op
named_operation Fence = record { is_name = record { some = refl; plain = refl; half = refl; word = refl; bytes = refl; zeros = refl }; found = refl }
named_operation Ecall = record { is_name = record { some = refl; plain = refl; half = refl; word = refl; bytes = refl; zeros = refl }; found = refl }
named_operation Ebreak = record { is_name = record { some = refl; plain = refl; half = refl; word = refl; bytes = refl; zeros = refl }; found = refl }
named_operation Csrrw = record { is_name = record { some = refl; plain = refl; half = refl; word = refl; bytes = refl; zeros = refl }; found = refl }

-- ---- rows

-- the first row with the name of a row, whose halfwords have the same fields; no operation has this name
pub record IsFormName (form first : Form) : Type 0 where
  pub is_name : IsName (form_name form)
  pub other : operation_named (form_name form) ≡ None
  pub found : form_named (form_name form) ≡ Some first
  pub same : (operands : Operands) → assembled_half first operands ≡ assembled_half form operands

-- the first row with the name of a row
abbrev pub first_of : Form → Form
first_of CAddi4spn = CAddi4spn
first_of CLw = CLw
first_of CSw = CSw
first_of CLbu = CLbu
first_of CLhu = CLhu
first_of CLh = CLh
first_of CSb = CSb
first_of CSh = CSh
first_of CNop = CNop
first_of CAddi = CNop
first_of CJal = CJal
first_of CLi = CLi
first_of CAddi16sp = CAddi16sp
first_of CLui = CLui
first_of CSrli = CSrli
first_of CSrai = CSrai
first_of CAndi = CAndi
first_of CSub = CSub
first_of CXor = CXor
first_of COr = COr
first_of CAnd = CAnd
first_of CMul = CMul
first_of CZextB = CZextB
first_of CNot = CNot
first_of CJ = CJ
first_of CBeqz = CBeqz
first_of CBnez = CBnez
first_of CSlli = CSlli
first_of CLwsp = CLwsp
first_of CJr = CJr
first_of CMv = CMv
first_of CEbreak = CEbreak
first_of CJalr = CJalr
first_of CAdd = CAdd
first_of CSwsp = CSwsp
first_of CmPush = CmPush
first_of CmPop = CmPop
first_of CmPopretz = CmPopretz
first_of CmPopret = CmPopret
first_of CmMvsa01 = CmMvsa01
first_of CmMva01s = CmMva01s
first_of CmJt = CmJt
first_of CmJalt = CmJalt

pub named_form : (form : Form) → IsFormName form (first_of form)
named_form CAddi4spn = record { is_name = record { some = refl; plain = refl; half = refl; word = refl; bytes = refl; zeros = refl }; other = refl; found = refl; same = λ operands. refl }
named_form CLw = record { is_name = record { some = refl; plain = refl; half = refl; word = refl; bytes = refl; zeros = refl }; other = refl; found = refl; same = λ operands. refl }
named_form CSw = record { is_name = record { some = refl; plain = refl; half = refl; word = refl; bytes = refl; zeros = refl }; other = refl; found = refl; same = λ operands. refl }
named_form CLbu = record { is_name = record { some = refl; plain = refl; half = refl; word = refl; bytes = refl; zeros = refl }; other = refl; found = refl; same = λ operands. refl }
named_form CLhu = record { is_name = record { some = refl; plain = refl; half = refl; word = refl; bytes = refl; zeros = refl }; other = refl; found = refl; same = λ operands. refl }
named_form CLh = record { is_name = record { some = refl; plain = refl; half = refl; word = refl; bytes = refl; zeros = refl }; other = refl; found = refl; same = λ operands. refl }
named_form CSb = record { is_name = record { some = refl; plain = refl; half = refl; word = refl; bytes = refl; zeros = refl }; other = refl; found = refl; same = λ operands. refl }
named_form CSh = record { is_name = record { some = refl; plain = refl; half = refl; word = refl; bytes = refl; zeros = refl }; other = refl; found = refl; same = λ operands. refl }
named_form CNop = record { is_name = record { some = refl; plain = refl; half = refl; word = refl; bytes = refl; zeros = refl }; other = refl; found = refl; same = λ operands. refl }
named_form CAddi = record { is_name = record { some = refl; plain = refl; half = refl; word = refl; bytes = refl; zeros = refl }; other = refl; found = refl; same = λ operands. refl }
named_form CJal = record { is_name = record { some = refl; plain = refl; half = refl; word = refl; bytes = refl; zeros = refl }; other = refl; found = refl; same = λ operands. refl }
named_form CLi = record { is_name = record { some = refl; plain = refl; half = refl; word = refl; bytes = refl; zeros = refl }; other = refl; found = refl; same = λ operands. refl }
named_form CAddi16sp = record { is_name = record { some = refl; plain = refl; half = refl; word = refl; bytes = refl; zeros = refl }; other = refl; found = refl; same = λ operands. refl }
named_form CLui = record { is_name = record { some = refl; plain = refl; half = refl; word = refl; bytes = refl; zeros = refl }; other = refl; found = refl; same = λ operands. refl }
named_form CSrli = record { is_name = record { some = refl; plain = refl; half = refl; word = refl; bytes = refl; zeros = refl }; other = refl; found = refl; same = λ operands. refl }
named_form CSrai = record { is_name = record { some = refl; plain = refl; half = refl; word = refl; bytes = refl; zeros = refl }; other = refl; found = refl; same = λ operands. refl }
named_form CAndi = record { is_name = record { some = refl; plain = refl; half = refl; word = refl; bytes = refl; zeros = refl }; other = refl; found = refl; same = λ operands. refl }
named_form CSub = record { is_name = record { some = refl; plain = refl; half = refl; word = refl; bytes = refl; zeros = refl }; other = refl; found = refl; same = λ operands. refl }
named_form CXor = record { is_name = record { some = refl; plain = refl; half = refl; word = refl; bytes = refl; zeros = refl }; other = refl; found = refl; same = λ operands. refl }
named_form COr = record { is_name = record { some = refl; plain = refl; half = refl; word = refl; bytes = refl; zeros = refl }; other = refl; found = refl; same = λ operands. refl }
named_form CAnd = record { is_name = record { some = refl; plain = refl; half = refl; word = refl; bytes = refl; zeros = refl }; other = refl; found = refl; same = λ operands. refl }
named_form CMul = record { is_name = record { some = refl; plain = refl; half = refl; word = refl; bytes = refl; zeros = refl }; other = refl; found = refl; same = λ operands. refl }
named_form CZextB = record { is_name = record { some = refl; plain = refl; half = refl; word = refl; bytes = refl; zeros = refl }; other = refl; found = refl; same = λ operands. refl }
named_form CNot = record { is_name = record { some = refl; plain = refl; half = refl; word = refl; bytes = refl; zeros = refl }; other = refl; found = refl; same = λ operands. refl }
named_form CJ = record { is_name = record { some = refl; plain = refl; half = refl; word = refl; bytes = refl; zeros = refl }; other = refl; found = refl; same = λ operands. refl }
named_form CBeqz = record { is_name = record { some = refl; plain = refl; half = refl; word = refl; bytes = refl; zeros = refl }; other = refl; found = refl; same = λ operands. refl }
named_form CBnez = record { is_name = record { some = refl; plain = refl; half = refl; word = refl; bytes = refl; zeros = refl }; other = refl; found = refl; same = λ operands. refl }
named_form CSlli = record { is_name = record { some = refl; plain = refl; half = refl; word = refl; bytes = refl; zeros = refl }; other = refl; found = refl; same = λ operands. refl }
named_form CLwsp = record { is_name = record { some = refl; plain = refl; half = refl; word = refl; bytes = refl; zeros = refl }; other = refl; found = refl; same = λ operands. refl }
named_form CJr = record { is_name = record { some = refl; plain = refl; half = refl; word = refl; bytes = refl; zeros = refl }; other = refl; found = refl; same = λ operands. refl }
named_form CMv = record { is_name = record { some = refl; plain = refl; half = refl; word = refl; bytes = refl; zeros = refl }; other = refl; found = refl; same = λ operands. refl }
named_form CEbreak = record { is_name = record { some = refl; plain = refl; half = refl; word = refl; bytes = refl; zeros = refl }; other = refl; found = refl; same = λ operands. refl }
named_form CJalr = record { is_name = record { some = refl; plain = refl; half = refl; word = refl; bytes = refl; zeros = refl }; other = refl; found = refl; same = λ operands. refl }
named_form CAdd = record { is_name = record { some = refl; plain = refl; half = refl; word = refl; bytes = refl; zeros = refl }; other = refl; found = refl; same = λ operands. refl }
named_form CSwsp = record { is_name = record { some = refl; plain = refl; half = refl; word = refl; bytes = refl; zeros = refl }; other = refl; found = refl; same = λ operands. refl }
named_form CmPush = record { is_name = record { some = refl; plain = refl; half = refl; word = refl; bytes = refl; zeros = refl }; other = refl; found = refl; same = λ operands. refl }
named_form CmPop = record { is_name = record { some = refl; plain = refl; half = refl; word = refl; bytes = refl; zeros = refl }; other = refl; found = refl; same = λ operands. refl }
named_form CmPopretz = record { is_name = record { some = refl; plain = refl; half = refl; word = refl; bytes = refl; zeros = refl }; other = refl; found = refl; same = λ operands. refl }
named_form CmPopret = record { is_name = record { some = refl; plain = refl; half = refl; word = refl; bytes = refl; zeros = refl }; other = refl; found = refl; same = λ operands. refl }
named_form CmMvsa01 = record { is_name = record { some = refl; plain = refl; half = refl; word = refl; bytes = refl; zeros = refl }; other = refl; found = refl; same = λ operands. refl }
named_form CmMva01s = record { is_name = record { some = refl; plain = refl; half = refl; word = refl; bytes = refl; zeros = refl }; other = refl; found = refl; same = λ operands. refl }
named_form CmJt = record { is_name = record { some = refl; plain = refl; half = refl; word = refl; bytes = refl; zeros = refl }; other = refl; found = refl; same = λ operands. refl }
named_form CmJalt = record { is_name = record { some = refl; plain = refl; half = refl; word = refl; bytes = refl; zeros = refl }; other = refl; found = refl; same = λ operands. refl }
