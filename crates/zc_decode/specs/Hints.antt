-- The halfwords that are hints, and the numbers of the rows (RISC-V unprivileged manual, "HINT Instructions" of the C extension).
use Rattle.std.specs.Prelude.{ℕ, pos, Bool, false, not, ◌==◌, ◌||◌}
use Rattle.std.specs.Ordering.{int_eq}
use Rattle.rv_decode.specs.Formats.{rd_of}
use Rattle.zc_decode.specs.Fields.{amount_of, imm_ci_of}
use Rattle.zc_decode.specs.declared.form.Form.{Form}
use Rattle.zc_decode.specs.declared.form.Form.TheVariants.{CAddi4spn, CLw, CSw, CLbu, CLhu, CLh, CSb, CSh, CNop, CAddi, CJal, CLi, CAddi16sp, CLui, CSrli, CSrai, CAndi, CSub, CXor, COr, CAnd, CMul, CZextB, CNot, CJ, CBeqz, CBnez, CSlli, CLwsp, CJr, CMv, CEbreak, CJalr, CAdd, CSwsp, CmPush, CmPop, CmPopretz, CmPopret, CmMvsa01, CmMva01s, CmJt, CmJalt}

-- whether the standard names a halfword of a row as a hint
abbrev pub is_hint : Form → ℕ → Bool
is_hint CAddi4spn half = false
is_hint CLw half = false
is_hint CSw half = false
is_hint CLbu half = false
is_hint CLhu half = false
is_hint CLh half = false
is_hint CSb half = false
is_hint CSh half = false
is_hint CNop half = not (int_eq (imm_ci_of half) (pos 0))
is_hint CAddi half = int_eq (imm_ci_of half) (pos 0)
is_hint CJal half = false
is_hint CLi half = rd_of half == 0
is_hint CAddi16sp half = false
is_hint CLui half = rd_of half == 0
is_hint CSrli half = amount_of half == 0
is_hint CSrai half = amount_of half == 0
is_hint CAndi half = false
is_hint CSub half = false
is_hint CXor half = false
is_hint COr half = false
is_hint CAnd half = false
is_hint CMul half = false
is_hint CZextB half = false
is_hint CNot half = false
is_hint CJ half = false
is_hint CBeqz half = false
is_hint CBnez half = false
is_hint CSlli half = rd_of half == 0 || amount_of half == 0
is_hint CLwsp half = false
is_hint CJr half = false
is_hint CMv half = rd_of half == 0
is_hint CEbreak half = false
is_hint CJalr half = false
is_hint CAdd half = rd_of half == 0
is_hint CSwsp half = false
is_hint CmPush half = false
is_hint CmPop half = false
is_hint CmPopretz half = false
is_hint CmPopret half = false
is_hint CmMvsa01 half = false
is_hint CmMva01s half = false
is_hint CmJt half = false
is_hint CmJalt half = false

-- the number of a row in the tables' order
abbrev pub row_number : Form → ℕ
row_number CAddi4spn = 0
row_number CLw = 1
row_number CSw = 2
row_number CLbu = 3
row_number CLhu = 4
row_number CLh = 5
row_number CSb = 6
row_number CSh = 7
row_number CNop = 8
row_number CAddi = 9
row_number CJal = 10
row_number CLi = 11
row_number CAddi16sp = 12
row_number CLui = 13
row_number CSrli = 14
row_number CSrai = 15
row_number CAndi = 16
row_number CSub = 17
row_number CXor = 18
row_number COr = 19
row_number CAnd = 20
row_number CMul = 21
row_number CZextB = 22
row_number CNot = 23
row_number CJ = 24
row_number CBeqz = 25
row_number CBnez = 26
row_number CSlli = 27
row_number CLwsp = 28
row_number CJr = 29
row_number CMv = 30
row_number CEbreak = 31
row_number CJalr = 32
row_number CAdd = 33
row_number CSwsp = 34
row_number CmPush = 35
row_number CmPop = 36
row_number CmPopretz = 37
row_number CmPopret = 38
row_number CmMvsa01 = 39
row_number CmMva01s = 40
row_number CmJt = 41
row_number CmJalt = 42
