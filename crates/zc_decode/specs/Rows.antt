-- The rows of the tables of halfwords, by their bits (RISC-V unprivileged manual, "RVC Instruction Set Listings"; RISC-V Zc
-- specification 1.0, "Zcb", "Zcmp" and "Zcmt").
use Rattle.std.specs.Prelude.{ℕ, ◌+◌, ◌*◌, List, [], ◌∷◌, Option, Some, None, Bool, ◌==◌, if◌then◌else◌, nat_lt}
use Rattle.std.specs.Option.{option_flatten}
use Rattle.rv_decode.specs.Bits.{field}
use Rattle.rv_decode.specs.Decode.{row_of}
use Rattle.rv_decode.specs.Formats.{rd_of}
use Rattle.zc_decode.specs.Fields.{addi4spn_of, group_of, lui_of, c_rs2_of, index_of, list_of}
use Rattle.zc_decode.specs.declared.form.Form.{Form}
use Rattle.zc_decode.specs.declared.form.Form.TheVariants.{CAddi4spn, CLw, CSw, CLbu, CLhu, CLh, CSb, CSh, CNop, CAddi, CJal, CLi, CAddi16sp, CLui, CSrli, CSrai, CAndi, CSub, CXor, COr, CAnd, CMul, CZextB, CNot, CJ, CBeqz, CBnez, CSlli, CLwsp, CJr, CMv, CEbreak, CJalr, CAdd, CSwsp, CmPush, CmPop, CmPopretz, CmPopret, CmMvsa01, CmMva01s, CmJt, CmJalt}

-- what isn't reserved is of the row
abbrev pub unless : Bool → Form → Option Form
unless reserved form = if reserved then None else Some form

-- ---- rows that share a group

-- Zcb's loads and stores, by bits 12 to 10 and 6, as one number of four bits; bit 6 is c.lbu's and c.sb's imm[0]
abbrev pub zcb_memory : List (ℕ × Form)
zcb_memory =
    (0b000_0, CLbu) ∷
    (0b000_1, CLbu) ∷
    (0b001_0, CLhu) ∷
    (0b001_1, CLh) ∷
    (0b010_0, CSb) ∷
    (0b010_1, CSb) ∷
    (0b011_0, CSh) ∷
    []

-- Zcb's operations on one register, by bits 4 to 2
abbrev pub zcb_unary : List (ℕ × Form)
zcb_unary =
    (0b000, CZextB) ∷
    (0b101, CNot) ∷
    []

-- operations on two registers, by bits 12 and 6 to 5, as one number of three bits
abbrev pub register_rows : ℕ → List (ℕ × Option Form)
register_rows half =
    (0b0_00, Some CSub) ∷
    (0b0_01, Some CXor) ∷
    (0b0_10, Some COr) ∷
    (0b0_11, Some CAnd) ∷
    (0b1_10, Some CMul) ∷
    (0b1_11, row_of zcb_unary (field half 2 3)) ∷
    []

-- operations, by bits 11 to 10; an amount of 32 and more (bit 12) is none of RV32
abbrev pub operations : ℕ → List (ℕ × Option Form)
operations half =
    (0b00, unless (field half 12 1 == 1) CSrli) ∷
    (0b01, unless (field half 12 1 == 1) CSrai) ∷
    (0b10, Some CAndi) ∷
    (0b11, option_flatten (row_of (register_rows half) (field half 12 1 * 4 + field half 5 2))) ∷
    []

-- jumps to registers, moves and sums, by bit 12 and by which registers are 0
abbrev pub jump_row : ℕ → Option Form
jump_row half =
    if c_rs2_of half == 0
    then (if field half 12 1 == 0 then unless (rd_of half == 0) CJr else (if rd_of half == 0 then Some CEbreak else Some CJalr))
    else (if field half 12 1 == 0 then Some CMv else Some CAdd)

-- pushes and pops, by bits 12 to 8
abbrev pub zcmp_lists : List (ℕ × Form)
zcmp_lists =
    (0b11000, CmPush) ∷
    (0b11010, CmPop) ∷
    (0b11100, CmPopretz) ∷
    (0b11110, CmPopret) ∷
    []

-- moves, by bits 6 to 5; to one register twice is reserved
abbrev pub zcmp_moves : ℕ → List (ℕ × Option Form)
zcmp_moves half =
    (0b01, unless (field half 7 3 == field half 2 3) CmMvsa01) ∷
    (0b11, Some CmMva01s) ∷
    []

-- Zcmp and Zcmt, by bits 12 to 10; lists below 4 are reserved, and bits 9 and 8 tell which push or pop; table jumps from 32 on link
abbrev pub zcmp_rows : ℕ → List (ℕ × Option Form)
zcmp_rows half =
    (0b000, Some (if nat_lt (index_of half) 32 then CmJt else CmJalt)) ∷
    (0b011, option_flatten (row_of (zcmp_moves half) (field half 5 2))) ∷
    (0b110, if nat_lt (list_of half) 4 then None else row_of zcmp_lists (field half 8 5)) ∷
    (0b111, if nat_lt (list_of half) 4 then None else row_of zcmp_lists (field half 8 5)) ∷
    []

-- ---- rows, by bits 15 to 13 and 1 to 0

-- c.addi with rd 0 is c.nop. c.lui with rd 2 is c.addi16sp, and an immediate of 0 is reserved in both
abbrev pub groups : ℕ → List (ℕ × Option Form)
groups half =
    (0b000_00, unless (addi4spn_of half == 0) CAddi4spn) ∷
    (0b010_00, Some CLw) ∷
    (0b110_00, Some CSw) ∷
    (0b100_00, row_of zcb_memory (field half 10 3 * 2 + field half 6 1)) ∷
    (0b000_01, Some (if rd_of half == 0 then CNop else CAddi)) ∷
    (0b001_01, Some CJal) ∷
    (0b010_01, Some CLi) ∷
    (0b011_01, unless (lui_of half == 0) (if rd_of half == 2 then CAddi16sp else CLui)) ∷
    (0b100_01, option_flatten (row_of (operations half) (field half 10 2))) ∷
    (0b101_01, Some CJ) ∷
    (0b110_01, Some CBeqz) ∷
    (0b111_01, Some CBnez) ∷
    (0b000_10, unless (field half 12 1 == 1) CSlli) ∷
    (0b010_10, unless (rd_of half == 0) CLwsp) ∷
    (0b100_10, jump_row half) ∷
    (0b101_10, option_flatten (row_of (zcmp_rows half) (field half 10 3))) ∷
    (0b110_10, Some CSwsp) ∷
    []

-- the row of a halfword; none for what is reserved, and for what no row has
unfoldable pub form_of : ℕ → Option Form
form_of half = option_flatten (row_of (groups half) (group_of half))
