-- What the operands of pushes, pops and pairs of moves are: by the tables their rows ask that the list isn't reserved, and that two
-- registers that are set are different (form_fits). The rest is what the fields of a halfword can be.
use Rattle.std.proofs.Common.{◌≡◌, ◌≢◌, ℕ, zero, suc, ◌+◌, ◌*◌, ◌<◌, ◌≤◌, ◌%◌, ◌-◌, List, [], ◌∷◌, length, get_or, Option, Some, None, Bool, true, false, cond, refl, sym, subst, arith, eqb, ltb, inl, inr, ⊎_elim}
use Rattle.std.specs.Option.{option_flatten, option_map}
use Rattle.std.proofs.lemmas.Bool.{eqb-false, ltb-false, ltb-true}
use Rattle.std.proofs.lemmas.Bool.Decides.{eqb_tells}
use Rattle.std.proofs.lemmas.Option.{same_Some}
use Rattle.rv_decode.specs.Bits.{field}
use Rattle.rv_decode.specs.Decode.{row_of}
use Rattle.rv_decode.specs.Formats.{rd_of}
use Rattle.rv_decode.proofs.RowLaws.{EachRow}
use Rattle.zc_decode.specs.Fields as fields
use Rattle.zc_decode.specs.Fields.{c_rs2_of, index_of, list_of, s_register_of}
use Rattle.zc_decode.specs.Halfwords.{decoded16, spelled}
use Rattle.zc_decode.specs.Lists.{stack_adjust_base, registers_of}
use Rattle.zc_decode.specs.Operands.{HasOperands, IsFrameSize, IsMoved}
use Rattle.zc_decode.specs.Rows.{form_of, groups, jump_row, operations, register_rows, unless, zcmp_lists, zcmp_moves, zcmp_rows, zcb_memory, zcb_unary}
use Rattle.zc_decode.specs.declared.form.Form.{Form}
use Rattle.zc_decode.specs.declared.form.Form.TheVariants.{CAddi4spn, CLw, CSw, CLbu, CLhu, CLh, CSb, CSh, CNop, CAddi, CJal, CLi, CAddi16sp, CLui, CSrli, CSrai, CAndi, CSub, CXor, COr, CAnd, CMul, CZextB, CNot, CJ, CBeqz, CBnez, CSlli, CLwsp, CJr, CMv, CEbreak, CJalr, CAdd, CSwsp, CmPush, CmPop, CmPopretz, CmPopret, CmMvsa01, CmMva01s, CmJt, CmJalt}
use Rattle.zc_decode.specs.declared.short.Short.{Short}

-- ---- the rows of pushes, pops and moves

module _ (half : ℕ) where
  -- what their rows say of a halfword
  abbrev Fits : Form → Type 0
  Fits CmPush = 4 ≤ list_of half
  Fits CmPop = 4 ≤ list_of half
  Fits CmPopretz = 4 ≤ list_of half
  Fits CmPopret = 4 ≤ list_of half
  Fits CmMvsa01 = field half 7 3 ≢ field half 2 3
  Fits other = Unit {0}

  abbrev RowFits : Option Form → Type 0
  RowFits None = Unit {0}
  RowFits (Some form) = Fits form

  either_fits : (b : Bool) (f g : Form) → Fits f → Fits g → Fits (cond b f g)
  either_fits true f g one two = one
  either_fits false f g one two = two

  rows_fit : (b : Bool) (o p : Option Form) → RowFits o → RowFits p → RowFits (cond b o p)
  rows_fit true o p one two = one
  rows_fit false o p one two = two

  -- a row of a table
  row_fits : (rows : List (ℕ × Form)) (n : ℕ) → EachRow (λ _ f. Fits f) rows → RowFits (row_of rows n)
  row_fits [] n each = tt
  row_fits (row ∷ rows) n each = rows_fit (eqb n row.0) (Some row.1) (row_of rows n) each.0 (row_fits rows n each.1)

  flat_fits : (rows : List (ℕ × Option Form)) (n : ℕ) → EachRow (λ _ o. RowFits o) rows → RowFits (option_flatten (row_of rows n))
  flat_fits [] n each = tt
  flat_fits (row ∷ rows) n each = by (eqb n row.0) (flat_fits rows n each.1)
    where
      by : (b : Bool) → RowFits (option_flatten (row_of rows n)) → RowFits (option_flatten (cond b (Some row.1) (row_of rows n)))
      by true later = each.0
      by false later = later

  moves_fit : EachRow (λ _ o. RowFits o) (zcmp_moves half)
  moves_fit = (by (eqb (field half 7 3) (field half 2 3)) refl, (tt, tt))
    where
      by : (b : Bool) → eqb (field half 7 3) (field half 2 3) ≡ b → RowFits (cond b None (Some CmMvsa01))
      by true is = tt
      by false is = eqb-false (field half 7 3) (field half 2 3) is

  lists_fit : RowFits (cond (ltb (list_of half) 4) None (row_of zcmp_lists (field half 8 5)))
  lists_fit = by (ltb (list_of half) 4) refl
    where
      by : (b : Bool) → ltb (list_of half) 4 ≡ b → RowFits (cond b None (row_of zcmp_lists (field half 8 5)))
      by true is = tt
      by false is =
          let more : 4 ≤ list_of half = ltb-false (list_of half) 4 is in
          row_fits zcmp_lists (field half 8 5) (more, (more, (more, (more, tt))))

  zcmp_fit : EachRow (λ _ o. RowFits o) (zcmp_rows half)
  zcmp_fit = (
    either_fits (ltb (index_of half) 32) CmJt CmJalt tt tt,
    (flat_fits (zcmp_moves half) (field half 5 2) moves_fit, (lists_fit, (lists_fit, tt))),
  )

  operations_fit : EachRow (λ _ o. RowFits o) (operations half)
  operations_fit = (
    rows_fit (eqb (field half 12 1) 1) None (Some CSrli) tt tt,
    (
      rows_fit (eqb (field half 12 1) 1) None (Some CSrai) tt tt,
      (
        tt,
        (flat_fits (register_rows half) (field half 12 1 * 4 + field half 5 2) (tt, (tt, (tt, (tt, (tt, (row_fits zcb_unary (field half 2 3) (tt, (tt, tt)), tt)))))), tt),
      ),
    ),
  )

  jumps_fit : RowFits (jump_row half)
  jumps_fit =
      rows_fit (eqb (c_rs2_of half) 0)
      (cond (eqb (field half 12 1) 0) (unless (eqb (rd_of half) 0) CJr) (cond (eqb (rd_of half) 0) (Some CEbreak) (Some CJalr)))
      (cond (eqb (field half 12 1) 0) (Some CMv) (Some CAdd))
      (rows_fit (eqb (field half 12 1) 0) (unless (eqb (rd_of half) 0) CJr) (cond (eqb (rd_of half) 0) (Some CEbreak) (Some CJalr))
      (rows_fit (eqb (rd_of half) 0) None (Some CJr) tt tt) (rows_fit (eqb (rd_of half) 0) (Some CEbreak) (Some CJalr) tt tt))
      (rows_fit (eqb (field half 12 1) 0) (Some CMv) (Some CAdd) tt tt)

  form_fits : RowFits (form_of half)
  unfolding form_of
  form_fits =
      flat_fits (groups half) (fields.group_of half) (
        rows_fit (eqb (fields.addi4spn_of half) 0) None (Some CAddi4spn) tt tt,
        (
          tt,
          (
            tt,
            (
              row_fits zcb_memory (field half 10 3 * 2 + field half 6 1) (tt, (tt, (tt, (tt, (tt, (tt, (tt, tt))))))),
              (
                either_fits (eqb (rd_of half) 0) CNop CAddi tt tt,
                (
                  tt,
                  (
                    tt,
                    (
                      rows_fit (eqb (fields.lui_of half) 0) None (Some (cond (eqb (rd_of half) 2) CAddi16sp CLui)) tt (either_fits (eqb (rd_of half) 2) CAddi16sp CLui tt tt),
                      (
                        flat_fits (operations half) (field half 10 2) operations_fit,
                        (
                          tt,
                          (
                            tt,
                            (
                              tt,
                              (
                                rows_fit (eqb (field half 12 1) 1) None (Some CSlli) tt tt,
                                (
                                  rows_fit (eqb (rd_of half) 0) None (Some CLwsp) tt tt,
                                  (
                                    jumps_fit,
                                    (flat_fits (zcmp_rows half) (field half 10 3) zcmp_fit, (tt, tt)),
                                  ),
                                ),
                              ),
                            ),
                          ),
                        ),
                      ),
                    ),
                  ),
                ),
              ),
            ),
          ),
        ),
      )

-- ---- the operands

module _ (half : ℕ) where
  frame_size : 4 ≤ list_of half → IsFrameSize (list_of half) (fields.adjust_of half)
  frame_size more = record { from = more; to = omega arith; blocks = field half 2 2; few = omega arith; is = refl }

  moved : (n : ℕ) → n < 8 → IsMoved (s_register_of n)
  moved n small = by (ltb n 2) refl
    where
      by : (b : Bool) → ltb n 2 ≡ b → IsMoved (cond b (8 + n) (16 + n))
      by true is = inl (omega arith, omega (arith, ltb-true n 2 is))
      by false is = inr (omega (arith, ltb-false n 2 is), omega (arith, small))

  apart : (m n : ℕ) → m < 8 → n < 8 → m ≢ n → s_register_of n ≢ s_register_of m
  apart m n low_m low_n other = by (ltb n 2) refl (ltb m 2) refl
    where
      by : (b : Bool) → ltb n 2 ≡ b → (c : Bool) → ltb m 2 ≡ c → cond b (8 + n) (16 + n) ≢ cond c (8 + m) (16 + m)
      by true is true at h = other (omega (arith, h))
      by true is false at h = omega (arith, h, ltb-true n 2 is, low_m)
      by false is true at h = omega (arith, h, ltb-true m 2 at)
      by false is false at h = other (omega (arith, h))

  first_moved : IsMoved (s_register_of (field half 7 3))
  first_moved = moved (field half 7 3) (omega arith)

  second_moved : IsMoved (s_register_of (field half 2 3))
  second_moved = moved (field half 2 3) (omega arith)

  form_operands : (f : Form) → Fits half f → HasOperands (spelled f half)
  form_operands CAddi4spn fits = tt
  form_operands CLw fits = tt
  form_operands CSw fits = tt
  form_operands CLbu fits = tt
  form_operands CLhu fits = tt
  form_operands CLh fits = tt
  form_operands CSb fits = tt
  form_operands CSh fits = tt
  form_operands CNop fits = tt
  form_operands CAddi fits = tt
  form_operands CJal fits = tt
  form_operands CLi fits = tt
  form_operands CAddi16sp fits = tt
  form_operands CLui fits = tt
  form_operands CSrli fits = tt
  form_operands CSrai fits = tt
  form_operands CAndi fits = tt
  form_operands CSub fits = tt
  form_operands CXor fits = tt
  form_operands COr fits = tt
  form_operands CAnd fits = tt
  form_operands CMul fits = tt
  form_operands CZextB fits = tt
  form_operands CNot fits = tt
  form_operands CJ fits = tt
  form_operands CBeqz fits = tt
  form_operands CBnez fits = tt
  form_operands CSlli fits = tt
  form_operands CLwsp fits = tt
  form_operands CJr fits = tt
  form_operands CMv fits = tt
  form_operands CEbreak fits = tt
  form_operands CJalr fits = tt
  form_operands CAdd fits = tt
  form_operands CSwsp fits = tt
  form_operands CmPush more = frame_size more
  form_operands CmPop more = frame_size more
  form_operands CmPopretz more = frame_size more
  form_operands CmPopret more = frame_size more
  form_operands CmMvsa01 other = (first_moved, second_moved, apart (field half 7 3) (field half 2 3) (omega arith) (omega arith) other)
  form_operands CmMva01s fits = (first_moved, second_moved)
  form_operands CmJt fits = tt
  form_operands CmJalt fits = tt

-- what a halfword spells has such operands
pub spelled_operands : (half : ℕ) (short : Short) → decoded16 half ≡ Some short → HasOperands short
unfolding decoded16
spelled_operands half short spells = by (form_of half) (form_fits half) spells
  where
    by : (o : Option Form) → RowFits half o → option_map (λ form. spelled form half) o ≡ Some short → HasOperands short
    by None fits h = absurd cc
    by (Some form) fits h = subst HasOperands (same_Some (spelled form half) short h) (form_operands half form fits)

-- ---- what follows of a frame

base_whole : (list : ℕ) → stack_adjust_base list % 16 ≡ 0
base_whole list = by (eqb list 15) (ltb list 8) (ltb list 12)
  where
    by : (a b c : Bool) → cond a 64 (cond b 16 (cond c 32 48)) % 16 ≡ 0
    by true b c = refl
    by false true c = refl
    by false false true = refl
    by false false false = refl

base_least : (list : ℕ) → 16 ≤ stack_adjust_base list
base_least list = by (eqb list 15) (ltb list 8) (ltb list 12)
  where
    by : (a b c : Bool) → 16 ≤ cond a 64 (cond b 16 (cond c 32 48))
    by true b c = omega arith
    by false true c = omega arith
    by false false true = omega arith
    by false false false = omega arith

base_most : (list : ℕ) → stack_adjust_base list ≤ 64
base_most list = by (eqb list 15) (ltb list 8) (ltb list 12)
  where
    by : (a b c : Bool) → cond a 64 (cond b 16 (cond c 32 48)) ≤ 64
    by true b c = omega arith
    by false true c = omega arith
    by false false true = omega arith
    by false false false = omega arith

-- sp moves by 16 to 112 bytes, a multiple of 16
pub record IsFrameRange (adjust : ℕ) : Type 0 where
  pub whole : adjust % 16 ≡ 0
  pub least : 16 ≤ adjust
  pub most : adjust ≤ 112

pub frame_range : (list adjust : ℕ) → IsFrameSize list adjust → IsFrameRange adjust
frame_range list adjust size =
    let whole = base_whole list in
    let least = base_least list in
    let most = base_most list in
    record { whole = omega (arith, whole, size.is); least = omega (arith, least, size.is); most = omega (arith, most, size.is, size.few) }

-- what is so of each number below a limit, one number after another
abbrev AllBelow : (P : ℕ → Type 0) → ℕ → Type 0
AllBelow P zero = Unit {0}
AllBelow P (suc n) = P n × AllBelow P n

each_below : (P : ℕ → Type 0) (n : ℕ) → AllBelow P n → (k : ℕ) → k < n → P k
each_below P zero all k few = absurd (omega (arith, few))
each_below P (suc n) all k few = ⊎_elim
    (λ last. subst P (sym last.1) all.0)
    (λ other. each_below P n all.1 k (let apart = other.1 in omega (arith, few, apart)))
    (eqb_tells k n)

-- the registers of a list end with ra, and the frame has a word for each
pub record IsFrameList (list : ℕ) : Type 0 where
  pub some : 0 < length (registers_of list)
  pub last : get_or (registers_of list) (length (registers_of list) - 1) 0 ≡ 1
  pub room : 4 * length (registers_of list) ≤ stack_adjust_base list

frame_lists : AllBelow (λ k. IsFrameList (4 + k)) 12
frame_lists = (
  record { some = omega arith; last = refl; room = omega arith },
  (
    record { some = omega arith; last = refl; room = omega arith },
    (
      record { some = omega arith; last = refl; room = omega arith },
      (
        record { some = omega arith; last = refl; room = omega arith },
        (
          record { some = omega arith; last = refl; room = omega arith },
          (
            record { some = omega arith; last = refl; room = omega arith },
            (
              record { some = omega arith; last = refl; room = omega arith },
              (
                record { some = omega arith; last = refl; room = omega arith },
                (
                  record { some = omega arith; last = refl; room = omega arith },
                  (
                    record { some = omega arith; last = refl; room = omega arith },
                    (
                      record { some = omega arith; last = refl; room = omega arith },
                      (
                        record { some = omega arith; last = refl; room = omega arith },
                        tt,
                      ),
                    ),
                  ),
                ),
              ),
            ),
          ),
        ),
      ),
    ),
  ),
)

pub frame_list : (list adjust : ℕ) → IsFrameSize list adjust → IsFrameList list
frame_list list adjust size =
    let at : 4 + (list - 4) ≡ list = omega (arith, size.from) in
    subst IsFrameList at (each_below (λ k. IsFrameList (4 + k)) 12 frame_lists (list - 4) (omega (arith, size.to)))

pub frame_room : (list adjust : ℕ) → IsFrameSize list adjust → 4 * length (registers_of list) ≤ adjust
frame_room list adjust size = (let room = (frame_list list adjust size).room in omega (arith, room, size.is))
