-- A halfword of a jump or call through the table is known by its bits 15 to 10 and 1 to 0: the other rows of the tables encode
-- something else, row by row.
use Rattle.std.proofs.Common.{◌≡◌, ℕ, ◌+◌, ◌*◌, ◌/◌, ◌%◌, ◌^◌, ◌<◌, List, [], ◌∷◌, Option, Some, None, Bool, true, false, cond, refl, sym, ap, subst, ◌∙◌, arith, eqb}
use Rattle.std.specs.Prelude.{◌&&◌, nat_lt}
use Rattle.std.specs.Option.{option_flatten, option_map}
use Rattle.std.proofs.lemmas.Bool.{eq-eqb, eqb-true}
use Rattle.rv_decode.specs.Bits.{field}
use Rattle.rv_decode.specs.Decode.{row_of}
use Rattle.rv_decode.specs.Formats.{rd_of}
use Rattle.rv_decode.proofs.RowLaws.{EachRow}
use Rattle.zc_decode.specs.Fields.{addi4spn_of, c_rs2_of, group_of, index_of, list_of, lui_of}
use Rattle.zc_decode.specs.Halfwords.{decoded16, spelled}
use Rattle.zc_decode.specs.Rows.{form_of, groups, jump_row, operations, register_rows, unless, zcb_memory, zcb_unary, zcmp_lists, zcmp_moves, zcmp_rows}
use Rattle.zc_decode.specs.declared.form.Form.{Form}
use Rattle.zc_decode.specs.declared.form.Form.TheVariants.{CAddi, CAddi16sp, CAddi4spn, CAdd, CEbreak, CJalr, CJr, CLui, CLwsp, CMv, CmJalt, CmJt, CmMvsa01, CNop, CSlli, CSrai, CSrli}
use Rattle.shrink_layout.specs.Invariants.Numbers.{is_table_half, is_table_jump}

-- whether these bits are those of such a halfword
abbrev pub has_table_bits : ℕ → Bool
has_table_bits half = eqb (half / 1024) 0b101_000 && eqb (half % 4) 0b10

-- whether a halfword, if it is of this row, is one
abbrev says : ℕ → Option Form → Bool
says half row = is_table_jump (option_map (λ form. spelled form half) row)

-- ---- rows of which none is one

module _ (half : ℕ) where
  unless_no : (b : Bool) (form : Form) → says half (Some form) ≡ false → says half (unless b form) ≡ false
  unless_no true form other = refl
  unless_no false form other = other

  if_no : (b : Bool) (x y : Option Form) → says half x ≡ false → says half y ≡ false → says half (cond b x y) ≡ false
  if_no true x y first second = first
  if_no false x y first second = second

  one_no : (b : Bool) (x y : Form) → says half (Some x) ≡ false → says half (Some y) ≡ false → says half (Some (cond b x y)) ≡ false
  one_no true x y first second = first
  one_no false x y first second = second

  forms_no : (rows : List (ℕ × Form)) (n : ℕ) → EachRow (λ m form. says half (Some form) ≡ false) rows → says half (row_of rows n) ≡ false
  forms_no [] n each = refl
  forms_no (row ∷ rows) n each = if_no (eqb n row.0) (Some row.1) (row_of rows n) each.0 (forms_no rows n each.1)

  -- of the rows but the one with number k
  others_no : (k : ℕ) (rows : List (ℕ × Option Form)) (n : ℕ) → eqb n k ≡ false → EachRow (λ m row. eqb m k ≡ false → says half row ≡ false) rows
      → says half (option_flatten (row_of rows n)) ≡ false
  others_no k [] n other each = refl
  others_no k (row ∷ rows) n other each = either (eqb n row.0) refl (others_no k rows n other each.1)
    where
      either : (b : Bool) → eqb n row.0 ≡ b → says half (option_flatten (row_of rows n)) ≡ false → says half (option_flatten (cond b (Some row.1) (row_of rows n))) ≡ false
      either true here rest = each.0 (subst (λ m. eqb m k ≡ false) (eqb-true n row.0 here) other)
      either false here rest = rest

  rows_no : (rows : List (ℕ × Option Form)) (n : ℕ) → EachRow (λ m row. says half row ≡ false) rows → says half (option_flatten (row_of rows n)) ≡ false
  rows_no [] n each = refl
  rows_no (row ∷ rows) n each = either (eqb n row.0) (rows_no rows n each.1)
    where
      either : (b : Bool) → says half (option_flatten (row_of rows n)) ≡ false → says half (option_flatten (cond b (Some row.1) (row_of rows n))) ≡ false
      either true rest = each.0
      either false rest = rest

  -- ---- the tables

  registers_no : says half (option_flatten (row_of (register_rows half) (field half 12 1 * 4 + field half 5 2))) ≡ false
  registers_no =
      rows_no (register_rows half) (field half 12 1 * 4 + field half 5 2)
      (refl, (refl, (refl, (refl, (refl, (forms_no zcb_unary (field half 2 3) (refl, (refl, tt)), tt))))))

  operations_no : says half (option_flatten (row_of (operations half) (field half 10 2))) ≡ false
  operations_no =
      rows_no (operations half) (field half 10 2)
      (unless_no (eqb (field half 12 1) 1) CSrli refl, (unless_no (eqb (field half 12 1) 1) CSrai refl, (refl, (registers_no, tt))))

  jump_no : says half (jump_row half) ≡ false
  jump_no =
      if_no (eqb (c_rs2_of half) 0) _ _
      (if_no (eqb (field half 12 1) 0) _ _ (unless_no (eqb (rd_of half) 0) CJr refl) (if_no (eqb (rd_of half) 0) (Some CEbreak) (Some CJalr) refl refl))
      (if_no (eqb (field half 12 1) 0) (Some CMv) (Some CAdd) refl refl)

  lists_no : says half (cond (nat_lt (list_of half) 4) None (row_of zcmp_lists (field half 8 5))) ≡ false
  lists_no = if_no (nat_lt (list_of half) 4) None (row_of zcmp_lists (field half 8 5)) refl (forms_no zcmp_lists (field half 8 5) (refl, (refl, (refl, (refl, tt)))))

  moves_no : says half (option_flatten (row_of (zcmp_moves half) (field half 5 2))) ≡ false
  moves_no = rows_no (zcmp_moves half) (field half 5 2) (unless_no (eqb (field half 7 3) (field half 2 3)) CmMvsa01 refl, (refl, tt))

  zcmp_others : eqb (field half 10 3) 0 ≡ false → says half (option_flatten (row_of (zcmp_rows half) (field half 10 3))) ≡ false
  zcmp_others other =
      others_no 0 (zcmp_rows half) (field half 10 3) other ((λ same. absurd cc), ((λ _. moves_no), ((λ _. lists_no), ((λ _. lists_no), tt))))

  zcb_no : says half (row_of zcb_memory (field half 10 3 * 2 + field half 6 1)) ≡ false
  zcb_no = forms_no zcb_memory (field half 10 3 * 2 + field half 6 1) (refl, (refl, (refl, (refl, (refl, (refl, (refl, tt)))))))

  lui_no : says half (unless (eqb (lui_of half) 0) (cond (eqb (rd_of half) 2) CAddi16sp CLui)) ≡ false
  lui_no = if_no (eqb (lui_of half) 0) None (Some (cond (eqb (rd_of half) 2) CAddi16sp CLui)) refl (one_no (eqb (rd_of half) 2) CAddi16sp CLui refl refl)

  -- the groups in the table's order
  group_others : eqb (group_of half) 0b101_10 ≡ false → says half (option_flatten (row_of (groups half) (group_of half))) ≡ false
  group_others other =
      let sp = unless_no (eqb (addi4spn_of half) 0) CAddi4spn refl in
      let addi = one_no (eqb (rd_of half) 0) CNop CAddi refl refl in
      let slli = unless_no (eqb (field half 12 1) 1) CSlli refl in
      let lwsp = unless_no (eqb (rd_of half) 0) CLwsp refl in
      others_no 0b101_10 (groups half) (group_of half) other
      ((λ _. sp), ((λ _. refl), ((λ _. refl), ((λ _. zcb_no), ((λ _. addi), ((λ _. refl), ((λ _. refl), ((λ _. lui_no), ((λ _. operations_no), ((λ _. refl), ((λ _. refl), ((λ _. refl), ((λ _. slli), ((λ _. lwsp), ((λ _. jump_no), ((λ same. absurd cc), ((λ _. refl), tt)))))))))))))))))

  -- ---- the row of jumps and calls

  table_row : (b : Bool) → says half (Some (cond b CmJt CmJalt)) ≡ true
  table_row true = refl
  table_row false = refl

  is_one : group_of half ≡ 0b101_10 → field half 10 3 ≡ 0 → says half (option_flatten (row_of (groups half) (group_of half))) ≡ true
  is_one group row =
      ap (λ g. says half (option_flatten (row_of (groups half) g))) group
      ∙ ap (λ r. says half (option_flatten (row_of (zcmp_rows half) r))) row
      ∙ table_row (nat_lt (index_of half) 32)

  is_other : group_of half ≡ 0b101_10 → eqb (field half 10 3) 0 ≡ false → says half (option_flatten (row_of (groups half) (group_of half))) ≡ false
  is_other group other = ap (λ g. says half (option_flatten (row_of (groups half) g))) group ∙ zcmp_others other

  -- ---- the bits

  no_bits : (a b : Bool) → eqb (half / 1024) 0b101_000 ≡ a → eqb (half % 4) 0b10 ≡ b → ((half / 1024 ≡ 0b101_000) → (half % 4 ≡ 0b10) → true ≡ false) → (a && b) ≡ false
  no_bits true true upper lower not_both = not_both (eqb-true (half / 1024) 0b101_000 upper) (eqb-true (half % 4) 0b10 lower)
  no_bits true false upper lower not_both = refl
  no_bits false b upper lower not_both = refl

  bits_of : half < 2 ^ 16 → (a b : Bool) → eqb (group_of half) 0b101_10 ≡ a → eqb (field half 10 3) 0 ≡ b → says half (option_flatten (row_of (groups half) (group_of half))) ≡ has_table_bits half
  bits_of small true true group row =
      let g : group_of half ≡ 0b101_10 = eqb-true (group_of half) 0b101_10 group in
      let r : field half 10 3 ≡ 0 = eqb-true (field half 10 3) 0 row in
      let upper : half / 1024 ≡ 0b101_000 = omega (arith, small, g, r) in
      let lower : half % 4 ≡ 0b10 = omega (arith, g) in
      is_one g r ∙ sym (λ i. eq-eqb (half / 1024) 0b101_000 upper i && eq-eqb (half % 4) 0b10 lower i)
  bits_of small true false group row =
      is_other (eqb-true (group_of half) 0b101_10 group) row
      ∙ sym (no_bits (eqb (half / 1024) 0b101_000) (eqb (half % 4) 0b10) refl refl
      (λ upper lower. let r : field half 10 3 ≡ 0 = omega (arith, upper) in sym (eq-eqb (field half 10 3) 0 r) ∙ row))
  bits_of small false b group row =
      group_others group
      ∙ sym (no_bits (eqb (half / 1024) 0b101_000) (eqb (half % 4) 0b10) refl refl
      (λ upper lower. let g : group_of half ≡ 0b101_10 = omega (arith, upper, lower) in sym (eq-eqb (group_of half) 0b101_10 g) ∙ group))

pub table_bits : (half : ℕ) → half < 2 ^ 16 → is_table_half half ≡ has_table_bits half
unfolding decoded16 form_of
table_bits half small = bits_of half small (eqb (group_of half) 0b101_10) (eqb (field half 10 3) 0) refl refl
