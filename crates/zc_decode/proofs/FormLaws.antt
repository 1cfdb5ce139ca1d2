-- The row of a halfword, by its bits, and what it then spells.
use Rattle.std.proofs.Common.{◌≡◌, ℕ, ◌+◌, ◌*◌, Option, Some, refl, ap, ◌∙◌}
use Rattle.std.specs.Option.{option_flatten, option_map}
use Rattle.rv_decode.specs.Bits.{field}
use Rattle.rv_decode.specs.Decode.{row_of}
use Rattle.zc_decode.specs.Fields.{group_of}
use Rattle.zc_decode.specs.Halfwords.{decoded16, spelled}
use Rattle.zc_decode.specs.Rows.{form_of, groups, operations, register_rows, zcmp_rows}
use Rattle.zc_decode.specs.declared.form.Form.{Form}

-- a halfword of a group
pub form_in_group : (half n : ℕ) (row : Option Form) → group_of half ≡ n → row_of (groups half) n ≡ Some row → form_of half ≡ row
unfolding form_of
form_in_group half n row is found = ap (λ g. option_flatten (row_of (groups half) g)) is ∙ ap option_flatten found

-- an operation of quadrant 1
pub form_in_operations : (half n : ℕ) (row : Option Form) → group_of half ≡ 0b100_01 → field half 10 2 ≡ n → row_of (operations half) n ≡ Some row → form_of half ≡ row
form_in_operations half n row group is found =
    form_in_group half 0b100_01 _ group refl
    ∙ ap (λ k. option_flatten (row_of (operations half) k)) is
    ∙ ap option_flatten found

-- an operation on registers
pub form_in_registers : (half n : ℕ) (row : Option Form) → group_of half ≡ 0b100_01 → field half 10 2 ≡ 0b11 → field half 12 1 * 4 + field half 5 2 ≡ n → row_of (register_rows half) n ≡ Some row → form_of half ≡ row
form_in_registers half n row group operation is found =
    form_in_operations half 0b11 _ group operation refl
    ∙ ap (λ k. option_flatten (row_of (register_rows half) k)) is
    ∙ ap option_flatten found

-- a push, pop, move or table jump
pub form_in_zcmp : (half n : ℕ) (row : Option Form) → group_of half ≡ 0b101_10 → field half 10 3 ≡ n → row_of (zcmp_rows half) n ≡ Some row → form_of half ≡ row
form_in_zcmp half n row group is found =
    form_in_group half 0b101_10 _ group refl
    ∙ ap (λ k. option_flatten (row_of (zcmp_rows half) k)) is
    ∙ ap option_flatten found

-- a halfword spells what those of its row do
pub decoded_by_form : (half : ℕ) (form : Form) → form_of half ≡ Some form → decoded16 half ≡ Some (spelled form half)
unfolding decoded16
decoded_by_form half form row = ap (option_map (λ f. spelled f half)) row
