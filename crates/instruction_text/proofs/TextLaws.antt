-- The text of a halfword, by its row and by what it spells.
use Rattle.std.proofs.Common.{◌≡◌, ℕ, ◌∷◌, [], Option, Some, None, refl, sym, ap, ◌∙◌}
use Rattle.std.specs.Prelude.{codes}
use Rattle.std.specs.List.{join_with_byte}
use Rattle.std.proofs.lemmas.Option.{none-some, same_Some}
use Rattle.zc_decode.specs.Halfwords.{decoded16, spelled}
use Rattle.zc_decode.specs.Rows.{form_of}
use Rattle.zc_decode.specs.declared.form.Form.{Form}
use Rattle.zc_decode.specs.declared.short.Short.{Short}
use Rattle.zc_decode.proofs.FormLaws.{decoded_by_form}
use Rattle.instruction_text.specs.Names.{form_name}
use Rattle.instruction_text.specs.Operands.{operands_of_short}
use Rattle.instruction_text.specs.Texts.{form_text, half_text, hex_half, named_text}

pub half_named : (half : ℕ) (form : Form) (short : Short) → form_of half ≡ Some form → decoded16 half ≡ Some short → half_text half ≡ named_text (form_name form) (operands_of_short short)
unfolding half_text
half_named half form short row spells =
    ap (form_text half) row
    ∙ ap (λ s. named_text (form_name form) (operands_of_short s)) (same_Some (spelled form half) short (sym (decoded_by_form half form row) ∙ spells))

pub half_unnamed : (half : ℕ) → form_of half ≡ None → half_text half ≡ join_with_byte 32 (codes ".half" ∷ hex_half half ∷ [])
unfolding half_text
half_unnamed half none = ap (form_text half) none

-- a halfword without a meaning has no row
pub half_unspelled : (half : ℕ) → decoded16 half ≡ None → half_text half ≡ join_with_byte 32 (codes ".half" ∷ hex_half half ∷ [])
half_unspelled half none = half_unnamed half (either (form_of half) refl)
  where
    either : (o : Option Form) → form_of half ≡ o → o ≡ None
    either None row = refl
    either (Some form) row = absurd (none-some (spelled form half) (sym none ∙ decoded_by_form half form row))
