-- Each halfword of the tables that is no hint is found again by what it spells, or one of an earlier row is.
use Rattle.std.proofs.Common.{ℕ, Option, Some, None, Bool, false, refl, eqb, ltb}
use Rattle.std.specs.Prelude.{◌||◌}
use Rattle.zc_decode.specs.Halfwords.{spelled}
use Rattle.zc_decode.specs.Hints.{is_hint, row_number}
use Rattle.zc_decode.specs.Rows.{form_of}
use Rattle.zc_decode.specs.declared.form.Form.{Form}
use Rattle.zc_decode.specs.declared.short.Short.{Short}
use Rattle.zc_decode.specs.declared.short.Short.TheVariants.{Base}
use Rattle.zc_decode.proofs.EachHalfword.{AllPass, half_at, page, tried, yes}
use Rattle.zc_encode.specs.Encoding.{normal_short}
use Rattle.zc_encode.specs.Halves.{encoded16, half_for}

-- whether a halfword is of an earlier row
abbrev pub is_earlier : Form → Option Form → Bool
is_earlier form None = false
is_earlier form (Some other) = ltb (row_number other) (row_number form)

-- whether a halfword, or one of an earlier row, was found
abbrev pub is_found : Form → ℕ → Option ℕ → Bool
is_found form half None = false
is_found form half (Some k) = eqb k half || is_earlier form (form_of k)

-- the halfword of what is in normal form
abbrev pub half_of_normal : Short → Option ℕ
half_of_normal (Base i) = half_for i
half_of_normal other = encoded16 other

-- whether a halfword of a row is a hint, or is found again
abbrev pub is_found_again : Form → ℕ → Bool
is_found_again form half = is_hint form half || is_found form half (half_of_normal (normal_short (spelled form half)))

pub all_found_again : AllPass is_found_again
unfolding form_of tried half_at page yes
all_found_again =
    (refl, (refl, (refl, (refl, (refl, (refl, (refl, (refl, (refl, (refl, (refl, (refl, (refl, (refl, (refl, (refl, (refl, tt)))))))))))))))))
