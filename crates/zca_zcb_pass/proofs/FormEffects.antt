-- The halfword that is found for an instruction has the same effect, since both have the same normal form.
use Rattle.std.proofs.Common.{ℕ, Option, Some, None, ap, ◌∙◌}
use Rattle.rv_decode.specs.declared.instr.Instr.{Instr}
use Rattle.rv_decode.specs.Normal.{normal_of}
use Rattle.rv_decode.proofs.NormalLaws.{same_effect}
use Rattle.zc_decode.specs.Halfwords.{spelled}
use Rattle.zc_decode.specs.declared.short.Short.TheVariants.{Base}
use Rattle.zc_decode.proofs.FormLaws.{decoded_by_form}
use Rattle.zc_encode.specs.Encoding.{IsEncoding}
use Rattle.zc_encode.proofs.RowFits.{normal-base}
use Rattle.zca_zcb_pass.specs.Forms.{ShortForm}

pub short_form : (i : Instr) (o : Option ℕ) → IsEncoding (Base i) o → ShortForm i o
short_form i None none = none
short_form i (Some half) first =
    let s = first.spells in
    let b = normal-base (spelled first.form half) (normal_of i) s.same in
    (first, (b.0, decoded_by_form half first.form s.row ∙ ap Some b.1, same_effect b.0 i b.2))
