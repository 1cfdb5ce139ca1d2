use Rattle.std.proofs.Common.{arith, sym, ◌∙◌}
use Rattle.zc_decode.specs.declared.form.Form.TheVariants.{CAddi4spn}
use Rattle.instruction_text.specs.Names.{form_name}
use Rattle.instruction_text.proofs.NameLaws.{named_here, named_later}
use Rattle.instruction_text.proofs.names.first_form.Goals as goal

pub returns-then-eq : goal.returns-then-eq
returns-then-eq c =
    sym (c.loop-form.invariant ∙ named_here form_name c.args.forms.now c.loop-form.form-index _ c.args.name.now (omega arith) cc)

pub loop-form-preserved : goal.loop-form-preserved
loop-form-preserved c =
    c.loop-form.invariant
    ∙ named_later form_name c.args.forms.now c.loop-form.form-index CAddi4spn c.args.name.now (omega arith) cc
