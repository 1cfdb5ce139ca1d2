use Rattle.std.proofs.Common.{◌≡◌, drop}
use Rattle.instruction_text.specs.Names.{first_named, form_name}
use Rattle.instruction_text.proofs.names.first_form.Given as goal

abbrev pub invariant-loop-form : goal.invariant-loop-form
invariant-loop-form l = first_named form_name l.forms l.name ≡ first_named form_name (drop l.form-index l.forms) l.name
