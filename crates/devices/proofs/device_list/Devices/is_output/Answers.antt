use Rattle.std.proofs.Common.{ap, eqb, ◌∙◌}
use Rattle.std.specs.List.{list_any}
use Rattle.devices.specs.Lines.{outputs_of}
use Rattle.devices.proofs.device_list.Devices.is_output.Goals as goal

pub returns : goal.returns
returns c = c.contains.ensures ∙ c.self.invariant.1 c.args.at ∙ ap (λ ls. list_any (λ x. eqb x c.args.at) (outputs_of ls)) c.self.view_is
