use Rattle.std.proofs.Common.{ap, sym, ◌∙◌}
use Rattle.devices.specs.Lines.{names_registers}
use Rattle.devices.proofs.RangeLaws.{registers_named}
use Rattle.devices.proofs.device_list.Devices.has_registers.Goals as goal

pub returns : goal.returns
returns c = c.self.invariant.6 ∙ ap names_registers c.self.view_is ∙ sym (registers_named c.args.self.now)
