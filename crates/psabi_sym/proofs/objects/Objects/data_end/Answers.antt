use Rattle.std.proofs.Common.{arith, ap}
use Rattle.psabi_sym.specs.Inputs.{Inputs, inputs_in}
use Rattle.psabi_sym.proofs.RoomLaws.{data_end-most}
use Rattle.psabi_sym.proofs.objects.Objects.data_end.Goals as goal

pub returns-clause-most : goal.returns-clause-most
returns-clause-most c =
    let here : Inputs = inputs_in c.self.inside.options c.self.inside.objects.items in
    omega (
      arith,
      c.self.invariant.defined.end_is,
      data_end-most here c.self.invariant.faultless c.self.invariant.is_map,
      ap (λ i. i.map.data_low) c.self.view_is,
      ap (λ i. i.map.stack_low) c.self.view_is,
    )
