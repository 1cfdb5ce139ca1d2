use Rattle.std.proofs.Common.{◌+◌, ◌≤◌, subst}
use Rattle.zc_base.specs.MemMap.{data_limit}
use Rattle.psabi_sym.specs.Data.{data_end}
use Rattle.psabi_sym.specs.Inputs.{Inputs, inputs_in, parsed}
use Rattle.psabi_sym.proofs.RoomLaws.{data_end-most}
use Rattle.psabi_sym.proofs.objects.Objects.recall_invariant.Goals as goal

pub returns-clause-data : goal.returns-clause-data
returns-clause-data c =
    let here : Inputs = inputs_in c.self.inside.options c.self.inside.objects.items in
    subst (λ (x : Inputs). data_end (parsed x) ≤ x.map.data_low + data_limit x.map) c.self.view_is
    (data_end-most here c.self.invariant.faultless c.self.invariant.is_map)
