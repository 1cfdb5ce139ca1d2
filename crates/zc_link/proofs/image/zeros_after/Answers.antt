-- The bytes of data begin where the map has them, and the zeros begin where they end.
use Rattle.std.proofs.Common.{◌≡◌, ◌≤◌, ◌+◌, length, ap, arith}
use Rattle.psabi_sym.specs.Data.{data_file_end}
use Rattle.psabi_sym.specs.Inputs.{parsed}
use Rattle.psabi_sym.proofs.ContentLaws.{data_file_end-le, data_low-le}
use Rattle.zc_link.proofs.image.zeros_after.Goals as goal
use Rattle.zc_link.proofs.image.zeros_after.Goals.{After-map}

ends : (c : After-map) → c.map.result.data_low + length c.args.bytes.now ≡ data_file_end (parsed c.args.objects.now)
ends c =
    let inputs = parsed c.args.objects.now in
    omega (arith, ap (λ m. m.data_low) c.map.ensures.value, c.requires, data_low-le inputs)

-- all of it ends where data does, or before
fits : (c : After-map) → c.map.result.data_low + length c.args.bytes.now ≤ c.data_end.result
fits c = omega (arith, ends c, data_file_end-le (parsed c.args.objects.now), c.data_end.ensures.value)

pub overflow_cast-result : goal.overflow_cast-result
overflow_cast-result c = omega (arith, fits (goal.at.overflow_cast-result c).After-map, c.data_end.type_inv)

pub overflow_add-result : goal.overflow_add-result
overflow_add-result c = omega (arith, fits (goal.at.overflow_add-result c).After-map, c.data_end.type_inv)

pub overflow_sub-result : goal.overflow_sub-result
overflow_sub-result c = fits (goal.at.overflow_sub-result c).After-map

pub returns-clause-value : goal.returns-clause-value
returns-clause-value c = omega (arith, ends (goal.at.returns-clause-value c).After-map, c.data_end.ensures.value)
