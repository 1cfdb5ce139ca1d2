use Rattle.std.proofs.Common.{◌≡◌, ◌+◌, ◌-◌, length, arith}
use Rattle.zc_machine.proofs.WriteLaws.{cells_written}
use Rattle.zc_machine.proofs.pages.write_cells.Goals as goal

pub returns : goal.returns
returns c =
    let size : c.args.index + length c.args.bytes.now - c.args.index ≡ length c.args.bytes.now = omega arith in
    rw (size, c.copy_from_slice.ensures.after) (cells_written c.args.index c.args.bytes.now c.args.cells.now c.requires)
