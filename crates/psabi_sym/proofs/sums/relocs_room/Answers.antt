use Rattle.std.proofs.Common.{arith}
use Rattle.psabi_sym.specs.Faults.{reloc_room}
use Rattle.psabi_sym.proofs.SumLaws.{sum_next}
use Rattle.psabi_sym.proofs.sums.relocs_room.Goals as goal

pub loop-k-preserved : goal.loop-k-preserved
loop-k-preserved c =
    let more = sum_next reloc_room c.args.relocs.now c.loop-k.k c.get.result c.get.ensures in
    (omega (arith, more, c.loop-k.invariant.0, c.reloc_room.ensures.value, c.from-room.ensures), omega (arith, c.loop-k.invariant.1, c.reloc_room.ensures.most, c.from-room.ensures))
