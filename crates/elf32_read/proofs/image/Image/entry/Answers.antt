use Rattle.std.proofs.Common.{arith}
use Rattle.elf32_read.proofs.FaultlessImage.{faultless_whole_image}
use Rattle.elf32_read.proofs.image.Image.entry.Goals as goal

pub entry_address-requires : goal.entry_address-requires
entry_address-requires c = let whole = faultless_whole_image _ _ c.self.invariant.faultless in omega (arith, whole.long)
