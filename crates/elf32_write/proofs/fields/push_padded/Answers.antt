use Rattle.elf32_write.proofs.Appends.{padded_appended}
use Rattle.elf32_write.proofs.fields.push_padded.Goals as goal

pub returns : goal.returns
returns c =
    padded_appended c.extend_from_slice-2.result c.args.out.now.items c.args.bytes.now _ _ c.pad.result c.pad.ensures c.in_ok-extend_from_slice.ensures.items c.extend_from_slice-2.ensures.items
