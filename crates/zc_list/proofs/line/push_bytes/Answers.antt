use Rattle.zc_list.proofs.TextLaws.{bytes_added}
use Rattle.zc_list.proofs.line.push_bytes.Goals as goal

pub returns : goal.returns
returns c = bytes_added c.args.bytes.now c.args.text.now.items c.loop-byte.text.items c.loop-byte.byte-index c.loop-byte-test.false c.loop-byte.invariant
