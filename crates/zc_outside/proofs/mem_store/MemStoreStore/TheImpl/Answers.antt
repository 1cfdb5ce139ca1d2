-- A write that wasn't refused puts the file as the trait's contract says.
use Rattle.std.proofs.Common.{arith}
use Rattle.zc_outside.proofs.MemFiles.{with_file-PutsFile}
use Rattle.zc_outside.proofs.mem_store.MemStoreStore.TheImpl.Goals as goal

pub put-tells : goal.put-tells
put-tells c = grind (arith, with_file-PutsFile c.args.self.now.files c.args.name.now c.args.bytes.now)
