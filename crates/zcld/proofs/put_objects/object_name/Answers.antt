use Rattle.std.proofs.Common.{rules, append_assoc}
use Rattle.zcld.proofs.put_objects.object_name.Goals as goal

pub returns : goal.returns
returns c = search (rules, append_assoc)
