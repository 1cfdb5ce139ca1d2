-- The objects before the one at hand were read, and kept as far as they are needed.
use Rattle.std.proofs.Common.{◌≡◌, ℕ, List, length, map, ltb, take}
use Rattle.std.specs.String.{string_bytes}
use Rattle.zc_outside.specs.Wanted.{AreRead, ReadsAll, each_within}
use Rattle.zcld.specs.Reading.{Keeps}
use Rattle.zcld.specs.declared.limits.TheConstants.{OBJECT_LIMIT}
use Rattle.zcld.proofs.objects.read_all.Given as goal

abbrev pub invariant-loop-i : goal.invariant-loop-i
invariant-loop-i g l =
    let before = g.S.Store.shown l.initial.store in
    let wanted = each_within OBJECT_LIMIT (map string_bytes (take l.i l.names)) in
    record {
      read : (read : List (List ℕ)) × AreRead before.files wanted read × Keeps read l.reading × (length read ≡ l.i);
      reads : ReadsAll wanted before (g.S.Store.shown l.store);
      many : l.reading.are_many ≡ ltb 256 (length l.names);
    }
