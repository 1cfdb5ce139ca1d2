-- Places in the code of the objects: which are the same, and their order.
use Rattle.std.specs.Prelude.{Bool, ◌&&◌, ◌||◌, ◌==◌, nat_lt}
use Rattle.zc_base.specs.declared.place.Place.{Place}

-- two places have the same object, section and offset
abbrev pub same_place : Place → Place → Bool
same_place p q = p.object == q.object && (p.section == q.section && p.offset == q.offset)

-- one place comes before another: by object, then section, then offset
abbrev pub is_before : Place → Place → Bool
is_before first second =
    nat_lt first.object second.object
    || (first.object == second.object && (nat_lt first.section second.section || (first.section == second.section && nat_lt first.offset second.offset)))
