-- How large the file of an object is, and which object of a list is too large.
use Rattle.std.specs.Prelude.{ℕ, ◌+◌, Bool, not, ◌&&◌, nat_le, nat_lt, List, length, take, Option}
use Rattle.std.specs.List.{enumerate_from, find, range_with_len, sum_by}
use Rattle.std.specs.Option.{option_map, option_or}
use Rattle.elf32_read.specs.Parts.{ObjectParts}
use Rattle.elf32_write.specs.ObjectFile.{object_size, section_total}

-- an object's file has at most 4,096 sections and 4 MiB
abbrev pub is_small_object : ObjectParts → Bool
is_small_object parts = nat_le (section_total parts) 4096 && nat_le (object_size parts) 0x40_0000

-- the first object whose file is too large by itself
abbrev pub first_large : List ObjectParts → Option ℕ
first_large objects = option_map (λ e. e.0) (find (λ e. not (is_small_object e.1)) (enumerate_from 0 objects))

-- up to the object with this index, the files have more than 32 MiB
abbrev pub passes_sum : List ObjectParts → ℕ → Bool
passes_sum objects i = nat_lt 0x200_0000 (sum_by object_size (take (i + 1) objects))

-- the first object whose file is too large by itself; or else the first with which the files have more than 32 MiB
abbrev pub first_oversized : List ObjectParts → Option ℕ
first_oversized objects =
    option_or (first_large objects) (find (passes_sum objects) (range_with_len 0 (length objects)))
