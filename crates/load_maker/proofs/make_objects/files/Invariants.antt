use Rattle.std.proofs.Common.{◌≡◌, ◌∷◌, map}
use Rattle.std.specs.List.{range_with_len}
use Rattle.elf32_write.specs.ObjectFile.{object_bytes}
use Rattle.psabi_sym.specs.Objects.{contents_of}
use Rattle.load_maker.specs.Objects.{start_object}
use Rattle.load_maker.proofs.FileLaws.{group_file}
use Rattle.load_maker.proofs.make_objects.files.Given as goal

abbrev pub invariant-loop-k : goal.invariant-loop-k
invariant-loop-k l = contents_of l.files.items ≡ object_bytes (start_object l.number l.functions) ∷ map (group_file l.number l.functions) (range_with_len 0 l.k)
