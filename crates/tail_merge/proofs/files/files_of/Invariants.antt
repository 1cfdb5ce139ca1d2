use Rattle.std.proofs.Common.{◌≡◌, map, take}
use Rattle.std.specs.List.{AllZip}
use Rattle.elf32_write.specs.ObjectFile.{object_bytes}
use Rattle.elf32_write.specs.Writable.{IsObjectOf}
use Rattle.psabi_sym.specs.Inputs.{parsed}
use Rattle.psabi_sym.specs.Objects.{contents_of}
use Rattle.object_passes.specs.Written.{without_marks}
use Rattle.tail_merge.specs.Merged.{merged}
use Rattle.tail_merge.proofs.files.files_of.Given as goal

abbrev pub invariant-loop-o : goal.invariant-loop-o
invariant-loop-o l =
    let all = merged (parsed l.cut) in
    record {
      bytes : contents_of l.files.items ≡ map object_bytes (take l.o all);
      read_back : AllZip IsObjectOf (map without_marks (take l.o all)) (contents_of l.files.items);
    }
