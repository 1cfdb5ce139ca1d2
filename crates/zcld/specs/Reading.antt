-- Objects that are read one after another, of which no more are kept once it is known that they are refused.
use Rattle.std.specs.Prelude.{◌≡◌, ℕ, ◌<◌, ◌⊎◌, false, true, List, [], ◌++◌, length, nat_lt, Option}
use Rattle.std.specs.List.{sum_by}
use Rattle.psabi_sym.specs.Faults.{fault_from}
use Rattle.psabi_sym.specs.Objects.{contents_of}
use Rattle.zc_outside.specs.Files.{Files}
use Rattle.zc_outside.specs.Wanted.{AreRead}
use Rattle.zcld.specs.Objects.{objects_wanted}
use Rattle.zcld.specs.declared.objects.Reading.{Reading}

-- of the objects that were read the first are kept: all of them, unless there are too many or the kept ones have too many bytes;
-- then the first fault of reading one of the others is known, if there aren't too many
pub record Keeps (read : List (List ℕ)) (reading : Reading) : Type 0 where
  pub others : List (List ℕ)
  pub read_are : read ≡ contents_of reading.files.items ++ others
  pub bytes_are : reading.bytes ≡ sum_by length (contents_of reading.files.items)
  pub all : (others ≡ []) ⊎ ((reading.are_many ≡ true) ⊎ (0x200_0000 < reading.bytes))
  pub later_is : reading.are_many ≡ false → reading.later ≡ fault_from (length (contents_of reading.files.items)) others

-- this is what is kept of all these objects
pub record KeepsAll (read : List (List ℕ)) (reading : Reading) : Type 0 where
  pub keeps : Keeps read reading
  pub many : reading.are_many ≡ nat_lt 256 (length read)

-- the files under these names were read, and this is what is kept of them
pub record AreKept (names : List (List ℕ)) (reading : Reading) (store : Option Files) : Type 0 where
  pub files : List (List ℕ)
  pub read : AreRead store (objects_wanted names) files
  pub kept : KeepsAll files reading
