-- The fields of a section's relocations, as they are kept for looking up which overlap.
use Rattle.std.specs.Prelude.{◌≡◌, ◌≤◌, ◌<◌, ℕ, Bool, false, nat_lt, Contains, IfSome, List, None, filter, map}
use Rattle.std.specs.List.Sorted.{IsNonDecreasing, IsPermutation}
use Rattle.elf32_read.specs.declared.reloc.Reloc.{Reloc}
use Rattle.psabi_reloc.specs.Kinds.{kind_of}
use Rattle.block_cut.specs.Relocs.{field_end, field_of, overlaps_another, is_pcrel_hi}
use Rattle.block_cut.specs.declared.fields.FieldEnds.{FieldEnds}
use Rattle.block_cut.specs.declared.fields.Fields.{Fields}

-- a relocation changes something
abbrev pub has_field : Reloc → Bool
has_field r = nat_lt 0 (field_of r)

-- a relocation is the upper part of a PC-relative pair
abbrev pub is_upper : Reloc → Bool
is_upper r = is_pcrel_hi (kind_of r.kind)

-- where fields begin, where they end, and where upper parts stand, in the order of the relocations
abbrev pub starts_of : List Reloc → List ℕ
starts_of relocs = map (λ r. r.offset) (filter has_field relocs)

abbrev pub ends_of : List Reloc → List ℕ
ends_of relocs = map field_end (filter has_field relocs)

abbrev pub uppers_of : List Reloc → List ℕ
uppers_of relocs = map (λ r. r.offset) (filter is_upper relocs)

-- no two of the relocations change one byte, and none changes a byte from an offset on
pub record AreFieldsApart (n : ℕ) (relocs : List Reloc) : Type 0 where
  pub alone : (r : Reloc) → Contains relocs r → overlaps_another relocs r ≡ false
  pub before : (r : Reloc) → Contains relocs r → 0 < field_of r → field_end r ≤ n

-- the fields as they come, but where they begin and end
pub record HoldsFields (relocs : List Reloc) (fields : Fields) : Type 0 where
  pub uppers : fields.uppers.items ≡ uppers_of relocs
  pub apart : IfSome fields.end (λ n. AreFieldsApart n relocs)
  pub rise : IfSome fields.end (λ n. IsNonDecreasing fields.uppers.items)

-- where they begin and end, as they come
pub record HoldsEnds (relocs : List Reloc) (fields : FieldEnds) : Type 0 where
  pub starts : fields.starts.items ≡ starts_of relocs
  pub ends : fields.ends.items ≡ ends_of relocs

-- `sorted` has the numbers of `numbers`, in ascending order
pub record IsSortedOf (numbers sorted : List ℕ) : Type 0 where
  pub same : IsPermutation numbers sorted
  pub rise : IsNonDecreasing sorted

-- where fields begin and end, in ascending order
pub record AreEnds (relocs : List Reloc) (fields : FieldEnds) : Type 0 where
  pub starts : IsSortedOf (starts_of relocs) fields.starts.items
  pub ends : IsSortedOf (ends_of relocs) fields.ends.items

-- the fields in ascending order; where they begin and end is kept unless no two overlap
pub record AreFields (relocs : List Reloc) (fields : Fields) : Type 0 where
  pub uppers : IsSortedOf (uppers_of relocs) fields.uppers.items
  pub apart : IfSome fields.end (λ n. AreFieldsApart n relocs)
  pub ends : fields.end ≡ None → AreEnds relocs fields.unordered
