-- Code that is made of fragments, one after another: each is some bytes with a relocation at their start, or a word without one.
use Rattle.std.specs.Prelude.{◌≡◌, ◌≤◌, ◌+◌, ◌%◌, ℕ, ℤ, true, false, List, [], ◌∷◌, ◌++◌, length, filter, All, Option, Some, None}
use Rattle.std.specs.List.{flat_map, sum_by}
use Rattle.zc_base.specs.Fields.{word_bytes}
use Rattle.elf32_read.specs.Parts.{SectionParts, is_code_section}
use Rattle.elf32_read.specs.declared.reloc.Reloc.{Reloc}
use Rattle.psabi_reloc.specs.Kinds.{field_length, kind_of}
use Rattle.block_cut.specs.Relocs.{fits_at, is_bad_kind, is_ignored}
use Rattle.block_cut.specs.Resolved.{asks}

-- ---- fragments

-- the relocation at a fragment's start: its type, symbol and addend
pub record FragmentReloc : Type 0 where
  pub kind : ℕ
  pub symbol : ℕ
  pub addend : ℤ

-- a fragment of code
pub record Fragment : Type 0 where
  pub bytes : List ℕ
  pub reloc : Option FragmentReloc

-- a word
abbrev pub word_fragment : ℕ → Fragment
word_fragment word = record { bytes = word_bytes word; reloc = None }

-- a word under a relocation, and two words
abbrev pub word_under : FragmentReloc → ℕ → Fragment
word_under r word = record { bytes = word_bytes word; reloc = Some r }

abbrev pub pair_under : FragmentReloc → ℕ → ℕ → Fragment
pair_under r first second = record { bytes = word_bytes first ++ word_bytes second; reloc = Some r }

-- ---- lists of them

-- the number of bytes of a fragment, and of fragments together
abbrev pub fragment_size : Fragment → ℕ
fragment_size p = length p.bytes

abbrev pub fragments_size : List Fragment → ℕ
fragments_size fragments = sum_by fragment_size fragments

-- the bytes of fragments, one after another
abbrev pub fragments_bytes : List Fragment → List ℕ
fragments_bytes fragments = flat_map (λ p. p.bytes) fragments

-- the relocation of a fragment that stands at an offset
abbrev pub fragment_reloc_at : ℕ → FragmentReloc → Reloc
fragment_reloc_at at r = record { offset = at; symbol = r.symbol; kind = r.kind; addend = r.addend }

-- the relocations of a fragment, and of fragments from an offset on
abbrev pub relocs_at : ℕ → Option FragmentReloc → List Reloc
relocs_at at None = []
relocs_at at (Some r) = fragment_reloc_at at r ∷ []

abbrev pub relocs_from : ℕ → List Fragment → List Reloc
relocs_from at [] = []
relocs_from at (p ∷ ps) = relocs_at at p.reloc ++ relocs_from (at + fragment_size p) ps

-- ---- fragments that can stand in code

-- the bytes of a section at an offset are a fragment's
pub record IsFragmentAt (s : SectionParts) (n : ℕ) (p : Fragment) : Type 0 where
  pub front : List ℕ
  pub back : List ℕ
  pub bytes : s.bytes ≡ front ++ (p.bytes ++ back)
  pub start : length front ≡ n

-- a fragment is what the type of a relocation asks for: whole words, all of which it changes
pub record IsUnder (p : Fragment) (r : FragmentReloc) : Type 0 where
  pub some : 4 ≤ fragment_size p
  pub words : fragment_size p % 4 ≡ 0
  pub long : field_length (kind_of r.kind) r.addend ≡ fragment_size p
  pub asks : is_ignored (kind_of r.kind) ≡ false
  pub known : (s : SectionParts) → is_code_section s ≡ true → is_bad_kind s (kind_of r.kind) ≡ false
  pub fits : (s : SectionParts) (n : ℕ) → IsFragmentAt s n p → fits_at s n r.addend (kind_of r.kind) ≡ true

-- a fragment can stand in code: it is a word without a relocation, or what its relocation asks for
pub data CanStand (p : Fragment) : Type 0 where
  Alone : p.reloc ≡ None → fragment_size p ≡ 4 → CanStand p
  Under : (r : FragmentReloc) → p.reloc ≡ Some r → IsUnder p r → CanStand p

-- ---- sections

-- a section is code of an object that isn't compressed, and is made of fragments; between their relocations there may be some that
-- ask for nothing
pub record IsMadeOf (fragments : List Fragment) (s : SectionParts) : Type 0 where
  pub code : is_code_section s ≡ true
  pub plain : s.compressed ≡ false
  pub bytes : s.bytes ≡ fragments_bytes fragments
  pub size : s.size ≡ fragments_size fragments
  pub relocs : filter asks s.relocs ≡ relocs_from 0 fragments
  pub stand : All CanStand fragments
