-- Parts of an object whose file has no fault, said section by section and symbol by symbol: what those who write objects show.
use Rattle.std.specs.Prelude.{◌≡◌, ℕ, ◌+◌, ◌%◌, ◌<◌, ◌≤◌, Bool, true, false, not, ◌&&◌, ◌||◌, ◌==◌, nat_lt, if◌then◌else◌, [], ◌∷◌, length, slice_get, All, IfSome}
use Rattle.elf32_read.specs.Compressed.{code_step, has_rvc}
use Rattle.elf32_read.specs.Header.{are_known_flags, is_empty_kind}
use Rattle.elf32_read.specs.Kept.{has_flags}
use Rattle.elf32_read.specs.Object.{is_bad_alignment}
use Rattle.elf32_read.specs.Parts.{ObjectParts, SectionParts, SymbolParts, is_code_section, is_kept_section}
use Rattle.elf32_write.specs.ObjectFile.{object_size, section_total}
use Rattle.elf32_write.specs.Writable.{is_name, null_part}

-- ---- sections

-- none of SYMTAB (2), of which the file has its own, REL (9), GROUP (17) and SYMTAB_SHNDX (18)
abbrev pub can_be_given : ℕ → Bool
can_be_given kind = not (kind == 2 || kind == 9 || kind == 17 || kind == 18)

-- what a kept section may be: PROGBITS (1), NOBITS (8), INIT_ARRAY (14), FINI_ARRAY (15) and PREINIT_ARRAY (16)
abbrev pub can_be_kept : ℕ → Bool
can_be_kept kind = kind == 1 || kind == 8 || kind == 14 || kind == 15 || kind == 16

-- code is PROGBITS that the program can't write to, WRITE (1), and ends with a whole word, or in a compressed object halfword
pub record IsSoundCode (flags : ℕ) (s : SectionParts) : Type 0 where
  pub kind : s.kind ≡ 1
  pub read_only : has_flags 1 s.flags ≡ false
  pub size : s.size % code_step (has_rvc flags) ≡ 0

-- a section that is kept isn't each thread's own, TLS (0x400); code is aligned to 256 bytes at most, and data to 4,096
pub record IsSoundKept (flags : ℕ) (s : SectionParts) : Type 0 where
  pub kind : can_be_kept s.kind ≡ true
  pub shared : has_flags 0x400 s.flags ≡ false
  pub align : is_bad_alignment (if has_flags 4 s.flags then 256 else 4096) s.align ≡ false
  pub code : is_code_section s ≡ true → IsSoundCode flags s

-- a section of an object with these e_flags and this number of symbols, with symbol 0: it isn't COMPRESSED (0x800), it has as
-- many bytes as its size, or none if it is NULL or NOBITS, and only if it is kept has it relocations
pub record IsSoundSection (flags symbols : ℕ) (s : SectionParts) : Type 0 where
  pub name : is_name s.name ≡ true
  pub kind : can_be_given s.kind ≡ true
  pub plain : has_flags 0x800 s.flags ≡ false
  pub bytes : length s.bytes ≡ (if is_empty_kind s.kind then 0 else s.size)
  pub kept : is_kept_section s ≡ true → IsSoundKept flags s
  pub dropped : is_kept_section s ≡ false → s.relocs ≡ []
  pub relocs : All (λ r. r.symbol < symbols) s.relocs

-- ---- symbols

-- in a section of the file, which UNDEF (0) counts as here, or ABS (0xFFF1) or COMMON (0xFFF2)
abbrev pub has_home : ObjectParts → SymbolParts → Bool
has_home parts s = nat_lt s.home (section_total parts) || s.home == 0xFFF1 || s.home == 0xFFF2

-- not past the end of the section that it is in, if that is kept
abbrev pub LiesInSection : SymbolParts → SectionParts → Type 0
LiesInSection s home = is_kept_section home ≡ true → s.value ≤ home.size

-- a symbol: local (0), global (1) or weak (2), and defined if it is local; of a type but TLS (6) and GNU_IFUNC (10); if it is
-- common, its value is its alignment
pub record IsSoundSymbol (parts : ObjectParts) (s : SymbolParts) : Type 0 where
  pub name : is_name s.name ≡ true
  pub bind : s.bind ≤ 2
  pub kind : s.kind < 16
  pub other_kind : (s.kind == 6 || s.kind == 10) ≡ false
  pub local : (s.bind == 0 && s.home == 0) ≡ false
  pub home : has_home parts s ≡ true
  pub common : s.home ≡ 0xFFF2 → is_bad_alignment 4096 s.value ≡ false
  pub within : IfSome (slice_get (null_part ∷ parts.sections) s.home) (LiesInSection s)

-- ---- the whole

-- the parts of an object that is at most 4 MiB long, with at most 4,096 sections
pub record AreSoundParts (parts : ObjectParts) : Type 0 where
  pub flags : are_known_flags parts.flags ≡ true
  pub sections : All (IsSoundSection parts.flags (1 + length parts.symbols)) parts.sections
  pub symbols : All (IsSoundSymbol parts) parts.symbols
  pub count : section_total parts ≤ 4096
  pub size : object_size parts ≤ 0x40_0000
