-- What a pass owes for its result to be written: code stays what code may be and takes no more room, relocations name the given
-- symbols, and symbols lie in what becomes of their sections.
use Rattle.std.proofs.Common.{◌≡◌, ℕ, ◌%◌, ◌<◌, ◌≤◌, true, false, None, Some, drop, length, slice_get}
use Rattle.std.specs.Prelude.{All, List}
use Rattle.elf32_read.specs.Compressed.{code_step, has_rvc}
use Rattle.elf32_read.specs.Object.{is_bad_alignment}
use Rattle.elf32_read.specs.Parts.{ObjectParts, SectionParts, SymbolParts, is_code_section, is_kept_section}
use Rattle.psabi_sym.specs.Faults.{code_room}
use Rattle.moved_runs.specs.Passes.{Pass, home_of, new_number}
use Rattle.object_passes.proofs.ReadBack.{KeepsMarks}

-- code has all its bytes, is aligned to 256 bytes at most, and ends with a whole word, or in a compressed object halfword
pub record IsWholeCode (flags : ℕ) (s : SectionParts) : Type 0 where
  pub bytes : length s.bytes ≡ s.size
  pub align : is_bad_alignment 256 s.align ≡ false
  pub size : s.size % code_step (has_rvc flags) ≡ 0

-- what becomes of a kept section of an object with these e_flags: what bounds the symbols or the types of its relocations still does;
-- code stays whole and is no longer; and it takes no more room among code
pub record IsFitSection (flags : ℕ) (s t : SectionParts) : Type 0 where
  pub symbols : (n : ℕ) → All (λ r. r.symbol < n) s.relocs → All (λ r. r.symbol < n) t.relocs
  pub kinds : (n : ℕ) → All (λ r. r.kind < n) s.relocs → All (λ r. r.kind < n) t.relocs
  pub whole : is_code_section s ≡ true → IsWholeCode flags s → IsWholeCode flags t
  pub less : is_code_section s ≡ true → t.size ≤ s.size
  pub room : code_room t ≤ code_room s

-- what becomes of a symbol of an object: it stays as it is if it is in no section, it is a number by itself (ABS, 0xFFF1) if its section
-- is dropped, and otherwise it lies in what becomes of its section
pub record IsFitSymbol (pass : Pass) (o : ℕ) (object : ObjectParts) (s : SymbolParts) : Type 0 where
  pub kind : (pass.symbol o object s).kind ≡ s.kind
  pub homeless : home_of object s ≡ None → pass.symbol o object s ≡ s
  pub dropped : (home : SectionParts) → home_of object s ≡ Some home → is_kept_section home ≡ false → (pass.symbol o object s).home ≡ 0xFFF1
  pub kept : (home : SectionParts) → home_of object s ≡ Some home → is_kept_section home ≡ true → (pass.symbol o object s).home ≡ new_number object.sections s.home
  pub within :
      (home : SectionParts) → home_of object s ≡ Some home → is_kept_section home ≡ true → s.value ≤ home.size → (pass.symbol o object s).value ≤ (pass.section o s.home home).size

-- the object with this index
pub record IsFitObject (pass : Pass) (o : ℕ) (object : ObjectParts) : Type 0 where
  pub sections : (i : ℕ) (s : SectionParts) → slice_get object.sections i ≡ Some s → is_kept_section s ≡ true → IsFitSection object.flags s (pass.section o i s)
  pub symbols : (k : ℕ) (s : SymbolParts) → slice_get (drop 1 object.symbols) k ≡ Some s → IsFitSymbol pass o object s

-- all objects
pub record IsFitPass (pass : Pass) (objects : List ObjectParts) : Type 0 where
  pub marks : KeepsMarks pass
  pub each : (o : ℕ) (object : ObjectParts) → slice_get objects o ≡ Some object → IsFitObject pass o object
