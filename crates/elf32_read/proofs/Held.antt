-- The content of a section, and the relocations in it.
use Rattle.std.proofs.Common.{◌≡◌, ℕ, ◌+◌, ◌*◌, ◌/◌, ◌<◌, ◌≤◌, List, length, Some, sym, ap, ◌∙◌, arith}
use Rattle.std.specs.Prelude.{slice_get}
use Rattle.std.proofs.lemmas.List.FromFn.{length-map-range_with_len}
use Rattle.elf32_read.specs.Header.{content_of, header_of}
use Rattle.elf32_read.specs.Relocs.{reloc_at, relocs_in}
use Rattle.elf32_read.specs.declared.header.SectionHeader.{SectionHeader}
use Rattle.elf32_read.proofs.Listed.{slice_get-listed}

-- the content that was read is the section's content
pub is_content : (inside bytes : List ℕ) (i : ℕ) (header : SectionHeader) (content : List ℕ) → inside ≡ bytes → header ≡ header_of inside i → content ≡ content_of inside header
    → content ≡ content_of bytes (header_of bytes i)
is_content inside bytes i header content same is read =
    read ∙ ap (content_of inside) is ∙ ap (λ b. content_of b (header_of b i)) same

module _ (content : List ℕ) where
  -- the number of relocations
  pub held_count : length content / 12 ≡ length (relocs_in content)
  held_count = sym (length-map-range_with_len (reloc_at content) 0 (length content / 12))

  -- each relocation lies in the content
  pub held_within : (k : ℕ) → k < length (relocs_in content) → 12 * k + 12 ≤ length content
  held_within k lt = omega (arith, lt, held_count)

  -- a relocation is the one at its index
  pub held_at : (k : ℕ) → k < length (relocs_in content) → slice_get (relocs_in content) k ≡ Some (reloc_at content k)
  held_at k lt =
      let few : k < length content / 12 = omega (arith, lt, held_count) in
      slice_get-listed (reloc_at content) (length content / 12) k few
