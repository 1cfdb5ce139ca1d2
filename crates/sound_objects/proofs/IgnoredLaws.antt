-- Relocations that are ignored: without them the others overlap in the same way, and the same ones decide the items of code.
use Rattle.std.proofs.Common.{◌≡◌, ℕ, List, [], ◌∷◌, length, filter, max, min, Bool, true, false, cond, Option, Some, None, refl, sym, ap, ◌∙◌, arith, eqb}
use Rattle.std.specs.Prelude.{◌&&◌, nat_lt}
use Rattle.std.specs.List.{find}
use Rattle.std.proofs.lemmas.Bool.{and_left, le-ltb, not-false}
use Rattle.elf32_read.specs.Parts.{SectionParts, is_code_section}
use Rattle.elf32_read.specs.declared.reloc.Reloc.{Reloc}
use Rattle.psabi_reloc.specs.Kinds.{field_length, kind_of}
use Rattle.psabi_reloc.specs.declared.kind.RelocKind.{RelocKind}
use Rattle.psabi_reloc.specs.declared.kind.RelocKind.TheVariants.{Ignored}
use Rattle.block_cut.specs.Relocs.{field_end, field_of, is_ignored, is_sound, overlap, overlaps_another, reloc_on}
use Rattle.block_cut.specs.Resolved.{asks}
use Rattle.block_cut.proofs.SoundLaws.{sound_parts}

-- ---- lists

-- a test that fails for each that is left out finds the same
find_kept : {X : Type 0} (keeps p : X → Bool) → ((x : X) → keeps x ≡ false → p x ≡ false) → (xs : List X) → find p (filter keeps xs) ≡ find p xs
find_kept keeps p left [] = refl
find_kept keeps p left (x ∷ xs) = by (keeps x) refl (find_kept keeps p left xs)
  where
    by : (b : Bool) → keeps x ≡ b → find p (filter keeps xs) ≡ find p xs → find p (cond b (x ∷ filter keeps xs) (filter keeps xs)) ≡ cond (p x) (Some x) (find p xs)
    by true is rest = ap (cond (p x) (Some x)) rest
    by false is rest = rest ∙ sym (ap (λ b. cond b (Some x) (find p xs)) (left x is))

filter_kept : {X : Type 0} (keeps p : X → Bool) → ((x : X) → keeps x ≡ false → p x ≡ false) → (xs : List X) → filter p (filter keeps xs) ≡ filter p xs
filter_kept keeps p left [] = refl
filter_kept keeps p left (x ∷ xs) = by (keeps x) refl (filter_kept keeps p left xs)
  where
    by : (b : Bool) → keeps x ≡ b → filter p (filter keeps xs) ≡ filter p xs → filter p (cond b (x ∷ filter keeps xs) (filter keeps xs)) ≡ cond (p x) (x ∷ filter p xs) (filter p xs)
    by true is rest = ap (λ l. cond (p x) (x ∷ l) l) rest
    by false is rest = rest ∙ sym (ap (λ b. cond b (x ∷ filter p xs) (filter p xs)) (left x is))

-- ---- relocations

-- a relocation that is ignored changes no bytes
ignored_empty : (r : Reloc) → asks r ≡ false → field_of r ≡ 0
ignored_empty r ignored = by (kind_of r.kind) (not-false (is_ignored (kind_of r.kind)) ignored)
  where
    by : (k : Option RelocKind) → is_ignored k ≡ true → field_length k r.addend ≡ 0
    by None is = refl
    by (Some Ignored) is = refl
    by (Some k) is = absurd cc

-- a relocation that is ignored overlaps none
ignored_apart : (r t : Reloc) → asks t ≡ false → overlap r t ≡ false
ignored_apart r t ignored = le-ltb (max r.offset t.offset) (min (field_end r) (field_end t)) (omega (arith, ignored_empty t ignored))

-- a relocation that is ignored decides no item
ignored_unsound : (s : SectionParts) (t : Reloc) → is_code_section s ≡ true → asks t ≡ false → is_sound s t ≡ false
ignored_unsound s t code ignored = by (is_sound s t) refl
  where
    by : (b : Bool) → is_sound s t ≡ b → b ≡ false
    by false is = refl
    by true is = absurd (omega (arith, ignored_empty t ignored, (sound_parts s t code is).field.some))

-- ---- a section's relocations without those that are ignored

pub overlaps_asking : (relocs : List Reloc) (r : Reloc) → overlaps_another (filter asks relocs) r ≡ overlaps_another relocs r
overlaps_asking relocs r = ap (λ l. nat_lt 1 (length l)) (filter_kept asks (overlap r) (ignored_apart r) relocs)

pub found_asking : (s : SectionParts) (n : ℕ) → is_code_section s ≡ true → find (λ r. is_sound s r && eqb r.offset n) (filter asks s.relocs) ≡ reloc_on s n
unfolding reloc_on
found_asking s n code =
    find_kept asks (λ r. is_sound s r && eqb r.offset n) (λ t ignored. and_left (is_sound s t) (eqb t.offset n) (ignored_unsound s t code ignored)) s.relocs
