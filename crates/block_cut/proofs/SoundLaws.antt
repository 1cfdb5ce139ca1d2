-- What a sound relocation in code is: it stands at a unit, and changes whole units of its section.
use Rattle.std.proofs.Common.{◌≡◌, ℕ, ◌+◌, ◌%◌, ◌≤◌, ℤ, pos, negsuc, List, [], ◌∷◌, Bool, true, false, cond, Option, Some, None, eqb, ltb, refl, sym, ap, ◌∙◌, arith}
use Rattle.std.specs.Prelude.{◌&&◌, ◌||◌, not}
use Rattle.std.specs.List.{find}
use Rattle.std.proofs.lemmas.Bool.{and_parts, or_parts, not-false, not-true, eqb-true, ltb-true, ltb-false}
use Rattle.elf32_read.specs.Parts.{SectionParts, is_code_section}
use Rattle.elf32_read.specs.declared.reloc.Reloc.{Reloc}
use Rattle.psabi_reloc.specs.Kinds.{field_length, kind_of}
use Rattle.psabi_reloc.specs.declared.kind.RelocKind.{RelocKind}
use Rattle.psabi_reloc.specs.declared.kind.RelocKind.TheVariants.{Ignored, Word, Branch, Jal, Call, PcrelHi20, PcrelLo12I, PcrelLo12S, Hi20, Lo12I, Lo12S, RvcBranch, RvcJump, Align}
use Rattle.block_cut.specs.CodeSizes.{code_step}
use Rattle.block_cut.proofs.CodeSizeLaws.{step_even, step_four}
use Rattle.block_cut.specs.Relocs.{field_end, field_of, fits_at, is_bad_kind, is_bad_place, overlaps_another, is_ignored, is_padding, is_placed, is_rvc, is_sound, is_word, reloc_on}

-- what is found passes the test
pub found_passes : {X : Type 0} (p : X → Bool) (xs : List X) (x : X) → find p xs ≡ Some x → p x ≡ true
found_passes p [] x found = absurd cc
found_passes p (y ∷ ys) x found = by (p y) refl (found_passes p ys x) found
  where
    by : (b : Bool) → p y ≡ b → (find p ys ≡ Some x → p x ≡ true) → cond b (Some y) (find p ys) ≡ Some x → p x ≡ true
    by true passes rest here = let same : y ≡ x = cc in ap p (sym same) ∙ passes
    by false passes rest here = rest here

-- the bytes of a field are whole units, and there are some
pub record IsField (c : Bool) (length : ℕ) : Type 0 where
  pub some : 2 ≤ length
  pub words : length % code_step c ≡ 0
  pub short : length ≤ 255

-- padding has a field
padding_field : (c : Bool) (addend : ℤ) → is_padding c addend ≡ true → IsField c (field_length (Some Align) addend)
padding_field c (pos n) is =
    let two = and_parts (ltb 0 n) _ is in
    let rest = and_parts (ltb n 256) (eqb (n % code_step c) 0) two.1 in
    let some = ltb-true 0 n two.0 in
    let short = ltb-true n 256 rest.0 in
    let words = eqb-true (n % code_step c) 0 rest.1 in
    record { some = omega (arith, step_even c n words); words = words; short = omega arith }
padding_field c (negsuc n) is = absurd cc

four : (c : Bool) → IsField c 4
four c = record { some = omega arith; words = step_four c 4 refl; short = omega arith }

eight : (c : Bool) → IsField c 8
eight c = record { some = omega arith; words = step_four c 8 refl; short = omega arith }

-- what changes an instruction of 2 bytes stands in compressed objects alone
pub rvc_compressed : (s : SectionParts) (k : RelocKind) → is_rvc (Some k) ≡ true → is_bad_kind s (Some k) ≡ false → s.compressed ≡ true
rvc_compressed s k rvc known =
    let parts = or_parts (not (is_code_section s) && (not (is_ignored (Some k)) && not (is_word (Some k)))) (is_rvc (Some k) && not s.compressed) known in
    not-false s.compressed (ap (λ b. b && not s.compressed) (sym rvc) ∙ parts.1)

pub rvc_bad : (s : SectionParts) (k : RelocKind) → s.compressed ≡ false → is_rvc (Some k) ≡ true → is_bad_kind s (Some k) ≡ false → ⊥
rvc_bad s k plain rvc known = let both = rvc_compressed s k rvc known in absurd (cc (plain, both))

two : (c : Bool) → c ≡ true → IsField c 2
two c is = record { some = omega arith; words = ap (λ b. 2 % code_step b) is; short = omega arith }

-- the field of a kind that is known and asks for something
kind_field : (s : SectionParts) (n : ℕ) (addend : ℤ) (k : Option RelocKind) → is_ignored k ≡ false → is_bad_kind s k ≡ false → fits_at s n addend k ≡ true → IsField s.compressed (field_length k addend)
kind_field s n addend None ignored bad fits = absurd cc
kind_field s n addend (Some Ignored) ignored bad fits = absurd cc
kind_field s n addend (Some Word) ignored bad fits = four s.compressed
kind_field s n addend (Some Branch) ignored bad fits = four s.compressed
kind_field s n addend (Some Jal) ignored bad fits = four s.compressed
kind_field s n addend (Some Call) ignored bad fits = eight s.compressed
kind_field s n addend (Some PcrelHi20) ignored bad fits = four s.compressed
kind_field s n addend (Some PcrelLo12I) ignored bad fits = four s.compressed
kind_field s n addend (Some PcrelLo12S) ignored bad fits = four s.compressed
kind_field s n addend (Some Hi20) ignored bad fits = four s.compressed
kind_field s n addend (Some Lo12I) ignored bad fits = four s.compressed
kind_field s n addend (Some Lo12S) ignored bad fits = four s.compressed
kind_field s n addend (Some RvcBranch) ignored bad fits = two s.compressed (rvc_compressed s RvcBranch refl bad)
kind_field s n addend (Some RvcJump) ignored bad fits = two s.compressed (rvc_compressed s RvcJump refl bad)
kind_field s n addend (Some Align) ignored bad fits = padding_field s.compressed addend fits

-- a sound relocation at an offset of code
pub record IsSoundAt (s : SectionParts) (n : ℕ) (r : Reloc) : Type 0 where
  pub at : r.offset ≡ n
  pub asks : is_ignored (kind_of r.kind) ≡ false
  pub known : is_bad_kind s (kind_of r.kind) ≡ false
  pub fits : fits_at s n r.addend (kind_of r.kind) ≡ true
  pub field : IsField s.compressed (field_of r)
  pub words : n % code_step s.compressed ≡ 0
  pub inside : n + field_of r ≤ s.size

pub sound_parts : (s : SectionParts) (r : Reloc) → is_code_section s ≡ true → is_sound s r ≡ true → IsSoundAt s r.offset r
sound_parts s r code sound =
    let k = kind_of r.kind in
    let two = and_parts (not (is_ignored k)) _ sound in
    let asks = not-true (is_ignored k) two.0 in
    let rest = and_parts (not (is_bad_kind s k)) (not (is_bad_place s r)) two.1 in
    let known = not-true (is_bad_kind s k) rest.0 in
    let good : (not (is_ignored k) && (ltb s.size (field_end r) || (not (is_placed s r) || overlaps_another s.relocs r))) ≡ false = not-true (is_bad_place s r) rest.1 in
    let fine : (ltb s.size (field_end r) || (not (is_placed s r) || overlaps_another s.relocs r)) ≡ false =
    ap (λ b. b && (ltb s.size (field_end r) || (not (is_placed s r) || overlaps_another s.relocs r))) (sym two.0) ∙ good in
    let places = or_parts (ltb s.size (field_end r)) _ fine in
    let placed = or_parts (not (is_placed s r)) (overlaps_another s.relocs r) places.1 in
    let is : (not (is_code_section s) || ((eqb (r.offset % code_step s.compressed) 0) && fits_at s r.offset r.addend k)) ≡ true = not-false (is_placed s r) placed.0 in
    let there : ((eqb (r.offset % code_step s.compressed) 0) && fits_at s r.offset r.addend k) ≡ true =
    ap (λ b. not b || ((eqb (r.offset % code_step s.compressed) 0) && fits_at s r.offset r.addend k)) (sym code) ∙ is in
    let ends = and_parts (eqb (r.offset % code_step s.compressed) 0) (fits_at s r.offset r.addend k) there in
    record {
      at = refl;
      asks = asks;
      known = known;
      fits = ends.1;
      field = kind_field s r.offset r.addend k asks known ends.1;
      words = eqb-true (r.offset % code_step s.compressed) 0 ends.0;
      inside = ltb-false s.size (field_end r) places.0;
    }

-- the relocation at an offset of code is sound there
pub sound_at : (s : SectionParts) (n : ℕ) (r : Reloc) → is_code_section s ≡ true → reloc_on s n ≡ Some r → IsSoundAt s n r
unfolding reloc_on
sound_at s n r code found =
    let two = and_parts (is_sound s r) (eqb r.offset n) (found_passes (λ t. is_sound s t && eqb t.offset n) s.relocs r found) in
    let at = eqb-true r.offset n two.1 in
    let is = sound_parts s r code two.0 in
    record {
      at = at;
      asks = is.asks;
      known = is.known;
      fits = ap (λ m. fits_at s m r.addend (kind_of r.kind)) (sym at) ∙ is.fits;
      field = is.field;
      words = ap (λ m. m % code_step s.compressed) (sym at) ∙ is.words;
      inside = omega (arith, at, is.inside);
    }

-- the relocation at an offset is one that changes something, whose kind and place are right
pub sound_is : (s : SectionParts) (n : ℕ) (r : Reloc) → reloc_on s n ≡ Some r → is_sound s r ≡ true
unfolding reloc_on
sound_is s n r found = (and_parts (is_sound s r) (eqb r.offset n) (found_passes (λ t. is_sound s t && eqb t.offset n) s.relocs r found)).0
