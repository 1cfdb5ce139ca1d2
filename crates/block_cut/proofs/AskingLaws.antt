-- A section without those relocations that ask for nothing: where its items start stays, and so does the relocation of each.
use Rattle.std.proofs.Common.{◌≡◌, ℕ, zero, suc, ◌+◌, max, min, List, [], ◌∷◌, length, refl, sym, ap, ◌∙◌, filter, Bool, true, false, cond, eqb, ltb, Option, Some, None, arith}
use Rattle.std.specs.Prelude.{◌&&◌, ◌||◌, not}
use Rattle.std.specs.List.{find, list_any}
use Rattle.std.specs.Option.{option_map_or}
use Rattle.elf32_read.specs.Parts.{SectionParts}
use Rattle.elf32_read.specs.declared.reloc.Reloc.{Reloc}
use Rattle.psabi_reloc.specs.Kinds.{field_length, kind_of}
use Rattle.psabi_reloc.specs.declared.kind.RelocKind.{RelocKind}
use Rattle.psabi_reloc.specs.declared.kind.RelocKind.TheVariants as kind
use Rattle.block_cut.specs.CodeSizes.{own_size}
use Rattle.block_cut.specs.Items.{size_on, starts_from, starts_in, starts_on}
use Rattle.block_cut.specs.Relocs.{field_end, field_of, is_bad_kind, is_bad_place, overlaps_another, is_ignored, is_placed, is_sound, overlap, reloc_on}
use Rattle.block_cut.specs.Resolved.{asks}

-- ---- its relocations

abbrev pub asked : SectionParts → SectionParts
asked s = record s { relocs = filter asks s.relocs }

quiet_field : (x : Reloc) → asks x ≡ false → field_of x ≡ 0
quiet_field x none = by (kind_of x.kind) none
  where
    by : (k : Option RelocKind) → not (is_ignored k) ≡ false → field_length k x.addend ≡ 0
    by (Some kind.Ignored) h = refl
    by None h = refl
    by (Some k) h = absurd cc

no_overlap : (r x : Reloc) → asks x ≡ false → overlap r x ≡ false
no_overlap r x none = narrow r.offset x.offset (field_end r) (field_of x) (quiet_field x none)
  where
    narrow : (a b e n : ℕ) → n ≡ 0 → ltb (max a b) (min e (b + n)) ≡ false
    narrow a b e n is = grind arith

overlaps_in : (r : Reloc) (xs : List Reloc) → filter (overlap r) (filter asks xs) ≡ filter (overlap r) xs
overlaps_in r [] = refl
overlaps_in r (x ∷ xs) = by (overlaps_in r xs) (asks x) refl
  where
    by : filter (overlap r) (filter asks xs) ≡ filter (overlap r) xs → (a : Bool) → asks x ≡ a → filter (overlap r) (cond a (x ∷ filter asks xs) (filter asks xs)) ≡ cond (overlap r x) (x ∷ filter (overlap r) xs) (filter (overlap r) xs)
    by rest true is = ap (λ t. cond (overlap r x) (x ∷ t) t) rest
    by rest false is = rest ∙ sym (ap (λ b. cond b (x ∷ filter (overlap r) xs) (filter (overlap r) xs)) (no_overlap r x is))

pub overlaps_same : (r : Reloc) (xs : List Reloc) → overlaps_another (filter asks xs) r ≡ overlaps_another xs r
overlaps_same r xs = ap (λ l. ltb 1 (length l)) (overlaps_in r xs)

sound_same : (s : SectionParts) (r : Reloc) → is_sound (asked s) r ≡ is_sound s r
sound_same s r = ap (λ c. asks r && (not (is_bad_kind s (kind_of r.kind)) && not (asks r && (ltb s.size (field_end r) || (not (is_placed s r) || c))))) (overlaps_same r s.relocs)

pub sound_asks : (s : SectionParts) (r : Reloc) (n : ℕ) → (is_sound s r && eqb r.offset n) ≡ true → asks r ≡ true
sound_asks s r n h = by (asks r) (not (is_bad_kind s (kind_of r.kind)) && not (is_bad_place s r)) (eqb r.offset n) h
  where
    by : (a b c : Bool) → ((a && b) && c) ≡ true → a ≡ true
    by true b c h = refl
    by false b c h = absurd cc

-- a search that finds what asks alone
find_asked : (p : Reloc → Bool) → ((r : Reloc) → p r ≡ true → asks r ≡ true) → (xs : List Reloc) → find p (filter asks xs) ≡ find p xs
find_asked p only [] = refl
find_asked p only (x ∷ xs) = by (find_asked p only xs) (asks x) refl
  where
    by : find p (filter asks xs) ≡ find p xs → (a : Bool) → asks x ≡ a → find p (cond a (x ∷ filter asks xs) (filter asks xs)) ≡ cond (p x) (Some x) (find p xs)
    by rest true is = ap (λ t. cond (p x) (Some x) t) rest
    by rest false is = rest ∙ no (p x) refl
      where
        no : (b : Bool) → p x ≡ b → find p xs ≡ cond b (Some x) (find p xs)
        no false h = refl
        no true h = let a = only x h in absurd cc

pub reloc_same : (s : SectionParts) (n : ℕ) → reloc_on (asked s) n ≡ reloc_on s n
unfolding reloc_on
reloc_same s n =
    ap (λ p. find p (filter asks s.relocs)) (λ i. λ r. sound_same s r i && eqb r.offset n)
    ∙ find_asked (λ r. is_sound s r && eqb r.offset n) (λ r h. sound_asks s r n h) s.relocs

-- ---- where items start

pub size_same : (s : SectionParts) (n : ℕ) → size_on (asked s) n ≡ size_on s n
size_same s n = ap (λ r. option_map_or field_of r (own_size s.compressed s.bytes n)) (reloc_same s n)

from_same : (s : SectionParts) (fuel n : ℕ) → starts_from fuel (asked s) n ≡ starts_from fuel s n
from_same s zero n = refl
from_same s (suc fuel) n = ap (λ t. cond (ltb n (length s.bytes)) (n ∷ t) []) (ap (λ m. starts_from fuel (asked s) (n + m)) (size_same s n) ∙ from_same s fuel (n + size_on s n))

pub starts_same : (s : SectionParts) (n : ℕ) → starts_on (asked s) n ≡ starts_on s n
unfolding starts_in
starts_same s n = ap (λ l. list_any (λ m. eqb m n) l) (from_same s (length s.bytes) 0)
