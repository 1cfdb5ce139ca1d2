-- Sound parts can be written, however large the numbers are of which only what is left in a word is written: a section's flags, a
-- relocation's offset and addend, a symbol's value and size. With what is left of these the parts are sound too, and their numbers
-- have room.
use Rattle.std.proofs.Common.{◌≡◌, ℕ, zero, suc, ◌+◌, ◌*◌, ◌/◌, ◌%◌, ◌^◌, ◌<◌, ◌≤◌, ◌∷◌, length, map, Bool, true, false, not, ◌&&◌, ◌||◌, ◌==◌, refl, sym, ap, ◌∙◌, arith, Option, Some, None, slice_get, subst, if◌then◌else◌}
use Rattle.std.specs.Prelude.{All, IfSome, bit_and, codes, nat_eq, nat_lt}
use Rattle.std.specs.Cmp.Lexicographic.{pointwise}
use Rattle.std.specs.Int.{w32, cast_unsigned, is_power_of_two}
use Rattle.std.specs.Option.{option_map}
use Rattle.std.proofs.Math.Facts.{sfits_to_z}
use Rattle.std.proofs.lemmas.Bool.{eqb-true, ltb-false, ltb-true, or_parts}
use Rattle.std.proofs.lemmas.List.{length-map}
use Rattle.std.proofs.lemmas.List.Elements.{All-map, All-weaker}
use Rattle.std.proofs.lemmas.Nat.Bits.{and_pow}
use Rattle.std.proofs.lemmas.Option.{slice_get-map}
use Rattle.elf32_read.specs.Kept.{has_flags}
use Rattle.elf32_read.specs.Object.{is_bad_alignment, object_fault}
use Rattle.elf32_read.specs.Parts.{ObjectParts, SectionParts, SymbolParts, is_kept_section}
use Rattle.elf32_read.specs.declared.reloc.Reloc.{Reloc}
use Rattle.elf32_write.specs.ObjectFile.{object_bytes, section_total}
use Rattle.elf32_write.specs.Ranges.{IsPartsSized, IsRelocSized, IsSectionSized, IsSymbolSized}
use Rattle.elf32_write.specs.Writable.{IsObjectOf, IsWritable, null_part}
use Rattle.elf32_write.proofs.FileHeaderBack.{length-object_bytes}
use Rattle.elf32_write.proofs.ObjectBack.{object_back}
use Rattle.elf32_write.proofs.SoundBack.{known_flags, sound_sections, sound_symbols, sound_writable}
use Rattle.elf32_write.proofs.SoundParts.{AreSoundParts, IsSoundKept, IsSoundSection, IsSoundSymbol, LiesInSection, has_home}
use Rattle.elf32_write.proofs.WordsWritten.{parts_same, total_same, word_parts, word_reloc, word_section, word_symbol}

-- ---- flags

-- flags below 2^32 are those of what is left in a word
flag_same : (k f : ℕ) → f % 2 ^ 32 / 2 ^ k % 2 ≡ f / 2 ^ k % 2 → has_flags (2 ^ k) (f % 2 ^ 32) ≡ has_flags (2 ^ k) f
flag_same k f same =
    let n : ℕ = 2 ^ k in
    let bit : bit_and (f % 2 ^ 32) n ≡ bit_and f n = and_pow (f % 2 ^ 32) k ∙ ap (λ b. b * 2 ^ k) same ∙ sym (and_pow f k) in
    ap (λ b. b == n) bit

pub write_same : (f : ℕ) → has_flags 1 (f % 2 ^ 32) ≡ has_flags 1 f
write_same f = flag_same 0 f (omega arith)

alloc_same : (f : ℕ) → has_flags 2 (f % 2 ^ 32) ≡ has_flags 2 f
alloc_same f = flag_same 1 f (omega arith)

pub code_same : (f : ℕ) → has_flags 4 (f % 2 ^ 32) ≡ has_flags 4 f
code_same f = flag_same 2 f (omega arith)

thread_same : (f : ℕ) → has_flags 0x400 (f % 2 ^ 32) ≡ has_flags 0x400 f
thread_same f = flag_same 10 f (omega arith)

compressed_same : (f : ℕ) → has_flags 0x800 (f % 2 ^ 32) ≡ has_flags 0x800 f
compressed_same f = flag_same 11 f (omega arith)

pub kept_same : (s : SectionParts) → is_kept_section (word_section s) ≡ is_kept_section s
kept_same s = ap (λ b. b && not (pointwise nat_eq s.name (codes ".eh_frame"))) (alloc_same s.flags)

-- ---- sections

section_sound : (flags n : ℕ) (s : SectionParts) → IsSoundSection flags n s → IsSoundSection flags n (word_section s)
section_sound flags n s w = record {
  name = w.name;
  kind = w.kind;
  plain = compressed_same s.flags ∙ w.plain;
  bytes = w.bytes;
  kept = λ is. kept (w.kept (sym (kept_same s) ∙ is));
  dropped = λ is. ap (map word_reloc) (w.dropped (sym (kept_same s) ∙ is));
  relocs = All-map (λ r. r.symbol < n) word_reloc s.relocs w.relocs;
}
  where
    kept : IsSoundKept flags s → IsSoundKept flags (word_section s)
    kept k = record {
      kind = k.kind;
      shared = thread_same s.flags ∙ k.shared;
      align = ap (λ b. is_bad_alignment (if b then 256 else 4096) s.align) (code_same s.flags) ∙ k.align;
      code = λ is.
          let c = k.code ((λ i. sym (kept_same s) i && sym (code_same s.flags) i) ∙ is) in
          record { kind = c.kind; read_only = write_same s.flags ∙ c.read_only; size = c.size };
    }

-- ---- symbols

home_low : (parts : ObjectParts) (s : SymbolParts) → section_total parts ≤ 4096 → has_home parts s ≡ true → s.home < 2 ^ 16
home_low parts s few is = by (nat_lt s.home (section_total parts)) (s.home == 0xFFF1) (s.home == 0xFFF2) refl refl refl is
  where
    by : (a b c : Bool) → nat_lt s.home (section_total parts) ≡ a → (s.home == 0xFFF1) ≡ b → (s.home == 0xFFF2) ≡ c → (a || b || c) ≡ true → s.home < 2 ^ 16
    by true b c low x y h = omega (arith, few, ltb-true s.home (section_total parts) low)
    by false true c x here y h = omega (arith, eqb-true s.home 0xFFF1 here)
    by false false true x y here h = omega (arith, eqb-true s.home 0xFFF2 here)
    by false false false x y z h = absurd cc

-- an alignment that isn't bad is low
alignment_low : (v : ℕ) → is_bad_alignment 4096 v ≡ false → v ≤ 4096
alignment_low v fine = by (v == 0) refl fine
  where
    by : (b : Bool) → (v == 0) ≡ b → (not b && (not (is_power_of_two v) || nat_lt 4096 v)) ≡ false → v ≤ 4096
    by true is h = omega (arith, eqb-true v 0 is)
    by false is h = ltb-false 4096 v (or_parts (not (is_power_of_two v)) (nat_lt 4096 v) h).1

symbol_sound : (parts : ObjectParts) (s : SymbolParts) → IsSoundSymbol parts s → IsSoundSymbol (word_parts parts) (word_symbol s)
symbol_sound parts s w = record {
  name = w.name;
  bind = w.bind;
  kind = w.kind;
  other_kind = w.other_kind;
  local = w.local;
  home = ap (λ n. nat_lt s.home n || s.home == 0xFFF1 || s.home == 0xFFF2) (total_same parts) ∙ w.home;
  common = λ is.
      let low = alignment_low s.value (w.common is) in
      let same : s.value % 2 ^ 32 ≡ s.value = omega (arith, low) in
      ap (is_bad_alignment 4096) same ∙ w.common is;
  within = in_section s.home w.within;
}
  where
    in_section : (n : ℕ) → IfSome (slice_get (null_part ∷ parts.sections) n) (LiesInSection s) → IfSome (slice_get (null_part ∷ map word_section parts.sections) n) (LiesInSection (word_symbol s))
    in_section zero h = λ is. absurd cc
    in_section (suc k) h = subst (λ o. IfSome o (LiesInSection (word_symbol s))) (sym (slice_get-map word_section parts.sections k)) (by (slice_get parts.sections k) h)
      where
        by : (o : Option SectionParts) → IfSome o (LiesInSection s) → IfSome (option_map word_section o) (LiesInSection (word_symbol s))
        by None h = tt
        by (Some t) h = λ is. let low = h (sym (kept_same t) ∙ is) in omega (arith, low)

-- ---- the whole

-- what is written of a section's kind, alignment and size, and of its relocations' types, is all of it
pub record HasRoom (s : SectionParts) : Type 0 where
  pub kind : s.kind < 2 ^ 32
  pub align : s.align < 2 ^ 32
  pub size : s.size < 2 ^ 32
  pub relocs : All (λ r. r.kind < 2 ^ 8) s.relocs

section_sized : (s : SectionParts) → HasRoom s → IsSectionSized (word_section s)
section_sized s room = record { kind = room.kind; flags = omega arith; align = room.align; size = room.size }

relocs_sized : (s : SectionParts) → HasRoom s → All IsRelocSized (word_section s).relocs
relocs_sized s room = All-map IsRelocSized word_reloc s.relocs (All-weaker (λ r. r.kind < 2 ^ 8) (λ r. IsRelocSized (word_reloc r)) one s.relocs room.relocs)
  where
    one : (r : Reloc) → r.kind < 2 ^ 8 → IsRelocSized (word_reloc r)
    one r low = record { offset = omega arith; kind = low; addend = sfits_to_z {w = w32} {n = cast_unsigned w32 r.addend % 2 ^ 32} (omega arith) }

module _ (parts : ObjectParts) (w : AreSoundParts parts) (room : All HasRoom parts.sections) where
  words_sound : AreSoundParts (word_parts parts)
  words_sound =
      let same = ap length (parts_same parts) in
      let many : 1 + length (map word_symbol parts.symbols) ≡ 1 + length parts.symbols = ap (λ n. 1 + n) (length-map parts.symbols word_symbol) in
      record {
        flags = w.flags;
        sections = subst (λ n. All (IsSoundSection parts.flags n) (map word_section parts.sections)) (sym many)
            (All-map (IsSoundSection parts.flags (1 + length parts.symbols)) word_section parts.sections
            (All-weaker (IsSoundSection parts.flags (1 + length parts.symbols)) (λ s. IsSoundSection parts.flags (1 + length parts.symbols) (word_section s)) (section_sound parts.flags (1 + length parts.symbols)) parts.sections w.sections));
        symbols = All-map (IsSoundSymbol (word_parts parts)) word_symbol parts.symbols
            (All-weaker (IsSoundSymbol parts) (λ s. IsSoundSymbol (word_parts parts) (word_symbol s)) (symbol_sound parts) parts.symbols w.symbols);
        count = omega (arith, w.count, total_same parts);
        size = omega (arith, w.size, same, length-object_bytes parts, length-object_bytes (word_parts parts));
      }

  words_sized : IsPartsSized (word_parts parts).sections (word_parts parts).symbols
  words_sized = record {
    sections_sized = All-map IsSectionSized word_section parts.sections (All-weaker HasRoom (λ s. IsSectionSized (word_section s)) section_sized parts.sections room);
    relocs_sized = All-map (λ s. All IsRelocSized s.relocs) word_section parts.sections (All-weaker HasRoom (λ s. All IsRelocSized (word_section s).relocs) relocs_sized parts.sections room);
    symbols_sized = All-map IsSymbolSized word_symbol parts.symbols (All-weaker (IsSoundSymbol parts) (λ s. IsSymbolSized (word_symbol s)) one parts.symbols w.symbols);
  }
    where
      one : (s : SymbolParts) → IsSoundSymbol parts s → IsSymbolSized (word_symbol s)
      one s good = record { value = omega arith; size = omega arith; home = home_low parts s w.count good.home }

  -- sound parts with this room can be written
  pub sound_in_words : IsWritable parts
  sound_in_words =
      let written = sound_writable (word_parts parts) words_sound words_sized in
      record {
        faultless = ap object_fault (sym (parts_same parts)) ∙ written.faultless;
        count = omega (arith, w.count);
        sections = sound_sections parts w;
        symbols = sound_symbols parts w;
      }

  -- and their file reads as what is left in words
  pub words_back : IsObjectOf (word_parts parts) (object_bytes parts)
  words_back =
      subst (IsObjectOf (word_parts parts)) (parts_same parts)
      (object_back (word_parts parts) (sound_writable (word_parts parts) words_sound words_sized) (known_flags parts.flags w.flags) words_sized)
