-- The parts of the object are sound, so they can be written.
use Rattle.std.proofs.Common.{◌≡◌, ℕ, ◌<◌, List, [], ◌∷◌, false, codes, refl, sym, ◌∙◌, lit<, lit≤, arith, subst, pos, negsuc}
use Rattle.std.specs.Int.Count.{ones}
use Rattle.std.specs.Prelude.{All}
use Rattle.std.proofs.lemmas.List.Elements.{All-from_recursion}
use Rattle.elf32_read.specs.Parts.{ObjectParts, SectionParts, SymbolParts}
use Rattle.elf32_read.specs.declared.header.SectionHeader.{SectionHeader}
use Rattle.elf32_read.specs.declared.reloc.Reloc.{Reloc}
use Rattle.elf32_write.specs.FileSections.{added_sections, file_sections}
use Rattle.elf32_write.specs.Ranges.{IsPartsSized, IsRelocSized, IsSectionSized, IsSymbolSized}
use Rattle.elf32_write.specs.Writable.{IsWritable}
use Rattle.elf32_write.proofs.SoundBack.{sound_writable}
use Rattle.elf32_write.proofs.SoundParts.{AreSoundParts, IsSoundSection, IsSoundSymbol}
use Rattle.object_tests.proofs.written.mixed.Goals as goal

given : List ℕ → List ℕ → List Reloc → SectionHeader → SectionParts
given name bytes relocs h = record { name = name; kind = h.kind; flags = h.flags; align = h.align; size = h.size; bytes = bytes; relocs = relocs; compressed = false }

header : ℕ → ℕ → ℕ → ℕ → SectionHeader
header kind flags align size = record { name = 0; kind = kind; flags = flags; address = 0; offset = 0; size = size; link = 0; info = 0; align = align; entry_size = 0 }

code : List ℕ
code = 0x97 ∷ 0 ∷ 0 ∷ 0 ∷ 0xE7 ∷ 0x80 ∷ 0 ∷ 0 ∷ []

code_relocs : List Reloc
code_relocs = record { offset = 0; symbol = 2; kind = 18; addend = pos 0 } ∷ record { offset = 0; symbol = 0; kind = 51; addend = negsuc 3 } ∷ []

data_relocs : List Reloc
data_relocs = record { offset = 1; symbol = 1; kind = 1; addend = negsuc 0 } ∷ []

sections : List SectionParts
sections =
    given (codes ".text") code code_relocs (header 1 6 2 8)
    ∷ given [] [] [] (header 8 3 8 24)
    ∷ given (codes ".data") (1 ∷ 2 ∷ 3 ∷ 4 ∷ 5 ∷ []) data_relocs (header 1 3 1 5) ∷ []

symbols : List SymbolParts
symbols =
    record { name = codes "x"; value = 1; size = 4; bind = 0; kind = 1; home = 3 }
    ∷ record { name = codes "f"; value = 0; size = 0; bind = 1; kind = 0; home = 0 }
    ∷ record { name = []; value = 0; size = 0; bind = 0; kind = 3; home = 1 } ∷ []

parts : ObjectParts
parts = record { flags = 0x10; sections = sections; symbols = symbols }

sound : AreSoundParts parts
unfolding ones parts sections symbols given header code code_relocs data_relocs file_sections added_sections
sound = record {
  flags = refl;
  sections = All-from_recursion (IsSoundSection 0x10 4) sections (
    record {
      name = refl;
      kind = refl;
      plain = refl;
      bytes = refl;
      kept = λ _. record { kind = refl; shared = refl; align = refl; code = λ _. record { kind = refl; read_only = refl; size = refl } };
      dropped = λ h. absurd cc;
      relocs = All-from_recursion (λ r. r.symbol < 4) code_relocs (lit< tt, (lit< tt, tt));
    },
    (
      record {
        name = refl;
        kind = refl;
        plain = refl;
        bytes = refl;
        kept = λ _. record { kind = refl; shared = refl; align = refl; code = λ h. absurd cc };
        dropped = λ _. refl;
        relocs = All-from_recursion (λ r. r.symbol < 4) [] tt;
      },
      (
        record {
          name = refl;
          kind = refl;
          plain = refl;
          bytes = refl;
          kept = λ _. record { kind = refl; shared = refl; align = refl; code = λ h. absurd cc };
          dropped = λ h. absurd cc;
          relocs = All-from_recursion (λ r. r.symbol < 4) data_relocs (lit< tt, tt);
        },
        tt,
      ),
    ),
  );
  symbols = All-from_recursion (IsSoundSymbol parts) symbols (
    record { name = refl; bind = lit≤ tt; kind = lit< tt; other_kind = refl; local = refl; home = refl; common = λ h. absurd (omega (arith, h)); within = λ _. lit≤ tt },
    (
      record { name = refl; bind = lit≤ tt; kind = lit< tt; other_kind = refl; local = refl; home = refl; common = λ h. absurd (omega (arith, h)); within = λ _. lit≤ tt },
      (
        record { name = refl; bind = lit≤ tt; kind = lit< tt; other_kind = refl; local = refl; home = refl; common = λ h. absurd (omega (arith, h)); within = λ _. lit≤ tt },
        tt,
      ),
    ),
  );
  count = lit≤ tt;
  size = lit≤ tt;
}

sized : IsPartsSized sections symbols
unfolding sections symbols given header code_relocs data_relocs
sized = record {
  sections_sized = All-from_recursion IsSectionSized sections (
    record { kind = lit< tt; flags = lit< tt; align = lit< tt; size = lit< tt },
    (record { kind = lit< tt; flags = lit< tt; align = lit< tt; size = lit< tt }, (record { kind = lit< tt; flags = lit< tt; align = lit< tt; size = lit< tt }, tt)),
  );
  relocs_sized = All-from_recursion (λ (s : SectionParts). All IsRelocSized s.relocs) sections (
    All-from_recursion IsRelocSized code_relocs (record { offset = lit< tt; kind = lit< tt; addend = omega arith }, (record { offset = lit< tt; kind = lit< tt; addend = omega arith }, tt)),
    (All-from_recursion IsRelocSized [] tt, (All-from_recursion IsRelocSized data_relocs (record { offset = lit< tt; kind = lit< tt; addend = omega arith }, tt), tt)),
  );
  symbols_sized = All-from_recursion IsSymbolSized symbols (
    record { value = lit< tt; size = lit< tt; home = lit< tt },
    (record { value = lit< tt; size = lit< tt; home = lit< tt }, (record { value = lit< tt; size = lit< tt; home = lit< tt }, tt)),
  );
}

pub returns : goal.returns
unfolding parts sections symbols given header code code_relocs data_relocs
returns c =
    let text = c.in_ok-text.ensures ∙ (λ i. given (codes ".text") code code_relocs (c.header.ensures i)) in
    let zeros = c.in_ok-zeros.ensures ∙ (λ i. given [] [] [] (c.header-2.ensures i)) in
    let data_part = c.in_ok-data.ensures ∙ (λ i. given (codes ".data") (1 ∷ 2 ∷ 3 ∷ 4 ∷ 5 ∷ []) data_relocs (c.header-3.ensures i)) in
    let all = c.in_ok-vec.ensures.items ∙ (λ i. text i ∷ zeros i ∷ data_part i ∷ []) in
    let named = c.in_ok-vec-2.ensures.items ∙ (λ i. c.in_ok-x.ensures i ∷ c.in_ok-f.ensures i ∷ c.in_ok-code.ensures i ∷ []) in
    let same : parts ≡ (record { flags = 0x10; sections = c.in_ok-vec.field-0.items; symbols = c.in_ok-vec-2.field-0.items }) = sym (λ i. record { flags = 0x10; sections = all i; symbols = named i }) in
    subst IsWritable same (sound_writable parts sound sized)
