-- The parts of the object are sound, so they can be written.
use Rattle.std.proofs.Common.{◌≡◌, ℕ, ◌<◌, List, [], ◌∷◌, false, codes, refl, sym, ◌∙◌, rules, lit<, lit≤, subst}
use Rattle.std.specs.Int.Count.{ones}
use Rattle.std.specs.Prelude.{All}
use Rattle.std.proofs.lemmas.List.Elements.{All-from_recursion}
use Rattle.elf32_read.specs.Parts.{ObjectParts, SectionParts}
use Rattle.elf32_read.specs.declared.header.SectionHeader.{SectionHeader}
use Rattle.elf32_write.specs.FileSections.{added_sections, file_sections}
use Rattle.elf32_write.specs.Ranges.{IsPartsSized, IsRelocSized, IsSectionSized, IsSymbolSized}
use Rattle.elf32_write.specs.Writable.{IsWritable}
use Rattle.elf32_write.proofs.SoundBack.{sound_writable}
use Rattle.elf32_write.proofs.SoundParts.{AreSoundParts, IsSoundSection, IsSoundSymbol}
use Rattle.object_tests.proofs.written.compressed.Goals as goal

code : List ℕ
code = 0x15 ∷ 0x45 ∷ 0x93 ∷ 0x08 ∷ 0xD0 ∷ 0x05 ∷ []

text : SectionHeader → SectionParts
text h = record { name = codes ".text"; kind = h.kind; flags = h.flags; align = h.align; size = h.size; bytes = code; relocs = []; compressed = false }

header : SectionHeader
header = record { name = 0; kind = 1; flags = 6; address = 0; offset = 0; size = 6; link = 0; info = 0; align = 2; entry_size = 0 }

parts : ObjectParts
parts = record { flags = 1; sections = text header ∷ []; symbols = [] }

sound : AreSoundParts parts
unfolding ones parts text header code file_sections added_sections
sound = record {
  flags = refl;
  sections = All-from_recursion (IsSoundSection 1 1) (text header ∷ []) (
    record {
      name = refl;
      kind = refl;
      plain = refl;
      bytes = refl;
      kept = λ _. record { kind = refl; shared = refl; align = refl; code = λ _. record { kind = refl; read_only = refl; size = refl } };
      dropped = λ h. absurd cc;
      relocs = All-from_recursion (λ r. r.symbol < 1) [] tt;
    },
    tt,
  );
  symbols = All-from_recursion (IsSoundSymbol parts) [] tt;
  count = lit≤ tt;
  size = lit≤ tt;
}

sized : IsPartsSized parts.sections parts.symbols
unfolding parts text header
sized = record {
  sections_sized = All-from_recursion IsSectionSized (text header ∷ []) (record { kind = lit< tt; flags = lit< tt; align = lit< tt; size = lit< tt }, tt);
  relocs_sized = All-from_recursion (λ (s : SectionParts). All IsRelocSized s.relocs) (text header ∷ []) (All-from_recursion IsRelocSized [] tt, tt);
  symbols_sized = All-from_recursion IsSymbolSized [] tt;
}

pub returns : goal.returns
unfolding parts text header code
returns c =
    let one = c.in_ok-text.ensures ∙ (λ i. text (c.header.ensures i)) in
    let all = c.in_ok-vec.ensures.items ∙ (λ i. one i ∷ []) in
    let none : c.new.result.items ≡ [] = search rules in
    let same : parts ≡ (record { flags = 1; sections = c.in_ok-vec.field-0.items; symbols = c.new.result.items }) = sym (λ i. record { flags = 1; sections = all i; symbols = none i }) in
    subst IsWritable same (sound_writable parts sound sized)
