-- The section is whole, so both tables are those of its relocations, and each item has the bytes that say which it is.
use Rattle.std.proofs.Common.{◌/◌, ◌+◌, length, sym, ap, subst, ◌∙◌, arith}
use Rattle.std.specs.List.{find}
use Rattle.psabi_sym.specs.Inputs.{parsed}
use Rattle.block_cut.specs.Instrs.{CodeBytes}
use Rattle.block_cut.specs.Invariants.HalfwordTables.{HasRoom, IsRelocTable}
use Rattle.block_cut.specs.Resolved.{is_right_at}
use Rattle.block_cut.proofs.TextLaws.{resolved_few, room_there}
use Rattle.block_cut.proofs.WordLaws.{code_here}
use Rattle.block_cut.proofs.code_section.CodeSection.new.Goals as goal

pub relocs_by_halfword-requires : goal.relocs_by_halfword-requires
relocs_by_halfword-requires c =
    omega (
      arith,
      ap length (c.deref.ensures.value ∙ c.in_ok-relocs.ensures),
      resolved_few (parsed c.args.objects.now) c.args.section.now,
      c.recall_invariant.ensures,
    )

pub place_numbers-requires : goal.place_numbers-requires
place_numbers-requires c =
    let l = c.args.section.now in
    let here = code_here c.args.objects.now l.object l.index l.section c.requires.faultless c.requires.found c.requires.is_code in
    let held = ap (λ (x : CodeBytes). x.bytes) c.in_ok-content.ensures ∙ c.bytes.ensures in
    omega (arith, ap length c.deref-3.ensures.value, c.in_ok-reloc_numbers.ensures.count_is, c.len.ensures, ap length held, here.whole.short)

pub invariant_of-result : goal.invariant_of-result
invariant_of-result c =
    let inputs = parsed c.args.objects.now in
    let l = c.args.section.now in
    let here = code_here c.args.objects.now l.object l.index l.section c.requires.faultless c.requires.found c.requires.is_code in
    let content = c.in_ok-content.ensures ∙ (λ j. record { bytes = c.bytes.ensures j; compressed = c.is_compressed.ensures j }) in
    let held = ap (λ (x : CodeBytes). x.bytes) content in
    let compressed = ap (λ (x : CodeBytes). x.compressed) content in
    let relocs = c.in_ok-relocs.relocs.items in
    let table = c.in_ok-reloc_numbers.reloc_numbers.items in
    let named : IsRelocTable relocs (length l.section.bytes / 2 + 1) table =
    subst (λ rs. IsRelocTable rs (length l.section.bytes / 2 + 1) table) c.deref.ensures.value
    (subst (λ n. IsRelocTable c.deref.result.now (n / 2 + 1) table) (c.len.ensures ∙ ap length held) c.in_ok-reloc_numbers.ensures) in
    let lent : IsRelocTable c.deref-2.result.now (length l.section.bytes / 2 + 1) c.deref-3.result.now =
    subst (λ t. IsRelocTable c.deref-2.result.now (length l.section.bytes / 2 + 1) t) (sym c.deref-3.ensures.value)
    (subst (λ rs. IsRelocTable rs (length l.section.bytes / 2 + 1) table) (sym c.deref-2.ensures.value) named) in
    record {
      is_code = c.requires.is_code;
      whole = here.whole;
      bytes_are = held;
      compressed_is = compressed;
      relocs_are = named;
      places_are = c.in_ok-place_numbers.ensures inputs l c.requires.is_code here.whole held compressed (c.deref-2.ensures.value ∙ c.in_ok-relocs.ensures) lent;
      rooms = λ n start.
          subst (λ (x : CodeBytes). HasRoom x n (find (is_right_at n) relocs)) (sym content)
          (subst (λ rs. HasRoom (record { bytes = l.section.bytes; compressed = l.section.compressed }) n (find (is_right_at n) rs)) (sym c.in_ok-relocs.ensures)
          (room_there inputs l n c.requires.is_code here.whole start));
    }
