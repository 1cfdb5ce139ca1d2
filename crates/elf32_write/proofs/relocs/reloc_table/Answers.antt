use Rattle.std.proofs.Common.{◌++◌, [], ◌∷◌, pos, get_or, take, sym, ap, ◌∙◌, append-nil}
use Rattle.std.specs.List.{flat_map}
use Rattle.std.proofs.lemmas.List.{take_more}
use Rattle.std.proofs.lemmas.List.Concat.{flat_map-append}
use Rattle.std.proofs.lemmas.List.Elements.{All-more}
use Rattle.elf32_read.specs.declared.reloc.Reloc.{Reloc}
use Rattle.elf32_write.specs.Entries.{reloc_bytes}
use Rattle.elf32_write.specs.Ranges.{IsRelocSized}
use Rattle.elf32_write.proofs.relocs.reloc_table.Goals as goal

pub loop-reloc-preserved : goal.loop-reloc-preserved
loop-reloc-preserved c =
    let xs = c.args.relocs.now in
    let index = c.loop-reloc.reloc-index in
    let none : Reloc = record { offset = 0; symbol = 0; kind = 0; addend = pos 0 } in
    let r = get_or xs index none in
    let before = take index xs in
    let more = ap (flat_map reloc_bytes) (take_more xs index none c.loop-reloc-test.true) ∙ flat_map-append reloc_bytes before (r ∷ []) ∙ ap (λ l. flat_map reloc_bytes before ++ l) (append-nil (reloc_bytes r)) in (
      c.in_ok-push_reloc.ensures.appended ∙ ap (λ l. l ++ reloc_bytes r) c.loop-reloc.invariant.0 ∙ sym more,
      All-more IsRelocSized xs index none c.loop-reloc-test.true c.loop-reloc.invariant.1 c.in_ok-push_reloc.ensures.sized,
    )
