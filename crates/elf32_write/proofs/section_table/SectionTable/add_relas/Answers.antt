use Rattle.std.proofs.Common.{All, ◌≡◌, ◌+◌, ◌++◌, [], ◌∷◌, length, map, take, nat_lt, true, false, cond, sym, ap, ◌∙◌, subst, arith, append-nil, rules}
use Rattle.std.proofs.lemmas.Bool.{ltb-false}
use Rattle.std.proofs.lemmas.List.{nil_from_length}
use Rattle.std.proofs.lemmas.List.Elements.{All-nil}
use Rattle.elf32_read.specs.Parts.{SectionParts}
use Rattle.elf32_write.specs.FileSections.{given_section, rela_section, relocated}
use Rattle.elf32_write.specs.Ranges.{IsRelocSized}
use Rattle.elf32_write.specs.SectionTable.{ContentsFit}
use Rattle.elf32_write.proofs.Relocated.{relocated_more}
use Rattle.elf32_write.proofs.SymbolsMore.{all_more}
use Rattle.elf32_write.proofs.Room.{relas_more, room_last, room_offsets, room_relas}
use Rattle.elf32_write.proofs.section_table.SectionTable.add_relas.Goals as goal
use Rattle.elf32_write.proofs.section_table.SectionTable.add_relas.Goals.{then-not-is_empty+in_ok-add_rela, else-not-is_empty}

pub add_rela-requires-clause-room : goal.add_rela-requires-clause-room
add_rela-requires-clause-room c =
    let xs = c.args.sections.now in
    let before = map given_section xs in
    room_offsets (before ++ map (rela_section c.args.symtab) (relocated (take c.loop-i.i xs))) c.loop-i.self c.loop-i.invariant.0 (room_relas c.args.symtab before xs c.loop-i.i c.requires.room)

pub add_rela-requires-clause-size : goal.add_rela-requires-clause-size
add_rela-requires-clause-size c =
    let xs = c.args.sections.now in
    let before = map given_section xs in
    let symtab = c.args.symtab in
    let index = c.loop-i.i in
    let s = c.index-sections-i.result in
    let some : nat_lt 0 (length s.relocs) ≡ true = search rules in
    let more = relas_more symtab before xs index s c.loop-i-test.true c.index-sections-i.is some in
    let room : ContentsFit ((before ++ map (rela_section symtab) (relocated (take index xs))) ++ rela_section symtab (1 + index, s) ∷ []) =
    subst ContentsFit more (room_relas symtab before xs (index + 1) c.requires.room) in
    room_last (before ++ map (rela_section symtab) (relocated (take index xs))) (rela_section symtab (1 + index, s)) room

pub loop-i-preserved : goal.loop-i-preserved
loop-i-preserved c =
    let xs = c.args.sections.now in
    let before = map given_section xs in
    let symtab = c.args.symtab in
    let index = c.loop-i.i in
    let s = c.index-sections-i.result in
    let front = before ++ map (rela_section symtab) (relocated (take index xs)) in
    let R : SectionParts → Type 0 = λ s. All IsRelocSized s.relocs in
    elim c.if-not-is_empty.branch [
      | then-not-is_empty+in_ok-add_rela w ↦
          let some : nat_lt 0 (length s.relocs) ≡ true = search rules in
          let more = relas_more symtab before xs index s c.loop-i-test.true c.index-sections-i.is some in
          let next : index + 1 ≡ 1 + index = omega arith in
          let held = w.in_ok-add_rela.ensures.held front c.loop-i.invariant.0 in
          (rw (w.self-is, more, sym next) held, all_more R xs index s c.loop-i-test.true c.index-sections-i.is c.loop-i.invariant.1 w.in_ok-add_rela.ensures.sized)
      | else-not-is_empty w ↦
          let none : nat_lt 0 (length s.relocs) ≡ false = search rules in
          let same : before ++ map (rela_section symtab) (relocated (take (index + 1) xs)) ≡ front =
          ap (λ l. before ++ map (rela_section symtab) l) (relocated_more xs index s c.loop-i-test.true c.index-sections-i.is ∙ ap (λ b. relocated (take index xs) ++ cond b ((1 + index, s) ∷ []) []) none ∙ append-nil (relocated (take index xs))) in
          let few : length s.relocs ≡ 0 = let le = ltb-false 0 (length s.relocs) none in omega (arith, le) in
          let sized : R s = subst (All IsRelocSized) (sym (nil_from_length s.relocs few)) (All-nil IsRelocSized) in
          (rw (w.self-is, same) c.loop-i.invariant.0, all_more R xs index s c.loop-i-test.true c.index-sections-i.is c.loop-i.invariant.1 sized)
    ]
