-- An instruction without relocation has its own word, or the one that spells it.
use Rattle.std.proofs.Common.{◌∙◌, arith, sym}
use Rattle.zc_link.proofs.ItemBytes.{op_range, op_spells, op_within, op_written, patched_own}
use Rattle.zc_link.proofs.item.item_word.Goals as goal

pub instr_word-requires-clause-range : goal.instr_word-requires-clause-range
instr_word-requires-clause-range g c =
    let e = c.args.start in
    op_range (g.L.Layout.layout c.args.layout.now) e.code.now e.at c.args.item e.address 4 c.requires.stands c.in-Op.i c.in-Op.is

pub instr_word-requires-clause-within : goal.instr_word-requires-clause-within
instr_word-requires-clause-within g c = λ long.
    let e = c.args.start in
    op_within (g.L.Layout.layout c.args.layout.now) e.code.now e.at c.args.item e.address 4 c.requires.stands c.in-Op.i c.in-Op.is
    (λ two. long (sym c.requires.own ∙ two))

pub instr_word-requires-clause-spells : goal.instr_word-requires-clause-spells
instr_word-requires-clause-spells g c = λ long.
    let e = c.args.start in
    op_spells (g.L.Layout.layout c.args.layout.now) e.code.now e.at c.args.item e.address 4 c.requires.stands c.in-Op.i c.in-Op.is
    (λ two. long (sym c.requires.own ∙ two))

pub patched-requires-clause-own : goal.patched-requires-clause-own
patched-requires-clause-own g c =
    let e = c.args.start in
    patched_own (g.L.Layout.layout c.args.layout.now) e.code.now e.at c.args.item e.address 4 c.requires.stands c.in_default.not-Op c.requires.patched

pub returns-in-Op : goal.returns-in-Op
returns-in-Op g c =
    let e = c.args.start in
    op_written (g.L.Layout.layout c.args.layout.now) e.code.now e.at c.args.item e.address 4 c.requires.stands c.in-Op.i c.in-Op.is
    c.instr_word.result c.instr_word.type_inv (λ two. omega (arith, two)) c.instr_word.ensures
