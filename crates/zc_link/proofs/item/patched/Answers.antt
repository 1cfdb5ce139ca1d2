-- An item's own word, with a part of an address.
use Rattle.std.proofs.Common.{refl, ap, ◌∙◌}
use Rattle.rv_decode.specs.Decode.{decoded}
use Rattle.zc_link.proofs.ItemBytes.{hi_value, hi_written, lo_value, pc_hi_value, pc_hi_written, pc_lo_way, pc_lo_written, word_value}
use Rattle.zc_link.proofs.item.patched.Goals as goal

pub target_value-requires : goal.target_value-requires
target_value-requires g c =
    let e = c.args.start in
    hi_value (g.L.Layout.layout c.args.layout.now) e.code.now e.at c.args.item e.address 4 c.requires.stands c.in-Hi.field-0 c.in-Hi.t c.in-Hi.is

pub target_value-requires-in-Lo : goal.target_value-requires-in-Lo
target_value-requires-in-Lo g c =
    let e = c.args.start in
    lo_value (g.L.Layout.layout c.args.layout.now) e.code.now e.at c.args.item e.address 4 c.requires.stands c.in-Lo.i c.in-Lo.t c.in-Lo.is

pub target_value-requires-in-PcHi : goal.target_value-requires-in-PcHi
target_value-requires-in-PcHi g c =
    let e = c.args.start in
    pc_hi_value (g.L.Layout.layout c.args.layout.now) e.code.now e.at c.args.item e.address 4 c.requires.stands c.in-PcHi.field-0 c.in-PcHi.t c.in-PcHi.is

pub way_from-requires : goal.way_from-requires
way_from-requires g c =
    let e = c.args.start in
    pc_lo_way (g.L.Layout.layout c.args.layout.now) e.code.now e.at c.args.item e.address 4 c.requires.stands c.in-PcLo.i c.in-PcLo.from c.in-PcLo.is

pub target_value-requires-in-Word : goal.target_value-requires-in-Word
target_value-requires-in-Word g c =
    let e = c.args.start in
    word_value (g.L.Layout.layout c.args.layout.now) e.code.now e.at c.args.item e.address 4 c.requires.stands c.in-Word.t c.in-Word.is

pub returns-in-Hi : goal.returns-in-Hi
returns-in-Hi g c =
    let e = c.args.start in
    hi_written (g.L.Layout.layout c.args.layout.now) e.code.now e.at c.args.item e.address 4 c.requires.stands c.requires.own refl
    c.put_hi20.result c.put_hi20.type_inv c.in-Hi.field-0 c.in-Hi.t c.target_value.result c.in-Hi.is c.target_value.ensures
    (λ i spells kind. c.put_hi20.ensures.decodes i (ap decoded c.u32_at-word.ensures ∙ spells) kind)

pub returns-in-PcHi : goal.returns-in-PcHi
returns-in-PcHi g c =
    let e = c.args.start in
    pc_hi_written (g.L.Layout.layout c.args.layout.now) e.code.now e.at c.args.item e.address 4 c.requires.stands c.requires.own refl
    c.put_hi20-in-PcHi.result c.put_hi20-in-PcHi.type_inv c.in-PcHi.field-0 c.in-PcHi.t c.target_value-in-PcHi.result c.in-PcHi.is
    c.target_value-in-PcHi.ensures (λ i spells kind. c.put_hi20-in-PcHi.ensures.decodes i (ap decoded c.u32_at-word.ensures ∙ spells) kind)

pub returns-in-PcLo : goal.returns-in-PcLo
returns-in-PcLo g c =
    let e = c.args.start in
    pc_lo_written (g.L.Layout.layout c.args.layout.now) e.code.now e.at c.args.item e.address 4 c.requires.stands c.requires.own refl
    c.put_lower-in-PcLo.result c.put_lower-in-PcLo.type_inv c.in-PcLo.i c.in-PcLo.from c.way_from.result c.in-PcLo.is c.way_from.ensures
    (λ spells lower. c.put_lower-in-PcLo.ensures (ap decoded c.u32_at-word.ensures ∙ spells) lower)
