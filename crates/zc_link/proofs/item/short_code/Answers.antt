-- The item's own two bytes where they are kept, and else the halfword that the layout knows.
use Rattle.std.proofs.Common.{refl, ◌∙◌}
use Rattle.psabi_sym.specs.Inputs.{parsed}
use Rattle.shrink_layout.proofs.NumberLaws.{item_target}
use Rattle.zc_link.proofs.ItemBytes.{half_written, own_written, patched_within}
use Rattle.zc_link.proofs.item.short_code.Goals as goal

pub half_at-requires : goal.half_at-requires
half_at-requires g c =
    let L = g.L.Layout.layout c.args.layout.now in
    (c.args.start.at, item_target (parsed L.inputs) c.args.start.at c.args.item c.requires.stands.is, c.requires.number)

pub own_bytes-requires : goal.own_bytes-requires
own_bytes-requires g c =
    let e = c.args.start in
    patched_within (g.L.Layout.layout c.args.layout.now) e.code.now e.at c.args.item e.address 2 c.requires.stands c.requires.patched

pub returns-then-start : goal.returns-then-start
returns-then-start g c =
    let e = c.args.start in
    let L = g.L.Layout.layout c.args.layout.now in
    let keeps = c.requires.keeps ∙ c.if-start.true in
    own_written L e.code.now e.at c.args.item e.address 2 c.requires.stands c.requires.patched refl _ c.own_bytes.ensures.own
    c.own_bytes.ensures.octets keeps (c.recall_laid_out.ensures.laid.kept e.at c.args.item keeps c.requires.stands.unit c.requires.stands.takes)

pub returns : goal.returns
returns g c =
    let e = c.args.start in
    let L = g.L.Layout.layout c.args.layout.now in
    let short = c.requires.keeps ∙ c.if-start.false in
    half_written L e.code.now e.at c.args.item e.address 2 c.requires.stands c.requires.patched refl c.half_at.result short
    (c.half_at.ensures e.at c.args.item c.requires.stands.unit c.requires.number c.requires.stands.takes short)
