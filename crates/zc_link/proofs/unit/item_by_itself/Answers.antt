-- The item takes the bytes that the layout has for its place.
use Rattle.std.proofs.Common.{◌≡◌}
use Rattle.shrink_layout.specs.Units.{OneItem}
use Rattle.zc_link.specs.Codes.{code_bytes}
use Rattle.zc_link.specs.TextLayout.{size_in}
use Rattle.zc_link.proofs.ItemStarts.{alone_here, alone_number, alone_stands, has_item}
use Rattle.zc_link.proofs.Standing.{gathered}
use Rattle.zc_link.proofs.unit.item_by_itself.Given as given
use Rattle.zc_link.proofs.unit.item_by_itself.Goals as goal
use Rattle.zc_link.proofs.unit.item_by_itself.Goals.{After-written_size}

sized : (g : given.Over) (c : After-written_size g) → c.written_size.result ≡ size_in (g.L.Layout.layout c.args.layout.now) c.args.start.at
sized g c =
    let L = g.L.Layout.layout c.args.layout.now in
    let cut = c.recall_laid_out.ensures in
    c.written_size.ensures c.args.start.at (OneItem c.args.item) c.requires.unit
    (alone_number L (gathered L.inputs cut.ready.faultless) cut.ready cut.laid c.args.start.number c.args.start.code.now c.args.start.at c.args.item c.requires.starts)

pub written_size-requires : goal.written_size-requires
written_size-requires g c =
    let L = g.L.Layout.layout c.args.layout.now in
    let cut = c.recall_laid_out.ensures in
    has_item L (gathered L.inputs cut.ready.faultless) cut.ready cut.laid c.args.start.number c.args.start.code.now c.args.start.at c.args.item c.requires.starts

pub item_code-requires-clause-stands : goal.item_code-requires-clause-stands
item_code-requires-clause-stands g c =
    let L = g.L.Layout.layout c.args.layout.now in
    let cut = c.recall_laid_out.ensures in
    alone_stands L (gathered L.inputs cut.ready.faultless) cut.ready cut.laid c.args.start.number c.args.start.code.now c.args.start.at c.args.item c.requires.starts
    c.requires.unit c.args.start.address c.requires.address c.written_size.result (sized g (goal.at.item_code-requires-clause-stands g c).After-written_size)

pub item_code-requires-clause-number : goal.item_code-requires-clause-number
item_code-requires-clause-number g c =
    let L = g.L.Layout.layout c.args.layout.now in
    let cut = c.recall_laid_out.ensures in
    alone_number L (gathered L.inputs cut.ready.faultless) cut.ready cut.laid c.args.start.number c.args.start.code.now c.args.start.at c.args.item c.requires.starts

pub returns : goal.returns
returns g c =
    let L = g.L.Layout.layout c.args.layout.now in
    let cut = c.recall_laid_out.ensures in
    alone_here L (gathered L.inputs cut.ready.faultless) cut.ready cut.laid c.args.start.number c.args.start.code.now c.args.start.at c.args.item c.requires.starts
    c.requires.unit c.args.start.address c.requires.address c.written_size.result (sized g (goal.at.returns g c).After-written_size) (code_bytes c.item_code.result) c.item_code.ensures
