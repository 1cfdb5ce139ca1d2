-- What takes two bytes has a short form, which is the halfword that is known of it.
use Rattle.shrink_layout.specs.Units.{OneItem}
use Rattle.zc_link.specs.TextLayout.{zc_layout}
use Rattle.zc_link.proofs.LaidLaws.{unit_address}
use Rattle.zc_link.proofs.SettledLaws.{item_short}
use Rattle.zc_link.proofs.layout.SettledLayout.half_at.Goals as goal

pub returns : goal.returns
returns c = λ q item is number two free.
    let inputs = c.args.self.now.inputs in
    let slots = c.args.self.now.slots in
    let cut = c.recall_laid_out.ensures in
    let at = unit_address (zc_layout inputs slots) cut.laid q (OneItem item) is in (
      c.half_at.type_inv,
      λ i known.
          c.half_at.ensures q item is number i known (item_short inputs cut.ready.faultless cut.ready.is_map slots cut.laid.few q at.0 item i free is at.1 two known),
    )
