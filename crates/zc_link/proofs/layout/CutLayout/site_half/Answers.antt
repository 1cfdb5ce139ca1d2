-- No item of a cut is written as a jump through a table.
use Rattle.std.proofs.Common.{Option, Some, None, refl}
use Rattle.std.specs.Option.{option_map}
use Rattle.psabi_sym.specs.Inputs.{parsed}
use Rattle.block_cut.specs.Items.{item_at}
use Rattle.block_cut.specs.declared.item.Item.{Item}
use Rattle.shrink_layout.specs.Halves.{IsSiteHalf}
use Rattle.shrink_layout.specs.Units.{OneItem}
use Rattle.zc_link.proofs.layout.CutLayout.site_half.Goals as goal

no_site : (o : Option Item) → IsSiteHalf (option_map OneItem o) None
no_site None = refl
no_site (Some i) = refl

pub returns : goal.returns
returns c = λ q start number. no_site (item_at (parsed c.args.self.now) q)
