-- Each item of a cut is written by itself.
use Rattle.std.proofs.Common.{◌≡◌, Option, Some, None, refl}
use Rattle.std.specs.Option.{option_map}
use Rattle.psabi_sym.specs.Inputs.{parsed}
use Rattle.block_cut.specs.Items.{item_at}
use Rattle.block_cut.specs.declared.item.Item.{Item}
use Rattle.frame_match.specs.declared.role.Role.TheVariants.{Alone}
use Rattle.shrink_layout.specs.Units.{OneItem, role_unit}
use Rattle.zc_link.proofs.layout.CutLayout.role_at.Goals as goal

alone : (o : Option Item) → option_map OneItem o ≡ role_unit None o Alone
alone None = refl
alone (Some i) = refl

pub returns : goal.returns
returns c = λ q start number. (None, alone (item_at (parsed c.args.self.now) q))
