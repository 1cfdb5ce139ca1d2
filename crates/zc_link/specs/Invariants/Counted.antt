-- What is known of an image and its counts before they are a link.
use Rattle.std.specs.Prelude.{◌≡◌, List, Option}
use Rattle.zc_base.specs.declared.place.Place.{Place}
use Rattle.psabi_sym.specs.Inputs.{Inputs, parsed}
use Rattle.block_cut.specs.PlainLayout.{plain_counts}
use Rattle.shrink_layout.specs.Settled.{settled_counts, settled_end}
use Rattle.zc_link.specs.Links.{IsImageOf}
use Rattle.zc_link.specs.Standing.{IsReady}
use Rattle.zc_link.specs.TextLayout.{zc_layout}
use Rattle.zc_link.specs.declared.zc.Counted.{Counted}

-- the image of the layout behind a table of these slots, and what the plain layout and this one count
pub record IsCountedImage (inputs : Inputs) (slots : List (Option Place)) (counted : Counted) : Type 0 where
  pub ready : IsReady inputs
  pub image : IsImageOf (zc_layout inputs slots) 1 (settled_end (parsed inputs) slots) counted.elf.items
  pub plain : counted.plain_counts ≡ plain_counts (parsed inputs)
  pub counts : counted.image_counts ≡ settled_counts (parsed inputs) slots
