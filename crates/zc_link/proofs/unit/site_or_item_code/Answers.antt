-- Where there is a halfword of a jump through the table that is what is written, and where there is none the item is.
use Rattle.std.proofs.Common.{◌≡◌, ◌<◌, ℕ, Option, Some, None, true, sym, ap, subst}
use Rattle.std.specs.Option.{is_some}
use Rattle.psabi_sym.specs.Faults.{gather_fault}
use Rattle.psabi_sym.specs.Inputs.{parsed}
use Rattle.block_cut.specs.Items.{is_start_at}
use Rattle.block_cut.specs.declared.item.Item.{Item}
use Rattle.shrink_layout.specs.Halves.{IsSiteHalf}
use Rattle.shrink_layout.specs.Units.{CodeUnit, OneItem, OneSite, item_unit}
use Rattle.zc_decode.specs.declared.short.Short.TheVariants.{TableJump}
use Rattle.zc_encode.specs.Halves.{encoded16}
use Rattle.zc_link.specs.TextLayout.{TextLayout}
use Rattle.zc_link.proofs.ItemStarts.{alone_number, alone_start, has_item, site_few, site_here, site_some}
use Rattle.zc_link.proofs.Standing.{gathered}
use Rattle.zc_link.proofs.unit.site_or_item_code.Given as given
use Rattle.zc_link.proofs.unit.site_or_item_code.Goals as goal
use Rattle.zc_link.proofs.unit.site_or_item_code.Goals.{After-site_half}

-- an item with a halfword for the table is a jump through it
site_of :
    (slot : Option ℕ) (unit : Option CodeUnit) (item : Item) (half : ℕ) → unit ≡ Some (item_unit slot item) → IsSiteHalf unit (Some half)
    → (n : ℕ) × (unit ≡ Some (OneSite n)) × (encoded16 (TableJump n) ≡ Some half)
site_of None unit item half is has = absurd (let none = subst (λ u. IsSiteHalf u (Some half)) is has in cc none)
site_of (Some n) unit item half is has = (n, is, sym (subst (λ u. IsSiteHalf u (Some half)) is has))

-- and without one the item itself
item_of :
    (slot : Option ℕ) (unit : Option CodeUnit) (item : Item) → ((n : ℕ) → unit ≡ Some (OneSite n) → n < 256) → unit ≡ Some (item_unit slot item)
    → IsSiteHalf unit None → unit ≡ Some (OneItem item)
item_of None unit item few is has = is
item_of (Some n) unit item few is has =
    let none = subst (λ u. IsSiteHalf u None) is has in
    absurd (cc (ap is_some none, site_some n (few n is)))

module _ (g : given.Over) (c : After-site_half g) where
  abbrev L : TextLayout
  L = g.L.Layout.layout c.args.layout.now

  abbrev none : gather_fault L.inputs ≡ None
  none = gathered L.inputs c.recall_laid_out.ensures.ready.faultless

  start : is_start_at (parsed L.inputs).objects c.args.start.at ≡ true
  start = alone_start L none c.recall_laid_out.ensures.ready c.recall_laid_out.ensures.laid c.args.start.number c.args.start.code.now c.args.start.at c.args.item c.requires.starts

  half_of : IsSiteHalf (L.unit c.args.start.at) c.site_half.result
  half_of =
      c.site_half.ensures c.args.start.at start
      (alone_number L none c.recall_laid_out.ensures.ready c.recall_laid_out.ensures.laid c.args.start.number c.args.start.code.now c.args.start.at c.args.item c.requires.starts)

pub site_half-requires : goal.site_half-requires
site_half-requires g c =
    let L = g.L.Layout.layout c.args.layout.now in
    has_item L (gathered L.inputs c.recall_laid_out.ensures.ready.faultless) c.recall_laid_out.ensures.ready c.recall_laid_out.ensures.laid c.args.start.number c.args.start.code.now c.args.start.at c.args.item
    c.requires.starts

pub item_by_itself-requires-clause-unit : goal.item_by_itself-requires-clause-unit
item_by_itself-requires-clause-unit g c =
    let a = (goal.at.item_by_itself-requires-clause-unit g c).After-site_half in
    let unit = c.requires.unit in
    item_of unit.0 ((L g a).unit c.args.start.at) c.args.item
    (λ n is. site_few (L g a) c.recall_laid_out.ensures.laid c.args.start.code.now c.args.start.at n is c.args.start.address c.requires.address) unit.1
    (subst (IsSiteHalf ((L g a).unit c.args.start.at)) c.in-None.is (half_of g a))

pub returns-in-Some : goal.returns-in-Some
returns-in-Some g c =
    let a = (goal.at.returns-in-Some g c).After-site_half in
    let unit = c.requires.unit in
    let half = c.in-Some.half in
    let site = site_of unit.0 ((L g a).unit c.args.start.at) c.args.item half unit.1 (subst (IsSiteHalf ((L g a).unit c.args.start.at)) c.in-Some.is (half_of g a)) in
    site_here (L g a) c.recall_laid_out.ensures.laid c.args.start.code.now c.args.start.at site.0 site.1 c.args.start.address c.requires.address half site.2
