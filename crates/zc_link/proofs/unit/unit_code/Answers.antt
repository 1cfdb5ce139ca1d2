-- By what the item is to groups: outside of them, the first of one, or inside one, where nothing is written.
use Rattle.std.proofs.Common.{◌≡◌, ◌<◌, ◌^◌, Some, None, true, sym, ap, ◌∙◌, subst, arith}
use Rattle.psabi_sym.specs.Faults.{gather_fault}
use Rattle.psabi_sym.specs.Inputs.{parsed}
use Rattle.block_cut.specs.Items.{is_start_at}
use Rattle.frame_match.specs.declared.group.Group.{Group}
use Rattle.frame_match.specs.declared.role.Role.{Role}
use Rattle.frame_match.specs.declared.role.Role.TheVariants.{Alone, First, Inside}
use Rattle.shrink_layout.specs.Units.{CodeUnit, OneGroup, item_unit}
use Rattle.zc_link.specs.Codes.{code_bytes}
use Rattle.zc_link.specs.Standing.{HasHalf, IsRoleUnit}
use Rattle.zc_link.specs.TextLayout.{TextLayout}
use Rattle.zc_link.proofs.GroupHalves.{half_there, rest_low}
use Rattle.zc_link.proofs.GroupItems.{IsKnown, group_known}
use Rattle.zc_link.proofs.ItemStarts.{alone_number, alone_start, group_here, has_item}
use Rattle.zc_link.proofs.LaidLaws.{no_address, unit_address}
use Rattle.zc_link.proofs.Standing.{gathered}
use Rattle.zc_link.proofs.unit.unit_code.Given as given
use Rattle.zc_link.proofs.unit.unit_code.Goals as goal
use Rattle.zc_link.proofs.unit.unit_code.Goals.{After-role_at, In-First}

module _ (g : given.Over) (c : After-role_at g) where
  abbrev L : TextLayout
  L = g.L.Layout.layout c.args.layout.now

  abbrev none : gather_fault L.inputs ≡ None
  none = gathered L.inputs c.recall_laid_out.ensures.ready.faultless

  start : is_start_at (parsed L.inputs).objects c.args.start.at ≡ true
  start = alone_start L none c.recall_laid_out.ensures.ready c.recall_laid_out.ensures.laid c.args.start.number c.args.start.code.now c.args.start.at c.args.item c.requires.starts

  -- what is written there
  unit_of : IsRoleUnit (L.unit c.args.start.at) (Some c.args.item) c.role_at.result
  unit_of =
      subst (λ o. IsRoleUnit (L.unit c.args.start.at) o c.role_at.result) c.requires.starts.is
      (c.role_at.ensures c.args.start.at start
      (alone_number L none c.recall_laid_out.ensures.ready c.recall_laid_out.ensures.laid c.args.start.number c.args.start.code.now c.args.start.at c.args.item c.requires.starts))

  unit_by : (role : Role) → c.role_at.result ≡ role → IsRoleUnit (L.unit c.args.start.at) (Some c.args.item) role
  unit_by role is = subst (IsRoleUnit (L.unit c.args.start.at) (Some c.args.item)) is unit_of

  -- has the address at hand
  address_of : (u : CodeUnit) → L.unit c.args.start.at ≡ Some u → L.address c.args.start.at ≡ Some c.args.start.address
  address_of u unit =
      let at = unit_address L c.recall_laid_out.ensures.laid c.args.start.at u unit in
      at.1 ∙ ap Some (sym (c.requires.address at.0 at.1))

  -- a group's halfword and rest
  module _ (group : Group) (is : c.role_at.result ≡ First group) where
    unit : L.unit c.args.start.at ≡ Some (OneGroup group)
    unit = (unit_by (First group) is).1

    known : IsKnown L.inputs none c.args.start.at group (c.recall_laid_out.ensures.laid.each c.args.start.at c.args.start.address (OneGroup group) unit (address_of (OneGroup group) unit)).is
    known = group_known L.inputs none c.args.start.at group (c.recall_laid_out.ensures.laid.each c.args.start.at c.args.start.address (OneGroup group) unit (address_of (OneGroup group) unit)).is

    half : HasHalf group.kind
    half = subst HasHalf (sym known.half) (half_there known.kind known.is)

    rest : group.rest < 2 ^ 11
    rest = omega (arith, known.rest, rest_low known.kind known.is)

-- ---- the goals

pub role_at-requires : goal.role_at-requires
role_at-requires g c =
    let L = g.L.Layout.layout c.args.layout.now in
    has_item L (gathered L.inputs c.recall_laid_out.ensures.ready.faultless) c.recall_laid_out.ensures.ready c.recall_laid_out.ensures.laid c.args.start.number c.args.start.code.now c.args.start.at c.args.item
    c.requires.starts

pub site_or_item_code-requires-clause-unit : goal.site_or_item_code-requires-clause-unit
site_or_item_code-requires-clause-unit g c = unit_by g (goal.at.site_or_item_code-requires-clause-unit g c).After-role_at Alone c.in-Alone.is

pub site_or_item_code-requires-clause-address : goal.site_or_item_code-requires-clause-address
site_or_item_code-requires-clause-address g c =
    let a = (goal.at.site_or_item_code-requires-clause-address g c).After-role_at in
    let unit = unit_by g a Alone c.in-Alone.is in
    address_of g a (item_unit unit.0 c.args.item) unit.1

pub group_code-requires-clause-half : goal.group_code-requires-clause-half
group_code-requires-clause-half g c = half g (goal.at.group_code-requires-clause-half g c).After-role_at c.in-First.group c.in-First.is

pub group_code-requires-clause-rest : goal.group_code-requires-clause-rest
group_code-requires-clause-rest g c = rest g (goal.at.group_code-requires-clause-rest g c).After-role_at c.in-First.group c.in-First.is

pub returns-in-First-clause-written : goal.returns-in-First-clause-written
returns-in-First-clause-written g c =
    let a = (goal.at.returns-in-First-clause-written g c).After-role_at in
    let group = c.in-First.group in
    let own = unit g a group c.in-First.is in
    group_here (L g a) c.recall_laid_out.ensures.laid c.args.start.code.now c.args.start.at group own c.args.start.address (address_of g a (OneGroup group) own)
    (code_bytes c.group_code.result) c.group_code.ensures.long c.group_code.ensures.written c.group_code.ensures.octets

pub returns-in-Inside-clause-inside : goal.returns-in-Inside-clause-inside
returns-in-Inside-clause-inside g c =
    let a = (goal.at.returns-in-Inside-clause-inside g c).After-role_at in
    no_address (L g a) c.recall_laid_out.ensures.laid c.args.start.at (start g a) (unit_by g a Inside c.in-Inside.is).1
