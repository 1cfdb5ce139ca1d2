-- The address of a piece is its block's and the bytes from there on, and isn't far from where the text begins.
use Rattle.std.proofs.Common.{◌≡◌, ◌∙◌, ◌+◌, ◌*◌, ◌/◌, ◌≤◌, List, Option, length, slice_index, take, ap, subst, arith}
use Rattle.std.specs.List.{sum}
use Rattle.zc_base.specs.MemMap.{IsMap}
use Rattle.zc_base.specs.declared.place.Place.{Place}
use Rattle.psabi_sym.specs.Inputs.{Inputs, parsed}
use Rattle.shrink_layout.specs.Invariants.Blocks.{block_size}
use Rattle.shrink_layout.specs.Pieces.{pieces_of}
use Rattle.shrink_layout.specs.Settled.{SettledLayout, settled_addresses}
use Rattle.shrink_layout.proofs.ChangeLaws.{block_start, index_is}
use Rattle.shrink_layout.proofs.KeptLaws.{address_few, address_summed, widths_long}
use Rattle.shrink_layout.proofs.settled.Settled.piece_address.Goals as goal
use Rattle.shrink_layout.proofs.settled.Settled.piece_address.Goals.{After-in_block}

pub in_block-requires : goal.in_block-requires
in_block-requires c =
    let own = c.self.inside in
    omega (
      arith,
      c.requires,
      ap (λ (x : SettledLayout). length (pieces_of (parsed x.inputs) x.slots)) c.self.view_is,
      ap length c.self.invariant.sums_are,
      widths_long (parsed own.planned) own.slots.items,
    )

module _ (c : After-in_block) where
  abbrev own : Inputs
  own = c.self.inside.planned

  abbrev slots : List (Option Place)
  slots = c.self.inside.slots.items

  most : c.args.k ≤ length (pieces_of (parsed own) slots)
  most = omega (arith, c.requires, ap (λ (x : SettledLayout). length (pieces_of (parsed x.inputs) x.slots)) c.self.view_is)

  -- where the piece's block begins
  start : c.index.result.now ≡ slice_index (settled_addresses (parsed own) slots) (c.args.k / block_size * block_size)
  start =
      let starts = c.self.invariant.block_starts_are in
      index_is c.self.inside.block_starts.items (c.args.k / block_size) _ c.index.result.now (omega (arith, most, starts.long)) c.index.ensures
      ∙ block_start (settled_addresses (parsed own) slots) (length (pieces_of (parsed own) slots)) c.self.inside.block_starts.items c.args.k starts most

  address : c.index.result.now + c.in_block.result ≡ slice_index (settled_addresses (parsed own) slots) c.args.k
  address =
      omega (
        arith,
        start,
        c.in_block.ensures,
        ap (λ l. sum (take c.args.k l)) c.self.invariant.sums_are,
        ap (λ l. sum (take (c.args.k / block_size * block_size) l)) c.self.invariant.sums_are,
        address_summed (parsed own) slots (c.args.k / block_size * block_size) (omega (arith, most)),
        address_summed (parsed own) slots c.args.k most,
      )

pub overflow_add-result : goal.overflow_add-result
overflow_add-result c =
    let a = (goal.at.overflow_add-result c).After-in_block in
    let own = c.self.inside in
    let map = subst IsMap (ap (λ (x : Inputs). x.map) c.cut.ensures.same) c.recall_invariant.ensures.is_map in
    omega (
      arith,
      address a,
      address_few own.planned c.self.invariant.faultless own.slots.items c.self.invariant.targets.few c.args.k (most a),
      map.code,
      map.room,
    )

pub returns : goal.returns
returns c =
    let a = (goal.at.returns c).After-in_block in
    address a ∙ ap (λ (x : SettledLayout). slice_index (settled_addresses (parsed x.inputs) x.slots) c.args.k) c.self.view_is
