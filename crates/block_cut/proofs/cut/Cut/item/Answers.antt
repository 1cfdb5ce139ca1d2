use Rattle.std.proofs.Common.{◌≡◌, ◌+◌, ◌<◌, ◌^◌, Option, Some, None, IfSome, ap, sym, ◌∙◌, arith}
use Rattle.psabi_sym.specs.Inputs.{parsed}
use Rattle.block_cut.specs.declared.item.Item.{Item}
use Rattle.block_cut.specs.Items.{item_at}
use Rattle.block_cut.proofs.FaultLaws.{faultless}
use Rattle.block_cut.proofs.SizeLaws.{item_sized}
use Rattle.block_cut.proofs.cut.Cut.item.Goals as goal

pub returns-clause-item : goal.returns-clause-item
returns-clause-item c =
    c.item.ensures
    ∙ ap (λ v. item_at (parsed v) c.args.p) c.self.view_is

-- an item ends in its section, which is no longer than a file
pub returns-clause-room : goal.returns-clause-room
returns-clause-room c =
    let inputs = c.self.inside.objects in
    let none = (faultless inputs c.self.invariant.faultless).gathered in
    room c.item.result (sym c.item.ensures)
  where
    room : (o : Option Item) → item_at (parsed c.self.inside.objects) c.args.p ≡ o → IfSome o (λ _. c.args.p.offset + 256 < 2 ^ 32)
    room None is = tt
    room (Some i) is =
        let inputs = c.self.inside.objects in
        let none = (faultless inputs c.self.invariant.faultless).gathered in
        omega (arith, (item_sized inputs none c.args.p i is).inside)
