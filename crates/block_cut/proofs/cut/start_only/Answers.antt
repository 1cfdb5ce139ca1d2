use Rattle.std.proofs.Common.{◌≡◌, cond, Some, None, sym, ap, ◌∙◌}
use Rattle.psabi_sym.specs.Inputs.{parsed}
use Rattle.block_cut.specs.Items.{item_at, start_only}
use Rattle.block_cut.proofs.StartItems.{item_starts, no_item_starts}
use Rattle.block_cut.proofs.cut.start_only.Goals as goal

pub returns-in-None : goal.returns-in-None
returns-in-None c =
    let inputs = c.args.objects.now in
    let p = c.in-Code.p in
    let at : item_at (parsed inputs) p ≡ None = sym c.item.ensures ∙ c.in-None.is in
    sym (ap (start_only (parsed inputs).objects) c.in-Code.is ∙ ap (λ b. cond b (Some p) None) (no_item_starts (parsed inputs) p at))

pub returns-in-Some : goal.returns-in-Some
returns-in-Some c =
    let inputs = c.args.objects.now in
    let p = c.in-Code.p in
    let at = sym c.item.ensures ∙ c.in-Some.is in
    sym (ap (start_only (parsed inputs).objects) c.in-Code.is ∙ ap (λ b. cond b (Some p) None) (item_starts (parsed inputs) p _ at))
