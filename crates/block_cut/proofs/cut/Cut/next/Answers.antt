use Rattle.std.proofs.Common.{◌+◌, cond, Some, None, sym, ap, ◌∙◌}
use Rattle.psabi_sym.specs.Inputs.{parsed}
use Rattle.block_cut.specs.Items.{next_at}
use Rattle.block_cut.specs.declared.code_place.CodePlace.{CodePlace}
use Rattle.block_cut.proofs.StartItems.{item_starts, no_item_starts}
use Rattle.block_cut.proofs.cut.Cut.next.Goals as goal

pub returns-in_err-_item : goal.returns-in_err-_item
returns-in_err-_item c =
    let inputs = parsed c.args.self.now in
    let p = c.args.p in
    c.from_residual.ensures ∙ sym (ap (λ b. cond b (Some (next_at inputs.objects p)) None) (no_item_starts inputs p (sym c.in_err-_item.ensures.item)))

pub returns : goal.returns
returns c =
    let inputs = parsed c.args.self.now in
    let p = c.args.p in
    let moved = c.moved.ensures ∙ ap (λ (there : CodePlace). record p { offset = p.offset + there.size }) c.in_ok-size.ensures.1 in
    ap Some moved ∙ sym (ap (λ b. cond b (Some (next_at inputs.objects p)) None) (item_starts inputs p _ (sym c.in_ok-_item.ensures.item)))
