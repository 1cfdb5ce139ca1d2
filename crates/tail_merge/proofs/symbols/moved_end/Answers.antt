use Rattle.std.proofs.Common.{◌∙◌, ◌+◌, None, Some, ap, ap₂, cond, sym}
use Rattle.std.specs.Prelude.{◌&&◌}
use Rattle.psabi_sym.specs.Inputs.{parsed}
use Rattle.tail_merge.specs.Merged.{is_edge, removed_at}
use Rattle.tail_merge.specs.Tails.{moved_down}
use Rattle.tail_merge.proofs.SymbolTurns.{both-none, past-edges}
use Rattle.tail_merge.proofs.symbols.moved_end.Goals as goal

pub returns-in_err-offset : goal.returns-in_err-offset
returns-in_err-offset c = λ s at code.
    let q = c.args.start in
    let inputs = c.args.cut.now in
    let past = past-edges inputs c.recall_invariant.ensures.gathered q.object q.section (q.offset + c.args.size) s at code c.in_err-offset.ensures in
    c.from_residual.ensures
    ∙ sym (both-none (is_edge s q.offset) (is_edge s (q.offset + c.args.size)) (Some (moved_down (removed_at (parsed inputs) q.object q.section) (q.offset + c.args.size))) past)

pub returns-then-is_edge-2 : goal.returns-then-is_edge-2
returns-then-is_edge-2 c = λ s at code.
    let q = c.args.start in
    let inputs = parsed c.args.cut.now in
    let end = c.in_ok-offset.ensures in
    let removed = removed_at inputs q.object q.section in
    let moved = Some (moved_down removed (q.offset + c.args.size)) in
    let first = sym (c.is_edge.ensures s at code) ∙ c.if-is_edge.true in
    let second = ap (is_edge s) (sym end) ∙ sym (c.is_edge-then-is_edge.ensures s at code) ∙ c.if-is_edge-2.true in
    ap Some (c.moved_down.ensures inputs q.object q.section c.requires ∙ ap (moved_down removed) end)
    ∙ sym (ap₂ (λ a b. cond (a && b) moved None) first second)
