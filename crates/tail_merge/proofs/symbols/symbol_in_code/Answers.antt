use Rattle.std.proofs.Common.{◌∙◌, ◌+◌, ◌-◌, None, Some, ap, ap₂, cond}
use Rattle.std.specs.Prelude.{◌&&◌}
use Rattle.psabi_sym.specs.Inputs.{parsed}
use Rattle.tail_merge.specs.Merged.{is_edge, removed_at}
use Rattle.tail_merge.specs.Tails.{moved_down}
use Rattle.tail_merge.proofs.SymbolTurns.{size-by}
use Rattle.tail_merge.proofs.symbols.symbol_in_code.Goals as goal
use Rattle.tail_merge.proofs.symbols.symbol_in_code.Goals.{in-None, in-Some}

pub returns : goal.returns
returns c = λ home s at code is.
    let symbol = c.args.symbol in
    let inputs = parsed c.args.cut.now in
    let removed = removed_at inputs c.args.object symbol.home in
    let down = c.moved_down-value.ensures inputs c.args.object symbol.home c.requires in
    let end = symbol.value + symbol.size in
    let both = is_edge home symbol.value && is_edge home end in
    let value = moved_down removed symbol.value in
    let read = ap₂ (λ v z. cond (is_edge home v && is_edge home (v + z)) (moved_down removed (v + z) - moved_down removed v) 0) is.value is.size in
    record {
      name = is.name;
      value = down ∙ ap (moved_down removed) is.value;
      size = elim c.match-moved_end.branch [
        | in-None w ↦ w.size-is ∙ size-by both (moved_down removed end) value None (w.in-None.ensures home at code) ∙ read
        | in-Some w ↦
            w.size-is ∙ w.saturating_sub-size.ensures ∙ ap (λ v. w.in-Some.end - v) down
            ∙ size-by both (moved_down removed end) value (Some w.in-Some.end) (w.in-Some.ensures home at code) ∙ read
      ];
      bind = is.bind;
      kind = is.kind;
      home = is.home;
    }
