use Rattle.std.proofs.Common.{◌+◌, ◌*◌, ◌%◌, ◌^◌, cond, Some, None, ap, ap₂, ◌∙◌}
use Rattle.rv_decode.specs.Memory.{extents_of, is_text, lies_in}
use Rattle.rv_decode.specs.State.{ZcCore, word_at}
use Rattle.zc_machine.proofs.machine.Machine.table_entry.Goals as goal

pub returns : goal.returns
returns c =
    let z = c.args.self.now in
    let jvt = ap (λ (y : ZcCore). y.jvt) c.self.view_is in
    c.code_word.ensures
    ∙ ap (λ a. cond (lies_in is_text (extents_of z.memory) a 4) (Some (word_at z a)) None) (ap₂ (λ base index. (base + 4 * index) % 2 ^ 32) jvt c.from.ensures)
