use Rattle.std.proofs.Common.{ap, ◌∙◌, arith, slice_index_or, false}
use Rattle.psabi_sym.proofs.UsedLaws.{marked_more, marked_same}
use Rattle.psabi_sym.proofs.used.mark_section.Goals as goal
use Rattle.psabi_sym.proofs.used.mark_section.Goals.{then-symbol-marks, else-symbol-marks}

pub loop-k-preserved : goal.loop-k-preserved
loop-k-preserved c = λ s within.
    let relocs = c.args.relocs.now in
    elim c.if-symbol-marks.branch [
      | then-symbol-marks w ↦
          ap (λ l. slice_index_or l s false) w.marks-is
          ∙ marked_more c.args.marks.now c.loop-k.marks relocs c.loop-k.k c.get-symbol.result c.get-symbol.ensures (omega arith) c.loop-k.invariant (omega arith) s within
      | else-symbol-marks w ↦
          ap (λ l. slice_index_or l s false) w.marks-is
          ∙ marked_same c.args.marks.now c.loop-k.marks relocs c.loop-k.k c.get-symbol.result c.get-symbol.ensures (omega arith) c.loop-k.invariant (omega arith) s within
    ]
