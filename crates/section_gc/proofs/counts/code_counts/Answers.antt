use Rattle.std.proofs.Common.{◌∙◌, ap, arith}
use Rattle.psabi_sym.specs.declared.section_row.SectionRow.{SectionRow}
use Rattle.reach.specs.Reach.{mark_of}
use Rattle.section_gc.specs.Counts.{with_code}
use Rattle.section_gc.proofs.CountLaws.{counts-passed, counts-turn, has-room, row-code}
use Rattle.section_gc.proofs.counts.code_counts.Goals as goal
use Rattle.section_gc.proofs.counts.code_counts.Goals.{then-is_code, else-is_code}
use Rattle.psabi_sym.specs.Inputs.{parsed}

pub with_code-counts-requires-clause-kept : goal.with_code-counts-requires-clause-kept
with_code-counts-requires-clause-kept c =
    let row = c.section_row-row.ensures in
    let code = row-code c.args.objects.now.fixed c.section_row-row.result row.0 c.is_code.result row.2 c.is_code.ensures ∙ c.if-is_code.true in
    (has-room c.args.objects.now c.args.marks.now c.loop-k.k row.0 c.loop-k.counts c.section_count-k-end.ensures.faultless row.1 code c.loop-k.invariant).kept

pub with_code-counts-requires-clause-all : goal.with_code-counts-requires-clause-all
with_code-counts-requires-clause-all c =
    let row = c.section_row-row.ensures in
    let code = row-code c.args.objects.now.fixed c.section_row-row.result row.0 c.is_code.result row.2 c.is_code.ensures ∙ c.if-is_code.true in
    (has-room c.args.objects.now c.args.marks.now c.loop-k.k row.0 c.loop-k.counts c.section_count-k-end.ensures.faultless row.1 code c.loop-k.invariant).all

pub with_code-counts-requires-clause-bytes : goal.with_code-counts-requires-clause-bytes
with_code-counts-requires-clause-bytes c =
    let row = c.section_row-row.ensures in
    let code = row-code c.args.objects.now.fixed c.section_row-row.result row.0 c.is_code.result row.2 c.is_code.ensures ∙ c.if-is_code.true in
    (has-room c.args.objects.now c.args.marks.now c.loop-k.k row.0 c.loop-k.counts c.section_count-k-end.ensures.faultless row.1 code c.loop-k.invariant).bytes

pub with_code-counts-requires-clause-from : goal.with_code-counts-requires-clause-from
with_code-counts-requires-clause-from c =
    let row = c.section_row-row.ensures in
    let code = row-code c.args.objects.now.fixed c.section_row-row.result row.0 c.is_code.result row.2 c.is_code.ensures ∙ c.if-is_code.true in
    let room = has-room c.args.objects.now c.args.marks.now c.loop-k.k row.0 c.loop-k.counts c.section_count-k-end.ensures.faultless row.1 code c.loop-k.invariant in
    let size = ap (λ (r : SectionRow). r.size) row.2 in
    omega (arith, room.from, size)

pub loop-k-preserved : goal.loop-k-preserved
loop-k-preserved c =
    let row = c.section_row-row.ensures in
    let objects = (parsed c.args.objects.now).objects in
    elim c.if-is_code.branch [
      | then-is_code w ↦
          let code = row-code c.args.objects.now.fixed c.section_row-row.result row.0 c.is_code.result row.2 c.is_code.ensures ∙ w.if-is_code.true in
          w.counts-is ∙ w.with_code-counts.ensures
          ∙ ap (λ (r : SectionRow). with_code c.loop-k.counts r.size (mark_of c.args.marks.now c.loop-k.k)) row.2
          ∙ counts-turn objects c.args.marks.now c.loop-k.k row.0 c.loop-k.counts row.1 code c.loop-k.invariant
      | else-is_code w ↦
          let other = row-code c.args.objects.now.fixed c.section_row-row.result row.0 c.is_code.result row.2 c.is_code.ensures ∙ w.if-is_code.false in
          w.counts-is ∙ counts-passed objects c.args.marks.now c.loop-k.k row.0 c.loop-k.counts row.1 other c.loop-k.invariant
    ]
