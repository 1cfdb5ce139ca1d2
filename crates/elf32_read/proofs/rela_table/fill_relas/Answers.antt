use Rattle.std.proofs.Common.{◌≡◌, ◌+◌, sym, subst, ◌∙◌, arith}
use Rattle.elf32_read.specs.Header.{section_count}
use Rattle.elf32_read.proofs.RelaTable.{AreFound, found_all, found_next, found_next_same, found_none}
use Rattle.elf32_read.proofs.rela_table.fill_relas.Goals as goal
use Rattle.elf32_read.proofs.rela_table.fill_relas.Goals.{then-is_kept_rela, else-is_kept_rela}

pub loop-i-init : goal.loop-i-init
loop-i-init c = subst (λ t. AreFound c.args.sections.now t 0) (sym c.requires.empty) (found_none c.args.sections.now c.requires.once)

pub loop-i-preserved : goal.loop-i-preserved
loop-i-preserved c =
    let bytes = c.args.sections.now in
    let i = c.loop-i.i in
    let header = c.header-header.result in
    elim c.if-is_kept_rela.branch [
      | then-is_kept_rela w ↦
          subst (λ t. AreFound bytes t (i + 1)) (sym w.table-is) (found_next bytes c.requires.once c.loop-i.table i header c.header-header.ensures.header (omega arith) c.loop-i.invariant (sym c.is_kept_rela.ensures ∙ w.if-is_kept_rela.true))
      | else-is_kept_rela w ↦
          subst (λ t. AreFound bytes t (i + 1)) (sym w.table-is) (found_next_same bytes c.requires.once c.loop-i.table i header c.header-header.ensures.header c.loop-i.invariant (sym c.is_kept_rela.ensures ∙ w.if-is_kept_rela.false))
    ]

pub returns : goal.returns
returns c =
    let bytes = c.args.sections.now in
    let all : c.loop-i.i ≡ section_count bytes = omega arith in
    found_all bytes c.requires.once c.loop-i.table c.loop-i.i all c.loop-i.invariant
