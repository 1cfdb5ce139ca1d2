use Rattle.std.proofs.Common.{◌≡◌, ◌+◌, false, cond, sym, ap, subst, ◌∙◌, arith}
use Rattle.std.proofs.lemmas.List.{get_or-replicate, length-replicate}
use Rattle.elf32_read.specs.Header.{section_count}
use Rattle.elf32_read.proofs.Marks.{AreMarked, marked_more, marked_once, marked_same, marked_twice}
use Rattle.elf32_read.proofs.relas.has_two_relas.Goals as goal
use Rattle.elf32_read.proofs.relas.has_two_relas.Goals.{then-is_kept_rela+else-changed-header, else-is_kept_rela}

-- nothing is marked yet
pub loop-i-init : goal.loop-i-init
loop-i-init c = record {
  room = omega (arith, c.requires, length-replicate 4096 false);
  each = λ k lt kept. sym (ap (λ b. cond b 1 0) (get_or-replicate 4096 k false false (omega (arith, lt, c.requires))));
}

-- the current section is the second RELA for its section
pub returns-then-changed-header : goal.returns-then-changed-header
returns-then-changed-header c =
    let bytes = c.args.sections.now in
    let header = c.header-header.result in
    sym (marked_twice bytes c.loop-i.changed c.loop-i.i header c.header-header.ensures.header (omega arith) c.loop-i.invariant (sym c.is_kept_rela.ensures ∙ c.if-is_kept_rela.true) c.if-changed-header.true)

pub loop-i-preserved : goal.loop-i-preserved
loop-i-preserved c =
    let bytes = c.args.sections.now in
    let i = c.loop-i.i in
    let header = c.header-header.result in
    elim c.if-is_kept_rela.branch [
      | then-is_kept_rela+else-changed-header w ↦
          subst (λ marks. AreMarked bytes marks (i + 1)) (sym w.changed-is) (marked_more bytes c.loop-i.changed i header c.header-header.ensures.header c.loop-i.invariant (sym c.is_kept_rela.ensures ∙ w.if-is_kept_rela.true) w.if-changed-header.false)
      | else-is_kept_rela w ↦
          subst (λ marks. AreMarked bytes marks (i + 1)) (sym w.changed-is) (marked_same bytes c.loop-i.changed i header c.header-header.ensures.header c.loop-i.invariant (sym c.is_kept_rela.ensures ∙ w.if-is_kept_rela.false))
    ]

pub returns : goal.returns
returns c =
    let bytes = c.args.sections.now in
    let all : c.loop-i.i ≡ section_count bytes = omega arith in
    sym (marked_once bytes c.loop-i.changed (subst (AreMarked bytes c.loop-i.changed) all c.loop-i.invariant))
