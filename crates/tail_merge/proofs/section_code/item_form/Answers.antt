use Rattle.std.proofs.Common.{sym}
use Rattle.tail_merge.proofs.SectionCodeLaws.{rises}
use Rattle.tail_merge.proofs.section_code.item_form.Goals as goal

pub returns-in-None : goal.returns-in-None
returns-in-None c = λ inputs l is st. c.kept_form.ensures inputs l is st (sym (c.in-None.ensures (rises inputs l c.args.tails.now c.args.relocs.now is)))

pub returns-in-Some : goal.returns-in-Some
returns-in-Some c = λ inputs l is st. c.tail_form.ensures inputs l c.args.relocs.now is st (sym (c.in-Some.ensures (rises inputs l c.args.tails.now c.args.relocs.now is)))
