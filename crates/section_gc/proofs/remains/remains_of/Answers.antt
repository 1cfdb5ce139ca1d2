use Rattle.std.proofs.Common.{◌∙◌, sym, ap, cond}
use Rattle.std.specs.Prelude.{not}
use Rattle.section_gc.specs.declared.remains.Remains.TheVariants.{Empty, Whole}
use Rattle.section_gc.proofs.RemainsLaws.{role-remains, role_remains}
use Rattle.section_gc.proofs.remains.remains_of.Goals as goal

pub returns-in-Dropped : goal.returns-in-Dropped
returns-in-Dropped c = λ s is. ap (role_remains c.args.needed c.args.number) (sym c.in-Dropped.is ∙ is) ∙ role-remains c.args.needed c.args.number s

pub returns-in-InClass : goal.returns-in-InClass
returns-in-InClass c = λ s is. ap (role_remains c.args.needed c.args.number) (sym c.in-InClass.is ∙ is) ∙ role-remains c.args.needed c.args.number s

pub returns-then-needed : goal.returns-then-needed
returns-then-needed c = λ s is.
    ap (λ b. cond (not b) (Empty c.args.number) (Whole c.args.number)) (sym c.if-needed.true)
    ∙ ap (role_remains c.args.needed c.args.number) (sym c.in-Code.is ∙ is) ∙ role-remains c.args.needed c.args.number s

pub returns-else-needed : goal.returns-else-needed
returns-else-needed c = λ s is.
    ap (λ b. cond (not b) (Empty c.args.number) (Whole c.args.number)) (sym c.if-needed.false)
    ∙ ap (role_remains c.args.needed c.args.number) (sym c.in-Code.is ∙ is) ∙ role-remains c.args.needed c.args.number s
