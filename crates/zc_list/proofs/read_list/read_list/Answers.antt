use Rattle.zc_list.specs.Fault.{large}
use Rattle.zc_list.proofs.ResultLaws.{complete, faulty, spelled}
use Rattle.zc_list.proofs.read_list.read_list.Goals as goal

pub returns-then-text-gt-LIST_LIMIT-clause-fault : goal.returns-then-text-gt-LIST_LIMIT-clause-fault
returns-then-text-gt-LIST_LIMIT-clause-fault c = large c.if-text-gt-LIST_LIMIT.true

pub returns-clause-spells : goal.returns-clause-spells
returns-clause-spells c = spelled c.read_titled.result (λ v. v.items) c.args.text.now c.read_titled.ensures.ok

pub returns-clause-fault : goal.returns-clause-fault
returns-clause-fault c = faulty c.read_titled.result c.args.text.now c.read_titled.ensures.err

pub returns-clause-complete : goal.returns-clause-complete
returns-clause-complete c = λ segments is small. complete c.read_titled.result (λ v. v.items) c.args.text.now c.read_titled.ensures.ok c.read_titled.ensures.err segments is
