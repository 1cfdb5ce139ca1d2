use Rattle.std.proofs.Common.{◌≡◌, sym, ap, ◌∙◌, subst}
use Rattle.rv_decode.specs.Normal.{normal_of}
use Rattle.rv_decode.specs.Registers.{HasRegisters}
use Rattle.zc_encode.specs.Encoding.{IsEncoding}
use Rattle.zc_encode.specs.Halves.{half_for}
use Rattle.zc_encode.proofs.EncodingLaws.{encoding, encoding-move_as, encoding-move_sa, encoding-pop, encoding-popret, encoding-popretz, encoding-push, encoding-table}
use Rattle.zc_encode.proofs.encode16.encode16.Goals as goal

pub returns-in-Base-clause-first : goal.returns-in-Base-clause-first
returns-in-Base-clause-first c =
    let form = c.normal.ensures.form in
    let found : half_for (normal_of c.in-Base.i) ≡ c.encode.result = sym (c.encode.ensures.value ∙ ap half_for form) in
    subst (λ s. IsEncoding s c.encode.result) (sym c.in-Base.is) (encoding c.in-Base.i c.encode.result (subst HasRegisters form c.encode.ensures.registers) found)

pub returns-in-Push-clause-first : goal.returns-in-Push-clause-first
returns-in-Push-clause-first c = subst (λ s. IsEncoding s c.push_or_pop.result) (sym c.in-Push.is) (encoding-push c.in-Push.list c.in-Push.adjust c.push_or_pop.result (sym c.push_or_pop.ensures))

pub returns-in-Pop-clause-first : goal.returns-in-Pop-clause-first
returns-in-Pop-clause-first c = subst (λ s. IsEncoding s c.push_or_pop-in-Pop.result) (sym c.in-Pop.is) (encoding-pop c.in-Pop.list c.in-Pop.adjust c.push_or_pop-in-Pop.result (sym c.push_or_pop-in-Pop.ensures))

pub returns-in-PopRet-clause-first : goal.returns-in-PopRet-clause-first
returns-in-PopRet-clause-first c = subst (λ s. IsEncoding s c.push_or_pop-in-PopRet.result) (sym c.in-PopRet.is) (encoding-popret c.in-PopRet.list c.in-PopRet.adjust c.push_or_pop-in-PopRet.result (sym c.push_or_pop-in-PopRet.ensures))

pub returns-in-PopRetz-clause-first : goal.returns-in-PopRetz-clause-first
returns-in-PopRetz-clause-first c = subst (λ s. IsEncoding s c.push_or_pop-in-PopRetz.result) (sym c.in-PopRetz.is) (encoding-popretz c.in-PopRetz.list c.in-PopRetz.adjust c.push_or_pop-in-PopRetz.result (sym c.push_or_pop-in-PopRetz.ensures))

pub returns-in-MoveSa-clause-first : goal.returns-in-MoveSa-clause-first
returns-in-MoveSa-clause-first c = subst (λ s. IsEncoding s c.move_sa.result) (sym c.in-MoveSa.is) (encoding-move_sa c.in-MoveSa.first c.in-MoveSa.second c.move_sa.result (sym c.move_sa.ensures))

pub returns-in-MoveAs-clause-first : goal.returns-in-MoveAs-clause-first
returns-in-MoveAs-clause-first c = subst (λ s. IsEncoding s c.move_as.result) (sym c.in-MoveAs.is) (encoding-move_as c.in-MoveAs.first c.in-MoveAs.second c.move_as.result (sym c.move_as.ensures))

pub returns-in-TableJump-clause-first : goal.returns-in-TableJump-clause-first
returns-in-TableJump-clause-first c = subst (λ s. IsEncoding s c.table_jump.result) (sym c.in-TableJump.is) (encoding-table c.in-TableJump.index c.table_jump.result (sym c.table_jump.ensures))
