-- What is kept is refused before it is gathered. The check finds the other cases.
use Rattle.std.proofs.Common.{◌≡◌, ◌∙◌, sym, subst}
use Rattle.psabi_sym.specs.Objects.{contents_of}
use Rattle.zcld.specs.ErrLine.{err_line}
use Rattle.zcld.specs.Outcome.{link_outcome}
use Rattle.zcld.proofs.Refusals.{names_in_none, names_none}
use Rattle.zcld.proofs.objects.gather.Goals as goal

pub returns-in-Some-clause-err : goal.returns-in-Some-clause-err
returns-in-Some-clause-err c = λ read all.
    let fault = c.in-Some.fault in
    let left = contents_of c.alone.result.files.items in
    let is = c.in-Some.ensures.some read all c.args.options.now in
    let outcome_is = c.alone.ensures.outcome ∙ c.from.ensures in
    record {
      fault = fault;
      outcome_is = outcome_is;
      refused = is.0;
      line = subst (λ o. err_line left o ≡ err_line read o) (sym outcome_is) (names_in_none (link_outcome fault) left read (names_none fault is.1));
    }
