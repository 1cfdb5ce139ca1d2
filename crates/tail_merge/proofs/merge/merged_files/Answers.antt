use Rattle.std.proofs.Common.{◌+◌, ◌≤◌, ◌∙◌, ap, ap₂, subst, sym}
use Rattle.zc_base.specs.MemMap.{IsMap, data_limit}
use Rattle.psabi_sym.specs.Data.{data_end}
use Rattle.psabi_sym.specs.Inputs.{Inputs, parsed}
use Rattle.psabi_sym.specs.LinkFault.{IsRefusal}
use Rattle.psabi_sym.specs.Objects.{contents_of}
use Rattle.block_cut.specs.Faults.{first_fault}
use Rattle.moved_runs.specs.Passes.{with_files}
use Rattle.tail_merge.proofs.CodeBytes.{merged-fewer}
use Rattle.tail_merge.proofs.Theorem.{are-merged}
use Rattle.tail_merge.proofs.WritableParts.{merged-oversized-broken}
use Rattle.tail_merge.proofs.merge.merged_files.Goals as goal

pub returns-in-Some-clause-err : goal.returns-in-Some-clause-err
returns-in-Some-clause-err c =
    let none = c.objects.ensures.faultless in
    record {
      given_faultless = none;
      broken = merged-oversized-broken c.args.cut.now c.in-Some.index none (sym c.in_ok-index.ensures ∙ c.in-Some.is);
    }

pub returns-in-Err-clause-err : goal.returns-in-Err-clause-err
returns-in-Err-clause-err c =
    let files = ap contents_of c.deref.ensures.value ∙ c.in_ok-files.ensures.bytes in
    c.of_result.ensures c.args.cut.now c.objects.ensures.faultless
    (subst (λ (i : Inputs). IsRefusal (first_fault i) c.in-Err.fault) (ap₂ with_files (sym c.requires.options) files) c.in-Err.ensures.err)

pub returns-in-Ok-clause-fewer : goal.returns-in-Ok-clause-fewer
returns-in-Ok-clause-fewer c =
    merged-fewer c.args.cut.now c.objects.ensures.faultless (contents_of c.in_ok-files.files.items) c.in_ok-files.ensures.read_back

pub returns-in-Ok-clause-ok : goal.returns-in-Ok-clause-ok
returns-in-Ok-clause-ok c =
    let inputs = c.args.cut.now in
    let fine = ap first_fault (sym (ap₂ with_files (sym c.requires.options) (ap contents_of c.deref.ensures.value))) ∙ c.in-Ok.ensures.ok in
    are-merged inputs (contents_of c.in_ok-files.files.items) c.objects.ensures.faultless
    (subst (λ (i : Inputs). IsMap i.map) c.objects.ensures.same c.recall_invariant.ensures.is_map)
    (subst (λ (i : Inputs). data_end (parsed i) ≤ i.map.data_low + data_limit i.map) c.objects.ensures.same c.recall_invariant.ensures.data)
    c.in_ok-files.ensures.bytes c.in_ok-files.ensures.read_back fine
