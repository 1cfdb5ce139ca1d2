use Rattle.std.proofs.Common.{◌∙◌, sym, ap, ap₂, subst}
use Rattle.std.specs.Prelude.{map}
use Rattle.std.specs.List.{AllZip}
use Rattle.elf32_write.specs.Writable.{IsObjectOf}
use Rattle.psabi_sym.specs.Inputs.{Inputs, parsed}
use Rattle.psabi_sym.specs.LinkFault.{IsRefusal}
use Rattle.psabi_sym.specs.Objects.{contents_of}
use Rattle.block_cut.specs.Faults.{first_fault}
use Rattle.moved_runs.specs.Passes.{with_files}
use Rattle.object_passes.specs.Written.{without_marks}
use Rattle.object_passes.proofs.OversizedLaws.{oversized-broken}
use Rattle.section_gc.specs.Cleaned.{cleaned}
use Rattle.section_gc.specs.Graph.{has_mark}
use Rattle.section_gc.proofs.CleaningLaws.{cleaning_of}
use Rattle.section_gc.proofs.FitLaws.{cleaning-fit}
use Rattle.section_gc.proofs.LeftFaults.{range-left}
use Rattle.section_gc.proofs.Theorem.{collected}
use Rattle.section_gc.proofs.gc.collected_files.Goals as goal

pub returns-in-Some-clause-err : goal.returns-in-Some-clause-err
returns-in-Some-clause-err c =
    let inputs = c.args.objects.now in
    let needed = has_mark (parsed inputs).objects c.args.marks.now in
    record {
      given_faultless = c.requires.faultless;
      needed = needed;
      are_needed = c.requires.needed;
      broken = oversized-broken inputs (cleaning_of inputs needed) c.in-Some.index c.requires.faultless (cleaning-fit inputs needed) (sym c.in_ok-index.ensures ∙ c.in-Some.is);
      is_breakage = tt;
    }

pub returns-in-Err-clause-err : goal.returns-in-Err-clause-err
returns-in-Err-clause-err c =
    let inputs = c.args.objects.now in
    let needed = has_mark (parsed inputs).objects c.args.marks.now in
    let parts = map without_marks (cleaned needed (parsed inputs).objects) in
    let read = subst (AllZip IsObjectOf parts) c.in_ok-files.ensures.bytes c.in_ok-files.ensures.read_back in
    let small = sym c.in_ok-index.ensures ∙ c.in_default.is in
    c.of_result.ensures inputs needed c.requires.faultless c.requires.needed
    (λ i fault is. range-left inputs needed i fault c.requires.faultless c.requires.needed read small is)
    (subst (λ (it : Inputs). IsRefusal (first_fault it) c.in-Err.fault)
    (ap₂ with_files (sym c.requires.options) (ap contents_of c.deref.ensures.value ∙ c.in_ok-files.ensures.bytes)) c.in-Err.ensures.err)

pub returns-in-Ok-clause-ok : goal.returns-in-Ok-clause-ok
returns-in-Ok-clause-ok c =
    let inputs = c.args.objects.now in
    let needed = has_mark (parsed inputs).objects c.args.marks.now in
    let files = c.in_ok-files.files.items in
    collected inputs needed (contents_of files) c.requires.faultless c.requires.needed c.in_ok-files.ensures.bytes c.in_ok-files.ensures.read_back
    (ap first_fault (sym (ap₂ with_files (sym c.requires.options) (ap contents_of c.deref.ensures.value))) ∙ c.in-Ok.ensures.ok)
