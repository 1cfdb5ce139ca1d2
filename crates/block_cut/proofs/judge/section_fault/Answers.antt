use Rattle.std.proofs.Common.{get_or, sym, ◌∙◌, arith}
use Rattle.std.proofs.lemmas.Option.{slice_get-get_or}
use Rattle.psabi_sym.specs.Inputs.{parsed}
use Rattle.block_cut.specs.Resolved.{resolved_fault}
use Rattle.block_cut.proofs.FirstLaws.{none_next, some_next}
use Rattle.block_cut.proofs.ResolvedLaws.{no_reloc}
use Rattle.block_cut.proofs.judge.section_fault.Goals as goal

pub returns-in-Some : goal.returns-in-Some
returns-in-Some c =
    let f = resolved_fault (parsed c.args.objects.now).objects c.args.section in
    let relocs = c.args.relocs.now in
    let k = c.loop-reloc.reloc-index in
    sym (some_next f relocs k (get_or relocs k no_reloc) (slice_get-get_or relocs k no_reloc (omega arith)) c.loop-reloc.invariant c.in-Some.fault (sym c.reloc_fault.ensures ∙ c.in-Some.is))

pub loop-reloc-preserved : goal.loop-reloc-preserved
loop-reloc-preserved c =
    let f = resolved_fault (parsed c.args.objects.now).objects c.args.section in
    let relocs = c.args.relocs.now in
    let k = c.loop-reloc.reloc-index in
    none_next f relocs k (get_or relocs k no_reloc) (slice_get-get_or relocs k no_reloc (omega arith)) c.loop-reloc.invariant (sym c.reloc_fault.ensures ∙ c.in_default.is)
