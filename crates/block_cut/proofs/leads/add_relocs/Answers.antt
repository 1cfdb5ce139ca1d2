use Rattle.std.proofs.Common.{get_or, arith}
use Rattle.std.proofs.lemmas.Option.{slice_get-get_or}
use Rattle.psabi_sym.specs.Inputs.{parsed}
use Rattle.block_cut.specs.Leaders.{is_place}
use Rattle.block_cut.proofs.LedLaws.{adds_all, adds_next, adds_none}
use Rattle.block_cut.proofs.ResolvedLaws.{no_reloc}
use Rattle.block_cut.proofs.leads.add_relocs.Goals as goal

pub loop-reloc-init : goal.loop-reloc-init
loop-reloc-init c = adds_none (parsed c.args.objects.now).objects c.args.leaders.now

pub loop-reloc-preserved : goal.loop-reloc-preserved
loop-reloc-preserved c =
    let relocs = c.args.relocs.now in
    let k = c.loop-reloc.reloc-index in
    adds_next (parsed c.args.objects.now).objects (λ q d. is_place q d.target) relocs k (get_or relocs k no_reloc) c.args.leaders.now c.loop-reloc.leaders c.add_reloc.new.leaders
    (slice_get-get_or relocs k no_reloc (omega arith)) c.loop-reloc.invariant c.in_ok-add_reloc.ensures

pub returns : goal.returns
returns c = adds_all (parsed c.args.objects.now).objects (λ q d. is_place q d.target) c.args.relocs.now c.loop-reloc.reloc-index c.args.leaders.now c.loop-reloc.leaders (omega arith) c.loop-reloc.invariant
