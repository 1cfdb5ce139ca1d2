use Rattle.std.proofs.Common.{take, subst, sym, arith}
use Rattle.std.proofs.lemmas.List.{take_all}
use Rattle.block_cut.specs.Invariants.Fields.{HoldsFields}
use Rattle.block_cut.proofs.TakeLaws.{take_next}
use Rattle.block_cut.proofs.fields.Fields.held.Goals as goal

pub loop-k-preserved : goal.loop-k-preserved
loop-k-preserved c =
    let all = c.args.section.now.section.relocs in
    let k = c.loop-k.k in
    subst (λ relocs. HoldsFields relocs c.add.new.self) (sym (take_next all k c.reloc-reloc.result c.reloc-reloc.ensures)) (c.in_ok-add.ensures (take k all) c.loop-k.invariant)

pub returns : goal.returns
returns c =
    let all = c.args.section.now.section.relocs in
    subst (λ relocs. HoldsFields relocs c.loop-k.fields) (take_all c.loop-k.k all (omega arith)) c.loop-k.invariant
