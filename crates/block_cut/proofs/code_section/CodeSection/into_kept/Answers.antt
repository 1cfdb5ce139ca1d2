-- Where the object isn't compressed, a relocation that stands where no item starts has a fault already.
use Rattle.std.proofs.Common.{cond, map, sym, ap, ◌∙◌}
use Rattle.psabi_sym.specs.Inputs.{parsed}
use Rattle.block_cut.specs.Invariants.CodeSection.{ResolvedSection}
use Rattle.block_cut.specs.Resolved.{placed_reloc, placed_relocs, resolved_relocs}
use Rattle.block_cut.proofs.StrayLaws.{placed_either}
use Rattle.block_cut.proofs.code_section.CodeSection.into_kept.Goals as goal

pub returns-clause-relocs : goal.returns-clause-relocs
returns-clause-relocs c = λ inputs resolved.
    let is = c.self.invariant in
    let l = c.self.inside.section.now in
    let section = ap (λ (x : ResolvedSection). x.section) c.self.view_is in
    let relocs = ap (λ (x : ResolvedSection). x.relocs) (c.self.view_is ∙ resolved) ∙ ap (resolved_relocs (parsed inputs)) (sym section) in
    c.in_ok-relocs.ensures l.section is.is_code is.whole (c.deref.ensures.value ∙ is.places_are)
    ∙ (λ j. cond (c.is_compressed.ensures j) (map (placed_reloc l.section) (relocs j)) (relocs j))
    ∙ placed_either (parsed inputs) l is.is_code is.whole
    ∙ ap (placed_relocs (parsed inputs)) section
