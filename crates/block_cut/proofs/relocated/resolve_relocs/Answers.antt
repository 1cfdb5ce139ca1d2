use Rattle.std.proofs.Common.{◌≡◌, ◌++◌, ◌∷◌, [], not, sym, ap, ◌∙◌}
use Rattle.psabi_sym.specs.Inputs.{parsed}
use Rattle.block_cut.specs.Relocs.{is_ignored}
use Rattle.block_cut.specs.Resolved.{asks, resolved_reloc}
use Rattle.block_cut.proofs.ApartLaws.{contains_at}
use Rattle.block_cut.proofs.ResolvedLaws.{kept_next, kept_other}
use Rattle.block_cut.proofs.relocated.resolve_relocs.Goals as goal
use Rattle.block_cut.proofs.relocated.resolve_relocs.Goals.{then-not-is_ignored+in_ok-push, else-not-is_ignored}

pub loop-k-preserved : goal.loop-k-preserved
loop-k-preserved c =
    let inputs = c.args.objects.now in
    let l = c.args.section.now in
    let f = resolved_reloc (parsed inputs) l in
    let k = c.loop-k.k in
    let r = c.reloc-reloc.result in
    let at = c.reloc-reloc.ensures in
    let asked : asks r ≡ not c.is_ignored.result = ap (λ k. not (is_ignored k)) (sym c.of-kind.ensures) ∙ ap not (sym c.is_ignored.ensures) in
    elim c.if-not-is_ignored.branch [
      | then-not-is_ignored+in_ok-push w ↦
          let held = contains_at l.section.relocs k r at in
          let own = w.resolve.ensures l (c.new-relocated.ensures.is inputs l.section.relocs c.requires.gathered c.requires.section c.in_ok-new.ensures) held in
          ap (λ v. v.items) w.relocs-is ∙ w.in_ok-push.ensures.items ∙ (λ j. c.loop-k.invariant j ++ own j ∷ [])
          ∙ sym (kept_next f asks l.section.relocs k r at (asked ∙ ap not w.if-not-is_ignored.true))
      | else-not-is_ignored w ↦
          ap (λ v. v.items) w.relocs-is ∙ c.loop-k.invariant ∙ sym (kept_other f asks l.section.relocs k r at (asked ∙ ap not w.if-not-is_ignored.false))
    ]
