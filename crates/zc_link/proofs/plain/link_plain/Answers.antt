-- The image of the plain layout ends where that layout does, and both count what it counts.
use Rattle.std.proofs.Common.{◌≡◌, ℕ, List, rules, ap, sym, subst, subst₂, ◌∙◌}
use Rattle.psabi_sym.specs.Inputs.{Inputs, parsed}
use Rattle.block_cut.specs.PlainLayout.{plain_counts}
use Rattle.zc_link.specs.ImageParts.{plain_flags}
use Rattle.zc_link.specs.LaidOut.{text_end}
use Rattle.zc_link.specs.Links.{IsImageOf}
use Rattle.zc_link.specs.Standing.{IsReady}
use Rattle.zc_link.specs.TextLayout.{plain_layout}
use Rattle.zc_link.proofs.PlainLaws.{plain_end_is}
use Rattle.zc_link.proofs.plain.link_plain.Goals as goal

pub returns-clause-link : goal.returns-clause-link
returns-clause-link c =
    let inputs = c.args.objects in
    let elf = c.in_ok-elf.elf.items in
    let same = c.in_ok-cut.ensures.same in
    let ready = subst IsReady same c.in_ok-parts.ensures.ready in
    let flags : c.plain_flags.result ≡ plain_flags (parsed inputs) = c.plain_flags.ensures.value ∙ ap (λ (x : Inputs). plain_flags (parsed x)) (c.objects.ensures.same ∙ same) in
    let laid = subst₂ (λ (x : Inputs) (bytes : List ℕ). IsImageOf (plain_layout x) c.plain_flags.result (text_end (plain_layout x)) bytes) same (sym c.in_ok-elf.ensures.bytes) c.in_ok-parts.ensures.image in
    let image = subst (λ f. IsImageOf (plain_layout inputs) f (text_end (plain_layout inputs)) elf) flags laid in
    let counts = c.counts-image_counts.ensures ∙ ap (λ (x : Inputs). plain_counts (parsed x)) same in
    record {
      image = subst (λ n. IsImageOf (plain_layout inputs) (plain_flags (parsed inputs)) n elf) (plain_end_is inputs ready) image;
      savings = search rules;
      certificate = search rules;
      plain = counts;
      zc = counts;
    }
