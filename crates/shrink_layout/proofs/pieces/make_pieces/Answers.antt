use Rattle.std.proofs.Common.{◌∙◌, ◌∷◌, [], None, ap, length, subst, arith}
use Rattle.std.proofs.lemmas.List.{take_all}
use Rattle.psabi_sym.specs.Inputs.{parsed}
use Rattle.psabi_sym.specs.Indexed.{all_sections}
use Rattle.shrink_layout.specs.Invariants.Made.{AreHalvesOf, owners_in}
use Rattle.shrink_layout.specs.Pieces.{pieces_in, slot_at}
use Rattle.shrink_layout.specs.declared.piece.Piece.TheVariants.{Fixed}
use Rattle.shrink_layout.proofs.PutLaws.{first_pieces}
use Rattle.shrink_layout.proofs.pieces.make_pieces.Goals as goal

pub returns : goal.returns
returns c =
    let inputs = parsed c.args.of.now.planned.now in
    let count = ap (λ x. length (all_sections (parsed x).objects)) (c.objects.ensures.same ∙ c.cut-cut.ensures.same) in
    let all = take_all c.loop-section.section (all_sections inputs.objects) (omega (arith, c.loop-section-test.false, c.loop-section.auto.section-end, c.section_count-sections.ensures.count, count)) in
    record {
      pieces_are = c.loop-section.invariant.pieces_are ∙ ap (λ ls. Fixed 0 ∷ pieces_in inputs (slot_at inputs []) ls) all ∙ first_pieces inputs;
      halves_are = subst (λ ls. AreHalvesOf (None ∷ owners_in inputs (slot_at inputs []) ls) c.loop-section.made.halves.items) all c.loop-section.invariant.halves_are;
    }
