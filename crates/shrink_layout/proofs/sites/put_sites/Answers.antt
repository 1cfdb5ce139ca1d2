-- At first only what is in front is new, and at the end all is (`last_pieces`).
use Rattle.std.proofs.Common.{◌∙◌, ◌∷◌, [], ap, length, set, sym, arith}
use Rattle.psabi_sym.specs.Inputs.{parsed}
use Rattle.psabi_sym.specs.Indexed.{all_sections}
use Rattle.shrink_layout.specs.Pieces.{pieces_in, slot_at}
use Rattle.shrink_layout.specs.declared.piece.Piece.TheVariants.{Fixed}
use Rattle.shrink_layout.proofs.NumberLaws.{length-pieces_of}
use Rattle.shrink_layout.proofs.PutLaws.{first_pieces, last_pieces}
use Rattle.shrink_layout.proofs.sites.put_sites.Goals as goal

pub index_mut-requires : goal.index_mut-requires
index_mut-requires c = omega (arith, ap length c.requires.first.pieces_are, length-pieces_of (parsed c.args.of.now.planned.now) [], c.args.made.now.pieces.ok)

pub loop-section-init : goal.loop-section-init
loop-section-init c =
    let given = parsed c.args.of.now.planned.now in
    record {
      pieces_are = ap (λ ps. set ps 0 (Fixed c.front_size.result)) (c.requires.first.pieces_are ∙ sym (first_pieces given))
          ∙ ap (λ n. Fixed n ∷ pieces_in given (slot_at given []) (all_sections given.objects)) c.front_size.ensures;
      halves_are = c.requires.first.halves_are;
    }

pub returns : goal.returns
returns c =
    let given = parsed c.args.of.now.planned.now in
    let count = ap (λ x. length (all_sections (parsed x).objects)) (c.objects.ensures.same ∙ c.cut.ensures.same) in
    last_pieces given c.args.slots.slots.now c.loop-section.section c.loop-section.made
    (omega (arith, c.loop-section-test.false, c.section_count-section-end.ensures.count, count)) c.loop-section.invariant
