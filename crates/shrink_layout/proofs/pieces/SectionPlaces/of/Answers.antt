-- What isn't code has no places; what is has one for its end, behind those where items start.
use Rattle.std.proofs.Common.{◌≡◌, ◌∙◌, ◌-◌, ◌+◌, Some, length, take, ap, eqb, sym, subst₂, arith}
use Rattle.elf32_read.specs.Parts.{is_code_section}
use Rattle.psabi_sym.specs.Fixed.{is_fixed_at}
use Rattle.psabi_sym.specs.Inputs.{parsed}
use Rattle.psabi_sym.specs.Indexed.{all_sections}
use Rattle.block_cut.specs.Items.{places_of}
use Rattle.shrink_layout.specs.Invariants.Made.{AreItemPlaces, places_held}
use Rattle.shrink_layout.proofs.HeldLaws.{starts_held}
use Rattle.shrink_layout.proofs.SavingLaws.{take_most}
use Rattle.shrink_layout.proofs.SectionLaws.{count_few, count_next, held_all, no_code, places_count, some_at, some_code}
use Rattle.shrink_layout.proofs.pieces.SectionPlaces.of.Goals as goal

pub returns-then-is_empty-clause-none : goal.returns-then-is_empty-clause-none
returns-then-is_empty-clause-none c = λ is l at.
    no_code c.args.cut.now c.requires.faultless c.args.number l at
    (ap (λ ps. eqb (length ps) 0) (sym (c.places-places.ensures l at)) ∙ sym c.is_empty.ensures ∙ c.if-is_empty.true)

pub returns-clause-some : goal.returns-clause-some
returns-clause-some c =
    let inputs = c.args.cut.now in
    let none = c.requires.faultless in
    let k = c.args.number in
    let there = some_at (all_sections (parsed inputs).objects) k c.requires.section in
    let l = there.0 in
    let own : c.section-section.result ≡ l = cc (there.1, c.section-section.ensures, c.objects.ensures.same) in
    let places = c.places-places.ensures l there.1 in
    let code = some_code inputs none k l there.1 (ap (λ ps. eqb (length ps) 0) (sym places) ∙ sym c.is_empty.ensures ∙ c.if-is_empty.false) in
    let starts = c.item_places.ensures ∙ ap (λ ps. take (length ps - 1) ps) places in
    record {
      at = there.1 ∙ ap Some (sym own);
      code = ap (λ m. is_code_section m.section) own ∙ code;
      held = subst₂ (AreItemPlaces (parsed inputs) k) (sym own) (sym starts) (starts_held inputs none k l there.1 code);
      are = (λ i. places_held (own i) (starts i)) ∙ held_all inputs none k l there.1 code ∙ ap places_of (sym own);
      few = omega (
        arith,
        ap length c.item_places.ensures,
        take_most (length c.places-places.result.now - 1) c.places-places.result.now,
        ap length places,
        places_count inputs none k l there.1,
        count_next inputs none k l there.1,
        count_few inputs none (k + 1),
      );
      fixed = c.is_fixed.ensures ∙ (λ j. is_fixed_at (parsed (c.objects-2.ensures.same j)) (c.object.ensures j) (c.index.ensures j));
    }
