-- A section without code has no pieces (`put_skip`), and a fixed one keeps its own (`put_kept`); any other of code begins with its padding (`put_enter`,
-- `put_leave`).
use Rattle.std.proofs.Common.{◌∙◌, ◌+◌, [], None, ap, slice_get, sym, subst}
use Rattle.psabi_sym.specs.Inputs.{parsed}
use Rattle.psabi_sym.specs.Indexed.{all_sections}
use Rattle.shrink_layout.specs.Invariants.Made.{AreHalvesOf, ArePut, ArePutIn, AreStartsOf}
use Rattle.shrink_layout.specs.Invariants.Slots.{source_slots}
use Rattle.shrink_layout.specs.Pieces.{piece_at, section_alignment, slot_at}
use Rattle.shrink_layout.specs.Units.{front_size, unit_by}
use Rattle.shrink_layout.specs.declared.piece.Piece.TheVariants.{Align, Fixed}
use Rattle.shrink_layout.proofs.PutLaws.{put_enter, put_kept, put_leave, put_skip, same_owners, same_pieces}
use Rattle.shrink_layout.proofs.SectionLaws.{some_at}
use Rattle.shrink_layout.proofs.sites.put_section.Goals as goal

pub returns-in_default : goal.returns-in_default
returns-in_default c =
    let inputs = c.args.of.now.planned.now in
    let given = parsed inputs in
    let k = c.args.section in
    let all = all_sections given.objects in
    let there = some_at all k c.requires.section in
    let other = c.of.ensures.none c.in_default.is there.0 (ap (λ x. slice_get (all_sections (parsed x).objects) k) c.cut.ensures.same ∙ there.1) in
    let slots = source_slots c.args.of.now in
    record {
      pieces_are = c.requires.so_far.pieces_are
          ∙ put_skip (Fixed (front_size slots)) (λ m. Align (section_alignment given m)) (piece_at given (slot_at given [])) (piece_at given (slot_at given slots)) all k there.0 there.1 other;
      halves_are = subst (λ os. AreHalvesOf os c.args.made.now.halves.items)
          (put_skip None (λ s. None) (unit_by given (slot_at given [])) (unit_by given (slot_at given slots)) all k there.0 there.1 other) c.requires.so_far.halves_are;
    }

-- in a fixed section nothing is new
pub returns-then-starts : goal.returns-then-starts
returns-then-starts c =
    let given = parsed c.args.of.now.planned.now in
    let starts = c.in-Some.starts in
    let l = starts.section in
    let slots = source_slots c.args.of.now in
    let are = subst (λ x. AreStartsOf (parsed x) starts) c.cut.ensures.same c.in-Some.ensures.some in
    let so_far = subst (λ n. ArePut given slots n c.args.made.now) (sym c.in-Some.ensures.number) c.requires.so_far in
    let fixed = sym are.fixed ∙ c.if-starts.true in
    subst (λ n. ArePut given slots (n + 1) c.args.made.now) c.in-Some.ensures.number (record {
      pieces_are = so_far.pieces_are
          ∙ put_kept (Fixed (front_size slots)) (λ m. Align (section_alignment given m)) (piece_at given (slot_at given [])) (piece_at given (slot_at given slots)) (all_sections given.objects) starts.number l are.at
          (same_pieces given slots l fixed);
      halves_are = subst (λ os. AreHalvesOf os c.args.made.now.halves.items)
          (put_kept None (λ s. None) (unit_by given (slot_at given [])) (unit_by given (slot_at given slots)) (all_sections given.objects) starts.number l are.at (same_owners given slots l fixed)) so_far.halves_are;
    })

pub put_places-requires-clause-free : goal.put_places-requires-clause-free
put_places-requires-clause-free c =
    sym (subst (λ x. AreStartsOf (parsed x) c.in-Some.starts) c.cut.ensures.same c.in-Some.ensures.some).fixed ∙ c.if-starts.false

pub put_places-requires-clause-held : goal.put_places-requires-clause-held
put_places-requires-clause-held c = (subst (λ x. AreStartsOf (parsed x) c.in-Some.starts) c.cut.ensures.same c.in-Some.ensures.some).held

pub put_places-requires-clause-few : goal.put_places-requires-clause-few
put_places-requires-clause-few c = c.in-Some.ensures.some.few

pub put_places-requires-clause-first : goal.put_places-requires-clause-first
put_places-requires-clause-first c =
    let given = parsed c.args.of.now.planned.now in
    let starts = c.in-Some.starts in
    let l = starts.section in
    let slots = source_slots c.args.of.now in
    let are = subst (λ x. AreStartsOf (parsed x) starts) c.cut.ensures.same c.in-Some.ensures.some in
    let so_far = subst (λ n. ArePut given slots n c.args.made.now) (sym c.in-Some.ensures.number) c.requires.so_far in
    subst (λ qs. ArePutIn given slots starts.number l [] qs c.args.made.now) (sym are.are) (record {
      pieces_are = so_far.pieces_are
          ∙ put_enter (Fixed (front_size slots)) (λ m. Align (section_alignment given m)) (piece_at given (slot_at given [])) (piece_at given (slot_at given slots)) (all_sections given.objects) starts.number l are.at are.code;
      halves_are = subst (λ os. AreHalvesOf os c.args.made.now.halves.items)
          (put_enter None (λ s. None) (unit_by given (slot_at given [])) (unit_by given (slot_at given slots)) (all_sections given.objects) starts.number l are.at are.code) so_far.halves_are;
    })

pub returns : goal.returns
returns c =
    let given = parsed c.args.of.now.planned.now in
    let starts = c.in-Some.starts in
    let slots = source_slots c.args.of.now in
    let new = c.put_places.new.made in
    let are = subst (λ x. AreStartsOf (parsed x) starts) c.cut.ensures.same c.in-Some.ensures.some in
    let put = subst (λ qs. ArePutIn given slots starts.number starts.section qs [] new) are.are c.put_places.ensures in
    subst (λ n. ArePut given slots (n + 1) new) c.in-Some.ensures.number (record {
      pieces_are = put.pieces_are
          ∙ put_leave (Fixed (front_size slots)) (λ m. Align (section_alignment given m)) (piece_at given (slot_at given [])) (piece_at given (slot_at given slots)) (all_sections given.objects) starts.number starts.section are.at are.code;
      halves_are = subst (λ os. AreHalvesOf os new.halves.items)
          (put_leave None (λ s. None) (unit_by given (slot_at given [])) (unit_by given (slot_at given slots)) (all_sections given.objects) starts.number starts.section are.at are.code) put.halves_are;
    })
