use Rattle.std.proofs.Common.{◌≡◌, ◌∙◌, Some, length, ap, sym, refl}
use Rattle.std.specs.List.{slice_get}
use Rattle.std.specs.Option.{option_and_then}
use Rattle.std.proofs.lemmas.Bool.{ltb-true, ltb-false}
use Rattle.std.proofs.lemmas.Option.{slice_get_past, slice_get_read}
use Rattle.frame_match.specs.Invariants.Runs.{op_in}
use Rattle.frame_match.proofs.Ops.{get-ops_of}
use Rattle.frame_match.proofs.run.Run.get.Goals as goal

pub returns-in-Some : goal.returns-in-Some
returns-in-Some c =
    let ps = c.self.inside.places.now in
    let n = c.args.n in
    let h = c.in-Some.ensures.lookup in
    let read : slice_get ps n ≡ Some c.in-Some.place.now = slice_get_read ps (length ps) n c.in-Some.place.now refl (ltb-true _ _ (sym h.0)) h.1 in
    c.op_at.ensures ∙ sym (ap (λ is. slice_get is n) (sym c.self.view_is) ∙ get-ops_of ps c.self.invariant n ∙ ap (option_and_then op_in) read)

pub returns-in-None : goal.returns-in-None
returns-in-None c =
    let ps = c.self.inside.places.now in
    let n = c.args.n in
    let h = c.in-None.ensures.lookup in
    sym (ap (λ is. slice_get is n) (sym c.self.view_is) ∙ get-ops_of ps c.self.invariant n
    ∙ ap (option_and_then op_in) (slice_get_past ps n (ltb-false _ _ (sym h.0))))
