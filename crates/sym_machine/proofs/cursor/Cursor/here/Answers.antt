-- The place that was found stands at the offset asked for, in the section asked for.
use Rattle.std.proofs.Common.{◌≡◌, ◌∙◌, Some, slice_get}
use Rattle.block_cut.specs.Places.{place_there}
use Rattle.sym_machine.proofs.CursorLaws.{got}
use Rattle.sym_machine.proofs.cursor.Cursor.here.Goals as goal

pub returns-then-here-p : goal.returns-then-here-p
returns-then-here-p c = λ inputs is.
    let cursor = c.args.self.now in
    let x = c.in_ok-here.here.now in
    let lies = c.is_in.ensures c.if-not-is_in.false in
    let at : slice_get cursor.places.now cursor.index ≡ Some x = got cursor.places.now cursor.index x c.in_ok-here.ensures.lookup.3 in
    is.each cursor.index x at ∙ (λ j. place_there inputs (record { object = lies.0 j; section = lies.1 j; offset = c.if-here-p.true j }))
