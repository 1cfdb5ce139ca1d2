-- The stub's jump reaches in any layout that a link may have.
use Rattle.std.proofs.Common.{rules, ◌≡◌, ◌+◌, ◌<◌, length, ap, ◌∙◌}
use Rattle.psabi_reloc.specs.Reaches.{jal_reach}
use Rattle.zc_link.specs.Front.{start_address, stub_address, stub_distance}
use Rattle.zc_link.specs.TextLayout.{zc_layout}
use Rattle.zc_link.proofs.FrontLaws.{stub_reaches}
use Rattle.zc_link.proofs.WayLaws.{taken_is}
use Rattle.zc_link.proofs.front.add_front.Goals as goal

pub stub-requires-clause-reach : goal.stub-requires-clause-reach
stub-requires-clause-reach c =
    let L = zc_layout c.args.settled.now.inputs c.args.settled.now.slots in
    let far : c.cast_signed-distance.result ≡ stub_distance L = search rules in
    let some : 0 < length L.slots = search rules in
    ap jal_reach (taken_is (stub_address L + 8) (start_address L) c.cast_signed-distance.result far ∙ far) ∙ stub_reaches L c.requires.ready.is_map c.requires.laid some
