use Rattle.std.proofs.Common.{◌++◌, ◌∙◌, ap, arith, sym}
use Rattle.text_lines.specs.Lines.{lines_of}
use Rattle.pick_check.specs.Text.{read_while, slot_in_line}
use Rattle.pick_check.proofs.WhileLaws.{place_step, while_step}
use Rattle.pick_check.proofs.read_certificate.read_slots.Goals as goal

pub loop-rest-preserved : goal.loop-rest-preserved
loop-rest-preserved c =
    let lines = lines_of c.loop-rest.rest.now in
    let behind = lines_of c.in-Some.behind.now in
    let found = c.loop-rest.slots.items in
    let is = sym c.in-Some.ensures.read in
    let items = c.in_ok-push.ensures.items in
    record {
      so_far = c.loop-rest.invariant.so_far ∙ while_step slot_in_line found lines behind c.in-Some.slot is c.in-Some.ensures.rest ∙ ap (λ xs. xs ++ read_while slot_in_line behind) (sym items);
      place = place_step found _ c.in-Some.slot (lines_of c.args.lines.now) lines behind items c.loop-rest.invariant.place c.in-Some.ensures.rest;
      few = omega (arith, c.in_ok-push.ensures.len, c.loop-rest-test.true, c.len.ensures);
    }
