use Rattle.std.proofs.Common.{◌++◌, ◌∙◌, ap, arith, sym}
use Rattle.text_lines.specs.Lines.{lines_of}
use Rattle.pick_check.specs.Text.{read_while, saving_in_line}
use Rattle.pick_check.proofs.WhileLaws.{place_step, while_step}
use Rattle.pick_check.proofs.read_certificate.read_savings.Goals as goal

pub loop-saving-preserved : goal.loop-saving-preserved
loop-saving-preserved c =
    let lines = lines_of c.loop-saving.rest.now in
    let behind = lines_of c.in-Some.behind.now in
    let found = c.loop-saving.savings.items in
    let is = sym c.in-Some.ensures.read in
    let items = c.in_ok-push.ensures.items in
    record {
      so_far = c.loop-saving.invariant.so_far ∙ while_step saving_in_line found lines behind c.in-Some.saving is c.in-Some.ensures.rest ∙ ap (λ xs. xs ++ read_while saving_in_line behind) (sym items);
      place = place_step found _ c.in-Some.saving (lines_of c.args.lines.now) lines behind items c.loop-saving.invariant.place c.in-Some.ensures.rest;
      room = omega (arith, c.in_ok-push.ensures.len, c.in-Some.ensures.room, c.loop-saving.invariant.room);
    }
