use Rattle.std.proofs.Common.{◌+◌, ◌∷◌, [], Err, length, ap, inr, sym, ◌∙◌, length-append, arith}
use Rattle.std.specs.Option.{option_map}
use Rattle.devices.specs.Invariants.Kept.{shown}
use Rattle.devices.specs.declared.fault.DevicesFault.TheVariants.{Line}
use Rattle.devices.proofs.TextLaws.{step_bad, step_more, step_refused}
use Rattle.devices.proofs.read_devices.read_lines.Goals as goal

pub returns-in_default-2-clause-err : goal.returns-in_default-2-clause-err
returns-in_default-2-clause-err c =
    inr (c.loop-rest.invariant.so_far
    ∙ step_bad c.args.map c.loop-rest.devices c.loop-rest.rest.now c.in-Some.text.now c.in-Some.behind.now c.in-Some.ensures.lines (sym c.in_ok-line.ensures ∙ ap (option_map shown) c.in_default-2.is)
    ∙ ap (λ n. Err (Line (n + 2))) (sym c.len.ensures))

pub returns-then-not-may_follow-clause-err : goal.returns-then-not-may_follow-clause-err
returns-then-not-may_follow-clause-err c =
    inr (c.loop-rest.invariant.so_far
    ∙ step_refused c.args.map c.loop-rest.devices c.loop-rest.rest.now c.in-Some.text.now c.in-Some.behind.now (shown c.in-Some-2.line) c.in-Some.ensures.lines (sym c.in_ok-line.ensures ∙ ap (option_map shown) c.in-Some-2.is) (sym c.if-not-may_follow.ensures)
    ∙ ap (λ n. Err (Line (n + 2))) (sym c.len.ensures))

pub loop-rest-preserved : goal.loop-rest-preserved
loop-rest-preserved c =
    let size = ap length c.in_ok-devices.ensures in
    let one = length-append c.loop-rest.devices (shown c.in-Some-2.line ∷ []) in
    let whole = ap length c.in-Some.ensures.whole in
    let parts = length-append c.in-Some.text.now (10 ∷ c.in-Some.behind.now) in
    record {
      so_far = c.loop-rest.invariant.so_far
          ∙ step_more c.args.map c.loop-rest.devices c.in_ok-devices.devices c.loop-rest.rest.now c.in-Some.text.now c.in-Some.behind.now (shown c.in-Some-2.line) c.in-Some.ensures.lines (sym c.in_ok-line.ensures ∙ ap (option_map shown) c.in-Some-2.is) (sym c.if-not-may_follow.ensures) c.in_ok-devices.ensures;
      room = omega (arith, size, one, whole, parts, c.loop-rest.invariant.room);
    }
