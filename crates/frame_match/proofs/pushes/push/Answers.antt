use Rattle.std.proofs.Common.{◌∙◌, Some, None, sym, ap, subst}
use Rattle.std.proofs.lemmas.Bool.{both_ways}
use Rattle.std.proofs.lemmas.Option.{none-some, same_Some}
use Rattle.frame_match.specs.declared.slot.Access.TheVariants.{Saves}
use Rattle.frame_match.specs.Invariants.Frames.{list_leaving_out}
use Rattle.frame_match.specs.Invariants.Kinds.{IsFramed}
use Rattle.frame_match.specs.Matches.{push_of}
use Rattle.frame_match.proofs.PushLaws.{push_found}
use Rattle.frame_match.proofs.pushes.push.Goals as goal

pub returns-in_err-left_out-clause-each : goal.returns-in_err-left_out-clause-each
returns-in_err-left_out-clause-each c g p =
    let x = push_found c.args.run.now g c.in_ok-bytes.bytes None c.get.result c.get-2.result p c.get.ensures c.get-2.ensures c.in_ok-bytes.ensures
    (λ n k known room slot. c.in_err-left_out.ensures.each n k known room slot) in
    absurd (none-some _ x.told_is)

pub returns-then-is_framed-clause-each : goal.returns-then-is_framed-clause-each
returns-then-is_framed-clause-each c g p =
    let x = push_found c.args.run.now g c.in_ok-bytes.bytes (Some c.in_ok-left_out.left_out) c.get.result c.get-2.result p c.get.ensures c.get-2.ensures c.in_ok-bytes.ensures
    (λ n k known room slot. c.in_ok-left_out.ensures.each n k known room slot) in
    ap Some (c.pushed.ensures ∙ sym (x.found_is ∙ ap (λ n. push_of (list_leaving_out n) c.in_ok-bytes.bytes) (sym (same_Some _ _ x.told_is))))

pub returns-else-is_framed-clause-each : goal.returns-else-is_framed-clause-each
returns-else-is_framed-clause-each c g p =
    let x = push_found c.args.run.now g c.in_ok-bytes.bytes (Some c.in_ok-left_out.left_out) c.get.result c.get-2.result p c.get.ensures c.get-2.ensures c.in_ok-bytes.ensures
    (λ n k known room slot. c.in_ok-left_out.ensures.each n k known room slot) in
    let f = c.is_framed.ensures.1 (subst (λ n. IsFramed Saves c.in_ok-bytes.bytes n c.args.run.now 1) (sym (same_Some _ _ x.told_is)) x.framed) in
    absurd (both_ways _ c.if-is_framed.false f)
