use Rattle.std.proofs.Common.{◌∙◌, ◌++◌, ◌∷◌, ◌+◌, ◌<◌, ◌≤◌, [], Some, ap, sym, subst, arith, length, length-append}
use Rattle.std.specs.Prelude.{IfSome}
use Rattle.std.specs.Option.{option_map}
use Rattle.text_lines.specs.Lines.{lines_of}
use Rattle.zc_list.specs.Reader.{is_last, segment_with, state_at}
use Rattle.zc_list.specs.Spelled.{Between, Inside, inside, read_lines}
use Rattle.zc_list.proofs.ReadLaws.{is_open, line_bad, line_good, open_state, whole_state}
use Rattle.zc_list.proofs.read_segment.read_bytes.Goals as goal

pub returns-in_default-2-clause-err : goal.returns-in_default-2-clause-err
returns-in_default-2-clause-err c = λ done.
    let head = c.args.head in
    let s = segment_with head c.loop-head.bytes.items in
    let last = c.loop-head.last in
    let number = c.loop-head.number in
    let rest = c.loop-head.rest.now in
    let missing : length c.loop-head.bytes.items < head.size = omega (arith, c.loop-head-test.true, c.len.ensures) in
    c.loop-head.invariant.so_far done
    ∙ ap (λ t. read_lines t number (lines_of rest)) (is_open done s last missing)
    ∙ line_bad (Inside done s last) number rest c.in-Some.line.now c.in-Some.behind.now c.in-Some.ensures.lines
    (c.in_ok-stage.ensures.step done ∙ ap (option_map (state_at done (segment_with head c.read_content.new.bytes.items))) c.in_default-2.is)

pub returns-then-has_all_bytes-clause-ok : goal.returns-then-has_all_bytes-clause-ok
returns-then-has_all_bytes-clause-ok c = λ done.
    let head = c.args.head in
    let s = segment_with head c.loop-head.bytes.items in
    let t = segment_with head c.read_content.new.bytes.items in
    let last = c.loop-head.last in
    let number = c.loop-head.number in
    let rest = c.loop-head.rest.now in
    let missing : length c.loop-head.bytes.items < head.size = omega (arith, c.loop-head-test.true, c.len.ensures) in
    c.loop-head.invariant.so_far done
    ∙ ap (λ state. read_lines state number (lines_of rest)) (is_open done s last missing)
    ∙ line_good (Inside done s last) (Between (done ++ (t ∷ []))) number rest c.in-Some.line.now c.in-Some.behind.now c.in-Some.ensures.lines
    (c.in_ok-stage.ensures.step done ∙ ap (option_map (state_at done t)) c.in-Some-2.is ∙ ap Some (whole_state done t c.in-Some-2.stage (sym c.if-has_all_bytes.ensures)))

pub loop-head-preserved : goal.loop-head-preserved
loop-head-preserved c =
    let head = c.args.head in
    let s = segment_with head c.loop-head.bytes.items in
    let t = segment_with head c.read_content.new.bytes.items in
    let last = c.loop-head.last in
    let stage = c.in-Some-2.stage in
    let number = c.loop-head.number in
    let rest = c.loop-head.rest.now in
    let behind = c.in-Some.behind.now in
    let missing : length c.loop-head.bytes.items < head.size = omega (arith, c.loop-head-test.true, c.len.ensures) in
    let line = ap length c.in-Some.ensures.whole in
    let parts = length-append c.in-Some.line.now (10 ∷ behind) in
    record {
      so_far = λ done.
          c.loop-head.invariant.so_far done
          ∙ ap (λ state. read_lines state number (lines_of rest)) (is_open done s last missing)
          ∙ line_good (Inside done s last) (inside done t (is_last stage)) number rest c.in-Some.line.now behind c.in-Some.ensures.lines
          (c.in_ok-stage.ensures.step done ∙ ap (option_map (state_at done t)) c.in-Some-2.is ∙ ap Some (open_state done t stage (sym c.if-has_all_bytes.ensures)))
          ∙ ap (λ l. read_lines (inside done t l) (number + 1) (lines_of behind)) (sym c.is_last-last.ensures);
      within = subst (λ o. IfSome o (λ _. length c.read_content.new.bytes.items ≤ head.size)) c.in-Some-2.is c.in_ok-stage.ensures.within;
      shorter = omega (arith, line, parts, c.loop-head.invariant.shorter);
      room = omega (arith, line, parts, c.loop-head.invariant.room);
    }
