use Rattle.std.proofs.Common.{◌≡◌, ◌∙◌, ◌++◌, ◌∷◌, ◌+◌, [], Err, List, ℕ, false, ap, sym, arith, length, length-append}
use Rattle.std.specs.Prelude.{bytes_eq}
use Rattle.std.proofs.lemmas.Bool.{cond-true, eqb-false}
use Rattle.std.proofs.lemmas.Result.{err_from_is_err_and}
use Rattle.elf32_read.specs.Segments.{SegmentData}
use Rattle.text_lines.specs.Lines.{lines_of}
use Rattle.zc_list.specs.Reader.{read_left, segment_with}
use Rattle.zc_list.specs.Spelled.{Between, Ended, inside, read_lines}
use Rattle.zc_list.proofs.ReadLaws.{line_good, nothing_after}
use Rattle.zc_list.proofs.ResultLaws.{StopsAt-weaker, end_step, head_step}
use Rattle.zc_list.proofs.read_list.read_segments.Goals as goal

pub returns-then-eq-clause-err : goal.returns-then-eq-clause-err
returns-then-eq-clause-err c =
    let done = c.loop-line.segments.items in
    let number = c.loop-line.number in
    let line = c.in-Some.line.now in
    let behind = c.in-Some.behind.now in
    c.loop-line.invariant.so_far
    ∙ line_good (Between done) (Ended done) number c.loop-line.rest.now line behind c.in-Some.ensures.lines (end_step done line (ap (bytes_eq line) (sym c.as_slice.ensures) ∙ sym c.if-eq.ensures))
    ∙ nothing_after done (number + 1) behind (λ none. eqb-false (length behind) 0 (sym c.if-is_empty.ensures) (ap length none))

pub returns-in_err-segment-clause-err : goal.returns-in_err-segment-clause-err
returns-in_err-segment-clause-err c =
    let done = c.loop-line.segments.items in
    let number = c.loop-line.number in
    let line = c.in-Some.line.now in
    let behind = c.in-Some.behind.now in
    let head = c.in-Some-read_head.head in
    let p = err_from_is_err_and c.from_residual.result c.from_residual.ensures.1 in
    let P : ℕ → Type 0 = λ n. (d : List SegmentData) → read_lines (inside d (segment_with head []) false) (number + 1) (lines_of behind) ≡ Err n in
    let Q : ℕ → Type 0 = λ n. read_left (Between []) c.args.lines ≡ Err n in
    rw (p.1, p.2)
    (StopsAt-weaker c.in_err-segment.field-0.0 P Q
    (λ n h.
    c.loop-line.invariant.so_far
    ∙ line_good (Between done) (inside done (segment_with head []) false) number c.loop-line.rest.now line behind c.in-Some.ensures.lines
    (head_step done line head (ap (bytes_eq line) (sym c.as_slice.ensures) ∙ sym c.if-eq.ensures) c.in-Some-read_head.ensures)
    ∙ h done)
    c.in_err-segment.ensures.err)

pub loop-line-preserved : goal.loop-line-preserved
loop-line-preserved c =
    let done = c.loop-line.segments.items in
    let number = c.loop-line.number in
    let line = c.in-Some.line.now in
    let behind = c.in-Some.behind.now in
    let head = c.in-Some-read_head.head in
    let s = c.in_ok-segment.segment in
    let after = c.in_ok-segment.after in
    let more : c.push.new.self.items ≡ done ++ (s ∷ []) = c.push.ensures.items ∙ cond-true _ (done ++ (s ∷ [])) done c.if-is_err.ensures.negation in
    let whole = ap length c.in-Some.ensures.whole in
    let parts = length-append line (10 ∷ behind) in
    record {
      so_far = c.loop-line.invariant.so_far
          ∙ line_good (Between done) (inside done (segment_with head []) false) number c.loop-line.rest.now line behind c.in-Some.ensures.lines
          (head_step done line head (ap (bytes_eq line) (sym c.as_slice.ensures) ∙ sym c.if-eq.ensures) c.in-Some-read_head.ensures)
          ∙ c.in_ok-segment.ensures.ok done
          ∙ ap (λ d. read_lines (Between d) after.number (lines_of after.rest.now)) (sym more);
      room = omega (arith, whole, parts, c.loop-line.invariant.room, c.in_ok-segment.ensures.further.1);
    }
