use Rattle.std.proofs.Common.{◌≡◌, ◌∙◌, List, ℕ, true, false, ap, sym}
use Rattle.std.specs.Prelude.{bytes_eq, codes, not}
use Rattle.std.proofs.lemmas.Bool.{not-false, not-true}
use Rattle.zc_list.proofs.ResultLaws.{other_title, titled, untitled}
use Rattle.zc_list.proofs.read_list.read_titled.Goals as goal

differs : (title first : List ℕ) → first ≡ codes "zcld list 1" → true ≡ not (bytes_eq title first) → bytes_eq title (codes "zcld list 1") ≡ false
differs title first is other = ap (bytes_eq title) (sym is) ∙ not-true (bytes_eq title first) (sym other)

agrees : (title first : List ℕ) → first ≡ codes "zcld list 1" → false ≡ not (bytes_eq title first) → bytes_eq title (codes "zcld list 1") ≡ true
agrees title first is same = ap (bytes_eq title) (sym is) ∙ not-false (bytes_eq title first) (sym same)

pub returns-in_default-clause-err : goal.returns-in_default-clause-err
returns-in_default-clause-err c = untitled c.args.text.now c.in_default.ensures.none

pub returns-then-ne-clause-err : goal.returns-then-ne-clause-err
returns-then-ne-clause-err c =
    other_title c.args.text.now c.in-Some.title.now c.in-Some.rest.now c.in-Some.ensures.lines (differs c.in-Some.title.now c.as_slice.result.now c.as_slice.ensures c.if-ne.ensures)

pub returns-clause-ok : goal.returns-clause-ok
returns-clause-ok c =
    rw (titled c.args.text.now c.in-Some.title.now c.in-Some.rest.now c.in-Some.ensures.lines (agrees c.in-Some.title.now c.as_slice.result.now c.as_slice.ensures c.if-ne.ensures))
    c.read_segments.ensures.ok

pub returns-clause-err : goal.returns-clause-err
returns-clause-err c =
    rw (titled c.args.text.now c.in-Some.title.now c.in-Some.rest.now c.in-Some.ensures.lines (agrees c.in-Some.title.now c.as_slice.result.now c.as_slice.ensures c.if-ne.ensures))
    c.read_segments.ensures.err
