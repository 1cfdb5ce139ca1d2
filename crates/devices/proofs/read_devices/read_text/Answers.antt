use Rattle.std.proofs.Common.{◌≡◌, ℕ, true, false, List, [], ◌∷◌, ap, inr, sym, ◌∙◌}
use Rattle.std.specs.Prelude.{bytes_eq, not}
use Rattle.std.proofs.lemmas.Bool.{not-false, not-true}
use Rattle.std.proofs.lemmas.Slice.Eq.{bytes_eq-Decides}
use Rattle.text_lines.specs.Lines.{lines_of}
use Rattle.devices.specs.Text.{devices_title}
use Rattle.devices.proofs.TextLaws.{behind_title, other_title, too_large, within_limit}
use Rattle.devices.proofs.read_devices.read_text.Goals as goal

differs : (title first wanted : List ℕ) → first ≡ wanted → true ≡ not (bytes_eq title first) → bytes_eq title wanted ≡ false
differs title first wanted is other = ap (bytes_eq title) (sym is) ∙ not-true (bytes_eq title first) (sym other)

agrees : (title first wanted : List ℕ) → first ≡ wanted → false ≡ not (bytes_eq title first) → title ≡ wanted
agrees title first wanted is same = (bytes_eq-Decides title wanted).0 (ap (bytes_eq title) (sym is) ∙ not-false (bytes_eq title first) (sym same))

pub returns-then-text-gt-DEVICES_LIMIT-clause-err : goal.returns-then-text-gt-DEVICES_LIMIT-clause-err
returns-then-text-gt-DEVICES_LIMIT-clause-err c = inr (too_large c.args.map c.args.text.now c.if-text-gt-DEVICES_LIMIT.true)

pub returns-in_default-clause-err : goal.returns-in_default-clause-err
returns-in_default-clause-err c =
    inr (within_limit c.args.map c.args.text.now (c.args.text.now ∷ []) c.if-text-gt-DEVICES_LIMIT.false c.in_default.ensures.none)

pub returns-then-ne-clause-err : goal.returns-then-ne-clause-err
returns-then-ne-clause-err c =
    inr (within_limit c.args.map c.args.text.now (c.in-Some.title.now ∷ lines_of c.in-Some.lines.now) c.if-text-gt-DEVICES_LIMIT.false c.in-Some.ensures.lines
    ∙ other_title c.args.map c.in-Some.title.now c.in-Some.lines.now (differs c.in-Some.title.now c.as_slice.result.now devices_title c.as_slice.ensures c.if-ne.ensures))

pub returns-clause-ok : goal.returns-clause-ok
returns-clause-ok c =
    rw (within_limit c.args.map c.args.text.now (c.in-Some.title.now ∷ lines_of c.in-Some.lines.now) c.if-text-gt-DEVICES_LIMIT.false c.in-Some.ensures.lines
    ∙ behind_title c.args.map c.in-Some.title.now c.in-Some.lines.now (agrees c.in-Some.title.now c.as_slice.result.now devices_title c.as_slice.ensures c.if-ne.ensures))
    c.read_lines.ensures.ok

pub returns-clause-err : goal.returns-clause-err
returns-clause-err c =
    rw (within_limit c.args.map c.args.text.now (c.in-Some.title.now ∷ lines_of c.in-Some.lines.now) c.if-text-gt-DEVICES_LIMIT.false c.in-Some.ensures.lines
    ∙ behind_title c.args.map c.in-Some.title.now c.in-Some.lines.now (agrees c.in-Some.title.now c.as_slice.result.now devices_title c.as_slice.ensures c.if-ne.ensures))
    c.read_lines.ensures.err
