use Rattle.std.proofs.Common.{◌≡◌, ℕ, ◌++◌, Vec, Global, length, ap, ◌∙◌, arith}
use Rattle.std.specs.String.{string_bytes}
use Rattle.pick_check.specs.Certified.{Certified}
use Rattle.pick_check.specs.Text.{text_of}
use Rattle.size_report.specs.Report.{count_lines}
use Rattle.size_report.proofs.ReportLaws.{put_together}
use Rattle.size_report.proofs.report.report.Goals as goal

pub returns : goal.returns
returns c =
    let slots : c.certificate.inside.slots.items ≡ c.args.certificate.now.slots = ap (λ (x : Certified). x.slots) c.certificate.view_is in
    let same = ap length slots in
    let count : c.len.result ≡ length c.args.certificate.now.slots = omega (arith, c.len.ensures, c.certificate.inside.slots.ok.0, same) in
    let net : c.certificate.inside.net ≡ c.args.certificate.now.net = ap (λ (x : Certified). x.net) c.certificate.view_is in
    let counts = c.in_ok-push_counts.ensures ∙ ap (λ t. t ++ text_of (count_lines c.args.counts.now.plain c.args.counts.now.zc)) c.new-text.ensures.bytes in
    ap (λ (v : Vec ℕ Global). v.items) c.into_bytes.ensures.value
    ∙ put_together c.args.counts.now c.args.savings.now c.args.certificate.now c.deref.result.now c.len.result c.certificate.inside.net
    (string_bytes c.push_counts.new.text) (string_bytes c.push_line.new.text) (string_bytes c.push_line-2.new.text) (string_bytes c.push_savings.new.text) (string_bytes c.push_slots.new.text) (string_bytes c.push_fixed.new.text)
    (c.deref.ensures.value ∙ slots) count net counts c.in_ok-push_line.ensures c.in_ok-push_line-2.ensures c.in_ok-push_savings.ensures.lines c.in_ok-push_slots.ensures.lines c.in_ok-push_fixed.ensures
