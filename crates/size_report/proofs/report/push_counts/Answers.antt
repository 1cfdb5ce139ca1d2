use Rattle.std.proofs.Common.{refl}
use Rattle.std.specs.String.{string_bytes}
use Rattle.size_report.specs.Report.{count_lines}
use Rattle.size_report.proofs.ReportLaws.{lines_added}
use Rattle.size_report.proofs.report.push_counts.Goals as goal

pub returns : goal.returns
returns c =
    lines_added (string_bytes c.args.text.now) (count_lines c.args.plain.now c.args.zc.now) (string_bytes c.push_count-9.new.text) (
      string_bytes c.push_count.new.text,
      c.in_ok-push_count.ensures,
      (
        string_bytes c.push_count-2.new.text,
        c.in_ok-push_count-2.ensures,
        (
          string_bytes c.push_count-3.new.text,
          c.in_ok-push_count-3.ensures,
          (
            string_bytes c.push_count-4.new.text,
            c.in_ok-push_count-4.ensures,
            (
              string_bytes c.push_count-5.new.text,
              c.in_ok-push_count-5.ensures,
              (
                string_bytes c.push_count-6.new.text,
                c.in_ok-push_count-6.ensures,
                (
                  string_bytes c.push_count-7.new.text,
                  c.in_ok-push_count-7.ensures,
                  (
                    string_bytes c.push_count-8.new.text,
                    c.in_ok-push_count-8.ensures,
                    (string_bytes c.push_count-9.new.text, c.in_ok-push_count-9.ensures, refl),
                  ),
                ),
              ),
            ),
          ),
        ),
      ),
    )
