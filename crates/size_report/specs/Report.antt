-- The report of a link, line by line.
use Rattle.std.specs.Prelude.{ℕ, List, [], ◌∷◌, ◌++◌, codes, length, map, Option, Some, None}
use Rattle.zc_base.specs.declared.counts.Counts.{Counts}
use Rattle.pick_check.specs.declared.saving.Saving.{Saving}
use Rattle.pick_check.specs.Certified.{Certified}
use Rattle.size_report.specs.declared.report.LinkCounts.{LinkCounts}
use Rattle.pick_check.specs.Text.{line_with, net_line, saving_line, slot_line, text_of}

-- a line of a name and a count
abbrev pub count_line : List ℕ → ℕ → List ℕ
count_line name n = line_with name (n ∷ [])

-- the lines of the lengths of both texts and of the counts of the Zc link
abbrev pub count_lines : Counts → Counts → List (List ℕ)
count_lines plain zc =
    count_line (codes "plain text") plain.text ∷
    count_line (codes "zc text") zc.text ∷
    count_line (codes "items") zc.items ∷
    count_line (codes "short") zc.short ∷
    count_line (codes "long") zc.long ∷
    count_line (codes "push") zc.pushes ∷
    count_line (codes "pop") zc.pops ∷
    count_line (codes "move") zc.moves ∷
    count_line (codes "table") zc.table ∷
    []

-- the lines of the jump table: the number of its slots, holes included, what it saves, and the certificate's savings
-- and slots
abbrev pub table_lines : List Saving → Certified → List (List ℕ)
table_lines savings certificate =
    count_line (codes "slots") (length certificate.slots) ∷
    net_line certificate.net ∷
    (map saving_line savings ++ map slot_line certificate.slots)

-- the line of the number of fixed sections, if names of such were given
abbrev pub fixed_lines : Option ℕ → List (List ℕ)
fixed_lines (Some n) = count_line (codes "fixed") n ∷ []
fixed_lines None = []

abbrev pub report_lines : LinkCounts → List Saving → Certified → List (List ℕ)
report_lines counts savings certificate =
    count_lines counts.plain counts.zc ++ table_lines savings certificate ++ fixed_lines counts.fixed

unfoldable pub report_text : LinkCounts → List Saving → Certified → List ℕ
report_text counts savings certificate = text_of (report_lines counts savings certificate)
