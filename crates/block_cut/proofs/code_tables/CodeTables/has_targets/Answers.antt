-- Each place is marked, and its section has a number at its halfword.
use Rattle.std.proofs.Common.{◌≡◌, ◌||◌, ◌/◌, [], true, sym, ap, ◌∙◌}
use Rattle.psabi_sym.specs.Inputs.{parsed}
use Rattle.psabi_sym.specs.Indexed.{IndexedSection}
use Rattle.psabi_sym.proofs.SectionNumbers.{listed_at}
use Rattle.block_cut.specs.Invariants.Led.{is_listed, is_marked, mark_in}
use Rattle.block_cut.specs.Invariants.SectionItems.{no_tables}
use Rattle.std.proofs.Math.Bool.{or-false}
use Rattle.block_cut.proofs.LedLaws.{section_numbered}
use Rattle.block_cut.proofs.ListedLaws.{listed}
use Rattle.block_cut.proofs.RelocTargetLaws.{marked_is, none_in, numbered_target}
use Rattle.block_cut.proofs.TextLaws.{kept_at, tables_of}
use Rattle.block_cut.proofs.code_tables.CodeTables.has_targets.Goals as goal

pub returns : goal.returns
returns c = λ all q led.
    let inputs = c.args.objects.now in
    let objects = (parsed inputs).objects in
    let sections = c.args.leaders.now.sections.items in
    let empty : c.args.leaders.now.others.keys ≡ [] = none_in c.args.leaders.now.others.keys (c.is_empty.ensures.0 c.if-not-is_empty.false) in
    let marked : is_marked objects sections q ≡ true = sym (or-false (is_marked objects sections q)) ∙ ap (λ ks. is_marked objects sections q || is_listed ks q) (sym empty) ∙ led in
    let is = marked_is objects sections q marked in
    let there = section_numbered objects q is.n is.number in
    let l : IndexedSection = listed q.object q.section there.0 in
    let kept = kept_at (parsed inputs) c.args.self.now.sections.items is.n l no_tables c.requires.tables.sections there.1 in
    let mark = ap (λ ms. mark_in ms is.n (q.offset / 2)) c.deref.ensures.value ∙ is.mark in
    numbered_target inputs l _ q.offset c.recall_invariant.ensures.faultless (listed_at objects is.n l there.1) (tables_of (parsed inputs) l _ kept).numbers is.even (c.has_marked.ensures all is.n (q.offset / 2) mark)
