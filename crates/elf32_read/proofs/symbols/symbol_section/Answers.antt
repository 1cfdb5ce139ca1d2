use Rattle.std.proofs.Common.{◌≡◌, ◌+◌, length, sym, ap, subst, ◌∙◌, arith, eq-eqb}
use Rattle.std.proofs.lemmas.Bool.{ltb-false, ne_eqb}
use Rattle.elf32_read.specs.Header.{header_of, section_count}
use Rattle.elf32_read.specs.Symbols.{symbol_tables}
use Rattle.elf32_read.proofs.Alone.{Found, found_more, found_only, found_same}
use Rattle.elf32_read.proofs.Tests.{has_symbols}
use Rattle.elf32_read.proofs.symbols.symbol_section.Goals as goal
use Rattle.elf32_read.proofs.symbols.symbol_section.Goals.{then-header-eq-SYMTAB, else-header-eq-SYMTAB}

pub loop-i-preserved : goal.loop-i-preserved
loop-i-preserved c =
    let bytes = c.args.sections.now in
    let header_at = header_of bytes in
    let i = c.loop-i.i in
    let kind : c.header.result.kind ≡ (header_at i).kind = ap (λ h. h.kind) c.header.ensures.header in
    let once = ltb-false 1 (length (symbol_tables bytes)) c.requires in
    elim c.if-header-eq-SYMTAB.branch [
      | then-header-eq-SYMTAB w ↦
          subst (Found has_symbols header_at (i + 1)) (sym w.found-is) (found_more has_symbols header_at (section_count bytes) i c.loop-i.found once (omega arith) c.loop-i.invariant (eq-eqb (header_at i).kind 2 (sym kind ∙ w.if-header-eq-SYMTAB.true)))
      | else-header-eq-SYMTAB w ↦
          subst (Found has_symbols header_at (i + 1)) (sym w.found-is) (found_same has_symbols header_at i c.loop-i.found c.loop-i.invariant (ne_eqb (header_at i).kind 2 (λ e. w.if-header-eq-SYMTAB.false (kind ∙ e))))
    ]

pub returns : goal.returns
returns c =
    let bytes = c.args.sections.now in
    let all : c.loop-i.i ≡ section_count bytes = omega arith in
    found_only has_symbols bytes c.loop-i.found (subst (λ n. Found has_symbols (header_of bytes) n c.loop-i.found) all c.loop-i.invariant)
