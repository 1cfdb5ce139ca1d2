use Rattle.std.proofs.Common.{◌≡◌, ◌+◌, ◌<◌, ℕ, true, length, map, cond, sym, ap, ◌∙◌, arith, eq-eqb}
use Rattle.std.specs.Prelude.{filter}
use Rattle.std.specs.List.{range_with_len}
use Rattle.std.proofs.lemmas.Bool.{lt-ltb, ne_eqb}
use Rattle.elf32_read.specs.Header.{header_of, section_count}
use Rattle.elf32_read.proofs.Filtered.{count_more, count_same, kept_length}
use Rattle.elf32_read.proofs.Tests.{has_symbols}
use Rattle.elf32_read.proofs.kinds.has_second_symbol_table.Goals as goal
use Rattle.elf32_read.proofs.kinds.has_second_symbol_table.Goals.{then-header-eq-SYMTAB+else-found, else-header-eq-SYMTAB}

-- a second symbol table is found
pub returns-then-found : goal.returns-then-found
returns-then-found c =
    let header_at = header_of c.args.sections.now in
    let i = c.loop-i.i in
    let count = section_count c.args.sections.now in
    let kept : ℕ → ℕ = λ n. length (filter has_symbols (map header_at (range_with_len 0 n))) in
    let this : has_symbols (header_at i) ≡ true = eq-eqb (header_at i).kind 2 (sym (ap (λ h. h.kind) c.header.ensures.header) ∙ c.if-header-eq-SYMTAB.true) in
    let one : kept i ≡ 1 = c.loop-i.invariant ∙ ap (λ b. cond b 1 0) c.if-found.true in
    let all = kept_length has_symbols header_at count (i + 1) (omega arith) in
    let two : 1 < kept count = omega (arith, one, count_more has_symbols header_at i this, all) in
    sym (lt-ltb 1 (kept count) two)

pub loop-i-preserved : goal.loop-i-preserved
loop-i-preserved c =
    let header_at = header_of c.args.sections.now in
    let i = c.loop-i.i in
    let kind : c.header.result.kind ≡ (header_at i).kind = ap (λ h. h.kind) c.header.ensures.header in
    elim c.if-header-eq-SYMTAB.branch [
      | then-header-eq-SYMTAB+else-found w ↦
          count_more has_symbols header_at i (eq-eqb (header_at i).kind 2 (sym kind ∙ w.if-header-eq-SYMTAB.true))
          ∙ ap (λ n. n + 1) (c.loop-i.invariant ∙ ap (λ b. cond b 1 0) w.if-found.false)
          ∙ sym (ap (λ b. cond b 1 0) w.found-is)
      | else-header-eq-SYMTAB w ↦
          count_same has_symbols header_at i (ne_eqb (header_at i).kind 2 (λ e. w.if-header-eq-SYMTAB.false (kind ∙ e)))
          ∙ c.loop-i.invariant ∙ sym (ap (λ b. cond b 1 0) w.found-is)
    ]
