use Rattle.std.proofs.Common.{◌≡◌, ◌+◌, ◌∷◌, [], ◌++◌, Bool, true, length, map, sym, ap, ◌∙◌, arith, eq-eqb, length-append}
use Rattle.std.specs.Prelude.{◌==◌, filter}
use Rattle.std.specs.List.{range_with_len}
use Rattle.std.proofs.lemmas.Bool.{ne_eqb}
use Rattle.elf32_read.specs.Header.{program_count, program_header_of}
use Rattle.elf32_read.specs.Segments.{loads_of}
use Rattle.elf32_read.specs.declared.header.ProgramHeader.{ProgramHeader}
use Rattle.elf32_read.proofs.Filtered.{kept_more, kept_same, kept_length}
use Rattle.elf32_read.proofs.loads.loads_in.Goals as goal
use Rattle.elf32_read.proofs.loads.loads_in.Goals.{then-header-eq-LOAD+else-len-eq-MOST_LOADS, else-header-eq-LOAD}

-- there is one segment more than there is room for
pub returns-then-len-eq-MOST_LOADS : goal.returns-then-len-eq-MOST_LOADS
unfolding loads_of
returns-then-len-eq-MOST_LOADS c =
    let header_at = program_header_of c.args.bytes.now in
    let i = c.loop-i.i in
    let loads : ProgramHeader → Bool = λ header. header.kind == 1 in
    let kept = filter loads (map header_at (range_with_len 0 i)) in
    let this : loads (header_at i) ≡ true = eq-eqb (header_at i).kind 1 (sym (ap (λ h. h.kind) c.program_header-header.ensures) ∙ c.if-header-eq-LOAD.true) in
    let more = ap length (kept_more loads header_at i this) ∙ length-append kept (header_at i ∷ []) in
    let count : length kept ≡ 16 = sym (ap length c.loop-i.invariant) ∙ sym c.len.ensures.count ∙ c.if-len-eq-MOST_LOADS.true in
    let within = kept_length loads header_at (program_count c.args.bytes.now) (i + 1) (omega arith) in
    omega (arith, more, count, within)

pub push-requires : goal.push-requires
push-requires c = omega (arith, c.len.ensures.count, c.len.ensures.most)

pub loop-i-preserved : goal.loop-i-preserved
loop-i-preserved c =
    let header_at = program_header_of c.args.bytes.now in
    let i = c.loop-i.i in
    let loads : ProgramHeader → Bool = λ header. header.kind == 1 in
    let kind : c.program_header-header.result.kind ≡ (header_at i).kind = ap (λ h. h.kind) c.program_header-header.ensures in
    elim c.if-header-eq-LOAD.branch [
      | then-header-eq-LOAD+else-len-eq-MOST_LOADS w ↦
          w.loads-is ∙ w.push.ensures ∙ (λ j. c.loop-i.invariant j ++ (c.program_header-header.ensures j ∷ []))
          ∙ sym (kept_more loads header_at i (eq-eqb (header_at i).kind 1 (sym kind ∙ w.if-header-eq-LOAD.true)))
      | else-header-eq-LOAD w ↦
          w.loads-is ∙ c.loop-i.invariant ∙ sym (kept_same loads header_at i (ne_eqb (header_at i).kind 1 (λ e. w.if-header-eq-LOAD.false (kind ∙ e))))
    ]
