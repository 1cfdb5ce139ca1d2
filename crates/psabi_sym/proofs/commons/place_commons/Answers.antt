use Rattle.std.proofs.Common.{rules, ◌≡◌, ◌<◌, ◌≤◌, refl, sym, ap, ◌∙◌, [], None, arith, length, get_or, map, ◌+◌, set, Some}
use Rattle.std.specs.List.{range_with_len}
use Rattle.std.proofs.lemmas.List.{take_all}
use Rattle.psabi_sym.specs.declared.symbol_row.SymbolRow.{SymbolRow}
use Rattle.psabi_sym.specs.Blocks.{aligned_up, end_from, placed_from}
use Rattle.psabi_sym.specs.Invariants.Rows.{placed_rows, row_address_of, row_common_block, row_room}
use Rattle.psabi_sym.proofs.CommonLaws.{end_next, next_by_tables, next_common, next_fits, stays, table_next}
use Rattle.psabi_sym.proofs.Tables.{table_at, table_start}
use Rattle.psabi_sym.proofs.commons.place_commons.Goals.{then-takes_room, else-takes_room}
use Rattle.psabi_sym.proofs.commons.place_commons.Goals as goal

-- what reads past the end would give
abbrev row0 : SymbolRow
row0 = record { object = 0; home = 0; index = 0; name = 0; value = 0; size = 0; bind = 0 }

pub loop-row-init : goal.loop-row-init
unfolding placed_rows
loop-row-init c = record {
  end = c.aligned_up-at.ensures.value;
  addresses = c.in_ok-addresses.ensures.items_if_clones_equal (λ y h. search rules)
      ∙ table_start (row_address_of []) (length c.args.strong.now) None (λ k. refl);
}

pub aligned_up-at-requires-then-takes_room : goal.aligned_up-at-requires-then-takes_room
aligned_up-at-requires-then-takes_room c =
    let rows = c.args.rows.now in
    let i = c.loop-row.row-index in
    let start = aligned_up 16 c.args.from in
    let n = length c.args.strong.now in
    let r = get_or rows i row0 in
    let is = next_by_tables rows start i n row0 c.args.strong.now c.deref.result.now c.takes_room.result c.takes_room.ensures c.requires.strong (c.deref.ensures.value ∙ c.loop-row.invariant.addresses) (c.requires.named i row0 (omega arith)) ∙ c.if-takes_room.true in
    let named : r.name < n = c.requires.named i row0 (omega arith) (next_common rows start i r is) in
    let block : c.index-block.result.now ≡ row_room rows r = c.index-block.ensures ∙ table_at (row_common_block rows) c.in_ok-blocks.blocks.items n r.name c.index-block.result.now c.in_ok-blocks.ensures named in
    let fits = next_fits rows start i row0 (omega arith) is in
    omega (arith, fits, ap (λ b. b.align) block)

pub overflow_add-at : goal.overflow_add-at
overflow_add-at c =
    let rows = c.args.rows.now in
    let i = c.loop-row.row-index in
    let start = aligned_up 16 c.args.from in
    let n = length c.args.strong.now in
    let r = get_or rows i row0 in
    let is = next_by_tables rows start i n row0 c.args.strong.now c.deref.result.now c.takes_room.result c.takes_room.ensures c.requires.strong (c.deref.ensures.value ∙ c.loop-row.invariant.addresses) (c.requires.named i row0 (omega arith)) ∙ c.if-takes_room.true in
    let named : r.name < n = c.requires.named i row0 (omega arith) (next_common rows start i r is) in
    let block : c.index-block.result.now ≡ row_room rows r = c.index-block.ensures ∙ table_at (row_common_block rows) c.in_ok-blocks.blocks.items n r.name c.index-block.result.now c.in_ok-blocks.ensures named in
    let fits = next_fits rows start i row0 (omega arith) is in
    omega (arith, fits, ap (λ b. b.align) block, ap (λ b. b.size) block)

pub loop-row-preserved : goal.loop-row-preserved
loop-row-preserved c =
    let rows = c.args.rows.now in
    let i = c.loop-row.row-index in
    let start = aligned_up 16 c.args.from in
    let n = length c.args.strong.now in
    let r = get_or rows i row0 in
    let within : i < length rows = omega arith in
    let tests = next_by_tables rows start i n row0 c.args.strong.now c.deref.result.now c.takes_room.result c.takes_room.ensures c.requires.strong (c.deref.ensures.value ∙ c.loop-row.invariant.addresses) (c.requires.named i row0 within) in
    elim c.if-takes_room.branch [
      | then-takes_room w ↦
          let is = tests ∙ w.if-takes_room.true in
          let named : r.name < n = c.requires.named i row0 within (next_common rows start i r is) in
          let block : w.index-block.result.now ≡ row_room rows r = w.index-block.ensures ∙ table_at (row_common_block rows) c.in_ok-blocks.blocks.items n r.name w.index-block.result.now c.in_ok-blocks.ensures named in
          let value = w.aligned_up-at-then-takes_room.ensures.value ∙ (λ j. aligned_up (block j).align (c.loop-row.invariant.end j)) in
          record {
            end = w.at-is ∙ (λ j. value j + (block j).size) ∙ sym (end_next rows start i row0 within is);
            addresses = ap (λ v. v.items) w.addresses-is ∙ ap (λ l. set l r.name (Some w.aligned_up-at-then-takes_room.result)) c.loop-row.invariant.addresses ∙ table_next rows start i row0 within n w.aligned_up-at-then-takes_room.result named is value;
          }
      | else-takes_room w ↦
          let same = sym (stays rows start i row0 within (tests ∙ w.if-takes_room.false)) in
          record {
            end = w.at-is ∙ c.loop-row.invariant.end ∙ ap (λ l. end_from start (map (row_room rows) l)) same;
            addresses = ap (λ v. v.items) w.addresses-is ∙ c.loop-row.invariant.addresses ∙ ap (λ l. map (row_address_of (placed_from (row_room rows) start l)) (range_with_len 0 n)) same;
          }
    ]

pub returns-clause-end : goal.returns-clause-end
returns-clause-end c =
    let rows = c.args.rows.now in
    let end : length rows ≤ c.loop-row.row-index = omega arith in
    c.loop-row.invariant.end ∙ ap (λ l. end_from (aligned_up 16 c.args.from) (map (row_room rows) (placed_rows rows l))) (take_all c.loop-row.row-index rows end)

pub returns-clause-addresses : goal.returns-clause-addresses
returns-clause-addresses c =
    let rows = c.args.rows.now in
    let n = length c.args.strong.now in
    let end : length rows ≤ c.loop-row.row-index = omega arith in
    c.loop-row.invariant.addresses
    ∙ ap (λ l. map (row_address_of (placed_from (row_room rows) (aligned_up 16 c.args.from) (placed_rows rows l))) (range_with_len 0 n)) (take_all c.loop-row.row-index rows end)
