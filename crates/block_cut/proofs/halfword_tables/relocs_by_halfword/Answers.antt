-- At each halfword is the first of the relocations so far that are right and begin there.
use Rattle.std.proofs.Common.{◌≡◌, ◌+◌, ◌/◌, ◌%◌, ◌<◌, ℕ, List, true, false, cond, eqb, length, get_or, take, drop, ◌++◌, sym, ap, subst, ◌∙◌, arith, rules}
use Rattle.std.proofs.lemmas.List.{get_or-replicate, length-replicate, take-append-le, take_all}
use Rattle.std.proofs.lemmas.Option.{slice_get-get_or}
use Rattle.block_cut.specs.Resolved.{is_right}
use Rattle.block_cut.specs.declared.resolved_reloc.ResolvedReloc.{ResolvedReloc}
use Rattle.block_cut.proofs.TableLaws.{IsTableSoFar, odd_fails, table_all, table_first, table_next, table_other, wrong_fails}
use Rattle.block_cut.proofs.halfword_tables.relocs_by_halfword.Goals.{then-is_right+then-reloc-eq0, else-is_right, else-is_right-via-then-is_right+else-reloc-eq0, else-is_right-via-else-is_right}
use Rattle.block_cut.proofs.halfword_tables.relocs_by_halfword.Goals as goal

-- a list is the front of itself with more after it
whole_front : {X : Type 0} (xs ys : List X) (n : ℕ) → length xs ≡ n → take n (xs ++ ys) ≡ xs
whole_front xs ys n long = take-append-le n xs ys (omega arith) ∙ take_all n xs (omega arith)

module _ (relocs : List ResolvedReloc) (count k : ℕ) (d : ResolvedReloc) (lt : k < length relocs) where
  kept : (old new : List ℕ) → is_right (get_or relocs k d).fault ≡ true → (get_or relocs k d).offset % 2 ≡ 0 → IsTableSoFar relocs count k old → length new ≡ length old
      → ((j : ℕ) → j < length old → get_or new j 0 ≡ cond (eqb j ((get_or relocs k d).offset / 2)) (cond (eqb (get_or old j 0) 0) (k + 1) (get_or old j 0)) (get_or old j 0))
      → IsTableSoFar relocs count (k + 1) new
  kept = table_next relocs count k (get_or relocs k d) (slice_get-get_or relocs k d lt)

  wrong : (table : List ℕ) → is_right (get_or relocs k d).fault ≡ false → IsTableSoFar relocs count k table → IsTableSoFar relocs count (k + 1) table
  wrong table is = let at = slice_get-get_or relocs k d lt in table_other relocs count k (get_or relocs k d) at table (wrong_fails relocs count k (get_or relocs k d) at is)

  odd : (table : List ℕ) → ((get_or relocs k d).offset % 2 ≡ 0 → ⊥) → IsTableSoFar relocs count k table → IsTableSoFar relocs count (k + 1) table
  odd table is = let at = slice_get-get_or relocs k d lt in table_other relocs count k (get_or relocs k d) at table (odd_fails relocs count k (get_or relocs k d) at is)

pub loop-k-init : goal.loop-k-init
loop-k-init c =
    let items = c.in_ok-table.ensures.items_if_clones_equal (λ y h. search rules) in
    let count = c.args.count in
    table_first c.args.relocs.now count c.in_ok-table.table.items (ap length items ∙ length-replicate {A = ℕ} count 0) (λ j lt. ap (λ l. get_or l j 0) items ∙ get_or-replicate count j 0 0 lt)

pub loop-k-preserved : goal.loop-k-preserved
loop-k-preserved c =
    let relocs = c.args.relocs.now in
    let k = c.loop-k.k in
    let was = c.loop-k.invariant in
    let inside = c.loop-k-test.true in
    elim c.if-is_right.branch [
      | then-is_right+then-reloc-eq0 w ↦
          let old = w.deref_mut.ensures.value in
          let long : length w.keep.new.table ≡ length w.deref_mut.result.now = w.keep.ensures.count in
          let items : c.if-is_right.table.items ≡ w.keep.new.table =
          ap (λ v. v.items) w.table-is ∙ whole_front w.keep.new.table (drop (length w.keep.new.table) c.loop-k.table.items) c.loop-k.table.len (omega (arith, long, w.deref_mut.ensures.len)) in
          subst (IsTableSoFar relocs c.args.count (k + 1)) (sym items)
          (kept relocs c.args.count k _ inside w.deref_mut.result.now w.keep.new.table (sym c.is_right.ensures ∙ w.if-is_right.true) w.if-reloc-eq0.true
          (subst (IsTableSoFar relocs c.args.count k) (sym old) was) long w.keep.ensures.entries)
      | else-is_right w ↦
          let items : c.if-is_right.table.items ≡ c.loop-k.table.items = ap (λ v. v.items) w.table-is in
          subst (IsTableSoFar relocs c.args.count (k + 1)) (sym items)
          (elim w.else-is_right.branch [
            | else-is_right-via-then-is_right+else-reloc-eq0 v ↦ odd relocs c.args.count k _ inside c.loop-k.table.items v.if-reloc-eq0.false was
            | else-is_right-via-else-is_right v ↦ wrong relocs c.args.count k _ inside c.loop-k.table.items (sym c.is_right.ensures ∙ v.if-is_right.false) was
          ])
    ]

pub returns : goal.returns
returns c = table_all c.args.relocs.now c.args.count c.loop-k.k c.loop-k.table.items c.loop-k-test.false c.loop-k.invariant
