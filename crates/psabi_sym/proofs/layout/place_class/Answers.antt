use Rattle.std.proofs.Common.{◌≡◌, ◌+◌, ℕ, slice_get, slice_index, get_or, cond, sym, ap, ◌∙◌, arith, get_or-set_same, get_or-set_other, ◌≢◌, false, inl, inr, set}
use Rattle.std.proofs.lemmas.Bool.{cases_eq}
use Rattle.std.proofs.lemmas.Option.{get_or_from_slice_get, slice_get_within}
use Rattle.psabi_sym.specs.Blocks.{aligned_up}
use Rattle.psabi_sym.specs.Data.{has_class}
use Rattle.psabi_sym.specs.Invariants.Rows.{row_address}
use Rattle.psabi_sym.specs.declared.section_row.SectionRow.{SectionRow}
use Rattle.psabi_sym.specs.declared.section_row.SectionRole.TheVariants.{Code}
use Rattle.psabi_sym.proofs.RowLaws.{end_more, end_same, fits_here}
use Rattle.psabi_sym.proofs.layout.place_class.Goals as goal
use Rattle.psabi_sym.proofs.layout.place_class.Goals.{then-is_of, else-is_of}

-- what a read past the end would give
abbrev row0 : SectionRow
row0 = record { object = 0; index = 0; role = Code; align = 0; size = 0; fixed = false }

pub aligned_up-at-requires-then-is_of : goal.aligned_up-at-requires-then-is_of
aligned_up-at-requires-then-is_of c =
    let has = sym c.is_of.ensures ∙ c.if-is_of.true in
    omega (arith, fits_here c.args.class (aligned_up 16 c.args.from) c.args.rows.now c.loop-k.k row0 (omega arith) has)

pub overflow_add-at : goal.overflow_add-at
overflow_add-at c =
    let has = sym c.is_of.ensures ∙ c.if-is_of.true in
    omega (arith, fits_here c.args.class (aligned_up 16 c.args.from) c.args.rows.now c.loop-k.k row0 (omega arith) has)

pub loop-k-preserved : goal.loop-k-preserved
loop-k-preserved c =
    let rows = c.args.rows.now in
    let k = c.loop-k.k in
    let class = c.args.class in
    let start = aligned_up 16 c.args.from in
    let here = get_or rows k row0 in
    let old = λ (j : ℕ). slice_index c.args.addresses.now j in
    elim c.if-is_of.branch [
      | then-is_of w ↦
          let has = sym c.is_of.ensures ∙ w.if-is_of.true in
          let value : w.aligned_up-at-then-is_of.result ≡ row_address class start rows k here =
          w.aligned_up-at-then-is_of.ensures.value ∙ ap (aligned_up here.align) c.loop-k.invariant.so_far in
          record {
            so_far = w.at-is ∙ ap (λ n. n + here.size) value ∙ end_more class start rows k row0 (omega arith) has;
            placed = λ j r lt at. elim (cases_eq j k) [
              | inl e ↦
                  let same : here ≡ r = get_or_from_slice_get rows k r row0 (ap (slice_get rows) (sym e) ∙ at) in
                  ap (λ l. slice_index l j) w.addresses-is ∙ ap (slice_index (set c.loop-k.addresses k w.aligned_up-at-then-is_of.result)) e
                  ∙ get_or-set_same c.loop-k.addresses k _ 0 (omega arith) ∙ value
                  ∙ (λ i. row_address class start rows (sym e i) (same i))
                  ∙ ap (λ b. cond b (row_address class start rows j r) (old j)) (sym (ap (λ s. has_class class s.role) (sym same) ∙ has))
              | inr ne ↦
                  ap (λ l. slice_index l j) w.addresses-is ∙ get_or-set_other c.loop-k.addresses k j _ 0 ne ∙ c.loop-k.invariant.placed j r (omega arith) at
            ];
            rest = λ j le.
                let ne : j ≢ k = omega arith in
                ap (λ l. slice_index l j) w.addresses-is ∙ get_or-set_other c.loop-k.addresses k j _ 0 ne ∙ c.loop-k.invariant.rest j (omega arith);
          }
      | else-is_of w ↦
          let not_of = sym c.is_of.ensures ∙ w.if-is_of.false in
          record {
            so_far = w.at-is ∙ c.loop-k.invariant.so_far ∙ end_same class start rows k row0 (omega arith) not_of;
            placed = λ j r lt at. elim (cases_eq j k) [
              | inl e ↦
                  let same : here ≡ r = get_or_from_slice_get rows k r row0 (ap (slice_get rows) (sym e) ∙ at) in
                  ap (λ l. slice_index l j) w.addresses-is ∙ c.loop-k.invariant.rest j (omega (arith, e))
                  ∙ ap (λ b. cond b (row_address class start rows j r) (old j)) (sym (ap (λ s. has_class class s.role) (sym same) ∙ not_of))
              | inr ne ↦ ap (λ l. slice_index l j) w.addresses-is ∙ c.loop-k.invariant.placed j r (omega arith) at
            ];
            rest = λ j le. ap (λ l. slice_index l j) w.addresses-is ∙ c.loop-k.invariant.rest j (omega arith);
          }
    ]

pub returns-clause-placed : goal.returns-clause-placed
returns-clause-placed c = λ k r at. c.loop-k.invariant.placed k r (omega (arith, slice_get_within c.args.rows.now k r at)) at
