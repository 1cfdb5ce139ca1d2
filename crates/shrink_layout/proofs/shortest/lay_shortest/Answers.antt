use Rattle.std.proofs.Common.{rules, ◌≡◌, ℕ, ◌+◌, ◌*◌, ◌/◌, ◌<◌, ◌≤◌, get_or-set_same, get_or-set_other, length, length-set, map, min, set, sym, ap, ◌∙◌, subst, arith, inl, inr}
use Rattle.std.specs.Prelude.{slice_index}
use Rattle.std.specs.List.{sum, sum_by}
use Rattle.std.proofs.lemmas.Bool.{cases_lt, cases_eq}
use Rattle.std.proofs.lemmas.List.{ext_get_or, get_or-map, length-map}
use Rattle.shrink_layout.specs.declared.piece.Piece.TheVariants.{Fixed}
use Rattle.shrink_layout.specs.Invariants.Blocks.{block_size, nth_piece}
use Rattle.shrink_layout.specs.Forms.{longest, shortest, width}
use Rattle.shrink_layout.specs.Layout.{addresses_of, widths_of}
use Rattle.shrink_layout.proofs.AddressLaws.{address_most, first_address, length_addresses, next_address}
use Rattle.shrink_layout.proofs.RoundLaws.{length_forms, shortest_forms}
use Rattle.shrink_layout.proofs.WidthLaws.{width_at, widths_below, widths_count}
use Rattle.shrink_layout.proofs.shortest.lay_shortest.Goals as goal

pub loop-k-init : goal.loop-k-init
loop-k-init c =
    record {
      sizes_count = omega (arith, c.in_ok-sizes.ensures.len, c.in_ok-sizes.sizes.ok);
      widths_count = omega (arith, c.in_ok-widths.ensures.len, c.in_ok-widths.widths.ok);
      starts_count = omega (arith, c.in_ok-starts.ensures.len, c.in_ok-starts.starts.ok);
      at_is = sym (first_address c.args.text c.args.pieces.now (map shortest c.args.pieces.now));
      sizes_are = λ j lt. absurd (omega (arith, lt));
      widths_are = λ j lt. absurd (omega (arith, lt));
      first = search rules;
      starts_are = λ b some lt. absurd (omega (arith, some, lt));
    }

pub overflow_add-at : goal.overflow_add-at
overflow_add-at c =
    let text = c.args.text in
    let pieces = c.args.pieces.now in
    let all = map shortest pieces in
    let k = c.loop-k.k in
    let forms = shortest_forms pieces in
    let in_pieces : k < length pieces = c.loop-k-test.true in
    let p = nth_piece pieces k in
    let a = addresses_of text pieces all in
    let size_is : c.shortest-size.result ≡ slice_index all k = c.shortest-size.ensures ∙ sym (get_or-map shortest pieces k (Fixed 0) 0 in_pieces) in
    let width_is : c.width-width.result ≡ width p (slice_index all k) (slice_index a k) = c.width-width.ensures.value ∙ (λ i. width p (size_is i) (c.loop-k.invariant.at_is i)) in
    omega (
      arith,
      c.loop-k.invariant.at_is,
      width_is,
      next_address text pieces all k (Fixed 0) in_pieces forms,
      address_most text pieces all c.requires.alignments forms (k + 1) 0 (omega (arith, length_addresses text pieces all forms, in_pieces)),
      c.requires.room,
    )

pub loop-k-preserved : goal.loop-k-preserved
loop-k-preserved c =
    let text = c.args.text in
    let pieces = c.args.pieces.now in
    let all = map shortest pieces in
    let now = c.loop-k.invariant in
    let k = c.loop-k.k in
    let at = c.loop-k.at in
    let sizes = c.loop-k.sizes.items in
    let widths = c.loop-k.widths.items in
    let starts = c.loop-k.starts.items in
    let size = c.shortest-size.result in
    let w = c.width-width.result in
    let p = nth_piece pieces k in
    let a = addresses_of text pieces all in
    let forms = shortest_forms pieces in
    let in_pieces : k < length pieces = c.loop-k-test.true in
    let size_is : size ≡ slice_index all k = c.shortest-size.ensures ∙ sym (get_or-map shortest pieces k (Fixed 0) 0 in_pieces) in
    let width_is : w ≡ width p (slice_index all k) (slice_index a k) = c.width-width.ensures.value ∙ (λ i. width p (size_is i) (now.at_is i)) in
    let next : at + w ≡ slice_index a (k + 1) = omega (arith, now.at_is, width_is, next_address text pieces all k (Fixed 0) in_pieces forms) in
    let in_starts : k / block_size + 1 < length starts = omega (arith, now.starts_count, in_pieces) in
    record {
      sizes_count = length-set sizes k size ∙ now.sizes_count;
      widths_count = length-set widths k w ∙ now.widths_count;
      starts_count = length-set starts (k / block_size + 1) (at + w) ∙ now.starts_count;
      at_is = next;
      sizes_are = λ j lt. elim (cases_lt j k) [
        | inl done ↦ get_or-set_other sizes k j size 0 (λ e. omega (arith, e, done)) ∙ now.sizes_are j done
        | inr new ↦
            let e : k ≡ j = omega (arith, new, lt) in
            subst (λ m. slice_index (set sizes k size) m ≡ shortest (nth_piece pieces m)) e (get_or-set_same sizes k size 0 (omega (arith, now.sizes_count, in_pieces)) ∙ c.shortest-size.ensures)
      ];
      widths_are = λ j lt. elim (cases_lt j k) [
        | inl done ↦ get_or-set_other widths k j w 0 (λ e. omega (arith, e, done)) ∙ now.widths_are j done
        | inr new ↦
            let e : k ≡ j = omega (arith, new, lt) in
            subst (λ m. slice_index (set widths k w) m ≡ slice_index (widths_of text pieces all) m) e
            (get_or-set_same widths k w 0 (omega (arith, now.widths_count, in_pieces)) ∙ width_is ∙ sym (width_at text pieces all k (length_forms pieces all forms) in_pieces))
      ];
      first = get_or-set_other starts (k / block_size + 1) 0 (at + w) 0 (λ e. omega (arith, e)) ∙ now.first;
      starts_are = λ b some lt. elim (cases_eq b (k / block_size + 1)) [
        | inl this ↦
            let e : k + 1 ≡ min (k + 1) (b * block_size) = omega (arith, this) in
            ap (slice_index (set starts (k / block_size + 1) (at + w))) this ∙ get_or-set_same starts (k / block_size + 1) (at + w) 0 in_starts ∙ next ∙ ap (slice_index a) e
        | inr other ↦
            let e : min k (b * block_size) ≡ min (k + 1) (b * block_size) = omega (arith, other, lt) in
            get_or-set_other starts (k / block_size + 1) b (at + w) 0 other ∙ now.starts_are b some (omega (arith, other, lt)) ∙ ap (slice_index a) e
      ];
    }

pub of-requires : goal.of-requires
of-requires c =
    let text = c.args.text in
    let pieces = c.args.pieces.now in
    let all = map shortest pieces in
    let now = c.loop-k.invariant in
    let count = widths_count text pieces all (length_forms pieces all (shortest_forms pieces)) in
    let is : c.loop-k.widths.items ≡ widths_of text pieces all = ext_get_or 0 c.loop-k.widths.items (widths_of text pieces all) (now.widths_count ∙ sym count)
    (λ k lt. now.widths_are k (omega (arith, now.widths_count, lt, c.loop-k-test.false))) in
    let below = subst (λ l. sum l ≤ sum_by longest pieces) (sym is) (widths_below text pieces all c.requires.alignments (shortest_forms pieces)) in
    omega (arith, below, c.requires.room)

pub returns-clause-sizes : goal.returns-clause-sizes
returns-clause-sizes c =
    let now = c.loop-k.invariant in
    let pieces = c.args.pieces.now in
    ext_get_or 0 c.loop-k.sizes.items (map shortest pieces) (now.sizes_count ∙ sym (length-map pieces shortest))
    (λ k lt. now.sizes_are k (omega (arith, now.sizes_count, lt, c.loop-k-test.false)) ∙ sym (get_or-map shortest pieces k (Fixed 0) 0 (omega (arith, now.sizes_count, lt))))

pub returns-clause-sums : goal.returns-clause-sums
returns-clause-sums c =
    let text = c.args.text in
    let pieces = c.args.pieces.now in
    let all = map shortest pieces in
    let now = c.loop-k.invariant in
    let count = widths_count text pieces all (length_forms pieces all (shortest_forms pieces)) in
    c.in_ok-of.ensures
    ∙ ext_get_or 0 c.loop-k.widths.items (widths_of text pieces all) (now.widths_count ∙ sym count) (λ k lt. now.widths_are k (omega (arith, now.widths_count, lt, c.loop-k-test.false)))

pub returns-clause-starts : goal.returns-clause-starts
returns-clause-starts c =
    let text = c.args.text in
    let pieces = c.args.pieces.now in
    let a = addresses_of text pieces (map shortest pieces) in
    let now = c.loop-k.invariant in
    let k = c.loop-k.k in
    let starts = c.loop-k.starts.items in
    let all : k ≡ length pieces = omega (arith, c.loop-k-test.false) in
    let last : ℕ = length pieces / block_size + 1 in
    record {
      long = length-set starts last c.loop-k.at ∙ now.starts_count;
      each = λ b le. elim (cases_eq b last) [
        | inl this ↦
            let e : k ≡ min (length pieces) (b * block_size) = omega (arith, this, all) in
            ap (slice_index (set starts last c.loop-k.at)) this ∙ get_or-set_same starts last c.loop-k.at 0 (omega (arith, now.starts_count)) ∙ now.at_is ∙ ap (slice_index a) e
        | inr other ↦ get_or-set_other starts last b c.loop-k.at 0 other ∙ elim (cases_eq b 0) [
          | inl none ↦
              let e : 0 ≡ min (length pieces) (b * block_size) = omega (arith, none) in
              ap (slice_index starts) none ∙ now.first ∙ sym (first_address text pieces (map shortest pieces)) ∙ ap (slice_index a) e
          | inr some ↦
              let e : min k (b * block_size) ≡ min (length pieces) (b * block_size) = omega (arith, all) in
              now.starts_are b (omega (arith, some)) (omega (arith, le, other, all)) ∙ ap (slice_index a) e
        ]
      ];
    }
