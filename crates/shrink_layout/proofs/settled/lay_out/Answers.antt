-- What `settle_pieces` asks holds of the pieces of inputs without a fault, and what it gives is the layout.
use Rattle.std.proofs.Common.{◌≡◌, ℕ, ◌≤◌, ◌%◌, All, List, Option, length, take, sym, ap, subst, subst₂, ◌∙◌, arith}
use Rattle.std.specs.List.{sum, sum_by}
use Rattle.psabi_sym.specs.Inputs.{ParsedInputs, parsed}
use Rattle.block_cut.specs.Faults.{first_fault}
use Rattle.block_cut.specs.PlainLayout.{plain_counts}
use Rattle.zc_base.specs.declared.place.Place.{Place}
use Rattle.shrink_layout.specs.Invariants.Made.{AreHalvesOf, all_owners}
use Rattle.shrink_layout.specs.Counted.{is_long_piece, is_short_piece, pieces_with}
use Rattle.shrink_layout.specs.Forms.{HasAlignment, IsEvenPiece, longest, target}
use Rattle.shrink_layout.specs.Invariants.Widths.{AreStarts}
use Rattle.shrink_layout.specs.Layout.{IsLayout, addresses_of, sizes_of, widths_of}
use Rattle.shrink_layout.specs.Least.{IsLeast, IsTight}
use Rattle.shrink_layout.specs.Pieces.{pieces_of}
use Rattle.shrink_layout.specs.Settled.{settled_sizes}
use Rattle.shrink_layout.specs.declared.piece.Piece.{Piece}
use Rattle.shrink_layout.proofs.FixedSections.{kept_sections}
use Rattle.shrink_layout.proofs.KeptLaws.{kept_addresses, kept_sizes, kept_widths, long_counted, short_counted, sizes_long, text_summed}
use Rattle.shrink_layout.proofs.HalfLaws.{all_halves}
use Rattle.shrink_layout.proofs.PremiseLaws.{all_aligned, all_even, all_tight, front_few, pieces_few, room_few, targets}
use Rattle.shrink_layout.proofs.SizesLaws.{sizes_layout}
use Rattle.shrink_layout.proofs.TableLaws.{table_pays_off}
use Rattle.shrink_layout.proofs.settled.lay_out.Goals as goal

pub settle_pieces-requires : goal.settle_pieces-requires
settle_pieces-requires c =
    let none = c.requires.numbered.faultless in
    let pieces = c.deref.ensures.value ∙ c.requires.made.pieces_are in
    let map = c.map-text.ensures.is_map in
    record {
      alignments = subst (All HasAlignment) (sym pieces) (all_aligned c.args.of.now.planned.now none c.args.slots.now);
      targets = subst (λ ps. All (λ p. target p ≤ length ps) ps) (sym pieces) (targets c.args.of.now.planned.now none c.args.slots.now);
      room = omega (arith, ap (sum_by longest) pieces, room_few c.args.of.now.planned.now none c.args.slots.now, front_few c.args.slots.now c.requires.targets.few, map.code, map.room);
      near = omega (arith, ap (sum_by longest) pieces, room_few c.args.of.now.planned.now none c.args.slots.now, front_few c.args.slots.now c.requires.targets.few);
    }

pub count_sizes-sizes-requires-clause-same : goal.count_sizes-sizes-requires-clause-same
count_sizes-sizes-requires-clause-same c =
    let inputs = parsed c.args.of.now.planned.now in
    let pieces = c.deref.ensures.value ∙ c.requires.made.pieces_are in
    let text = ap (λ m. m.text) c.map-text.ensures.value ∙ ap (λ x. x.map.text) (c.objects.ensures.same ∙ c.cut-cut.ensures.same) in
    let sizes = c.deref-3.ensures.value ∙ c.in_ok-layout.ensures.sizes ∙ (λ j. sizes_of (text j) (pieces j)) ∙ kept_sizes inputs c.args.slots.now in
    ap length sizes ∙ sizes_long inputs c.args.slots.now ∙ ap length (sym (c.deref-2.ensures.value ∙ c.requires.made.pieces_are))

pub count_sizes-sizes-requires-clause-few : goal.count_sizes-sizes-requires-clause-few
count_sizes-sizes-requires-clause-few c =
    omega (arith, ap length (c.deref-2.ensures.value ∙ c.requires.made.pieces_are), pieces_few c.args.of.now.planned.now c.requires.numbered.faultless c.args.slots.now)

pub returns-clause-settled : goal.returns-clause-settled
returns-clause-settled c =
    let none = c.requires.numbered.faultless in
    let inputs = parsed c.args.of.now.planned.now in
    let pieces = c.deref.ensures.value ∙ c.requires.made.pieces_are in
    let text = ap (λ m. m.text) c.map-text.ensures.value ∙ ap (λ x. x.map.text) (c.objects.ensures.same ∙ c.cut-cut.ensures.same) in
    let are = c.in_ok-layout.ensures.sums ∙ (λ j. widths_of (text j) (pieces j) (sizes_of (text j) (pieces j))) ∙ kept_widths inputs c.args.slots.now in
    let sizes = c.deref-3.ensures.value ∙ c.in_ok-layout.ensures.sizes ∙ (λ j. sizes_of (text j) (pieces j)) ∙ kept_sizes inputs c.args.slots.now in
    let long = c.before-2.ensures ∙ ap (λ l. sum (take c.count.result l)) are ∙ text_summed inputs c.args.slots.now c.count.result (c.count.ensures ∙ ap length are) in
    let listed = c.deref-2.ensures.value ∙ c.requires.made.pieces_are in
    record {
      faultless = none;
      targets = c.requires.targets;
      starts_are = c.requires.numbered.starts;
      made_are = c.requires.made;
      sums_are = are;
      block_starts_are =
          subst₂ (λ (addresses : List ℕ) (count : ℕ). AreStarts addresses count c.in_ok-layout.layout.block_starts.items)
          ((λ j. addresses_of (text j) (pieces j) (sizes_of (text j) (pieces j))) ∙ kept_addresses inputs c.args.slots.now) (ap length pieces)
          c.in_ok-layout.ensures.starts;
      counts_are = λ j. record {
        text = long j;
        items = ((c.counts.ensures ∙ ap (λ x. plain_counts (parsed x)) c.cut-cut.ensures.same) j).items;
        short = (c.count_sizes-sizes.ensures.short ∙ (λ i. pieces_with is_short_piece (listed i) (sizes i)) ∙ short_counted c.args.of.now.planned.now none c.args.slots.now) j;
        long = (c.count_sizes-sizes.ensures.long ∙ (λ i. pieces_with is_long_piece (listed i) (sizes i)) ∙ long_counted c.args.of.now.planned.now none c.args.slots.now) j;
        pushes = c.count_groups-groups.ensures.pushes j;
        pops = c.count_groups-groups.ensures.pops j;
        moves = c.count_groups-groups.ensures.moves j;
        table = (c.count_sites.ensures inputs (subst (AreHalvesOf (all_owners inputs c.args.slots.now)) (sym c.deref-4.ensures.value) c.requires.made.halves_are)) j;
      };
    }

pub count_sites-requires : goal.count_sites-requires
count_sites-requires c =
    let inputs = parsed c.args.of.now.planned.now in
    let none = c.requires.numbered.faultless in
    omega (
      arith,
      ap length c.deref-4.ensures.value,
      (all_halves c.args.of.now.planned.now none c.args.slots.now c.args.made.halves.items c.requires.made.halves_are).0,
      pieces_few c.args.of.now.planned.now none c.args.slots.now,
    )

-- the sizes that the definition gives are those of the first round that fits
first_fitting : (inputs : ParsedInputs) (slots : List (Option Place)) → IsLayout inputs.map.text (pieces_of inputs slots) (settled_sizes inputs slots)
unfolding settled_sizes
first_fitting inputs slots = sizes_layout inputs.map.text (pieces_of inputs slots)

pub returns-clause-laid : goal.returns-clause-laid
returns-clause-laid c =
    let own = c.args.of.now.planned.now in
    let inputs = parsed own in
    let slots = c.args.slots.now in
    let none = c.requires.numbered.faultless in
    let pieces = c.deref.ensures.value ∙ c.requires.made.pieces_are in
    let text = ap (λ m. m.text) c.map-text.ensures.value ∙ ap (λ x. x.map.text) (c.objects.ensures.same ∙ c.cut-cut.ensures.same) in
    let page = c.map-text.ensures.is_map.text_page in
    let even : c.map-text.result.text % 2 ≡ 0 = omega (arith, page) in
    let own_even : own.map.text % 2 ≡ 0 = omega (arith, text, page) in
    let faultless = ap first_fault (sym c.cut-cut.ensures.same) ∙ c.objects.ensures.faultless in
    record {
      layout = first_fitting inputs slots;
      least = λ unaligned.
          let given = c.in_ok-layout.ensures.least even (subst (All IsEvenPiece) (sym pieces) (all_even own none slots)) (subst (All IsTight) (sym pieces) (all_tight inputs slots unaligned)) in
          subst (IsLeast inputs.map.text (pieces_of inputs slots)) (kept_sizes inputs slots)
          (subst₂ (λ (t : ℕ) (ps : List Piece). IsLeast t ps (sizes_of t ps)) text pieces given);
      pays = λ unaligned. table_pays_off own faultless slots unaligned own_even;
      kept = kept_sections own faultless slots;
    }
