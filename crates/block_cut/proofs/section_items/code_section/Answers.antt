-- Halfword after halfword the places are those that start there, each at the address after the one before it.
use Rattle.std.proofs.Common.{◌≡◌, ℕ, ◌++◌, ◌∷◌, [], ◌+◌, ◌*◌, ◌/◌, max, length, cond, eqb, true, Some, None, refl, sym, ap, subst, ◌∙◌, arith}
use Rattle.std.specs.Prelude.{◌||◌}
use Rattle.psabi_sym.specs.Blocks.{aligned_up}
use Rattle.psabi_sym.specs.Indexed.{IndexedSection}
use Rattle.psabi_sym.specs.Inputs.{Inputs, parsed}
use Rattle.block_cut.specs.Invariants.CodeSection.{IsCodeOf, ResolvedSection, resolved_section}
use Rattle.block_cut.specs.Invariants.HalfwordTables.{by_halfword, number_on}
use Rattle.block_cut.specs.Invariants.SectionItems.{section_tables}
use Rattle.block_cut.specs.Items.{item_in, place_of, size_on, starts_on}
use Rattle.block_cut.specs.Resolved.{placed_relocs}
use Rattle.block_cut.specs.declared.code_place.CodePlace.{CodePlace}
use Rattle.block_cut.proofs.TextLaws.{IsSoFar, address_fits, at_first, at_last, before_fits, none_more, one_more}
use Rattle.block_cut.proofs.WordLaws.{code_here, halfword_count, number_got, number_other, number_target}
use Rattle.block_cut.proofs.section_items.code_section.Goals.{then-number-ne0+in_ok-push, else-number-ne0}
use Rattle.block_cut.proofs.section_items.code_section.Goals as goal

-- what `place` gives of a section
abbrev place_on : Inputs → IndexedSection → ℕ → ℕ → CodePlace
place_on inputs l n address = record {
  item = cond (starts_on l.section n) (Some (item_in (parsed inputs) l.section (place_of l n))) None;
  address = address;
  offset = n;
  size = size_on l.section n;
}

pub new-requires : goal.new-requires
new-requires c = record { faultless = c.requires.after.faultless; found = c.requires.after.section; is_code = c.requires.code }

pub begin_after-address-requires : goal.begin_after-address-requires
begin_after-address-requires c =
    let inputs = c.args.objects.now in
    let l = c.args.section.now in
    let here = code_here inputs l.object l.index l.section c.requires.after.faultless c.requires.after.section c.requires.code in
    omega (arith, before_fits inputs c.requires.after.faultless l here, c.requires.after.end, here.whole.low, c.align.ensures, c.requires.after.is_map.code, c.requires.after.is_map.room)

pub loop-k-init : goal.loop-k-init
loop-k-init c =
    let inputs = c.args.objects.now in
    let l = c.args.section.now in
    let here = code_here inputs l.object l.index l.section c.requires.after.faultless c.requires.after.section c.requires.code in
    let begin = c.begin_after-address.ensures ∙ (λ j. aligned_up (max 4 (c.align.ensures j)) (c.requires.after.end j)) in
    subst (λ ps. IsSoFar (parsed inputs) l 0 ps c.begin_after-address.result) (sym c.in_ok-places.ensures.items) (at_first inputs c.requires.after.faultless l here c.begin_after-address.result begin)

pub overflow_cast-k : goal.overflow_cast-k
overflow_cast-k c =
    let l = c.args.section.now in
    let here = code_here c.args.objects.now l.object l.index l.section c.requires.after.faultless c.requires.after.section c.requires.code in
    let numbers = c.numbers-number-items.ensures ∙ ap (λ (x : ResolvedSection). by_halfword (number_on x.section.section) x.section.section) c.in_ok-code.ensures in
    let at = number_got l.section c.numbers-number-items.result.now c.loop-k.k 0 numbers c.loop-k-test.true in
    omega (arith, at.0, here.whole.short)

pub overflow_mul-k : goal.overflow_mul-k
overflow_mul-k c =
    let l = c.args.section.now in
    let here = code_here c.args.objects.now l.object l.index l.section c.requires.after.faultless c.requires.after.section c.requires.code in
    let numbers = c.numbers-number-items.ensures ∙ ap (λ (x : ResolvedSection). by_halfword (number_on x.section.section) x.section.section) c.in_ok-code.ensures in
    let at = number_got l.section c.numbers-number-items.result.now c.loop-k.k 0 numbers c.loop-k-test.true in
    omega (arith, at.0, here.whole.short)

pub place-place-requires : goal.place-place-requires
place-place-requires c =
    let l = c.args.section.now in
    let here = code_here c.args.objects.now l.object l.index l.section c.requires.after.faultless c.requires.after.section c.requires.code in
    let numbers = c.numbers-number-items.ensures ∙ ap (λ (x : ResolvedSection). by_halfword (number_on x.section.section) x.section.section) c.in_ok-code.ensures in
    let at = number_got l.section c.numbers-number-items.result.now c.loop-k.k 0 numbers c.loop-k-test.true in
    subst (λ (x : ResolvedSection). (starts_on x.section.section (2 * c.loop-k.k) || eqb (2 * c.loop-k.k) (length x.section.section.bytes)) ≡ true) (sym c.in_ok-code.ensures)
    (number_target l.section (2 * c.loop-k.k) (λ e. c.if-number-ne0.true (at.1 ∙ e)))

pub address_after-address-requires : goal.address_after-address-requires
address_after-address-requires c =
    let l = c.args.section.now in
    let here = code_here c.args.objects.now l.object l.index l.section c.requires.after.faultless c.requires.after.section c.requires.code in
    let numbers = c.numbers-number-items.ensures ∙ ap (λ (x : ResolvedSection). by_halfword (number_on x.section.section) x.section.section) c.in_ok-code.ensures in
    let at = number_got l.section c.numbers-number-items.result.now c.loop-k.k 0 numbers c.loop-k-test.true in
    let map = c.requires.after.is_map in
    omega (arith, address_fits c.args.objects.now c.requires.after.faultless l here c.loop-k.k c.loop-k.places.items c.loop-k.address at.0 c.loop-k.invariant, map.code, map.room)

pub loop-k-preserved : goal.loop-k-preserved
loop-k-preserved c =
    let inputs = c.args.objects.now in
    let none = c.requires.after.faultless in
    let k = c.loop-k.k in
    let places = c.loop-k.places.items in
    let so_far = c.loop-k.invariant in
    let code = c.in_ok-code.ensures in
    let l = c.args.section.now in
    let here = code_here c.args.objects.now l.object l.index l.section c.requires.after.faultless c.requires.after.section c.requires.code in
    let numbers = c.numbers-number-items.ensures ∙ ap (λ (x : ResolvedSection). by_halfword (number_on x.section.section) x.section.section) c.in_ok-code.ensures in
    let at = number_got l.section c.numbers-number-items.result.now c.loop-k.k 0 numbers c.loop-k-test.true in
    elim c.if-number-ne0.branch [
      | then-number-ne0+in_ok-push w ↦
          let target = number_target l.section (2 * k) (λ e. w.if-number-ne0.true (at.1 ∙ e)) in
          let of : IsCodeOf inputs l = record { faultless = none; found = c.requires.after.section; is_code = c.requires.code } in
          let place =
          subst (λ (x : ResolvedSection). IsCodeOf inputs x.section → x ≡ resolved_section (parsed inputs) x.section → w.place-place.result ≡ place_on inputs x.section (2 * k) c.loop-k.address) code
          (w.place-place.ensures inputs) of refl in
          let one = one_more inputs none l here k places c.loop-k.address at.0 so_far w.place-place.result w.address_after-address.result target place w.address_after-address.ensures in
          subst (λ ps. IsSoFar (parsed inputs) l (k + 1) ps c.if-number-ne0.address) (sym (ap (λ v. v.items) w.places-is ∙ w.in_ok-push.ensures.items))
          (subst (IsSoFar (parsed inputs) l (k + 1) (places ++ w.place-place.result ∷ [])) (sym w.address-is) one)
      | else-number-ne0 w ↦
          let other = number_other l.section (2 * k) (sym at.1 ∙ w.if-number-ne0.false) in
          subst (λ ps. IsSoFar (parsed inputs) l (k + 1) ps c.if-number-ne0.address) (sym (ap (λ v. v.items) w.places-is))
          (subst (IsSoFar (parsed inputs) l (k + 1) places) (sym w.address-is) (none_more inputs none l here k places c.loop-k.address at.0 so_far other))
    ]

pub returns : goal.returns
unfolding section_tables
returns c =
    let inputs = c.args.objects.now in
    let l = c.args.section.now in
    let here = code_here inputs l.object l.index l.section c.requires.after.faultless c.requires.after.section c.requires.code in
    let code = c.in_ok-code.ensures in
    let numbers = c.numbers-number-items.ensures ∙ ap (λ (x : ResolvedSection). by_halfword (number_on x.section.section) x.section.section) c.in_ok-code.ensures in
    let end : c.loop-k.k ≡ length l.section.bytes / 2 + 1 =
    omega (arith, ap length numbers, halfword_count (number_on l.section) l.section, c.loop-k-test.false, c.loop-k.auto.k-end) in
    let kept = ap (λ (x : ResolvedSection). by_halfword (number_on x.section.section) x.section.section) code in
    let own = ap (λ (x : ResolvedSection). x.section) code in
    record {
      text_is = λ j. record {
        numbers = (c.in_ok-numbers.ensures.numbers ∙ kept ∙ sym (ap (λ b. cond b (by_halfword (number_on l.section) l.section) []) c.requires.code)) j;
        places = at_last inputs c.requires.after.faultless l here c.loop-k.k c.loop-k.places.items c.loop-k.address end c.loop-k.invariant j;
      };
      relocs_are = c.in_ok-numbers.ensures.relocs inputs (subst (λ (x : ResolvedSection). x ≡ resolved_section (parsed inputs) x.section) (sym code) refl)
          ∙ ap (placed_relocs (parsed inputs)) own
          ∙ sym (ap (λ b. cond b (placed_relocs (parsed inputs) l) []) c.requires.code);
    }
