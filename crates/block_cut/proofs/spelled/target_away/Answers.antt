-- What lies too far away to be an offset isn't in code, and an offset that has a number is a place's.
use Rattle.std.proofs.Common.{◌≡◌, ℕ, ℤ, pos, negsuc, ◌+ℤ◌, List, Bool, true, false, cond, leb, Option, Some, None, refl, sym, ap, ◌∙◌, arith, w32}
use Rattle.std.specs.Option.{option_and_then}
use Rattle.std.proofs.lemmas.Bool.{leb-false}
use Rattle.std.proofs.lemmas.Int.{to_z-of_z}
use Rattle.zc_base.specs.declared.place.Place.{Place}
use Rattle.elf32_read.specs.Parts.{ObjectParts, SectionParts}
use Rattle.psabi_sym.specs.Resolve.{offset_within}
use Rattle.block_cut.specs.Items.{code_at, is_target_at, place_on}
use Rattle.block_cut.specs.Whole.{IsWhole}
use Rattle.block_cut.proofs.PlainLaws.{target_on}
use Rattle.block_cut.proofs.WholeLaws.{code_is_section}
use Rattle.block_cut.proofs.WordLaws.{other_past, some_target}
use Rattle.block_cut.proofs.spelled.target_away.Goals as goal

far : (objects : List ObjectParts) (q : Place) (s : SectionParts) → code_at objects q ≡ Some s → IsWhole s → (z : ℤ) → offset_within 0xFFFF_FFFF z ≡ None → option_and_then (λ to. cond (is_target_at objects to) (Some to) None) (place_on q z) ≡ None
far objects q s at whole (negsuc n) out = refl
far objects q s at whole (pos n) out = by (leb n 0xFFFF_FFFF) refl out
  where
    by : (b : Bool) → leb n 0xFFFF_FFFF ≡ b → cond b (Some n) None ≡ None → cond {A = Option Place} (is_target_at objects (record q { offset = n })) (Some (record q { offset = n })) None ≡ None
    by true le out = absurd cc
    by false past out =
        let p : Place = record q { offset = n } in
        ap (λ b. cond b (Some p) None)
        (target_on objects p s at ∙ other_past s (code_is_section objects q s at).1 whole n (omega (arith, leb-false n 0xFFFF_FFFF past, whole.short)))

pub returns-in_err-offset_away : goal.returns-in_err-offset_away
returns-in_err-offset_away c = λ objects s at whole are.
    let q = c.args.q in
    let same = to_z-of_z w32 c.args.distance c.ranges.distance in
    c.from_residual.ensures
    ∙ sym (far objects q s at whole (pos q.offset +ℤ c.args.distance) (ap (λ z. offset_within 0xFFFF_FFFF (pos q.offset +ℤ z)) (sym same) ∙ sym c.offset_away.ensures ∙ c.in_err-offset_away.was))

-- what is an offset is that distance
near : (z : ℤ) (n : ℕ) → offset_within 0xFFFF_FFFF z ≡ Some n → z ≡ pos n
near (negsuc k) n is = absurd cc
near (pos k) n is = by (leb k 0xFFFF_FFFF) is
  where
    by : (b : Bool) → cond b (Some k) None ≡ Some n → pos k ≡ pos n
    by true is = let same : k ≡ n = cc in ap pos same
    by false is = absurd cc

pub returns : goal.returns
returns c = λ objects s at whole are.
    let q = c.args.q in
    let n = c.in_ok-offset_away.field-0 in
    let p : Place = record q { offset = n } in
    let same = to_z-of_z w32 c.args.distance c.ranges.distance in
    let there = near (pos q.offset +ℤ c.args.distance) n (ap (λ z. offset_within 0xFFFF_FFFF (pos q.offset +ℤ z)) (sym same) ∙ sym c.offset_away.ensures ∙ c.in_ok-offset_away.was) in
    let own = c.number_at.ensures.value s (code_is_section objects q s at).1 whole are in
    let target = some_target objects p s at (λ e. c.if-number_at-eq0.false (own ∙ e)) in
    sym (ap (λ z. option_and_then (λ to. cond (is_target_at objects to) (Some to) None) (place_on q z)) there ∙ ap (λ b. cond b (Some p) None) target)
