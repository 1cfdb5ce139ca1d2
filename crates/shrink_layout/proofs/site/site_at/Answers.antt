-- A place has a site just if its item is a jump or call that takes four bytes and links no register or ra (`site_by_size`).
use Rattle.std.proofs.Common.{◌≡◌, ◌∙◌, ℕ, Bool, true, false, Option, None, Some, cond, ltb, refl, sym, ap}
use Rattle.std.specs.Prelude.{◌&&◌, option_map}
use Rattle.psabi_sym.specs.Faults.{gather_fault}
use Rattle.psabi_sym.specs.Fixed.{is_fixed_at}
use Rattle.psabi_sym.specs.Inputs.{parsed}
use Rattle.zc_base.specs.declared.place.Place.{Place}
use Rattle.block_cut.specs.Faults.{first_fault}
use Rattle.shrink_layout.specs.Invariants.Sites.{is_four, site_pair}
use Rattle.shrink_layout.specs.Settled.{settled_size}
use Rattle.shrink_layout.proofs.SiteLaws.{jump_target, site-fixed, site-no_item, site-no_jump, site_by_size}
use Rattle.shrink_layout.proofs.TargetLaws.{item_leads, no_gather_fault}
use Rattle.shrink_layout.proofs.site.site_at.Goals as goal

-- none, whatever the test says
either_none : (b : Bool) → cond {A = Option (ℕ × Place)} b None None ≡ None
either_none true = refl
either_none false = refl

pub returns-in_default-clause-value : goal.returns-in_default-clause-value
returns-in_default-clause-value c =
    sym (site-no_item (parsed c.args.settled.now.inputs) c.args.p (sym c.requires.item ∙ c.in_default.is))

pub returns-in_default-jump_of-clause-value : goal.returns-in_default-jump_of-clause-value
returns-in_default-jump_of-clause-value c =
    let is = sym c.requires.item ∙ c.in-Some.is in
    sym (site-no_jump (parsed c.args.settled.now.inputs) c.args.p c.in-Some.item is (sym c.jump_of.ensures ∙ ap (option_map site_pair) c.in_default-jump_of.is))

pub returns-then-not-is_served-clause-value : goal.returns-then-not-is_served-clause-value
returns-then-not-is_served-clause-value c =
    let inputs = c.args.settled.now.inputs in
    let cut = c.cut-cut.ensures.same ∙ c.planned.ensures.same in
    let none = ap gather_fault (sym cut) ∙ c.recall_invariant.ensures.gathered in
    let is = sym c.requires.item ∙ c.in-Some.is in
    let site = c.in-Some-jump_of.site in
    let size = c.size.ensures ∙ ap (λ s. settled_size (parsed inputs) s c.args.p) c.requires.unset in
    let fixed = is_fixed_at (parsed inputs) c.args.p.object c.args.p.section in
    sym (site_by_size inputs none c.args.p c.in-Some.item is (site_pair site) (sym c.jump_of.ensures ∙ ap (option_map site_pair) c.in-Some-jump_of.is)
    ∙ (λ j. cond fixed None (cond (is_four (sym size j) && ltb site.rd 2) (Some (site_pair site)) None))
    ∙ ap (λ b. cond fixed None (cond b (Some (site_pair site)) None)) (sym c.is_served.ensures ∙ c.if-not-is_served.true)
    ∙ either_none fixed)

pub returns-then-is_fixed-clause-value : goal.returns-then-is_fixed-clause-value
returns-then-is_fixed-clause-value c =
    let cut = c.cut-cut.ensures.same ∙ c.planned.ensures.same in
    sym (site-fixed (parsed c.args.settled.now.inputs) c.args.p
    (ap (λ x. is_fixed_at (parsed x) c.args.p.object c.args.p.section) (sym (c.objects.ensures.same ∙ cut)) ∙ sym c.is_fixed.ensures ∙ c.if-is_fixed.true))

pub returns : goal.returns
returns c =
    let inputs = c.args.settled.now.inputs in
    let cut = c.cut-cut.ensures.same ∙ c.planned.ensures.same in
    let faultless = ap first_fault (sym cut) ∙ c.recall_invariant.ensures.faultless in
    let is = sym c.requires.item ∙ c.in-Some.is in
    let site = c.in-Some-jump_of.site in
    let leads = sym c.jump_of.ensures ∙ ap (option_map site_pair) c.in-Some-jump_of.is in
    let free = ap (λ x. is_fixed_at (parsed x) c.args.p.object c.args.p.section) (sym (c.objects.ensures.same ∙ cut)) ∙ sym c.is_fixed.ensures ∙ c.if-is_fixed.false in
    let size = c.size.ensures ∙ ap (λ s. settled_size (parsed inputs) s c.args.p) c.requires.unset in
    record {
      value = sym (site_by_size inputs (no_gather_fault inputs faultless) c.args.p c.in-Some.item is (site_pair site) leads
          ∙ (λ j. cond (free j) None (cond (is_four (sym size j) && ltb site.rd 2) (Some (site_pair site)) None))
          ∙ ap (λ b. cond b (Some (site_pair site)) None) (sym c.is_served.ensures ∙ c.if-not-is_served.false));
      target = jump_target (parsed inputs).objects c.in-Some.item (site_pair site) leads (item_leads inputs faultless c.args.p c.in-Some.item is);
    }
