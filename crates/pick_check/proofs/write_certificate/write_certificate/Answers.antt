-- The parts are put together in order; so the text is the certificate's, it is short enough, and it is read back.
use Rattle.std.proofs.Common.{◌≡◌, ◌∷◌, [], ℕ, All, Vec, Global, length, ap, arith, subst, ◌∙◌}
use Rattle.pick_check.specs.Certified.{Certified}
use Rattle.pick_check.specs.Text.{FitsCertified, FitsSlot, certificate_text, net_limits, price_limits, AreWithin}
use Rattle.pick_check.proofs.WriteLaws.{put_together, read_back, text_size}
use Rattle.pick_check.proofs.write_certificate.write_certificate.Goals as goal

module _ (c : goal.After-into_bytes) where
  slots_same : c.deref.result.now ≡ c.args.c.now.slots
  slots_same = c.deref.ensures.value ∙ ap (λ (x : Certified). x.slots) c.c.view_is

  prices_same : c.c.inside.prices ≡ c.args.c.now.prices
  prices_same = ap (λ (x : Certified). x.prices) c.c.view_is

  net_same : c.c.inside.net ≡ c.args.c.now.net
  net_same = ap (λ (x : Certified). x.net) c.c.view_is

  text_same : c.into_bytes.result.items ≡ certificate_text c.args.savings.now c.args.c.now
  text_same =
      put_together c.args.savings.now c.args.c.now _ _ _ _ _ _ _ _ slots_same prices_same net_same c.in_ok-text.ensures.ok
      c.in_ok-push_savings.ensures.lines c.in_ok-push_slots.ensures.lines c.in_ok-push_last.ensures.lines
      (ap (λ (v : Vec ℕ Global). v.items) c.into_bytes.ensures.value)

  fits : FitsCertified c.args.c.now
  fits = record {
    few = c.requires.few_slots;
    slots_fit = subst (λ s. All FitsSlot s) slots_same c.in_ok-push_slots.ensures.fits;
    prices_fit = subst (AreWithin price_limits) prices_same c.push_last.ensures.prices_fit;
    net_fits = subst (λ n. AreWithin net_limits (n ∷ [])) net_same c.push_last.ensures.net_fits;
  }

pub returns-clause-text : goal.returns-clause-text
returns-clause-text c = text_same c

pub returns-clause-within_limit : goal.returns-clause-within_limit
returns-clause-within_limit c =
    let size = text_size c.args.savings.now c.args.c.now c.requires.few_savings c.in_ok-push_savings.ensures.fits (fits c) in
    let same = ap length (text_same c) in
    omega (arith, size, same)

pub returns-clause-reads_back : goal.returns-clause-reads_back
returns-clause-reads_back c =
    read_back c.into_bytes.result.items c.args.savings.now c.args.c.now (text_same c) c.requires.few_savings
    c.in_ok-push_savings.ensures.fits (fits c)
