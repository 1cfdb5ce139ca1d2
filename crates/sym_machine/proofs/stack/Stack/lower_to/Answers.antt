use Rattle.std.proofs.Common.{◌≡◌, ℕ, ◌*◌, ◌-◌, ◌/◌, ◌<◌, ◌≤◌, List, Bool, false, length, get_or, ap, sym, subst, ◌∙◌, arith}
use Rattle.std.proofs.lemmas.List.{with_items_is}
use Rattle.rv_decode.specs.Memory.{written}
use Rattle.sym_machine.specs.Stack.{AreAlike, AreStrips, Strips}
use Rattle.sym_machine.proofs.StackLaws.{lowered}
use Rattle.sym_machine.proofs.stack.Stack.lower_to.Goals as goal

pub clear-requires-clause-order : goal.clear-requires-clause-order
clear-requires-clause-order c = omega arith

pub clear-requires-clause-within : goal.clear-requires-clause-within
clear-requires-clause-within c = c.self.invariant.mark

pub end_up-requires : goal.end_up-requires
end_up-requires c =
    let low : 32 * c.args.strip ≤ c.self.inside.mark = subst (λ (s : Strips). 32 * c.args.strip ≤ s.mark) (sym c.self.view_is) c.requires in
    omega (arith, low, c.self.invariant.mark, c.self.invariant.live, ap length c.as_mut_slice.ensures.value)

pub invariant_of-self : goal.invariant_of-self
invariant_of-self c =
    let live = c.self.inside.live in
    let low : 32 * c.args.strip ≤ c.self.inside.mark = subst (λ (s : Strips). 32 * c.args.strip ≤ s.mark) (sym c.self.view_is) c.requires in
    let new : List Bool = c.end_up.new.live in
    let long : length new ≡ length live.items = c.end_up.ensures.len ∙ ap length c.as_mut_slice.ensures.value in
    let size : length new ≡ live.len = omega (arith, long) in
    subst (λ (l : List Bool). AreStrips (record { cells = c.clear.new.self; live = l; mark = 32 * c.args.strip })) (sym (with_items_is live new size))
    (record {
      mark = omega (arith, low, c.self.invariant.mark, c.clear.ensures.len);
      live = omega (arith, c.self.invariant.live, c.clear.ensures.len, long);
    })

pub returns-clause-alike : goal.returns-clause-alike
returns-clause-alike c =
    let i = c.self.inside in
    let s : Strips = record { cells = i.cells; live = i.live.items; mark = i.mark } in
    let low : 32 * c.args.strip ≤ i.mark = subst (λ (t : Strips). 32 * c.args.strip ≤ t.mark) (sym c.self.view_is) c.requires in
    let new : List Bool = c.end_up.new.live in
    let was = c.as_mut_slice.ensures.value in
    let long : length new ≡ length i.live.items = c.end_up.ensures.len ∙ ap length was in
    let size : length new ≡ i.live.len = omega (arith, long) in
    let each = subst (λ (l : List Bool). (j : ℕ) (d : Bool) → j < length l → get_or new j d ≡ written c.args.strip (i.mark / 32 - c.args.strip) (λ _. false) j (get_or l j d)) was c.end_up.ensures.each in
    subst (λ (l : List Bool). AreAlike c.args.self.now (record { cells = c.clear.new.self; live = l; mark = 32 * c.args.strip })) (sym (with_items_is i.live new size))
    (subst (λ (old : Strips). AreAlike old (record { cells = c.clear.new.self; live = new; mark = 32 * c.args.strip })) c.self.view_is
    (lowered s c.self.invariant c.args.strip low c.clear.new.self new c.clear.ensures.len c.clear.ensures.each each))
