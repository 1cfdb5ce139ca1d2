-- Each turn moves one zero from those that are left to those that are written.
use Rattle.std.proofs.Common.{◌≡◌, ℕ, suc, ◌+◌, ◌-◌, ◌++◌, List, [], ◌∷◌, ap, sym, ◌∙◌, arith, append_assoc}
use Rattle.std.specs.Prelude.{replicate}
use Rattle.zc_link.proofs.text.add_zeros.Goals as goal

-- one zero more
added : (n m : ℕ) (text text' all : List ℕ) → n ≡ suc m → text' ≡ text ++ 0 ∷ [] → text ++ replicate n 0 ≡ all → text' ++ replicate m 0 ≡ all
added n m text text' all is more before =
    ap (λ t. t ++ replicate m 0) more ∙ append_assoc text (0 ∷ []) (replicate m 0) ∙ sym (ap (λ k. text ++ replicate k 0) is) ∙ before

pub loop-i-preserved : goal.loop-i-preserved
loop-i-preserved c = added (c.args.count - c.loop-i._i) (c.args.count - (c.loop-i._i + 1)) _ _ _ (omega arith) c.in_ok-push.ensures.items c.loop-i.invariant
