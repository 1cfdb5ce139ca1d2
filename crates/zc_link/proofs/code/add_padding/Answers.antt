-- Each turn moves one word from those that are left to those that are written.
use Rattle.std.proofs.Common.{◌≡◌, ℕ, suc, ◌+◌, ◌-◌, ◌/◌, ◌++◌, List, ap, sym, ◌∙◌, arith, append_assoc}
use Rattle.zc_base.specs.Fields.{word_bytes}
use Rattle.zc_link.specs.Written.{copies, nop}
use Rattle.zc_link.proofs.code.add_padding.Goals as goal

-- one word of padding more
added : (n m : ℕ) (text text' all : List ℕ) → n ≡ suc m → text' ≡ text ++ word_bytes nop → text ++ copies nop n ≡ all → text' ++ copies nop m ≡ all
added n m text text' all is more before =
    ap (λ t. t ++ copies nop m) more ∙ append_assoc text (word_bytes nop) (copies nop m) ∙ sym (ap (λ k. text ++ copies nop k) is) ∙ before

pub loop-i-preserved : goal.loop-i-preserved
loop-i-preserved c = added (c.args.size / 4 - c.loop-i._i) (c.args.size / 4 - (c.loop-i._i + 1)) _ _ _ (omega arith) c.in_ok-add_word.ensures c.loop-i.invariant
