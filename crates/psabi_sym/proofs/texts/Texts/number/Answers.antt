use Rattle.std.proofs.Common.{List, ℕ, Bor, cond, ap, sym, ◌∙◌, arith, Some}
use Rattle.std.specs.Map.{lookup}
use Rattle.std.specs.Option.{option_copied}
use Rattle.std.proofs.lemmas.List.{length-map, map_push}
use Rattle.psabi_sym.specs.Invariants.Keys.{lent}
use Rattle.psabi_sym.proofs.KeyLaws.{order_test, text_added, text_found}
use Rattle.psabi_sym.proofs.texts.Texts.number.Goals as goal

-- one that was there
pub returns-in-Some : goal.returns-in-Some
returns-in-Some c blocks tails are is all =
    let old = c.args.self.now in
    text_found blocks tails are old.numbers (lent old.texts.items) all c.args.key c.args.text.now is _
    (ap (λ test. lookup test old.numbers.entries) (sym (order_test c.args.key)) ∙ sym c.in-Some.ensures.value)

-- and one that is new
pub returns : goal.returns
returns c blocks tails are is all =
    let key = c.args.key in
    let old = c.args.self.now in
    let new = c.insert.new.self in
    let n = c.len-number.result in
    text_added blocks tails are old.numbers (lent old.texts.items) all key c.args.text.now is new (lent c.push.new.self.items) n
    (ap (λ test. lookup test old.numbers.entries) (sym (order_test key)) ∙ sym c.get.ensures.value ∙ ap option_copied c.in_default.is)
    (λ q. ap (λ test. lookup test new.entries) (sym (order_test q)) ∙ c.in_ok-insert.ensures.updates.0 q ∙ (λ i. cond (order_test key i q) (Some n) (lookup (order_test q i) old.numbers.entries)))
    (ap lent c.in_ok-push.ensures.items ∙ map_push (λ (x : Bor (List ℕ)). x.now) old.texts.items c.args.text)
    (omega (arith, c.len-number.ensures, length-map old.texts.items (λ (x : Bor (List ℕ)). x.now)))
