use Rattle.std.proofs.Common.{◌≡◌, ℕ, ◌+◌, ◌-◌, ◌<◌, ◌≤◌, List, length, map, get_or, take, drop, refl, sym, ap, ◌∙◌, arith}
use Rattle.std.proofs.lemmas.List.{length-drop, length-map, length-take}
use Rattle.rv_decode.specs.Memory.{written}
use Rattle.sym_machine.specs.declared.word.SymByte.{SymByte}
use Rattle.sym_machine.specs.declared.word.SymByte.TheVariants.{Num, Undef}
use Rattle.sym_machine.proofs.PageLaws.{part_given}
use Rattle.sym_machine.proofs.WrittenLaws.{written_further, written_none}
use Rattle.sym_machine.proofs.pages.Pages.write_numbers_across.Goals as goal

-- how many numbers a part of them has
part_length : (numbers : List ℕ) (done end : ℕ) → done ≤ end → end ≤ length numbers → length (take (end - done) (drop done numbers)) ≡ end - done
part_length numbers done end few within = omega (arith, length-take (end - done) (drop done numbers), length-drop done numbers, few, within)

pub overflow_add-at : goal.overflow_add-at
overflow_add-at c = omega (arith, c.requires, c.loop-done.invariant.within, c.recall_invariant.ensures.few)

pub overflow_add-done : goal.overflow_add-done
overflow_add-done c = omega (arith, c.requires, c.loop-done.invariant.within, c.recall_invariant.ensures.few)

pub loop-done-init : goal.loop-done-init
loop-done-init c = record {
  within = omega arith;
  long = refl;
  each = λ j d lt. sym (written_none c.args.i (λ k. get_or (map Num c.args.numbers.now) k Undef) j (get_or c.args.self.now j d));
}

pub write_page_numbers-requires-clause-some : goal.write_page_numbers-requires-clause-some
write_page_numbers-requires-clause-some c =
    let done = c.loop-done.done in
    let end = c.min-end.result in
    omega (arith, part_length c.args.numbers.now done end (omega (arith, c.min-end.ensures, c.loop-done-test.true)) (omega (arith, c.min-end.ensures)), c.min-end.ensures, c.loop-done-test.true)

pub write_page_numbers-requires-clause-page : goal.write_page_numbers-requires-clause-page
write_page_numbers-requires-clause-page c =
    let done = c.loop-done.done in
    let end = c.min-end.result in
    omega (arith, part_length c.args.numbers.now done end (omega (arith, c.min-end.ensures, c.loop-done-test.true)) (omega (arith, c.min-end.ensures)), c.min-end.ensures)

pub write_page_numbers-requires-clause-within : goal.write_page_numbers-requires-clause-within
write_page_numbers-requires-clause-within c =
    let done = c.loop-done.done in
    let end = c.min-end.result in
    let inside : end ≤ length c.args.numbers.now = omega (arith, c.min-end.ensures) in
    let few : done ≤ end = omega (arith, c.min-end.ensures, c.loop-done-test.true) in
    omega (arith, part_length c.args.numbers.now done end few inside, inside, few, c.loop-done.invariant.long, c.requires)

pub loop-done-preserved : goal.loop-done-preserved
loop-done-preserved c =
    let i = c.args.i in
    let numbers = c.args.numbers.now in
    let done = c.loop-done.done in
    let m : ℕ = c.min-end.result - done in
    let piece : List ℕ = take m (drop done numbers) in
    let given : ℕ → SymByte = λ k. get_or (map Num numbers) k Undef in
    let rest : ℕ → SymByte = λ k. get_or (map Num piece) k Undef in
    let kept = c.loop-done.invariant in
    let within : done + m ≤ length numbers = omega (arith, c.min-end.ensures, kept.within) in
    let size : length (map Num piece) ≡ m = omega (arith, length-map piece Num, length-take m (drop done numbers), length-drop done numbers, within) in
    let sum : done + m ≡ c.min-end.result = omega (arith, c.min-end.ensures, kept.within) in
    let same : (k : ℕ) → k < m → rest k ≡ given (done + k) = λ k lt. part_given numbers done m k lt within in
    record {
      within = omega (arith, c.min-end.ensures);
      long = c.write_page_numbers.ensures.len ∙ kept.long;
      each = λ j d lt.
          c.write_page_numbers.ensures.each j d (omega (arith, lt, kept.long))
          ∙ ap (λ (n : ℕ). written (i + done) n rest j (get_or c.loop-done.self j d)) size
          ∙ ap (written (i + done) m rest j) (kept.each j d lt)
          ∙ written_further i done m given rest same j (get_or c.args.self.now j d)
          ∙ ap (λ (n : ℕ). written i n given j (get_or c.args.self.now j d)) sum;
    }

pub returns-clause-each : goal.returns-clause-each
returns-clause-each c = λ j d lt.
    let given : ℕ → SymByte = λ k. get_or (map Num c.args.numbers.now) k Undef in
    let all : c.loop-done.done ≡ length (map Num c.args.numbers.now) = omega (arith, length-map c.args.numbers.now Num, c.loop-done.invariant.within, c.loop-done-test.false) in
    c.loop-done.invariant.each j d lt ∙ ap (λ (n : ℕ). written c.args.i n given j (get_or c.args.self.now j d)) all
