use Rattle.std.proofs.Common.{◌≡◌, ◌++◌, ◌-◌, ◌<◌, ◌∙◌, sym, ap, arith, length, replicate, take, vec_len, rules, tests}
use Rattle.std.proofs.lemmas.Bool.{eqb-true}
use Rattle.std.proofs.lemmas.List.{take_all}
use Rattle.jumptable_pick.proofs.TableLaws.{joined-some, joined-none}
use Rattle.jumptable_pick.proofs.slot_lists.joined.Goals as goal
use Rattle.jumptable_pick.proofs.slot_lists.joined.Goals.{then-not-is_empty+in_ok-resize+in_ok-extend_from_slice, else-not-is_empty}

pub returns : goal.returns
returns c =
    let high = c.args.high.now in
    elim c.if-not-is_empty.branch [
      | then-not-is_empty+in_ok-resize+in_ok-extend_from_slice w ↦
          let some : 0 < length high = search (rules, tests) in
          let low = c.args.low.items in
          let whole : take 32 low ≡ low = take_all 32 low c.requires in
          let holes : 32 - vec_len c.args.low ≡ 32 - length low = omega arith in
          let filled : take 32 low ++ replicate (32 - vec_len c.args.low) 0 ≡ low ++ replicate (32 - length low) 0 = λ i. whole i ++ replicate (holes i) 0 in
          ap (λ v. v.items) w.low-is ∙ w.in_ok-extend_from_slice.ensures.items ∙ ap (λ front. front ++ high) (w.in_ok-resize.ensures.items ∙ filled) ∙ sym (joined-some low high some)
      | else-not-is_empty w ↦
          let none : length high ≡ 0 = eqb-true (length high) 0 (sym w.if-not-is_empty.ensures) in
          ap (λ v. v.items) w.low-is ∙ sym (joined-none c.args.low.items high none)
    ]
