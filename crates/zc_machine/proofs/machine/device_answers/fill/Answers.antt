use Rattle.std.proofs.Common.{◌≡◌, ◌⊎◌, ℕ, ◌+◌, ◌-◌, ◌<◌, ◌≤◌, List, [], ◌++◌, length, true, drop, take, slice_index, refl, sym, ap, subst, ⊎_elim, ◌∙◌, arith}
use Rattle.std.proofs.lemmas.Bool.{eqb-true}
use Rattle.std.proofs.lemmas.List.{nil_from_length}
use Rattle.rv_decode.specs.Memory.{extents_of, is_data, lies_in, written}
use Rattle.rv_decode.proofs.MemoryLaws.{extents-changed, lies_inside}
use Rattle.zc_machine.proofs.AnswerLaws.{count_more, drop_none, filled, filled_more, left_more, take_none}
use Rattle.zc_machine.proofs.RegionLaws.{changed-made, changed-written_none}
use Rattle.zc_machine.proofs.machine.device_answers.fill.Goals as goal

pub loop-done-init : goal.loop-done-init
loop-done-init c =
    let start : c.args.at + 0 ≡ c.args.at = omega arith in
    let all : c.args.len - 0 ≡ c.args.len = omega arith in
    record {
      within = omega arith;
      extents = refl;
      count = omega (arith, ap (λ n. length (take n c.args.answers.now)) all);
      left = ap (λ n. drop n c.args.answers.now) all;
      made = ap (λ n. filled (c.args.at + 0) (take n c.args.answers.now) c.args.memory.now) all ∙ ap (λ a. filled a (take c.args.len c.args.answers.now) c.args.memory.now) start;
    }

pub loop-done-preserved : goal.loop-done-preserved
loop-done-preserved c =
    let kept = c.loop-done.invariant in
    let at = c.args.at in
    let len = c.args.len in
    let done = c.loop-done.done in
    let rs = c.loop-done.memory in
    let piece = c.take_piece-piece.result.now in
    let n = length piece in
    let taken = c.take_piece-piece.ensures.taken in
    let within : n ≤ len - done = c.take_piece-piece.ensures.within in
    let lies : lies_in is_data (extents_of rs) (at + done) n ≡ true =
    lies_inside is_data (extents_of rs) at len (at + done) n (subst (λ es. lies_in is_data es at len ≡ true) (sym kept.extents) (c.requires (omega arith))) (omega arith) (omega (arith, within)) in
    let after : c.write.new.self ≡ filled (at + done) piece rs = c.write.ensures.after ∙ changed-made (at + done) n (slice_index piece) rs c.write.result (λ some. c.write.ensures.reached ∙ lies) in
    let rest : len - done - n ≡ len - (done + n) = omega (arith, within) in
    let next : at + done + n ≡ at + (done + n) = omega arith in
    record {
      within = omega (arith, within);
      extents = ap extents_of after ∙ extents-changed (written (at + done) n (slice_index piece)) rs ∙ kept.extents;
      count = omega (arith, count_more (len - done) piece _ _ taken within, ap (λ k. length (take k c.take_piece-piece.new.self)) rest, kept.count);
      left = ap (λ k. drop k c.take_piece-piece.new.self) (sym rest) ∙ left_more (len - done) piece _ _ taken within ∙ kept.left;
      made =
          ap (λ k. filled (at + (done + n)) (take k c.take_piece-piece.new.self) c.write.new.self) (sym rest)
          ∙ ap (λ a. filled a (take (len - done - n) c.take_piece-piece.new.self) c.write.new.self) (sym next)
          ∙ ap (filled (at + done + n) (take (len - done - n) c.take_piece-piece.new.self)) after
          ∙ filled_more (len - done) piece _ _ taken within (at + done) rs
          ∙ kept.made;
    }

-- ---- the buffer is full

pub returns-after-loop-done-clause-count : goal.returns-after-loop-done-clause-count
returns-after-loop-done-clause-count c =
    let full : c.args.len - c.loop-done.done ≡ 0 = omega arith in
    omega (arith, ap (λ k. length (take k c.loop-done.answers)) full, c.loop-done.invariant.count)

pub returns-after-loop-done-clause-memory : goal.returns-after-loop-done-clause-memory
returns-after-loop-done-clause-memory c =
    let full : c.args.len - c.loop-done.done ≡ 0 = omega arith in
    sym (changed-written_none (c.args.at + c.loop-done.done) (slice_index []) c.loop-done.memory)
    ∙ ap (λ k. filled (c.args.at + c.loop-done.done) (take k c.loop-done.answers) c.loop-done.memory) (sym full)
    ∙ c.loop-done.invariant.made

pub returns-after-loop-done-clause-left : goal.returns-after-loop-done-clause-left
returns-after-loop-done-clause-left c =
    let full : c.args.len - c.loop-done.done ≡ 0 = omega arith in
    ap (λ k. drop k c.loop-done.answers) (sym full) ∙ c.loop-done.invariant.left

-- ---- no bytes are left

-- a piece without bytes is the last one
spent : (most : ℕ) (piece old new : List ℕ) → 0 < most → piece ≡ [] → old ≡ piece ++ new → (piece ≡ [] → (most ≡ 0) ⊎ (new ≡ [])) → (new ≡ []) × (old ≡ [])
spent most piece old new some none taken last = ⊎_elim (λ wanted. absurd (omega (arith, some, wanted))) (λ is. (is, taken ∙ ap (λ xs. xs ++ new) none ∙ is)) (last none)

pub returns-then-is_empty-clause-count : goal.returns-then-is_empty-clause-count
returns-then-is_empty-clause-count c =
    let call = c.take_piece-piece in
    let none = spent _ call.result.now c.loop-done.answers call.new.self (omega arith) (nil_from_length call.result.now (eqb-true (length call.result.now) 0 (sym c.is_empty.ensures ∙ c.if-is_empty.true))) call.ensures.taken call.ensures.none in
    omega (arith, ap length (take_none (c.args.len - c.loop-done.done) c.loop-done.answers none.1), c.loop-done.invariant.count)

pub returns-then-is_empty-clause-memory : goal.returns-then-is_empty-clause-memory
returns-then-is_empty-clause-memory c =
    let call = c.take_piece-piece in
    let none = spent _ call.result.now c.loop-done.answers call.new.self (omega arith) (nil_from_length call.result.now (eqb-true (length call.result.now) 0 (sym c.is_empty.ensures ∙ c.if-is_empty.true))) call.ensures.taken call.ensures.none in
    sym (changed-written_none (c.args.at + c.loop-done.done) (slice_index []) c.loop-done.memory)
    ∙ ap (λ xs. filled (c.args.at + c.loop-done.done) xs c.loop-done.memory) (sym (take_none (c.args.len - c.loop-done.done) c.loop-done.answers none.1))
    ∙ c.loop-done.invariant.made

pub returns-then-is_empty-clause-left : goal.returns-then-is_empty-clause-left
returns-then-is_empty-clause-left c =
    let call = c.take_piece-piece in
    let none = spent _ call.result.now c.loop-done.answers call.new.self (omega arith) (nil_from_length call.result.now (eqb-true (length call.result.now) 0 (sym c.is_empty.ensures ∙ c.if-is_empty.true))) call.ensures.taken call.ensures.none in
    none.0 ∙ sym (drop_none (c.args.len - c.loop-done.done) c.loop-done.answers none.1) ∙ c.loop-done.invariant.left
