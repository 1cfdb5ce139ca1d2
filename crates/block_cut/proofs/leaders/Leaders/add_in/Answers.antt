use Rattle.std.proofs.Common.{◌≡◌, ◌&&◌, ◌||◌, sym, ap, ◌∙◌}
use Rattle.zc_base.specs.Places.{same_place}
use Rattle.block_cut.specs.Invariants.Led.{is_listed, is_marked}
use Rattle.std.proofs.Math.Bool.{or-false, or_assoc}
use Rattle.block_cut.proofs.PlaceLaws.{put_in}
use Rattle.block_cut.proofs.leaders.Leaders.add_in.Goals as goal

pub returns-in_ok-insert : goal.returns-in_ok-insert
returns-in_ok-insert c = λ objects number q.
    let old = c.args.self.now in
    let p = c.args.p in
    let mid = c.mark.new.self in
    let marked = is_marked objects old.sections.items q in
    let same : is_marked objects mid.sections.items q ≡ marked = c.mark.ensures.marks objects q number ∙ ap (λ b. marked || (b && same_place p q)) c.if-not-mark.true ∙ or-false marked in
    let listed : is_listed c.insert.new.self.keys q ≡ (is_listed old.others.keys q || same_place p q) =
    put_in mid.others.keys c.insert.new.self.keys p q (c.in_ok-insert.ensures.updates.0 q) ∙ ap (λ o. is_listed o.keys q || same_place p q) c.mark.ensures.others in
    (λ j. same j || listed j) ∙ sym (or_assoc marked (is_listed old.others.keys q) (same_place p q))
