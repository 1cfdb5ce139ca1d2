use Rattle.std.proofs.Common.{◌||◌, Some, sym, ap, ◌∙◌}
use Rattle.zc_base.specs.Places.{same_place}
use Rattle.psabi_sym.specs.Inputs.{parsed}
use Rattle.block_cut.specs.Invariants.Led.{is_listed, is_marked}
use Rattle.block_cut.proofs.LedLaws.{number_is}
use Rattle.std.proofs.Math.Bool.{or_assoc}
use Rattle.block_cut.proofs.PlaceLaws.{put_in}
use Rattle.block_cut.proofs.leaders.Leaders.add.Goals as goal

pub returns-in_default : goal.returns-in_default
returns-in_default c = λ q.
    let old = c.args.self.now in
    let p = c.args.p in
    let marked = is_marked (parsed c.args.objects.now).objects old.sections.items q in
    ap (λ b. marked || b) (put_in old.others.keys c.insert.new.self.keys p q (c.in_ok-insert.ensures.updates.0 q))
    ∙ sym (or_assoc marked (is_listed old.others.keys q) (same_place p q))

pub returns : goal.returns
returns c =
    let objects = (parsed c.args.objects.now).objects in
    c.in_ok-add_in.ensures objects (number_is objects c.args.p (Some c.in-Some.section) (rw c.in-Some.is at c.section_number.ensures))
