-- If a place is no valid target, no item starts there.
use Rattle.std.proofs.Common.{◌≡◌, false, subst, sym}
use Rattle.std.proofs.lemmas.Bool.{both_ways, false_from_ne_true, or_left}
use Rattle.psabi_sym.specs.Inputs.{Inputs, parsed}
use Rattle.block_cut.specs.Items.{is_end_at, is_start_at, is_target_at}
use Rattle.frame_match.proofs.RoleLaws.{no_role}
use Rattle.frame_match.proofs.planned.Planned.role.Goals as goal

pub returns-in-None : goal.returns-in-None
returns-in-None c =
    let objects = (parsed c.args.self.now).objects in
    let other = subst (λ (x : Inputs). is_target_at (parsed x).objects c.args.p ≡ false) c.self.view_is c.in-None.ensures in
    sym (no_role (parsed c.args.self.now) c.args.p (false_from_ne_true (is_start_at objects c.args.p) (λ start.
    both_ways _ other (or_left (is_start_at objects c.args.p) (is_end_at objects c.args.p) start))))
