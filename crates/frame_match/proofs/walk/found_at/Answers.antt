-- Where a group may begin, the code looks at as many instructions as a group may have; more would not change what is
-- found. Where a section may have no groups, none begins.
use Rattle.std.proofs.Common.{◌∙◌, sym}
use Rattle.psabi_sym.specs.Inputs.{parsed}
use Rattle.frame_match.specs.Invariants.Runs.{run_from, spots_of}
use Rattle.frame_match.proofs.BeginLaws.{nothing_at, nothing_without}
use Rattle.frame_match.proofs.ReachLaws.{longest_same}
use Rattle.frame_match.proofs.walk.found_at.Goals as goal

pub returns-then-not-may_group : goal.returns-then-not-may_group
returns-then-not-may_group c =
    sym (nothing_without (parsed c.args.cut.now) c.args.section.now c.args.places.now (sym c.requires.may ∙ c.if-not-may_group.true))

pub new-requires-clause-may : goal.new-requires-clause-may
new-requires-clause-may c = sym c.requires.may ∙ c.if-not-may_group.false

pub returns-else-begins : goal.returns-else-begins
returns-else-begins c =
    sym (nothing_at (parsed c.args.cut.now) c.args.section.now (sym c.requires.may ∙ c.if-not-may_group.false) c.args.places.now c.requires.places (sym c.begins.ensures ∙ c.if-begins.false))

pub returns-then-begins : goal.returns-then-begins
returns-then-begins c =
    c.longest.ensures
    ∙ longest_same c.new.result (run_from (spots_of (parsed c.args.cut.now) c.args.section.now c.args.places.now)) c.new.ensures
