use Rattle.std.proofs.Common.{refl}
use Rattle.reach.proofs.WalkLaws.{mark-read, noted}
use Rattle.reach.proofs.walk.find.Goals as goal

pub returns-in_ok-push : goal.returns-in_ok-push
returns-in_ok-push c = noted _ _ c.args.node c.requires (mark-read c.args.walk.now.marks.items c.args.node c.index.result.now c.requires c.index.ensures c.if-not-index.true) refl c.in_ok-push.ensures.items
