use Rattle.psabi_sym.specs.Inputs.{parsed}
use Rattle.section_gc.proofs.EdgeLaws.{target-added}
use Rattle.section_gc.proofs.graph.add_target.Goals as goal

pub returns-in_ok-push-in-Some : goal.returns-in_ok-push-in-Some
returns-in_ok-push-in-Some c =
    target-added (parsed c.args.objects.now).objects c.args.target c.in-Code.to c.in-Some.node c.args.nodes.now.items c.push.new.self.items c.in-Code.is c.in-Some.ensures c.in_ok-push-in-Some.ensures.items
