use Rattle.psabi_sym.specs.Inputs.{parsed}
use Rattle.frame_match.proofs.RunLaws.{run_is}
use Rattle.frame_match.proofs.run.Run.new.Goals as goal

pub returns : goal.returns
returns c = run_is (parsed c.args.cut.now) c.args.section.now c.requires.may c.args.places.now c.run_length-count.result c.requires.places c.run_length-count.ensures.run
