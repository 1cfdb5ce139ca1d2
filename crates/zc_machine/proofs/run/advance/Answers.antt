use Rattle.std.proofs.Common.{suc, arith}
use Rattle.zc_machine.proofs.RunLaws.{committed_one}
use Rattle.zc_machine.proofs.run.advance.Goals as goal

pub returns-then-commits-until : goal.returns-then-commits-until
returns-then-commits-until c =
    let z = c.loop-machine.machine in
    let one = committed_one z c.step.new.self c.in-Committed.ensures.answer c.in-Committed.ensures.state in
    let made = c.loop-machine.invariant.made in
    record {
      count = made.0;
      last = z;
      commits = made.1;
      within = c.loop-machine.invariant.within;
      answers = c.in-Committed.ensures.answer;
      left = c.in-Committed.ensures.state;
      all = λ is. omega (arith, one.counts);
    }

pub loop-machine-smaller : goal.loop-machine-smaller
loop-machine-smaller c =
    let one = committed_one c.loop-machine.machine c.step.new.self c.in-Committed.ensures.answer c.in-Committed.ensures.state in
    omega (arith, one.counts)

pub loop-machine-preserved : goal.loop-machine-preserved
loop-machine-preserved c =
    let z = c.loop-machine.machine in
    let one = committed_one z c.step.new.self c.in-Committed.ensures.answer c.in-Committed.ensures.state in
    let made = c.loop-machine.invariant.made in
    record { within = omega arith; made = (suc made.0, (z, made.1, one.is)) }
