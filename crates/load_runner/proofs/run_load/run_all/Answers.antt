-- Once the program has exited, the images exit too; an end without a result is the end of the first run that doesn't
-- exit.
use Rattle.std.proofs.Common.{ℕ, ◌≡◌, refl, sym, subst}
use Rattle.interrupt_plan.specs.Made.{made_plan}
use Rattle.zc_outside.specs.Course.{ExitsAt}
use Rattle.load_runner.specs.Cause.{LoadCause}
use Rattle.load_runner.specs.Load.{IsLoad}
use Rattle.load_runner.specs.Runs.{image_run}
use Rattle.load_runner.specs.declared.run_load.TheConstants.{LOAD_CUTS}
use Rattle.load_runner.proofs.Causes.{both, both_cause, handed_on, no_cuts, plain_cause, plain_exits, plain_faultless, zc_exits, zc_faultless}
use Rattle.load_runner.proofs.run_load.run_all.Goals as goal

pub run_uncut-requires-clause-faultless : goal.run_uncut-requires-clause-faultless
run_uncut-requires-clause-faultless c = plain_faultless c.args.cut.now c.args.links.now.plain.now c.args.links.now.zc.now c.requires.links

pub run_uncut-requires-clause-exits : goal.run_uncut-requires-clause-exits
run_uncut-requires-clause-exits c =
    plain_exits c.args.cut.now c.args.links.now.plain.now c.args.links.now.zc.now c.requires.links _ _ c.in_ok-traced.ensures.ok _ no_cuts

pub returns-in_err-plain-clause-err : goal.returns-in_err-plain-clause-err
returns-in_err-plain-clause-err c =
    let last = c.in_err-plain.field-0.0 in
    let links = both c.args.cut.now c.args.links.now.plain.now c.args.links.now.zc.now c.requires.links in
    handed_on c.from_residual-in_err-plain.result (λ x. (n : ℕ) → c.args.cuts.now ≡ made_plan n LOAD_CUTS → LoadCause c.args.cut.now n x) last
    c.from_residual-in_err-plain.ensures.1
    (λ n made. plain_cause c.args.cut.now n _ _ c.in_ok-traced.ensures.ok.exits links last c.in_err-plain.ensures.err)

pub run_both-requires-clause-faultless : goal.run_both-requires-clause-faultless
run_both-requires-clause-faultless c = zc_faultless c.args.cut.now c.args.links.now.plain.now c.args.links.now.zc.now c.requires.links

pub run_both-requires-clause-uncut_exits : goal.run_both-requires-clause-uncut_exits
run_both-requires-clause-uncut_exits c =
    zc_exits c.args.cut.now c.args.links.now.plain.now c.args.links.now.zc.now c.requires.links _ _ c.in_ok-traced.ensures.ok _ no_cuts

pub run_both-requires-clause-exits : goal.run_both-requires-clause-exits
run_both-requires-clause-exits c =
    zc_exits c.args.cut.now c.args.links.now.plain.now c.args.links.now.zc.now c.requires.links _ _ c.in_ok-traced.ensures.ok _ c.requires.plan

pub returns-in_err-zc-clause-err : goal.returns-in_err-zc-clause-err
returns-in_err-zc-clause-err c =
    let last = c.in_err-zc.field-0.0 in
    let links = both c.args.cut.now c.args.links.now.plain.now c.args.links.now.zc.now c.requires.links in
    handed_on c.from_residual-in_err-zc.result (λ x. (n : ℕ) → c.args.cuts.now ≡ made_plan n LOAD_CUTS → LoadCause c.args.cut.now n x) last
    c.from_residual-in_err-zc.ensures.1
    (λ n made. both_cause c.args.cut.now n _ _ c.in_ok-traced.ensures.ok.exits links _ _ c.in_ok-plain.ensures.ok c.args.cuts.now made last c.in_err-zc.ensures.err)

pub returns-clause-ok : goal.returns-clause-ok
returns-clause-ok c = λ n made.
    let links = both c.args.cut.now c.args.links.now.plain.now c.args.links.now.zc.now c.requires.links in
    let zc = c.in_ok-zc.zc in
    let cuts = subst (λ plan. ExitsAt (image_run links.zc.elf plan) zc.1.count zc.1.exit) made c.in_ok-zc.ensures.cut in
    subst (IsLoad c.args.cut.now n) (sym c.joined.ensures)
    (record {
      links = links;
      plain_text = refl;
      zc_text = refl;
      net = refl;
      trace = c.in_ok-traced.ensures.ok.exits;
      plain = (c.in_ok-plain.plain.count, c.in_ok-plain.ensures.ok);
      zc = c.in_ok-zc.ensures.uncut;
      cuts = (zc.1.count, cuts);
    })
