-- The image was put, and the machine came to an end.
use Rattle.std.proofs.Common.{rules, ◌≡◌, ℕ, List, refl, ap, ap₂, subst, ◌∙◌, inr}
use Rattle.devices.specs.Environment.{only_input}
use Rattle.rv_decode.specs.State.{ZcCore}
use Rattle.shared_cells.specs.SharedRun.{shared_by}
use Rattle.zc_machine.specs.Load.{first_core, first_core_of}
use Rattle.zc_machine.specs.RunEnd.{Ran, course_of}
use Rattle.zc_machine.specs.declared.run.RunEnd.{RunEnd}
use Rattle.zc_outside.specs.Desk.{Desk}
use Rattle.zc_outside.specs.Files.{PutsFile}
use Rattle.zcld.specs.Run.{EndsRun}
use Rattle.zcld.proofs.share.put_and_run.Goals as goal

pub run_shared-end-requires-clause-running : goal.run_shared-end-requires-clause-running
unfolding first_core
run_shared-end-requires-clause-running g c = ap (λ (z : ZcCore). z.exit) c.in-Ok-make_ready.ensures.loads

pub run_shared-end-requires-clause-start : goal.run_shared-end-requires-clause-start
unfolding first_core
run_shared-end-requires-clause-start g c = ap (λ (z : ZcCore). z.commits) c.in-Ok-make_ready.ensures.loads

-- a run of the same machine, with the same happening between its commits, over the same input
same_run :
    (z z' : ZcCore) (h h' : ℕ → ZcCore → ZcCore) (input input' : List ℕ) (steps : ℕ) (answer : RunEnd × ZcCore) (before after : Desk) → z ≡ z' → h ≡ h' → input ≡ input' →
    Ran h (course_of z (only_input input) h steps) answer.0 answer.1 before after → EndsRun z' h' steps (only_input input') answer before after
same_run z z' h h' input input' steps answer before after machine happens given ran =
    subst (λ x. Ran h' (course_of x (only_input input') h' steps) answer.0 answer.1 before after) machine
    (subst (λ x. Ran h' (course_of z (only_input x) h' steps) answer.0 answer.1 before after) given
    (subst (λ x. Ran x (course_of z (only_input input) x steps) answer.0 answer.1 before after) happens ran))

pub returns-clause-runs : goal.returns-clause-runs
returns-clause-runs g c =
    let out = c.args.args.now.out.now in
    let shared = c.args.shared.now in
    let ready = c.in-Ok-make_ready.ready in
    let shelf = g.S.Store.shown c.args.store.now in
    let between = g.S.Store.shown c.put.new.store in
    let image_is = c.in-Ok.ensures.0 in
    let machine_is =
    c.in-Ok-make_ready.ensures.loads ∙ ap (λ i. first_core_of i.0 i.1) image_is ∙ ap₂ first_core_of c.as_slice.ensures.value c.map.ensures in
    inr (record {
      input = ready.input.items;
      between = g.C.Console.shown c.make_ready.new.console;
      takes = c.in-Ok-make_ready.ensures.takes;
      runs = inr (inr (record {
        between = between;
        put = subst (λ image. PutsFile shelf.files between.files out image) c.as_slice-2.ensures.value c.in_default-put.ensures.ok;
        only = c.put.ensures.puts;
        does = record {
          answer = (c.run_shared-end.result, c.run_shared-end.new.machine);
          ended =
              same_run ready.machine _ (shared_by c.as_slice-3.result.now shared.plan) _ c.as_slice-4.result.now _ c.args.args.now.steps _ _ _ machine_is
              (ap (λ ranges. shared_by ranges shared.plan) c.as_slice-3.ensures.value) c.as_slice-4.ensures.value c.run_shared-end.ensures.ran;
          outcome_is = search rules;
          only = c.run_shared-end.ensures.writes;
          shelf = refl;
        };
      }));
    })
