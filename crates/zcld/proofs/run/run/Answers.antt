-- The files can't be had, or one is refused, or the image ran that was read, in the map that the words gave. No line names anything,
-- so it is the same for any files.
use Rattle.std.proofs.Common.{◌≡◌, ℕ, List, Some, None, Ok, rules, refl, sym, ap, ◌∙◌, inl, inr, subst}
use Rattle.std.specs.Option.{option_copied, option_map, option_or}
use Rattle.devices.specs.Lines.{DevicesLine}
use Rattle.elf32_read.specs.Image.{image_fault}
use Rattle.interrupt_plan.specs.Plan.{Entry}
use Rattle.zc_base.specs.declared.mem_map.MemMap.{MemMap}
use Rattle.zc_machine.specs.Load.{first_core_of}
use Rattle.zc_outside.specs.World.{World, world}
use Rattle.zcld.specs.declared.outcome.Outcome.{Outcome}
use Rattle.zcld.specs.declared.outcome.Outcome.TheVariants.{BadFile}
use Rattle.zcld.specs.Given.{lines_given}
use Rattle.zcld.specs.Machines.{AnswersOrTakes}
use Rattle.zcld.specs.declared.outcome.FileFault.TheVariants.{Image}
use Rattle.zcld.specs.Run.{RunTexts, RunWork, Runs, files_in_order, plan_given, run_refusal, run_wanted, started_core, texts_held, texts_refusal}
use Rattle.zcld.specs.Task.{UnreadCause}
use Rattle.zcld.proofs.Refusals.{names_in_none}
use Rattle.zcld.proofs.run.run.Goals as goal

-- without a fault of the image, and with devices and a plan that are spelled, nothing is refused
none_refused :
    (map : MemMap) (texts : RunTexts) (lines : List DevicesLine) (plan : List Entry) → image_fault texts.image map ≡ None → lines_given map texts.devices ≡ Ok lines
    → plan_given texts.plan ≡ Ok plan → run_refusal map texts ≡ None
none_refused map texts lines plan sound named spelled = rw (sound, named, spelled) refl

-- the image that ran is the file that was read, in the map that the words gave
of_file :
    (a b : List ℕ × MemMap) (lines : List DevicesLine) (plan : List Entry) (steps : ℕ) (outcome : Outcome) (before after : World) → a ≡ b →
    AnswersOrTakes lines steps (Runs (started_core lines (first_core_of a.0 a.1)) plan steps) outcome before after →
    AnswersOrTakes lines steps (Runs (started_core lines (first_core_of b.0 b.1)) plan steps) outcome before after
of_file a b lines plan steps outcome before after same =
    subst (λ i. AnswersOrTakes lines steps (Runs (started_core lines (first_core_of i.0 i.1)) plan steps) outcome before after) same

pub returns-in-Err : goal.returns-in-Err
returns-in-Err g c = λ left. record {
  files = left;
  line = refl;
  does = inl (record { only = record { shelf = c.read_files.ensures.reads; desk = refl }; cause = c.in-Err.ensures.err });
}

pub returns-in-Err-read : goal.returns-in-Err-read
returns-in-Err-read g c = λ left.
    let map = c.args.args.map in
    let fault = c.in-Err-read.fault in
    let is : image_fault c.in-Ok.files.image.items map ≡ Some fault = subst (λ file. image_fault file map ≡ Some fault) c.as_slice.ensures.value c.in-Err-read.ensures in
    record {
      files = files_in_order (texts_held c.in-Ok.files);
      line = refl;
      does = inr (inl (record {
        only = record { shelf = c.read_files.ensures.reads; desk = refl };
        read = c.in-Ok.ensures.ok;
        refused = ap (run_refusal map) c.in-Ok.ensures.texts ∙ rw is refl;
      }));
    }

pub returns-in-Ok-setting_of : goal.returns-in-Ok-setting_of
returns-in-Ok-setting_of g c = λ left.
    let texts = texts_held c.in-Ok.files in
    let files = files_in_order texts in
    let map = c.args.args.map in
    let setting = c.in-Ok-setting_of.setting in
    let first : c.as_slice.result.now ≡ texts.image = c.as_slice.ensures.value in
    let sound : image_fault texts.image map ≡ None = subst (λ file. image_fault file map ≡ None) first (search rules) in
    let between = world (g.S.Store.shown c.read_files.new.store) (g.C.Console.shown c.args.console.now) in
    let after = world (g.S.Store.shown c.read_files.new.store) (g.C.Console.shown c.execute.new.console) in
    let work : RunWork map c.args.args.steps texts c.execute.result between after = record {
      lines = setting.devices;
      named = c.in-Ok-setting_of.ensures.devices;
      plan = setting.plan;
      spelled = c.in-Ok-setting_of.ensures.plan;
      run = of_file c.in-Ok-read.image (texts.image, map) setting.devices setting.plan c.args.args.steps c.execute.result between after (c.in-Ok-read.ensures.0 ∙ ap (λ file. (file, map)) first) (c.execute.ensures.runs (g.S.Store.shown c.read_files.new.store));
    } in
    record {
      files = files;
      line = names_in_none c.execute.result left files c.execute.ensures.line;
      does = inr (inr (record {
        between = between;
        only = record { shelf = c.read_files.ensures.reads; desk = refl };
        read = c.in-Ok.ensures.ok;
        accepted =
            ap (run_refusal map) c.in-Ok.ensures.texts
            ∙ none_refused map texts setting.devices setting.plan sound c.in-Ok-setting_of.ensures.devices c.in-Ok-setting_of.ensures.plan;
        work = subst (λ t. RunWork map c.args.args.steps t c.execute.result between after) (sym c.in-Ok.ensures.texts) work;
      }));
    }

pub returns : goal.returns
returns g c = λ left.
    let texts = texts_held c.in-Ok.files in
    let files = files_in_order texts in
    let map = c.args.args.map in
    let outcome = c.in-Err-setting_of.outcome in
    let before = g.S.Store.shown c.args.store.now in
    let after = g.S.Store.shown c.read_files.new.store in
    let wanted = run_wanted (option_copied c.args.args.devices) (option_copied c.args.args.plan) c.args.args.image.now in
    let sound : image_fault texts.image map ≡ None = subst (λ file. image_fault file map ≡ None) c.as_slice.ensures.value (search rules) in
    elim c.in-Err-setting_of.ensures.err [
      | inl memory ↦ record {
        files = left;
        line = refl;
        does = inl (record {
          only = record { shelf = c.read_files.ensures.reads; desk = refl };
          cause = subst (λ o. UnreadCause wanted before after o) (sym memory) tt;
        });
      }
      | inr is ↦ record {
        files = files;
        line = names_in_none outcome left files c.in-Err-setting_of.ensures.line;
        does = inr (inl (record {
          only = record { shelf = c.read_files.ensures.reads; desk = refl };
          read = c.in-Ok.ensures.ok;
          refused =
              ap (run_refusal map) c.in-Ok.ensures.texts
              ∙ ap (λ found. option_or (option_map (λ fault. BadFile (Image fault)) found) (texts_refusal map texts)) sound ∙ is;
        }));
      }
    ]
