-- How a command ends that begins with objects: they can't be had, or they are refused, or it does its work.
use Rattle.std.proofs.Common.{◌≡◌, ℕ, List, Some, None, refl, sym, ap, subst, ◌∙◌, inl, inr}
use Rattle.psabi_sym.specs.Faults.{gather_fault}
use Rattle.psabi_sym.specs.Inputs.{Inputs, inputs_in}
use Rattle.psabi_sym.specs.LinkFault.{IsRefusal}
use Rattle.psabi_sym.specs.declared.link_fault.LinkFault.{LinkFault}
use Rattle.psabi_sym.specs.declared.link_fault.LinkFault.TheVariants.{Object, OutOfMemory}
use Rattle.block_cut.specs.Faults.{first_fault}
use Rattle.zc_base.specs.Options.{Options}
use Rattle.zc_outside.specs.Shelf.{Shelf}
use Rattle.zc_outside.specs.Wanted.{AreRead}
use Rattle.zc_outside.specs.World.{World}
use Rattle.command_words.specs.Command.{Command}
use Rattle.zcld.specs.Call.{DoesWith, task_of, work_of}
use Rattle.zcld.specs.ErrLine.{NamesNothing, err_line}
use Rattle.zcld.specs.Objects.{AreGathered, EndsWithout, IsUngathered, objects_refusal, objects_wanted, refused_for}
use Rattle.zcld.specs.Outcome.{link_outcome}
use Rattle.zcld.specs.Task.{OnlyRead, UnreadCause}
use Rattle.zcld.specs.declared.outcome.Outcome.{Outcome}
use Rattle.zcld.proofs.Refusals.{gather_refuses, names_in_none, names_nothing}

module _ (options : Options) (names left : List (List ℕ)) (before after : Shelf) where
  -- the objects that were read are refused before they are gathered, or when they are
  pub gather_refused :
      (files : List (List ℕ)) (fault : LinkFault) → AreRead before.files (objects_wanted names) files → IsRefusal (gather_fault (inputs_in options files)) fault
      → err_line left (link_outcome fault) ≡ err_line files (link_outcome fault) → EndsWithout options names left (link_outcome fault) before after
  gather_refused files OutOfMemory are is line = inl tt
  gather_refused files (Object index fault) are is line = inr (record {
    files = files;
    read = are;
    refused = ap refused_for (gather_refuses (inputs_in options files) (Object index fault) is);
    line = line;
  })

  -- gathering what was read was refused
  pub ungathered :
      (files : List (List ℕ)) (outcome : Outcome) → AreRead before.files (objects_wanted names) files → IsUngathered options files left outcome
      → EndsWithout options names left outcome before after
  ungathered files outcome are is =
      subst (λ o. EndsWithout options names left o before after) (sym is.outcome_is)
      (gather_refused files is.fault are is.refused (subst (λ o. err_line left o ≡ err_line files o) is.outcome_is is.line))

  -- objects that were gathered are refused when they are linked or cut
  pub link_refused :
      (objects : Inputs) (fault : LinkFault) → AreGathered options names objects before.files → IsRefusal (first_fault objects) fault
      → EndsWithout options names left (link_outcome fault) before after
  link_refused objects OutOfMemory are is = inl tt
  link_refused objects (Object index fault) are is = inr (record {
    files = are.files;
    read = are.read;
    refused = ap refused_for (sym (ap first_fault are.inputs_are) ∙ is);
    line = names_in_none (link_outcome (Object index fault)) left are.files (names_nothing objects (Object index fault) are.faultless is);
  })

module _ (command : Command) (options : Options) (names left : List (List ℕ)) (outcome : Outcome) (before after : World) where
  -- it did nothing but read them
  pub without_objects :
      (task_of command).wanted ≡ objects_wanted names → (task_of command).refusal ≡ objects_refusal options → OnlyRead (objects_wanted names) before after →
      EndsWithout options names left outcome before.shelf after.shelf → DoesWith (Some command) left outcome before after
  without_objects wants refuses only ends =
      let only_read = subst (λ w. OnlyRead w before after) (sym wants) only in
      elim ends [
        | inl cause ↦ record {
          files = left;
          does = inl (record { only = only_read; cause = subst (λ w. UnreadCause w before.shelf after.shelf outcome) (sym wants) cause });
          line = refl;
        }
        | inr are ↦ record {
          files = are.files;
          does = inr (inl (record {
            only = only_read;
            read = subst (λ w. AreRead before.shelf.files w are.files) (sym wants) are.read;
            refused = ap (λ refusal. refusal are.files) refuses ∙ are.refused;
          }));
          line = are.line;
        }
      ]

  -- it did its work with files that aren't refused
  pub with_read :
      (between : World) (files : List (List ℕ)) → (task_of command).wanted ≡ objects_wanted names → (task_of command).refusal ≡ objects_refusal options
      → OnlyRead (objects_wanted names) before between → AreRead before.shelf.files (objects_wanted names) files → first_fault (inputs_in options files) ≡ None
      → err_line left outcome ≡ err_line files outcome → work_of command files outcome between after → DoesWith (Some command) left outcome before after
  with_read between files wants refuses only read sound line work = record {
    files = files;
    line = line;
    does = inr (inr (record {
      between = between;
      only = subst (λ w. OnlyRead w before between) (sym wants) only;
      read = subst (λ w. AreRead before.shelf.files w files) (sym wants) read;
      accepted = ap (λ refusal. refusal files) refuses ∙ ap refused_for sound;
      work = work;
    }));
  }

  -- it did its work with objects that aren't refused
  pub with_objects :
      (between : World) (objects : Inputs) → (task_of command).wanted ≡ objects_wanted names → (task_of command).refusal ≡ objects_refusal options
      → OnlyRead (objects_wanted names) before between → (are : AreGathered options names objects before.shelf.files) → first_fault objects ≡ None
      → NamesNothing outcome → work_of command are.files outcome between after → DoesWith (Some command) left outcome before after
  with_objects between objects wants refuses only are sound nothing work =
      with_read between are.files wants refuses only are.read (sym (ap first_fault are.inputs_are) ∙ sound) (names_in_none outcome left are.files nothing) work
