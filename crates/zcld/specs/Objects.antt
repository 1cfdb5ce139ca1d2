-- The objects that a command reads, and why they are refused.
use Rattle.std.specs.Prelude.{◌≡◌, ℕ, ◌⊎◌, List, [], ◌∷◌, Option, Some, None}
use Rattle.std.specs.Option.{option_map}
use Rattle.zc_outside.specs.Files.{Files}
use Rattle.zc_outside.specs.Shelf.{Shelf}
use Rattle.zc_outside.specs.Wanted.{AreRead, Wanted, each_within}
use Rattle.block_cut.specs.Faults.{first_fault}
use Rattle.elf32_read.specs.declared.fault.Fault.{Fault}
use Rattle.psabi_sym.specs.Faults.{gather_fault}
use Rattle.psabi_sym.specs.LinkFault.{IsRefusal}
use Rattle.psabi_sym.specs.declared.link_fault.LinkFault.{LinkFault}
use Rattle.psabi_sym.specs.Inputs.{Inputs, inputs_in}
use Rattle.zc_base.specs.Options.{Options}
use Rattle.zcld.specs.ErrLine.{err_line}
use Rattle.zcld.specs.Outcome.{link_outcome}
use Rattle.zcld.specs.Task.{UnreadCause}
use Rattle.zcld.specs.declared.outcome.Outcome.{Outcome}
use Rattle.zcld.specs.declared.outcome.Outcome.TheVariants.{Refused, OutOfMemory}
use Rattle.zcld.specs.declared.limits.TheConstants.{OBJECT_LIMIT}

-- a refusal names the first fault in the objects, with its object's index
abbrev pub refused_for : Option (ℕ × Fault) → Option Outcome
refused_for fault = option_map (λ found. Refused found.0 found.1) fault

-- the refusal of objects under the options of a link
abbrev pub objects_refusal : Options → List (List ℕ) → Option Outcome
objects_refusal options files = refused_for (first_fault (inputs_in options files))

-- objects are read up to their limit
abbrev pub objects_wanted : List (List ℕ) → List Wanted
objects_wanted names = each_within OBJECT_LIMIT names

-- the objects are the files before the last one, which is a text
abbrev pub objects_before : List (List ℕ) → List (List ℕ)
objects_before [] = []
objects_before (file ∷ []) = []
objects_before (file ∷ (next ∷ files)) = file ∷ objects_before (next ∷ files)

abbrev pub last_file : List (List ℕ) → List ℕ
last_file [] = []
last_file (file ∷ []) = file
last_file (file ∷ (next ∷ files)) = last_file (next ∷ files)

-- why objects that were read go no further: they are refused for this fault, or memory ran out
abbrev pub RefusalCause : Option (ℕ × Fault) → Outcome → Type 0
RefusalCause fault outcome = (refused_for fault ≡ Some outcome) ⊎ (outcome ≡ OutOfMemory)

-- gathering these files is refused, and the outcome's line is the same for the files that are kept
pub record IsUngathered (options : Options) (files left : List (List ℕ)) (outcome : Outcome) : Type 0 where
  pub fault : LinkFault
  pub outcome_is : outcome ≡ link_outcome fault
  pub refused : IsRefusal (gather_fault (inputs_in options files)) fault
  pub line : err_line left outcome ≡ err_line files outcome

-- the files have these bytes and are refused, and the outcome's line is the same for the files that are kept
pub record AreRefused
    (options : Options) (names left : List (List ℕ)) (outcome : Outcome) (store : Option Files) : Type 0 where
  pub files : List (List ℕ)
  pub read : AreRead store (objects_wanted names) files
  pub refused : objects_refusal options files ≡ Some outcome
  pub line : err_line left outcome ≡ err_line files outcome

-- how a command ends without its objects: the files can't be had, or they are refused
abbrev pub EndsWithout : Options → List (List ℕ) → List (List ℕ) → Outcome → Shelf → Shelf → Type 0
EndsWithout options names left outcome before after =
    UnreadCause (objects_wanted names) before after outcome ⊎ AreRefused options names left outcome before.files

-- these are the objects of the files' bytes under the options, and gathering them found no fault
pub record AreGathered
    (options : Options) (names : List (List ℕ)) (objects : Inputs) (store : Option Files) : Type 0 where
  pub files : List (List ℕ)
  pub read : AreRead store (objects_wanted names) files
  pub inputs_are : objects ≡ inputs_in options files
  pub faultless : gather_fault objects ≡ None
