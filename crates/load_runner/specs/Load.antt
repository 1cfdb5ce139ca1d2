-- The result of a load: both links of objects, and how their runs exit.
use Rattle.std.specs.Prelude.{◌≡◌, ℕ, List, []}
use Rattle.interrupt_plan.specs.Made.{made_plan}
use Rattle.psabi_sym.specs.Inputs.{Inputs}
use Rattle.zc_link.specs.Links.{IsPlainLink, IsZcLink, Link}
use Rattle.zc_outside.specs.Course.{ExitsAt}
use Rattle.load_runner.specs.Runs.{ExitsWith, image_run, standard_inputs, trace_run}
use Rattle.load_runner.specs.declared.load.Load.{Load}
use Rattle.load_runner.specs.declared.run_load.TheConstants.{LOAD_CUTS}

-- both links of objects
pub record BothLinks (inputs : Inputs) : Type 0 where
  pub plain : Link
  pub zc : Link
  pub is_plain : IsPlainLink inputs plain
  pub is_zc : IsZcLink inputs zc

-- the two links of the objects in some files
pub record AreLinks (inputs : Inputs) (plain zc : Link) : Type 0 where
  pub files : List (List ℕ)
  pub are : inputs ≡ standard_inputs files
  pub is_plain : IsPlainLink inputs plain
  pub is_zc : IsZcLink inputs zc

-- the load has the numbers of the links, and the exits of the program after `steps` steps, of the plain image, of the
-- Zc image after `commits` commits, and of the Zc image under the plan that is generated from a number
pub record IsLoad (inputs : Inputs) (number : ℕ) (load : Load) : Type 0 where
  pub links : BothLinks inputs
  pub plain_text : load.plain_text ≡ links.plain.plain.text
  pub zc_text : load.zc_text ≡ links.zc.zc.text
  pub net : load.net ≡ links.zc.certificate.net
  pub trace : ExitsAt (trace_run inputs) load.steps load.trace
  pub plain : ExitsWith (image_run links.plain.elf []) load.plain
  pub zc : ExitsAt (image_run links.zc.elf []) load.commits load.zc
  pub cuts : ExitsWith (image_run links.zc.elf (made_plan number LOAD_CUTS)) load.cuts
