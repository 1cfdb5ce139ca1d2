-- Why a load ends without a result: from the causes of each run, once the runs before it have exited.
use Rattle.std.proofs.Common.{◌≡◌, ℕ, List, [], None, Result, IfErr, inl, inr, sym, subst}
use Rattle.std.proofs.lemmas.List.Elements.{All-nil}
use Rattle.std.specs.Result.{IsErrAnd}
use Rattle.std.proofs.lemmas.Result.{err_from_is_err_and}
use Rattle.elf32_read.specs.Image.{image_fault}
use Rattle.interrupt_plan.specs.Made.{made_plan}
use Rattle.interrupt_plan.specs.Plan.{Entry, IsInterrupt, IsPlan}
use Rattle.psabi_sym.specs.Inputs.{Inputs}
use Rattle.zc_base.specs.MemMap.{standard_map}
use Rattle.zc_link.specs.Links.{Link}
use Rattle.zc_link.specs.Preserves.{Preserves}
use Rattle.zc_outside.specs.Course.{Exit, ExitsAt, IsSpent}
use Rattle.load_runner.specs.Cause.{BothCause, ImageCause, LoadCause, in_cuts, in_plain, in_zc}
use Rattle.load_runner.specs.Load.{AreLinks, BothLinks}
use Rattle.load_runner.specs.Runs.{EventuallyExits, IsTraced, image_run, standard_inputs, trace_run}
use Rattle.load_runner.specs.declared.load_end.LoadEnd.{LoadEnd}
use Rattle.load_runner.specs.declared.load_end.LoadEnd.TheVariants.{Stuck, Spent, OutOfMemory}
use Rattle.load_runner.specs.declared.run_load.TheConstants.{LOAD_CUTS}
use Rattle.load_runner.proofs.ExitLaws.{eventually_exits, image_faultless}

-- an error of a call that is passed on
pub handed_on : {T : Type 0} (r : Result T LoadEnd) (P : LoadEnd → Type 0) (last : LoadEnd) → IsErrAnd r (λ x. x ≡ last) → P last → IfErr r P
handed_on r P last is given =
    let at = err_from_is_err_and r is in
    subst (λ q. IfErr q P) (sym at.1) (subst P (sym at.2) given)

-- ---- what the two links of objects are, once their program has exited

module _ (inputs : Inputs) (plain zc : Link) (links : AreLinks inputs plain zc) where
  -- both links of the objects
  abbrev pub both : BothLinks inputs
  both = record { plain = plain; zc = zc; is_plain = links.is_plain; is_zc = links.is_zc }

  plain_kept : Preserves (standard_inputs links.files) plain.elf
  plain_kept = subst (λ i. Preserves i plain.elf) links.are links.is_plain.image.preserves

  zc_kept : Preserves (standard_inputs links.files) zc.elf
  zc_kept = subst (λ i. Preserves i zc.elf) links.are links.is_zc.image.preserves

  -- their images have no fault
  pub plain_faultless : image_fault plain.elf standard_map ≡ None
  plain_faultless = image_faultless plain.elf standard_map plain_kept.image plain_kept.read

  pub zc_faultless : image_fault zc.elf standard_map ≡ None
  zc_faultless = image_faultless zc.elf standard_map zc_kept.image zc_kept.read

  -- both images exit under each plan of bytes
  module _ (count : ℕ) (exit : Exit) (traced : IsTraced inputs count exit) (plan : List Entry) (is_plan : IsPlan plan) where
    pub plain_exits : EventuallyExits plain.elf plan
    plain_exits = eventually_exits links.files plain.elf plain_kept count exit (subst (λ i. IsTraced i count exit) links.are traced) plan is_plan

    pub zc_exits : EventuallyExits zc.elf plan
    zc_exits = eventually_exits links.files zc.elf zc_kept count exit (subst (λ i. IsTraced i count exit) links.are traced) plan is_plan

-- the plan without interrupts writes only bytes
pub no_cuts : IsPlan []
no_cuts = All-nil (λ e. IsInterrupt e.cut)

-- ---- the causes

-- an exit of a run
module _ (inputs : Inputs) (number count : ℕ) (exit : Exit) (traced : ExitsAt (trace_run inputs) count exit) (links : BothLinks inputs) where
  pub plain_cause : (last : LoadEnd) → ImageCause links.plain.elf [] last → LoadCause inputs number last
  plain_cause (Stuck place why) cause = absurd cause
  plain_cause Spent cause = in_plain (exit, (count, traced)) links cause
  plain_cause OutOfMemory cause = tt

  module _ (plain_count : ℕ) (plain_exit : Exit) (plain : ExitsAt (image_run links.plain.elf []) plain_count plain_exit) where
    pub both_cause : (plan : List Entry) → plan ≡ made_plan number LOAD_CUTS → (last : LoadEnd) → BothCause links.zc.elf plan last → LoadCause inputs number last
    both_cause plan made (Stuck place why) cause = absurd cause
    both_cause plan made Spent (inl spent) = in_zc (exit, (count, traced)) links (plain_exit, (plain_count, plain)) spent
    both_cause plan made Spent (inr cause) =
        in_cuts (exit, (count, traced)) links (plain_exit, (plain_count, plain)) cause.0 (subst (λ p. IsSpent (image_run links.zc.elf p)) made cause.1)
    both_cause plan made OutOfMemory cause = tt
