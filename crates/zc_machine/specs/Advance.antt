-- How far a machine comes by its own steps.
use Rattle.std.specs.Prelude.{◌≡◌, ℕ, zero, suc, ◌<◌}
use Rattle.rv_decode.specs.State.{ZcCore}
use Rattle.zc_machine.specs.Answer.{answer_of, core_after}
use Rattle.zc_machine.specs.Step.{Committed, zc_step}
use Rattle.zc_machine.specs.declared.answer.Step.{Step}
use Rattle.zc_machine.specs.declared.answer.Step.TheVariants as answer

-- n steps lead from machine z to z2, and each of them is a commit
abbrev pub CommitsTo : ℕ → ZcCore → ZcCore → Type 0
CommitsTo zero z z2 = z2 ≡ z
CommitsTo (suc n) z z2 = (y : ZcCore) × CommitsTo n z y × (zc_step y ≡ Committed z2)

-- machine z came to z2 by steps, until it had made `until` commits, or up to the first step that is no commit: this is the last
-- step's answer
pub record AdvancesTo (z z2 : ZcCore) (until : ℕ) (given : Step) : Type 0 where
  pub count : ℕ
  pub last : ZcCore
  pub commits : CommitsTo count z last
  pub within : last.commits < until
  pub answers : given ≡ answer_of (zc_step last)
  pub left : z2 ≡ core_after (zc_step last) last
  pub all : given ≡ answer.Committed → z2.commits ≡ until
