-- When an image does what the program does under a plan whose interrupts write shared data.
use Rattle.std.specs.Prelude.{◌≡◌, ℕ, ◌+◌, ◌*◌, ◌<◌, ◌≤◌, List, All, Ok}
use Rattle.interrupt_plan.specs.SharedPlan.{SharedEntry, IsSharedPlan}
use Rattle.rv_decode.specs.State.{ZcState}
use Rattle.shared_cells.specs.SharedRun.{shared_by}
use Rattle.sym_machine.specs.Program.{Program}
use Rattle.zc_link.specs.Image.{Image, loaded_core}
use Rattle.zc_link.specs.Pace.{Pace}
use Rattle.zc_link.specs.Preserves.{Follows}
use Rattle.zc_machine.specs.Run.{machine_after}
use Rattle.shared_runs.specs.SharedPlain.{SharedState, Sharing, shared_after}

-- after the commits that the program's steps take, the image follows the program; and a step takes at most 64 of them, after 3 at
-- the start
pub record KeepsPace (w : Sharing) (input : List ℕ) (n : ℕ) (s : SharedState) : Type 0 where
  pub state : ZcState
  pub runs : machine_after (loaded_core w.image) input (shared_by w.ranges w.plan) s.commits ≡ Ok state
  pub follows : Follows w.program w.image s.plain state
  pub few : s.commits ≤ 64 * n + 3

-- it does so for each input, each such plan, and each number of steps that the program makes without getting stuck
abbrev pub SharesCells : Program → Image → Pace → List (ℕ × ℕ) → Type 0
SharesCells p e pace ranges =
    (input : List ℕ) (plan : List SharedEntry) (n : ℕ) (s : SharedState) → All (λ b. b < 256) input → IsSharedPlan plan →
    let w : Sharing = record { program = p; image = e; pace = pace; ranges = ranges; plan = plan } in
    shared_after w input n ≡ Ok s → KeepsPace w input n s
