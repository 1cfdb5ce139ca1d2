-- The program under a plan whose interrupts write shared data: its steps are counted in commits of the image, and before a stretch
-- of steps begins, the cells of all commits that the stretch takes are written.
use Rattle.std.specs.Prelude.{ℕ, zero, suc, ◌+◌, ◌-◌, ◌==◌, if◌then◌else◌, List, [], ◌++◌, filter, flat_map, Result, Ok}
use Rattle.std.specs.Option.{is_some}
use Rattle.zc_base.specs.declared.place.Place.{Place}
use Rattle.interrupt_plan.specs.SharedPlan.{SharedEntry, shared_at}
use Rattle.rv_decode.specs.Run.{◌>>=◌, iterate}
use Rattle.shared_cells.specs.SharedRun.{in_ranges}
use Rattle.sym_machine.specs.declared.why.Why.{Why}
use Rattle.sym_machine.specs.Program.{Program}
use Rattle.sym_machine.specs.Run.{plain_turn}
use Rattle.sym_machine.specs.State.{PlainState, first_plain}
use Rattle.zc_link.specs.DataApart.{all_poked}
use Rattle.zc_link.specs.Image.{Image}
use Rattle.zc_link.specs.Pace.{Pace, lead_of}

-- the cells of the entries before the commit with this number, as far as they lie in the ranges, in order
abbrev pub cells_at : List (ℕ × ℕ) → List SharedEntry → ℕ → List (ℕ × ℕ)
cells_at ranges plan k = filter (λ c. in_ranges ranges c.0) (flat_map (λ e. e.cells) (shared_at plan k))

-- the cells before each of `count` commits, from commit k on, commit after commit
abbrev pub cells_from : List (ℕ × ℕ) → List SharedEntry → ℕ → ℕ → List (ℕ × ℕ)
cells_from ranges plan k zero = []
cells_from ranges plan k (suc count) = cells_at ranges plan k ++ cells_from ranges plan (suc k) count

-- a state of the program; the commits that its steps took, but for those of a stretch that isn't over; and of that stretch the
-- number of steps that are left, 0 outside one, and the commits after it
pub record SharedState : Type 0 where
  pub plain : PlainState
  pub commits : ℕ
  pub left : ℕ
  pub after : ℕ

-- what the program runs over and under: its image and pace, the ranges of shared data, and the plan
pub record Sharing : Type 0 where
  pub program : Program
  pub image : Image
  pub pace : Pace
  pub ranges : List (ℕ × ℕ)
  pub plan : List SharedEntry

-- the first state: the cells of the commits before the program's start are written
abbrev pub shared_start : Sharing → List ℕ → SharedState
shared_start w input = let lead = lead_of w.program w.image in record {
  plain = all_poked (cells_from w.ranges w.plan 0 lead) (record { core = first_plain w.program input; events = []; devices = [] });
  commits = lead;
  left = 0;
  after = lead;
}

-- a stretch begins: the cells of its commits are written
abbrev pub stretch_begun : Sharing → SharedState → SharedState
stretch_begun w s = let weight = w.pace.weight s.plain.core in record {
  plain = all_poked (cells_from w.ranges w.plan s.commits weight) s.plain;
  commits = s.commits;
  left = w.pace.span s.plain.core.place;
  after = s.commits + weight;
}

-- the state after a step within a stretch: the last step takes all its commits
abbrev pub after_step : SharedState → PlainState → SharedState
after_step s r =
    if s.left == 1 then record { plain = r; commits = s.after; left = 0; after = s.after }
    else record { plain = r; commits = s.commits; left = s.left - 1; after = s.after }

abbrev pub step_within : Program → SharedState → Result SharedState (Place × Why)
step_within p s = plain_turn p s.plain >>= λ r. Ok (after_step s r)

-- one step, which begins a stretch outside one; after the exit the state stays
unfoldable pub shared_step : Sharing → SharedState → Result SharedState (Place × Why)
shared_step w s =
    if is_some s.plain.core.exit then Ok s
    else step_within w.program (if s.left == 0 then stretch_begun w s else s)

-- the state after n steps, or where and why the program is stuck before
abbrev pub shared_after : Sharing → List ℕ → ℕ → Result SharedState (Place × Why)
shared_after w input n = iterate (shared_step w) n (shared_start w input)
