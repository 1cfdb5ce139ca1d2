-- What a simulation demands of interrupts and commits if others write cells of data between them: from one sound pair to the
-- next, each does the same whatever data hold.
use Rattle.std.specs.Prelude.{◌≡◌, ℕ, suc, ◌<◌, ◌≤◌, true, List, [], ◌∷◌, All, None, Ok}
use Rattle.zc_base.specs.declared.place.Place.{Place}
use Rattle.interrupt_plan.specs.Plan.{Interrupt, IsInterrupt}
use Rattle.rv_decode.specs.Memory.{changed, extents_of, lies_in, written}
use Rattle.rv_decode.specs.Run.{iterate}
use Rattle.rv_decode.specs.State.{ZcCore, ZcState}
use Rattle.sym_machine.specs.declared.word.SymByte.TheVariants.{Num}
use Rattle.sym_machine.specs.Program.{Program, data_high}
use Rattle.sym_machine.specs.Run.{plain_turn}
use Rattle.sym_machine.specs.State.{PlainState}
use Rattle.zc_machine.specs.Interrupt.{interrupted}
use Rattle.zc_machine.specs.Memory.{AreApart}
use Rattle.zc_machine.specs.Poked.{is_segment}
use Rattle.zc_machine.specs.Run.{first_state_with, zc_turn}
use Rattle.zc_link.specs.Image.{Image, IsFirstState, loaded_core}
use Rattle.zc_link.specs.Pace.{Pace, lead_of}
use Rattle.zc_link.specs.Setting.{Setting}
use Rattle.zc_link.specs.Sound.{Sound}

-- a is an address of data
pub record IsCell (p : Program) (a : ℕ) : Type 0 where
  pub low : p.map.data_low ≤ a
  pub high : a < data_high p

-- where data lie in the image: no two of its regions have an address in common, each address of data lies in a segment of
-- data, and data end at or below the stack
pub record CellsLie (p : Program) (e : Image) : Type 0 where
  pub apart : AreApart (extents_of (loaded_core e).memory)
  pub lies : (a : ℕ) → IsCell p a → lies_in is_segment (extents_of (loaded_core e).memory) a 1 ≡ true
  pub under : data_high p ≤ p.map.stack_low

-- the state after the byte at an address was written from outside: in the machine, and in the program
abbrev pub poked : ℕ → ℕ → ZcState → ZcState
poked a b z = record z { core = record z.core { memory = changed (written a 1 (λ _. b)) z.core.memory } }

abbrev pub poked_plain : ℕ × ℕ → PlainState → PlainState
poked_plain c r = record r { core = record r.core { memory = changed (written c.0 1 (λ _. Num c.1)) r.core.memory } }

abbrev pub all_poked : List (ℕ × ℕ) → PlainState → PlainState
all_poked [] r = r
all_poked (c ∷ cs) r = all_poked cs (poked_plain c r)

-- a sound pair with all of its commits left; even with these cells of data written, the program doesn't get stuck over the span
pub record FromPair (p : Program) (Named : Place → Type 0) (e : Image) (pace : Pace) (r : PlainState) (k : ℕ) (z : ZcState) : Type 0 where
  pub commits : k ≡ pace.weight r.core
  pub sound : Sound p Named e r.core z
  pub cells : List (ℕ × ℕ)
  pub are : All (λ c. IsCell p c.0 × (c.1 < 256)) cells
  pub after : PlainState
  pub steps : iterate (plain_turn p) (pace.span r.core.place) (all_poked cells r) ≡ Ok after

-- a first state of the machine, with all commits before the program's start left
pub record FromLoad (p : Program) (e : Image) (k : ℕ) (z : ZcState) : Type 0 where
  pub commits : k ≡ lead_of p e
  pub setting : Setting
  pub bytes : All (λ b. b < 256) setting.input
  pub first : ZcCore
  pub starts : IsFirstState setting.sp_set e first
  pub loads : z ≡ first_state_with first setting.devices setting.input

-- a state between such a first state and the end of its commits, with this number of commits left: it comes by interrupts, by
-- writes to cells of data, and by commits
pub data OnWay (p : Program) (From : ℕ → ZcState → Type 0) : ℕ → ZcState → Type 0 where
  Starts : (k : ℕ) (z : ZcState) → From k z → OnWay p From k z
  Cuts : (k : ℕ) (z : ZcState) (c : Interrupt) → IsInterrupt c → OnWay p From (suc k) z → OnWay p From (suc k) (record z { core = interrupted c z.core })
  Pokes : (k : ℕ) (z : ZcState) (a b : ℕ) → IsCell p a → b < 256 → OnWay p From (suc k) z → OnWay p From (suc k) (poked a b z)
  Turns : (k : ℕ) (z z' : ZcState) → OnWay p From (suc k) z → zc_turn [] z ≡ Ok z' → OnWay p From k z'

-- on the way each interrupt does the same whatever data hold
abbrev pub CutsApart : Program → (ℕ → ZcState → Type 0) → Type 0
CutsApart p From =
    (k : ℕ) (z : ZcState) → OnWay p From (suc k) z → (c : Interrupt) → IsInterrupt c → (a b : ℕ) → IsCell p a → b < 256
    → interrupted c (poked a b z).core ≡ (poked a b (record z { core = interrupted c z.core })).core

-- on the way the machine hasn't exited, so only the last commit may be the exit; and each commit does the same whatever data
-- hold, and so leaves data as they are
pub record CommitsApart (p : Program) (From : ℕ → ZcState → Type 0) : Type 0 where
  pub running : (k : ℕ) (z : ZcState) → OnWay p From (suc k) z → z.core.exit ≡ None
  pub same :
      (k : ℕ) (z z' : ZcState) → OnWay p From (suc k) z → zc_turn [] z ≡ Ok z' → (a b : ℕ) → IsCell p a → b < 256
      → zc_turn [] (poked a b z) ≡ Ok (poked a b z')
