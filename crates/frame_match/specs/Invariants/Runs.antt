-- Runs of consecutive instructions, as the code stores them.
use Rattle.std.specs.Prelude.{◌≡◌, ◌≤◌, ◌<◌, ℕ, Bool, true, false, not, ◌&&◌, ◌||◌, ◌==◌, List, [], ◌∷◌, length, map, slice_get, Option, Some}
use Rattle.std.specs.Option.{is_some, option_and_then, option_map_or}
use Rattle.psabi_sym.specs.Inputs.{ParsedInputs}
use Rattle.psabi_sym.specs.Indexed.{IndexedSection}
use Rattle.rv_decode.specs.declared.instr.Instr.{Instr}
use Rattle.block_cut.specs.Places.{code_place}
use Rattle.block_cut.specs.declared.code_place.CodePlace.{CodePlace}
use Rattle.frame_match.specs.Groups.{op_then, ops_from, spot_on, Spot}
use Rattle.frame_match.specs.Read.{is_zero_instr, lowered, move_of, op_of, slot_of}
use Rattle.frame_match.specs.declared.slot.Access.TheVariants.{Restores}

-- ---- instructions at places

-- the instruction at a place, if it has no relocation
abbrev pub op_in : CodePlace → Option Instr
op_in p = option_and_then op_of p.item

-- the instructions at places, up to the first place without one
abbrev pub ops_of : List CodePlace → List Instr
ops_of [] = []
ops_of (p ∷ ps) = op_then (op_in p) (ops_of ps)

-- each place has an instruction without relocation
abbrev pub HaveOps : List CodePlace → Type 0
HaveOps ps = (k : ℕ) (p : CodePlace) → slice_get ps k ≡ Some p → is_some (op_in p) ≡ true

-- whether a push, a pop or moves may begin with an instruction: it restores a register, moves one, lowers sp or sets
-- a0 to 0
abbrev pub may_begin : Instr → Bool
may_begin i = is_some (slot_of Restores i) || (is_some (move_of i) || (is_some (lowered (Some i)) || is_zero_instr i))

abbrev pub begins_with : Option Instr → Bool
begins_with i = option_map_or may_begin i false

-- ---- places of a section

-- each place holds what is at its offset in a section
abbrev pub ArePlacesOf : ParsedInputs → IndexedSection → List CodePlace → Type 0
ArePlacesOf inputs l ps = (k : ℕ) (p : CodePlace) → slice_get ps k ≡ Some p → p ≡ code_place inputs l p.offset

-- the items at places of a section
abbrev pub spots_of : ParsedInputs → IndexedSection → List CodePlace → List Spot
spots_of inputs l ps = map (λ p. spot_on inputs l p.offset) ps

-- ---- how far a run goes

-- the instructions from the first of some items on
abbrev pub run_from : List Spot → List Instr
run_from [] = []
run_from (s ∷ ss) = ops_from s ss

-- whether an item's instruction goes on a run, or is its first
abbrev pub joins : Bool → Spot → Bool
joins first s = is_some s.op && (first || not s.leader)

-- the first n items, at most 16, are a run; the next item doesn't go on with it, unless n is 16 or all items
pub record IsRun (spots : List Spot) (n : ℕ) : Type 0 where
  pub within : n ≤ length spots
  pub few : n ≤ 16
  pub each : (k : ℕ) (s : Spot) → k < n → slice_get spots k ≡ Some s → joins (k == 0) s ≡ true
  pub stops : (s : Spot) → n < 16 → slice_get spots n ≡ Some s → joins (n == 0) s ≡ false
