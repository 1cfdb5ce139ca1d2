-- When a map of places carries one program to another, and what is claimed of their runs then.
use Rattle.std.specs.Prelude.{◌≡◌, ℕ, ◌*◌, ◌≤◌, ◌⊎◌, List, map, All, Option, Some, None, Ok}
use Rattle.std.specs.Option.{option_map}
use Rattle.zc_base.specs.declared.place.Place.{Place}
use Rattle.rv_decode.specs.declared.instr.Instr.{Instr}
use Rattle.rv_decode.specs.declared.instr.Instr.TheVariants as instr
use Rattle.rv_decode.specs.Memory.{changed}
use Rattle.psabi_sym.specs.declared.target.Target.{Target}
use Rattle.block_cut.specs.declared.item.Item.{Item}
use Rattle.block_cut.specs.declared.item.Item.TheVariants as item
use Rattle.sym_machine.specs.AddressParts.{pc_target}
use Rattle.sym_machine.specs.Conditions.{is_solid}
use Rattle.sym_machine.specs.Expansions.{item_expansion}
use Rattle.sym_machine.specs.Program.{Program, start_memory}
use Rattle.sym_machine.specs.Run.{program_after}
use Rattle.sym_machine.specs.State.{PlainState}
use Rattle.sym_machine.specs.Step.{undefined_below}
use Rattle.moved_runs.specs.Moved.{moved_at, moved_byte, moved_item, moved_result, moved_target}
use Rattle.moved_runs.specs.Named.{IsNamedByte, IsNamedTarget}

-- ---- what an item leads to

-- a jump puts the next place's address into a register, unless that is register 0
abbrev pub IsNamedLink : (Place → Type 0) → ℕ → Place → Type 0
IsNamedLink K rd next = (rd ≡ 0) ⊎ K next

abbrev pub OpLeads : (Place → Type 0) → Instr → Place → Type 0
OpLeads K (instr.Jalr rd base imm) next = IsNamedLink K rd next
OpLeads K i next = Unit {0}

-- the target of the `auipc` at a place, if there is one
abbrev pub IsNamedOption : (Place → Type 0) → Option Target → Type 0
IsNamedOption K None = Unit {0}
IsNamedOption K (Some t) = IsNamedTarget K t

-- the addresses that the item at a place makes are those of K, and the places that it goes to are in V. A push, a pop or a pair of
-- moves makes none, and where it returns to, it found in a register
abbrev pub ItemLeads : (Place → Type 0) → (Place → Type 0) → Program → Place → Item → Type 0
ItemLeads K V p q (item.Op i) = OpLeads K i (p.next q)
ItemLeads K V p q (item.Hi i t) = IsNamedTarget K t
ItemLeads K V p q (item.Lo i t) = IsNamedTarget K t × OpLeads K i (p.next q)
ItemLeads K V p q (item.PcHi i t) = K q
ItemLeads K V p q (item.PcLo i r) = K r × IsNamedOption K (pc_target (p.item r)) × OpLeads K i (p.next q)
ItemLeads K V p q (item.Branch op first second to) = V to
ItemLeads K V p q (item.Jump rd to) = V to × IsNamedLink K rd (p.next q)
ItemLeads K V p q (item.Call rd temp to) = V to × IsNamedLink K rd (p.next q)
ItemLeads K V p q i = Unit {0}

-- the `auipc` of a lower part leads to the same target, moved
abbrev pub PcMoves : (Place → Place) → Program → Program → Item → Type 0
PcMoves M p p' (item.PcLo i r) = pc_target (p'.item (M r)) ≡ option_map (moved_target M) (pc_target (p.item r))
PcMoves M p p' i = Unit {0}

-- a jump by a register that keeps no link: what it does has nothing to do with the next place
abbrev pub OpReturns : Instr → Type 0
OpReturns (instr.Jalr rd base imm) = rd ≡ 0
OpReturns i = ⊥

abbrev pub IsReturn : Item → Type 0
IsReturn (item.Op i) = OpReturns i
IsReturn i = ⊥

-- ---- what stands where a place is moved to

-- the same item, with its places moved
pub record KeepsItem (K V : Place → Type 0) (M : Place → Place) (p p' : Program) (q : Place) (i : Item) : Type 0 where
  pub there : p'.item (M q) ≡ Some (moved_item M i)
  pub onward : (p'.next (M q) ≡ M (p.next q)) ⊎ IsReturn i
  pub leads : ItemLeads K V p q i
  pub pc : PcMoves M p p' i

-- in place of an operation without relocation, a jump to where the same operation stands
pub record SharesItem (K : Place → Type 0) (M : Place → Place) (p p' : Program) (q : Place) (i : Item) : Type 0 where
  pub op : Instr
  pub is : i ≡ item.Op op
  pub host : Place
  pub jump : p'.item (M q) ≡ Some (item.Jump 0 host)
  pub same : p'.item host ≡ Some (item.Op op)
  pub onward : (p'.next host ≡ M (p.next q)) ⊎ IsReturn i
  pub leads : OpLeads K op (p.next q)

-- anything, since the machine is stuck at the item: a word or a halfword that is no instruction for it
abbrev pub IsDead : Item → Type 0
IsDead (item.Word t) = Unit {0}
IsDead (item.Raw w) = Unit {0}
IsDead (item.RawShort h) = item_expansion (Some (item.RawShort h)) ≡ None
IsDead (item.RawPair v w) = Unit {0}
IsDead i = ⊥

-- ---- two programs

-- K are the places whose addresses the program may hold, and V those that it may come to. Only on K is the map one to one
pub record Moves (K V : Place → Type 0) (M : Place → Place) (p p' : Program) : Type 0 where
  pub entry : p'.entry ≡ M p.entry
  pub bytes : p'.bytes ≡ map (moved_byte M) p.bytes
  pub named : All (IsNamedByte K) p.bytes
  pub map : p'.map ≡ p.map
  pub visited : V p.entry
  pub visits : (q : Place) → K q → V q
  pub follows : (q : Place) (i : Item) → V q → p.item q ≡ Some i → V (p.next q)
  pub apart : (q r : Place) → K q → K r → M q ≡ M r → q ≡ r
  pub solid : (q : Place) → K q → is_solid (p'.item (M q)) ≡ is_solid (p.item q)

-- at each place that the program may come to stands the same item, or no item in both
pub record MovesExactly (K V : Place → Type 0) (M : Place → Place) (p p' : Program) : Type 0 where
  pub moves : Moves K V M p p'
  pub keeps : (q : Place) (i : Item) → V q → p.item q ≡ Some i → KeepsItem K V M p p' q i
  pub nowhere : (q : Place) → V q → p.item q ≡ None → p'.item (M q) ≡ None

-- at the start sp is a number within the stack, and all that lies in the stack below it is undefined
pub record StartsQuiet (p : Program) : Type 0 where
  pub ordered : p.map.stack_low ≤ p.map.stack_high
  pub below : p.map.stack_high ≤ 4294967295
  pub quiet : changed (undefined_below p.map p.map.stack_high) (start_memory p) ≡ start_memory p

-- at each place stands the same item, or a jump to the same operation, or the machine is stuck there
pub record MovesSharing (K V : Place → Type 0) (M : Place → Place) (p p' : Program) : Type 0 where
  pub moves : Moves K V M p p'
  pub starts : StartsQuiet p
  pub items : (q : Place) (i : Item) → V q → p.item q ≡ Some i → KeepsItem K V M p p' q i ⊎ (SharesItem K M p p' q i ⊎ IsDead i)

-- ---- what follows

-- the runs are the same step by step, those that get stuck too
abbrev pub SameRuns : (Place → Place) → Program → Program → Type 0
SameRuns M p p' = (input : List ℕ) (n : ℕ) → program_after p' input n ≡ moved_result M (program_after p input n)

-- a state with its places moved; after the exit nothing is claimed of its own place
pub record IsMovedState (M : Place → Place) (r t : PlainState) : Type 0 where
  pub core : t.core ≡ moved_at M t.core.place r.core
  pub place : r.core.exit ≡ None → t.core.place ≡ M r.core.place
  pub events : t.events ≡ r.events
  pub devices : t.devices ≡ r.devices

-- where the one program comes to in n steps, the other comes to in at most 2n
abbrev pub KeepsRuns : (Place → Place) → Program → Program → Type 0
KeepsRuns M p p' =
    (input : List ℕ) (n : ℕ) (r : PlainState) → program_after p input n ≡ Ok r →
    (m : ℕ) × (m ≤ 2 * n) × (t : PlainState) × (program_after p' input m ≡ Ok t) × IsMovedState M r t
