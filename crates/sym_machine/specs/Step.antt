-- One step of the symbolic machine.
use Rattle.std.specs.Prelude.{ℕ, Bool, false, not, ◌==◌, ◌&&◌, ◌||◌, nat_le, nat_lt, if◌then◌else◌, List, [], ◌∷◌, length, drop, Option, Some, None, slice_index_or}
use Rattle.std.specs.List.{fold, list_any}
use Rattle.std.specs.Option.{option_map_or}
use Rattle.zc_base.specs.declared.mem_map.MemMap.{MemMap}
use Rattle.zc_base.specs.declared.place.Place.{Place}
use Rattle.block_cut.specs.declared.item.Item.{Item}
use Rattle.block_cut.specs.declared.item.Item.TheVariants.{Op, Lo, PcLo, RawShort}
use Rattle.rv_decode.specs.declared.instr.ImmOp.TheVariants.{Addi}
use Rattle.rv_decode.specs.declared.instr.Instr.{Instr}
use Rattle.rv_decode.specs.declared.instr.Instr.TheVariants.{Load, Store, WithImm}
use Rattle.rv_decode.specs.Devices.{Device}
use Rattle.rv_decode.specs.Memory.{changed, written}
use Rattle.rv_decode.specs.State.{set_reg}
use Rattle.sym_machine.specs.declared.why.Why.{Why}
use Rattle.sym_machine.specs.declared.why.Why.TheVariants.{StackPointer}
use Rattle.sym_machine.specs.declared.word.SymByte.{SymByte}
use Rattle.sym_machine.specs.declared.word.SymByte.TheVariants.{Undef}
use Rattle.sym_machine.specs.Words.{number_of}
use Rattle.sym_machine.specs.Program.{Program}
use Rattle.sym_machine.specs.State.{PlainCore, reg_of}
use Rattle.sym_machine.specs.Change.{Change, Does, Goes, Stops, item_does, op_does}
use Rattle.sym_machine.specs.Devices.{does_with}
use Rattle.sym_machine.specs.Events.{SymEvent}
use Rattle.sym_machine.specs.Expansions.{item_expansion}

-- what a step comes to: it goes on with these events, or it is stuck and changes nothing
pub data PlainStep : Type 0 where
  Went : PlainCore → List SymEvent → PlainStep
  Stuck : Why → PlainStep

-- ---- a change that is made

-- the state after a change, before the stack below sp becomes undefined: words go to registers, and bytes to memory, one after
-- another
abbrev pub after_change : Change → PlainCore → PlainCore
after_change c s = record {
  place = c.place;
  regs = fold (λ regs w. set_reg regs w.0 w.1) s.regs c.writes;
  memory = fold (λ memory w. changed (written w.0 (length w.1) (λ i. slice_index_or w.1 i Undef)) memory) s.memory c.stores;
  input = drop c.taken s.input;
  exit = c.exit;
}

-- ---- the stack pointer

-- whether an address is one of the stack, or its end
abbrev pub in_stack : MemMap → ℕ → Bool
in_stack map a = nat_le map.stack_low a && nat_le a map.stack_high

-- sp is set where it is such an address
abbrev pub is_set : MemMap → PlainCore → Bool
is_set map s = option_map_or (in_stack map) (number_of (reg_of s 2)) false

-- the address below which the stack is undefined: sp, or the stack's end where sp isn't set
abbrev pub mark_for : MemMap → Option ℕ → ℕ
mark_for map sp = option_map_or (λ a. if in_stack map a then a else map.stack_high) sp map.stack_high

abbrev pub stack_mark : MemMap → PlainCore → ℕ
stack_mark map s = mark_for map (number_of (reg_of s 2))

-- a load or store by sp
abbrev pub accesses_by_sp : Instr → Bool
accesses_by_sp (Load op rd base imm) = base == 2
accesses_by_sp (Store op source base imm) = base == 2
accesses_by_sp other = false

-- an instruction of which frames are made: one of these, or `addi sp,sp,n`
abbrev pub is_of_frame : Instr → Bool
is_of_frame (WithImm Addi rd first imm) = rd == 2 && first == 2
is_of_frame other = accesses_by_sp other

-- whether what stands at a place needs sp to be set; the `addi` of a low part doesn't, since it may be what sets sp
abbrev pub needs_stack : Option Item → Bool
needs_stack (Some (Op i)) = is_of_frame i
needs_stack (Some (Lo i t)) = accesses_by_sp i
needs_stack (Some (PcLo i q)) = accesses_by_sp i
needs_stack (Some (RawShort half)) = option_map_or (list_any is_of_frame) (item_expansion (Some (RawShort half))) false
needs_stack other = false

-- ---- the end of each step

-- the bytes of the stack below an address are undefined
abbrev pub undefined_below : MemMap → ℕ → ℕ → SymByte → SymByte
undefined_below map end a old = if nat_le map.stack_low a && nat_lt a end then Undef else old

-- the end of a step that leaves this state: sp stays set, if it was set before, or else the step is stuck
unfoldable pub ends : MemMap → Bool → PlainCore → List SymEvent → PlainStep
ends map was_set s events =
    if is_set map s || not was_set
    then Went (record s { memory = changed (undefined_below map (stack_mark map s)) s.memory }) events
    else Stuck StackPointer

-- ---- steps

-- what an item does
abbrev pub applied : MemMap → PlainCore → Does → PlainStep
applied map s (Goes c) = ends map (is_set map s) (after_change c s) c.events
applied map s (Stops why) = Stuck why

-- a step after another one, neither of which has an event
abbrev pub and_then : PlainStep → (PlainCore → PlainStep) → PlainStep
and_then (Went s events) go = go s
and_then (Stuck why) go = Stuck why

-- instructions without relocation that have no event, one after another, and then a place
abbrev pub in_turn : MemMap → List Instr → Place → PlainCore → PlainStep
in_turn map [] next s = Went s []
in_turn map (i ∷ is) next s = and_then (applied map s (op_does i s next)) (in_turn map is next)

-- what stands at a place: several instructions in one step, none of which asks a device, or else what the item does with these
-- devices
abbrev pub item_step : List Device → MemMap → Program → Option Item → PlainCore → Place → PlainStep
item_step devices map p item s next =
    option_map_or (λ is. in_turn map is next s) (item_expansion item)
    (applied map s (does_with devices p item s next (item_does p item s next)))

-- one step; after the exit the state stays, and as long as sp isn't set the program is stuck at what needs it
unfoldable pub step_with : List Device → Program → PlainCore → PlainStep
step_with devices p s = option_map_or (λ status. Went s []) s.exit
    (if needs_stack (p.item s.place) && not (is_set p.map s) then Stuck StackPointer
    else item_step devices p.map p (p.item s.place) s (p.next s.place))

-- without devices
abbrev pub plain_step : Program → PlainCore → PlainStep
plain_step p s = step_with [] p s
