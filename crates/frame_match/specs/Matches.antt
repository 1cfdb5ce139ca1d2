-- Sequences of instructions that one instruction of Zcmp, or two instructions, can replace (RISC-V Zc specification
-- 1.0, "Zcmp").
use Rattle.std.specs.Prelude.{ℕ, ◌+◌, ◌-◌, ◌%◌, Bool, true, false, not, ◌&&◌, ◌||◌, ◌==◌, nat_lt, nat_le, if◌then◌else◌, List, [], ◌∷◌, ◌++◌, length, drop, take, Option, Some, None, slice_get}
use Rattle.std.specs.List.{flat_map, fold, list_all, list_any, range_with_len}
use Rattle.std.specs.Option.{option_map, option_map_or, option_or, option_to_list}
use Rattle.rv_decode.specs.declared.instr.Instr.{Instr}
use Rattle.zc_decode.specs.declared.short.Short.{Short}
use Rattle.zc_decode.specs.declared.short.Short.TheVariants.{Push, Pop, PopRet, PopRetz, MoveSa, MoveAs}
use Rattle.zc_decode.specs.Lists.{stack_adjust_base, registers_of}
use Rattle.frame_match.specs.Read.{slot_accessed, is_return, is_zero, lowered, moved, raised}
use Rattle.frame_match.specs.declared.found.Ending.{Ending}
use Rattle.frame_match.specs.declared.found.Ending.TheVariants.{GoesOn, Returns, ZeroFirst, ZeroBeforeRaise, ZeroBeforeReturn}
use Rattle.frame_match.specs.declared.found.Found.{Found}
use Rattle.frame_match.specs.declared.found.Move.{Move}
use Rattle.frame_match.specs.declared.slot.Access.{Access}
use Rattle.frame_match.specs.declared.slot.Access.TheVariants.{Saves, Restores}
use Rattle.frame_match.specs.declared.slot.Slot.{Slot}

-- ---- frames

-- the register lists
abbrev pub lists : List ℕ
lists = range_with_len 4 12

-- whether a register list may have a frame of `frame` bytes
abbrev pub is_frame : ℕ → ℕ → Bool
is_frame list frame = frame % 16 == 0 && (nat_le (stack_adjust_base list) frame && nat_le frame 2032)

-- the slots of registers below an offset: each register's word is just below the word of the register before it
abbrev pub slots_below : ℕ → List ℕ → List Slot
slots_below top [] = []
slots_below top (r ∷ rs) = record { offset = top - 4; register = r } ∷ slots_below (top - 4) rs

-- the part of a frame beyond the greatest stack adjustment of one halfword, which is the list's base plus 48
abbrev pub rest_of : ℕ → ℕ → ℕ
rest_of list frame = frame - (stack_adjust_base list + 48)

-- a push or a pop of `items` items: the halfword for a list and a frame, and the rest of the frame
abbrev pub found_in_frame : ℕ → (ℕ → ℕ → Short) → ℕ → ℕ → Found
found_in_frame items kind list frame = record { items = items; kind = kind list (frame - rest_of list frame); rest = rest_of list frame }

-- ---- accesses

-- whether an instruction saves to a slot, or restores from it
abbrev pub is_access : Access → Slot → Instr → Bool
is_access which d i = option_map_or (λ e. e.offset == d.offset && e.register == d.register) (slot_accessed which (Some i)) false

-- whether instructions use these slots, in any order: there are as many, each uses one of the slots, and each slot is
-- used
abbrev pub are_accesses : Access → List Slot → List Instr → Bool
are_accesses which ds is =
    length is == length ds
    && (list_all (λ i. list_any (λ d. is_access which d i) ds) is && list_all (λ d. list_any (is_access which d) is) ds)

-- whether the instructions from an index on use the slots of a list's registers in a frame
abbrev pub has_accesses : Access → ℕ → ℕ → List Instr → ℕ → Bool
has_accesses which list frame is n =
    are_accesses which (slots_below frame (registers_of list)) (take (length (registers_of list)) (drop n is))

-- ---- pushes

-- `addi sp,sp,-frame`, and the stores of a list in any order
abbrev pub push_of : ℕ → ℕ → Found
push_of list frame = found_in_frame (1 + length (registers_of list)) Push list frame

-- the push of this list and frame, if the instructions begin with it
abbrev pub push_in : List Instr → ℕ → ℕ → List Found
push_in is list frame = if is_frame list frame && has_accesses Saves list frame is 1 then push_of list frame ∷ [] else []

abbrev pub pushes_in : List Instr → List Found
pushes_in is = option_map_or (λ frame. flat_map (λ list. push_in is list frame) lists) (lowered (slice_get is 0)) []

-- ---- pops

abbrev pub endings : List Ending
endings = GoesOn ∷ Returns ∷ ZeroFirst ∷ ZeroBeforeRaise ∷ ZeroBeforeReturn ∷ []

-- the number of instructions before a pop's loads, and the number after them
abbrev pub before : Ending → ℕ
before GoesOn = 0
before Returns = 0
before ZeroFirst = 1
before ZeroBeforeRaise = 0
before ZeroBeforeReturn = 0

abbrev pub ending_items : Ending → ℕ
ending_items GoesOn = 1
ending_items Returns = 2
ending_items ZeroFirst = 2
ending_items ZeroBeforeRaise = 3
ending_items ZeroBeforeReturn = 3

-- whether the instructions before a pop's loads fit its ending
abbrev pub is_begun : Ending → List Instr → Bool
is_begun GoesOn is = true
is_begun Returns is = true
is_begun ZeroFirst is = is_zero (slice_get is 0)
is_begun ZeroBeforeRaise is = true
is_begun ZeroBeforeReturn is = true

-- the frame that the instructions after a pop's loads release, `addi sp,sp,frame`, if they fit the pop's ending
abbrev pub frame_by : Ending → Option Instr → Option Instr → Option Instr → Option ℕ
frame_by GoesOn i j k = raised i
frame_by Returns i j k = if is_return j then raised i else None
frame_by ZeroFirst i j k = if is_return j then raised i else None
frame_by ZeroBeforeRaise i j k = if is_zero i && is_return k then raised j else None
frame_by ZeroBeforeReturn i j k = if is_zero j && is_return k then raised i else None

-- the frame that a pop releases, by the index of the first instruction after its loads
abbrev pub frame_at : Ending → List Instr → ℕ → Option ℕ
frame_at e is n = frame_by e (slice_get is n) (slice_get is (n + 1)) (slice_get is (n + 2))

-- a pop's halfword, by its ending, its list and its stack adjustment
abbrev pub pop_kind : Ending → ℕ → ℕ → Short
pop_kind GoesOn list adjust = Pop list adjust
pop_kind Returns list adjust = PopRet list adjust
pop_kind ZeroFirst list adjust = PopRetz list adjust
pop_kind ZeroBeforeRaise list adjust = PopRetz list adjust
pop_kind ZeroBeforeReturn list adjust = PopRetz list adjust

abbrev pub pop_of : Ending → ℕ → ℕ → Found
pop_of e list frame = found_in_frame (before e + length (registers_of list) + ending_items e) (pop_kind e) list frame

-- the pop of this list, ending and frame, if the instructions begin with it; its loads may be in any order
abbrev pub pop_by : List Instr → ℕ → Ending → ℕ → List Found
pop_by is list e frame =
    if is_begun e is && (is_frame list frame && has_accesses Restores list frame is (before e))
    then pop_of e list frame ∷ [] else []

abbrev pub pop_in : List Instr → ℕ → Ending → List Found
pop_in is list e = option_map_or (pop_by is list e) (frame_at e is (before e + length (registers_of list))) []

abbrev pub pops_in : List Instr → List Found
pops_in is = flat_map (λ list. flat_map (pop_in is list) endings) lists

-- ---- moves

-- whether a register is one of s0 to s7
abbrev pub is_saved : ℕ → Bool
is_saved r = (nat_le 8 r && nat_le r 9) || (nat_le 18 r && nat_le r 23)

-- moves of a0 and a1 to two different s registers
abbrev pub is_to_saved : Move → Move → Bool
is_to_saved a b = a.source == 10 && (b.source == 11 && (is_saved a.rd && (is_saved b.rd && not (a.rd == b.rd))))

-- moves of two s registers, which may be the same, to a0 and a1
abbrev pub is_from_saved : Move → Move → Bool
is_from_saved a b = a.rd == 10 && (b.rd == 11 && (is_saved a.source && is_saved b.source))

-- the halfword for two moves: `a` is the move from or to a0, and `b` the move from or to a1
abbrev pub pair_of : Move → Move → Option Short
pair_of a b =
    if is_to_saved a b then Some (MoveSa a.rd b.rd) else (if is_from_saved a b then Some (MoveAs a.source b.source) else None)

-- the halfword for two moves, in either order
abbrev pub either_pair : Option Move → Option Move → Option Short
either_pair None b = None
either_pair (Some a) None = None
either_pair (Some a) (Some b) = option_or (pair_of a b) (pair_of b a)

abbrev pub moves_in : List Instr → Option Found
moves_in is =
    option_map (λ kind. record { items = 2; kind = kind; rest = 0 }) (either_pair (moved (slice_get is 0)) (moved (slice_get is 1)))

-- ---- all

-- all pushes, pops and pairs of moves that the instructions begin with
abbrev pub all_found : List Instr → List Found
all_found is = pushes_in is ++ (pops_in is ++ option_to_list (moves_in is))

-- the longer of two; the first if they are equally long
abbrev pub longer_of : Option Found → Found → Option Found
longer_of None g = Some g
longer_of (Some f) g = if nat_lt f.items g.items then Some g else Some f

-- the longest push, pop or pair of moves that the instructions begin with
unfoldable pub longest_of : List Instr → Option Found
longest_of is = fold longer_of None (all_found is)
