-- Groups: the items that are written together, as one instruction or two (RISC-V Zc specification 1.0, "Zcmp").
use Rattle.std.specs.Prelude.{ℕ, zero, suc, ◌-◌, Bool, not, ◌&&◌, if◌then◌else◌, List, [], ◌∷◌, map, slice_get, Option, Some, None}
use Rattle.std.specs.List.{flat_map}
use Rattle.std.specs.Option.{option_and_then}
use Rattle.zc_base.specs.declared.place.Place.{Place}
use Rattle.elf32_read.specs.Parts.{SectionParts, is_code_section}
use Rattle.psabi_sym.specs.Fixed.{is_fixed_at}
use Rattle.psabi_sym.specs.Inputs.{ParsedInputs}
use Rattle.psabi_sym.specs.Indexed.{IndexedSection, all_sections}
use Rattle.rv_decode.specs.declared.instr.Instr.{Instr}
use Rattle.block_cut.specs.Items.{code_at, index_on, item_at, place_of, starts_in, starts_on}
use Rattle.block_cut.specs.Leaders.{is_leader_at}
use Rattle.frame_match.specs.Matches.{longest_of}
use Rattle.frame_match.specs.Read.{op_of}
use Rattle.frame_match.specs.declared.found.Found.{Found}
use Rattle.frame_match.specs.declared.group.Group.{Group}
use Rattle.frame_match.specs.declared.role.Role.{Role}
use Rattle.frame_match.specs.declared.role.Role.TheVariants.{Alone, First, Inside}

-- ---- items one after another

-- an item: its instruction if a group may have it, and whether a basic block begins there
pub record Spot : Type 0 where
  pub place : Place
  pub op : Option Instr
  pub leader : Bool

-- an instruction followed by others; empty if there is no instruction
abbrev pub op_then : Option Instr → List Instr → List Instr
op_then None is = []
op_then (Some i) is = i ∷ is

-- the instructions of items, up to the first item that begins a basic block, is no instruction or has a relocation
abbrev pub ops_behind : List Spot → List Instr
ops_behind [] = []
ops_behind (s ∷ ss) = if s.leader then [] else op_then s.op (ops_behind ss)

-- the instructions from an item on; a basic block may begin at the first one, but at no other
abbrev pub ops_from : Spot → List Spot → List Instr
ops_from s ss = op_then s.op (ops_behind ss)

-- ---- the roles of items

-- the group that was found, with the place where it starts
abbrev pub group_at : Place → Found → Group
group_at q f = record { start = q; items = f.items; kind = f.kind; rest = f.rest }

-- the role of an item where a group may start: the first of that group, or written by itself
abbrev pub group_role : Place → Option Found → Role
group_role q None = Alone
group_role q (Some f) = First (group_at q f)

-- the number of items of a group after its first
abbrev pub items_behind : Role → ℕ
items_behind Alone = 0
items_behind (First g) = g.items - 1
items_behind Inside = 0

-- the roles of items, of which the first `left` belong to the group before them: the search goes on after that group,
-- and takes the longest group at each item
abbrev pub roles_from : ℕ → List Spot → List Role
roles_from left [] = []
roles_from (suc left) (s ∷ ss) = Inside ∷ roles_from left ss
roles_from zero (s ∷ ss) =
    group_role s.place (longest_of (ops_from s ss)) ∷ roles_from (items_behind (group_role s.place (longest_of (ops_from s ss)))) ss

-- ---- all code

-- a section, by its object's index and its own, may have groups: the chip has Zcmp, and the section isn't fixed
abbrev pub may_have_groups : ParsedInputs → ℕ → ℕ → Bool
may_have_groups inputs o i = inputs.map.extensions.zcmp && not (is_fixed_at inputs o i)

-- the instruction at a place, if a group may have it: its section may have groups, and it has no relocation
abbrev pub groupable_op : ParsedInputs → Place → Option Instr
groupable_op inputs q =
    if may_have_groups inputs q.object q.section then option_and_then op_of (item_at inputs q) else None

-- the item at an offset of a section
abbrev pub spot_on : ParsedInputs → IndexedSection → ℕ → Spot
spot_on inputs l n =
    record { place = place_of l n; op = groupable_op inputs (place_of l n); leader = is_leader_at inputs (place_of l n) }

-- the roles of a section's items; empty if the section isn't code
unfoldable pub roles_in : ParsedInputs → IndexedSection → List Role
roles_in inputs l = if is_code_section l.section then roles_from 0 (map (spot_on inputs l) (starts_in l.section)) else []

-- the group that starts with an item
abbrev pub starting_group : Role → List Group
starting_group Alone = []
starting_group (First g) = g ∷ []
starting_group Inside = []

-- the groups of a section, in order
abbrev pub groups_in : ParsedInputs → IndexedSection → List Group
groups_in inputs l = flat_map starting_group (roles_in inputs l)

-- the groups of all code, by object, section and offset
abbrev pub groups_of : ParsedInputs → List Group
groups_of inputs = flat_map (groups_in inputs) (all_sections inputs.objects)

-- the role of the item at an offset of a section, if one starts there
abbrev pub role_on : ParsedInputs → Place → SectionParts → Option Role
role_on inputs q s =
    if starts_on s q.offset
    then slice_get (roles_in inputs (record { object = q.object; index = q.section; section = s })) (index_on s q.offset) else None

-- the role of the item at a place, if one starts there
unfoldable pub role_at : ParsedInputs → Place → Option Role
role_at inputs q = option_and_then (role_on inputs q) (code_at inputs.objects q)
